-- How many names each directory has after a rename.
use Rattle.std.proofs.Common.{◌≡◌, ◌≢◌, ℕ, suc, ◌+◌, inl, inr, Bool, true, false, cond, ◌==◌, ◌&&◌, ◌||◌, nat_lt, List, [], ◌∷◌, ◌++◌, length, Option, Some, None, is_some, unwrap_or, refl, sym, ap, ◌∙◌, arith, true≢false, append-nil, T}
use Rattle.std.specs.FinMap.Entries.{find, where_key, is_sorted}
use Rattle.tree_model.specs.PathText.{Route}
use Rattle.tree_model.specs.Table.{table_of}
use Rattle.tree_model.specs.Tree.{Tree, Room, IsTree, root_id, route_cmp, route_cmp_total, is_root, parent, rest_after, id_at, is_directory, is_file, is_above, is_in, is_number, name_count}
use Rattle.tree_model.proofs.TableLaws.{get-table_of}
use Rattle.tree_model.specs.Capacity.{Supply}
use Rattle.tree_model.specs.Walk.{walk, walk_to_parent}
use Rattle.tree_model.specs.Step.{first, at, fault_of, refusal_with, with_moved, without_path, without_unnamed, moved_path, tree_after, is_there, id_of, is_same_node, lacks_pages, gaining, losing}
use Rattle.tree_model.specs.declared.command.Command.TheVariants.{Rename}
use Rattle.tree_model.specs.declared.reply.Refusal.{Refusal}
use Rattle.tree_model.specs.declared.reply.Refusal.TheVariants.{Root, IsDir, NotDir, NotEmpty, IntoItself, NoPages}
use Rattle.tree_model.proofs.EntryLaws.{front, back, find-below, length-where_key-put}
use Rattle.tree_model.proofs.TreeLaws.{is_same, same_route, is_same_itself, is_in-at, not_root-below, above}
use Rattle.tree_model.proofs.Lookups.{rest_after-append, rest_after-some, origin, origin_of, at_origin, AreClearOf, AreClearOf-from_find, moved_entries, find-moved}
use Rattle.tree_model.proofs.TreeKept.{is_some_at, none_some}
use Rattle.tree_model.proofs.TreeLess.{HasNoNames, less_kept}
use Rattle.tree_model.proofs.TreeMoved.{clear, at_to, at_self, parent_of_to, rest_tree, parent-append, no_front_of_parent}
use Rattle.tree_model.proofs.Accepted.{first-none, at-none, fault_of-none}
use Rattle.tree_model.proofs.StepLaws.{neither_first, target_empty, not_inside}
use Rattle.tree_model.proofs.FitsLaws.{there_by_sameness}
use Rattle.tree_model.proofs.WalkLaws.{id_at-from_walk, holder-from_walk}
use Rattle.tree_model.proofs.RoomsKept.{NamesMove, one_if}
use Rattle.tree_model.proofs.NamesMoves.{NamesMove-same, name_count-without_path}

-- ---- counts of entries

length-where_key-cons : (test : Route → Bool) (e : Route × ℕ) (es : List (Route × ℕ)) → length (where_key route_cmp test (e ∷ es)) ≡ one_if (test e.0) + length (where_key route_cmp test es)
length-where_key-cons test e es =
    elim (test e.0) as (λ b. length (cond b (e ∷ where_key route_cmp test es) (where_key route_cmp test es)) ≡ one_if b + length (where_key route_cmp test es)) [
      | true ↦ let more : suc (length (where_key route_cmp test es)) ≡ 1 + length (where_key route_cmp test es) = omega arith in more
      | false ↦ let same : length (where_key route_cmp test es) ≡ 0 + length (where_key route_cmp test es) = omega arith in same
    ]

module _ (from to : Route) where
  origin-moved : (p : Route) (o : Option Route) → rest_after from p ≡ o → rest_after to p ≡ None → origin_of from to (moved_path to o p) ≡ Some p
  origin-moved p (Some rest) is outside =
      ap (λ b. origin from b (is_some (rest_after from (to ++ rest))) (to ++ rest)) (rest_after-append to rest) ∙ ap Some (sym (rest_after-some from p rest is))
  origin-moved p None is outside =
      ap (λ b. origin from b (is_some (rest_after from p)) p) outside ∙ ap (λ c. origin from None (is_some c) p) is

  -- no two paths move to one
  count-moved : (test : Route → Bool) (es : List (Route × ℕ)) → T (is_sorted route_cmp es) → AreClearOf to es
      → length (where_key route_cmp test (table_of route_cmp_total (moved_entries from to es)).entries) ≡ length (where_key route_cmp test (moved_entries from to es))
  count-moved test [] h outside = refl
  count-moved test (e ∷ es) h outside =
      let key = moved_path to (rest_after from e.0) e.0 in
      let moved = moved_entries from to es in
      let made = table_of route_cmp_total moved in
      let absent : find route_cmp key made.entries ≡ None =
      get-table_of route_cmp_total moved key ∙ find-moved from to key es outside.1
      ∙ ap (λ o. at_origin o es) (origin-moved e.0 (rest_after from e.0) refl outside.0) ∙ find-below route_cmp e.0 es (front _ _ h) in
      let more = length-where_key-put route_cmp route_cmp_total test key e.1 made.entries made.sorted absent in
      let listed = length-where_key-cons test (key, e.1) moved in
      let rest = count-moved test es (back _ _ h) outside.1 in
      omega (arith, more, listed, rest)

found_behind : (b : Bool) (v : ℕ) (o : Option ℕ) → is_some o ≡ true → is_some (cond b (Some v) o) ≡ true
found_behind true v o h = refl
found_behind false v o h = h

neither : (b : Bool) (v : ℕ) (o : Option ℕ) → cond b (Some v) o ≡ None → (b ≡ false) × (o ≡ None)
neither true v o e = none_some v (sym e)
neither false v o e = (refl, e)

-- ---- names in directories after the move

module _ (tree : Tree) (t : IsTree tree) (from to : Route) (holder : ℕ) (from_below : is_root from ≡ false) (to_below : is_root to ≡ false)
    (held : id_at tree (parent to) ≡ Some holder) (holds : is_directory tree holder ≡ true) (empty : HasNoNames tree to) (outside : rest_after from to ≡ None) where
  abbrev rest : Tree
  rest = without_path tree to

  abbrev after : Tree
  after = with_moved (without_path tree to) from to

  -- a name that moves with its directory, or stays, is in the same directory
  in_same : (d : ℕ) (q : Route) → is_some (id_at rest q) ≡ true → (q ≢ from) → (o : Option Route) → rest_after from q ≡ o → is_in after d (moved_path to o q) ≡ is_in rest d q
  in_same d q there other (Some []) is = absurd (other (rest_after-some from q [] is ∙ append-nil from))
  in_same d q there other (Some (name ∷ names)) is =
      let q_is = rest_after-some from q (name ∷ names) is in
      let below = ap is_root q_is ∙ not_root-below from name names in
      let parents = (rest_tree tree t from to holder from_below to_below held holds empty outside).parents q there in
      elim parents [
        | inl root ↦ absurd (true≢false (sym root ∙ below))
        | inr d' ↦
            let old = ap (id_at rest) (sym (ap parent q_is ∙ parent-append from name names)) ∙ d'.1 in
            let new = ap (id_at after) (parent-append to name names) ∙ at_to tree t from to holder from_below to_below held holds empty outside (parent (name ∷ names)) d'.0 old in
            is_in-at after d (to ++ name ∷ names) (not_root-below to name names) ∙ ap (λ o. is_number o d) (new ∙ sym d'.1) ∙ sym (is_in-at rest d q below)
      ]
  in_same d [] there other None is = refl
  in_same d (name ∷ names) there other None is =
      let q : Route = name ∷ names in
      let parents = (rest_tree tree t from to holder from_below to_below held holds empty outside).parents q there in
      elim parents [
        | inl root ↦ let clash : false ≡ true = root in absurd (true≢false (sym clash))
        | inr d' ↦
            let not_to = no_front_of_parent to q refl (clear tree t from to holder from_below to_below held holds empty outside q there) in
            let not_from = no_front_of_parent from q refl is in
            let new = at_self tree t from to holder from_below to_below held holds empty outside (parent q) d'.0 not_to not_from d'.1 in
            ap (λ o. is_number o d) (new ∙ sym d'.1)
      ]

  abbrev pub AreThere : List (Route × ℕ) → Type 0
  AreThere es = (q : Route) → is_some (find route_cmp q es) ≡ true → is_some (id_at rest q) ≡ true

  tail_there : (e : Route × ℕ) (es : List (Route × ℕ)) → AreThere (e ∷ es) → AreThere es
  tail_there e es there q h = there q (found_behind (is_same q e.0) e.1 (find route_cmp q es) h)

  head_there : (e : Route × ℕ) (es : List (Route × ℕ)) → AreThere (e ∷ es) → is_some (id_at rest e.0) ≡ true
  head_there e es there = there e.0 (ap (λ b. is_some (cond b (Some e.1) (find route_cmp e.0 es))) (is_same_itself e.0 e.0 refl))

  same_count : (d : ℕ) (es : List (Route × ℕ)) → AreThere es → find route_cmp from es ≡ None
      → length (where_key route_cmp (is_in after d) (moved_entries from to es)) ≡ length (where_key route_cmp (is_in rest d) es)
  same_count d [] there none = refl
  same_count d (e ∷ es) there none =
      let others = neither (is_same from e.0) e.1 (find route_cmp from es) none in
      let other : e.0 ≢ from = λ same. true≢false (sym (is_same_itself from e.0 (sym same)) ∙ others.0) in
      let here = ap one_if (in_same d e.0 (head_there e es there) other (rest_after from e.0) refl) in
      let more = same_count d es (tail_there e es there) others.1 in
      let new = length-where_key-cons (is_in after d) (moved_path to (rest_after from e.0) e.0, e.1) (moved_entries from to es) in
      let old = length-where_key-cons (is_in rest d) e es in
      omega (arith, here, more, new, old)

  moved_itself : moved_path to (rest_after from from) from ≡ to
  moved_itself = ap (λ o. moved_path to o from) (ap (rest_after from) (sym (append-nil from)) ∙ rest_after-append from []) ∙ append-nil to

  moved_count : (d a : ℕ) (es : List (Route × ℕ)) → T (is_sorted route_cmp es) → AreThere es → find route_cmp from es ≡ Some a
      → length (where_key route_cmp (is_in after d) (moved_entries from to es)) + one_if (is_in rest d from)
      ≡ length (where_key route_cmp (is_in rest d) es) + one_if (is_in after d to)
  moved_count d a [] h there found = none_some a found
  moved_count d a (e ∷ es) h there found =
      let new = length-where_key-cons (is_in after d) (moved_path to (rest_after from e.0) e.0, e.1) (moved_entries from to es) in
      let old = length-where_key-cons (is_in rest d) e es in
      elim (is_same from e.0) as (λ b. is_same from e.0 ≡ b → cond b (Some e.1) (find route_cmp from es) ≡ Some a
      → length (where_key route_cmp (is_in after d) (moved_entries from to (e ∷ es))) + one_if (is_in rest d from)
      ≡ length (where_key route_cmp (is_in rest d) (e ∷ es)) + one_if (is_in after d to)) [
        | true ↦ λ is found.
            let same = same_route from e.0 is in
            let none = ap (λ q. find route_cmp q es) same ∙ find-below route_cmp e.0 es (front _ _ h) in
            let more = same_count d es (tail_there e es there) none in
            let came = ap (λ q. one_if (is_in after d (moved_path to (rest_after from q) q))) (sym same) ∙ ap (λ q. one_if (is_in after d q)) moved_itself in
            let left = ap (λ q. one_if (is_in rest d q)) same in
            omega (arith, new, old, more, came, left)
        | false ↦ λ is found.
            let other : e.0 ≢ from = λ same. true≢false (sym (is_same_itself from e.0 (sym same)) ∙ is) in
            let here = ap one_if (in_same d e.0 (head_there e es there) other (rest_after from e.0) refl) in
            let more = moved_count d a es (back _ _ h) (tail_there e es there) found in
            omega (arith, new, old, here, more)
      ] refl found

  pub name_count-with_moved : (d a : ℕ) → id_at rest from ≡ Some a
      → name_count after d + one_if (is_in rest d from) ≡ name_count rest d + one_if (is_number (Some holder) d)
  name_count-with_moved d a found =
      let apart = AreClearOf-from_find to rest.names.entries (clear tree t from to holder from_below to_below held holds empty outside) in
      let counted = count-moved from to (is_in after d) rest.names.entries rest.names.sorted apart in
      let moved = moved_count d a rest.names.entries rest.names.sorted (λ q h. h) found in
      let new = ap one_if (is_in-at after d to to_below ∙ ap (λ o. is_number o d) (parent_of_to tree t from to holder from_below to_below held holds empty outside)) in
      omega (arith, counted, moved, new)

-- ---- the rename

not_front_of_itself : (from to : Route) → rest_after from to ≡ None → from ≢ to
not_front_of_itself from to outside same =
    none_some [] (sym outside ∙ ap (rest_after from) (sym same ∙ sym (append-nil from)) ∙ rest_after-append from [])

nothing_lost : (b : Bool) → one_if (is_some (cond {A = Option ℕ} b None None)) ≡ 0
nothing_lost true = refl
nothing_lost false = refl

one_lost : (b : Bool) (j : ℕ) → one_if (is_some (cond b (Some j) None)) ≡ one_if b
one_lost true j = refl
one_lost false j = refl

module _ (tree : Tree) (t : IsTree tree) (from to : Route) (a holder : ℕ) (from_below : is_root from ≡ false) (to_below : is_root to ≡ false) (named : id_at tree from ≡ Some a)
    (held : id_at tree (parent to) ≡ Some holder) (holds : is_directory tree holder ≡ true) (empty : HasNoNames tree to) (outside : rest_after from to ≡ None)
    (differ : is_same_node tree from to ≡ false) where
  moved_names : (d : ℕ) → name_count (with_moved (without_path tree to) from to) d + one_if (id_of tree (parent from) == d) ≡ name_count (without_path tree to) d + one_if (holder == d)
  moved_names d =
      let found = less_kept tree t to to_below empty from (not_front_of_itself from to outside) ∙ named in
      let moved = name_count-with_moved tree t from to holder from_below to_below held holds empty outside d a found in
      let old_holder = above tree t from a named from_below in
      let kept = less_kept tree t to to_below empty (parent from) (empty from (is_some_at (id_at tree from) a named) from_below) ∙ old_holder.1 in
      let left = ap one_if (is_in-at (without_path tree to) d from from_below ∙ ap (λ o. is_number o d) kept) in
      let lost = ap (λ o. one_if (unwrap_or o root_id == d)) old_holder.1 in
      omega (arith, moved, left, lost)

  replaced_names : (d : ℕ) (o : Option ℕ) → id_at tree to ≡ o
      → name_count (without_path tree to) d + one_if (holder == d) ≡ name_count tree d + one_if (is_number (cond (is_some o) None (Some (id_of tree (parent to)))) d)
  replaced_names d None is =
      let less = name_count-without_path tree t to to_below empty d in
      let lost = ap (λ o. one_if (is_some (cond (is_in tree d to) o None))) is ∙ nothing_lost (is_in tree d to) in
      let gained = ap (λ o. one_if (unwrap_or o root_id == d)) held in
      omega (arith, less, lost, gained)
  replaced_names d (Some j) is =
      let less = name_count-without_path tree t to to_below empty d in
      let inside = ap one_if (is_in-at tree d to to_below ∙ ap (λ o. is_number o d) held) in
      let lost = ap (λ o. one_if (is_some (cond (is_in tree d to) o None))) is ∙ one_lost (is_in tree d to) j ∙ inside in
      omega (arith, less, lost)

  pub renamed_names : (d : ℕ) → name_count (with_moved (without_path tree to) from to) d + one_if (is_number (losing tree (Rename from to)) d)
      ≡ name_count tree d + one_if (is_number (gaining tree (Rename from to)) d)
  renamed_names d =
      let moved = moved_names d in
      let replaced = replaced_names d (id_at tree to) refl in
      let loses = ap (λ b. one_if (is_number (cond b None (Some (id_of tree (parent from)))) d)) differ in
      omega (arith, moved, replaced, loses)

-- the row of a rename behind its first three tests, where the two paths name two nodes
moves_by_row : (tree : Tree) (t : IsTree tree) (from to : Route) (a holder id : ℕ) (pages : Option Refusal) (b : Bool) → is_same_node tree from to ≡ b → id_at tree from ≡ Some a
    → id_at tree (parent to) ≡ Some holder → is_directory tree holder ≡ true → is_root from ≡ false → is_root to ≡ false
    → first (cond b [] (
    at NotDir (is_directory tree (id_of tree from) && is_there tree to && is_file tree (id_of tree to))
    ∷ at IsDir (is_file tree (id_of tree from) && is_there tree to && is_directory tree (id_of tree to))
    ∷ at NotEmpty (is_directory tree (id_of tree from) && is_there tree to && is_directory tree (id_of tree to) && nat_lt 0 (name_count tree (id_of tree to)))
    ∷ at IntoItself (is_directory tree (id_of tree from) && is_above from to) ∷ pages ∷ [])) ≡ None
    → NamesMove tree (Rename from to) (cond b tree (without_unnamed (with_moved (without_path tree to) from to)))
moves_by_row tree t from to a holder id pages true same named held holds from_below to_below e =
    NamesMove-same tree tree (Rename from to) (ap (λ b. cond b None (Some (id_of tree (parent to)))) (there_by_sameness (is_number (id_at tree from) (id_of tree to)) (is_there tree to) same))
    (ap (λ b. cond b None (Some (id_of tree (parent from)))) same) refl
moves_by_row tree t from to a holder id pages false differ named held holds from_below to_below e =
    let one = first-none (at NotDir (is_directory tree (id_of tree from) && is_there tree to && is_file tree (id_of tree to))) _ e in
    let two = first-none (at IsDir (is_file tree (id_of tree from) && is_there tree to && is_directory tree (id_of tree to))) _ one.1 in
    let three = first-none (at NotEmpty (is_directory tree (id_of tree from) && is_there tree to && is_directory tree (id_of tree to) && nat_lt 0 (name_count tree (id_of tree to)))) _ two.1 in
    let four = first-none (at IntoItself (is_directory tree (id_of tree from) && is_above from to)) _ three.1 in
    let empty = target_empty tree t from to a holder named held holds differ (at-none IsDir _ two.0) (at-none NotEmpty _ three.0) (at-none IntoItself _ four.0) (id_at tree to) refl in
    let outside = not_inside tree t from to a holder named held holds differ (at-none IsDir _ two.0) (at-none NotEmpty _ three.0) (at-none IntoItself _ four.0) (rest_after from to) refl in
    record { names = λ d dir. renamed_names tree t from to a holder from_below to_below named held holds empty outside differ d }

pub NamesMove-rename : (supply : Supply) (T : Tree) (room : Room) (id : ℕ) (from to : Route) → IsTree T → refusal_with supply T room (Rename from to) ≡ None → NamesMove T (Rename from to) (tree_after id T (Rename from to))
NamesMove-rename supply T room id from to t e =
    let walked = first-none (fault_of (walk T from)) _ e in
    let up = first-none (fault_of (walk_to_parent T to)) _ walked.1 in
    let below = first-none (at Root (is_root from || is_root to)) _ up.1 in
    let apart = neither_first (is_root from) (is_root to) (at-none Root (is_root from || is_root to) below.0) in
    let found = fault_of-none (walk T from) walked.0 in
    let holder = fault_of-none (walk_to_parent T to) up.0 in
    let holds = holder-from_walk T to holder.0 t holder.1 in
    moves_by_row T t from to found.0.id holder.0.id id (at NoPages (lacks_pages supply T room (Rename from to))) (is_same_node T from to) refl
    (id_at-from_walk T from found.0 t found.1) holds.0 holds.1 apart.0 apart.1 below.1
