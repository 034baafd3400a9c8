-- The entries of a path and of the paths below it: the path's own comes first, then what is below each of its names, in their order.
use Rattle.std.proofs.Common.{◌≡◌, ◌⊎◌, inl, inr, ℕ, Bool, true, false, T, List, [], ◌∷◌, ◌++◌, filter, Option, Some, None, is_some, refl, sym, ap, subst, ◌∙◌, append-nil, append_assoc, Ordering, Less, is_lt, eq-eqb}
use Rattle.std.specs.Prelude.{flat_map}
use Rattle.std.specs.Ordering.{ordering_then}
use Rattle.std.specs.Cmp.{tied_itself}
use Rattle.std.specs.Cmp.Lexicographic.{nat_list_cmp_total}
use Rattle.std.specs.FinMap.Entries.{find, below_all, is_sorted, is_sorted-where_key, same_entries}
use Rattle.tree_model.specs.PathText.{Route}
use Rattle.tree_model.specs.Tree.{Tree, IsTree, route_cmp, route_cmp_total, parent, last_name, rest_after, id_at, is_directory, is_in, is_number, entries_in}
use Rattle.tree_model.specs.Step.{names_in}
use Rattle.tree_model.proofs.EntryLaws.{both, front, back}
use Rattle.tree_model.proofs.Lookups.{rest_after-append, rest_after-some}
use Rattle.tree_model.proofs.TableLaws.{route_cmp-IsAntisymmetric}
use Rattle.tree_model.proofs.TreeLaws.{above, parent-below, not_root-below, is_in-at, there-front}
use Rattle.image_counts.proofs.Counting.{Among}
use Rattle.image_counts.proofs.Entries.{find_among, among_find}
use Rattle.image_counts.proofs.Slots.{all_names, some_names}
use Rattle.layout.specs.Name.{name_cmp}
use Rattle.volume.proofs.Listed.{Ascends, among_map, last_of, below_each, tree_ascends, is_this, last-below, below_root}
use Rattle.volume.proofs.Ways.{whole_path}
use Rattle.engine.specs.Places.{entries_from}

abbrev Entry : Type 0
Entry = Route × ℕ

-- ---- elements of lists

among_either : {E : Type 0} (e : E) (xs ys : List E) → Among e (xs ++ ys) → Among e xs ⊎ Among e ys
among_either e [] ys h = inr h
among_either e (x ∷ xs) ys h = elim h [
  | inl is ↦ inl (inl is)
  | inr later ↦ elim (among_either e xs ys later) [ inl a ↦ inl (inr a) | inr b ↦ inr b ]
]

among_front : {E : Type 0} (e : E) (xs ys : List E) → Among e xs → Among e (xs ++ ys)
among_front e [] ys h = absurd h
among_front e (x ∷ xs) ys h = elim h [ inl is ↦ inl is | inr later ↦ inr (among_front e xs ys later) ]

among_back : {E : Type 0} (e : E) (xs ys : List E) → Among e ys → Among e (xs ++ ys)
among_back e [] ys h = h
among_back e (x ∷ xs) ys h = inr (among_back e xs ys h)

among_flat : {A E : Type 0} (f : A → List E) (xs : List A) (e : E) → Among e (flat_map f xs) → (x : A) × Among x xs × Among e (f x)
among_flat f [] e h = absurd h
among_flat f (x ∷ xs) e h = elim (among_either e (f x) (flat_map f xs) h) [
  | inl here ↦ (x, inl refl, here)
  | inr later ↦ let (y, there, in_it) = among_flat f xs e later in (y, inr there, in_it)
]

flat_among : {A E : Type 0} (f : A → List E) (xs : List A) (x : A) (e : E) → Among x xs → Among e (f x) → Among e (flat_map f xs)
flat_among f [] x e among h = absurd among
flat_among f (y ∷ xs) x e among h = elim among [
  | inl is ↦ among_front e (f y) (flat_map f xs) (subst (λ z. Among e (f z)) is h)
  | inr later ↦ among_back e (f y) (flat_map f xs) (flat_among f xs x e later h)
]

-- ---- the order of paths

below_path : (path : Route) (name : List ℕ) (rest : Route) → route_cmp path (path ++ name ∷ rest) ≡ Less
below_path [] name rest = refl
below_path (first ∷ path) name rest =
    ap (λ r. ordering_then r (route_cmp path (path ++ name ∷ rest))) (tied_itself nat_list_cmp_total first) ∙ below_path path name rest

below_names : (path : Route) (a b : List ℕ) (r s : Route) → name_cmp a b ≡ Less → route_cmp (path ++ a ∷ r) (path ++ b ∷ s) ≡ Less
below_names [] a b r s less = ap (λ o. ordering_then o (route_cmp r s)) less
below_names (first ∷ path) a b r s less =
    ap (λ o. ordering_then o (route_cmp (path ++ a ∷ r) (path ++ b ∷ s))) (tied_itself nat_list_cmp_total first) ∙ below_names path a b r s less

-- ---- lists of entries in order

less_is : (r : Ordering) → r ≡ Less → T (is_lt r)
less_is r e = subst (λ (x : Ordering). T (is_lt x)) (sym e) tt

each_below : (path : Route) (es : List Entry) → ((e : Entry) → Among e es → route_cmp path e.0 ≡ Less) → T (below_all route_cmp path es)
each_below path [] less = tt
each_below path (e ∷ es) less = both _ _ (less_is (route_cmp path e.0) (less e (inl refl))) (each_below path es (λ f among. less f (inr among)))

sorted_both : (xs ys : List Entry) → T (is_sorted route_cmp xs) → T (is_sorted route_cmp ys)
    → ((x y : Entry) → Among x xs → Among y ys → route_cmp x.0 y.0 ≡ Less) → T (is_sorted route_cmp (xs ++ ys))
sorted_both [] ys sx sy less = sy
sorted_both (x ∷ xs) ys sx sy less =
    both _ _
    (each_below x.0 (xs ++ ys) (λ e among. elim (among_either e xs ys among) [ inl a ↦ below_each x.0 xs e (front _ _ sx) a | inr b ↦ less x e (inl refl) b ]))
    (sorted_both xs ys (back _ _ sx) sy (λ a b ha hb. less a b (inr ha) hb))

-- lists in order that have the same entries are equal
same_sorted : (xs ys : List Entry) → T (is_sorted route_cmp xs) → T (is_sorted route_cmp ys)
    → ((e : Entry) → Among e xs → Among e ys) → ((e : Entry) → Among e ys → Among e xs) → xs ≡ ys
same_sorted xs ys sx sy to back_to =
    same_entries route_cmp route_cmp_total route_cmp-IsAntisymmetric xs ys sx sy (λ q. alike q (find route_cmp q xs) (find route_cmp q ys) refl refl)
  where
    alike : (q : Route) (a b : Option ℕ) → find route_cmp q xs ≡ a → find route_cmp q ys ≡ b → find route_cmp q xs ≡ find route_cmp q ys
    alike q (Some i) b is other =
        is ∙ sym (find_among route_cmp route_cmp_total ys (q, i) sy (to (q, i) (among_find route_cmp route_cmp_total route_cmp-IsAntisymmetric xs q i is)))
    alike q None (Some j) is other =
        find_among route_cmp route_cmp_total xs (q, j) sx (back_to (q, j) (among_find route_cmp route_cmp_total route_cmp-IsAntisymmetric ys q j other)) ∙ sym other
    alike q None None is other = is ∙ sym other

-- ---- what is found

found : (o : Option ℕ) → is_some o ≡ true → (id : ℕ) × (o ≡ Some id)
found None e = cc
found (Some id) e = (id, refl)

a_rest : (o : Option Route) → is_some o ≡ true → (rest : Route) × (o ≡ Some rest)
a_rest None e = cc
a_rest (Some rest) e = (rest, refl)

same_number : (i j : ℕ) → Some i ≡ Some j → i ≡ j
same_number i j e = cc

every_entry : (es : List Entry) → filter (λ e. true) es ≡ es
every_entry [] = refl
every_entry (e ∷ es) = ap (λ rest. e ∷ rest) (every_entry es)

-- ---- in a tree

module _ (tree : Tree) (is_tree : IsTree tree) where
  -- the whole tree is what is at the root and below it
  pub entries_of_root : entries_from tree [] ≡ tree.names.entries
  entries_of_root = every_entry tree.names.entries

  of_path : (path : Route) (e : Entry) → Among e (entries_from tree path) → (id_at tree e.0 ≡ Some e.1) × ((rest : Route) × (e.0 ≡ path ++ rest))
  of_path path e among =
      let (is, passes) = (some_names tree (λ e. Unit {0}) tree.names.entries (λ e. is_some (rest_after path e.0)) (all_names tree)).are e among in
      let (rest, after) = a_rest (rest_after path e.0) passes.1 in
      (is, (rest, rest_after-some path e.0 rest after))

  at_path : (path rest : Route) (i : ℕ) → id_at tree (path ++ rest) ≡ Some i → Among (path ++ rest, i) (entries_from tree path)
  at_path path rest i is =
      (some_names tree (λ e. Unit {0}) tree.names.entries (λ e. is_some (rest_after path e.0)) (all_names tree)).all (path ++ rest) i is (tt, ap is_some (rest_after-append path rest))

  -- the same of an entry whose path is known to be so
  has_path : (path rest : Route) (e : Entry) → e.0 ≡ path ++ rest → id_at tree e.0 ≡ Some e.1 → Among e (entries_from tree path)
  has_path path rest e is named = subst (λ (p : Route). Among (p, e.1) (entries_from tree path)) (sym is) (at_path path rest e.1 (ap (id_at tree) (sym is) ∙ named))

  sorted_from : (path : Route) → T (is_sorted route_cmp (entries_from tree path))
  sorted_from path = is_sorted-where_key route_cmp (λ p. is_some (rest_after path p)) tree.names.entries tree.names.sorted

  abbrev below_all_names : Route → List (List ℕ) → List Entry
  below_all_names path names = flat_map (λ name. entries_from tree (path ++ name ∷ [])) names

  -- an entry below one of the names
  of_names : (path : Route) (names : List (List ℕ)) (e : Entry) → Among e (below_all_names path names)
      → (name : List ℕ) × Among name names × ((rest : Route) × (e.0 ≡ path ++ name ∷ rest)) × (id_at tree e.0 ≡ Some e.1)
  of_names path names e among =
      let (name, there, below) = among_flat (λ name. entries_from tree (path ++ name ∷ [])) names e among in
      let (is, (rest, same)) = of_path (path ++ name ∷ []) e below in
      (name, there, (rest, same ∙ append_assoc path (name ∷ []) rest), is)

  sorted_names : (path : Route) (names : List (List ℕ)) → Ascends names → T (is_sorted route_cmp (below_all_names path names))
  sorted_names path [] ascends = tt
  sorted_names path (name ∷ names) ascends =
      sorted_both (entries_from tree (path ++ name ∷ [])) (below_all_names path names) (sorted_from (path ++ name ∷ [])) (sorted_names path names ascends.1)
      (λ x y ahead behind.
      let (is, (rest, x_is)) = of_path (path ++ name ∷ []) x ahead in
      let (other, later, (more, y_is), named) = of_names path names y behind in
      (λ i. route_cmp ((x_is ∙ append_assoc path (name ∷ []) rest) i) (y_is i)) ∙ below_names path name other rest more (ascends.0 other later))

  module _ (path : Route) (id : ℕ) (named : id_at tree path ≡ Some id) where
    -- what is at or below a path is the path, or below one of its names
    split_rest : (e : Entry) (rest : Route) (others : List Entry) → e.0 ≡ path ++ rest → id_at tree e.0 ≡ Some e.1
        → ((name : List ℕ) (more : Route) → e.0 ≡ path ++ name ∷ more → Among e others) → Among e ((path, id) ∷ others)
    split_rest e [] others is there below =
        let same : e.0 ≡ path = is ∙ append-nil path in
        let number : e.1 ≡ id = same_number e.1 id (sym there ∙ ap (id_at tree) same ∙ named) in
        inl (λ i. (same i, number i))
    split_rest e (name ∷ more) others is there below = inr (below name more is)

    own_entry : (e : Entry) → e ≡ (path, id) → Among e (entries_from tree path)
    own_entry e is =
        let same = ap (λ (f : Entry). f.0) is in
        let number = ap (λ (f : Entry). f.1) is in
        has_path path [] e (same ∙ sym (append-nil path)) (ap (id_at tree) same ∙ named ∙ ap Some (sym number))

    -- the parent of a name below the path is the path's node
    directory_above : (name : List ℕ) (more : Route) (i : ℕ) → id_at tree (path ++ name ∷ more) ≡ Some i → is_directory tree id ≡ true
    directory_above name more i is =
        let child = found (id_at tree (path ++ name ∷ [])) (there-front tree is_tree more (path ++ name ∷ []) (ap (λ p. is_some (id_at tree p)) (append_assoc path (name ∷ []) more) ∙ ap is_some is)) in
        let (d, holds, directory) = above tree is_tree (path ++ name ∷ []) child.0 child.1 (not_root-below path name []) in
        let same = same_number d id (sym holds ∙ ap (id_at tree) (parent-below path name) ∙ named) in
        subst (λ (n : ℕ). is_directory tree n ≡ true) same directory

    -- of a file nothing is below
    pub entries_of_file : is_directory tree id ≡ false → entries_from tree path ≡ (path, id) ∷ []
    entries_of_file file =
        same_sorted (entries_from tree path) ((path, id) ∷ []) (sorted_from path) tt
        (λ e among.
        let (is, (rest, same)) = of_path path e among in
        split_rest e rest [] same is (λ name more below. absurd (neither (is_directory tree id) (directory_above name more e.1 (ap (id_at tree) (sym below) ∙ is)) file)))
        (λ e among. elim among [ inl is ↦ own_entry e is | inr none ↦ absurd none ])
      where
        neither : (b : Bool) → b ≡ true → b ≡ false → ⊥
        neither b is not = cc

    module _ (directory : is_directory tree id ≡ true) where
      -- each entry in the directory stands below its path
      inside : (e : Entry) → Among e (entries_in tree id) → e.0 ≡ path ++ last_name e.0 ∷ []
      inside e among =
          let is = (some_names tree (λ e. Unit {0}) tree.names.entries (λ e. is_in tree id e.0) (all_names tree)).are e among in
          let below = below_root tree id e.0 is.1.1 in
          let holder = is_this (id_at tree (parent e.0)) id (sym (is_in-at tree id e.0 below) ∙ is.1.1) in
          let same = is_tree.one_path id directory (parent e.0) path holder named in
          whole_path e.0 below ∙ ap (λ (q : Route). q ++ last_name e.0 ∷ []) same

      names_ascend : Ascends (names_in tree id)
      names_ascend = tree_ascends path (entries_in tree id) (is_sorted-where_key route_cmp (is_in tree id) tree.names.entries tree.names.sorted) inside

      -- the first name below the path is one of the directory's
      name_there : (name : List ℕ) (more : Route) (i : ℕ) → id_at tree (path ++ name ∷ more) ≡ Some i → Among name (names_in tree id)
      name_there name more i is =
          let child = found (id_at tree (path ++ name ∷ [])) (there-front tree is_tree more (path ++ name ∷ []) (ap (λ p. is_some (id_at tree p)) (append_assoc path (name ∷ []) more) ∙ ap is_some is)) in
          let in_it = is_in-at tree id (path ++ name ∷ []) (not_root-below path name []) ∙ ap (λ (q : Route). is_number (id_at tree q) id) (parent-below path name) ∙ ap (λ o. is_number o id) named ∙ eq-eqb id id refl in
          let listed = (some_names tree (λ e. Unit {0}) tree.names.entries (λ e. is_in tree id e.0) (all_names tree)).all (path ++ name ∷ []) child.0 child.1 (tt, in_it) in
          subst (λ (n : List ℕ). Among n (names_in tree id)) (last-below path name) (among_map last_of (entries_in tree id) (path ++ name ∷ [], child.0) listed)

      pub entries_of_directory : entries_from tree path ≡ (path, id) ∷ below_all_names path (names_in tree id)
      entries_of_directory =
          let names = names_in tree id in
          same_sorted (entries_from tree path) ((path, id) ∷ below_all_names path names) (sorted_from path)
          (both _ _
          (each_below path (below_all_names path names) (λ e among. let (name, there, (rest, is), at) = of_names path names e among in ap (route_cmp path) is ∙ below_path path name rest))
          (sorted_names path names names_ascend))
          (λ e among.
          let (is, (rest, same)) = of_path path e among in
          split_rest e rest (below_all_names path names) same is
          (λ name more below.
          flat_among (λ name. entries_from tree (path ++ name ∷ [])) names name e (name_there name more e.1 (ap (id_at tree) (sym below) ∙ is))
          (has_path (path ++ name ∷ []) more e (below ∙ sym (append_assoc path (name ∷ []) more)) is)))
          (λ e among. elim among [
            | inl is ↦ own_entry e is
            | inr below ↦ let (name, there, (rest, is), at) = of_names path names e below in has_path path (name ∷ rest) e is at
          ])
