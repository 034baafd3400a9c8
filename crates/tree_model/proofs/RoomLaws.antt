-- What a room says of each directory, and what is found in the room after a command.
use Rattle.std.proofs.Common.{◌≡◌, ℕ, ◌+◌, ◌-◌, ◌*◌, ◌≤◌, Bool, true, false, not, cond, ◌&&◌, ◌||◌, nat_le, T, List, [], ◌∷◌, map, Option, Some, None, is_some, unwrap_or, add-zero, refl, sym, ap, ◌∙◌, arith, nat_cmp}
use Rattle.std.specs.Ordering.{eq_by_cmp}
use Rattle.std.specs.Cmp.{nat_cmp_total}
use Rattle.std.specs.List.{list_all, filter_map}
use Rattle.std.specs.FinMap.Entries.{find, is_sorted}
use Rattle.std.proofs.lemmas.Bool.Decides.{nat_tests}
use Rattle.tree_model.specs.Table.{get, contains_key}
use Rattle.tree_model.specs.Tree.{Tree, Node, Directory, File, Room, IsRoom, node_at, is_directory, is_directory_node, is_number, name_count, pages_in, may_have}
use Rattle.tree_model.proofs.TableLaws.{get-table_of}
use Rattle.tree_model.specs.Step.{tree_after, directories, directory_of, gaining, losing, page_for_name, pages_after, room_after}
use Rattle.tree_model.specs.declared.command.Command.{Command}
use Rattle.tree_model.proofs.EntryLaws.{front, back, find-below, find-first}
use Rattle.tree_model.proofs.NodeLaws.{directory_is}
use Rattle.tree_model.proofs.TreeLaws.{same_id, not_true, same_room}

-- ---- a test of all entries, and what is found among them

left_true : (a b : Bool) → a && b ≡ true → a ≡ true
left_true true b e = refl
left_true false b e = cc

right_true : (a b : Bool) → a && b ≡ true → b ≡ true
right_true true b e = e
right_true false b e = cc

both_true : (a b : Bool) → a ≡ true → b ≡ true → a && b ≡ true
both_true true b p q = q
both_true false b p q = cc

found_passes : {X : Type 0} (test : ℕ × X → Bool) (k : ℕ) (v : X) (es : List (ℕ × X)) → list_all test es ≡ true → find nat_cmp k es ≡ Some v → test (k, v) ≡ true
found_passes test k v [] all e = cc
found_passes {X} test k v (entry ∷ es) all e =
    elim (eq_by_cmp nat_cmp k entry.0) as (λ t. eq_by_cmp nat_cmp k entry.0 ≡ t → cond t (Some entry.1) (find nat_cmp k es) ≡ Some v → test (k, v) ≡ true) [
      | true ↦ λ is e.
          let key = same_id k entry.0 is in
          let value : entry.1 ≡ v = cc in
          let whole : ◌≡◌ {A = ℕ × X} (k, v) entry = λ i. (key i, sym value i) in
          ap test whole ∙ left_true (test entry) (list_all test es) all
      | false ↦ λ is e. found_passes test k v es (right_true (test entry) (list_all test es) all) e
    ] refl e

none_some : {X : Type 0} (v : X) → ◌≡◌ {A = Option X} None (Some v) → ⊥
none_some v e = cc

all_pass : {X : Type 0} (test : ℕ × X → Bool) (es : List (ℕ × X)) → T (is_sorted nat_cmp es)
    → ((k : ℕ) (v : X) → find nat_cmp k es ≡ Some v → test (k, v) ≡ true) → list_all test es ≡ true
all_pass test [] h passes = refl
all_pass {X} test (entry ∷ es) h passes =
    both_true (test entry) (list_all test es) (passes entry.0 entry.1 (find-first nat_cmp nat_cmp_total entry es)) (all_pass test es (back _ _ h) later)
  where
    later : (k : ℕ) (v : X) → find nat_cmp k es ≡ Some v → test (k, v) ≡ true
    later k v e = passes k v (ap (λ b. cond b (Some entry.1) (find nat_cmp k es)) (not_true (eq_by_cmp nat_cmp k entry.0) (λ is. missed k v is e)) ∙ e)
      where
        missed : (k : ℕ) (v : X) → eq_by_cmp nat_cmp k entry.0 ≡ true → find nat_cmp k es ≡ Some v → ⊥
        missed k v is e =
            let none = find-below nat_cmp entry.0 es (front _ _ h) in
            none_some v (sym none ∙ ap (λ q. find nat_cmp q es) (sym (same_id k entry.0 is)) ∙ e)

-- ---- a room, directory by directory

-- so many names may stand in so many pages
pub record IsPageCount (names pages : ℕ) : Type 0 where
  pub most : pages ≤ names
  pub least : names ≤ 32 * pages

page_count : (names pages : ℕ) → may_have names pages ≡ true → IsPageCount names pages
page_count names pages e =
    record { most = low (left_true (nat_le pages names) (nat_le names (32 * pages)) e); least = high (right_true (nat_le pages names) (nat_le names (32 * pages)) e) }
  where
    low : nat_le pages names ≡ true → pages ≤ names
    low is = grind (arith, nat_tests)

    high : nat_le names (32 * pages) ≡ true → names ≤ 32 * pages
    high is = grind (arith, nat_tests)

may_have-is : (names pages : ℕ) → IsPageCount names pages → may_have names pages ≡ true
may_have-is names pages h = both_true (nat_le pages names) (nat_le names (32 * pages)) (low h.most) (high h.least)
  where
    low : pages ≤ names → nat_le pages names ≡ true
    low is = grind (arith, nat_tests)

    high : names ≤ 32 * pages → nat_le names (32 * pages) ≡ true
    high is = grind (arith, nat_tests)

module _ (T' : Tree) (room : Room) where
  pub directory-from_room : IsRoom T' room → (directory pages : ℕ) → get room directory ≡ Some pages → is_directory T' directory ≡ true
  directory-from_room fits directory pages e =
      let one = found_passes (λ e. is_directory T' e.0 && may_have (name_count T' e.0) e.1) directory pages room.entries (left_true _ _ fits) e in
      left_true (is_directory T' directory) (may_have (name_count T' directory) pages) one

  pub IsPageCount-from_room : IsRoom T' room → (directory pages : ℕ) → get room directory ≡ Some pages → IsPageCount (name_count T' directory) pages
  IsPageCount-from_room fits directory pages e =
      let one = found_passes (λ e. is_directory T' e.0 && may_have (name_count T' e.0) e.1) directory pages room.entries (left_true _ _ fits) e in
      page_count (name_count T' directory) pages (right_true (is_directory T' directory) (may_have (name_count T' directory) pages) one)

  pub room-has_directory : IsRoom T' room → (directory : ℕ) → is_directory T' directory ≡ true → is_some (get room directory) ≡ true
  room-has_directory fits directory dir =
      let found = directory_is (node_at T' directory) dir in
      found_passes (λ e. not (is_directory_node (Some e.1)) || contains_key room e.0) directory Directory T'.nodes.entries (right_true _ _ fits) found

  -- the room has exactly the directories, each with a number within its bounds
  pub IsRoom-from : ((directory pages : ℕ) → get room directory ≡ Some pages → (is_directory T' directory ≡ true) × IsPageCount (name_count T' directory) pages)
      → ((directory : ℕ) → is_directory T' directory ≡ true → is_some (get room directory) ≡ true) → IsRoom T' room
  IsRoom-from within has =
      both_true _ _
      (all_pass (λ e. is_directory T' e.0 && may_have (name_count T' e.0) e.1) room.entries room.sorted (λ k v e.
      let one = within k v e in both_true (is_directory T' k) (may_have (name_count T' k) v) one.0 (may_have-is (name_count T' k) v one.1)))
      (all_pass (λ e. not (is_directory_node (Some e.1)) || contains_key room e.0) T'.nodes.entries T'.nodes.sorted has_each)
    where
      has_each : (k : ℕ) (node : Node) → node_at T' k ≡ Some node → not (is_directory_node (Some node)) || contains_key room k ≡ true
      has_each k Directory e = has k (ap is_directory_node e)
      has_each k (File bytes) e = refl

-- ---- the room after a command

find-directories : (f : ℕ → ℕ) (q : ℕ) (es : List (ℕ × Node)) → T (is_sorted nat_cmp es)
    → find nat_cmp q (map (λ d. (d, f d)) (filter_map directory_of es)) ≡ cond (is_directory_node (find nat_cmp q es)) (Some (f q)) None
find-directories f q [] h = refl
find-directories f q ((k, Directory) ∷ es) h =
    let rest = find-directories f q es (back _ _ h) in
    elim (eq_by_cmp nat_cmp q k) as (λ t. eq_by_cmp nat_cmp q k ≡ t
    → cond t (Some (f k)) (find nat_cmp q (map (λ d. (d, f d)) (filter_map directory_of es))) ≡ cond (is_directory_node (cond t (Some Directory) (find nat_cmp q es))) (Some (f q)) None) [
      | true ↦ λ is. ap (λ d. Some (f d)) (sym (same_id q k is))
      | false ↦ λ is. rest
    ] refl
find-directories f q ((k, File bytes) ∷ es) h =
    let rest = find-directories f q es (back _ _ h) in
    elim (eq_by_cmp nat_cmp q k) as (λ t. eq_by_cmp nat_cmp q k ≡ t
    → find nat_cmp q (map (λ d. (d, f d)) (filter_map directory_of es)) ≡ cond (is_directory_node (cond t (Some (File bytes)) (find nat_cmp q es))) (Some (f q)) None) [
      | true ↦ λ is.
          let none = ap (λ i. find nat_cmp i es) (same_id q k is) ∙ find-below nat_cmp k es (front _ _ h) in
          rest ∙ ap (λ o. cond (is_directory_node o) (Some (f q)) None) none
      | false ↦ λ is. rest
    ] refl

-- the room after a command has exactly the directories of the tree after it, each with its pages after it
pub get-room_after : (id : ℕ) (T' : Tree) (room : Room) (c : Command) (gives : Bool) (directory : ℕ)
    → get (room_after id T' room c gives) directory ≡ cond (is_directory (tree_after id T' c) directory) (Some (pages_after T' room c gives directory)) None
get-room_after id T' room c gives directory =
    get-table_of nat_cmp_total (map (λ d. (d, pages_after T' room c gives d)) (directories (tree_after id T' c))) directory
    ∙ find-directories (pages_after T' room c gives) directory (tree_after id T' c).nodes.entries (tree_after id T' c).nodes.sorted

-- where no directory gains or loses a name, comes or goes, the room stays
pub room_after-same : (id : ℕ) (T' : Tree) (room : Room) (c : Command) (gives : Bool) → IsRoom T' room → gaining T' c ≡ None → losing T' c ≡ None
    → ((directory : ℕ) → is_directory (tree_after id T' c) directory ≡ is_directory T' directory) → room_after id T' room c gives ≡ room
room_after-same id T' room c gives fits gains loses same = same_room (room_after id T' room c gives) room each
  where
    pages_stay : (directory : ℕ) → pages_after T' room c gives directory ≡ pages_in room directory
    pages_stay directory =
        ap (λ o. pages_by o (losing T' c)) gains ∙ ap (λ o. pages_by None o) loses ∙ add-zero (pages_in room directory)
      where
        pages_by : Option ℕ → Option ℕ → ℕ
        pages_by gain lose =
            let gained = pages_in room directory + cond (is_number gain directory) (page_for_name T' room (Some directory)) 0 in
            cond (is_number lose directory && gives) (gained - 1) gained

    at_pages : (directory : ℕ) (o : Option ℕ) → get room directory ≡ o → (dir : Bool) → is_directory T' directory ≡ dir
        → cond dir (Some (pages_in room directory)) None ≡ o
    at_pages directory (Some pages) is true dir = ap (λ o. Some (unwrap_or o 0)) is
    at_pages directory (Some pages) is false dir = let clash : true ≡ false = sym (directory-from_room T' room fits directory pages is) ∙ dir in cc
    at_pages directory None is true dir = let clash : true ≡ false = sym (room-has_directory T' room fits directory dir) ∙ ap is_some is in cc
    at_pages directory None is false dir = refl

    each : (directory : ℕ) → get (room_after id T' room c gives) directory ≡ get room directory
    each directory =
        get-room_after id T' room c gives directory
        ∙ ap (λ b. cond b (Some (pages_after T' room c gives directory)) None) (same directory)
        ∙ ap (λ n. cond (is_directory T' directory) (Some n) None) (pages_stay directory)
        ∙ at_pages directory (get room directory) refl (is_directory T' directory) refl
