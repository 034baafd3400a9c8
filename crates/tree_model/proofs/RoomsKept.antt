-- An accepted command has a room after it.
use Rattle.std.proofs.Common.{◌≡◌, ◌≢◌, ℕ, ◌+◌, ◌-◌, ◌*◌, ◌<◌, ◌≤◌, inl, inr, Bool, true, false, cond, ◌&&◌, ◌==◌, nat_lt, Option, Some, None, is_some, unwrap_or, refl, sym, ap, subst, ◌∙◌, arith, true≢false}
use Rattle.std.proofs.lemmas.Bool.Decides.{nat_tests}
use Rattle.tree_model.specs.Table.{get}
use Rattle.tree_model.specs.Tree.{Tree, Room, IsTree, IsRoom, is_directory, is_number, name_count, pages_in}
use Rattle.tree_model.specs.Step.{gaining, losing, pages_after, room_after, tree_after}
use Rattle.tree_model.specs.declared.command.Command.{Command}
use Rattle.tree_model.proofs.TreeLaws.{name_count-not_directory}
use Rattle.tree_model.proofs.RoomLaws.{IsPageCount, directory-from_room, IsPageCount-from_room, room-has_directory, IsRoom-from, get-room_after}
use Rattle.tree_model.proofs.TreeKept.{chosen, none_some, same_some, some_is}

abbrev pub one_if : Bool → ℕ
one_if b = cond b 1 0

-- how names move between directories by a command
pub record NamesMove (T : Tree) (c : Command) (after : Tree) : Type 0 where
  pub names : (d : ℕ) → is_directory after d ≡ true → name_count after d + one_if (is_number (losing T c) d) ≡ name_count T d + one_if (is_number (gaining T c) d)

-- ---- the pages of one directory

abbrev pub gained_pages : ℕ → ℕ → Bool → ℕ
gained_pages n p gain = p + cond gain (cond (n == 32 * p) 1 0) 0

gained_bounds : (p n : ℕ) (gain : Bool) → IsPageCount n p → IsPageCount (n + one_if gain) (gained_pages n p gain)
gained_bounds p n false h = let most = h.most in let least = h.least in record { most = omega (arith, most); least = omega (arith, least) }
gained_bounds p n true h =
    let most = h.most in
    let least = h.least in
    elim (n == 32 * p) as (λ t. n == 32 * p ≡ t → IsPageCount (n + 1) (p + cond t 1 0)) [
      | true ↦ λ is. let full : n ≡ 32 * p = grind (arith, nat_tests) in record { most = omega (arith, most); least = omega (arith, full) }
      | false ↦ λ is. let room : n ≢ 32 * p = not_equal n (32 * p) is in record { most = omega (arith, most); least = omega (arith, least, room) }
    ] refl
  where
    not_equal : (a b : ℕ) → a == b ≡ false → a ≢ b
    not_equal a b is same = let yes : a == b ≡ true = grind (arith, nat_tests) in true≢false (sym yes ∙ is)

-- a page is given back only where there would be more pages than names
given_bounds : (m g k : ℕ) (lose : Bool) → k + one_if lose ≡ m → IsPageCount m g → (gives : Bool) → (lose ≡ true → gives ≡ nat_lt k g) → IsPageCount k (cond (lose && gives) (g - 1) g)
given_bounds m g k false e h gives is = let most = h.most in let least = h.least in record { most = omega (arith, e, most); least = omega (arith, e, least) }
given_bounds m g k true e h false is =
    let most = h.most in
    let least = h.least in
    let few : g ≤ k = not_less k g (sym (is refl)) in
    record { most = few; least = omega (arith, e, least) }
  where
    not_less : (a b : ℕ) → nat_lt a b ≡ false → b ≤ a
    not_less a b e = grind (arith, nat_tests)
given_bounds m g k true e h true is =
    let most = h.most in
    let many : k < g = less k g (sym (is refl)) in
    record { most = omega (arith, e, most, many); least = omega (arith, e, most, many) }
  where
    less : (a b : ℕ) → nat_lt a b ≡ true → a < b
    less a b e = grind (arith, nat_tests)

-- ---- the room after

module _ (T : Tree) (room : Room) (c : Command) (id : ℕ) (t : IsTree T) (fits : IsRoom T room) (moves : NamesMove T c (tree_after id T c)) where
  gives_at : Option ℕ → Bool
  gives_at None = false
  gives_at (Some l) = nat_lt (name_count (tree_after id T c) l) (gained_pages (name_count T l) (pages_in room l) (is_number (gaining T c) l))

  gives_here : (o : Option ℕ) (d : ℕ) → is_number o d ≡ true → gives_at o ≡ nat_lt (name_count (tree_after id T c) d) (gained_pages (name_count T d) (pages_in room d) (is_number (gaining T c) d))
  unfolding gives_at
  gives_here None d e = cc
  gives_here (Some l) d e =
      let same : l ≡ d = grind (arith, nat_tests) in
      ap (λ x. nat_lt (name_count (tree_after id T c) x) (gained_pages (name_count T x) (pages_in room x) (is_number (gaining T c) x))) same

  no_pages : (d : ℕ) (o : Option ℕ) → get room d ≡ o → is_directory T d ≡ false → unwrap_or o 0 ≡ 0
  no_pages d None is other = refl
  no_pages d (Some k) is other = absurd (true≢false (sym (directory-from_room T room fits d k is) ∙ other))

  old_bounds : (d : ℕ) (dir : Bool) → is_directory T d ≡ dir → IsPageCount (name_count T d) (pages_in room d)
  old_bounds d true dir =
      let found = some_is (get room d) (room-has_directory T room fits d dir) in
      subst (IsPageCount (name_count T d)) (sym (ap (λ o. unwrap_or o 0) found.1)) (IsPageCount-from_room T room fits d found.0 found.1)
  old_bounds d false other =
      let none = no_pages d (get room d) refl other in
      let no_names = name_count-not_directory T d t other in
      record { most = omega (arith, none); least = omega (arith, no_names) }

  new_bounds : (d : ℕ) → is_directory (tree_after id T c) d ≡ true → IsPageCount (name_count (tree_after id T c) d) (pages_after T room c (gives_at (losing T c)) d)
  new_bounds d dir =
      given_bounds (name_count T d + one_if (is_number (gaining T c) d)) (gained_pages (name_count T d) (pages_in room d) (is_number (gaining T c) d))
      (name_count (tree_after id T c) d) (is_number (losing T c) d) (moves.names d dir)
      (gained_bounds (pages_in room d) (name_count T d) (is_number (gaining T c) d) (old_bounds d (is_directory T d) refl))
      (gives_at (losing T c)) (gives_here (losing T c) d)

  pub has_room : (gives : Bool) × IsRoom (tree_after id T c) (room_after id T room c gives)
  has_room = (
    gives_at (losing T c),
    IsRoom-from (tree_after id T c) (room_after id T room c (gives_at (losing T c)))
        (λ d pages e. elim (chosen (is_directory (tree_after id T c) d) (Some (pages_after T room c (gives_at (losing T c)) d)) None (get (room_after id T room c (gives_at (losing T c))) d)
        (get-room_after id T room c (gives_at (losing T c)) d)) [
          | inl h ↦ (h.0, subst (IsPageCount (name_count (tree_after id T c) d)) (same_some (pages_after T room c (gives_at (losing T c)) d) pages (sym h.1 ∙ e)) (new_bounds d h.0))
          | inr h ↦ none_some pages (sym h.1 ∙ e)
        ])
        (λ d dir. ap is_some (get-room_after id T room c (gives_at (losing T c)) d)
        ∙ ap (λ b. is_some (cond b (Some (pages_after T room c (gives_at (losing T c)) d)) None)) dir),
  )
