-- The room after create and mkdir, as an insertion.
use Rattle.std.proofs.Common.{◌≡◌, ◌≢◌, inl, inr, ℕ, ◌+◌, ◌==◌, Bool, true, false, cond, Option, Some, None, is_some, unwrap_or, refl, sym, ap, subst, ◌∙◌, arith, add-zero}
use Rattle.std.proofs.lemmas.Bool.{cases_eq}
use Rattle.std.proofs.lemmas.Bool.Decides.{nat_tests}
use Rattle.layout.specs.declared.kinds.NodeKind.{NodeKind}
use Rattle.layout.specs.declared.kinds.NodeKind.TheVariants.{File, Directory}
use Rattle.tree_model.specs.PathText.{Route}
use Rattle.tree_model.proofs.RoomLaws.{directory-from_room, room-has_directory, get-room_after}
use Rattle.tree_model.specs.Step.{making, new_node, with_new, is_full, room_after, pages_after, page_for_name, tree_after}
use Rattle.tree_model.specs.Table.{get}
use Rattle.tree_model.specs.Tree.{Tree, Room, IsRoom, root_id, is_directory, is_directory_node, is_number, pages_in}
use Rattle.tree_model.proofs.TreeLaws.{same_room, node_at-with_new_here, node_at-with_new_other}
use Rattle.image_laws.specs.Add.{with_page, with_node}
use Rattle.image_laws.specs.CreateStep.{CanBeMade, HasRoomAfter, RoomAfterLaw}
use Rattle.image_laws.proofs.AddRoom.{get-here, get-other}

pub clash : true ≡ false → ⊥
clash e = cc

-- a room's entry is its directory's number of pages
pub room_at : (T : Tree) (room : Room) (x : ℕ) → IsRoom T room → get room x ≡ cond (is_directory T x) (Some (pages_in room x)) None
room_at T room x fits = at (get room x) refl (is_directory T x) refl
  where
    at : (o : Option ℕ) → get room x ≡ o → (dir : Bool) → is_directory T x ≡ dir → get room x ≡ cond dir (Some (pages_in room x)) None
    at (Some k) is true dir = is ∙ ap (λ o. Some (unwrap_or o 0)) (sym is)
    at (Some k) is false dir = absurd (clash (sym (directory-from_room T room fits x k is) ∙ dir))
    at None is true dir = absurd (clash (sym (room-has_directory T room fits x dir) ∙ ap is_some is))
    at None is false dir = is

pub tree_is : (T : Tree) (kind : NodeKind) (path : Route) (i : ℕ) → tree_after i T (making kind path) ≡ with_new T path i (new_node kind)
tree_is T Directory path i = refl
tree_is T File path i = refl

pub is_same : (d : ℕ) → (d == d) ≡ true
is_same d = grind (arith, nat_tests)

pub not_same : (d x : ℕ) → d ≢ x → (d == x) ≡ false
not_same d x ne = differs (d == x) refl
  where
    differs : (b : Bool) → (d == x) ≡ b → (d == x) ≡ false
    differs true e = absurd (ne (grind (arith, nat_tests)))
    differs false e = e

module _ (T : Tree) (room : Room) (d : ℕ) where
  -- the pages of a directory after
  unfoldable pub gained : ℕ → ℕ
  gained x = pages_in room x + cond (is_number (Some d) x) (page_for_name T room (Some x)) 0

  pub gained_other : (x : ℕ) → d ≢ x → gained x ≡ pages_in room x
  unfolding gained
  gained_other x ne = ap (λ b. pages_in room x + cond b (page_for_name T room (Some x)) 0) (not_same d x ne) ∙ add-zero (pages_in room x)

  pub gained_here : (full : Bool) → is_full T room d ≡ full → gained d ≡ pages_in room d + cond full 1 0
  unfolding gained
  gained_here full e =
      ap (λ b. pages_in room d + cond b (page_for_name T room (Some d)) 0) (is_same d) ∙ ap (λ b. pages_in room d + cond b 1 0) e

module _ (T : Tree) (room : Room) (kind : NodeKind) (path : Route) (d i : ℕ) (can : CanBeMade T room path d i) where
  pages_are : (gives : Bool) (x : ℕ) → pages_after T room (making kind path) gives x ≡ gained T room d x
  unfolding gained
  pages_are gives x = by_kind kind
    where
      by_kind : (kind : NodeKind) → pages_after T room (making kind path) gives x ≡ pages_in room x + cond (is_number (Some d) x) (page_for_name T room (Some x)) 0
      by_kind Directory = ap (λ o. pages_in room x + cond (is_number (Some (unwrap_or o root_id)) x) (page_for_name T room (Some x)) 0) can.above
      by_kind File = ap (λ o. pages_in room x + cond (is_number (Some (unwrap_or o root_id)) x) (page_for_name T room (Some x)) 0) can.above

  after : (gives : Bool) → Room
  after gives = room_after i T room (making kind path) gives

  after_at : (gives : Bool) (x : ℕ) → get (after gives) x ≡ cond (is_directory (with_new T path i (new_node kind)) x) (Some (gained T room d x)) None
  unfolding after
  after_at gives x =
      get-room_after i T room (making kind path) gives x
      ∙ ap (λ U. cond (is_directory U x) (Some (pages_after T room (making kind path) gives x)) None) (tree_is T kind path i)
      ∙ ap (λ n. cond (is_directory (with_new T path i (new_node kind)) x) (Some n) None) (pages_are gives x)

  not_directory : is_directory T i ≡ false
  not_directory = ap is_directory_node can.absent

  other : d ≢ i
  other e = clash (sym can.directory ∙ ap (is_directory T) e ∙ not_directory)

  -- the new node has no pages
  no_entry : get room i ≡ None
  no_entry = room_at T room i can.fits ∙ ap (λ b. cond b (Some (pages_in room i)) None) not_directory

  -- at any other number
  after_other : (gives : Bool) (x : ℕ) → x ≢ i → get (after gives) x ≡ cond (is_directory T x) (Some (gained T room d x)) None
  after_other gives x ne = after_at gives x ∙ ap (λ o. cond (is_directory_node o) (Some (gained T room d x)) None) (node_at-with_new_other T path i (new_node kind) x ne)

  after_new : (gives : Bool) → get (after gives) i ≡ cond (is_directory_node (Some (new_node kind))) (Some 0) None
  after_new gives =
      after_at gives i ∙ ap (λ o. cond (is_directory_node o) (Some (gained T room d i)) None) (node_at-with_new_here T path i (new_node kind))
      ∙ ap (λ n. cond (is_directory_node (Some (new_node kind))) (Some n) None) (gained_other T room d i other ∙ ap (λ o. unwrap_or o 0) no_entry)

  -- a room R with these entries becomes the room after
  from : (gives : Bool) (R : Room) → get R i ≡ None → ((x : ℕ) → x ≢ i → get R x ≡ cond (is_directory T x) (Some (gained T room d x)) None) → after gives ≡ with_node R i kind
  from gives R absent others = same_room (after gives) (with_node R i kind) (λ x. elim (cases_eq x i) [
    | inl e ↦ subst (λ y. get (after gives) y ≡ get (with_node R i kind) y) (sym e) (after_new gives ∙ new_at kind)
    | inr ne ↦ after_other gives x ne ∙ sym (others x ne) ∙ old_at kind x ne
  ])
    where
      new_at : (kind : NodeKind) → cond (is_directory_node (Some (new_node kind))) (Some 0) None ≡ get (with_node R i kind) i
      new_at Directory = sym (get-here R i 0)
      new_at File = sym absent

      old_at : (kind : NodeKind) (x : ℕ) → x ≢ i → get R x ≡ get (with_node R i kind) x
      old_at Directory x ne = sym (get-other R i 0 x ne)
      old_at File x ne = refl

  pub room_after_is : HasRoomAfter T room kind path d i
  unfolding after
  room_after_is = record {
    not_full = λ gives e. from gives room no_entry (λ x ne. room_at T room x can.fits ∙ ap (λ n. cond (is_directory T x) (Some n) None) (elim (cases_eq d x) [
      | inl same ↦ subst (λ y. pages_in room y ≡ gained T room d y) same (sym (gained_here T room d false e ∙ add-zero (pages_in room d)))
      | inr differ ↦ sym (gained_other T room d x differ)
    ]));
    full = λ gives e. from gives (with_page room d) (get-other room d (pages_in room d + 1) i (λ z. other (sym z)) ∙ no_entry) (λ x ne. elim (cases_eq d x) [
      | inl same ↦ subst (λ y. get (with_page room d) y ≡ cond (is_directory T y) (Some (gained T room d y)) None) same
          (get-here room d (pages_in room d + 1) ∙ ap Some (sym (gained_here T room d true e)) ∙ ap (λ b. cond b (Some (gained T room d d)) None) (sym can.directory))
      | inr differ ↦ get-other room d (pages_in room d + 1) x (λ z. differ (sym z)) ∙ room_at T room x can.fits
          ∙ ap (λ n. cond (is_directory T x) (Some n) None) (sym (gained_other T room d x differ))
    ]);
  }

pub room_after_law : RoomAfterLaw
room_after_law T room kind path d i can = room_after_is T room kind path d i can
