-- The room after a rename.
use Rattle.std.proofs.Common.{◌≡◌, inl, inr, ℕ, ◌+◌, ◌-◌, Bool, true, false, cond, ◌&&◌, List, Option, Some, None, refl, sym, ap, subst, ◌∙◌, add-zero}
use Rattle.std.proofs.lemmas.Bool.{cases_eq}
use Rattle.tree_model.specs.PathText.{Route}
use Rattle.tree_model.specs.Step.{gaining, losing, is_full, page_for_name, pages_after}
use Rattle.tree_model.specs.Table.{get, remove}
use Rattle.tree_model.specs.Tree.{Tree, Room, IsRoom, is_directory, is_number, pages_in}
use Rattle.tree_model.specs.declared.command.Command.TheVariants.{Rename}
use Rattle.layout.specs.Fields.{slot_inode}
use Rattle.layout.specs.Geometry.{page_of_slot}
use Rattle.image_reading.specs.Reading.{slot_owner}
use Rattle.image_laws.specs.Add.{with_page}
use Rattle.image_laws.specs.Move.{CanMove, HasRoomMoved}
use Rattle.image_laws.specs.Remove.{without_page}
use Rattle.image_laws.proofs.AddRoom.{get-here, get-other}
use Rattle.image_laws.proofs.MoveRoom.{move_room_law}
use Rattle.image_laws.proofs.RoomAfter.{room_at, gained, gained_other, gained_here}
use Rattle.image_laws.proofs.RoomLeft.{HasPages, lost, lost_none, pages_left}
use Rattle.rename_laws.specs.End.{MovedRoomLaw}
use Rattle.rename_laws.proofs.MovedCounts.{IsAlmostTidy}
use Rattle.rename_laws.proofs.MoveNear as before
use Rattle.rename_laws.proofs.MoveReads.{ended}
use Rattle.rename_laws.proofs.MoveTidy as ends
use Rattle.rename_laws.proofs.MoveTidy.{HasEnded}

-- ---- the pages of a directory after

-- the pages of each directory once the new name is there
abbrev pub pages_then : Tree → Room → Option ℕ → ℕ → ℕ
pages_then T room None y = pages_in room y
pages_then T room (Some x) y = gained T room x y

-- a room has those pages
abbrev pub HasPagesThen : Tree → Room → Option ℕ → Room → Type 0
HasPagesThen T room gains after = HasPages T (pages_then T room gains) after

-- a room's entries are its directories' pages
entry : (T : Tree) (room : Room) → IsRoom T room → (y : ℕ) → is_directory T y ≡ true → get room y ≡ Some (pages_in room y)
entry T room fits y dir = room_at T room y fits ∙ ap (λ b. cond b (Some (pages_in room y)) None) dir

-- no directory gains a name
pub then_none : (T : Tree) (room : Room) → IsRoom T room → HasPagesThen T room None room
then_none T room fits y dir = entry T room fits y dir

-- one gains a name and has a place for it
pub then_same : (T : Tree) (room : Room) (x : ℕ) → IsRoom T room → is_full T room x ≡ false → HasPagesThen T room (Some x) room
then_same T room x fits full y dir = entry T room fits y dir ∙ ap Some (elim (cases_eq x y) [
  | inl e ↦ subst (λ z. pages_in room z ≡ gained T room x z) e (sym (gained_here T room x false full ∙ add-zero (pages_in room x)))
  | inr ne ↦ sym (gained_other T room x y ne)
])

-- and one that is full
pub then_more : (T : Tree) (room : Room) (x : ℕ) → IsRoom T room → is_full T room x ≡ true → HasPagesThen T room (Some x) (with_page room x)
then_more T room x fits full y dir = elim (cases_eq x y) [
  | inl e ↦ subst (λ z. get (with_page room x) z ≡ Some (gained T room x z)) e
      (get-here room x (pages_in room x + 1) ∙ ap Some (sym (gained_here T room x true full)))
  | inr ne ↦ get-other room x (pages_in room x + 1) y (λ z. ne (sym z)) ∙ entry T room fits y dir ∙ ap Some (sym (gained_other T room x y ne))
]

module _ (T : Tree) (room : Room) (from to : Route) (o : ℕ) (gains : Option ℕ)
    (gains_is : gaining T (Rename from to) ≡ gains) (loses_is : losing T (Rename from to) ≡ Some o) where
  pages_by : Option ℕ → Option ℕ → Bool → ℕ → ℕ
  pages_by gain lose gives y =
      let now = pages_in room y + cond (is_number gain y) (page_for_name T room (Some y)) 0 in
      cond (is_number lose y && gives) (now - 1) now

  gained_is : (gain : Option ℕ) (y : ℕ) → pages_in room y + cond (is_number gain y) (page_for_name T room (Some y)) 0 ≡ pages_then T room gain y
  unfolding gained
  gained_is None y = add-zero (pages_in room y)
  gained_is (Some x) y = refl

  pages_are : (gives : Bool) (y : ℕ) → pages_after T room (Rename from to) gives y ≡ lost o gives (pages_then T room gains y) y
  unfolding pages_by lost
  pages_are gives y =
      ap (λ g. pages_by g (losing T (Rename from to)) gives y) gains_is ∙ ap (λ l. pages_by gains l gives y) loses_is ∙ ap (λ n. lost o gives n y) (gained_is gains y)

  -- the old directory keeps its page, or gives it back
  pub kept_entry : (after : Room) → HasPagesThen T room gains after → HasPages T (pages_after T room (Rename from to) false) after
  kept_entry after has y dir = has y dir ∙ ap Some (sym (pages_are false y ∙ lost_none o (pages_then T room gains y) y))

  pub given_entry : (after : Room) → HasPagesThen T room gains after → is_directory T o ≡ true → HasPages T (pages_after T room (Rename from to) true) (without_page after o)
  given_entry after has holds y dir = pages_left T (pages_then T room gains) after o has holds y dir ∙ ap Some (sym (pages_are true y))

-- ---- the room of the last words

-- It is that of the words that the commit leaves.
pub room_ended : (P : ℕ) (I K : List ℕ) (pa pb : Route) (s d : ℕ) → CanMove P I pa pb s d → IsAlmostTidy P I s d → HasEnded P I K s d
    → HasRoomMoved P I K s d
room_ended P I K pa pb s d c near end =
    let law = move_room_law P I pa pb s d c in
    let pages = ends.rooms P I K pa pb s d c near end (slot_owner P I s) (page_of_slot s) in
    record {
      kept = λ room has had there. end.means.room (remove room (slot_inode P I d)) (law.kept room has had (pages.1 there));
      gained = λ room has none there. end.means.room (remove (with_page room (slot_owner P I d)) (slot_inode P I d))
          (law.gained room has none (pages.1 there));
      given = λ room has had gone. end.means.room (remove (without_page room (slot_owner P I s)) (slot_inode P I d))
          (law.given room has had (λ there. gone (pages.0 there)));
      both = λ room has none gone. end.means.room (remove (without_page (with_page room (slot_owner P I d)) (slot_owner P I s)) (slot_inode P I d))
          (law.both room has none (λ there. gone (pages.0 there)));
    }

pub moved_room_law : MovedRoomLaw
moved_room_law P W I J G K pa pb s x d target rising falling ready finishes =
    room_ended P I K pa pb s d ready.can_move (before.near P W I pa pb s x d target rising ready)
    (ended P W I J G K pa pb s x d target rising falling ready finishes)
