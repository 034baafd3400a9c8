-- A name that gives up its number is gone: the tree and the room are those that the command leaves.
use Rattle.std.proofs.Common.{◌≡◌, ◌↔◌, ℕ, ◌+◌, ◌-◌, Bool, true, false, cond, ◌&&◌, List, ◌∷◌, reverse, Some, None, unwrap_or, refl, sym, ap, subst, ◌∙◌, add-zero}
use Rattle.layout.specs.Fields.{slot_inode, slot_name}
use Rattle.layout.specs.Geometry.{page_of_slot}
use Rattle.tree_model.specs.PathText.{Route}
use Rattle.tree_model.proofs.RoomLaws.{get-room_after}
use Rattle.tree_model.specs.Run.{State}
use Rattle.tree_model.specs.Step.{without_path, without_unnamed, room_after, tree_after, pages_after}
use Rattle.tree_model.specs.Table.{get, remove}
use Rattle.tree_model.specs.Tree.{Tree, Room, IsRoom, root_id, parent, id_at, is_directory, is_number, pages_in}
use Rattle.image_reading.specs.Reading.{slot_owner, Names, Reads, IsRoomOf, HasRoom, ReadsAs}
use Rattle.image_reading.specs.Soundness.{IsCoherent}
use Rattle.image_counts.proofs.States.{is_room}
use Rattle.image_laws.specs.CreateStep.{IsStepped}
use Rattle.image_laws.specs.Drop.{dropped}
use Rattle.image_laws.specs.DropStep.{Removal, removing}
use Rattle.image_laws.specs.Remove.{CanRemove, HasRoomRemoved, without_page}
use Rattle.image_laws.proofs.CreateSteps.{parent_is}
use Rattle.image_laws.proofs.Pruned.{directory_before}
use Rattle.image_laws.proofs.RemoveFacts as facts
use Rattle.image_laws.proofs.RemoveRoom.{remove_room_law}
use Rattle.image_laws.proofs.RemoveTree.{remove_tree_law}
use Rattle.image_laws.proofs.Removes.{remove_law}
use Rattle.image_laws.proofs.RoomAfter.{room_at}
use Rattle.image_laws.proofs.RoomLeft.{HasPages, lost, lost_none, pages_left, room_left}
use Rattle.image_laws.proofs.Rooms.{dec_room}
use Rattle.image_laws.proofs.Trees.{is_directory-reached}
use Rattle.weave_laws.specs.Entering.{RemovedEnteredLaw, RemovedRoomLaw}
use Rattle.weave_laws.proofs.Entered.{stepped}

-- what both commands leave
tree_is : (kind : Removal) (T : Tree) (path : Route) (n : ℕ) → tree_after n T (removing kind path) ≡ without_unnamed (without_path T path)
tree_is Removal.file T path n = refl
tree_is Removal.directory T path n = refl

pages_are : (kind : Removal) (T : Tree) (room : Room) (path : Route) (d : ℕ) (gives : Bool) (x : ℕ) → id_at T (parent path) ≡ Some d → pages_after T room (removing kind path) gives x ≡ lost d gives (pages_in room x) x
unfolding lost
pages_are Removal.file T room path d gives x e =
    ap (λ o. cond (is_number (Some (unwrap_or o root_id)) x && gives) (pages_in room x + 0 - 1) (pages_in room x + 0)) e ∙ ap (λ n. lost d gives n x) (add-zero (pages_in room x))
pages_are Removal.directory T room path d gives x e =
    ap (λ o. cond (is_number (Some (unwrap_or o root_id)) x && gives) (pages_in room x + 0 - 1) (pages_in room x + 0)) e ∙ ap (λ n. lost d gives n x) (add-zero (pages_in room x))

module _ (P : ℕ) (I : List ℕ) (old : State) (p path : Route) (s n : ℕ) (kind : Removal) (can : CanRemove P I p s) (is : reverse path ≡ slot_name P I s ∷ p) (reads : ReadsAs P I old) where
  coherent : IsCoherent P (dropped P I s)
  coherent = (remove_law P I p s can).coherent

  read : Reads P (dropped P I s) (without_unnamed (without_path old.tree path))
  read = remove_tree_law P I p path s old.tree can is reads.tree

  less_room : HasRoomRemoved P I (dropped P I s) (slot_owner P I s) s (slot_inode P I s)
  less_room = remove_room_law P I p s can

  above : id_at old.tree (parent path) ≡ Some (slot_owner P I s)
  above = (reads.tree.names (parent path) (slot_owner P I s)).1 (subst (λ q. Names P I q (slot_owner P I s)) (sym (parent_is path p (slot_name P I s) is)) can.path)

  old_fits : IsRoom old.tree old.room
  old_fits = is_room P I old.tree can.coherent reads.tree old.room reads.room

  old_entry : (x : ℕ) → is_directory old.tree x ≡ true → get old.room x ≡ Some (pages_in old.room x)
  old_entry x dir = room_at old.tree old.room x old_fits ∙ ap (λ b. cond b (Some (pages_in old.room x)) None) dir

  after : Bool → Room
  after gives = room_after n old.tree old.room (removing kind path) gives

  -- the room after, at each number
  after_at : (gives : Bool) (x : ℕ) → get (after gives) x ≡ cond (is_directory (without_unnamed (without_path old.tree path)) x) (Some (lost (slot_owner P I s) gives (pages_in old.room x) x)) None
  unfolding after
  after_at gives x =
      get-room_after n old.tree old.room (removing kind path) gives x
      ∙ ap (λ U. cond (is_directory U x) (Some (pages_after old.tree old.room (removing kind path) gives x)) None) (tree_is kind old.tree path n)
      ∙ ap (λ k. cond (is_directory (without_unnamed (without_path old.tree path)) x) (Some k) None) (pages_are kind old.tree old.room path (slot_owner P I s) gives x above)

  -- a room that has the old pages, or one less
  same_after : (gives : Bool) (room : Room) → HasRoom P (dropped P I s) (remove room (slot_inode P I s)) → HasPages old.tree (λ x. lost (slot_owner P I s) gives (pages_in old.room x) x) room
      → HasRoom P (dropped P I s) (after gives)
  same_after gives room has each = subst (HasRoom P (dropped P I s))
      (room_left P (dropped P I s) (without_unnamed (without_path old.tree path)) room (after gives) (λ x. lost (slot_owner P I s) gives (pages_in old.room x) x)
      (slot_inode P I s) coherent read has (after_at gives) (λ x dir. each x (directory_before old.tree path x dir)))
      has

  -- where a name is left in the slot's page,
  room_kept : IsRoomOf P (dropped P I s) (slot_owner P I s) (page_of_slot s) → HasRoom P (dropped P I s) (after false)
  room_kept here = same_after false old.room (less_room.kept old.room reads.room here) (λ x dir. old_entry x dir ∙ ap Some (sym (lost_none (slot_owner P I s) (pages_in old.room x) x)))

  -- and where none is
  room_given : ¬ IsRoomOf P (dropped P I s) (slot_owner P I s) (page_of_slot s) → HasRoom P (dropped P I s) (after true)
  room_given none = same_after true (without_page old.room (slot_owner P I s)) (less_room.given old.room reads.room none)
      (pages_left old.tree (pages_in old.room) old.room (slot_owner P I s) old_entry (is_directory-reached P I old.tree can.coherent reads.tree (slot_owner P I s) (p, can.path) can.directory))

  page_kept_or_not : Dec (IsRoomOf P (dropped P I s) (slot_owner P I s) (page_of_slot s))
  page_kept_or_not =
      let directory = facts.kind_same P I p s can (slot_owner P I s) (p, can.path) ∙ can.directory in
      dec_room P (dropped P I s) (slot_owner P I s) (facts.d_reached P I p s can) directory (page_of_slot s)

  removed : (gives : Bool) → HasRoom P (dropped P I s) (after gives) → IsStepped P (dropped P I s) old (removing kind path) n
  unfolding after
  removed gives has = stepped P (dropped P I s) old (record { tree = without_unnamed (without_path old.tree path); room = after gives }) (removing kind path) n gives coherent
      (record { tree = read; room = has }) (sym (tree_is kind old.tree path n)) refl

  pub removed_stepped : IsStepped P (dropped P I s) old (removing kind path) n
  removed_stepped = elim page_kept_or_not [ yes here ↦ removed false (room_kept here) | no none ↦ removed true (room_given none) ]

  pub removed_room : (gives : Bool) → ((gives ≡ true) ↔ ¬ IsRoomOf P (dropped P I s) (slot_owner P I s) (page_of_slot s)) → HasRoom P (dropped P I s) (room_after n old.tree old.room (removing kind path) gives)
  unfolding after
  removed_room true exactly = room_given (exactly.0 refl)
  removed_room false exactly = elim page_kept_or_not [ yes here ↦ room_kept here | no none ↦ (let all = exactly.1 none in absurd cc) ]

pub removed_entered_law : RemovedEnteredLaw
removed_entered_law P I old p path s n kind can is reads = removed_stepped P I old p path s n kind can is reads

pub removed_room_law : RemovedRoomLaw
removed_room_law P I old p path s n kind gives can is reads exactly = removed_room P I old p path s n kind can is reads gives exactly
