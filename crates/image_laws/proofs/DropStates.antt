-- Unlink and rmdir leave a state that the step allows.
use Rattle.std.proofs.Common.{◌≡◌, ℕ, ◌+◌, ◌-◌, Bool, true, false, cond, ◌&&◌, List, ◌∷◌, reverse, Some, None, unwrap_or, refl, sym, ap, subst, ◌∙◌, add-zero}
use Rattle.layout.specs.Fields.{slot_inode, slot_name}
use Rattle.layout.specs.Geometry.{page_of_slot}
use Rattle.tree_model.specs.PathText.{Route}
use Rattle.tree_model.proofs.RoomLaws.{get-room_after}
use Rattle.tree_model.specs.Run.{State}
use Rattle.tree_model.specs.Step.{without_path, without_unnamed, room_after, tree_after, pages_after}
use Rattle.tree_model.specs.Table.{get, remove}
use Rattle.tree_model.specs.Tree.{Tree, Room, IsRoom, root_id, parent, id_at, is_directory, is_number, pages_in}
use Rattle.image_reading.specs.Reading.{slot_owner, Names, Reads, IsRoomOf, HasRoom, ReadsAs}
use Rattle.image_reading.specs.Soundness.{IsCoherent}
use Rattle.image_counts.proofs.States.{is_room}
use Rattle.image_laws.specs.CreateStep.{IsStepped}
use Rattle.image_laws.specs.Drop.{CanDrop, Drops}
use Rattle.image_laws.specs.DropStep.{Removal, removing, DropStepLaw}
use Rattle.image_laws.specs.Remove.{HasRoomRemoved, without_page}
use Rattle.image_laws.proofs.CreateSteps.{parent_is}
use Rattle.image_laws.proofs.DropTidy.{drop_law, owner_after}
use Rattle.image_laws.proofs.Pruned.{directory_before}
use Rattle.image_laws.proofs.RoomAfter.{room_at}
use Rattle.image_laws.proofs.RoomLeft.{HasPages, lost, lost_none, pages_left, room_left}
use Rattle.image_laws.proofs.Rooms.{dec_room}
use Rattle.image_laws.proofs.Trees.{is_directory-reached}

-- what both commands leave
tree_is : (kind : Removal) (T : Tree) (path : Route) (n : ℕ) → tree_after n T (removing kind path) ≡ without_unnamed (without_path T path)
tree_is Removal.file T path n = refl
tree_is Removal.directory T path n = refl

pages_are : (kind : Removal) (T : Tree) (room : Room) (path : Route) (d : ℕ) (gives : Bool) (x : ℕ) → id_at T (parent path) ≡ Some d → pages_after T room (removing kind path) gives x ≡ lost d gives (pages_in room x) x
unfolding lost
pages_are Removal.file T room path d gives x e =
    ap (λ o. cond (is_number (Some (unwrap_or o root_id)) x && gives) (pages_in room x + 0 - 1) (pages_in room x + 0)) e ∙ ap (λ n. lost d gives n x) (add-zero (pages_in room x))
pages_are Removal.directory T room path d gives x e =
    ap (λ o. cond (is_number (Some (unwrap_or o root_id)) x && gives) (pages_in room x + 0 - 1) (pages_in room x + 0)) e ∙ ap (λ n. lost d gives n x) (add-zero (pages_in room x))

module _ (P : ℕ) (W I J K : List ℕ) (old : State) (p path : Route) (s y n : ℕ) (kind : Removal) (can : CanDrop P W p s) (h : Drops P W I J K s y)
    (is : reverse path ≡ slot_name P W s ∷ p) (reads : ReadsAs P W old) where
  read : Reads P K (without_unnamed (without_path old.tree path))
  read = (drop_law P W I J K p s y can h).reads old.tree path is reads.tree

  tidy_coherent : IsCoherent P K
  tidy_coherent = (drop_law P W I J K p s y can h).tidy.coherent

  above : id_at old.tree (parent path) ≡ Some (slot_owner P W s)
  above = (reads.tree.names (parent path) (slot_owner P W s)).1 (subst (λ q. Names P W q (slot_owner P W s)) (sym (parent_is path p (slot_name P W s) is)) can.path)

  old_fits : IsRoom old.tree old.room
  old_fits = is_room P W old.tree can.tidy.coherent reads.tree old.room reads.room

  -- the room after, at each number
  after_at : (gives : Bool) (x : ℕ) → get (room_after n old.tree old.room (removing kind path) gives) x
      ≡ cond (is_directory (without_unnamed (without_path old.tree path)) x) (Some (lost (slot_owner P W s) gives (pages_in old.room x) x)) None
  after_at gives x =
      get-room_after n old.tree old.room (removing kind path) gives x
      ∙ ap (λ U. cond (is_directory U x) (Some (pages_after old.tree old.room (removing kind path) gives x)) None) (tree_is kind old.tree path n)
      ∙ ap (λ k. cond (is_directory (without_unnamed (without_path old.tree path)) x) (Some k) None) (pages_are kind old.tree old.room path (slot_owner P W s) gives x above)

  -- a room that has the old pages, or one less
  same_after : (gives : Bool) (room : Room) → HasRoom P K (remove room (slot_inode P W s)) → HasPages old.tree (λ x. lost (slot_owner P W s) gives (pages_in old.room x) x) room
      → remove room (slot_inode P W s) ≡ room_after n old.tree old.room (removing kind path) gives
  same_after gives room has each =
      room_left P K (without_unnamed (without_path old.tree path)) room (room_after n old.tree old.room (removing kind path) gives) (λ x. lost (slot_owner P W s) gives (pages_in old.room x) x)
      (slot_inode P W s) tidy_coherent read has (after_at gives) (λ x dir. each x (directory_before old.tree path x dir))

  stepped : (gives : Bool) (R : Room) → HasRoom P K (remove R (slot_inode P W s)) → remove R (slot_inode P W s) ≡ room_after n old.tree old.room (removing kind path) gives
      → IsStepped P K old (removing kind path) n
  stepped gives R has follows =
      let tree : without_unnamed (without_path old.tree path) ≡ tree_after n old.tree (removing kind path) = sym (tree_is kind old.tree path n) in
      record {
        new = record { tree = without_unnamed (without_path old.tree path); room = remove R (slot_inode P W s) };
        reads = record { tree = read; room = has };
        tree = tree;
        room = (
          gives,
          follows,
          subst (λ T. IsRoom T (remove R (slot_inode P W s))) tree (is_room P K (without_unnamed (without_path old.tree path)) tidy_coherent read (remove R (slot_inode P W s)) has),
        );
      }

  old_entry : (x : ℕ) → is_directory old.tree x ≡ true → get old.room x ≡ Some (pages_in old.room x)
  old_entry x dir = room_at old.tree old.room x old_fits ∙ ap (λ b. cond b (Some (pages_in old.room x)) None) dir

  less_room : HasRoomRemoved P W K (slot_owner P W s) s (slot_inode P W s)
  less_room = (drop_law P W I J K p s y can h).room

  -- the room after, where the slot's page keeps a name
  pub drop_room_kept : IsRoomOf P K (slot_owner P W s) (page_of_slot s) → remove old.room (slot_inode P W s) ≡ room_after n old.tree old.room (removing kind path) false
  drop_room_kept here =
      same_after false old.room (less_room.kept old.room reads.room here) (λ x dir. old_entry x dir ∙ ap Some (sym (lost_none (slot_owner P W s) (pages_in old.room x) x)))

  -- and where it is given back
  pub drop_room_given : (IsRoomOf P K (slot_owner P W s) (page_of_slot s) → ⊥)
      → remove (without_page old.room (slot_owner P W s)) (slot_inode P W s) ≡ room_after n old.tree old.room (removing kind path) true
  drop_room_given none = same_after true (without_page old.room (slot_owner P W s)) (less_room.given old.room reads.room none)
      (pages_left old.tree (pages_in old.room) old.room (slot_owner P W s) old_entry (is_directory-reached P W old.tree can.tidy.coherent reads.tree (slot_owner P W s) (p, can.path) can.slot.directory))

  pub drop_stepped : IsStepped P K old (removing kind path) n
  drop_stepped =
      let (reached, directory) = owner_after P W I J K p s y can h in
      elim (dec_room P K (slot_owner P W s) reached directory (page_of_slot s)) [
        | yes here ↦ stepped false old.room (less_room.kept old.room reads.room here) (drop_room_kept here)
        | no none ↦ stepped true (without_page old.room (slot_owner P W s)) (less_room.given old.room reads.room none) (drop_room_given none)
      ]

pub drop_step_law : DropStepLaw
drop_step_law P W I J K old p path s y n kind can h is reads = drop_stepped P W I J K old p path s y n kind can h is reads
