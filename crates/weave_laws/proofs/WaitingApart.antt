-- The others have left nothing of a node that loses its name, nor of its directory.
use Rattle.std.proofs.Common.{◌≢◌, ℕ, List, sym, subst, ◌∙◌}
use Rattle.layout.specs.Fields.{slot_inode}
use Rattle.tree_model.specs.PathText.{Route}
use Rattle.tree_model.specs.Run.{State}
use Rattle.image_reading.specs.Counts.{IsIn}
use Rattle.image_reading.specs.Reading.{IsDirectory, slot_owner, Reached, IsReachedSlot}
use Rattle.image_reading.specs.Residue.{Residue, no_residue}
use Rattle.image_counts.specs.Laws.{IsApart}
use Rattle.image_counts.proofs.Paths.{inode_reached}
use Rattle.weave_laws.specs.Joined.{joined}
use Rattle.weave_laws.specs.Waiting.{WaitsBeside, IsLeavingName, LeavesAlone, HasNoSlotOf, WaitingApartLaw}
use Rattle.weave_laws.proofs.WaitingPlaces.{waiting_counted_law}
use Rattle.weave_laws.proofs.WaitingRemovals as removals

module _ (P : ℕ) (I : List ℕ) (state : State) (path : Route) (d s : ℕ) (others : Residue) (waits : WaitsBeside P I no_residue others state) (name : IsLeavingName P I state.tree path d s) where
  named : IsReachedSlot P I s
  named = removals.reached P I state path d s others waits name

  node_reached : Reached P I (slot_inode P I s)
  node_reached = inode_reached P I waits.holds.coherent s named

  -- the page of a slot that is left has a name, and a directory that loses its own has none
  no_slot : (t : ℕ) → IsIn t others.slots → slot_owner P I t ≢ slot_inode P I s
  unfolding slot_owner
  no_slot t left owner =
      let litter = (waits.holds.beside.of_slots.each t).0 left in
      let directory : IsDirectory I (slot_inode P I s) = subst (IsDirectory I) owner litter.page.directory in
      let (u, at, own, lives) = litter.page.slot in
      (removals.can_remove P I state path d s others waits name).0.leaf directory u lives (own ∙ owner)

  right_links : (x : ℕ) → Reached P I x → LeavesAlone P I state.tree others x → ¬ IsIn x others.counts
  right_links x reached alone = (waiting_counted_law P I (joined no_residue others) state x waits.holds reached).1 alone.links

  pub node_apart : LeavesAlone P I state.tree others (slot_inode P I s) → IsApart P I others (slot_inode P I s)
  node_apart alone = record { slots = no_slot; pages = alone.pages; links = right_links (slot_inode P I s) node_reached alone }

  pub directory_apart : LeavesAlone P I state.tree others d → HasNoSlotOf P I others d → IsApart P I others (slot_owner P I s)
  directory_apart alone none =
      let reached = subst (Reached P I) name.owner named.owner in
      subst (IsApart P I others) (sym name.owner) (record { slots = none; pages = alone.pages; links = right_links d reached alone })

pub waiting_apart_law : WaitingApartLaw
waiting_apart_law P I state path d s others waits name node directory none =
    (node_apart P I state path d s others waits name node, directory_apart P I state path d s others waits name directory none)
