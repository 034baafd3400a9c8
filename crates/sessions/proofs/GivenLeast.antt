-- A node that a call makes gets the least inode from 2 on that no node has and no other call holds.
use Rattle.std.proofs.Common.{◌≡◌, ◌≢◌, inl, inr, ℕ, ◌≤◌, List, Option, None, Some, is_some, refl, sym, ap, subst, ◌∙◌, arith, true≢false}
use Rattle.pm_trait.specs.DeviceView.{DeviceView}
use Rattle.tree_model.specs.Run.{State}
use Rattle.tree_model.specs.Tree.{node_at}
use Rattle.tree_model.specs.declared.command.Command.{Command}
use Rattle.naming_laws.specs.Naming.{inode_need}
use Rattle.image_reading.specs.Reading.{Reached}
use Rattle.image_reading.specs.Residue.{Residue}
use Rattle.image_counts.specs.Laws.{ReadsBeside, HasInodesBeside}
use Rattle.image_counts.proofs.Inodes.{free_inode_beside_law}
use Rattle.image_counts.proofs.Nodes.{reached_node}
use Rattle.mixing_laws.specs.Mixed.{Range}
use Rattle.mixing_laws.proofs.Alike.{AreAlike, alike_mixed, unused_alike}
use Rattle.volume.specs.Planned.{IsLeastInode}
use Rattle.volume.specs.Volume.{VolumeView}
use Rattle.volume.specs.declared.plan.Action.{Action}
use Rattle.running_calls.specs.Stages.{begun}
use Rattle.running_calls.specs.declared.running.Running.{Running}
use Rattle.waiting_laws.specs.Beside.{IsReady}
use Rattle.waiting_laws.proofs.MakingBegins.{for_entry}
use Rattle.running_laws.specs.Steps.{given_inode}
use Rattle.running_laws.proofs.BeginPlans.{IsCallOf}
use Rattle.session_laws.specs.Histories.{IsHistory}
use Rattle.sessions.specs.Steps.{IsLeastGiven}
use Rattle.sessions.proofs.GoesIds.{no_removal_makes}

-- ---- of the words and of the history

module _ (P : ℕ) (I : List ℕ) (words history : State) (others : Residue) (ranges : List Range) (holds : ReadsBeside P I others words) (is_history : IsHistory ranges history words) where
  inodes : HasInodesBeside P I others words.tree
  inodes = free_inode_beside_law P I others words holds

  alike : AreAlike history.tree words.tree
  alike = alike_mixed ranges history.tree words.tree is_history.tree

  reached_used : (i : ℕ) → Reached P I i → node_at history.tree i ≢ None
  reached_used i reached none =
      true≢false (sym (reached_node P I words.tree holds.coherent holds.reads.tree i reached) ∙ (alike i).there ∙ ap is_some none)

  pub least_given : (id : ℕ) → IsLeastInode P I id → IsLeastGiven history.tree others id
  least_given id is =
      let low = is.from_two in
      let most = is.free.1 in
      record {
        from_two = low;
        unused = unused_alike history.tree words.tree alike id (inodes.fresh id is.free);
        unheld = λ among. (inodes.used id is.free.0 most).0 (inr among) is.free.2;
        least = λ lower from_two below.
            let first : 1 ≤ lower = omega (arith, from_two) in
            let last : lower ≤ _ = omega (arith, below, most) in
            elim ((inodes.used lower first last).1 (λ none. is.least lower from_two below (first, last, none))) [
              | inl reached ↦ inl (reached_used lower reached)
              | inr among ↦ inr among
            ];
      }

-- ---- whatever it does

abbrev pub GivesLeastBy : State → Residue → Command → Option Running → Type 0
GivesLeastBy history others command None = Unit {0}
GivesLeastBy history others command (Some running) = inode_need command ≡ 1 → IsLeastGiven history.tree others (given_inode running)

none_made : {X : Type 0} (n : ℕ) → n ≡ 0 → n ≡ 1 → X
none_made n none one = absurd (omega (arith, none, one))

module _ (volume : VolumeView) (device : DeviceView) (words history : State) (others : Residue) (ranges : List Range) where
  least_of : (command : Command) (action : Action) → IsCallOf command action → IsReady volume device words command action others → IsHistory ranges history words
      → GivesLeastBy history others command (begun action)
  least_of _ _ (IsCallOf.makes path entry) ready is = λ one.
      let stands = ready.prepared.stands in
      least_given volume.size device.words words history others ranges (record { coherent = stands.sound.coherent; beside = stands.beside; reads = stands.reads }) is
      entry.inode (for_entry volume device words path entry others ready).inode_is
  least_of _ _ (IsCallOf.links from to link) ready is = none_made 0 refl
  least_of _ _ (IsCallOf.removes path removal) ready is = none_made _ (no_removal_makes removal.loss.kind path)
  least_of _ _ (IsCallOf.moves from to moving) ready is = none_made 0 refl
  least_of _ _ (IsCallOf.keeps_names from to) ready is = none_made 0 refl
  least_of _ _ (IsCallOf.writes path writing bytes) ready is = none_made 0 refl
  least_of _ _ (IsCallOf.writes_nothing path offset) ready is = none_made 0 refl
  least_of _ _ (IsCallOf.resizes path resizing) ready is = none_made 0 refl
  least_of _ _ (IsCallOf.keeps_size path size) ready is = none_made 0 refl
  least_of _ _ (IsCallOf.reads command action stays none) ready is = subst (GivesLeastBy history others command) (sym none) tt

  pub least_by : (command : Command) (action : Action) (running : Running) → IsCallOf command action → IsReady volume device words command action others
      → IsHistory ranges history words → begun action ≡ Some running → inode_need command ≡ 1 → IsLeastGiven history.tree others (given_inode running)
  least_by command action running call ready is starts = subst (GivesLeastBy history others command) starts (least_of command action call ready is)
