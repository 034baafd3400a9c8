-- The rows of commands that read.
use Rattle.std.proofs.Common.{◌≡◌, ℕ, true, false, [], ◌∷◌, Some, unwrap_or, Ok, Err, sym, ap, ◌∙◌}
use Rattle.pm_trait.specs.DeviceView.{DeviceView}
use Rattle.tree_model.specs.PathText.{Route}
use Rattle.tree_model.specs.Tree.{root_id, id_at, node_at, is_directory, is_file}
use Rattle.tree_model.specs.Walk.{walk}
use Rattle.tree_model.proofs.NodeLaws.{a_file, no_file}
use Rattle.tree_model.proofs.WalkLaws.{id_at-from_walk}
use Rattle.tree_model.specs.Capacity.{Supply}
use Rattle.tree_model.specs.Step.{first, at, fault_of, id_of, refusal_with}
use Rattle.tree_model.specs.Run.{State}
use Rattle.tree_model.specs.declared.command.Command.TheVariants.{Stat as Tell, List as Show}
use Rattle.tree_model.specs.declared.reply.Refusal.{Refusal}
use Rattle.tree_model.specs.declared.reply.Refusal.TheVariants.{NotDir}
use Rattle.volume.specs.Volume.{VolumeView}
use Rattle.image_reading.specs.Residue.{Residue}
use Rattle.image_counts.specs.Laws.{supply_beside}
use Rattle.volume.specs.Beside.{StandsBeside}
use Rattle.volume.specs.Planned.{IsPlannedWith}
use Rattle.volume.specs.declared.plan.Action.TheVariants.{Status, Names}
use Rattle.volume.proofs.WalkedBeside.{stands_tree}

pub told_fails : (supply : Supply) (state : State) (path : Route) (fault : Refusal) → walk state.tree path ≡ Err fault → refusal_with supply state.tree state.room (Tell path) ≡ Some fault
told_fails supply state path fault e = ap (λ w. first (fault_of w ∷ [])) e

pub listed_fails : (supply : Supply) (state : State) (path : Route) (fault : Refusal) → walk state.tree path ≡ Err fault → refusal_with supply state.tree state.room (Show path) ≡ Some fault
listed_fails supply state path fault e = ap (λ w. first (fault_of w ∷ at NotDir (is_file state.tree (id_of state.tree path)) ∷ [])) e

module _ (volume : VolumeView) (device : DeviceView) (state : State) (residue : Residue) (stands : StandsBeside volume device state residue)
    (path : Route) (inode : ℕ) (walked : walk state.tree path ≡ Ok (record { path = path; id = inode })) where
  named : id_at state.tree path ≡ Some inode
  named = id_at-from_walk state.tree path (record { path = path; id = inode }) (stands_tree volume device state residue stands) walked

  pub its_id : id_of state.tree path ≡ inode
  its_id = ap (λ o. unwrap_or o root_id) named

  pub told_planned : IsPlannedWith (supply_beside volume.size residue) device.words state (Tell path) (Status inode)
  told_planned = record { accepted = ap (λ w. first (fault_of w ∷ [])) walked; plan_is = ap Status (sym its_id) }

  pub listed_planned : is_directory state.tree inode ≡ true → IsPlannedWith (supply_beside volume.size residue) device.words state (Show path) (Names inode)
  listed_planned directory =
      let test = ap (is_file state.tree) its_id ∙ no_file (node_at state.tree inode) directory in
      record { accepted = λ i. first (fault_of (walked i) ∷ at NotDir (test i) ∷ []); plan_is = ap Names (sym its_id) }

  pub listed_file : is_directory state.tree inode ≡ false → refusal_with (supply_beside volume.size residue) state.tree state.room (Show path) ≡ Some NotDir
  listed_file other =
      let there = (stands_tree volume device state residue stands).present path inode named in
      let test = ap (is_file state.tree) its_id ∙ a_file (node_at state.tree inode) there other in
      λ i. first (fault_of (walked i) ∷ at NotDir (test i) ∷ [])
