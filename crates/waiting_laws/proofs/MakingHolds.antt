-- While the making of an entry waits: what it has left lies in what it holds, and it may make its next step.
use Rattle.std.proofs.Common.{◌≢◌, inl, inr, refl}
use Rattle.pm_trait.specs.DeviceView.{DeviceView}
use Rattle.pm_trait.specs.Unfolds.{events_in}
use Rattle.layout.specs.Fields.{inode_kind}
use Rattle.tree_model.specs.PathText.{Route}
use Rattle.tree_model.specs.Run.{State}
use Rattle.image_reading.specs.Litter.{IsInode}
use Rattle.image_reading.specs.Residue.{Residue}
use Rattle.volume.specs.Volume.{VolumeView}
use Rattle.volume.specs.Stages.{HasKept}
use Rattle.volume.specs.declared.plan.NewEntry.{NewEntry}
use Rattle.create_ops.specs.declared.run.Stage.{Stage}
use Rattle.create_ops.specs.declared.run.Stage.TheVariants.{Begun, Written, Claimed}
use Rattle.create_ops.specs.Stages.{RunningView, AreTaken, HasNumbers, left_of, StandsStage}
use Rattle.waiting_laws.specs.Beside.{Holds}
use Rattle.waiting_laws.specs.Making.{held_by, left_by, HasWrittenName, WaitsToMake, MakingHoldsLaw, MakingStandsLaw}
use Rattle.waiting_laws.proofs.NamingHolds.{IsAbsentIn, absent_in, absent_named, holds_name, may_put_name, inode_taken, page_taken}
use Rattle.waiting_laws.proofs.MakingWritten.{counts_in}

module _ (volume : VolumeView) (device : DeviceView) (state : State) (path : Route) (others : Residue) where
  absent_by : (named : NewEntry) (stage : Stage) → WaitsToMake volume device state path (record { entry = named; stage = stage }) others → IsAbsentIn volume.size device.words state path named.directory named.slot named.new_page
  absent_by named Begun on = absurd on.name
  absent_by named (Written node) on = absent_in state path named.new_page device node.place on.name on.words.1 on.place
  absent_by named (Claimed node) on = absent_named state path named.new_page on.name on.place

  module _ (running : RunningView) (on : WaitsToMake volume device state path running others) where
    abbrev entry : NewEntry
    entry = running.entry

    name : IsAbsentIn volume.size device.words state path entry.directory entry.slot entry.new_page
    name = absent_by running.entry running.stage on

    inode : IsInode volume.size entry.inode
    inode = let litter = (on.beside.stands.beside.of_inodes.each entry.inode).0 (inl refl) in record { from_one = litter.least; in_range = litter.most }

    used : inode_kind device.words entry.inode ≢ 0
    used = on.beside.stands.beside.kinds entry.inode (inl refl)

    holds_entry : Holds volume device.words (left_by entry) (held_by entry)
    holds_entry = holds_name on.beside name on.knows refl refl entry.inode (λ x among. elim among [ inl is ↦ inl is | inr none ↦ absurd none ]) (λ x among. inr (inl (counts_in entry.kind entry.directory x among))) inode used

    taken : AreTaken volume entry
    taken = record { inode = inode_taken on.beside name on.knows refl refl entry.inode inode used; page = page_taken on.beside name on.knows refl refl }

    numbers : (stage : Stage) → HasWrittenName volume.size device.words state.tree path entry stage → HasNumbers volume entry stage
    numbers Begun written = absurd written
    numbers (Written node) written = taken
    numbers (Claimed node) written = taken

    stands_entry : HasKept volume device (events_in (left_of volume.size running)) → StandsStage volume device running
    stands_entry kept = record {
      going = on.beside.going;
      whole = on.beside.stands.knows.whole;
      words = on.words;
      kept = kept;
      name = may_put_name on.beside name on.knows refl refl entry.name on.name_is;
      place = on.knows.place;
      numbers = numbers running.stage on.name;
    }

pub making_holds : MakingHoldsLaw
making_holds volume device state path running others on = holds_entry volume device state path others running on

pub making_stands : MakingStandsLaw
making_stands volume device state path running others on kept = stands_entry volume device state path others running on kept
