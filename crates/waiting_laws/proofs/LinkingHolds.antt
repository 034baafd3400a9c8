-- While one more name for a file waits: what it has left lies in what it holds, and it may make its next step.
use Rattle.std.proofs.Common.{inl, inr, refl, arith}
use Rattle.pm_trait.specs.DeviceView.{DeviceView}
use Rattle.pm_trait.specs.Unfolds.{events_in}
use Rattle.tree_model.specs.PathText.{Route}
use Rattle.tree_model.specs.Run.{State}
use Rattle.image_reading.specs.Litter.{IsInode}
use Rattle.image_reading.specs.Reading.{IsFile, Reached}
use Rattle.image_reading.specs.Residue.{Residue}
use Rattle.image_counts.proofs.Nodes.{size_law}
use Rattle.image_counts.proofs.Paths.{in_range}
use Rattle.volume.specs.Volume.{VolumeView}
use Rattle.volume.specs.Stages.{HasKept}
use Rattle.volume.specs.declared.plan.NewName.{NewName}
use Rattle.entry_steps.specs.Waiting.{HasTakenPage}
use Rattle.unlink_ops.specs.declared.link.Stage.{Stage}
use Rattle.unlink_ops.specs.declared.link.Stage.TheVariants.{Begun, Written, Claimed}
use Rattle.unlink_ops.specs.LinkStages.{RunningView, HasNumbers, left_of, StandsStage}
use Rattle.waiting_laws.specs.Beside.{Holds}
use Rattle.waiting_laws.specs.Linking.{held_by, left_by, HasWrittenName, WaitsToLink, LinkingHoldsLaw, LinkingStandsLaw}
use Rattle.waiting_laws.proofs.NamingHolds.{IsAbsentIn, absent_in, absent_named, holds_name, may_put_name, page_taken}

module _ (volume : VolumeView) (device : DeviceView) (state : State) (from path : Route) (others : Residue) where
  absent_by : (named : NewName) (stage : Stage) → WaitsToLink volume device state from path (record { link = named; stage = stage }) others → IsAbsentIn volume.size device.words state path named.directory named.slot named.new_page
  absent_by named Begun on = absurd on.name
  absent_by named (Written file) on = absent_in state path named.new_page device file.place on.name on.words.1 on.place
  absent_by named (Claimed file) on = absent_named state path named.new_page on.name on.place

  module _ (running : RunningView) (on : WaitsToLink volume device state from path running others) where
    abbrev link : NewName
    link = running.link

    name : IsAbsentIn volume.size device.words state path link.directory link.slot link.new_page
    name = absent_by running.link running.stage on

    file : Reached volume.size device.words link.inode × IsFile device.words link.inode
    file = ((size_law volume.size device.words state on.beside.stands.sound.coherent on.beside.stands.reads).files link.inode).0 on.file

    inode : IsInode volume.size link.inode
    inode = let (least, most) = in_range volume.size device.words on.beside.stands.sound.coherent link.inode file.0 in record { from_one = least; in_range = most }

    holds_link : Holds volume device.words (left_by link) (held_by link)
    holds_link = holds_name on.beside name on.knows refl refl link.inode (λ x none. absurd none) (λ x among. elim among [ inl is ↦ inl is | inr none ↦ absurd none ]) inode (λ none. let one = file.1 in omega (arith, one, none))

    taken : HasTakenPage volume link.new_page
    taken = page_taken on.beside name on.knows refl refl

    numbers : (stage : Stage) → HasWrittenName volume.size device.words state.tree path link stage → HasNumbers volume link stage
    numbers Begun written = absurd written
    numbers (Written node) written = taken
    numbers (Claimed node) written = taken

    stands_link : HasKept volume device (events_in (left_of volume.size running)) → StandsStage volume device running
    stands_link kept = record {
      going = on.beside.going;
      whole = on.beside.stands.knows.whole;
      words = on.words;
      kept = kept;
      name = may_put_name on.beside name on.knows refl refl link.name on.name_is;
      place = on.knows.place;
      numbers = numbers running.stage on.name;
    }

pub linking_holds : LinkingHoldsLaw
linking_holds volume device state from path running others on = holds_link volume device state from path others running on

pub linking_stands : LinkingStandsLaw
linking_stands volume device state from path running others on kept = stands_link volume device state from path others running on kept
