-- A write begins beside other calls: its first stage stands once its events are kept.
use Rattle.std.proofs.Common.{◌≡◌, inl, ℕ, ◌+◌, ◌<◌, ◌≤◌, Bool, true, false, nat_le, cond, List, length, refl, ap, subst, arith}
use Rattle.std.specs.Prelude.{if◌then◌else◌}
use Rattle.std.proofs.lemmas.Bool.{le-leb, lt-leb}
use Rattle.std.proofs.lemmas.Bool.Decides.{nat_tests}
use Rattle.pm_trait.specs.DeviceView.{DeviceView}
use Rattle.pm_trait.specs.Unfolds.{events_in}
use Rattle.tree_model.specs.PathText.{Route}
use Rattle.tree_model.specs.Run.{State}
use Rattle.tree_model.specs.declared.command.Command.TheVariants.{Write}
use Rattle.image_reading.specs.Residue.{Residue}
use Rattle.image_reading.specs.Soundness.{Rule}
use Rattle.volatile_index.specs.Index.{inodes_of_index, pages_of}
use Rattle.volume.specs.Costs.{span_events, fence_events, growth_events, events_of}
use Rattle.volume.specs.Volume.{VolumeView}
use Rattle.volume.specs.Beside.{StandsBeside}
use Rattle.volume.specs.Stages.{HasKept, keeping}
use Rattle.volume.specs.declared.plan.Writing.{Writing}
use Rattle.volume.specs.declared.plan.Action.TheVariants.{Write as WriteBytes}
use Rattle.volume.proofs.PlanActions.{directory_within}
use Rattle.data_ops.specs.declared.grow.Progress.TheVariants.{Begun}
use Rattle.data_ops.specs.declared.write.Stage.TheVariants.{Inside, Growing}
use Rattle.data_ops.specs.Writing.{growth_of}
use Rattle.data_ops.specs.WriteStages.{IsWriteAt, CanOverwrite, StandsStage, begun_writing, left_of}
use Rattle.waiting_laws.specs.Beside.{IsReady}
use Rattle.waiting_laws.specs.Growing.{IsGrowthOf}
use Rattle.waiting_laws.specs.Writing.{WritingBeginsLaw}
use Rattle.waiting_laws.proofs.FilePages as files
use Rattle.waiting_laws.proofs.ReadyStands.{bounded, has_begun}
use Rattle.waiting_laws.proofs.GrowingPlans.{IsPlannedGrowth, planned_growth, can_fill, knows_begun}
use Rattle.waiting_laws.proofs.FileWrites as writes

abbrev events_by : Writing → Bool → ℕ
events_by writing inside = cond inside (span_events writing.offset (writing.offset + writing.count) + fence_events) (growth_events writing.old_size writing.offset (length writing.new_pages))

-- ---- its first stage

module _ (volume : VolumeView) (device : DeviceView) (state : State) (path : Route) (writing : Writing) (bytes : List ℕ) (others : Residue)
    (ready : IsReady volume device state (Write path writing.offset bytes) (WriteBytes writing) others) where
  abbrev stands : StandsBeside volume device state others
  stands = ready.prepared.stands

  within : (1 ≤ writing.inode) × (writing.inode ≤ inodes_of_index volume.index)
  within = directory_within volume device state others stands (Write path writing.offset bytes) (WriteBytes writing) ready.planned

  count : writing.count ≡ length bytes
  count = (writes.for_writing volume device state path writing bytes others ready).count_is

  is_write : IsWriteAt (keeping volume (WriteBytes writing)) writing bytes
  is_write = record { bounded = bounded volume device state (Write path writing.offset bytes) (WriteBytes writing) others ready; least = within.0; most = within.1; count = count }

  -- inside the size
  can_overwrite : writing.offset + writing.count ≤ writing.old_size → CanOverwrite volume.size device.words writing bytes (pages_of volume.index writing.inode)
  can_overwrite inside = record {
    held = files.has_pages volume device state others stands writing.inode (writes.file volume device state path writing bytes others ready) (writes.untouched volume device state path writing bytes others ready);
    some = writes.some volume device state path writing bytes others ready;
    inside = (let size = writes.size volume device state path writing bytes others ready in let long = count in omega (arith, size, long, inside));
    small = stands.sound.coherent Rule.sizes writing.inode
        (files.reached volume device state others stands writing.inode (writes.file volume device state path writing bytes others ready))
        (files.file volume device state others stands writing.inode (writes.file volume device state path writing bytes others ready));
  }

  starts_inside : writing.offset + writing.count ≤ writing.old_size → StandsStage (keeping volume (WriteBytes writing)) device bytes (Inside writing)
  starts_inside inside =
      let costs : events_of (WriteBytes writing) ≡ events_in (left_of volume.size bytes (Inside writing)) =
      (let all = ap (events_by writing) (le-leb (writing.offset + writing.count) writing.old_size inside) in
      let same = ap (λ (n : ℕ). span_events writing.offset (writing.offset + n) + fence_events) count in
      omega (arith, all, same)) in
      record {
        going = ready.going;
        whole = stands.knows.whole;
        at = (is_write, can_overwrite inside);
        kept = subst (HasKept (keeping volume (WriteBytes writing)) device) costs (has_begun volume device state (Write path writing.offset bytes) (WriteBytes writing) others ready);
      }

  -- past it
  starts_past : writing.old_size < writing.offset + writing.count → StandsStage (keeping volume (WriteBytes writing)) device bytes (Growing writing Begun)
  starts_past more =
      let planned : IsPlannedGrowth volume device state (growth_of writing) bytes writing.new_pages others =
      planned_growth volume device state (Write path writing.offset bytes) (WriteBytes writing) (growth_of writing) bytes writing.new_pages others ready (IsGrowthOf.write path writing bytes more) in
      let costs : events_of (WriteBytes writing) ≡ events_in (left_of volume.size bytes (Growing writing Begun)) =
      (let all = ap (events_by writing) (lt-leb (writing.offset + writing.count) writing.old_size more) in omega (arith, all)) in
      record {
        going = ready.going;
        whole = stands.knows.whole;
        at = (
          is_write,
          can_fill volume device state others stands (growth_of writing) bytes writing.new_pages planned,
          knows_begun volume device state others stands (growth_of writing) bytes writing.new_pages planned (WriteBytes writing) within ready.reserved.places,
        );
        kept = subst (HasKept (keeping volume (WriteBytes writing)) device) costs (has_begun volume device state (Write path writing.offset bytes) (WriteBytes writing) others ready);
      }

  starts_by : (inside : Bool) → nat_le (writing.offset + writing.count) writing.old_size ≡ inside → StandsStage (keeping volume (WriteBytes writing)) device bytes (if inside then Inside writing else Growing writing Begun)
  starts_by true test = starts_inside (grind (arith, nat_tests))
  starts_by false test = starts_past (grind (arith, nat_tests))

  pub starts : StandsStage (keeping volume (WriteBytes writing)) device bytes (begun_writing writing)
  starts = starts_by (nat_le (writing.offset + writing.count) writing.old_size) refl

pub writing_begins_law : WritingBeginsLaw
writing_begins_law volume device state path writing bytes others ready = (inl (writing, refl), (λ some. ready.unmarked), starts volume device state path writing bytes others ready)
