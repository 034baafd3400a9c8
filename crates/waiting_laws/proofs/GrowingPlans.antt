-- What a plan that grows a file says of the words and the volume: its file, and the new pages.
use Rattle.std.proofs.Common.{◌≡◌, ℕ, ◌+◌, ◌-◌, ◌<◌, ◌≤◌, ◌^◌, true, List, length, arith}
use Rattle.std.specs.Prelude.{Contains}
use Rattle.pm_trait.specs.DeviceView.{DeviceView}
use Rattle.layout.specs.Fields.{inode_size}
use Rattle.tree_model.specs.Run.{State}
use Rattle.tree_model.specs.Tree.{is_file}
use Rattle.tree_model.specs.declared.command.Command.{Command}
use Rattle.image_reading.specs.Counts.{IsDistinct}
use Rattle.image_reading.specs.Reading.{pages_of_size}
use Rattle.image_reading.specs.Residue.{Residue}
use Rattle.image_counts.specs.Entries.{IsUnusedDataPage}
use Rattle.volatile_index.specs.Index.{inodes_of_index, pages_of}
use Rattle.volume.specs.Volume.{VolumeView}
use Rattle.volume.specs.Beside.{StandsBeside, IsUntouched}
use Rattle.volume.specs.Entered.{HasPagePlaces}
use Rattle.volume.specs.Stages.{keeping}
use Rattle.volume.specs.declared.plan.Action.{Action}
use Rattle.volume.proofs.LowestPages.{rising_distinct}
use Rattle.volume.proofs.Places.{page_free}
use Rattle.data_ops.specs.declared.grow.Growth.{Growth}
use Rattle.data_ops.specs.declared.grow.Progress.TheVariants.{Begun}
use Rattle.data_ops.specs.GrowthStages.{CanFill, KnowsGrowth}
use Rattle.waiting_laws.specs.Beside.{IsReady}
use Rattle.waiting_laws.specs.Growing.{IsGrowthOf}
use Rattle.waiting_laws.proofs.FileWrites as writes
use Rattle.waiting_laws.proofs.FilePages as files
use Rattle.waiting_laws.proofs.FileTruncations as truncations

-- The file has its old size and is to get the new one, and the others have left nothing of it; the new pages are as many as it grows by, and
-- are used by none. The range ends not past the new size and not before the old one, and where it begins below that it has a byte.
pub record IsPlannedGrowth (volume : VolumeView) (device : DeviceView) (state : State) (growth : Growth) (bytes pages : List ℕ) (others : Residue) : Type 0 where
  pub file : is_file state.tree growth.inode ≡ true
  pub size : inode_size device.words growth.inode ≡ growth.old_size
  pub larger : growth.old_size < growth.new_size
  pub small : growth.new_size ≤ 2 ^ 40
  pub inside : growth.offset + length bytes ≤ growth.new_size
  pub reaches : growth.old_size ≤ growth.offset + length bytes
  pub some : growth.offset < growth.old_size → 0 < length bytes
  pub untouched : IsUntouched volume device.words others growth.inode
  pub count : length pages ≡ pages_of_size growth.new_size - pages_of_size growth.old_size
  pub once : IsDistinct pages
  pub unused : (j : ℕ) → Contains pages j → IsUnusedDataPage volume.size device.words j

pub planned_growth : (volume : VolumeView) (device : DeviceView) (state : State) (command : Command) (action : Action) (growth : Growth) (bytes pages : List ℕ) (others : Residue)
    → IsReady volume device state command action others → IsGrowthOf growth bytes pages command action → IsPlannedGrowth volume device state growth bytes pages others
planned_growth volume device state _ _ _ _ _ others ready (IsGrowthOf.write path writing bytes larger) =
    let for = writes.for_writing volume device state path writing bytes others ready in
    record {
      file = writes.file volume device state path writing bytes others ready;
      size = writes.size volume device state path writing bytes others ready;
      larger = larger;
      small = writes.small volume device state path writing bytes others ready;
      inside = (let count = for.count_is in omega (arith, count));
      reaches = (let count = for.count_is in omega (arith, count, larger));
      some = λ less. writes.some volume device state path writing bytes others ready;
      untouched = writes.untouched volume device state path writing bytes others ready;
      count = writes.count volume device state path writing bytes others ready;
      once = rising_distinct writing.new_pages for.new_pages.rising;
      unused = for.new_pages.each;
    }
planned_growth volume device state _ _ _ _ _ others ready (IsGrowthOf.truncate path resizing larger) =
    let for = truncations.for_resizing volume device state path resizing others ready in
    record {
      file = truncations.file volume device state path resizing others ready;
      size = truncations.size volume device state path resizing others ready;
      larger = larger;
      small = truncations.small volume device state path resizing others ready;
      inside = omega (arith, larger);
      reaches = omega arith;
      some = λ less. absurd (omega (arith, less));
      untouched = truncations.untouched volume device state path resizing others ready;
      count = truncations.count volume device state path resizing others ready;
      once = rising_distinct resizing.new_pages for.new_pages.rising;
      unused = for.new_pages.each;
    }

-- ---- the growth may begin

module _ (volume : VolumeView) (device : DeviceView) (state : State) (others : Residue) (stands : StandsBeside volume device state others) (growth : Growth) (bytes pages : List ℕ) (planned : IsPlannedGrowth volume device state growth bytes pages others) where
  -- its pages may be filled,
  pub can_fill : CanFill volume.size device.words growth bytes (pages_of volume.index growth.inode) pages
  can_fill = record {
    held = files.has_pages volume device state others stands growth.inode planned.file planned.untouched;
    old_size = planned.size;
    free = files.are_free volume device state others stands pages planned.once planned.unused;
    larger = planned.larger;
    small = planned.small;
    inside = planned.inside;
    count = planned.count;
    reaches = planned.reaches;
    some = planned.some;
  }

  -- and taken, where they have their places
  pub knows_begun : (action : Action) → (1 ≤ growth.inode) × (growth.inode ≤ inodes_of_index volume.index) → HasPagePlaces volume growth.inode pages → KnowsGrowth (keeping volume action) growth.inode pages Begun
  knows_begun action within places = record {
    least = within.0;
    most = within.1;
    places = places;
    numbers = record { once = planned.once; free = λ page there. page_free volume device (state, others, stands) page (planned.unused page there) };
  }
