-- What `tree` and `check` tell of a sound volume.
use Rattle.std.specs.Prelude.{◌≡◌, ◌⊎◌, ℕ, List}
use Rattle.pm_trait.specs.DeviceView.{DeviceView}
use Rattle.io_edge.specs.Bytes.{Takes, TakesPrefix}
use Rattle.layout.specs.Superblock.{KeepsSuperblock}
use Rattle.tree_model.specs.Run.{State}
use Rattle.tree_model.specs.Tree.{Tree}
use Rattle.image_reading.specs.Reading.{Reads}
use Rattle.image_reading.specs.Repairs.{RepairCounts, HasRepairs}
use Rattle.image_reading.specs.Soundness.{pages_in_image}
use Rattle.mount_scan.specs.Mounts.{IsOnlyMounted, KeepsState}
use Rattle.mount_scan.specs.Reports.{report_text}
use Rattle.script.specs.Texts.{listing_text}
use Rattle.squirrel_cli.specs.declared.status.Status.{Status}
use Rattle.squirrel_cli.specs.declared.status.Status.TheVariants.{Done, WriteFault}
use Rattle.squirrel_cli.specs.Mounts.{ClosesAs}
use Rattle.squirrel_cli.specs.Seen.{Seen}
use Rattle.squirrel_cli.specs.Told.{IsToldOrCut}

-- The text is written and then the volume closed; or a write failed behind a prefix of it, and the device is as it was.
abbrev pub TellsAndCloses : ℕ → State → List ℕ → DeviceView → DeviceView → Status → (List ℕ → Type 0) → (List ℕ → Type 0) → Type 0
TellsAndCloses P state text ran after status took now =
    Takes took text now × ClosesAs P state ran after status
    ⊎ (status ≡ WriteFault) × TakesPrefix took text now × (after ≡ ran)

-- The volume is mounted, the listing of its tree is written, or a prefix of it where a write failed, and it is closed. A crash at any
-- moment leaves the state of the words at entry.
pub record HasListed {S K : Type 0} (old new : Seen S K) (status : Status) : Type 0 where
  pub script : new.script ≡ old.script
  pub listed : DeviceView
  pub mounted : IsOnlyMounted (pages_in_image old.device.words) old.device listed
  pub told : TellsAndCloses (pages_in_image old.device.words) mounted.start (listing_text mounted.start.tree) listed new.device status old.took new.took
  pub keeps : KeepsState (pages_in_image old.device.words) mounted.start old.device new.device
  pub open keeps use *
  -- no word of the superblock but the mark is another
  pub beside : KeepsSuperblock old.device.words new.device.words

-- What the words hold, and what recovery would repair in them, is written, or a prefix of it where a write failed.
pub record HasChecked {S K : Type 0} (old new : Seen S K) (status : Status) : Type 0 where
  pub device : new.device ≡ old.device
  pub script : new.script ≡ old.script
  pub tree : Tree
  pub reads : Reads (pages_in_image old.device.words) old.device.words tree
  pub repairs : RepairCounts
  pub counted : HasRepairs (pages_in_image old.device.words) old.device.words repairs
  pub told : IsToldOrCut Done (report_text tree repairs) status old.took new.took
