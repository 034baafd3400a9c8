-- What it does to a device to give the mark of a volume a value.
use Rattle.std.specs.Prelude.{◌≡◌, ℕ, Bool, true, false, Result, IsOk, OnOk}
use Rattle.pm_trait.specs.Device.{LeavesOnly}
use Rattle.pm_trait.specs.DeviceView.{DeviceView, IsSettledView}
use Rattle.pm_trait.specs.Unfolds.{Quietly, Takes}
use Rattle.layout.specs.Superblock.{mark_word, closed_mark}
use Rattle.fence_token.specs.Setting.{setting}
use Rattle.tree_model.specs.Run.{State}
use Rattle.image_reading.specs.Reading.{ReadsAs}
use Rattle.image_reading.specs.Tidy.{Tidy}
use Rattle.volume.specs.Crashes.{MeansState}

-- the device is settled, and its words are tidy and read as the state
pub record IsSettledIn (P : ℕ) (state : State) (device : DeviceView) : Type 0 where
  pub settled : IsSettledView device
  pub tidy : Tidy P device.words
  pub reads : ReadsAs P device.words state

-- The mark was given this value by a step of its own. A crash at any moment leaves words that mean the state, and nothing is
-- acknowledged.
pub record SetsMark {T E : Type 0} (P value : ℕ) (state : State) (before after : DeviceView) (result : Result T E) : Type 0 where
  pub takes : Takes (setting mark_word value) before after result
  pub any_moment : LeavesOnly before.trail after.trail (Quietly (MeansState P state))
  pub there : OnOk result (IsSettledIn P state after)

-- A volume that has the mark needs no close: the device is as before.
abbrev pub Closes : {T E : Type 0} → Bool → ℕ → State → DeviceView → DeviceView → Result T E → Type 0
Closes true P state before after result = IsOk result × (after ≡ before) × IsSettledIn P state after
Closes false P state before after result = SetsMark P closed_mark state before after result
