-- A crash in a step of a running call, whatever its command but a rename, of the words alone: also where the step's fence fails. P is the number of
-- pages, I the words before the step, J those that it makes.
use Rattle.std.specs.Prelude.{◌≡◌, ℕ, ◌<◌, true, false, Bool, List, Option, None, Some}
use Rattle.pm_trait.specs.DeviceView.{DeviceView}
use Rattle.tree_model.specs.Run.{State}
use Rattle.tree_model.specs.declared.command.Command.{Command}
use Rattle.mixing_laws.specs.Mixed.{Range}
use Rattle.image_reading.specs.Residue.{Residue}
use Rattle.image_reading.specs.Soundness.{Sound}
use Rattle.image_laws.specs.CreateStep.{IsStepped}
use Rattle.image_laws.specs.Quiet.{IsMix}
use Rattle.content_laws.specs.Torn.{ReadsTorn}
use Rattle.volume.specs.Volume.{VolumeView}
use Rattle.volume.specs.Costs.{events_of}
use Rattle.volume.specs.Stages.{keeping}
use Rattle.volume.specs.declared.plan.Action.{Action}
use Rattle.running_calls.specs.declared.running.Running.{Running}
use Rattle.running_calls.specs.Stages.{begun, step_of}
use Rattle.waiting_laws.specs.Beside.{IsReady, KeepsMeaning, Commits}
use Rattle.running_laws.specs.Waits.{bytes_of_command, Waits}
use Rattle.running_laws.specs.Steps.{commits, given_inode, range_of, runs_beside}

-- Every crash is sound, and leaves the range below the size of its file torn.
abbrev pub TearsRange : ℕ → List ℕ → List ℕ → Range → Type 0
TearsRange P I J range = (M : List ℕ) → IsMix I J M → Sound P M × ReadsTorn P I M range.file range.offset range.bytes

-- in a step that commits and writes no range, and in one that does both; in one that does neither, and in the first of a growth
abbrev pub CrashIs : Bool → Option Range → ℕ → List ℕ → List ℕ → State → Command → ℕ → Type 0
CrashIs true None P I J state command id = Commits P I J state command id
CrashIs true (Some range) P I J state command id = IsStepped P J state command id × TearsRange P I J range
CrashIs false None P I J state command id = KeepsMeaning P I J
CrashIs false (Some range) P I J state command id = TearsRange P I J range

abbrev pub FirstCrashLaw : Type 0
FirstCrashLaw = (volume : VolumeView) (device : DeviceView) (state : State) (command : Command) (action : Action) (running : Running) (others : Residue) (J : List ℕ)
    → IsReady volume device state command action others → 0 < events_of action → begun action ≡ Some running → runs_beside running ≡ true
    → (step_of (keeping volume action) (bytes_of_command command) running).Makes device.words J
    → CrashIs (commits running) (range_of (bytes_of_command command) running) volume.size device.words J state command (given_inode running)

-- A waiting call writes no range in its next step.
abbrev pub LaterCrashLaw : Type 0
LaterCrashLaw = (volume : VolumeView) (device : DeviceView) (state : State) (command : Command) (running : Running) (others : Residue) (J : List ℕ)
    → Waits volume device state command running others → (step_of volume (bytes_of_command command) running).Makes device.words J
    → CrashIs (commits running) None volume.size device.words J state command (given_inode running)
