-- What a replay tells of the lines of its script.
use Rattle.std.specs.Prelude.{◌≡◌, ◌⊎◌, ℕ, ◌+◌, ◌<◌, ◌≤◌, List, length, slice_get, Option, Some}
use Rattle.pm_trait.specs.declared.event.Event.{Event}
use Rattle.pm_trait.specs.Device.{moment_of}
use Rattle.pm_trait.specs.DeviceView.{DeviceView}
use Rattle.tree_model.specs.Tree.{Tree}
use Rattle.tree_model.specs.Run.{Line, State}
use Rattle.tree_model.specs.Allowed.{Allowed}
use Rattle.engine.specs.Run.{command_of, state_after}
use Rattle.recovery.specs.Repairs.{events_of_repairs}
use Rattle.layout.specs.Superblock.{has_mark}
use Rattle.engine.specs.Script.{events_of_marked_run}
use Rattle.crash_replay.specs.Replay.{fences_of_call}
use Rattle.crash_replay.specs.declared.moment.Moment.{Moment}
use Rattle.crash_replay.specs.declared.moment.Moment.TheVariants.{At, Before}
use Rattle.squirrel_cli.specs.Replays.{IsUnbegun, Replayed, acked_before}

-- it is the tree after so many lines
abbrev pub IsTreeAfter : State → List State → ℕ → Tree → Type 0
IsTreeAfter start states n tree = (state : State) × (state_after start states n ≡ Some state) × (tree ≡ state.tree)

-- a crash in the line after these may leave it
abbrev pub MayBeLeftAfter : ℕ → State → List State → List Line → ℕ → Tree → Type 0
MayBeLeftAfter P start states lines n tree =
    (state : State) × (state_after start states n ≡ Some state) × Allowed P state.tree state.room (command_of (slice_get lines n)) tree

-- What so many acknowledgements and the tree that is listed with them tell: of the script's lines, of the trail's events, of which the
-- mount's are the first `mark`, and of the moment.
pub record ReplayTells (P : ℕ) (start : State) (states : List State) (lines : List Line) (events : List Event) (mark : ℕ) (moment : Moment) (acked : ℕ) (tree : Tree) : Type 0 where
  pub allowed : MayBeLeftAfter P start states lines acked tree
  pub at_entry : moment ≡ At 0 → (acked ≡ 0) × (tree ≡ start.tree)
  pub at_end : (k : ℕ) → moment ≡ At k → length events ≤ k → (acked ≡ length states) × IsTreeAfter start states (length states) tree
  pub mount : (fence : ℕ) → moment ≡ Before 0 fence → (acked ≡ 0) × (tree ≡ start.tree)
  pub call : (call fence : ℕ) → moment ≡ Before call fence → 1 ≤ call → call ≤ length states → acked + 1 ≡ call
  -- before its first fence of which there is none, the call is whole
  pub whole : (call fence : ℕ) → moment ≡ Before call fence → 1 ≤ call → call ≤ length states
      → (fence ≡ 0) ⊎ (fences_of_call events mark call < fence) → IsTreeAfter start states call tree
  pub no_call : (call fence : ℕ) → moment ≡ Before call fence → length states < call → (acked ≡ length states) × IsTreeAfter start states (length states) tree

abbrev pub ReplayLaw : Type 0
ReplayLaw = (moment : Moment) (keep : List ℕ) (P : ℕ) (before after : DeviceView) (script rest : Option (List ℕ))
    → IsUnbegun before → (replay : Replayed moment keep P before after script rest)
    → ReplayTells P replay.ran.run.start replay.ran.run.states replay.ran.run.lines replay.trail.events (moment_of replay.ran.mounted.trail) moment
    (acked_before replay.trail (moment_of replay.ran.mounted.trail) moment) replay.tree

-- Behind as many events as the mount and the lines may make, every line is acknowledged, and the tree is the last one.
abbrev pub ReplayEndLaw : Type 0
ReplayEndLaw = (k : ℕ) (keep : List ℕ) (P : ℕ) (before after : DeviceView) (script rest : Option (List ℕ)) → IsUnbegun before → (replay : Replayed (At k) keep P before after script rest)
    → events_of_repairs replay.ran.mount.repairs + events_of_marked_run (has_mark before.words) replay.ran.run.start replay.ran.run.lines replay.ran.run.answers replay.ran.run.states ≤ k
    → (acked_before replay.trail (moment_of replay.ran.mounted.trail) (At k) ≡ length replay.ran.run.states)
    × IsTreeAfter replay.ran.run.start replay.ran.run.states (length replay.ran.run.states) replay.tree
