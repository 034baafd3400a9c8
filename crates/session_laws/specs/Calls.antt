-- The running calls of sessions, and where they wait beside one another. P is the number of pages, I the words.
use Rattle.std.specs.Prelude.{◌≡◌, ◌⊎◌, ℕ, zero, suc, ◌+◌, ◌^◌, ◌<◌, ◌≤◌, false, nat_le, ◌==◌, List, [], ◌∷◌, ◌++◌, length, set, Option, None, Some, Contains}
use Rattle.pm_trait.specs.DeviceView.{DeviceView}
use Rattle.pm_trait.specs.Unfolds.{events_in, fences_in}
use Rattle.tree_model.specs.Tree.{node_at}
use Rattle.tree_model.specs.Step.{need, refusal_with}
use Rattle.tree_model.specs.Run.{State}
use Rattle.tree_model.specs.declared.command.Command.{Command}
use Rattle.naming_laws.specs.Naming.{inode_need}
use Rattle.mixing_laws.specs.Mixed.{Range}
use Rattle.image_reading.specs.Counts.{IsIn}
use Rattle.image_reading.specs.Residue.{Residue, no_residue}
use Rattle.image_counts.specs.Laws.{supply_beside}
use Rattle.weave_laws.specs.Joined.{joined}
use Rattle.volume.specs.Volume.{VolumeView}
use Rattle.volume.specs.Named.{AreNamedBy}
use Rattle.volume.specs.declared.named.NamedNodes.{NamedNodes}
use Rattle.volume.specs.declared.named.NamedNodes.TheVariants.{All, These}
use Rattle.running_calls.specs.declared.running.Running.{Running}
use Rattle.running_calls.specs.Stages.{left_of}
use Rattle.waiting_laws.specs.Beside.{StandsWith}
use Rattle.running_laws.specs.Waits.{left_by, held_by, bytes_of_command, Waits}
use Rattle.running_laws.specs.Steps.{commits, has_committed, range_of}

-- A call that runs: its number, what it names, how many fences come behind its commit, its command, and what of it is settled.
pub record Call : Type 0 where
  pub number : ℕ
  pub named : NamedNodes
  pub behind : ℕ
  pub command : Command
  pub running : Running

-- what each session runs, in the order of sessions
abbrev pub Calls : Type 0
Calls = List (Option Call)

abbrev pub call_at : Calls → ℕ → Option Call
call_at [] s = None
call_at (call ∷ calls) zero = call
call_at (call ∷ calls) (suc s) = call_at calls s

-- no session runs one
abbrev pub AreIdle : Calls → Type 0
AreIdle calls = (s : ℕ) → call_at calls s ≡ None

-- what the other sessions run
abbrev pub without : Calls → ℕ → Calls
without calls s = set calls s None

-- the steps that a call has left
abbrev pub events_of_call : VolumeView → Call → ℕ
events_of_call volume call = events_in (left_of volume (bytes_of_command call.command) call.running)

abbrev pub fences_of_call : VolumeView → Call → ℕ
fences_of_call volume call = fences_in (left_of volume (bytes_of_command call.command) call.running)

-- ---- all together

abbrev pub left_of_all : VolumeView → Calls → Residue
left_of_all volume [] = no_residue
left_of_all volume (None ∷ calls) = left_of_all volume calls
left_of_all volume (Some call ∷ calls) = joined (left_by volume call.running) (left_of_all volume calls)

abbrev pub events_of_all : VolumeView → Calls → ℕ
events_of_all volume [] = 0
events_of_all volume (None ∷ calls) = events_of_all volume calls
events_of_all volume (Some call ∷ calls) = events_of_call volume call + events_of_all volume calls

abbrev pub listed_range : Option Range → List Range
listed_range None = []
listed_range (Some range) = range ∷ []

abbrev pub range_of_call : Call → List Range
range_of_call call = listed_range (range_of (bytes_of_command call.command) call.running)

-- the ranges that running writes write
abbrev pub ranges_of_all : Calls → List Range
ranges_of_all [] = []
ranges_of_all (None ∷ calls) = ranges_of_all calls
ranges_of_all (Some call ∷ calls) = range_of_call call ++ ranges_of_all calls

-- ---- what two calls have apart

-- (all are numbered from 1)
abbrev pub IsNamed : NamedNodes → ℕ → Type 0
IsNamed All i = 1 ≤ i
IsNamed (These inodes) i = Contains inodes (Some i)

-- No inode is named by both, and none is held by both.
pub record AreApartCalls (volume : VolumeView) (one other : Call) : Type 0 where
  pub named : (i : ℕ) → IsNamed one.named i → ¬ IsNamed other.named i
  pub held : (i : ℕ) → IsIn i (held_by volume one.running).inodes → ¬ IsIn i (held_by volume other.running).inodes

abbrev pub IsApartFrom : VolumeView → Call → Calls → Type 0
IsApartFrom volume call calls = (s : ℕ) (other : Call) → call_at calls s ≡ Some other → AreApartCalls volume call other

-- ---- one call that waits beside others, which have left this

-- Its command names the same as at its begin, and is accepted still beside the others; as much as it needs it has left.
pub record IsToCome (P : ℕ) (words : State) (call : Call) (own others : Residue) : Type 0 where
  pub named : AreNamedBy words.tree call.command call.named
  pub accepted : refusal_with (supply_beside P others) words.tree words.room call.command ≡ None
  pub inodes : inode_need call.command ≤ length own.inodes
  pub pages : need words.tree words.room call.command ≤ length own.pages

-- Its commit is the step behind which so many fences are left.
pub record HasBehind (volume : VolumeView) (call : Call) : Type 0 where
  pub commit : commits call.running ≡ (fences_of_call volume call == call.behind + 1)
  pub committed : has_committed call.running ≡ nat_le (fences_of_call volume call) call.behind

-- The inodes that it holds it names, but for one that no node has; and until it has committed it is to come.
pub record CallWaits (volume : VolumeView) (device : DeviceView) (words : State) (call : Call) (others : Residue) : Type 0 where
  pub waits : Waits volume device words call.command call.running others
  pub holds : (i : ℕ) → IsIn i (held_by volume call.running).inodes → IsNamed call.named i ⊎ (node_at words.tree i ≡ None)
  pub to_come : has_committed call.running ≡ false → IsToCome volume.size words call (left_by volume call.running) others
  pub behind : HasBehind volume call
  pub few : events_of_call volume call < 2 ^ 41

-- ---- calls that wait beside one another, and beside what one more has left

-- The volume stands for the words' state beside what all have left; each waits beside the others; and they are apart.
pub record CallsWait (volume : VolumeView) (device : DeviceView) (words : State) (own : Residue) (calls : Calls) : Type 0 where
  pub beside : StandsWith volume device words own (left_of_all volume calls)
  pub each : (s : ℕ) (call : Call) → call_at calls s ≡ Some call → CallWaits volume device words call (joined own (left_of_all volume (without calls s)))
  pub apart : (s r : ℕ) (call other : Call) → (s ≡ r → ⊥) → call_at calls s ≡ Some call → call_at calls r ≡ Some other → AreApartCalls volume call other
