-- The next step of a running call was made, taken in, entered and answered: what that did, whatever else is known of the calls.
use Rattle.std.specs.Prelude.{◌≡◌, ℕ, ◌+◌, ◌-◌, Bool, true, ◌==◌, ◌||◌, if◌then◌else◌, List, [], ◌∷◌, ◌++◌, set, Option, None, Some, Ok, Err}
use Rattle.pm_trait.specs.DeviceView.{DeviceView, Acknowledges}
use Rattle.pm_trait.specs.Unfolds.{Takes, fences_in}
use Rattle.tree_model.specs.declared.reply.Reply.{Reply}
use Rattle.tree_model.specs.declared.reply.Reply.TheVariants.{Done, Fault}
use Rattle.volume.specs.Volume.{VolumeView}
use Rattle.volume.specs.declared.next.Next.{Next}
use Rattle.volume.specs.declared.next.Next.TheVariants.{More, Ended as HasEnded}
use Rattle.running_calls.specs.declared.running.Running.{Running}
use Rattle.running_calls.specs.Stages.{StandsNext, IsNext, EntersAt, step_of, left_of}
use Rattle.sessions.specs.Interleave.{InterleaveView}
use Rattle.sessions.specs.Tasks.{held_by_all}
use Rattle.sessions.specs.declared.entry.Entry.{Entry}
use Rattle.sessions.specs.declared.entry.StepReply.{StepReply}
use Rattle.sessions.specs.declared.entry.StepReply.TheVariants.{Running as RunsOn, Ended}
use Rattle.sessions.specs.declared.entry.WeaveReply.{WeaveReply}
use Rattle.sessions.specs.declared.entry.WeaveReply.TheVariants.{Plain}
use Rattle.sessions.specs.declared.task.Task.{Task}

-- ---- the entry

abbrev pub entry_of : List (Option Task) → ℕ → ℕ → WeaveReply → Entry
entry_of tasks session number reply = record { session = session; number = number; reply = reply; inodes = (held_by_all tasks).inodes; pages = (held_by_all tasks).pages }

-- with an entry more
abbrev pub with_entry : InterleaveView → ℕ → ℕ → WeaveReply → List Entry
with_entry weave session number reply = weave.entries ++ entry_of weave.tasks session number reply ∷ []

-- the entry of a running call comes in the step behind which the fences are left that come behind its commit, and where it has no fence
abbrev pub enters_now : ℕ → ℕ → Bool
enters_now fences behind = (fences == 0) || (fences == behind + 1)

abbrev pub fences_of_task : VolumeView → List ℕ → Task → ℕ
fences_of_task volume bytes task = fences_in (left_of volume bytes task.running)

abbrev pub entries_behind : InterleaveView → ℕ → List ℕ → Task → Reply → List Entry
entries_behind weave session bytes task reply =
    if enters_now (fences_of_task weave.volume bytes task) task.behind then with_entry weave session task.number (Plain reply) else weave.entries

-- what it is answered that has given this reply, or none so far: only `Done` comes later
abbrev pub told_by : Option Reply → Reply
told_by None = Done
told_by (Some reply) = reply

-- ---- the step

-- It was made to its fence, and the volume has taken it in.
pub record MadeStep (old new : VolumeView) (before after : DeviceView) (bytes : List ℕ) (running : Running) (next : Next Running) : Type 0 where
  pub takes : Takes {T = Unit {0}} {E = Unit {0}} (step_of old bytes running) before after (Ok tt)
  pub next_is : IsNext running next
  pub enters : EntersAt running (record old { kept = old.kept - (step_of old bytes running).events }) new
  pub stands : StandsNext new after bytes next

-- Its fence failed, and the volume is stopped.
pub record FailedStep (old new : VolumeView) (before after : DeviceView) (bytes : List ℕ) (running : Running) : Type 0 where
  pub takes : Takes {T = Unit {0}} {E = Unit {0}} (step_of old bytes running) before after (Err tt)
  pub stopped : new ≡ record old { stopped = true }

-- The session runs no call meanwhile. The call goes on, or has ended and is acknowledged, or its fence failed.
pub data HasAdvanced (old new : InterleaveView) (before after : DeviceView) (session : ℕ) (task : Task) (bytes : List ℕ) (reply : StepReply) : Type 0 where
  goes_on : (running : Running) → MadeStep old.volume new.volume before after bytes task.running (More running)
      → new ≡ record old {
        volume = new.volume;
        tasks = set old.tasks session (Some (record task { running = running }));
        entries = entries_behind old session bytes task Done;
      } → reply ≡ RunsOn task.number → HasAdvanced old new before after session task bytes reply
  ends : (told : Reply) (fenced : DeviceView) → MadeStep old.volume new.volume before fenced bytes task.running (HasEnded told) → Acknowledges fenced after
      → new ≡ record old { volume = new.volume; entries = entries_behind old session bytes task told } → reply ≡ Ended task.number (Plain told)
      → HasAdvanced old new before after session task bytes reply
  fails : FailedStep old.volume new.volume before after bytes task.running → new ≡ record old { volume = new.volume } → reply ≡ Ended task.number (Plain Fault)
      → HasAdvanced old new before after session task bytes reply

-- ---- an answer at once

-- The call is an entry, and is acknowledged.
pub record HasAnsweredAtOnce (old new : InterleaveView) (before after : DeviceView) (session number : ℕ) (answer : WeaveReply) (reply : StepReply) : Type 0 where
  pub weave : new ≡ record old { entries = with_entry old session number answer }
  pub acked : Acknowledges before after
  pub told : reply ≡ Ended number answer
