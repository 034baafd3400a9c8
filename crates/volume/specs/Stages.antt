-- A call that runs: the events that are kept for it between its steps, and what a step of it does to the volume.
use Rattle.std.specs.Prelude.{◌≡◌, ℕ, ◌+◌, ◌-◌, ◌^◌, ◌<◌, ◌≤◌, true, Option, Some, None, Result, OnOk, OnErr}
use Rattle.pm_trait.specs.DeviceView.{DeviceView}
use Rattle.tree_model.specs.declared.reply.Reply.{Reply}
use Rattle.volume.specs.Volume.{VolumeView}
use Rattle.volume.specs.Costs.{events_of}
use Rattle.volume.specs.declared.next.Next.{Next}
use Rattle.volume.specs.declared.next.Next.TheVariants.{More, Ended}
use Rattle.volume.specs.declared.plan.Action.{Action}

-- the events of the plan are kept for its call
abbrev pub keeping : VolumeView → Action → VolumeView
keeping volume action = record volume { kept = volume.kept + events_of action }

-- The call's events are among those that are kept, and the device has room for all of these.
pub record HasKept (volume : VolumeView) (device : DeviceView) (events : ℕ) : Type 0 where
  pub among : events ≤ volume.kept
  pub countable : volume.kept < 2 ^ 64
  pub room : volume.kept ≤ device.spare

-- What is left behind a step: the call as it is, or nothing, where it gave its reply.
abbrev pub next_by : {R : Type 0} → Option Reply → R → Next R
next_by None running = More running
next_by (Some reply) running = Ended reply

-- A step of so many events was made: they are kept no more, and the volume takes in what the step made. Where its fence failed the
-- volume is stopped, and nothing else of it has changed.
pub record Advances {T E : Type 0} (events : ℕ) (Enters : VolumeView → VolumeView → Type 0) (old new : VolumeView) (result : Result T E) : Type 0 where
  pub made : OnOk result (Enters (record old { kept = old.kept - events }) new)
  pub failed : OnErr result (new ≡ record old { stopped = true })
