-- What a job works on, as it is seen before and after it.
use Rattle.std.specs.Prelude.{◌≡◌, ℕ, List, Option, None}
use Rattle.pm_trait.specs.DeviceView.{DeviceView}
use Rattle.io_edge.specs.declared.source.Source.{Ghosts as Sources}
use Rattle.io_edge.specs.declared.sink.Sink.{Ghosts as Sinks}

-- The device; the script, the bytes that it has left where they are known, and how often a read of it has failed; the output, what
-- it may be said to have taken, and how often a write to it has failed.
pub record Seen (S K : Type 0) : Type 1 where
  pub device : DeviceView
  pub script : S
  pub left : Option (List ℕ)
  pub read_faults : ℕ
  pub output : K
  pub took : List ℕ → Type 0
  pub write_faults : ℕ

abbrev pub seen : {S K : Type 0} → Sources S → Sinks K → DeviceView → S → K → Seen S K
seen source sink device script output = record {
  device = device;
  script = script;
  left = source.left script;
  read_faults = source.faults script;
  output = output;
  took = sink.took output;
  write_faults = sink.faults output;
}

-- of a job that has no script
abbrev pub seen_alone : {K : Type 0} → Sinks K → DeviceView → K → Seen (Unit {0}) K
seen_alone sink device output = record {
  device = device;
  script = tt;
  left = None;
  read_faults = 0;
  output = output;
  took = sink.took output;
  write_faults = sink.faults output;
}

-- nothing was read or written
pub record IsSilent {S K : Type 0} (old new : Seen S K) : Type 0 where
  pub script : new.script ≡ old.script
  pub output : new.output ≡ old.output

-- nor stored
pub record IsUntouched {S K : Type 0} (old new : Seen S K) : Type 0 where
  pub device : new.device ≡ old.device
  pub silent : IsSilent old new
  pub open silent use *
