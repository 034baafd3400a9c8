-- What a status says of the counts of faults.
use Rattle.std.specs.Prelude.{◌≡◌, ◌≢◌}
use Rattle.pm_trait.specs.Device.{HasRisen}
use Rattle.squirrel_cli.specs.declared.status.Status.{Status}
use Rattle.squirrel_cli.specs.declared.status.Status.TheVariants.{Done, NoMemory, DeviceFault, ReadFault, WriteFault}
use Rattle.squirrel_cli.specs.Seen.{Seen}

-- Each fault has its cause, a read or a write that failed has no other answer, and where a fence failed the work is not done, nor is
-- memory short.
pub record TellsFaults {S K : Type 0} (old new : Seen S K) (status : Status) : Type 0 where
  pub device : status ≡ DeviceFault → HasRisen old.device.faults new.device.faults
  pub done : status ≡ Done → new.device.faults ≡ old.device.faults
  pub no_memory : status ≡ NoMemory → new.device.faults ≡ old.device.faults
  pub read : status ≡ ReadFault → HasRisen old.read_faults new.read_faults
  pub no_read_fault : status ≢ ReadFault → new.read_faults ≡ old.read_faults
  pub write : status ≡ WriteFault → HasRisen old.write_faults new.write_faults
  pub no_write_fault : status ≢ WriteFault → new.write_faults ≡ old.write_faults
