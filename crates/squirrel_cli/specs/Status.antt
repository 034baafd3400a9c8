-- The exit status of each end of a job.
use Rattle.std.specs.Prelude.{ℕ}
use Rattle.squirrel_cli.specs.declared.status.Status.{Status}
use Rattle.squirrel_cli.specs.declared.status.Status.TheVariants.{Done, Usage, NoMemory, NotVolume, Damaged, DeviceFault, ReadFault, WriteFault, ScriptLimit}

abbrev pub number_of_status : Status → ℕ
number_of_status Done = 0
number_of_status Usage = 2
number_of_status NoMemory = 3
number_of_status NotVolume = 4
number_of_status (Damaged violation) = 4
number_of_status DeviceFault = 5
number_of_status ReadFault = 6
number_of_status WriteFault = 7
number_of_status ScriptLimit = 8
