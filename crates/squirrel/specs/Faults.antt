-- What standard error is told of the end of a job.
use Rattle.std.specs.Prelude.{ℕ, List, [], codes}
use Rattle.pm_file.specs.declared.cause.Cause.{Cause}
use Rattle.pm_file.specs.declared.cause.Cause.TheVariants.{Missing, Denied, Held, OtherLength, Full, Failed}
use Rattle.squirrel_cli.specs.declared.status.Status.{Status}
use Rattle.squirrel_cli.specs.declared.status.Status.TheVariants.{Done, Usage, NoMemory, NotVolume, Damaged, DeviceFault, ReadFault, WriteFault, ScriptLimit}

-- the line of a fault, without its newline; nothing where the output tells the end
abbrev pub fault_text : Status → List ℕ
fault_text Done = []
fault_text Usage = codes "squirrel: usage"
fault_text NoMemory = codes "squirrel: no memory"
fault_text NotVolume = []
fault_text (Damaged violation) = []
fault_text DeviceFault = codes "squirrel: device fault"
fault_text ReadFault = codes "squirrel: read fault"
fault_text WriteFault = codes "squirrel: write fault"
fault_text ScriptLimit = codes "squirrel: script too long"

-- the line that says why a device failed, with its newline
abbrev pub cause_text : Cause → List ℕ
cause_text Missing = codes "squirrel: there is no such file\n"
cause_text Denied = codes "squirrel: the file may not be read, or not be written\n"
cause_text Held = codes "squirrel: another job has the file\n"
cause_text OtherLength = codes "squirrel: the file's length is not its volume's (16 to 65536 pages of 4096 bytes)\n"
cause_text Full = codes "squirrel: the disk is full\n"
cause_text Failed = codes "squirrel: a read, a write or a sync of the file failed\n"
