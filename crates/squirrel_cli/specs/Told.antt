-- What is told of a device that is not mounted.
use Rattle.std.specs.Prelude.{◌≡◌, ◌≢◌, ◌⊎◌, ℕ, ◌==◌, if◌then◌else◌, List, Result, Ok, Err}
use Rattle.pm_trait.specs.Device.{HasRisen}
use Rattle.image_reading.specs.declared.Violation.{Violation}
use Rattle.io_edge.specs.Bytes.{Takes, TakesPrefix}
use Rattle.io_edge.specs.declared.sink.WriteFault.{WriteFault as Fault}
use Rattle.mount_scan.specs.declared.error.MountError.{MountError}
use Rattle.mount_scan.specs.declared.error.MountError.TheVariants as refused
use Rattle.script.specs.Texts.{not_a_volume_text, damaged_text}
use Rattle.squirrel_cli.specs.declared.status.Status.{Status}
use Rattle.squirrel_cli.specs.declared.status.Status.TheVariants.{Done, NoMemory, NotVolume, Damaged, DeviceFault, WriteFault}

-- this status where the text was written, and else that of a write that failed
abbrev pub status_of_write : Result (Unit {0}) Fault → Status → Status
status_of_write (Ok done) status = status
status_of_write (Err fault) status = WriteFault

-- the text was written and this is the status, or a write failed
abbrev pub IsToldOrCut : Status → List ℕ → Status → (List ℕ → Type 0) → (List ℕ → Type 0) → Type 0
IsToldOrCut status text result took now = (result ≡ status) × Takes took text now ⊎ (result ≡ WriteFault) × TakesPrefix took text now

-- or memory was short
abbrev pub IsToldUnlessShort : List ℕ → Status → (List ℕ → Type 0) → (List ℕ → Type 0) → Type 0
IsToldUnlessShort text result took now = (result ≡ NoMemory) ⊎ IsToldOrCut Done text result took now

-- that a write failed is told just where one has
pub record TellsWrites (result : Status) (before after : ℕ) : Type 0 where
  pub write : result ≡ WriteFault → HasRisen before after
  pub no_write_fault : result ≢ WriteFault → after ≡ before

-- each refusal has its status and its text, but out of memory and a device fault, of which nothing is written
abbrev pub IsToldOf : MountError → Status → (List ℕ → Type 0) → (List ℕ → Type 0) → Type 0
IsToldOf refused.NotVolume result took now = IsToldOrCut NotVolume not_a_volume_text result took now
IsToldOf (refused.Damaged violation) result took now = IsToldOrCut (Damaged violation) (damaged_text violation.rule violation.place) result took now
IsToldOf refused.PmFault result took now = result ≡ DeviceFault
IsToldOf refused.NoMemory result took now = result ≡ NoMemory

-- what words are refused with whose first violation this is: the first rule is that of the length and the first words
abbrev pub refusal_of : Violation → MountError
refusal_of violation = if violation.rule == 1 then refused.NotVolume else refused.Damaged violation
