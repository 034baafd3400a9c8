-- What an error of the system tells of a file.
use Rattle.std.specs.Prelude.{◌≡◌, ◌⊎◌}
use Rattle.std.specs.declared.io.ErrorKind.{ErrorKind}
use Rattle.std.specs.declared.io.ErrorKind.TheVariants.{NotFound, PermissionDenied, ReadOnlyFilesystem, WouldBlock, InvalidData, StorageFull, QuotaExceeded}
use Rattle.pm_file.specs.declared.cause.Cause.{Cause}
use Rattle.pm_file.specs.declared.cause.Cause.TheVariants.{Missing, Denied, Held, OtherLength, Full}

-- an error of this kind has this cause
pub record IsCauseOf (kind : ErrorKind) (cause : Cause) : Type 0 where
  pub missing : kind ≡ NotFound → cause ≡ Missing
  pub denied : (kind ≡ PermissionDenied) ⊎ (kind ≡ ReadOnlyFilesystem) → cause ≡ Denied
  pub held : kind ≡ WouldBlock → cause ≡ Held
  pub length : kind ≡ InvalidData → cause ≡ OtherLength
  pub full : (kind ≡ StorageFull) ⊎ (kind ≡ QuotaExceeded) → cause ≡ Full
