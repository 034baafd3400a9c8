-- How a device has its file.
use Rattle.std.specs.Prelude.{◌≡◌, Bool, IsTrue}
use Rattle.pm_file.specs.declared.access.Access.{Access}
use Rattle.pm_file.specs.declared.access.Access.TheVariants.{Write, Read}
use Rattle.pm_file.specs.declared.device.FilePm.{FilePm}

-- the lock of its use was taken: alone to write, and together with others to read
abbrev pub IsHeldFor : {F : Type 0} → (F → Bool) → (F → Bool) → Access → F → Type 0
IsHeldFor is_locked is_shared Write file = IsTrue (is_locked file)
IsHeldFor is_locked is_shared Read file = IsTrue (is_shared file)

-- what it does with its file
abbrev pub access_of : {R F E : Type 0} → FilePm R F E → Access
access_of pm = pm.access

-- it is for reading alone
abbrev pub IsToRead : {R F E : Type 0} → FilePm R F E → Type 0
IsToRead pm = pm.access ≡ Read

-- the device may write into its file
abbrev pub IsToWrite : {R F E : Type 0} → FilePm R F E → Type 0
IsToWrite pm = pm.access ≡ Write
