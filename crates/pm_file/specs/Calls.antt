-- The calls to a file, and to what stands behind a device.
use Rattle.std.specs.Prelude.{◌≡◌, ℕ, List, [], Option, None, Some}
use Rattle.pm_file.specs.declared.file_medium.FileMedium.{FileMedium}
use Rattle.pm_file.specs.declared.backing.Backing.{Backing}
use Rattle.pm_file.specs.declared.backing.Backing.TheVariants.{File, Nothing}

-- how many of them failed
abbrev pub failed_calls : {F : Type 0} → FileMedium F → ℕ
failed_calls medium = medium.faults

abbrev pub failed_behind : {F : Type 0} → Backing F → ℕ
failed_behind (File medium) = failed_calls medium
failed_behind (Nothing faults) = faults

-- the words that stand behind a device, where it is known: a file's aren't, and nothing has none
abbrev pub words_behind : {F : Type 0} → Backing F → Option (List ℕ)
words_behind (File medium) = None
words_behind (Nothing faults) = Some []

-- its file has just so many bytes; nothing has none
abbrev pub HasLength : {F : Type 0} → (F → ℕ → Type 0) → Backing F → ℕ → Type 0
HasLength is_length (File medium) bytes = is_length medium.file.file bytes
HasLength is_length (Nothing faults) bytes = bytes ≡ 0
