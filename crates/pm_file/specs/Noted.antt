-- What a device over a file has still to write, and what it knows of its file.
use Rattle.std.specs.Prelude.{ℕ, List, Option}
use Rattle.pm_file.specs.declared.cause.Cause.{Cause}
use Rattle.pm_file.specs.declared.device.FilePm.{FilePm}
use Rattle.pm_file.specs.Calls.{failed_behind, HasLength}
use Rattle.pm_file.specs.Mirrored.{listed_lines, HasNextRound, faults_behind, IsWhole}

-- the lines that were flushed since the last fence that succeeded, which the next fence writes
abbrev pub noted_lines : {R F E : Type 0} → FilePm R F E → List ℕ
noted_lines pm = listed_lines pm.mirror

-- it can count one fence more of those that write
abbrev pub CanForget : {R F E : Type 0} → FilePm R F E → Type 0
CanForget pm = HasNextRound pm.mirror

-- how many calls to its file failed
abbrev pub file_faults : {R F E : Type 0} → FilePm R F E → ℕ
file_faults pm = faults_behind failed_behind pm.mirror

-- its file has just the bytes of its words, which only the file's own answer gives
abbrev pub HasWholeFile : {R F E : Type 0} → (F → ℕ → Type 0) → FilePm R F E → Type 0
HasWholeFile is_length pm = IsWhole (HasLength is_length) pm.mirror

-- why the last of its fences that failed did so, if one did
abbrev pub cause_told : {R F E : Type 0} → FilePm R F E → Option Cause
cause_told pm = pm.cause
