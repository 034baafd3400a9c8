-- What a report answers, and what it writes. W is the words; their length says how many pages are meant.
use Rattle.std.specs.Prelude.{◌≡◌, ◌⊎◌, ℕ, List, Option, None, Some, Result, Ok, Err}
use Rattle.io_edge.specs.Bytes.{Writes}
use Rattle.script.specs.Check.{check_text}
use Rattle.tree_model.specs.Tree.{Tree}
use Rattle.image_reading.specs.Reading.{Reads}
use Rattle.image_reading.specs.Repairs.{RepairCounts, HasRepairs}
use Rattle.image_reading.specs.Soundness.{IsFirstViolation, pages_in_image}
use Rattle.image_reading.specs.declared.Violation.{Violation}
use Rattle.pm_trait.specs.declared.NoMemory.{NoMemory}
use Rattle.mount_scan.specs.Counting.{AreCountsOf, counts_of}
use Rattle.mount_scan.specs.Mounting.{HoldsVolume, IsSound}
use Rattle.mount_scan.specs.declared.error.ReportError.{ReportError}
use Rattle.mount_scan.specs.declared.error.ReportError.TheVariants as error
use Rattle.mount_scan.specs.declared.reporting.Checked.{Checked}
use Rattle.mount_scan.specs.declared.reporting.Checked.TheVariants.{Sound, Broken}

-- what a check writes of this tree, and of what recovery would repair
abbrev pub report_text : Tree → RepairCounts → List ℕ
report_text T r = check_text (counts_of T r)

-- The words are sound, and the text of the tree that they read as and of what recovery would repair was written, whole or
-- up to a write that failed.
pub record Reports {T E : Type 0} (W : List ℕ) (took now : List ℕ → Type 0) (faults_before faults_after : ℕ) (result : Result T E) : Type 0 where
  pub sound : IsSound W
  pub tree : Tree
  pub reads : Reads (pages_in_image W) W tree
  pub repairs : RepairCounts
  pub counted : HasRepairs (pages_in_image W) W repairs
  pub writes : Writes took now faults_before faults_after (report_text tree repairs) result

-- an answer with which a text was written
abbrev pub IsWritten : Result (Option Violation) ReportError → Type 0
IsWritten result = (result ≡ Ok None) ⊎ (result ≡ Err error.WriteFault)

-- one with which none was
abbrev pub IsUnwritten : Result (Option Violation) ReportError → Type 0
IsUnwritten result = ((violation : Violation) × (result ≡ Ok (Some violation))) ⊎ (result ≡ Err error.NoMemory)

-- what is found in the words before anything is written
abbrev pub IsCheckOf : List ℕ → Result Checked NoMemory → Type 0
IsCheckOf W (Ok (Sound counts)) = IsSound W × AreCountsOf (pages_in_image W) W counts
IsCheckOf W (Ok (Broken violation)) = IsFirstViolation W violation
IsCheckOf W (Err refused) = HoldsVolume W
