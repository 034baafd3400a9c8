-- Which device the words of a command line need.
use Rattle.std.specs.Prelude.{◌≡◌, Bool, List, Some, None}
use Rattle.command_line.specs.declared.job.Job.{Job}
use Rattle.command_line.specs.declared.job.Job.TheVariants.{Mkfs}
use Rattle.command_line.specs.declared.wanted.Wanted.{Wanted}
use Rattle.command_line.specs.declared.wanted.Wanted.TheVariants.{Nothing, Make, Existing}
use Rattle.command_line.specs.CommandLine.{Word}
use Rattle.command_line.specs.Job.{job_of, image_of, stores_of, TakesVolume}

-- An image that is there, for this job: it says whether the job stores.
pub record WantsExisting (words : List Word) (path : Word) (stores : Bool) : Type 0 where
  pub job : Job
  pub asked : job_of words ≡ Some job
  pub takes : TakesVolume job
  pub stored : stores ≡ stores_of job
  pub image : path ≡ image_of words

-- none where no job is asked; for `mkfs` its image and pages; for every other job its image, and whether the job stores
abbrev pub Wants : List Word → Wanted → Type 0
Wants words Nothing = job_of words ≡ None
Wants words (Make path pages) = (job_of words ≡ Some (Mkfs pages)) × (path ≡ image_of words)
Wants words (Existing path stores) = WantsExisting words path stores
