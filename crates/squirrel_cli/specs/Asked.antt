-- What kind of job is asked.
use Rattle.command_line.specs.declared.job.Job.{Job}
use Rattle.command_line.specs.declared.job.Job.TheVariants.{Mkfs, Run, Tree, Check, Crash, Work, Weave}

-- it reads the script
abbrev pub ReadsScript : Job → Type 0
ReadsScript (Mkfs pages) = ⊥
ReadsScript Run = Unit {0}
ReadsScript Tree = ⊥
ReadsScript Check = ⊥
ReadsScript (Crash moment keep again) = Unit {0}
ReadsScript (Work seed count) = ⊥
ReadsScript (Weave sessions schedule) = Unit {0}
