-- The ranges of the numbers that a job is asked with.
use Rattle.std.proofs.Common.{rules, ◌≡◌, ℕ, ◌≤◌, List, refl, subst}
use Rattle.std.specs.Prelude.{Bool, true, false, if◌then◌else◌, Option, Some, None, codes, option_and_then}
use Rattle.clap.specs.Walk.{Row}
use Rattle.layout.specs.Geometry.{IsVolumeSize}
use Rattle.crash_replay.specs.declared.moment.Moment.{Moment}
use Rattle.script.specs.Lines.{is_word, number_of}
use Rattle.command_line.specs.declared.job.Again.{Again}
use Rattle.command_line.specs.declared.job.Job.{Job}
use Rattle.command_line.specs.declared.job.Job.TheVariants.{Mkfs, Run, Tree, Check, Crash, Work, Weave}
use Rattle.command_line.specs.CommandLine.{Word, split_of, value_in}
use Rattle.command_line.specs.Job.{again_of, both, crash_of, hex_bytes_of, is_line_count, is_session_count, is_volume_size, job_in, job_of, mkfs_of_number, moment_of, sessions_of_number, work_of_numbers}

-- what is asked for is in its range
abbrev InRange : Option Job → Type 0
InRange None = Unit {0}
InRange (Some (Mkfs pages)) = IsVolumeSize pages
InRange (Some Run) = Unit {0}
InRange (Some Tree) = Unit {0}
InRange (Some Check) = Unit {0}
InRange (Some (Crash moment keep again)) = Unit {0}
InRange (Some (Work seed count)) = count ≤ 1000000
InRange (Some (Weave sessions schedule)) = (1 ≤ sessions) × (sessions ≤ 16)

fits_size : (asked : ℕ) → is_volume_size asked ≡ true → IsVolumeSize asked
fits_size asked is = search rules

sized : (asked : ℕ) (fits : Bool) → is_volume_size asked ≡ fits → InRange (if fits then Some (Mkfs asked) else None)
sized asked true is = fits_size asked is
sized asked false is = tt

mkfs_in_range : (asked : Option ℕ) → InRange (mkfs_of_number asked)
mkfs_in_range None = tt
mkfs_in_range (Some asked) = sized asked (is_volume_size asked) refl

fits_count : (count : ℕ) → is_line_count count ≡ true → count ≤ 1000000
fits_count count is = search rules

counted : (seed count : ℕ) (fits : Bool) → is_line_count count ≡ fits → InRange (if fits then Some (Work seed count) else None)
counted seed count true is = fits_count count is
counted seed count false is = tt

work_in_range : (seed count : Option ℕ) → InRange (work_of_numbers seed count)
work_in_range None count = tt
work_in_range (Some seed) None = tt
work_in_range (Some seed) (Some count) = counted seed count (is_line_count count) refl

fits_sessions : (sessions : ℕ) → is_session_count sessions ≡ true → (1 ≤ sessions) × (sessions ≤ 16)
fits_sessions sessions is = search rules

woven : (sessions : ℕ) (schedule : Option (List ℕ)) (fits : Bool) → is_session_count sessions ≡ fits → InRange (both Weave (if fits then Some sessions else None) schedule)
woven sessions schedule false is = tt
woven sessions None true is = tt
woven sessions (Some schedule) true is = fits_sessions sessions is

weave_in_range : (sessions : Option ℕ) (schedule : Option (List ℕ)) → InRange (both Weave (sessions_of_number sessions) schedule)
weave_in_range None schedule = tt
weave_in_range (Some sessions) schedule = woven sessions schedule (is_session_count sessions) refl

crash_in_range : (moment : Option Moment) (keep : Option (List ℕ)) (again : Option (Option Again)) → InRange (crash_of moment keep again)
crash_in_range None keep again = tt
crash_in_range (Some moment) None again = tt
crash_in_range (Some moment) (Some keep) None = tt
crash_in_range (Some moment) (Some keep) (Some again) = tt

by_verb : (mkfs run lists check crash work weave : Bool) (asked : Option ℕ) (moment : Option Moment) (keep : Option (List ℕ)) (again : Option (Option Again)) (seed count sessions : Option ℕ) (schedule : Option (List ℕ))
    → InRange (if mkfs then mkfs_of_number asked else if run then Some Run else if lists then Some Tree else if check then Some Check else if crash then crash_of moment keep again else if work then work_of_numbers seed count else if weave then both Weave (sessions_of_number sessions) schedule else None)
by_verb true run lists check crash work weave asked moment keep again seed count sessions schedule = mkfs_in_range asked
by_verb false true lists check crash work weave asked moment keep again seed count sessions schedule = tt
by_verb false false true check crash work weave asked moment keep again seed count sessions schedule = tt
by_verb false false false true crash work weave asked moment keep again seed count sessions schedule = tt
by_verb false false false false true work weave asked moment keep again seed count sessions schedule = crash_in_range moment keep again
by_verb false false false false false true weave asked moment keep again seed count sessions schedule = work_in_range seed count
by_verb false false false false false false true asked moment keep again seed count sessions schedule = weave_in_range sessions schedule
by_verb false false false false false false false asked moment keep again seed count sessions schedule = tt

of_split : (split : Option (Word × List Row)) → InRange (job_in split)
of_split None = tt
of_split (Some split) =
    by_verb (is_word (codes "mkfs") split.0) (is_word (codes "run") split.0) (is_word (codes "tree") split.0) (is_word (codes "check") split.0) (is_word (codes "crash") split.0) (is_word (codes "work") split.0) (is_word (codes "weave") split.0)
    (option_and_then number_of (value_in (codes "PAGES") (Some split)))
    (moment_of (value_in (codes "at") (Some split)) (value_in (codes "call") (Some split)) (value_in (codes "fence") (Some split)))
    (option_and_then hex_bytes_of (value_in (codes "keep") (Some split))) (again_of (value_in (codes "again") (Some split)) (value_in (codes "keep2") (Some split)))
    (option_and_then number_of (value_in (codes "SEED") (Some split))) (option_and_then number_of (value_in (codes "COUNT") (Some split)))
    (option_and_then number_of (value_in (codes "SESSIONS") (Some split))) (option_and_then hex_bytes_of (value_in (codes "schedule") (Some split)))

pub mkfs_size : (words : List Word) (pages : ℕ) → job_of words ≡ Some (Mkfs pages) → IsVolumeSize pages
mkfs_size words pages same = subst InRange same (of_split (split_of words))

pub work_count : (words : List Word) (seed count : ℕ) → job_of words ≡ Some (Work seed count) → count ≤ 1000000
work_count words seed count same = subst InRange same (of_split (split_of words))

pub weave_sessions : (words : List Word) (sessions : ℕ) (schedule : List ℕ) → job_of words ≡ Some (Weave sessions schedule) → (1 ≤ sessions) × (sessions ≤ 16)
weave_sessions words sessions schedule same = subst InRange same (of_split (split_of words))
