-- What a command line asks for.
use Rattle.std.specs.Prelude.{ℕ, Bool, true, false, ◌&&◌, nat_le, if◌then◌else◌, List, [], ◌∷◌, Option, Some, None, codes, unwrap_or, option_map, option_and_then}
use Rattle.clap.specs.Walk.{Row}
use Rattle.layout.specs.Geometry.{fewest_pages, most_pages}
use Rattle.script.specs.Lines.{is_word, number_of, bytes_of_hex}
use Rattle.crash_replay.specs.declared.moment.Moment.{Moment}
use Rattle.crash_replay.specs.declared.moment.Moment.TheVariants.{At, Before}
use Rattle.command_line.specs.CommandLine.{Word, split_of, value_in}
use Rattle.command_line.specs.declared.job.Again.{Again}
use Rattle.command_line.specs.declared.job.Job.{Job}
use Rattle.command_line.specs.declared.job.Job.TheVariants.{Mkfs, Run, Tree, Check, Crash, Work, Weave}

-- both, where there are both
abbrev pub both : {A B C : Type 0} → (A → B → C) → Option A → Option B → Option C
both make first second = option_and_then (λ a. option_map (make a) second) first

abbrev pub is_volume_size : ℕ → Bool
is_volume_size pages = nat_le fewest_pages pages && nat_le pages most_pages

abbrev pub mkfs_of_number : Option ℕ → Option Job
mkfs_of_number None = None
mkfs_of_number (Some pages) = if is_volume_size pages then Some (Mkfs pages) else None

-- `mkfs` of PAGES
abbrev pub mkfs_of : Option Word → Option Job
mkfs_of pages = mkfs_of_number (option_and_then number_of pages)

abbrev pub if_filled : Option (List ℕ) → Option (List ℕ)
if_filled None = None
if_filled (Some []) = None
if_filled (Some (byte ∷ rest)) = Some (byte ∷ rest)

-- the bytes that HEX spells, at least one: `-` and an empty word, which spell none, are refused
abbrev pub hex_bytes_of : Word → Option (List ℕ)
hex_bytes_of hex = if_filled (bytes_of_hex hex)

-- the moment by `--at`, or by `--call` and `--fence`, and not by both
abbrev pub moment_of : Option Word → Option Word → Option Word → Option Moment
moment_of (Some at) None None = option_map At (number_of at)
moment_of None (Some call) (Some fence) = both Before (number_of call) (number_of fence)
moment_of None None None = None
moment_of None None (Some fence) = None
moment_of None (Some call) None = None
moment_of (Some at) None (Some fence) = None
moment_of (Some at) (Some call) None = None
moment_of (Some at) (Some call) (Some fence) = None

abbrev pub again_at : ℕ → List ℕ → Again
again_at at keep = record { at = at; keep = keep }

-- the second crash by `--again` and `--keep2`, or none where neither is given; nothing where only one is, or one can't be read
abbrev pub again_of : Option Word → Option Word → Option (Option Again)
again_of None None = Some None
again_of (Some at) (Some hex) = option_map (λ again. Some again) (both again_at (number_of at) (hex_bytes_of hex))
again_of None (Some hex) = None
again_of (Some at) None = None

-- `crash` of a moment, a keep and a second crash, where each of them could be read
abbrev pub crash_of : Option Moment → Option (List ℕ) → Option (Option Again) → Option Job
crash_of moment keep again = option_and_then (λ m. both (Crash m) keep again) moment

-- `crash` of its options
abbrev pub crash_in : Option (Word × List Row) → Option Job
crash_in split = crash_of
    (moment_of (value_in (codes "at") split) (value_in (codes "call") split) (value_in (codes "fence") split))
    (option_and_then hex_bytes_of (value_in (codes "keep") split))
    (again_of (value_in (codes "again") split) (value_in (codes "keep2") split))

-- the lines that may be asked for
abbrev pub is_line_count : ℕ → Bool
is_line_count count = nat_le 1 count && nat_le count 1000000

abbrev pub work_of_numbers : Option ℕ → Option ℕ → Option Job
work_of_numbers None count = None
work_of_numbers (Some seed) None = None
work_of_numbers (Some seed) (Some count) = if is_line_count count then Some (Work seed count) else None

-- `work` of SEED and COUNT
abbrev pub work_of : Option Word → Option Word → Option Job
work_of seed count = work_of_numbers (option_and_then number_of seed) (option_and_then number_of count)

-- the sessions that may be asked for
abbrev pub is_session_count : ℕ → Bool
is_session_count sessions = nat_le 1 sessions && nat_le sessions 16

abbrev pub sessions_of_number : Option ℕ → Option ℕ
sessions_of_number None = None
sessions_of_number (Some sessions) = if is_session_count sessions then Some sessions else None

abbrev pub sessions_of : Option Word → Option ℕ
sessions_of sessions = sessions_of_number (option_and_then number_of sessions)

-- `weave` of SESSIONS and its schedule, where each of them could be read
abbrev pub weave_in : Option (Word × List Row) → Option Job
weave_in split = both Weave (sessions_of (value_in (codes "SESSIONS") split)) (option_and_then hex_bytes_of (value_in (codes "schedule") split))

-- the job of a subcommand
abbrev pub job_of_verb : Word → Option (Word × List Row) → Option Job
job_of_verb verb split =
    if is_word (codes "mkfs") verb then mkfs_of (value_in (codes "PAGES") split)
    else if is_word (codes "run") verb then Some Run
    else if is_word (codes "tree") verb then Some Tree
    else if is_word (codes "check") verb then Some Check
    else if is_word (codes "crash") verb then crash_in split
    else if is_word (codes "work") verb then work_of (value_in (codes "SEED") split) (value_in (codes "COUNT") split)
    else if is_word (codes "weave") verb then weave_in split
    else None

abbrev pub job_in : Option (Word × List Row) → Option Job
job_in None = None
job_in (Some split) = job_of_verb split.0 (Some split)

-- The job that the words ask for, of which the first is the program's name.
abbrev pub job_of : List Word → Option Job
job_of words = job_in (split_of words)

abbrev pub image_in : Option (Word × List Row) → Word
image_in split = unwrap_or (value_in (codes "IMAGE") split) []

-- the image that the job is done on
abbrev pub image_of : List Word → Word
image_of words = image_in (split_of words)

-- the job is one on a volume that is there: each but `mkfs`
abbrev pub TakesVolume : Job → Type 0
TakesVolume (Mkfs pages) = ⊥
TakesVolume Run = Unit {0}
TakesVolume Tree = Unit {0}
TakesVolume Check = Unit {0}
TakesVolume (Crash moment keep again) = Unit {0}
TakesVolume (Work seed count) = Unit {0}
TakesVolume (Weave sessions schedule) = Unit {0}

-- the job may change its image
abbrev pub stores_of : Job → Bool
stores_of (Mkfs pages) = true
stores_of Run = true
stores_of Tree = true
stores_of Check = false
stores_of (Crash moment keep again) = false
stores_of (Work seed count) = true
stores_of (Weave sessions schedule) = true
