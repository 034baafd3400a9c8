-- Command lines, and the jobs that they ask for, computed. A line is split at each blank, so that two blanks have an empty word between
-- them; the program's name goes before it.
use Rattle.std.proofs.Common.{◌≡◌, refl, true, Bool, not, List, [], ◌∷◌, Option, Some, None, codes, map}
use Rattle.std.proofs.Common.{is_some}
use Rattle.std.specs.List.{list_all, slice_split}
use Rattle.hex.proofs.OnLiterals.{hex_on_literals}
use Rattle.clap.proofs.OnLiterals.{clap_on_literals}
use Rattle.script.specs.Lines.{is_space}
use Rattle.crash_replay.specs.declared.moment.Moment.TheVariants.{At, Before}
use Rattle.command_line.specs.declared.job.Job.{Job}
use Rattle.command_line.specs.declared.job.Job.TheVariants.{Mkfs, Run, Tree, Check, Crash, Work, Weave}
use Rattle.command_line.specs.CommandLine.{Word, split_of}
use Rattle.command_line.specs.Job.{again_at, image_of, job_of}

abbrev words : Word → List Word
words line = codes "squirrel" ∷ slice_split is_space line

-- what a line asks for, and on which image
abbrev Asked : Type 0
Asked = Option Job × Word

abbrev asked : Word → Asked
asked line = (job_of (words line), image_of (words line))

abbrev on : Job → Word → Asked
on job image = (Some job, image)

abbrev asks_nothing : Word → Bool
asks_nothing line = not (is_some (job_of (words line)))

abbrev ask_nothing : List Word → Bool
ask_nothing lines = list_all asks_nothing lines

-- no word at all
no_words : job_of (codes "squirrel" ∷ []) ≡ None
unfolding split_of clap_on_literals
no_words = refl

-- no such verb; there is no help and no version
no_such_verb : ask_nothing (codes "frob" ∷ codes "ru v" ∷ codes "Run v" ∷ codes "help" ∷ codes "help run" ∷ codes "--help" ∷ codes "-h" ∷ codes "--version" ∷ codes "-V" ∷ codes "run --help" ∷ codes "run v --help" ∷ codes "run -h" ∷ codes "run v --version" ∷ codes "run -V" ∷ codes "crash --help" ∷ []) ≡ true
unfolding split_of clap_on_literals hex_on_literals
no_such_verb = refl

-- an option or `--` before the verb, too few or too many words, an option that the verb lacks
misplaced : ask_nothing (codes "-- run v" ∷ codes "--keep 00 crash v --at 1" ∷ codes "run" ∷ codes "run v w" ∷ codes "run --" ∷ codes "run -- v w" ∷ codes "run -x" ∷ codes "mkfs v" ∷ codes "mkfs 16" ∷ codes "mkfs v 16 17" ∷ codes "mkfs v 16 --keep 00" ∷ codes "check v --at 1" ∷ []) ≡ true
unfolding split_of clap_on_literals hex_on_literals
misplaced = refl

-- `run` on what is no option, and on what stands behind `--`
images : map asked (codes "run v" ∷ codes "run help" ∷ codes "run run" ∷ codes "run -" ∷ codes "run " ∷ codes "run v --" ∷ codes "run -- -x" ∷ codes "run -- --" ∷ []) ≡ on Run (codes "v") ∷ on Run (codes "help") ∷ on Run (codes "run") ∷ on Run (codes "-") ∷ on Run [] ∷ on Run (codes "v") ∷ on Run (codes "-x") ∷ on Run (codes "--") ∷ []
unfolding split_of clap_on_literals hex_on_literals
images = refl

-- the jobs without options
other_jobs : map asked (codes "tree v" ∷ codes "check v" ∷ codes "mkfs v 65536" ∷ []) ≡ on Tree (codes "v") ∷ on Check (codes "v") ∷ on (Mkfs 65536) (codes "v") ∷ []
unfolding split_of clap_on_literals hex_on_literals
other_jobs = refl

-- seeds and counts to the ends of their ranges, with zeros before them and behind `--`
works : map asked (codes "work v 1 100" ∷ codes "work v 01 0001" ∷ codes "work -- v 01 0001" ∷ codes "work v 18446744073709551615 1000000" ∷ codes "work v 0 1" ∷ []) ≡ on (Work 1 100) (codes "v") ∷ on (Work 1 1) (codes "v") ∷ on (Work 1 1) (codes "v") ∷ on (Work 18446744073709551615 1000000) (codes "v") ∷ on (Work 0 1) (codes "v") ∷ []
unfolding split_of clap_on_literals hex_on_literals
works = refl

-- no number of lines or none in its range, no seed, too few or too many words, an option
no_work : ask_nothing (codes "work" ∷ codes "work v" ∷ codes "work v 1" ∷ codes "work v 1 0" ∷ codes "work v 1 1000001" ∷ codes "work v -1 2" ∷ codes "work v +1 2" ∷ codes "work v 1 2 3" ∷ codes "work v 18446744073709551616 1" ∷ codes "work v --seed 1" ∷ codes "work v 1 2 --keep 00" ∷ codes "work v 1 " ∷ []) ≡ true
unfolding split_of clap_on_literals hex_on_literals
no_work = refl

-- sessions to the ends of their range, and schedules of one byte and of more, the option before and behind them
weaves : map asked (codes "weave v 2 --schedule 0001" ∷ codes "weave --schedule=0001 v 02" ∷ codes "weave v 1 --schedule fF" ∷ codes "weave v 16 --schedule 00" ∷ codes "weave --schedule 00 -- -v 16" ∷ []) ≡ on (Weave 2 (0 ∷ 1 ∷ [])) (codes "v") ∷ on (Weave 2 (0 ∷ 1 ∷ [])) (codes "v") ∷ on (Weave 1 (255 ∷ [])) (codes "v") ∷ on (Weave 16 (0 ∷ [])) (codes "v") ∷ on (Weave 16 (0 ∷ [])) (codes "-v") ∷ []
unfolding split_of clap_on_literals hex_on_literals
weaves = refl

-- no number of sessions or none in its range, no schedule, two of them or one that spells no byte, too many words
no_weave : ask_nothing (codes "weave" ∷ codes "weave v" ∷ codes "weave v 2" ∷ codes "weave v --schedule 00" ∷ codes "weave v 0 --schedule 00" ∷ codes "weave v 17 --schedule 00" ∷ codes "weave v -1 --schedule 00" ∷ codes "weave v 2 00" ∷ codes "weave v 2 --schedule" ∷ codes "weave v 2 --schedule=" ∷ codes "weave v 2 --schedule 0" ∷ codes "weave v 2 --schedule -" ∷ codes "weave v 2 --schedule 0g" ∷ codes "weave v 2 --schedule 00 --schedule 00" ∷ codes "weave v 2 3 --schedule 00" ∷ codes "weave v 2 --keep 00" ∷ []) ≡ true
unfolding split_of clap_on_literals hex_on_literals
no_weave = refl

-- 16 pages
sixteen_pages : map asked (codes "mkfs v 16" ∷ codes "mkfs v 0016" ∷ codes "mkfs v 00000000000000000016" ∷ codes "mkfs -- v 16" ∷ codes "mkfs v -- 16" ∷ []) ≡ on (Mkfs 16) (codes "v") ∷ on (Mkfs 16) (codes "v") ∷ on (Mkfs 16) (codes "v") ∷ on (Mkfs 16) (codes "v") ∷ on (Mkfs 16) (codes "v") ∷ []
unfolding split_of clap_on_literals hex_on_literals
sixteen_pages = refl

-- no number of pages
no_pages : ask_nothing (codes "mkfs v +16" ∷ codes "mkfs v -16" ∷ codes "mkfs v 0x10" ∷ codes "mkfs v 000000000000000000016" ∷ codes "mkfs v 18446744073709551632" ∷ codes "mkfs v " ∷ codes "mkfs v 15" ∷ codes "mkfs v 65537" ∷ []) ≡ true
unfolding split_of clap_on_literals hex_on_literals
no_pages = refl

-- a blank behind the number
blank_pages : job_of (codes "squirrel" ∷ codes "mkfs" ∷ codes "v" ∷ codes "16 " ∷ []) ≡ None
unfolding split_of clap_on_literals
blank_pages = refl

-- after one event, with a keep of one zero byte and no second crash
abbrev plain_crash : Asked
plain_crash = on (Crash (At 1) (0 ∷ []) None) (codes "v")

-- options in any order, before and behind IMAGE, with a blank or `=`
in_any_order : map asked (codes "crash v --keep 00 --at 1" ∷ codes "crash --at 1 v --keep 00" ∷ codes "crash --keep 00 --at 1 v" ∷ codes "crash v --keep=00 --at=1" ∷ codes "crash --keep=00 v --at 01" ∷ codes "crash v --at 1 --keep 00 --" ∷ codes "crash --at 1 --keep 00 -- v" ∷ []) ≡ plain_crash ∷ plain_crash ∷ plain_crash ∷ plain_crash ∷ plain_crash ∷ plain_crash ∷ plain_crash ∷ []
unfolding split_of clap_on_literals hex_on_literals
in_any_order = refl

-- the moment by an event or a fence, a second crash, and words that look like something else
crashes : map asked (codes "crash v --keep fF --at 18446744073709551615" ∷ codes "crash --at 1 --keep 00 -- -v" ∷ codes "crash help --keep 00 --at 1" ∷ codes "crash v --keep 00ff --call 3 --fence 2" ∷ codes "crash --keep2 ff --fence 0 v --again 7 --call 0 --keep 01" ∷ []) ≡ on (Crash (At 18446744073709551615) (255 ∷ []) None) (codes "v") ∷ on (Crash (At 1) (0 ∷ []) None) (codes "-v") ∷ on (Crash (At 1) (0 ∷ []) None) (codes "help") ∷ on (Crash (Before 3 2) (0 ∷ 255 ∷ []) None) (codes "v") ∷ on (Crash (Before 0 0) (1 ∷ []) (Some (again_at 7 (255 ∷ [])))) (codes "v") ∷ []
unfolding split_of clap_on_literals hex_on_literals
crashes = refl

-- no `--keep`, no moment, two of them or half of one, half of a second crash
excluded : ask_nothing (codes "crash v --at 1" ∷ codes "crash v --keep 00" ∷ codes "crash v --keep 00 --at 1 --call 1" ∷ codes "crash v --keep 00 --at 1 --fence 1" ∷ codes "crash v --keep 00 --at 1 --call 1 --fence 1" ∷ codes "crash v --keep 00 --call 1" ∷ codes "crash v --keep 00 --fence 1" ∷ codes "crash v --keep 00 --at 1 --again 1" ∷ codes "crash v --keep 00 --at 1 --keep2 00" ∷ []) ≡ true
unfolding split_of clap_on_literals hex_on_literals
excluded = refl

-- an option twice, with the same value or another
twice : ask_nothing (codes "crash v --keep 00 --at 1 --keep 00" ∷ codes "crash v --keep 00 --at 1 --keep 01" ∷ codes "crash v --keep 00 --at 1 --keep=00" ∷ codes "crash v --keep=00 --keep=00 --at 1" ∷ codes "crash v --keep 00 --at 1 --at 1" ∷ codes "crash v --keep 00 --at 1 --at=2" ∷ []) ≡ true
unfolding split_of clap_on_literals hex_on_literals
twice = refl

-- an option whose value is missing or is another option, and a word that no option has
no_value : ask_nothing (codes "crash v --at 1 --keep" ∷ codes "crash v --keep --at 1" ∷ codes "crash --at 1 --keep -- 00" ∷ codes "crash -- v --at 1 --keep 00" ∷ codes "crash v --kee 00 --at 1" ∷ codes "crash v --KEEP 00 --at 1" ∷ codes "crash v -keep 00 --at 1" ∷ codes "crash v -k 00 --at 1" ∷ codes "crash v --=00 --at 1" ∷ codes "crash v --keep 00 --at 1 --frob 1" ∷ codes "crash v --keep 00 --at 1 w" ∷ []) ≡ true
unfolding split_of clap_on_literals hex_on_literals
no_value = refl

-- HEX that spells no byte, or is none
no_hex : ask_nothing (codes "crash v --at 1 --keep 0" ∷ codes "crash v --keep  --at 1" ∷ codes "crash v --keep= --at 1" ∷ codes "crash v --keep zz --at 1" ∷ codes "crash v --keep 0x00 --at 1" ∷ codes "crash v --keep=00=11 --at 1" ∷ codes "crash v --keep - --at 1" ∷ codes "crash v --keep -00 --at 1" ∷ codes "crash v --keep=-00 --at 1" ∷ codes "crash v --keep 00 --at 1 --again 1 --keep2 0" ∷ codes "crash v --keep 00 --at 1 --again 1 --keep2=" ∷ codes "crash v --keep 00 --at 1 --again 1 --keep2 -" ∷ []) ≡ true
unfolding split_of clap_on_literals hex_on_literals
no_hex = refl

-- no number
no_number : ask_nothing (codes "crash v --keep 00 --at " ∷ codes "crash v --keep 00 --at=" ∷ codes "crash v --keep 00 --at -1" ∷ codes "crash v --keep 00 --at=-1" ∷ codes "crash v --keep 00 --at -" ∷ codes "crash v --keep 00 --at +1" ∷ codes "crash v --keep 00 --at 18446744073709551616" ∷ codes "crash v --keep 00 --call +1 --fence 1" ∷ codes "crash v --keep 00 --call 1 --fence=" ∷ codes "crash v --keep 00 --at 1 --again=-1 --keep2 00" ∷ []) ≡ true
unfolding split_of clap_on_literals hex_on_literals
no_number = refl
