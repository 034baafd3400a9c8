-- The command line as `clap` sees it: the command and its subcommands, and how they split the words.
use Rattle.std.specs.Prelude.{ℕ, List, [], ◌∷◌, Option, Some, None, codes, true, false, option_map, option_and_then}
use Rattle.std.specs.Borrow.{Bor}
use Rattle.clap.specs.Walk.{Row, Rule, first_of}
use Rattle.clap.specs.Simple.{App, new_rule, new_shape, subcommand_of}
use Rattle.clap.specs.Kinds.{Kinds}
use Rattle.clap.specs.Faults.{fault_of}
use Rattle.clap.specs.declared.builder.action.ArgAction.TheVariants.{Set}

abbrev pub Word : Type 0
Word = List ℕ

-- an argument that has its place among the words and has to be there
abbrev pub argument : Word → Rule
argument id = record (new_rule id) { required = true; action = Some Set }

-- an option that may be given once, with one value: `--NAME VALUE` or `--NAME=VALUE`
abbrev pub option : Word → Rule
option name = record (new_rule name) { long = Some name; action = Some Set }

-- an option that has to be there
abbrev pub needed_option : Word → Rule
needed_option name = record (option name) { required = true }

-- a command with these arguments and no subcommand
abbrev pub command : Word → List Rule → App
command name rules = record { top = record (new_shape name) { rules = rules }; subs = [] }

-- `mkfs IMAGE PAGES`
abbrev pub mkfs_app : App
mkfs_app = command (codes "mkfs") (argument (codes "IMAGE") ∷ argument (codes "PAGES") ∷ [])

-- `run IMAGE`
abbrev pub run_app : App
run_app = command (codes "run") (argument (codes "IMAGE") ∷ [])

-- `tree IMAGE`
abbrev pub tree_app : App
tree_app = command (codes "tree") (argument (codes "IMAGE") ∷ [])

-- `check IMAGE`
abbrev pub check_app : App
check_app = command (codes "check") (argument (codes "IMAGE") ∷ [])

-- `crash IMAGE --keep HEX` and the options of its moment and of a second crash. Which of these exclude each other is for `crash_of`.
abbrev pub crash_app : App
crash_app = command (codes "crash") (argument (codes "IMAGE") ∷ needed_option (codes "keep")
    ∷ option (codes "at") ∷ option (codes "call") ∷ option (codes "fence")
    ∷ option (codes "again") ∷ option (codes "keep2") ∷ [])

-- `work IMAGE SEED COUNT`
abbrev pub work_app : App
work_app = command (codes "work") (argument (codes "IMAGE") ∷ argument (codes "SEED") ∷ argument (codes "COUNT") ∷ [])

-- `weave IMAGE SESSIONS --schedule HEX`
abbrev pub weave_app : App
weave_app = command (codes "weave") (argument (codes "IMAGE") ∷ argument (codes "SESSIONS") ∷ needed_option (codes "schedule") ∷ [])

-- The whole command: one of these is needed, and there is no help and no version to ask for.
abbrev pub squirrel_app : App
squirrel_app = record {
  top = record (new_shape (codes "squirrel")) {
    is_leaf = false;
    subcommand_required = true;
    disable_help_flag = true;
    disable_help_subcommand = true;
    disable_version_flag = true;
  };
  subs = mkfs_app.top ∷ run_app.top ∷ tree_app.top ∷ check_app.top ∷ crash_app.top ∷ work_app.top ∷ weave_app.top ∷ [];
}

-- what was split, where there is no fault
abbrev pub if_faultless : Kinds → Option (Word × List Row) → Option (Word × List Row)
if_faultless [] split = split
if_faultless (kind ∷ more) split = None

-- The subcommand's name and what was found for its arguments, where `clap` takes the words, of which the first is the program's name.
unfoldable pub split_of : List Word → Option (Word × List Row)
split_of words = if_faultless (fault_of squirrel_app words) (subcommand_of squirrel_app words)

-- the name of the subcommand
abbrev pub verb_in : Option (Word × List Row) → Option Word
verb_in split = option_map (λ s. s.0) split

-- the value of an argument or option, if there is one
abbrev pub value_in : Word → Option (Word × List Row) → Option Word
value_in id split = option_and_then (λ s. first_of id s.1) split

-- the text behind a reference, where there is one
abbrev pub given : Option (Bor Word) → Option Word
given text = option_map (λ t. t.now) text
