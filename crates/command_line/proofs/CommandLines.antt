-- The command as it is built, and what a parse by it gives.
use Rattle.std.proofs.Common.{◌≡◌, ◌∙◌, sym, ap, ap₂, refl, false, true, List, [], ◌∷◌, Option, Some, None, option_map, inl, inr}
use Rattle.std.specs.Prelude.{Result, Ok, Err, IfOk, IsOkAnd}
use Rattle.clap.specs.Built.{AddsArg, AddsSubcommand}
use Rattle.clap.specs.Kinds.{Kinds, HasKind}
use Rattle.clap.specs.Faults.{fault_of, is_simple_and_free}
use Rattle.clap.specs.Matches.{first_value}
use Rattle.clap.specs.Simple.{App, app_of, is_simple, subcommand_of, with_rule, with_subcommand}
use Rattle.clap.specs.Values.{kind_of}
use Rattle.clap.specs.Walk.{Row, Rule, first_of, rows_of, rule_of}
use Rattle.clap.specs.declared.builder.arg.Arg.{Arg}
use Rattle.clap.specs.declared.builder.command.Command.{Command}
use Rattle.clap.specs.declared.builder.command.Command.TheViews.{out-Command as fields_of}
use Rattle.clap.specs.declared.error.Error.{Error}
use Rattle.clap.specs.declared.error.kind.ErrorKind.TheVariants.{OutOfMemory}
use Rattle.clap.specs.declared.parser.matches.Found.{Found}
use Rattle.clap.proofs.WalkLemmas.{first_value-rows}
use Rattle.command_line.specs.CommandLine.{Word, squirrel_app, if_faultless, split_of, value_in}

-- one more argument
pub more_rules : {old new : Command} {a : Arg} {app : App} {rule : Rule} → AddsArg old a new → a.global ≡ false → rule_of a ≡ rule → app_of old ≡ app
    → app_of new ≡ with_rule app rule
more_rules added local rule_is app_is = added.shape local ∙ ap₂ with_rule app_is rule_is

pub still_local : {old new : Command} {a : Arg} → AddsArg old a new → a.global ≡ false → (fields_of old).has_globals ≡ false
    → (fields_of new).has_globals ≡ false
still_local added local before = rw (added.globals, before, local) refl

-- one more subcommand
more_commands : {old sub new : Command} {app leaf : App} → AddsSubcommand old sub new → (fields_of sub).has_globals ≡ false → app_of sub ≡ leaf → app_of old ≡ app
    → app_of new ≡ with_subcommand app leaf.top
more_commands added local leaf_is app_is = added.shape local ∙ ap₂ with_subcommand app_is (ap (λ (a : App). a.top) leaf_is)

-- one more job
pub more_jobs : {E : Type 0} (old new : Command) {app : App} (leaf : App) (job : Result Command E) → IsOkAnd job (λ added. AddsSubcommand old added new)
    → IfOk job (λ command. (fields_of command).has_globals ≡ false) → IfOk job (λ command. app_of command ≡ leaf) → app_of old ≡ app
    → app_of new ≡ with_subcommand app leaf.top
more_jobs old new leaf (Ok added) adds local leaf_is app_is = more_commands adds local leaf_is app_is
more_jobs old new leaf (Err fault) adds local leaf_is app_is = absurd adds

-- the command is one of which the port says exactly what it takes
pub is_simple-squirrel_app : is_simple squirrel_app ≡ true
is_simple-squirrel_app = refl

pub is_simple_and_free-squirrel_app : is_simple_and_free squirrel_app ≡ true
is_simple_and_free-squirrel_app = refl

pub split_taken : (words : List Word) → fault_of squirrel_app words ≡ [] → subcommand_of squirrel_app words ≡ split_of words
unfolding split_of
split_taken words faultless = ap (λ (kinds : Kinds). if_faultless kinds (subcommand_of squirrel_app words)) (sym faultless)

pub split_refused : (words : List Word) (error : Error) → HasKind (fault_of squirrel_app words) error → (kind_of error ≡ OutOfMemory → ⊥) → None ≡ split_of words
unfolding split_of
split_refused words error kind other = go (fault_of squirrel_app words) kind where
  go : (kinds : Kinds) → HasKind kinds error → None ≡ if_faultless kinds (subcommand_of squirrel_app words)
  go [] (inl memory) = absurd (other memory)
  go [] (inr none) = elim none [ ]
  go (first ∷ more) among = refl

pub value_of_rows : (split : Option (Word × List Row)) (found : Found) (id : Word) → Some (rows_of found) ≡ option_map (λ s. s.1) split
    → first_value found id ≡ value_in id split
value_of_rows None found id is = absurd (cc is)
value_of_rows (Some s) found id is = first_value-rows found id ∙ ap (first_of id) (cc is)
