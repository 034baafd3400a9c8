use Rattle.std.proofs.Common.{rules, ◌≡◌, ◌∙◌, ap, ap₂, subst, sym, []}
use Rattle.clap.specs.Faults.{fault_of, is_simple_and_free}
use Rattle.clap.specs.Kinds.{HasKind, Kinds}
use Rattle.clap.specs.Simple.{is_simple, subcommand_of}
use Rattle.command_line.specs.CommandLine.{squirrel_app}
use Rattle.command_line.proofs.CommandLines.{is_simple-squirrel_app, is_simple_and_free-squirrel_app, split_taken, split_refused}
use Rattle.command_line.proofs.split.Split.of.Goals as goal

pub returns-in-Ok : goal.returns-in-Ok
returns-in-Ok c =
    let app = c.in_ok-command.ensures in
    let simple = ap is_simple app ∙ is_simple-squirrel_app in
    let free = ap is_simple_and_free app ∙ is_simple_and_free-squirrel_app in
    let faultless : fault_of squirrel_app c.args.words.now ≡ [] = sym (ap₂ fault_of app c.as_slice.ensures) ∙ c.in-Ok.ensures.kinds free in
    (c.in-Ok.ensures.matches simple).1 ∙ ap₂ subcommand_of app c.as_slice.ensures ∙ split_taken c.args.words.now faultless

pub returns : goal.returns
returns c =
    let app = c.in_ok-command.ensures in
    let free = ap is_simple_and_free app ∙ is_simple_and_free-squirrel_app in
    let kind = subst (λ (kinds : Kinds). HasKind kinds c.in-Err.error) (ap₂ fault_of app c.as_slice.ensures) (c.in-Err.ensures.kinds free) in
    split_refused c.args.words.now c.in-Err.error kind (search rules)
