use Rattle.std.proofs.lemmas.Result.{IfOk-weaker}
use Rattle.command_line.proofs.CommandLines.{more_rules, still_local}
use Rattle.command_line.proofs.split.weave_command.Goals as goal

pub returns-clause-app : goal.returns-clause-app
returns-clause-app c =
    let image = more_rules c.in_ok-arg.ensures c.argument.ensures.local c.argument.ensures.rule c.new.ensures.app in
    let sessions = more_rules c.in_ok-arg-2.ensures c.argument-2.ensures.local c.argument-2.ensures.rule image in
    IfOk-weaker c.arg-3.result _ _ (λ command added. more_rules added c.needed_option.ensures.local c.needed_option.ensures.rule sessions) c.arg-3.ensures

pub returns-clause-local : goal.returns-clause-local
returns-clause-local c =
    let image = still_local c.in_ok-arg.ensures c.argument.ensures.local c.new.ensures.local in
    let sessions = still_local c.in_ok-arg-2.ensures c.argument-2.ensures.local image in
    IfOk-weaker c.arg-3.result _ _ (λ command added. still_local added c.needed_option.ensures.local sessions) c.arg-3.ensures
