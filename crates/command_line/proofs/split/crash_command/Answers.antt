use Rattle.std.proofs.lemmas.Result.{IfOk-weaker}
use Rattle.command_line.proofs.CommandLines.{more_rules, still_local}
use Rattle.command_line.proofs.split.crash_command.Goals as goal

pub returns-clause-app : goal.returns-clause-app
returns-clause-app c =
    let image = more_rules c.in_ok-arg.ensures c.argument.ensures.local c.argument.ensures.rule c.new.ensures.app in
    let keep = more_rules c.in_ok-arg-2.ensures c.needed_option.ensures.local c.needed_option.ensures.rule image in
    let at = more_rules c.in_ok-arg-3.ensures c.option.ensures.local c.option.ensures.rule keep in
    let call = more_rules c.in_ok-arg-4.ensures c.option-2.ensures.local c.option-2.ensures.rule at in
    let fence = more_rules c.in_ok-arg-5.ensures c.option-3.ensures.local c.option-3.ensures.rule call in
    let again = more_rules c.in_ok-arg-6.ensures c.option-4.ensures.local c.option-4.ensures.rule fence in
    IfOk-weaker c.arg-7.result _ _ (λ command added. more_rules added c.option-5.ensures.local c.option-5.ensures.rule again) c.arg-7.ensures

pub returns-clause-local : goal.returns-clause-local
returns-clause-local c =
    let image = still_local c.in_ok-arg.ensures c.argument.ensures.local c.new.ensures.local in
    let keep = still_local c.in_ok-arg-2.ensures c.needed_option.ensures.local image in
    let at = still_local c.in_ok-arg-3.ensures c.option.ensures.local keep in
    let call = still_local c.in_ok-arg-4.ensures c.option-2.ensures.local at in
    let fence = still_local c.in_ok-arg-5.ensures c.option-3.ensures.local call in
    let again = still_local c.in_ok-arg-6.ensures c.option-4.ensures.local fence in
    IfOk-weaker c.arg-7.result _ _ (λ command added. still_local added c.option-5.ensures.local again) c.arg-7.ensures
