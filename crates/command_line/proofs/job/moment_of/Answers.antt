use Rattle.std.proofs.Common.{rules, ◌≡◌, Some, None}
use Rattle.script.specs.Lines.{number_of}
use Rattle.command_line.proofs.job.moment_of.Goals as goal

pub returns-in_err-number_of-in-None-Some-Some-2 : goal.returns-in_err-number_of-in-None-Some-Some-2
returns-in_err-number_of-in-None-Some-Some-2 c =
    let call : number_of c.in-None-Some-Some.call.now ≡ Some c.in_ok-number_of-in-None-Some-Some.field-0 = search rules in
    let fence : number_of c.in-None-Some-Some.fence.now ≡ None = search rules in
    let neither : c.from_residual-in_err-number_of-in-None-Some-Some-2.result ≡ None = search rules in
    rw (c.in-None-Some-Some.is-0, c.in-None-Some-Some.is-1, c.in-None-Some-Some.is-2, call, fence) neither
