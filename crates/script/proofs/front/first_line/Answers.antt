use Rattle.std.proofs.Common.{◌<◌, length, arith}
use Rattle.std.proofs.lemmas.Bool.Decides.{nat_tests}
use Rattle.script.proofs.LineLaws.{lines_of-place, lines_of-whole}
use Rattle.script.proofs.front.first_line.Goals as goal

pub returns-in-Some-clause-found : goal.returns-in-Some-clause-found
returns-in-Some-clause-found c = lines_of-place c.args.script.now c.in-Some.end c.in-Some.ensures

pub returns-in-None-clause-found : goal.returns-in-None-clause-found
returns-in-None-clause-found c =
    let some : 0 < length c.args.script.now = grind (arith, nat_tests) in
    lines_of-whole c.args.script.now c.in-None.ensures some
