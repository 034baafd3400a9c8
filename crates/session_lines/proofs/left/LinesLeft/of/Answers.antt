use Rattle.std.proofs.Common.{◌≡◌, length, ◌∙◌, arith}
use Rattle.session_lines.proofs.LeftLaws.{left_at_first}
use Rattle.session_lines.proofs.left.LinesLeft.of.Goals as goal

pub returns : goal.returns
returns c =
    let next = c.sessions.next in
    let lines = c.in_ok-lines.ensures in
    let all : c.sessions.session ≡ c.args.sessions = omega arith in
    let count : next.len ≡ c.args.sessions = omega (arith, c.sessions.invariant.count) in
    let long : length next.items ≡ c.sessions.session = omega (arith, count, next.ok.0) in
    (count, left_at_first c.in_ok-lines.lines.items next.items c.sessions.session long (rw (← all) at lines.below) c.sessions.invariant.first ∙ lines.calls)
