use Rattle.std.proofs.Common.{◌≡◌, ◌<◌, ◌≤◌, length, ap, ◌∙◌, arith}
use Rattle.session_lines.proofs.TurnLaws.{left_of, turn_here, turn_passed}
use Rattle.session_lines.proofs.left.LinesLeft.turn.Goals as goal

pub returns-then-index-len : goal.returns-then-index-len
returns-then-index-len c =
    let inside = c.self.inside in
    let sessions = c.len-sessions.result in
    let long : sessions ≡ length inside.next.items = omega (arith, c.len-sessions.ensures, inside.next.ok.0) in
    let within : c.index.result.now < length inside.lines.items = omega (arith, c.len.ensures, inside.lines.ok.0) in
    turn_here inside.lines.items inside.next.items sessions c.args.byte c.turns.step c.index.result.now c.self.invariant long c.turns-test.true c.index.ensures within
    c.args.self.now (ap (λ n. left_of n inside.next.items inside.lines.items) c.len-sessions.ensures ∙ c.self.view_is) c.turns.invariant

pub turns-preserved : goal.turns-preserved
turns-preserved c =
    let inside = c.self.inside in
    let sessions = c.len-sessions.result in
    let long : sessions ≡ length inside.next.items = omega (arith, c.len-sessions.ensures, inside.next.ok.0) in
    let behind : length inside.lines.items ≤ c.index.result.now = omega (arith, c.len.ensures, inside.lines.ok.0) in
    turn_passed inside.lines.items inside.next.items sessions c.args.byte c.turns.step c.index.result.now c.self.invariant long c.turns-test.true c.index.ensures behind
    c.args.self.now (ap (λ n. left_of n inside.next.items inside.lines.items) c.len-sessions.ensures ∙ c.self.view_is) c.turns.invariant
