use Rattle.std.proofs.Common.{sym, ap, ◌∙◌, arith}
use Rattle.session_lines.specs.Turns.{has_line, next_line}
use Rattle.session_lines.proofs.LeftLaws.{session_below, place_inside, next_line-at}
use Rattle.session_lines.proofs.left.LinesLeft.line.Goals as goal

pub index-place-requires : goal.index-place-requires
index-place-requires c =
    let inside = c.self.inside in
    let some = ap (λ v. has_line v.lines c.args.session) c.self.view_is ∙ c.requires.some in
    let low = session_below inside.lines.items inside.next.items c.args.session c.self.invariant some in
    omega (arith, low, inside.next.ok.0)

pub index-requires : goal.index-requires
index-requires c =
    let inside = c.self.inside in
    let some = ap (λ v. has_line v.lines c.args.session) c.self.view_is ∙ c.requires.some in
    let within = place_inside inside.lines.items inside.next.items c.args.session c.index-place.result.now c.self.invariant some c.index-place.ensures in
    omega (arith, within, inside.lines.ok.0)

pub returns : goal.returns
returns c =
    let inside = c.self.inside in
    let some = ap (λ v. has_line v.lines c.args.session) c.self.view_is ∙ c.requires.some in
    ap (λ v. next_line v.lines c.args.session) (sym c.self.view_is)
    ∙ next_line-at inside.lines.items inside.next.items c.args.session c.index-place.result.now c.index.result.now c.self.invariant some c.index-place.ensures c.index.ensures
