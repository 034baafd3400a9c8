use Rattle.std.proofs.Common.{◌+◌, length, drop, ap, ◌∙◌, arith}
use Rattle.session_lines.specs.Places.{first_place}
use Rattle.session_lines.specs.Turns.{has_line, without_next}
use Rattle.session_lines.proofs.LeftLaws.{session_below, place_inside, passed_at}
use Rattle.session_lines.proofs.left.LinesLeft.pass.Goals as goal

pub index-requires : goal.index-requires
index-requires c =
    let inside = c.self.inside in
    let some = ap (λ v. has_line v.lines c.args.session) c.self.view_is ∙ c.requires.some in
    let low = session_below inside.lines.items inside.next.items c.args.session c.self.invariant some in
    omega (arith, low, inside.next.ok.0)

pub overflow_add-behind : goal.overflow_add-behind
overflow_add-behind c =
    let inside = c.self.inside in
    let some = ap (λ v. has_line v.lines c.args.session) c.self.view_is ∙ c.requires.some in
    let within = place_inside inside.lines.items inside.next.items c.args.session c.index.result.now c.self.invariant some c.index.ensures in
    omega (arith, within, inside.lines.ok.0, inside.lines.ok.1, inside.lines.small)

pub next_of-requires : goal.next_of-requires
next_of-requires c =
    let inside = c.self.inside in
    let some = ap (λ v. has_line v.lines c.args.session) c.self.view_is ∙ c.requires.some in
    let within = place_inside inside.lines.items inside.next.items c.args.session c.index.result.now c.self.invariant some c.index.ensures in
    record { within = omega (arith, within, ap length c.as_slice.ensures.value) }

pub index_mut-requires : goal.index_mut-requires
index_mut-requires c =
    let inside = c.self.inside in
    let some = ap (λ v. has_line v.lines c.args.session) c.self.view_is ∙ c.requires.some in
    let low = session_below inside.lines.items inside.next.items c.args.session c.self.invariant some in
    omega (arith, low, inside.next.ok.0)

pub returns-clause-lines : goal.returns-clause-lines
returns-clause-lines c =
    let inside = c.self.inside in
    let some = ap (λ v. has_line v.lines c.args.session) c.self.view_is ∙ c.requires.some in
    let place = c.index.result.now in
    let first = c.next_of.ensures.first ∙ ap (λ lines. first_place c.args.session (place + 1) (drop (place + 1) lines)) c.as_slice.ensures.value in
    passed_at inside.lines.items inside.next.items c.args.session place c.next_of.result c.self.invariant some c.index.ensures first
    ∙ ap (λ v. without_next v.lines c.args.session) c.self.view_is
