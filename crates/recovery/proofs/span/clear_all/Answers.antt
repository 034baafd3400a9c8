use Rattle.std.proofs.Common.{◌+◌, ◌*◌, length, arith, ◌∙◌}
use Rattle.recovery.specs.Parts.{events_of_part}
use Rattle.recovery.specs.Changes.{IsAmong}
use Rattle.pm_trait.proofs.DeviceLaws.{interval_length}
use Rattle.recovery.proofs.Changing.{changes_none, changes_as, changes_then}
use Rattle.recovery.proofs.Spans.{among_none, among_more, among_fewer, among_apart, events_more, events_none, room_for}
use Rattle.recovery.proofs.span.clear_all.Goals as goal

pub set_part-requires-clause-whole : goal.set_part-requires-clause-whole
set_part-requires-clause-whole g c = interval_length c.loop-number.invariant.device.stores ∙ c.requires.whole

pub set_part-requires-clause-room : goal.set_part-requires-clause-room
set_part-requires-clause-room g c = room_for c.args.part c.loop-number.number-index (length c.args.numbers.now) (g.P.Pm.view c.args.pm.now).spare (g.P.Pm.view c.loop-number.pm).spare c.loop-number-test.true c.requires.room c.loop-number.invariant.device.room

pub loop-number-init : goal.loop-number-init
loop-number-init g c =
    let P = c.args.geometry.now.pages in
    let none = among_none P c.args.part c.args.numbers.now (λ _. 0) in
    changes_as (events_of_part c.args.part * 0) (events_none c.args.part) (λ a v is. is) (λ a v is. is) (changes_none (g.P.Pm.view c.args.pm.now) none)

pub loop-number-preserved : goal.loop-number-preserved
loop-number-preserved g c =
    let P = c.args.geometry.now.pages in
    let numbers = c.args.numbers.now in
    let k = c.loop-number.number-index in
    changes_as {N = IsAmong P c.args.part numbers (λ _. 0) (k + 1)} (events_of_part c.args.part * (k + 1)) (let more = events_more c.args.part k in omega (arith, more))
    (among_more P c.args.part numbers (λ _. 0) k) (among_fewer P c.args.part numbers (λ _. 0) k)
    (changes_then c.loop-number.invariant c.set_part.ensures (among_apart P c.args.part numbers (λ _. 0) c.requires.rising c.requires.each k c.loop-number-test.true))
