use Rattle.std.proofs.Common.{◌*◌}
use Rattle.recovery.specs.Parts.{events_of_part}
use Rattle.recovery.specs.Changes.{Changes, IsAmong}
use Rattle.recovery.proofs.span.clear_all.Given as goal

abbrev pub invariant-loop-number : goal.invariant-loop-number
invariant-loop-number g l = Changes (IsAmong l.geometry.pages l.part l.numbers (λ _. 0) l.number-index) (g.P.Pm.view l.initial.pm) (g.P.Pm.view l.pm) (events_of_part l.part * l.number-index)
