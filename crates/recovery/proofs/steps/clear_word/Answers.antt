use Rattle.std.proofs.Common.{ℕ, arith, subst}
use Rattle.recovery.specs.Changes.{Changes, IsInPart}
use Rattle.recovery.proofs.Stepping.{one_none, one_some, step_ends}
use Rattle.recovery.proofs.steps.clear_word.Goals as goal

pub returns-in_default : goal.returns-in_default
returns-in_default g c = record { takes = one_none c.args.geometry.now.pages c.args.part c.args.slot (g.P.Pm.view c.args.pm.now) c.in_default.is }

pub returns : goal.returns
returns g c =
    let made = subst (λ (n : ℕ). Changes (IsInPart c.args.geometry.now.pages c.args.part c.in-Some.number 0) (g.P.Pm.view c.args.pm.now) (g.P.Pm.view c.set_part.new.pm) n) c.requires.ready.one c.set_part.ensures in
    record {
      takes = one_some c.args.geometry.now.pages c.args.part c.args.slot c.in-Some.number c.in-Some.is
          (step_ends 2 c.end_interval.result (λ none. absurd (omega (arith, none))) c.requires.begins.settled made c.end_interval.ensures.device);
    }
