use Rattle.std.proofs.Common.{◌≢◌, ◌∙◌, sym}
use Rattle.recovery.specs.Repairs.{free_changes}
use Rattle.pm_trait.proofs.DeviceLaws.{interval_length}
use Rattle.recovery.proofs.Stepping.{step_none, step_ends, no_frees, all_freed, cleared_as}
use Rattle.recovery.proofs.steps.free_objects.Goals as goal

pub returns-then-free_changes-eq0 : goal.returns-then-free_changes-eq0
returns-then-free_changes-eq0 g c =
    let none = sym c.free_changes.ensures.value ∙ c.if-free_changes-eq0.true in
    record { takes = step_none (g.P.Pm.view c.args.pm.now) (free_changes c.args.repairs.now) tt none (no_frees c.args.repairs.now none) }

pub clear_all-requires-2-clause-whole : goal.clear_all-requires-2-clause-whole
clear_all-requires-2-clause-whole g c = interval_length c.clear_all.ensures.device.stores ∙ c.requires.begins.whole

pub returns : goal.returns
returns g c =
    let some : free_changes c.args.repairs.now ≢ 0 = λ none. c.if-free_changes-eq0.false (c.free_changes.ensures.value ∙ none) in
    record {
      takes = step_ends (free_changes c.args.repairs.now) c.end_interval.result some c.requires.begins.settled
          (all_freed c.args.repairs.now c.requires.ready (cleared_as c.args.repairs.now c.as_slice.ensures.value c.clear_all.ensures) (cleared_as c.args.repairs.now c.as_slice-2.ensures.value c.clear_all-2.ensures)) c.end_interval.ensures.device;
    }
