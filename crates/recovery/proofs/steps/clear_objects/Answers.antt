use Rattle.std.proofs.Common.{◌≢◌, ◌∙◌, sym}
use Rattle.recovery.specs.Repairs.{clear_changes}
use Rattle.pm_trait.proofs.DeviceLaws.{interval_length}
use Rattle.recovery.proofs.Stepping.{step_none, step_ends, no_clears, all_cleared, cleared_as, linked_as}
use Rattle.recovery.proofs.steps.clear_objects.Goals as goal

pub returns-then-clear_changes-eq0 : goal.returns-then-clear_changes-eq0
returns-then-clear_changes-eq0 g c =
    let none = sym c.clear_changes.ensures.value ∙ c.if-clear_changes-eq0.true in
    record { takes = step_none (g.P.Pm.view c.args.pm.now) (clear_changes c.args.repairs.now) tt none (no_clears c.args.repairs.now none) }

pub clear_all-requires-2-clause-whole : goal.clear_all-requires-2-clause-whole
clear_all-requires-2-clause-whole g c = interval_length c.clear_all.ensures.device.stores ∙ c.requires.begins.whole

pub set_links-requires-clause-whole : goal.set_links-requires-clause-whole
set_links-requires-clause-whole g c = interval_length c.clear_all-2.ensures.device.stores ∙ interval_length c.clear_all.ensures.device.stores ∙ c.requires.begins.whole

pub returns : goal.returns
returns g c =
    let some : clear_changes c.args.repairs.now ≢ 0 = λ none. c.if-clear_changes-eq0.false (c.clear_changes.ensures.value ∙ none) in
    record {
      takes = step_ends (clear_changes c.args.repairs.now) c.end_interval.result some c.requires.begins.settled
          (all_cleared c.args.repairs.now c.requires.ready (cleared_as c.args.repairs.now c.as_slice.ensures.value c.clear_all.ensures) (cleared_as c.args.repairs.now c.as_slice-2.ensures.value c.clear_all-2.ensures) (linked_as c.as_slice-3.ensures.value c.as_slice-4.ensures.value c.set_links.ensures)) c.end_interval.ensures.device;
    }
