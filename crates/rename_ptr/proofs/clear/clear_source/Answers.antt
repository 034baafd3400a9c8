use Rattle.std.proofs.Common.{ℕ, List, sym, ap, subst, ◌∙◌, arith}
use Rattle.std.specs.Prelude.{Option}
use Rattle.pm_trait.specs.DeviceView.{StoresAndFences}
use Rattle.pm_trait.proofs.DeviceLaws.{interval_length}
use Rattle.pm_trait.proofs.DeviceViewLaws.{stores_then}
use Rattle.pm_trait.proofs.Unfolding.{interval_ends}
use Rattle.rename_laws.specs.Intervals.{ClearsSource}
use Rattle.removal_steps.specs.Steps.{MayFall}
use Rattle.volume.specs.Costs.{count_of}
use Rattle.volume.specs.Moves.{falling_of}
use Rattle.rename_ptr.proofs.Linked
use Rattle.rename_ptr.proofs.Linked.{cleared_slots, in_by_fall, source_cleared}
use Rattle.rename_ptr.specs.Steps.{IsClearedWord}
use Rattle.rename_ptr.proofs.clear.clear_source.Goals as goal

pub lower_links-requires-clause-whole : goal.lower_links-requires-clause-whole
lower_links-requires-clause-whole g c = interval_length c.clear_slots.ensures.device.stores ∙ c.requires.begins.whole

pub lower_links-requires-clause-linked : goal.lower_links-requires-clause-linked
lower_links-requires-clause-linked g c =
    let P = c.args.geometry.now.pages in
    let m = c.args.moving.now in
    Linked.fall_still P (IsClearedWord P m) (cleared_slots P m.from_slot m.to_slot) c.clear_slots.ensures.device.stores c.falling.result
    (subst (λ (o : Option ℕ). MayFall P (g.P.Pm.view c.args.pm.now).words o) (sym c.falling.ensures) c.requires.ready.falling)

pub lower_links-requires-clause-settled : goal.lower_links-requires-clause-settled
lower_links-requires-clause-settled g c =
    let P = c.args.geometry.now.pages in
    let m = c.args.moving.now in
    let may = subst (λ (o : Option ℕ). MayFall P (g.P.Pm.view c.args.pm.now).words o) (sym c.falling.ensures) c.requires.ready.falling in
    Linked.settled_still P (IsClearedWord P m) (cleared_slots P m.from_slot m.to_slot) c.clear_slots.ensures.device.stores c.args.geometry.now.volume_size c.requires.begins.whole c.requires.begins.settled c.falling.result
    (in_by_fall P (g.P.Pm.view c.args.pm.now).words c.falling.result may)

pub returns : goal.returns
returns g c =
    let P = c.args.geometry.now.pages in
    let m = c.args.moving.now in
    let old = g.P.Pm.view c.args.pm.now in
    let new = g.P.Pm.view c.end_interval.new.pm in
    let o = c.falling.result in
    let may = subst (λ (o : Option ℕ). MayFall P old.words o) (sym c.falling.ensures) c.requires.ready.falling in
    let within = in_by_fall P old.words o may in
    let one = c.clear_slots.ensures in
    let two = c.lower_links.ensures in
    let slots = cleared_slots P m.from_slot m.to_slot in
    record {
      takes = record {
        makes = subst (λ (l : List ℕ). ClearsSource P old.words l m.from_slot m.to_slot (falling_of m)) (sym c.end_interval.ensures.device.words)
            (subst (λ (o : Option ℕ). ClearsSource P old.words (g.P.Pm.view c.lower_links.new.pm).words m.from_slot m.to_slot o) c.falling.ensures
            (source_cleared P m.from_slot m.to_slot o within one.device.stores two.device.stores one.pointer one.free two.links));
        fenced = subst (λ (n : ℕ). StoresAndFences old new n c.end_interval.result)
            (let same = ap (λ (o : Option ℕ). count_of o) c.falling.ensures in omega (arith, same))
            (interval_ends c.end_interval.result c.requires.begins.settled (stores_then one.device two.device (Linked.apart P (IsClearedWord P m) slots one.device.stores o within two.device.stores))
            (Linked.both_flushed P (IsClearedWord P m) slots one.device.stores o within two.device.stores one.flushed two.flushed) c.end_interval.ensures.device);
      };
    }
