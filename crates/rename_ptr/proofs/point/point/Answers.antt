use Rattle.std.proofs.Common.{ℕ, List, sym, ap, subst, ◌∙◌, arith}
use Rattle.std.specs.Prelude.{Option}
use Rattle.pm_trait.specs.DeviceView.{StoresAndFences}
use Rattle.pm_trait.proofs.DeviceLaws.{interval_length}
use Rattle.pm_trait.proofs.DeviceViewLaws.{stores_then}
use Rattle.pm_trait.proofs.Unfolding.{interval_ends}
use Rattle.rename_laws.specs.Ready.{PointsAt}
use Rattle.volume.specs.Costs.{count_of}
use Rattle.volume.specs.Moves.{rising_of}
use Rattle.rename_ptr.proofs.Linked
use Rattle.rename_ptr.proofs.Linked.{pointed_slots, in_by_rise, slot_pointed}
use Rattle.rename_ptr.specs.Steps.{MayRise, IsPointedWord, target_of}
use Rattle.rename_ptr.proofs.point.point.Goals as goal

pub count_link-requires-clause-whole : goal.count_link-requires-clause-whole
count_link-requires-clause-whole g c = interval_length c.point_slot.ensures.device.stores ∙ c.requires.begins.whole

pub count_link-requires-clause-linkable : goal.count_link-requires-clause-linkable
count_link-requires-clause-linkable g c =
    let P = c.args.geometry.now.pages in
    let m = c.args.moving.now in
    Linked.rise_still P (IsPointedWord P m) (pointed_slots P m.to_slot (target_of m)) c.point_slot.ensures.device.stores c.rising.result
    (subst (λ (o : Option ℕ). MayRise P (g.P.Pm.view c.args.pm.now).words o) (sym c.rising.ensures) c.requires.ready.rising)

pub count_link-requires-clause-settled : goal.count_link-requires-clause-settled
count_link-requires-clause-settled g c =
    let P = c.args.geometry.now.pages in
    let m = c.args.moving.now in
    let may = subst (λ (o : Option ℕ). MayRise P (g.P.Pm.view c.args.pm.now).words o) (sym c.rising.ensures) c.requires.ready.rising in
    Linked.settled_still P (IsPointedWord P m) (pointed_slots P m.to_slot (target_of m)) c.point_slot.ensures.device.stores c.args.geometry.now.volume_size c.requires.begins.whole c.requires.begins.settled c.rising.result
    (in_by_rise P (g.P.Pm.view c.args.pm.now).words c.rising.result may)

pub returns : goal.returns
returns g c =
    let P = c.args.geometry.now.pages in
    let m = c.args.moving.now in
    let old = g.P.Pm.view c.args.pm.now in
    let new = g.P.Pm.view c.end_interval.new.pm in
    let o = c.rising.result in
    let may = subst (λ (o : Option ℕ). MayRise P old.words o) (sym c.rising.ensures) c.requires.ready.rising in
    let within = in_by_rise P old.words o may in
    let one = c.point_slot.ensures in
    let two = c.count_link.ensures in
    let slots = pointed_slots P m.to_slot (target_of m) in
    record {
      takes = record {
        makes = subst (λ (l : List ℕ). PointsAt P old.words l m.from_slot m.to_slot (target_of m) (rising_of m)) (sym c.end_interval.ensures.device.words)
            (subst (λ (o : Option ℕ). PointsAt P old.words (g.P.Pm.view c.count_link.new.pm).words m.from_slot m.to_slot (target_of m) o) c.rising.ensures
            (slot_pointed P m.from_slot m.to_slot (target_of m) o within one.device.stores two.device.stores one.pointer one.name two.links));
        fenced = subst (λ (n : ℕ). StoresAndFences old new n c.end_interval.result)
            (let same = ap (λ (o : Option ℕ). count_of o) c.rising.ensures in omega (arith, same))
            (interval_ends c.end_interval.result c.requires.begins.settled (stores_then one.device two.device (Linked.apart P (IsPointedWord P m) slots one.device.stores o within two.device.stores))
            (Linked.both_flushed P (IsPointedWord P m) slots one.device.stores o within two.device.stores one.flushed two.flushed) c.end_interval.ensures.device);
      };
    }
