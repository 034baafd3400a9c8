use Rattle.std.proofs.Common.{◌≡◌, ◌+◌, ◌≤◌, ◌∙◌, sym, ap, length, false, is_some, nat_cmp, arith}
use Rattle.std.specs.FinMap.Entries.{find}
use Rattle.tree_model.specs.Step.{least_free_id}
use Rattle.plain_tree.proofs.TableLaws.{least_free-table_of, least_free-table_of_end}
use Rattle.plain_tree.proofs.tables.Tables.least_free_id.Goals as goal

pub returns-then-not-has_id : goal.returns-then-not-has_id
returns-then-not-has_id c =
    let is = c.loop.invariant.0 in
    let from : 2 ≤ c.loop.id = omega (arith, is) in
    let free : is_some (find nat_cmp c.loop.id c.self.inside.nodes.items) ≡ false =
    ap (λ nodes. is_some (find nat_cmp c.loop.id nodes)) (sym c.deref.ensures.value) ∙ sym c.has_id.ensures ∙ c.if-not-has_id.true in
    least_free-table_of c.self.inside.nodes.items c.loop.id from free c.loop.invariant.1 ∙ ap least_free_id c.self.view_is

pub returns : goal.returns
returns c =
    let is = c.loop.invariant.0 in
    let held = c.len-end.ensures in
    let low = c.loop-test.false in
    let high = c.loop.auto.counter-end in
    let end : c.loop.id ≡ 2 + length c.self.inside.nodes.items = omega (arith, is, held, low, high, c.self.inside.nodes.ok.0) in
    least_free-table_of_end c.self.inside.nodes.items c.self.invariant.1 c.loop.id end c.loop.invariant.1 ∙ ap least_free_id c.self.view_is
