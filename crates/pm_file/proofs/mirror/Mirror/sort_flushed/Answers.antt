use Rattle.std.proofs.Common.{sym, ◌∙◌}
use Rattle.std.proofs.lemmas.List.{with_items_is}
use Rattle.pm_file.proofs.Sorted.{once_sorted, rises, below_sorted, listed_sorted, same_sorted}
use Rattle.pm_file.proofs.mirror.Mirror.sort_flushed.Goals as goal

pub invariant_of-self-clause-in_range : goal.invariant_of-self-clause-in_range
invariant_of-self-clause-in_range g c =
    let same = same_sorted _ _ _ _ _ c.deref_mut.ensures.value (with_items_is c.args.self.now.flushed c.bring_to_front.new.lines (c.bring_to_front.auto.lines ∙ c.deref_mut.ensures.len)) c.bring_to_front.ensures c.sort_unstable.ensures.permutation in
    below_sorted _ _ _ same c.args.self.now.in_range

pub invariant_of-self-clause-noted : goal.invariant_of-self-clause-noted
invariant_of-self-clause-noted g c =
    let same = same_sorted _ _ _ _ _ c.deref_mut.ensures.value (with_items_is c.args.self.now.flushed c.bring_to_front.new.lines (c.bring_to_front.auto.lines ∙ c.deref_mut.ensures.len)) c.bring_to_front.ensures c.sort_unstable.ensures.permutation in
    λ line is. listed_sorted _ _ line same ∙ c.args.self.now.noted line is

pub invariant_of-self-clause-only : goal.invariant_of-self-clause-only
invariant_of-self-clause-only g c =
    let same = same_sorted _ _ _ _ _ c.deref_mut.ensures.value (with_items_is c.args.self.now.flushed c.bring_to_front.new.lines (c.bring_to_front.auto.lines ∙ c.deref_mut.ensures.len)) c.bring_to_front.ensures c.sort_unstable.ensures.permutation in
    λ line is. c.args.self.now.only line (sym (listed_sorted _ _ line same) ∙ is)

pub invariant_of-self-clause-once : goal.invariant_of-self-clause-once
invariant_of-self-clause-once g c =
    let same = same_sorted _ _ _ _ _ c.deref_mut.ensures.value (with_items_is c.args.self.now.flushed c.bring_to_front.new.lines (c.bring_to_front.auto.lines ∙ c.deref_mut.ensures.len)) c.bring_to_front.ensures c.sort_unstable.ensures.permutation in
    once_sorted _ _ same c.args.self.now.once

pub returns-clause-rising : goal.returns-clause-rising
returns-clause-rising g c =
    let same = same_sorted _ _ _ _ _ c.deref_mut.ensures.value (with_items_is c.args.self.now.flushed c.bring_to_front.new.lines (c.bring_to_front.auto.lines ∙ c.deref_mut.ensures.len)) c.bring_to_front.ensures c.sort_unstable.ensures.permutation in
    rises _ c.sort_unstable.ensures.sorted (once_sorted _ _ same c.args.self.now.once)

pub returns-clause-same : goal.returns-clause-same
returns-clause-same g c =
    let same = same_sorted _ _ _ _ _ c.deref_mut.ensures.value (with_items_is c.args.self.now.flushed c.bring_to_front.new.lines (c.bring_to_front.auto.lines ∙ c.deref_mut.ensures.len)) c.bring_to_front.ensures c.sort_unstable.ensures.permutation in
    same
