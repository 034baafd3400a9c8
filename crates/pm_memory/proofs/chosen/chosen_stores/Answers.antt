use Rattle.std.proofs.Common.{◌+◌, ◌-◌, ◌%◌, inl, inr, [], ◌∷◌, ℕ, length, get_or, ◌∙◌, ap, arith, length-append}
use Rattle.pm_trait.specs.Trail.{Trail}
use Rattle.pm_memory.specs.Chosen.{chosen_store}
use Rattle.pm_memory.specs.Plain.{plain}
use Rattle.pm_memory.proofs.Picked.{rank_more, each_more}
use Rattle.pm_memory.proofs.Stores.{chosen_number}
use Rattle.pm_memory.proofs.Tallied.{counts_read, length-plain}
use Rattle.pm_memory.proofs.chosen.chosen_stores.Goals as goal
use Rattle.pm_memory.proofs.chosen.chosen_stores.Goals.{then-unsettled-gt0, else-unsettled-gt0}

pub overflow_sub-number : goal.overflow_sub-number
overflow_sub-number c =
    let counts = counts_read c.loop-word.word c.args.entries.now c.in_ok-tallies.tallies c.deref-stores-items.result.now c.index-unsettled.result.now c.in_ok-tallies.ensures.tallies c.deref-stores-items.ensures.value c.loop-word-test.true c.index-unsettled.ensures in
    counts.few

pub overflow_add-number : goal.overflow_add-number
overflow_add-number c =
    let counts = counts_read c.loop-word.word c.args.entries.now c.in_ok-tallies.tallies c.deref-stores-items.result.now c.index-unsettled.result.now c.in_ok-tallies.ensures.tallies c.deref-stores-items.ensures.value c.loop-word-test.true c.index-unsettled.ensures in
    omega (arith, counts.few, counts.bounded, length-plain c.args.entries.now, c.requires.room)

pub loop-word-preserved : goal.loop-word-preserved
loop-word-preserved c =
    let trail : Trail = record { base = []; events = plain c.args.entries.now } in
    let counts = counts_read c.loop-word.word c.args.entries.now c.in_ok-tallies.tallies c.deref-stores-items.result.now c.index-unsettled.result.now c.in_ok-tallies.ensures.tallies c.deref-stores-items.ensures.value c.loop-word-test.true c.index-unsettled.ensures in
    let so_far = c.loop-word.invariant in
    let number = chosen_number (plain c.args.entries.now) c.args.keep.now c.loop-word.word c.loop-word.rank _ _ counts.unsettled_is counts.stores_is so_far.rank_is in
    let reckoned : ℕ = get_or c.deref-stores-items.result.now c.loop-word.word 0 - c.index-unsettled.result.now + get_or c.args.keep.now (c.loop-word.rank % length c.args.keep.now) 0 % (c.index-unsettled.result.now + 1) in
    let items = c.in_ok-push.ensures.items in
    record {
      long = ap length items ∙ omega (arith, so_far.long, length-append c.loop-word.numbers.items (reckoned ∷ []));
      rank_is = rank_more trail c.loop-word.word c.loop-word.rank c.if-unsettled-gt0.rank c.index-unsettled.result.now counts.unsettled_is so_far.rank_is (elim c.if-unsettled-gt0.branch [
        | then-unsettled-gt0 w ↦ inl (w.if-unsettled-gt0.true, w.rank-is)
        | else-unsettled-gt0 w ↦ inr (w.if-unsettled-gt0.false, w.rank-is)
      ]);
      few = elim c.if-unsettled-gt0.branch [
        | then-unsettled-gt0 w ↦ omega (arith, so_far.few, w.rank-is)
        | else-unsettled-gt0 w ↦ omega (arith, so_far.few, w.rank-is)
      ];
      each = each_more c.loop-word.numbers.items c.push.new.self.items _ c.loop-word.word (chosen_store (plain c.args.entries.now) c.args.keep.now) items so_far.long so_far.each number;
    }
