use Rattle.std.proofs.Common.{◌≡◌, ◌-◌, ◌<◌, ◌≢◌, length, get_or, arith, below_more, get_or-set_same, get_or-set_other}
use Rattle.std.proofs.lemmas.List.{get_or_read}
use Rattle.pieces.specs.Joined.{count_before}
use Rattle.pieces.proofs.JoinedLaws.{next_count, count_within}
use Rattle.pieces.proofs.counts.count_from.Goals as goal

pub overflow_add-index : goal.overflow_add-index
overflow_add-index g c =
    let pieces = c.args.pieces.now.items in
    let next = next_count pieces c.loop-k.k c.index-in-loop-k.result.now (omega arith) (omega arith) c.index-in-loop-k.ensures in
    let within = count_within pieces c.loop-k.k in
    let counted : get_or c.loop-k.starts.items (c.loop-k.k - 1) 0 ≡ count_before pieces (c.loop-k.k - 1) = c.loop-k.invariant.counted (c.loop-k.k - 1) (omega arith) (omega arith) in
    let read = get_or_read c.loop-k.starts.items (c.loop-k.k - 1) c.index.result.now (omega arith) c.index.ensures 0 in
    omega arith

pub loop-k-preserved : goal.loop-k-preserved
loop-k-preserved g c =
    let pieces = c.args.pieces.now.items in
    let next = next_count pieces c.loop-k.k c.index-in-loop-k.result.now (omega arith) (omega arith) c.index-in-loop-k.ensures in
    let counted : get_or c.loop-k.starts.items (c.loop-k.k - 1) 0 ≡ count_before pieces (c.loop-k.k - 1) = c.loop-k.invariant.counted (c.loop-k.k - 1) (omega arith) (omega arith) in
    let read = get_or_read c.loop-k.starts.items (c.loop-k.k - 1) c.index.result.now (omega arith) c.index.ensures 0 in
    record {
      len = omega arith;
      capacity = omega arith;
      counted = below_more _ _
          (λ j lt within. let other : j ≢ c.loop-k.k = omega arith in rw get_or-set_other (c.loop-k.invariant.counted j lt within))
          (λ within. let there : c.loop-k.k < length c.loop-k.starts.items = omega arith in rw get_or-set_same (omega arith));
    }
