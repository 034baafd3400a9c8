use Rattle.std.proofs.Common.{arith, ◌∙◌}
use Rattle.std.proofs.lemmas.List.{take_rest}
use Rattle.io_edge.proofs.BytesLaws.{takes_more}
use Rattle.io_edge.proofs.sink.write_all.Goals as goal

pub loop-count-preserved : goal.loop-count-preserved
loop-count-preserved g c =
    let more = c.in_ok-count.ensures in
    let within = more.within in
    let kept = c.loop-count.invariant in
    let took = g.K.Sink.took in (
      omega (arith, within),
      takes_more (took c.args.sink.now) (took c.loop-count.sink) (took c.write.new.self) _ _ _ kept.1 (rw take_rest at more.takes),
      more.no_fault ∙ kept.2,
    )
