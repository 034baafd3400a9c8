use Rattle.io_edge.proofs.BytesLaws.{writes_then, writes_broken}
use Rattle.script.specs.Texts.{acked_text, listing_text}
use Rattle.squirrel_cli.proofs.replaying.write_left.Goals as goal

pub returns-in_err-write_acked : goal.returns-in_err-write_acked
returns-in_err-write_acked g c = λ state stands.
    writes_broken {T = Unit {0}} (acked_text c.args.acked) (listing_text state.tree) c.from_residual.result c.from_residual.ensures.0 c.in_err-write_acked.ensures

pub returns : goal.returns
returns g c = λ state stands.
    writes_then (g.K.Sink.took c.args.sink.now) (g.K.Sink.took c.write_acked.new.sink) (g.K.Sink.took c.listing.new.sink) _ _ _
    (acked_text c.args.acked) (listing_text state.tree) _ c.listing.result c.in_ok-write_acked.ensures (c.listing.ensures.writes state stands)
