use Rattle.std.proofs.Common.{[], ◌∷◌}
use Rattle.io_edge.proofs.BytesLaws.{writes_then}
use Rattle.tree_model.specs.PathText.{slash}
use Rattle.script.specs.Texts.{name_text}
use Rattle.script.proofs.listing.write_below.Goals as goal

pub returns : goal.returns
returns g c =
    writes_then (g.K.Sink.took c.args.sink.now) (g.K.Sink.took c.write_all.new.sink) (g.K.Sink.took c.write_name.new.sink) _ _ _ (slash ∷ []) (name_text c.args.name.now) _ c.write_name.result
    c.in_ok-write_all.ensures c.write_name.ensures
