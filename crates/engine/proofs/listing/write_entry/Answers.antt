use Rattle.std.proofs.Common.{[], ◌∷◌}
use Rattle.io_edge.proofs.BytesLaws.{writes_then, writes_broken}
use Rattle.script.specs.Lines.{space}
use Rattle.script.specs.Texts.{name_text}
use Rattle.engine.proofs.listing.write_entry.Goals as goal

pub returns-in_err-write_space : goal.returns-in_err-write_space
returns-in_err-write_space g c = writes_broken (space ∷ []) (name_text c.args.name.now) c.from_residual.result c.from_residual.ensures.0 c.in_err-write_space.ensures

pub returns : goal.returns
returns g c =
    writes_then (g.K.Sink.took c.args.sink.now) (g.K.Sink.took c.write_space.new.sink) (g.K.Sink.took c.write_name.new.sink) _ _ _ (space ∷ []) (name_text c.args.name.now) _ c.write_name.result
    c.in_ok-write_space.ensures c.write_name.ensures
