use Rattle.std.proofs.Common.{◌++◌, [], ◌∷◌, codes, decimal, length, sym, ap, ◌∙◌}
use Rattle.io_edge.proofs.BytesLaws.{writes_as, writes_then, writes_cut, writes_broken}
use Rattle.tree_model.specs.Step.{Listed}
use Rattle.script.specs.Lines.{newline}
use Rattle.script.specs.Texts.{answer_text}
use Rattle.engine.specs.Listing.{entries_text}
use Rattle.engine.proofs.ListingLaws.{listing_text}
use Rattle.engine.proofs.Told.{directory_within}
use Rattle.engine.proofs.listing.write_names.Goals as goal

pub count-count-requires-clause-from_one : goal.count-count-requires-clause-from_one
count-count-requires-clause-from_one g c = let (device, names, lists) = c.requires in (directory_within c.args.volume.now device c.args.directory lists.stands lists.directory).0

pub count-count-requires-clause-in_range : goal.count-count-requires-clause-in_range
count-count-requires-clause-in_range g c = let (device, names, lists) = c.requires in (directory_within c.args.volume.now device c.args.directory lists.stands lists.directory).1

pub returns-in_err-write_count : goal.returns-in_err-write_count
returns-in_err-write_count g c = λ device names lists.
    let counted = c.count-count.ensures.names device lists.state lists.residue lists.stands lists.directory ∙ sym (ap length lists.names_are) in
    let beginning = codes "ok " ++ decimal c.count-count.result in
    writes_as _ _ _ _ ((beginning ++ entries_text names) ++ newline ∷ []) (answer_text (Listed c.args.directory names)) c.from_residual.result (sym (listing_text c.args.directory names c.count-count.result counted))
    (writes_broken {T = Unit {0}} (beginning ++ entries_text names) (newline ∷ []) c.from_residual.result c.from_residual.ensures.0 (writes_cut _ _ _ _ beginning (entries_text names) _ c.in_err-write_count.ensures))

pub returns-in_err-write_entries : goal.returns-in_err-write_entries
returns-in_err-write_entries g c = λ device names lists.
    let counted = c.count-count.ensures.names device lists.state lists.residue lists.stands lists.directory ∙ sym (ap length lists.names_are) in
    let beginning = codes "ok " ++ decimal c.count-count.result in
    let broken = c.from_residual-in_err-write_entries in
    writes_as _ _ _ _ ((beginning ++ entries_text names) ++ newline ∷ []) (answer_text (Listed c.args.directory names)) broken.result (sym (listing_text c.args.directory names c.count-count.result counted))
    (writes_broken (beginning ++ entries_text names) (newline ∷ []) broken.result broken.ensures.0
    (writes_then (g.K.Sink.took c.args.sink.now) (g.K.Sink.took c.write_count.new.sink) (g.K.Sink.took c.write_entries.new.sink) _ _ _ beginning (entries_text names) _ _ c.in_ok-write_count.ensures (c.in_err-write_entries.ensures device names lists counted)))

pub returns : goal.returns
returns g c = λ device names lists.
    let counted = c.count-count.ensures.names device lists.state lists.residue lists.stands lists.directory ∙ sym (ap length lists.names_are) in
    let beginning = codes "ok " ++ decimal c.count-count.result in
    writes_as _ _ _ _ ((beginning ++ entries_text names) ++ newline ∷ []) (answer_text (Listed c.args.directory names)) c.write_newline.result (sym (listing_text c.args.directory names c.count-count.result counted))
    (writes_then (g.K.Sink.took c.args.sink.now) (g.K.Sink.took c.write_entries.new.sink) (g.K.Sink.took c.write_newline.new.sink) _ _ _ (beginning ++ entries_text names) (newline ∷ []) _ c.write_newline.result
    (writes_then (g.K.Sink.took c.args.sink.now) (g.K.Sink.took c.write_count.new.sink) (g.K.Sink.took c.write_entries.new.sink) _ _ _ beginning (entries_text names) _ _ c.in_ok-write_count.ensures (c.in_ok-write_entries.ensures device names lists counted))
    c.write_newline.ensures)
