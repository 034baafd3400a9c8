use Rattle.std.proofs.Common.{◌++◌, ◌∷◌, [], sym}
use Rattle.io_edge.proofs.BytesLaws.{writes_as, writes_then, writes_cut, writes_broken}
use Rattle.script.specs.Entries.{entry_front}
use Rattle.script.specs.Lines.{newline}
use Rattle.script.specs.Texts.{entry_words, line_text, path_text}
use Rattle.engine.specs.Places.{contents_text, route_through}
use Rattle.engine.proofs.NextPlaces.{node_led_to}
use Rattle.engine.proofs.PathTexts.{line_pieces}
use Rattle.engine.proofs.tree.write_line.Goals as goal

pub returns-in_err-write_front : goal.returns-in_err-write_front
returns-in_err-write_front g c = λ state stands leads.
    let stat = c.args.stat.now in
    let path = route_through state.tree c.args.places.now in
    let front = entry_front stat in
    let way = path_text path in
    let contents = contents_text state.tree stat.inode in
    writes_as _ _ _ _ (((front ++ way) ++ contents) ++ newline ∷ []) (line_text (entry_words state.tree (path, stat.inode))) c.from_residual.result (sym (line_pieces state.tree path stat.inode stat (c.requires.told state stands)))
    (writes_broken {T = Unit {0}} ((front ++ way) ++ contents) (newline ∷ []) c.from_residual.result c.from_residual.ensures.0
    (writes_cut {U = Unit {0}} _ _ _ _ (front ++ way) contents _ (writes_cut {U = Unit {0}} _ _ _ _ front way _ c.in_err-write_front.ensures)))

pub returns-in_err-write_path : goal.returns-in_err-write_path
returns-in_err-write_path g c = λ state stands leads.
    let stat = c.args.stat.now in
    let path = route_through state.tree c.args.places.now in
    let front = entry_front stat in
    let way = path_text path in
    let contents = contents_text state.tree stat.inode in
    let broken = c.from_residual-in_err-write_path in
    writes_as _ _ _ _ (((front ++ way) ++ contents) ++ newline ∷ []) (line_text (entry_words state.tree (path, stat.inode))) broken.result (sym (line_pieces state.tree path stat.inode stat (c.requires.told state stands)))
    (writes_broken {T = Unit {0}} ((front ++ way) ++ contents) (newline ∷ []) broken.result broken.ensures.0
    (writes_cut {U = Unit {0}} _ _ _ _ (front ++ way) contents _
    (writes_then (g.K.Sink.took c.args.sink.now) (g.K.Sink.took c.write_front.new.sink) (g.K.Sink.took c.write_path.new.sink) _ _ _ front way _ _
    c.in_ok-write_front.ensures (c.in_err-write_path.ensures (g.P.Pm.view c.args.pm.now) state stands leads.way leads.passed))))

pub write_contents-requires-clause-there : goal.write_contents-requires-clause-there
write_contents-requires-clause-there g c =
    let (state, stands, leads) = c.requires.leads in
    node_led_to c.args.volume.now (g.P.Pm.view c.args.pm.now) state stands c.args.places.now c.args.stat.now.inode leads

pub returns-in_err-write_contents : goal.returns-in_err-write_contents
returns-in_err-write_contents g c = λ state stands leads.
    let stat = c.args.stat.now in
    let path = route_through state.tree c.args.places.now in
    let front = entry_front stat in
    let way = path_text path in
    let contents = contents_text state.tree stat.inode in
    let broken = c.from_residual-in_err-write_contents in
    writes_as _ _ _ _ (((front ++ way) ++ contents) ++ newline ∷ []) (line_text (entry_words state.tree (path, stat.inode))) broken.result (sym (line_pieces state.tree path stat.inode stat (c.requires.told state stands)))
    (writes_broken {T = Unit {0}} ((front ++ way) ++ contents) (newline ∷ []) broken.result broken.ensures.0
    (writes_then (g.K.Sink.took c.args.sink.now) (g.K.Sink.took c.write_path.new.sink) (g.K.Sink.took c.write_contents.new.sink) _ _ _ (front ++ way) contents _ _
    (writes_then (g.K.Sink.took c.args.sink.now) (g.K.Sink.took c.write_front.new.sink) (g.K.Sink.took c.write_path.new.sink) _ _ _ front way _ _
    c.in_ok-write_front.ensures (c.in_ok-write_path.ensures (g.P.Pm.view c.args.pm.now) state stands leads.way leads.passed))
    (c.in_err-write_contents.ensures state stands)))

pub returns : goal.returns
returns g c = λ state stands leads.
    let stat = c.args.stat.now in
    let path = route_through state.tree c.args.places.now in
    let front = entry_front stat in
    let way = path_text path in
    let contents = contents_text state.tree stat.inode in
    writes_as _ _ _ _ (((front ++ way) ++ contents) ++ newline ∷ []) (line_text (entry_words state.tree (path, stat.inode))) c.write_newline.result (sym (line_pieces state.tree path stat.inode stat (c.requires.told state stands)))
    (writes_then (g.K.Sink.took c.args.sink.now) (g.K.Sink.took c.write_contents.new.sink) (g.K.Sink.took c.write_newline.new.sink) _ _ _ ((front ++ way) ++ contents) (newline ∷ []) _ c.write_newline.result
    (writes_then (g.K.Sink.took c.args.sink.now) (g.K.Sink.took c.write_path.new.sink) (g.K.Sink.took c.write_contents.new.sink) _ _ _ (front ++ way) contents _ _
    (writes_then (g.K.Sink.took c.args.sink.now) (g.K.Sink.took c.write_front.new.sink) (g.K.Sink.took c.write_path.new.sink) _ _ _ front way _ _
    c.in_ok-write_front.ensures (c.in_ok-write_path.ensures (g.P.Pm.view c.args.pm.now) state stands leads.way leads.passed))
    (c.in_ok-write_contents.ensures state stands))
    c.write_newline.ensures)
