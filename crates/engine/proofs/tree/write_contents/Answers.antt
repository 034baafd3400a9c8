use Rattle.std.proofs.Common.{◌≡◌, ◌∷◌, [], cond, length, sym, ap, ◌∙◌, false}
use Rattle.io_edge.proofs.BytesLaws.{writes_then, writes_as}
use Rattle.script.specs.Lines.{space}
use Rattle.script.specs.Texts.{bytes_text}
use Rattle.tree_model.specs.Tree.{node_at, bytes_of, is_directory, name_count}
use Rattle.tree_model.specs.declared.reply.Stat.{Stat}
use Rattle.tree_model.proofs.NodeLaws.{a_file}
use Rattle.image_reading.specs.Residue.{no_residue}
use Rattle.volume.proofs.Beside.{stands_beside, untouched_nothing}
use Rattle.engine.specs.Places.{contents_text}
use Rattle.engine.proofs.tree.write_contents.Goals as goal

pub write_bytes-requires-clause-file : goal.write_bytes-requires-clause-file
write_bytes-requires-clause-file g c =
    let (state, stands, there) = c.requires.there in
    let dir = ap (λ (s : Stat). s.dir) (c.requires.told state stands) in (
      state,
      no_residue,
      stands_beside stands,
      a_file (node_at state.tree c.args.stat.now.inode) there (sym dir ∙ c.if-stat.false),
      untouched_nothing c.args.volume.now (g.P.Pm.view c.args.pm.now).words c.args.stat.now.inode,
    )

pub returns : goal.returns
returns g c = λ state stands.
    let inode = c.args.stat.now.inode in
    let bytes = bytes_of state.tree inode in
    let told = c.requires.told state stands in
    let file : is_directory state.tree inode ≡ false = sym (ap (λ (s : Stat). s.dir) told) ∙ c.if-stat.false in
    let counted = ap (λ (s : Stat). s.amount) told ∙ ap (λ b. cond b (name_count state.tree inode) (length bytes)) file in
    let is = ap (λ b. cond b [] (space ∷ bytes_text bytes)) file in
    writes_as _ _ _ _ (space ∷ bytes_text bytes) (contents_text state.tree inode) c.write_bytes.result (sym is)
    (writes_then (g.K.Sink.took c.args.sink.now) (g.K.Sink.took c.write_space.new.sink) (g.K.Sink.took c.write_bytes.new.sink) _ _ _ (space ∷ []) (bytes_text bytes) _ c.write_bytes.result
    c.in_ok-write_space.ensures (c.write_bytes.ensures state stands counted))
