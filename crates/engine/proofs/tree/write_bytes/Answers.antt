use Rattle.std.proofs.Common.{◌+◌, ◌*◌, ◌++◌, [], ℕ, take, drop, refl, sym, ap, ◌∙◌, arith, length-take}
use Rattle.io_edge.proofs.BytesLaws.{writes_none, writes_then, writes_as, writes_broken}
use Rattle.script.specs.Entries.{digits_text}
use Rattle.script.specs.Texts.{bytes_text}
use Rattle.script.proofs.EntryTexts.{digits_none, bytes_in_digits}
use Rattle.tree_model.specs.Tree.{bytes_of}
use Rattle.image_reading.specs.Residue.{no_residue}
use Rattle.volume.proofs.Beside.{stands_beside}
use Rattle.engine.proofs.PathTexts.{pieces_more, pieces_split}
use Rattle.engine.proofs.tree.write_bytes.Goals as goal

pub loop-k-init : goal.loop-k-init
loop-k-init g c = record { long = refl; writes = λ state stands counted. writes_as _ _ _ _ [] (digits_text []) _ (sym digits_none) (writes_none _ _ tt) }

pub returns-in_err-write_piece : goal.returns-in_err-write_piece
returns-in_err-write_piece g c = λ state stands counted.
    let bytes = bytes_of state.tree c.args.stat.now.inode in
    let k = c.loop-k.k in
    let some = c.requires.some in
    let first = digits_text (take (k * 512) bytes) in
    let read = c.read-count.ensures state no_residue (stands_beside stands) in
    let long = c.loop-k.invariant.long in
    let piece = read.bytes_are ∙ ap (λ (n : ℕ). take n (drop (k * 512) bytes)) long in
    let written = writes_as _ _ _ _ (digits_text (take c.read-count.result c.read-count.new.buf)) (digits_text (take 512 (drop (k * 512) bytes))) _ (ap digits_text piece) c.in_err-write_piece.ensures in
    writes_as _ _ _ _ ((first ++ digits_text (take 512 (drop (k * 512) bytes))) ++ digits_text (drop ((k + 1) * 512) bytes)) (bytes_text bytes) c.from_residual.result
    (sym (bytes_in_digits bytes (omega (arith, some, counted)) ∙ pieces_split bytes k))
    (writes_broken (first ++ digits_text (take 512 (drop (k * 512) bytes))) (digits_text (drop ((k + 1) * 512) bytes)) c.from_residual.result c.from_residual.ensures.0
    (writes_then (g.K.Sink.took c.args.sink.now) (g.K.Sink.took c.loop-k.sink) (g.K.Sink.took c.write_piece.new.sink) _ _ _ first (digits_text (take 512 (drop (k * 512) bytes))) tt _ (c.loop-k.invariant.writes state stands counted) written))

pub loop-k-preserved : goal.loop-k-preserved
loop-k-preserved g c = record {
  long = let long = c.loop-k.invariant.long in let same = c.read-count.auto.buf in omega (arith, long, same);
  writes = λ state stands counted.
      let bytes = bytes_of state.tree c.args.stat.now.inode in
      let k = c.loop-k.k in
      let first = digits_text (take (k * 512) bytes) in
      let read = c.read-count.ensures state no_residue (stands_beside stands) in
      let long = c.loop-k.invariant.long in
      let piece = read.bytes_are ∙ ap (λ (n : ℕ). take n (drop (k * 512) bytes)) long in
      let written = writes_as _ _ _ _ (digits_text (take c.read-count.result c.read-count.new.buf)) (digits_text (take 512 (drop (k * 512) bytes))) _ (ap digits_text piece) c.in_ok-write_piece.ensures in
      writes_as _ _ _ _ (first ++ digits_text (take 512 (drop (k * 512) bytes))) (digits_text (take ((k + 1) * 512) bytes)) _ (sym (pieces_more bytes k))
      (writes_then (g.K.Sink.took c.args.sink.now) (g.K.Sink.took c.loop-k.sink) (g.K.Sink.took c.write_piece.new.sink) _ _ _ first (digits_text (take 512 (drop (k * 512) bytes))) tt _ (c.loop-k.invariant.writes state stands counted) written);
}

pub slice_bounds-piece-end : goal.slice_bounds-piece-end
slice_bounds-piece-end g c =
    let (state, residue, stands, file, untouched) = c.requires.file in
    let count = (c.read-count.ensures state residue stands).count_is in
    let same = c.read-count.auto.buf in
    omega (arith, count, same)

pub slice_bounds-write_piece-end : goal.slice_bounds-write_piece-end
slice_bounds-write_piece-end g c =
    let (state, residue, stands, file, untouched) = c.requires.file in
    let count = (c.read-count.ensures state residue stands).count_is in
    let same = c.read-count.auto.buf in
    omega (arith, count, same, length-take c.read-count.result c.read-count.new.buf)
