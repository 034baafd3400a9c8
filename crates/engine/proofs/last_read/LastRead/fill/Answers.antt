use Rattle.std.proofs.Common.{◌≡◌, ◌-◌, ◌≤◌, length, take, drop, ap, ◌∙◌, arith}
use borrow.Rule.Slice.PartMut.{put_mid}
use Rattle.std.specs.Vec.{with_items}
use Rattle.std.proofs.lemmas.List.{length-take, length-take-le}
use Rattle.tree_model.specs.Tree.{bytes_of}
use Rattle.script.proofs.Windows.{window_of_filled}
use Rattle.engine.proofs.last_read.LastRead.fill.Goals as goal

pub invariant_of-self-inside : goal.invariant_of-self-inside
invariant_of-self-inside g c =
    let (state, residue, stands, file, untouched) = c.requires.file in
    let count = (c.read-count.ensures state residue stands).count_is in
    let short = c.requires.short in
    (c.self.inside.whole, (omega (arith, count, short, length-take (c.args.reading.now.count - 0) c.deref_mut.result.now), (c.self.inside.text_whole, tt)))

pub returns-clause-bytes : goal.returns-clause-bytes
returns-clause-bytes g c = λ state residue stands.
    let k = c.args.reading.now.count - 0 in
    let xs = c.deref_mut.result.now in
    let ys = c.read-count.new.buf in
    let count = c.read-count.result in
    let read = c.read-count.ensures state residue stands in
    let whole = c.self.inside.whole in
    let short = c.requires.short in
    let len = c.deref_mut.ensures.len in
    let at_most = read.count_is in
    let within : k ≤ length xs = omega (arith, whole, short, len) in
    let room : length (take k xs) ≡ c.args.reading.now.count = omega (arith, length-take-le k xs within) in
    let long : length ys ≡ k = omega (arith, c.read-count.auto.buf, length-take-le k xs within) in
    let same : count ≡ count - 0 = omega arith in
    ap (λ n. take n (with_items c.self.inside.buffer (put_mid 0 k xs ys)).items) same
    ∙ window_of_filled c.self.inside.buffer xs ys 0 0 count count k len long (omega (arith, within)) (omega arith) (omega (arith, at_most, room)) (omega arith)
    ∙ read.bytes_are
    ∙ ap (λ n. take n (drop c.args.reading.now.offset (bytes_of state.tree c.args.reading.now.inode))) room
