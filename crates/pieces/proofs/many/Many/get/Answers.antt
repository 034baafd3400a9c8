use Rattle.std.proofs.Common.{◌≡◌, ◌+◌, ◌-◌, ◌<◌, ◌≤◌, length, slice_index, subst, arith}
use Rattle.std.proofs.lemmas.List.{get_or_read}
use Rattle.pieces.specs.Joined.{count_before}
use Rattle.pieces.proofs.JoinedLaws.{item_at, before_end}
use Rattle.pieces.proofs.many.Many.get.Goals as goal

pub returns : goal.returns
returns g c =
    let pieces = c.args.self.now.pieces.items in
    let starts = c.args.self.now.starts.items in
    let k = c.piece_at-k.result in
    let piece = c.index.result.now in
    let start = c.index-2.result.now in
    let within : k < length pieces = omega arith in
    let counted : slice_index starts k ≡ count_before pieces k = c.requires.whole.counted.count k within in
    let read : start ≡ slice_index starts k = get_or_read starts k start (omega arith) c.index-2.ensures 0 in
    let begins : slice_index starts k ≤ c.args.place = subst (λ counts. slice_index counts k ≤ c.args.place) c.deref.ensures.value c.piece_at-k.ensures.begins in
    let next = subst (λ counts. k + 1 < length counts → c.args.place < slice_index counts (k + 1)) c.deref.ensures.value c.piece_at-k.ensures.before_next in
    let ended = before_end pieces starts k (c.args.place + 1) piece c.requires.whole.counted within c.index.ensures (λ lt. omega (arith, next lt)) (omega arith) in
    let len = piece.ok.0 in
    item_at pieces k (c.args.place - start) c.args.place piece c.index-3.result.now within c.index.ensures (omega arith) c.index-3.ensures (omega arith) c.requires.place
