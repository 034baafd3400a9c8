use Rattle.std.proofs.Common.{◌≡◌, ℕ, List, get_or, sym, ap, ◌∙◌, arith}
use Rattle.layout.specs.Superblock.{head_of}
use Rattle.mount_scan.proofs.Heads.{head_kept, head_broken}
use Rattle.mount_scan.proofs.head.head_place.Goals as goal

pub returns-then-words-place : goal.returns-then-words-place
returns-then-words-place c =
    let g = c.in-Some.geometry in
    let same : (x : ℕ) → get_or c.head-head.result x 0 ≡ get_or (head_of g.pages) x 0 = λ x. ap (λ (xs : List ℕ). get_or xs x 0) c.head-head.ensures in
    head_broken g.pages c.args.words.now g.volume_size c.in-Some.ensures.whole c.loop-place.place c.loop-place-test.true
    (λ x lt. c.loop-place.invariant x lt ∙ same x) (λ e. c.if-words-place.true (e ∙ sym (same c.loop-place.place)))

pub unreachable-requires : goal.unreachable-requires
unreachable-requires c =
    let g = c.in-Some.geometry in
    c.requires g.pages (head_kept g.pages c.args.words.now g.volume_size c.in-Some.ensures.whole
    (λ x lt. c.loop-place.invariant x (omega (arith, lt, c.loop-place-test.false)) ∙ ap (λ (xs : List ℕ). get_or xs x 0) c.head-head.ensures))
