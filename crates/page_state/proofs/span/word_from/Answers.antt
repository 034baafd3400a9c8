use Rattle.std.proofs.Common.{◌≡◌, ℕ, ◌+◌, ◌-◌, List, take, drop, ap, ◌∙◌, arith, w64}
use Rattle.std.specs.Int.{from_le_bytes}
use Rattle.layout.specs.Name.{word_of}
use Rattle.page_state.proofs.span.word_from.Goals as goal

pub returns : goal.returns
unfolding word_of
returns c =
    let eight : c.args.place + 8 - c.args.place ≡ 8 = omega arith in
    c.from_le_bytes.ensures ∙ ap (λ (l : List ℕ). from_le_bytes w64 l) (c.copy_from_slice.ensures.after ∙ ap (λ (n : ℕ). take n (drop c.args.place c.args.bytes.now)) eight)
