use Rattle.std.proofs.Common.{inl, inr, ℕ, get_or, refl, sym, ap, ◌∙◌, arith}
use Rattle.std.proofs.lemmas.Bool.{false≢true, cases_eq}
use Rattle.layout.specs.Geometry.{slot_word_of}
use Rattle.layout.specs.Fields.{word}
use Rattle.mount_scan.proofs.counts.has_word.Goals as goal

pub returns-then-image-slot_word-ne0 : goal.returns-then-image-slot_word-ne0
unfolding word
returns-then-image-slot_word-ne0 c =
    let at = ap (λ (a : ℕ). get_or c.args.scanned.now.image.words.now a 0) c.slot_word.ensures.value in (
      (λ t. (c.loop-field.field, omega arith, λ zero. c.if-image-slot_word-ne0.true (at ∙ zero))),
      (λ some. refl),
    )

pub loop-field-preserved : goal.loop-field-preserved
unfolding word
loop-field-preserved c =
    let I = c.args.scanned.now.image.words.now in
    let P = c.args.scanned.now.image.geometry.pages in
    λ f lt. elim (cases_eq f c.loop-field.field) [
      | inl here ↦ ap (λ (k : ℕ). get_or I (slot_word_of P c.args.slot k) 0) here ∙ ap (λ (a : ℕ). get_or I a 0) (sym c.slot_word.ensures.value) ∙ c.if-image-slot_word-ne0.false
      | inr other ↦ c.loop-field.invariant f (omega (arith, lt, other))
    ]

pub returns : goal.returns
returns c = (
  (λ t. absurd (false≢true t)),
  (λ (f, high, other). absurd (other (c.loop-field.invariant f (omega arith)))),
)
