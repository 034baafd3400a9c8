use Rattle.std.proofs.Common.{inl, inr, ℕ, get_or, ◌∙◌, sym, ap, refl, arith}
use Rattle.std.proofs.lemmas.Bool.{false≢true, cases_eq}
use Rattle.layout.specs.Geometry.{descriptor_word_of}
use Rattle.layout.specs.Fields.{word}
use Rattle.layout.proofs.Widths.{in_descriptor}
use Rattle.image_reading.proofs.litter.is_zero_descriptor_from.Goals as goal

pub descriptor_word-requires-clause-field_in_range : goal.descriptor_word-requires-clause-field_in_range
descriptor_word-requires-clause-field_in_range c = in_descriptor c.args.image.now.words.now _ (omega (arith, c.loop-field-test.true, c.descriptor_words-field-end.ensures))

pub returns-then-image-descriptor_word-ne0 : goal.returns-then-image-descriptor_word-ne0
unfolding word
returns-then-image-descriptor_word-ne0 c =
    let at = ap (λ (a : ℕ). get_or c.args.image.now.words.now a 0) c.descriptor_word.ensures.value in (
      (λ t. absurd (false≢true t)),
      (λ zeros. absurd (c.if-image-descriptor_word-ne0.true (at ∙ zeros c.loop-field.field c.loop-field.auto.field (omega (arith, c.loop-field-test.true, c.descriptor_words-field-end.ensures))))),
    )

pub loop-field-preserved : goal.loop-field-preserved
unfolding word
loop-field-preserved c =
    let I = c.args.image.now.words.now in
    let P = c.args.image.now.geometry.pages in
    let zero = ap (λ (a : ℕ). get_or I a 0) (sym c.descriptor_word.ensures.value) ∙ c.if-image-descriptor_word-ne0.false in
    λ f low lt. elim (cases_eq f c.loop-field.field) [
      | inl here ↦ ap (λ (k : ℕ). get_or I (descriptor_word_of P c.args.page k) 0) here ∙ zero
      | inr other ↦ c.loop-field.invariant f low (omega (arith, lt, other))
    ]

pub returns : goal.returns
returns c = (
  (λ t f low lt. c.loop-field.invariant f low (omega (arith, lt, c.descriptor_words-field-end.ensures))),
  (λ zeros. refl),
)
