use Rattle.std.proofs.Common.{ℕ, get_or, ◌∙◌, sym, ap, below_more}
use Rattle.std.proofs.lemmas.Bool.{false≢true}
use Rattle.layout.specs.Fields.{word}
use Rattle.image_reading.proofs.litter.is_zero_slot.Goals as goal

pub returns-then-image-slot_word-ne0 : goal.returns-then-image-slot_word-ne0
unfolding word
returns-then-image-slot_word-ne0 c = (
  (λ t. absurd (false≢true t)),
  (λ zeros. absurd (c.if-image-slot_word-ne0.true (ap (λ (a : ℕ). get_or c.args.image.now.words.now a 0) c.slot_word.ensures.value ∙ zeros c.loop-field.field c.loop-field-test.true))),
)

pub loop-field-preserved : goal.loop-field-preserved
unfolding word
loop-field-preserved c = below_more _ _ c.loop-field.invariant (ap (λ (a : ℕ). get_or c.args.image.now.words.now a 0) (sym c.slot_word.ensures.value) ∙ c.if-image-slot_word-ne0.false)
