use Rattle.std.proofs.Common.{ℕ, get_or, ◌∙◌, sym, ap, below_more, refl, arith}
use Rattle.std.proofs.lemmas.Bool.{false≢true}
use Rattle.layout.specs.Fields.{word}
use Rattle.layout.proofs.Widths.{in_inode}
use Rattle.image_reading.proofs.litter.is_zero_inode.Goals as goal

pub inode_word-requires-clause-field_in_range : goal.inode_word-requires-clause-field_in_range
inode_word-requires-clause-field_in_range c = in_inode c.args.image.now.words.now _ (omega (arith, c.loop-field-test.true, c.inode_words-field-end.ensures))

pub returns-then-image-inode_word-ne0 : goal.returns-then-image-inode_word-ne0
unfolding word
returns-then-image-inode_word-ne0 c = (
  (λ t. absurd (false≢true t)),
  (λ zeros. absurd (c.if-image-inode_word-ne0.true (ap (λ (a : ℕ). get_or c.args.image.now.words.now a 0) c.inode_word.ensures.value ∙ zeros c.loop-field.field (omega (arith, c.loop-field-test.true, c.inode_words-field-end.ensures))))),
)

pub loop-field-preserved : goal.loop-field-preserved
unfolding word
loop-field-preserved c = below_more _ _ c.loop-field.invariant (ap (λ (a : ℕ). get_or c.args.image.now.words.now a 0) (sym c.inode_word.ensures.value) ∙ c.if-image-inode_word-ne0.false)

pub returns : goal.returns
returns c = (
  (λ t f lt. c.loop-field.invariant f (omega (arith, lt, c.inode_words-field-end.ensures))),
  (λ zeros. refl),
)
