-- A mix of a list and the list with one word stored is one of the two, also where it has no such word.
use Rattle.std.proofs.Common.{inl, inr, length, get_or, ap, ◌∙◌}
use Rattle.std.proofs.lemmas.Bool.{cases_lt}
use Rattle.std.proofs.lemmas.List.{set_past, ext_get_or}
use Rattle.layout.specs.Fields.{word}
use Rattle.image_laws.proofs.Free.{mix_one}
use Rattle.weave_laws.specs.Entering.{OneWordLaw}

pub one_word_law : OneWordLaw
unfolding word
one_word_law I M a v m = elim (cases_lt a (length I)) [
  | inl lt ↦ mix_one I M a v lt m
  | inr past ↦ inl (ext_get_or 0 M I m.size (λ b lt. elim (m.words b) [ inl e ↦ e | inr e ↦ e ∙ ap (λ words. get_or words b 0) (set_past I a v past) ]))
]
