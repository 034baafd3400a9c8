use Rattle.std.proofs.lemmas.Bool.{iff_false}
use Rattle.image_reading.proofs.Tidying.{zero_page_tidy, tidy_zero_page}
use Rattle.image_reading.proofs.litter.is_tidy_page.Goals as goal

pub returns-then-not-is_kept : goal.returns-then-not-is_kept
returns-then-not-is_kept c =
    let unkept = iff_false c.is_kept.ensures c.if-not-is_kept.true in (
      (λ t. zero_page_tidy _ _ c.args.page c.requires.in_range unkept (c.is_zero_descriptor_from.ensures.0 t)),
      (λ tidy. c.is_zero_descriptor_from.ensures.1 (tidy_zero_page _ _ c.args.page c.requires.in_range unkept tidy)),
    )
