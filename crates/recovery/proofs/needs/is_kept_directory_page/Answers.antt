use Rattle.std.proofs.Common.{inr, sym, ◌∙◌}
use Rattle.std.proofs.lemmas.Bool.{false≢true}
use Rattle.recovery.proofs.Needing.{room_kind, room_of_kind}
use Rattle.recovery.proofs.needs.is_kept_directory_page.Goals as goal

pub returns-then-descriptor_at-ne-SLOTS : goal.returns-then-descriptor_at-ne-SLOTS
returns-then-descriptor_at-ne-SLOTS c = (
  (λ t. absurd (false≢true t)),
  (λ room. absurd (c.if-descriptor_at-ne-SLOTS.true (c.descriptor_at.ensures.kind ∙ room_kind _ _ c.args.page room))),
)

pub returns : goal.returns
returns c =
    let slots = sym c.descriptor_at.ensures.kind ∙ c.if-descriptor_at-ne-SLOTS.false in (
      (λ t. room_of_kind _ _ c.args.page c.requires.scanned.coherent (c.is_kept.ensures.0 t) slots),
      (λ room. c.is_kept.ensures.1 (inr room)),
    )
