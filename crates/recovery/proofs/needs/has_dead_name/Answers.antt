use Rattle.std.proofs.lemmas.Bool.{false≢true, iff_false}
use Rattle.recovery.proofs.needs.has_dead_name.Goals as goal

pub returns-then-is_live : goal.returns-then-is_live
returns-then-is_live c = (
  (λ t. absurd (false≢true t)),
  (λ dead. absurd (dead.slot.dead (c.is_live.ensures.0 c.if-is_live.true))),
)

pub returns : goal.returns
returns c = (
  (λ t. record {
    slot = record { page = c.requires.page; dead = iff_false c.is_live.ensures c.if-is_live.false };
    nonzero = c.has_name.ensures.0 t;
  }),
  (λ dead. c.has_name.ensures.1 dead.nonzero),
)
