use Rattle.std.proofs.Common.{sym, ◌∙◌, ne_eqb}
use Rattle.std.proofs.lemmas.Bool.{false≢true, iff_false, not-true, eqb-false, not_from_false}
use Rattle.recovery.proofs.Needing.{other_count, same_count}
use Rattle.recovery.proofs.needs.has_other_links.Goals as goal

pub returns-then-not-is_reached : goal.returns-then-not-is_reached
returns-then-not-is_reached c = (
  (λ t. absurd (false≢true t)),
  (λ litter. absurd (iff_false c.is_reached.ensures c.if-not-is_reached.true litter.reached)),
)

pub returns : goal.returns
returns c =
    let links = c.inode_at.ensures.links in
    let reached = c.is_reached.ensures.0 c.if-not-is_reached.false in (
      (λ t. record {
        reached = reached;
        other = other_count _ _ c.args.inode _ _ c.requires.scanned.coherent reached c.links.ensures (λ same. eqb-false _ _ (not-true _ t) (links ∙ same));
      }),
      (λ litter. not_from_false _ (ne_eqb _ _ (λ same. same_count _ _ c.args.inode _ _ c.requires.scanned.coherent reached c.links.ensures litter.other (sym links ∙ same)))),
    )
