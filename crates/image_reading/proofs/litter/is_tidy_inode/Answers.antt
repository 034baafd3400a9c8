use Rattle.std.proofs.Common.{sym, ◌∙◌, eq-eqb}
use Rattle.std.proofs.lemmas.Bool.{eqb-true, iff_false}
use Rattle.image_reading.proofs.Tidying.{zero_tidy, tidy_zero, links_tidy, tidy_links}
use Rattle.image_reading.proofs.litter.is_tidy_inode.Goals as goal

pub returns-then-not-is_reached : goal.returns-then-not-is_reached
returns-then-not-is_reached c =
    let unreached = iff_false c.is_reached.ensures c.if-not-is_reached.true in (
      (λ t. zero_tidy _ _ c.args.inode c.requires.inode.from_one c.requires.inode.in_range unreached (c.is_zero_inode.ensures.0 t)),
      (λ tidy. c.is_zero_inode.ensures.1 (tidy_zero _ _ c.args.inode c.requires.inode.from_one c.requires.inode.in_range unreached tidy)),
    )

pub returns : goal.returns
returns c =
    let links = c.inode_at-fields.ensures.links in
    let reached = c.is_reached.ensures.0 c.if-not-is_reached.false in (
      (λ t. links_tidy _ _ c.args.inode _ c.requires.scanned.coherent reached c.links.ensures (sym links ∙ eqb-true _ _ t)),
      (λ tidy. eq-eqb _ _ (links ∙ tidy_links _ _ c.args.inode _ c.requires.scanned.coherent reached c.links.ensures tidy)),
    )
