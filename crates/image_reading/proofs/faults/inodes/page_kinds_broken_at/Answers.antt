use Rattle.std.proofs.Common.{below_more, arith}
use Rattle.std.proofs.lemmas.Bool.{iff_false}
use Rattle.image_reading.proofs.Places.{holds_at_all}
use Rattle.image_reading.proofs.Owners as lemmas
use Rattle.image_reading.proofs.faults.inodes.page_kinds_broken_at.Goals as goal

pub returns-then-not-has_owners_kind : goal.returns-then-not-has_owners_kind
returns-then-not-has_owners_kind c = (c.loop-page.invariant, iff_false c.has_owners_kind.ensures c.if-not-has_owners_kind.true)

pub loop-page-preserved : goal.loop-page-preserved
loop-page-preserved c = below_more _ _ c.loop-page.invariant (c.has_owners_kind.ensures.0 c.if-not-has_owners_kind.false)

pub returns : goal.returns
returns c =
    let g = c.args.walked.now.image.geometry in
    holds_at_all _ _ c.loop-page.invariant (λ x past. lemmas.HasOwnersKind-past g.pages c.args.walked.now.image.words.now x (omega (arith, past, g.data_pages_exact)))
