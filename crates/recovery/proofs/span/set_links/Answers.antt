use Rattle.std.proofs.Common.{◌≡◌, ℕ, ◌+◌, ◌*◌, length, arith, ◌∙◌, sym, slice_index}
use Rattle.recovery.specs.declared.part.Part.TheVariants.{Links}
use Rattle.pm_trait.proofs.DeviceLaws.{interval_length}
use Rattle.recovery.proofs.Changing.{changes_none, changes_as, changes_then}
use Rattle.recovery.proofs.Spans.{among_none, among_more, among_fewer, among_apart, among_to}
use Rattle.recovery.proofs.span.set_links.Goals as goal

pub set_part-requires-clause-whole : goal.set_part-requires-clause-whole
set_part-requires-clause-whole g c = interval_length c.loop-place.invariant.device.stores ∙ c.requires.whole

pub loop-place-init : goal.loop-place-init
loop-place-init g c =
    changes_as 0 (omega arith) (λ a v is. is) (λ a v is. is)
    (changes_none (g.P.Pm.view c.args.pm.now) (among_none c.args.geometry.now.pages Links c.args.inodes.now (λ k. slice_index c.args.counts.now k)))

pub loop-place-preserved : goal.loop-place-preserved
loop-place-preserved g c =
    let P = c.args.geometry.now.pages in
    let inodes = c.args.inodes.now in
    let values : ℕ → ℕ = λ k. slice_index c.args.counts.now k in
    let k = c.loop-place.place in
    changes_as (2 * (k + 1)) (omega arith) (among_more P Links inodes values k) (among_fewer P Links inodes values k)
    (changes_then c.loop-place.invariant c.set_part.ensures (among_apart P Links inodes values c.requires.rising c.requires.each k c.loop-place-test.true))

pub returns : goal.returns
returns g c =
    let P = c.args.geometry.now.pages in
    let inodes = c.args.inodes.now in
    let values : ℕ → ℕ = λ k. slice_index c.args.counts.now k in
    let all : c.loop-place.place ≡ length inodes = omega (arith, c.loop-place-test.false) in
    changes_as (2 * length inodes) (omega (arith, all)) (among_to P Links inodes values all) (among_to P Links inodes values (sym all)) c.loop-place.invariant
