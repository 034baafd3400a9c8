use Rattle.std.proofs.Common.{◌*◌, slice_index}
use Rattle.recovery.specs.declared.part.Part.TheVariants.{Links}
use Rattle.recovery.specs.Changes.{Changes, IsAmong}
use Rattle.recovery.proofs.span.set_links.Given as goal

abbrev pub invariant-loop-place : goal.invariant-loop-place
invariant-loop-place g l = Changes (IsAmong l.fn.geometry.pages Links l.fn.inodes (λ k. slice_index l.fn.counts k) l.place) (g.P.Pm.view l.initial.pm) (g.P.Pm.view l.pm) (2 * l.place)
