use Rattle.std.proofs.Common.{ℕ, sym, subst, arith}
use Rattle.layout.specs.declared.geometry.Geometry.{Geometry}
use Rattle.image_reading.specs.Soundness.{Rule, IsOnlyPointer}
use Rattle.image_reading.proofs.scan.Scan.fault_of_tree.Goals as goal

pub walk-requires-clause-one_pointer : goal.walk-requires-clause-one_pointer
walk-requires-clause-one_pointer c =
    subst (λ (g : Geometry). (s : ℕ) → IsOnlyPointer g.pages c.args.words.now s) (sym c.in_default.ensures.made_for)
    (λ s. c.in_default.ensures.found Rule.one_pointer s (omega arith))
