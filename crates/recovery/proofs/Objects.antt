-- A plan's lists are of objects that are there.
use Rattle.std.proofs.Common.{◌≡◌, ℕ, List, slice_index, refl}
use Rattle.std.specs.Prelude.{Option, Some, None, IfSome}
use Rattle.image_reading.specs.Soundness.{IsCoherent}
use Rattle.image_counts.proofs.Paths.{in_range}
use Rattle.repair_laws.proofs.Kept.{kept_held}
use Rattle.repair_laws.proofs.Pointing.{left_held}
use Rattle.recovery.specs.declared.part.Part.TheVariants.{Number, Pointer}
use Rattle.recovery.specs.declared.repairs.Repairs.{Repairs}
use Rattle.recovery.specs.Parts.{IsNumber}
use Rattle.recovery.specs.Repairs.{HasObjects}
use Rattle.recovery.specs.Plans.{IsPlanOf}

each_some : {Q : ℕ → Type 0} (o : Option ℕ) → ((s : ℕ) → o ≡ Some s → Q s) → IfSome o Q
each_some None of = tt
each_some (Some s) of = of s refl

module _ (r : Repairs) (W : List ℕ) (coherent : IsCoherent r.geometry.pages W) (plan : IsPlanOf W r) where
  pub left_there : IfSome r.left (IsNumber r.geometry.pages Number)
  left_there = each_some {Q = IsNumber r.geometry.pages Number} r.left (λ s is. let (d, left) = (plan.left s).0 is in (left_held r.geometry.pages W coherent s d left).in_range)

  pub pointer_there : IfSome r.pointer (IsNumber r.geometry.pages Pointer)
  pointer_there = each_some {Q = IsNumber r.geometry.pages Pointer} r.pointer (λ d is. ((plan.pointer d).0 is).held.in_range)

  pub has_objects : HasObjects r
  has_objects = record {
    owners = record { rising = plan.owners.rising; each = λ k lt. (plan.owners.each k lt).page.in_range };
    slots = record { rising = plan.slots.rising; each = λ k lt. (kept_held r.geometry.pages W coherent (slice_index r.slots.items k) (plan.slots.each k lt).slot.page).in_range };
    links = record { rising = plan.links.rising; each = λ k lt. in_range r.geometry.pages W coherent (slice_index r.links.items k) (plan.links.each k lt).reached };
    descriptors = record { rising = plan.descriptors.rising; each = λ k lt. (r.descriptor_bounds, (plan.descriptors.each k lt).page.in_range) };
    inodes = record { rising = plan.inodes.rising; each = λ k lt. (r.inode_bounds, ((plan.inodes.each k lt).least, (plan.inodes.each k lt).most)) };
  }
