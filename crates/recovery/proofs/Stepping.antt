-- Changes, and the fence after them where there are any, are a step.
use Rattle.std.proofs.Common.{◌≡◌, ◌≢◌, inl, inr, ℕ, zero, suc, ◌+◌, ◌*◌, ◌≤◌, nat_lt, Bool, true, false, List, [], ◌∷◌, refl, sym, ◌∙◌, subst, arith}
use Rattle.std.specs.Prelude.{Result, Ok, Option, Some, None, length, slice_index, if◌then◌else◌}
use Rattle.std.proofs.Math.Nat.{mul-le-mul_left}
use Rattle.std.proofs.lemmas.Bool.{lt-ltb}
use Rattle.pm_trait.specs.DeviceView.{DeviceView, Fences, IsSettledView}
use Rattle.pm_trait.specs.Unfolds.{Step, Fenced, Takes, InTurn, Unfolds, fences_in}
use Rattle.pm_trait.proofs.Unfolding.{interval_ends}
use Rattle.repair_laws.specs.Mended.{IsAfter}
use Rattle.recovery.specs.declared.part.Part.{Part}
use Rattle.recovery.specs.declared.part.Part.TheVariants.{Owner, Name, Links, Descriptor, Inode}
use Rattle.recovery.specs.declared.repairs.Repairs.{Repairs}
use Rattle.recovery.specs.Parts.{events_of_part}
use Rattle.recovery.specs.Changes.{Changes, IsInPart, IsOne, IsCleared, IsLinked, changing, one_changes, fences_for}
use Rattle.recovery.specs.Repairs.{HasObjects, IsClearedBy, IsFreedBy, clear_changes, free_changes}
use Rattle.recovery.proofs.Changing.{changes_after, changes_then}
use Rattle.recovery.proofs.Spans.{cleared_none, owners_slots, cleared_links, descriptors_inodes}

at_most_one : (stores : Bool) → (if stores then 1 else 0) ≤ 1
at_most_one true = omega arith
at_most_one false = omega arith

pub one_fence : (n : ℕ) → fences_for n ≤ 1
one_fence n = at_most_one (nat_lt 0 n)

-- changes, and their fence
pub step_ends : {T E : Type 0} {N : ℕ → ℕ → Type 0} {a b c : DeviceView} (n : ℕ) (result : Result T E) → n ≢ 0 → IsSettledView a → Changes N a b n → Fences b c result → Takes (changing N n) a c result
step_ends {N = N} {a = a} {c = c} n result some settled changes fence = record {
  makes = subst (λ (l : List ℕ). IsAfter N a.words l) (sym fence.words) (changes_after changes);
  fenced = subst (λ (stores : Bool). Fenced stores (n + 1) a c result) (sym (lt-ltb 0 n (omega (arith, some))))
      (interval_ends result settled changes.device (λ x has. changes.flushed x has.0 has.1) fence);
}

-- no changes
pub step_none : {T E : Type 0} {N : ℕ → ℕ → Type 0} (device : DeviceView) (n : ℕ) (value : T) → n ≡ 0 → ((x v : ℕ) → N x v → ⊥) → Takes {E = E} (changing N n) device device (Ok value)
step_none device (suc n) value is none = absurd (omega (arith, is))
step_none device zero value is none = record {
  makes = record { size = refl; new = λ x v has. absurd (none x v has); words = λ x. inl refl };
  fenced = (refl, refl);
}

-- where no step has a store the device is as before
still : {T E : Type 0} (stores : Bool) (events more : ℕ) (a b : DeviceView) (result : Result T E) → (if stores then 1 else 0) + more ≡ 0 → Fenced stores events a b result → b ≡ a
still true events more a b result none one = absurd (omega (arith, none))
still false events more a b result none one = one.0

each_still : {T E : Type 0} (steps : List Step) (a c : DeviceView) (result : Result T E) → fences_in steps ≡ 0 → InTurn steps a c result → c ≡ a
each_still [] a c result none made = made.0
each_still (step ∷ later) a c result none (inl (one, is)) = still step.stores step.events (fences_in later) a c result none one.fenced
each_still (step ∷ later) a c result none (inr (b, one, rest)) =
    each_still later b c result (omega (arith, none)) rest ∙ still step.stores step.events (fences_in later) a b (Ok tt) none one.fenced

pub all_still : {T E : Type 0} {steps : List Step} {a c : DeviceView} {result : Result T E} → fences_in steps ≡ 0 → Unfolds steps a c result → c ≡ a
all_still {steps = steps} {a = a} {c = c} {result = result} none made = each_still steps a c result none made.in_turn

-- ---- at most one word

pub one_none : {E : Type 0} (P : ℕ) (part : Part) (slot : Option ℕ) (device : DeviceView) → slot ≡ None → Takes {T = Unit {0}} {E = E} (changing (IsOne P part slot) (one_changes slot)) device device (Ok tt)
one_none P part None device is = step_none device 0 tt refl (λ a v none. none)
one_none P part (Some number) device is = let none : ⊥ = cc is in absurd none

pub one_some : {E : Type 0} (P : ℕ) (part : Part) (slot : Option ℕ) (number : ℕ) {result : Result (Unit {0}) E} {a c : DeviceView} → slot ≡ Some number → Takes (changing (IsInPart P part number 0) 2) a c result → Takes (changing (IsOne P part slot) (one_changes slot)) a c result
one_some P part slot number {result} {a} {c} is made = subst (λ (o : Option ℕ). Takes (changing (IsOne P part o) (one_changes o)) a c result) (sym is) made

-- ---- several lists

-- these numbers' objects are cleared
abbrev Clears : Repairs → Part → List ℕ → DeviceView → DeviceView → Type 0
Clears r part numbers a b = Changes (IsCleared r.geometry.pages part numbers) a b (events_of_part part * length numbers)

module _ (r : Repairs) where
  pub no_clears : clear_changes r ≡ 0 → (a v : ℕ) → IsClearedBy r a v → ⊥
  no_clears is a v (inl (inl has)) = cleared_none r.geometry.pages Owner r.owners.items (λ _. 0) (omega (arith, is)) a v has
  no_clears is a v (inl (inr has)) = cleared_none r.geometry.pages Name r.slots.items (λ _. 0) (omega (arith, is)) a v has
  no_clears is a v (inr has) = cleared_none r.geometry.pages Links r.links.items (λ k. slice_index r.counts.items k) (omega (arith, is)) a v has

  pub no_frees : free_changes r ≡ 0 → (a v : ℕ) → IsFreedBy r a v → ⊥
  no_frees is a v (inl has) =
      cleared_none r.geometry.pages (Descriptor r.descriptor_width) r.descriptors.items (λ _. 0)
      (let most = mul-le-mul_left (length r.descriptors.items) r.descriptor_bounds.0 in omega (arith, is, most)) a v has
  no_frees is a v (inr has) =
      cleared_none r.geometry.pages (Inode r.inode_width) r.inodes.items (λ _. 0)
      (let most = mul-le-mul_left (length r.inodes.items) r.inode_bounds.0 in omega (arith, is, most)) a v has

  pub all_cleared : {a b c d : DeviceView} → HasObjects r → Clears r Owner r.owners.items a b → Clears r Name r.slots.items b c
      → Changes (IsLinked r.geometry.pages r.links.items r.counts.items) c d (events_of_part Links * length r.links.items) → Changes (IsClearedBy r) a d (clear_changes r)
  all_cleared has one two three = changes_then (changes_then one two (owners_slots r has)) three (cleared_links r has)

  pub all_freed : {a b c : DeviceView} → HasObjects r → Clears r (Descriptor r.descriptor_width) r.descriptors.items a b → Clears r (Inode r.inode_width) r.inodes.items b c → Changes (IsFreedBy r) a c (free_changes r)
  all_freed has one two = changes_then one two (descriptors_inodes r has)

-- by another name of the list
pub cleared_as : (r : Repairs) {part : Part} {a b : DeviceView} {numbers items : List ℕ} → numbers ≡ items → Clears r part numbers a b → Clears r part items a b
cleared_as r {part} {a} {b} is one = subst (λ (l : List ℕ). Clears r part l a b) is one

pub linked_as : {P : ℕ} {a b : DeviceView} {inodes links counts items : List ℕ} → inodes ≡ links → counts ≡ items → Changes (IsLinked P inodes counts) a b (events_of_part Links * length inodes) → Changes (IsLinked P links items) a b (events_of_part Links * length links)
linked_as {P} {a} {b} {inodes} {links} {counts} {items} is are one =
    subst (λ (l : List ℕ). Changes (IsLinked P links l) a b (events_of_part Links * length links)) are
    (subst (λ (l : List ℕ). Changes (IsLinked P l counts) a b (events_of_part Links * length l)) is one)
