use Rattle.std.proofs.Common.{◌≡◌, ◌⊎◌, inl, inr, ℕ, ◌+◌, ◌-◌, ◌<◌, ◌≤◌, List, length, slice_index, slice_set, refl, ◌∙◌, ap, arith, get_or-set_same, get_or-set_other, length-set}
use Rattle.std.proofs.lemmas.Bool.{cases_eq}
use Rattle.pm_trait.proofs.DeviceViewLaws.{stores_nothing, store_stores, stores_then, stores_weaker}
use Rattle.recovery.specs.Changes.{IsWithin}
use Rattle.recovery.proofs.span.store_span.Goals as goal

wider : (first word other : ℕ) → first ≤ word → IsWithin first word other ⊎ (other ≡ word) → IsWithin first (word + 1) other
wider first word other order (inl within) = record { low = within.low; high = omega (arith, within.high) }
wider first word other order (inr is) = record { low = omega arith; high = omega arith }

stored_more : (first word value : ℕ) (old new : List ℕ) → word < length old → new ≡ slice_set old word value → ((a : ℕ) → first ≤ a → a < word → slice_index old a ≡ value) → (a : ℕ) → first ≤ a → a < word + 1 → slice_index new a ≡ value
stored_more first word value old new inside is so_far a low high = ap (λ (l : List ℕ). slice_index l a) is ∙ (elim (cases_eq a word) [
  | inl here ↦ ap (λ (k : ℕ). slice_index (slice_set old word value) k) here ∙ get_or-set_same old word value 0 inside
  | inr there ↦ get_or-set_other old word a value 0 there ∙ so_far a low (omega (arith, there, high))
])

pub loop-word-preserved : goal.loop-word-preserved
loop-word-preserved g c =
    let so_far = c.loop-word.invariant in
    let word = c.loop-word.word in
    let before = (g.P.Pm.view c.loop-word.pm).words in
    let inside : word < length before = omega (arith, so_far.long) in
    let is = c.store.ensures.words in
    record {
      stored = stored_more c.args.first word c.args.value before (g.P.Pm.view c.store.new.self).words inside is so_far.stored;
      long = ap length is ∙ length-set before word c.args.value ∙ so_far.long;
      device = stores_weaker (word + 1 - c.args.first) (λ other either. wider c.args.first word other (omega arith) either) (omega arith)
          (stores_then so_far.device (store_stores c.store.ensures) (λ other within is. omega (arith, within.high, is)));
    }

pub loop-word-init : goal.loop-word-init
loop-word-init g c = record {
  stored = λ a low high. absurd (omega (arith, low, high));
  long = refl;
  device = stores_weaker (c.args.first - c.args.first) (λ word none. absurd none) (omega arith) (stores_nothing (g.P.Pm.view c.args.pm.now));
}
