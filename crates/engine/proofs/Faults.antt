-- Counts of faults over calls one after another.
use Rattle.std.proofs.Common.{◌≡◌, ◌⊎◌, inl, inr, ℕ, ◌≤◌, Bool, true, false, true≢false, refl, sym, ◌∙◌, arith}
use Rattle.std.specs.Prelude.{IsTrue}
use Rattle.pm_trait.specs.Device.{HasRisen}
use Rattle.engine.specs.Turns.{CountsFaults}

-- a test that isn't true is false
pub not_true : (b : Bool) → ¬ IsTrue b → b ≡ false
not_true true not = absurd (not refl)
not_true false not = refl

pub apart : {b : Bool} → b ≡ true → b ≡ false → ⊥
apart is not = true≢false (sym is ∙ not)

pub cases_of : (b : Bool) → (b ≡ true) ⊎ (b ≡ false)
cases_of true = inl refl
cases_of false = inr refl

-- a count that has risen in a part of a call has risen in it
pub risen_later : (before now later : ℕ) → HasRisen before now → now ≤ later → HasRisen before later
risen_later before now later (inl more) order = inl (omega arith)
risen_later before now later (inr all) order = inr (omega arith)

pub risen_earlier : (before now later : ℕ) → before ≤ now → HasRisen now later → HasRisen before later
risen_earlier before now later order (inl more) = inl (omega arith)
risen_earlier before now later order (inr all) = inr all

-- the count of faults goes with the stop over one more call
pub counts_on : {was stopped : Bool} {first before now : ℕ} → CountsFaults was first before → first ≤ before → before ≤ now → (stopped ≡ true → (was ≡ true) ⊎ HasRisen before now) → (was ≡ true → stopped ≡ true) → (stopped ≡ false → now ≡ before)
    → CountsFaults stopped first now
counts_on {was} {stopped} {first} {before} {now} counts one two cause stays no_fault = record {
  cause = λ is. elim (cause is) [
    | inl old ↦ risen_later first before now (counts.cause old) two
    | inr new ↦ risen_earlier first before now one new
  ];
  no_fault = λ is. no_fault is ∙ counts.no_fault (not_true was (λ old. let new = stays old in cc (new, is)));
}
