-- Steps that are told one after another, by their numbers.
use Rattle.std.proofs.Common.{◌≡◌, inl, inr, ℕ, zero, suc, ◌+◌, ◌<◌, ◌≤◌, List, [], ◌∷◌, ◌++◌, refl, sym, ◌∙◌, ap, arith, zero-add}
use Rattle.std.specs.Prelude.{map}
use Rattle.std.specs.List.{flat_map, range_with_len}
use Rattle.std.proofs.lemmas.List.{append-nil, map-id}
use Rattle.std.proofs.lemmas.List.Concat.{flat_map-append}
use Rattle.std.proofs.lemmas.List.FromFn.{map-range_with_len_more}
use Rattle.pm_trait.specs.declared.event.Event.{Event}
use Rattle.pm_trait.specs.DeviceView.{DeviceView}
use Rattle.fence_token.specs.Flushes.{Flushes}
use Rattle.fence_token.specs.Stored.{StoresExactly}
use Rattle.fence_token.proofs.StoredLaws.{exactly_nothing, exactly_then, exactly_as, flushes_nothing, flushes_then, flushes_as}
use Rattle.page_state.specs.Page.{OfSomeBelow}

-- one more number
pub range_more : (count : ℕ) → range_with_len 0 (count + 1) ≡ range_with_len 0 count ++ count ∷ []
range_more count =
    sym (map-id (range_with_len 0 (count + 1))) ∙ map-range_with_len_more (λ (x : ℕ). x) 0 count count (zero-add count)
    ∙ ap (λ (l : List ℕ). l ++ count ∷ []) (map-id (range_with_len 0 count))

pub flat_map-range_more : {A : Type 0} (told : ℕ → List A) (count : ℕ) → flat_map told (range_with_len 0 (count + 1)) ≡ flat_map told (range_with_len 0 count) ++ told count
flat_map-range_more told count =
    ap (λ (l : List ℕ). flat_map told l) (range_more count) ∙ flat_map-append told (range_with_len 0 count) (count ∷ [])
    ∙ ap (λ events. flat_map told (range_with_len 0 count) ++ events) (append-nil (told count))

pub flat_map-range_same : {A : Type 0} (one two : ℕ → List A) (count : ℕ) → ((k : ℕ) → k < count → one k ≡ two k) → flat_map one (range_with_len 0 count) ≡ flat_map two (range_with_len 0 count)
flat_map-range_same one two zero same = refl
flat_map-range_same {A} one two (suc count) same =
    let last : suc count ≡ count + 1 = omega arith in
    ap (λ (n : ℕ). flat_map one (range_with_len 0 n)) last ∙ flat_map-range_more one count
    ∙ ap (λ (l : List A). l ++ one count) (flat_map-range_same one two count (λ k below. same k (omega (arith, below))))
    ∙ ap (λ (l : List A). flat_map two (range_with_len 0 count) ++ l) (same count (omega arith))
    ∙ sym (flat_map-range_more two count) ∙ sym (ap (λ (n : ℕ). flat_map two (range_with_len 0 n)) last)

-- where each tells one event
pub flat_map-range_ones : {A : Type 0} (told : ℕ → List A) (event : ℕ → A) (count : ℕ) → ((k : ℕ) → k < count → told k ≡ event k ∷ []) → flat_map told (range_with_len 0 count) ≡ map event (range_with_len 0 count)
flat_map-range_ones told event zero ones = refl
flat_map-range_ones {A} told event (suc count) ones =
    let last : suc count ≡ count + 1 = omega arith in
    ap (λ (n : ℕ). flat_map told (range_with_len 0 n)) last ∙ flat_map-range_more told count
    ∙ ap (λ (l : List A). l ++ told count) (flat_map-range_ones told event count (λ k below. ones k (omega (arith, below))))
    ∙ ap (λ (l : List A). map event (range_with_len 0 count) ++ l) (ones count (omega arith))
    ∙ sym (map-range_with_len_more event 0 count count (zero-add count)) ∙ sym (ap (λ (n : ℕ). map event (range_with_len 0 n)) last)

-- ---- stores

pub no_stores : (Q : ℕ → ℕ → Type 0) (told : ℕ → List Event) (total : ℕ) (device : DeviceView) → StoresExactly (OfSomeBelow 0 Q) device device (flat_map told (range_with_len 0 0)) total
no_stores Q told total device = exactly_as (flat_map told (range_with_len 0 0)) total (λ word none. absurd none) refl (omega arith) (exactly_nothing device)

pub stores_more : {a b c : DeviceView} {m n : ℕ} (Q : ℕ → ℕ → Type 0) (told : ℕ → List Event) (count total : ℕ) → m + n ≤ total → ((index word : ℕ) → index < count → Q index word → Q count word → ⊥)
    → StoresExactly (OfSomeBelow count Q) a b (flat_map told (range_with_len 0 count)) m → StoresExactly (Q count) b c (told count) n → StoresExactly (OfSomeBelow (count + 1) Q) a c (flat_map told (range_with_len 0 (count + 1))) total
stores_more Q told count total most apart so_far step =
    exactly_as (flat_map told (range_with_len 0 (count + 1))) total
    (λ word either. elim either [
      | inl first ↦ let below = first.below in record { index = first.index; below = omega (arith, below); is = first.is }
      | inr here ↦ record { index = count; below = omega arith; is = here }
    ])
    (sym (flat_map-range_more told count)) most
    (exactly_then so_far step (λ word first here. apart first.index word first.below first.is here))

-- all of them
pub stores_done : {a b : DeviceView} {m : ℕ} (Q : ℕ → ℕ → Type 0) (told : ℕ → List Event) (count all total : ℕ) → count ≡ all → m ≤ total
    → StoresExactly (OfSomeBelow count Q) a b (flat_map told (range_with_len 0 count)) m → StoresExactly (OfSomeBelow all Q) a b (flat_map told (range_with_len 0 all)) total
stores_done Q told count all total same most so_far =
    exactly_as (flat_map told (range_with_len 0 all)) total
    (λ word first. let below = first.below in record { index = first.index; below = omega (arith, below, same); is = first.is })
    (ap (λ (n : ℕ). flat_map told (range_with_len 0 n)) same) most so_far

-- ---- flushes

pub no_more_flushes : (told : ℕ → List Event) (total : ℕ) (device : DeviceView) → Flushes device device (flat_map told (range_with_len 0 0)) total
no_more_flushes told total device = flushes_as (flat_map told (range_with_len 0 0)) total refl (omega arith) (flushes_nothing device)

pub flushes_one_more : {a b c : DeviceView} {m n : ℕ} (told : ℕ → List Event) (count total : ℕ) → m + n ≤ total
    → Flushes a b (flat_map told (range_with_len 0 count)) m → Flushes b c (told count) n → Flushes a c (flat_map told (range_with_len 0 (count + 1))) total
flushes_one_more told count total most so_far step =
    flushes_as (flat_map told (range_with_len 0 (count + 1))) total (sym (flat_map-range_more told count)) most (flushes_then so_far step)

pub flushes_all : {a b : DeviceView} {m : ℕ} (told : ℕ → List Event) (count all total : ℕ) → count ≡ all → m ≤ total
    → Flushes a b (flat_map told (range_with_len 0 count)) m → Flushes a b (flat_map told (range_with_len 0 all)) total
flushes_all told count all total same most so_far = flushes_as (flat_map told (range_with_len 0 all)) total (ap (λ (n : ℕ). flat_map told (range_with_len 0 n)) same) most so_far
