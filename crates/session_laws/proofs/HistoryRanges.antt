-- The ranges that running calls write: which call each is of, and that it doesn't matter in which order the calls stand.
use Rattle.std.proofs.Common.{◌≡◌, ◌↔◌, inl, inr, ℕ, zero, suc, ◌<◌, List, [], ◌∷◌, ◌++◌, length, set, Option, Some, None, refl, sym, ap, subst, ◌∙◌, arith}
use Rattle.std.proofs.lemmas.List.Elements.{Contains-append_left, Contains-append_right, Contains-append_cases}
use Rattle.std.specs.List.{Contains}
use Rattle.tree_model.specs.Run.{State}
use Rattle.mixing_laws.specs.Mixed.{Range}
use Rattle.mixing_laws.proofs.Ranges.{mixed_in_order_law}
use Rattle.running_laws.specs.Waits.{bytes_of_command}
use Rattle.running_laws.specs.Steps.{range_of}
use Rattle.session_laws.specs.Calls.{Call, Calls, call_at, without, listed_range, range_of_call, ranges_of_all}
use Rattle.session_laws.specs.Histories.{IsHistory}

-- ---- what sessions run

pub call_below : (calls : Calls) (s : ℕ) (call : Call) → call_at calls s ≡ Some call → s < length calls
call_below [] s call runs = cc
call_below (first ∷ calls) zero call runs = omega arith
call_below (first ∷ calls) (suc s) call runs = let below = call_below calls s call runs in omega (arith, below)

-- what a session runs, put there, changes nothing
set_same : (calls : Calls) (s : ℕ) → set calls s (call_at calls s) ≡ calls
set_same [] s = refl
set_same (first ∷ calls) zero = refl
set_same (first ∷ calls) (suc s) = ap (λ (rest : Calls). first ∷ rest) (set_same calls s)

-- ---- of which call a range is

in_listed : (o : Option Range) (range : Range) → Contains (listed_range o) range → o ≡ Some range
in_listed None range (k, below, is) = absurd (omega arith)
in_listed (Some first) range (zero, below, is) = ap Some is
in_listed (Some first) range (suc k, below, is) = absurd (omega arith)

abbrev pub HasCallOf : Calls → Range → Type 0
HasCallOf calls range = (s : ℕ) × (call : Call) × (call_at calls s ≡ Some call) × (range_of (bytes_of_command call.command) call.running ≡ Some range)

pub call_of_range : (calls : Calls) (range : Range) → Contains (ranges_of_all calls) range → HasCallOf calls range
call_of_range [] range (k, below, is) = absurd (omega arith)
call_of_range (None ∷ calls) range held = let (s, call, runs, is) = call_of_range calls range held in (suc s, call, runs, is)
call_of_range (Some call ∷ calls) range held = elim (Contains-append_cases (range_of_call call) (ranges_of_all calls) range held) [
  | inl here ↦ (0, call, refl, in_listed (range_of (bytes_of_command call.command) call.running) range here)
  | inr there ↦ let (s, other, runs, is) = call_of_range calls range there in (suc s, other, runs, is)
]

-- ---- the order of calls

abbrev pub ranges_of : Option Call → List Range
ranges_of None = []
ranges_of (Some call) = range_of_call call

swapped : (xs ys zs us : List Range) (range : Range) → (Contains zs range → Contains (ys ++ us) range) → Contains (xs ++ zs) range → Contains (ys ++ (xs ++ us)) range
swapped xs ys zs us range rest held = elim (Contains-append_cases xs zs range held) [
  | inl first ↦ Contains-append_right ys (xs ++ us) range (Contains-append_left xs us range first)
  | inr later ↦ elim (Contains-append_cases ys us range (rest later)) [
    | inl second ↦ Contains-append_left ys (xs ++ us) range second
    | inr last ↦ Contains-append_right ys (xs ++ us) range (Contains-append_right xs us range last)
  ]
]

swapped_back : (xs ys zs us : List Range) (range : Range) → (Contains (ys ++ us) range → Contains zs range) → Contains (ys ++ (xs ++ us)) range → Contains (xs ++ zs) range
swapped_back xs ys zs us range rest held = elim (Contains-append_cases ys (xs ++ us) range held) [
  | inl second ↦ Contains-append_right xs zs range (rest (Contains-append_left ys us range second))
  | inr others ↦ elim (Contains-append_cases xs us range others) [
    | inl first ↦ Contains-append_left xs zs range first
    | inr last ↦ Contains-append_right xs zs range (rest (Contains-append_right ys us range last))
  ]
]

-- what one session runs is taken to the front
pub set_ranges : (calls : Calls) (s : ℕ) (call : Option Call) → s < length calls → (range : Range)
    → Contains (ranges_of_all (set calls s call)) range ↔ Contains (ranges_of call ++ ranges_of_all (without calls s)) range
set_ranges [] s call below range = absurd (omega arith)
set_ranges (first ∷ calls) zero None below range = ((λ held. held), (λ held. held))
set_ranges (first ∷ calls) zero (Some call) below range = ((λ held. held), (λ held. held))
set_ranges (None ∷ calls) (suc s) call below range = set_ranges calls s call (omega (arith, below)) range
set_ranges (Some first ∷ calls) (suc s) call below range =
    let rest = set_ranges calls s call (omega (arith, below)) range in
    let all = ranges_of_all (set calls s call) in
    let others = ranges_of_all (without calls s) in
    (swapped (range_of_call first) (ranges_of call) all others range rest.0, swapped_back (range_of_call first) (ranges_of call) all others range rest.1)

-- and so of a history
pub history_in_order : (ranges others : List Range) (history words : State) → ((range : Range) → Contains ranges range ↔ Contains others range)
    → IsHistory ranges history words → IsHistory others history words
history_in_order ranges others history words same is = record { tree = mixed_in_order_law ranges others history.tree words.tree same is.tree; room = is.room }

pub history_to_front : (calls : Calls) (s : ℕ) (call : Option Call) (history words : State) → s < length calls → IsHistory (ranges_of_all (set calls s call)) history words
    → IsHistory (ranges_of call ++ ranges_of_all (without calls s)) history words
history_to_front calls s call history words below =
    history_in_order (ranges_of_all (set calls s call)) (ranges_of call ++ ranges_of_all (without calls s)) history words (set_ranges calls s call below)

pub history_from_front : (calls : Calls) (s : ℕ) (call : Option Call) (history words : State) → s < length calls
    → IsHistory (ranges_of call ++ ranges_of_all (without calls s)) history words
    → IsHistory (ranges_of_all (set calls s call)) history words
history_from_front calls s call history words below =
    history_in_order (ranges_of call ++ ranges_of_all (without calls s)) (ranges_of_all (set calls s call)) history words
    (λ range. let same = set_ranges calls s call below range in (same.1, same.0))

-- the same for a call that runs
pub history_of_call : (calls : Calls) (s : ℕ) (call : Call) (history words : State) → call_at calls s ≡ Some call → IsHistory (ranges_of_all calls) history words
    → IsHistory (range_of_call call ++ ranges_of_all (without calls s)) history words
history_of_call calls s call history words runs is =
    history_to_front calls s (Some call) history words (call_below calls s call runs)
    (subst (λ (l : Calls). IsHistory (ranges_of_all l) history words) (sym (ap (set calls s) (sym runs) ∙ set_same calls s)) is)

pub history_with_call : (calls : Calls) (s : ℕ) (call : Call) (history words : State) → call_at calls s ≡ Some call
    → IsHistory (range_of_call call ++ ranges_of_all (without calls s)) history words → IsHistory (ranges_of_all calls) history words
history_with_call calls s call history words runs is =
    subst (λ (l : Calls). IsHistory (ranges_of_all l) history words) (ap (set calls s) (sym runs) ∙ set_same calls s)
    (history_from_front calls s (Some call) history words (call_below calls s call runs) is)
