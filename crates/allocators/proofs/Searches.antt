-- What a search of words finds of the numbers.
use Rattle.std.proofs.Common.{◌≡◌, ℕ, ◌*◌, ◌/◌, ◌+◌, ◌-◌, ◌<◌, ◌≤◌, List, length, get_or, refl, inl, inr, ◌∙◌, arith, Option, Some, None, MatchOption}
use Rattle.std.specs.Int.{bit_at}
use Rattle.std.proofs.lemmas.Bool.{cases_lt}
use Rattle.std.proofs.lemmas.List.{get_or_past}
use Rattle.allocators.specs.Numbers.{IsFree, IsLowest, IsNextFree}
use Rattle.allocators.specs.Words.{bit_of, numbers_of, AreWordsOf, IsLowestBit, IsNextBit}
use Rattle.allocators.proofs.WordLaws.{bit_in, none_in_zero, free_one, one_free}

-- the answer of a search from a number on
abbrev pub Finds : List ℕ → ℕ → Option ℕ → Type 0
Finds words from answer = MatchOption answer ((k : ℕ) → from ≤ k → bit_of words k ≡ 0) (IsNextBit words from)

-- ---- one word after the other

-- the numbers up to a bit of a word have no bit, and neither have the others of the word
pub passed_word : (words : List ℕ) (from place low : ℕ) → low < 64 → ((k : ℕ) → from ≤ k → k < 64 * place + low → bit_of words k ≡ 0)
    → ((bit : ℕ) → low ≤ bit → bit < 64 → bit_at (get_or words place 0) bit ≡ 0) → (k : ℕ) → from ≤ k → k < 64 * (place + 1) + 0 → bit_of words k ≡ 0
passed_word words from place low within passed none k reached below = elim (cases_lt k (64 * place + low)) [
  | inl before ↦ passed k reached before
  | inr behind ↦ bit_in words place (k - 64 * place) k (omega arith) (omega arith) ∙ none (k - 64 * place) (omega arith) (omega arith)
]

pub found_in_word : (words : List ℕ) (from place low bit : ℕ) → from ≤ 64 * place + low → ((k : ℕ) → from ≤ k → k < 64 * place + low → bit_of words k ≡ 0)
    → IsLowestBit (get_or words place 0) low bit → IsNextBit words from (64 * place + bit)
found_in_word words from place low bit begins passed lowest = record {
  reached = let reached = lowest.reached in omega (arith, begins, reached);
  set = bit_in words place bit (64 * place + bit) lowest.within refl ∙ lowest.set;
  least = λ other reached less. elim (cases_lt other (64 * place + low)) [
    | inl before ↦ passed other reached before
    | inr behind ↦
        let within = lowest.within in
        bit_in words place (other - 64 * place) other (omega (arith, within, less)) (omega arith) ∙ lowest.least (other - 64 * place) (omega arith) (omega (arith, less))
  ];
}

pub none_behind : (words : List ℕ) (from place low : ℕ) → length words ≤ place → ((k : ℕ) → from ≤ k → k < 64 * place + low → bit_of words k ≡ 0) → (k : ℕ) → from ≤ k → bit_of words k ≡ 0
none_behind words from place low over passed k reached = elim (cases_lt k (64 * place + low)) [
  | inl before ↦ passed k reached before
  | inr behind ↦ none_in_zero words k (get_or_past words (k / 64) 0 (omega arith))
]

-- ---- what is found

-- where no number from the one up to the other is free, the search may begin at the other
pub next_free_of : (words : List ℕ) (n from start : ℕ) (answer : Option ℕ) → AreWordsOf words n → from ≤ start → ((k : ℕ) → from ≤ k → k < start → bit_of words k ≡ 0) → Finds words start answer
    → MatchOption answer ((k : ℕ) → from ≤ k → ¬ IsFree (numbers_of words n) k) (λ k. IsNextFree (numbers_of words n) from k)
next_free_of words n from start None words_are begins skipped found = λ k reached free. elim (cases_lt k start) [
  | inl before ↦ let no : ⊥ = omega (arith, skipped k reached before, free_one words n k free) in no
  | inr behind ↦ let no : ⊥ = omega (arith, found k behind, free_one words n k free) in no
]
next_free_of words n from start (Some k) words_are begins skipped found = record {
  reached = let reached = found.reached in omega (arith, begins, reached);
  free = one_free words n k words_are found.set;
  least = least;
}
  where
    least : (other : ℕ) → from ≤ other → IsFree (numbers_of words n) other → k ≤ other
    least other reached free = elim (cases_lt other k) [
      | inl less ↦ elim (cases_lt other start) [
        | inl before ↦ let no : ⊥ = omega (arith, skipped other reached before, free_one words n other free) in absurd no
        | inr behind ↦ let no : ⊥ = omega (arith, found.least other behind less, free_one words n other free) in absurd no
      ]
      | inr enough ↦ enough
    ]

pub lowest_of : (words : List ℕ) (n start : ℕ) (answer : Option ℕ) → AreWordsOf words n → ((k : ℕ) → k < start → bit_of words k ≡ 0) → Finds words start answer
    → MatchOption answer ((k : ℕ) → ¬ IsFree (numbers_of words n) k) (λ k. IsLowest (numbers_of words n) k)
lowest_of words n start None words_are skipped found = λ k free. next_free_of words n 0 start None words_are (omega arith) (λ other reached. skipped other) found k (omega arith) free
lowest_of words n start (Some k) words_are skipped found =
    let next = next_free_of words n 0 start (Some k) words_are (omega arith) (λ other reached. skipped other) found in
    record { free = next.free; least = λ other free. next.least other (omega arith) free }
