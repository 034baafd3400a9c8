-- What taking and giving back leave.
use Rattle.std.proofs.Common.{◌≡◌, ℕ, ◌+◌, ◌-◌, ◌*◌, ◌/◌, ◌%◌, ◌^◌, ◌<◌, ◌≤◌, Bool, true, false, List, length, get_or, set, min, bit_and, bit_or, w64, refl, sym, ap, subst, inl, inr, ◌∙◌, arith}
use Rattle.std.specs.Int.{bit_not}
use Rattle.std.proofs.lemmas.Bool.{cases_eq, cases_lt}
use Rattle.std.proofs.lemmas.List.{length-set}
use Rattle.std.proofs.lemmas.List.Sums.{count_by-le-length}
use Rattle.std.proofs.lemmas.Nat.Bits.{bit_at_set_same, bit_at_set_other, bit_at_clear_same, bit_at_clear_other}
use Rattle.allocators.specs.Numbers.{IsFree, free_in, Takes, Gives}
use Rattle.allocators.specs.NumbersKept.{IsKept}
use Rattle.allocators.specs.Words.{bit_of, numbers_of}
use Rattle.allocators.proofs.NumbersLaws.{count_after_give, count_after_take, takes, gives}
use Rattle.allocators.proofs.WordLaws.{none_in_zero, length_of, free_within, Changes, changes, numbers_changed, words_changed}

-- ---- one taken

pub clears : (words : List ℕ) (k word : ℕ) → k / 64 < length words → word ≡ get_or words (k / 64) 0
    → Changes k 0 words (set words (k / 64) (bit_and word (bit_not w64 (1 * 2 ^ (k % 64) % 2 ^ 64))))
clears words k word within is =
    let place : k % 64 < 64 = omega arith in
    changes words k 0 word (bit_and word (bit_not w64 (1 * 2 ^ (k % 64) % 2 ^ 64))) within is (bit_at_clear_same w64 word (k % 64) place)
    (λ other below apart. bit_at_clear_other w64 word (k % 64) place other below apart)

module _ (words after : List ℕ) (n lowest_word count k : ℕ) (was : IsKept words n lowest_word count) (free : IsFree (numbers_of words n) k) (change : Changes k 0 words after) where
  taken_numbers : numbers_of after n ≡ set (numbers_of words n) k false
  taken_numbers = numbers_changed words after n k 0 false (free_within words n k free) refl change

  none_left : (next : ℕ) → ((place : ℕ) → lowest_word ≤ place → place < next → get_or after place 0 ≡ 0) → (other : ℕ) → other < 64 * next → bit_of after other ≡ 0
  none_left next passed other below = elim (cases_lt other (64 * lowest_word)) [
    | inl before ↦ elim (cases_eq other k) [
      | inl is ↦ ap (bit_of after) is ∙ change.bit
      | inr apart ↦ change.others other apart ∙ was.none_below other before
    ]
    | inr behind ↦ none_in_zero after other (passed (other / 64) (omega arith) (omega arith))
  ]

  pub kept_after_take : (next : ℕ) → ((place : ℕ) → lowest_word ≤ place → place < next → get_or after place 0 ≡ 0) → IsKept after n next (count - 1)
  kept_after_take next passed = record {
    fits = was.fits;
    words_are = words_changed words after n k 0 (free_within words n k free) change was.words_are;
    none_below = none_left next passed;
    counted = let less = count_after_take (numbers_of words n) k free in let same = ap free_in taken_numbers in let all = was.counted in omega (arith, less, same, all);
  }

  pub takes_bit : Takes k (numbers_of words n) (numbers_of after n)
  takes_bit = subst (Takes k (numbers_of words n)) (sym taken_numbers) (takes (numbers_of words n) k free)

pub some_counted : (words : List ℕ) (n lowest_word count k : ℕ) → IsKept words n lowest_word count → IsFree (numbers_of words n) k → 1 ≤ count
some_counted words n lowest_word count k was free = let less = count_after_take (numbers_of words n) k free in let all = was.counted in omega (arith, less, all)

-- ---- one given back

pub sets : (words : List ℕ) (k word : ℕ) → k / 64 < length words → word ≡ get_or words (k / 64) 0
    → Changes k 1 words (set words (k / 64) (bit_or word (1 * 2 ^ (k % 64) % 2 ^ 64)))
sets words k word within is =
    let place : k % 64 < 64 = omega arith in
    changes words k 1 word (bit_or word (1 * 2 ^ (k % 64) % 2 ^ 64)) within is (bit_at_set_same w64 word (k % 64) place)
    (λ other below apart. bit_at_set_other w64 word (k % 64) place other apart)

module _ (words after : List ℕ) (n lowest_word count k : ℕ) (was : IsKept words n lowest_word count) (within : k < length (numbers_of words n)) (taken : ¬ IsFree (numbers_of words n) k) (change : Changes k 1 words after) where
  below : k < n
  below = let all = length_of words n in omega (arith, all, within)

  given_numbers : numbers_of after n ≡ set (numbers_of words n) k true
  given_numbers = numbers_changed words after n k 1 true below refl change

  pub kept_after_give : IsKept after n (min lowest_word (k / 64)) (count + 1)
  kept_after_give = record {
    fits = was.fits;
    words_are = words_changed words after n k 1 below change was.words_are;
    none_below = λ other less. change.others other (λ is. (let no : ⊥ = omega (arith, less, is) in no)) ∙ was.none_below other (omega (arith, less));
    counted = let more = count_after_give (numbers_of words n) k within taken in let same = ap free_in given_numbers in let all = was.counted in omega (arith, more, same, all);
  }

  pub gives_bit : Gives k (numbers_of words n) (numbers_of after n)
  gives_bit = subst (Gives k (numbers_of words n)) (sym given_numbers) (gives (numbers_of words n) k within taken)

pub count_fits : (words : List ℕ) (n lowest_word count k : ℕ) → IsKept words n lowest_word count → k < length (numbers_of words n) → ¬ IsFree (numbers_of words n) k → count + 1 < 2 ^ 64
count_fits words n lowest_word count k was within taken =
    let more = count_after_give (numbers_of words n) k within taken in
    let most = count_by-le-length (λ (is_free : Bool). is_free) (set (numbers_of words n) k true) in
    let all = was.counted in
    let fits = was.fits in
    let long = length-set (numbers_of words n) k true ∙ length_of words n in
    omega (arith, more, most, all, fits, long)
