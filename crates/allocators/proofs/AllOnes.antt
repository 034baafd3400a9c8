-- The words of numbers that are all free.
use Rattle.std.proofs.Common.{◌≡◌, ℕ, ◌+◌, ◌-◌, ◌*◌, ◌/◌, ◌%◌, ◌^◌, ◌<◌, ◌≤◌, true, eqb, List, length, get_or, set, replicate, sym, ap, inl, inr, ◌∙◌, arith}
use Rattle.std.specs.Int.{bit_at}
use Rattle.std.proofs.lemmas.Bool.{cases_eq, cases_lt}
use Rattle.std.proofs.lemmas.List.{same_lists, length-set, get_or-set_same, get_or-set_other, get_or_past, get_or-replicate, length-replicate}
use Rattle.std.proofs.lemmas.Nat.Bits.{bit_at_ones, bit_at_ones_above}
use Rattle.allocators.specs.Words.{bit_of, numbers_of, AreWordsOf}
use Rattle.allocators.proofs.WordLaws.{bit_here, none_in_zero, length_of, read_of}

-- the words of n numbers whose bits are all 1, and no other bit is
pub record AreAllOnes (words : List ℕ) (n : ℕ) : Type 0 where
  pub enough : n ≤ 64 * length words
  pub few : 64 * length words ≤ n + 63
  pub ones : (k : ℕ) → k < n → bit_of words k ≡ 1
  pub past : (k : ℕ) → n ≤ k → bit_of words k ≡ 0

all_bits : (count k : ℕ) → k / 64 < count → bit_of (replicate count (2 ^ 64 - 1)) k ≡ 1
all_bits count k within =
    bit_here (replicate count (2 ^ 64 - 1)) k ∙ ap (λ w. bit_at w (k % 64)) (get_or-replicate count (k / 64) (2 ^ 64 - 1) 0 within) ∙ bit_at_ones 64 (k % 64) (omega arith)

pub whole_words : (count n : ℕ) → n ≡ 64 * count → AreAllOnes (replicate count (2 ^ 64 - 1)) n
whole_words count n is = record {
  enough = let all = length-replicate count (2 ^ 64 - 1) in omega (arith, all, is);
  few = let all = length-replicate count (2 ^ 64 - 1) in omega (arith, all, is);
  ones = λ k within. all_bits count k (omega arith);
  past = λ k past. none_in_zero (replicate count (2 ^ 64 - 1)) k (get_or_past (replicate count (2 ^ 64 - 1)) (k / 64) 0 (let all = length-replicate count (2 ^ 64 - 1) in omega (arith, all, is, past)));
}

module _ (count n word : ℕ) (count_is : count ≡ n / 64 + 1) (some : 0 < n % 64) (word_is : word ≡ 2 ^ (n % 64) - 1) where
  words : List ℕ
  words = set (replicate count (2 ^ 64 - 1)) (n / 64) word

  length_is : length words ≡ count
  unfolding words
  length_is = length-set (replicate count (2 ^ 64 - 1)) (n / 64) word ∙ length-replicate count (2 ^ 64 - 1)

  in_last : (k : ℕ) → k / 64 ≡ n / 64 → bit_of words k ≡ bit_at (2 ^ (n % 64) - 1) (k % 64)
  unfolding words
  in_last k last =
      bit_here words k ∙ ap (λ place. bit_at (get_or words place 0) (k % 64)) last
      ∙ ap (λ w. bit_at w (k % 64)) (get_or-set_same (replicate count (2 ^ 64 - 1)) (n / 64) word 0 (let all = length-replicate count (2 ^ 64 - 1) in omega (arith, all, count_is)) ∙ word_is)

  in_front : (k : ℕ) → k / 64 < n / 64 → bit_of words k ≡ 1
  unfolding words
  in_front k before =
      bit_here words k ∙ ap (λ w. bit_at w (k % 64)) (get_or-set_other (replicate count (2 ^ 64 - 1)) (n / 64) (k / 64) word 0 (λ is. (let no : ⊥ = omega (arith, before, is) in no)))
      ∙ sym (bit_here (replicate count (2 ^ 64 - 1)) k) ∙ all_bits count k (omega (arith, count_is, before))

  ones : (k : ℕ) → k < n → bit_of words k ≡ 1
  ones k within = elim (cases_lt (k / 64) (n / 64)) [
    | inl before ↦ in_front k before
    | inr reached ↦ in_last k (omega arith) ∙ bit_at_ones (n % 64) (k % 64) (omega arith)
  ]

  past : (k : ℕ) → n ≤ k → bit_of words k ≡ 0
  past k behind = elim (cases_eq (k / 64) (n / 64)) [
    | inl last ↦ in_last k last ∙ bit_at_ones_above (n % 64) (k % 64) (omega arith)
    | inr apart ↦ none_in_zero words k (get_or_past words (k / 64) 0 (let all = length_is in omega (arith, all, count_is)))
  ]

  pub last_word : AreAllOnes (set (replicate count (2 ^ 64 - 1)) (n / 64) word) n
  unfolding words
  last_word = record {
    enough = let all = length_is in omega (arith, all, count_is);
    few = let all = length_is in omega (arith, all, count_is);
    ones = ones;
    past = past;
  }

-- ---- as numbers

pub are_words : (list : List ℕ) (n : ℕ) → AreAllOnes list n → AreWordsOf list n
are_words list n all = record { enough = all.enough; few = all.few; past = all.past }

pub all_free : (words : List ℕ) (n : ℕ) → ((k : ℕ) → k < n → bit_of words k ≡ 1) → numbers_of words n ≡ replicate n true
all_free words n ones =
    same_lists (numbers_of words n) (replicate n true) (length_of words n ∙ sym (length-replicate n true))
    (λ k d inside. let within : k < n = (let all = length_of words n in omega (arith, all, inside)) in read_of words n k d within ∙ ap (λ bit. eqb bit 1) (ones k within) ∙ sym (get_or-replicate n k true d within))
