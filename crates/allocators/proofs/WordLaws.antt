-- What the bits of words say of the numbers, and what a change of one bit leaves.
use Rattle.std.proofs.Common.{◌≡◌, ◌≢◌, ℕ, ◌+◌, ◌*◌, ◌/◌, ◌%◌, ◌<◌, Bool, true, false, eqb, List, length, set, get_or, sym, ap, inl, inr, ◌∙◌, arith}
use Rattle.std.specs.Int.{bit_at}
use Rattle.std.proofs.lemmas.Bool.{cases_eq, cases_lt, eqb-true}
use Rattle.std.proofs.lemmas.List.{same_lists, length-set, get_or-set_same, get_or-set_other}
use Rattle.std.proofs.lemmas.List.FromFn.{length-map-range_with_len, get_or-map-range_with_len}
use Rattle.std.proofs.lemmas.Nat.Bits.{bit_at-zero}
use Rattle.std.proofs.lemmas.Option.{slice_get_within}
use Rattle.allocators.specs.Numbers.{IsFree}
use Rattle.allocators.specs.Words.{bit_of, numbers_of, AreWordsOf}
use Rattle.allocators.proofs.NumbersLaws.{free_here, reads_free}

-- ---- where a number's bit stands

pub bit_in : (words : List ℕ) (word bit k : ℕ) → bit < 64 → k ≡ 64 * word + bit → bit_of words k ≡ bit_at (get_or words word 0) bit
unfolding bit_of
bit_in words word bit k within is =
    let whole : k / 64 ≡ word = omega arith in
    let rest : k % 64 ≡ bit = omega arith in
    ap (λ place. bit_at (get_or words place 0) (k % 64)) whole ∙ ap (bit_at (get_or words word 0)) rest

pub bit_here : (words : List ℕ) (k : ℕ) → bit_of words k ≡ bit_at (get_or words (k / 64) 0) (k % 64)
bit_here words k = bit_in words (k / 64) (k % 64) k (omega arith) (omega arith)

-- a word that is 0 has no bit
pub none_in_zero : (words : List ℕ) (k : ℕ) → get_or words (k / 64) 0 ≡ 0 → bit_of words k ≡ 0
none_in_zero words k none = bit_here words k ∙ ap (λ word. bit_at word (k % 64)) none ∙ bit_at-zero (k % 64)

pub one_within : (words : List ℕ) (n k : ℕ) → AreWordsOf words n → bit_of words k ≡ 1 → k < n
one_within words n k words_are one = elim (cases_lt k n) [
  | inl within ↦ within
  | inr past ↦ let none = sym one ∙ words_are.past k past in let no : ⊥ = omega (arith, none) in absurd no
]

pub word_within : (words : List ℕ) (n k : ℕ) → AreWordsOf words n → k < n → k / 64 < length words
word_within words n k words_are within = let enough = words_are.enough in omega (arith, enough, within)

-- ---- the numbers

pub length_of : (words : List ℕ) (n : ℕ) → length (numbers_of words n) ≡ n
unfolding numbers_of
length_of words n = length-map-range_with_len (λ k. eqb (bit_of words k) 1) 0 n

pub read_of : (words : List ℕ) (n k : ℕ) (d : Bool) → k < n → get_or (numbers_of words n) k d ≡ eqb (bit_of words k) 1
unfolding numbers_of
read_of words n k d within = get_or-map-range_with_len (λ j. eqb (bit_of words j) 1) 0 n k k d within (omega arith)

pub free_within : (words : List ℕ) (n k : ℕ) → IsFree (numbers_of words n) k → k < n
free_within words n k free = let within = slice_get_within (numbers_of words n) k true free in let all = length_of words n in omega (arith, within, all)

pub free_one : (words : List ℕ) (n k : ℕ) → IsFree (numbers_of words n) k → bit_of words k ≡ 1
free_one words n k free =
    eqb-true (bit_of words k) 1 (sym (read_of words n k false (free_within words n k free)) ∙ reads_free (numbers_of words n) k free)

pub one_free : (words : List ℕ) (n k : ℕ) → AreWordsOf words n → bit_of words k ≡ 1 → IsFree (numbers_of words n) k
one_free words n k words_are one =
    let within = one_within words n k words_are one in
    free_here (numbers_of words n) k (let all = length_of words n in omega (arith, within, all))
    (read_of words n k false within ∙ ap (λ bit. eqb bit 1) one)

pub given_within : (words : List ℕ) (n k : ℕ) → AreWordsOf words n → k < length (numbers_of words n) → k / 64 < length words
given_within words n k words_are within = word_within words n k words_are (let all = length_of words n in omega (arith, all, within))

-- ---- a change of one bit

-- the number's bit is now this, and all others are as before
pub record Changes (k value : ℕ) (before after : List ℕ) : Type 0 where
  pub words : length after ≡ length before
  pub bit : bit_of after k ≡ value
  pub others : (other : ℕ) → other ≢ k → bit_of after other ≡ bit_of before other

pub changes : (words : List ℕ) (k bit word after : ℕ) → k / 64 < length words → word ≡ get_or words (k / 64) 0 → bit_at after (k % 64) ≡ bit
    → ((other : ℕ) → other < 64 → other ≢ k % 64 → bit_at after other ≡ bit_at word other) → Changes k bit words (set words (k / 64) after)
changes words k bit word after within is bit_is others = record {
  words = length-set words (k / 64) after;
  bit = bit_here (set words (k / 64) after) k ∙ ap (λ w. bit_at w (k % 64)) (get_or-set_same words (k / 64) after 0 within) ∙ bit_is;
  others = λ other apart. bit_here (set words (k / 64) after) other ∙ elsewhere other apart ∙ sym (bit_here words other);
}
  where
    elsewhere : (other : ℕ) → other ≢ k → bit_at (get_or (set words (k / 64) after) (other / 64) 0) (other % 64) ≡ bit_at (get_or words (other / 64) 0) (other % 64)
    elsewhere other apart = elim (cases_eq (other / 64) (k / 64)) [
      | inl same ↦
          ap (λ place. bit_at (get_or (set words (k / 64) after) place 0) (other % 64)) same
          ∙ ap (λ w. bit_at w (other % 64)) (get_or-set_same words (k / 64) after 0 within)
          ∙ others (other % 64) (omega arith) (λ alike. apart (omega (arith, same, alike)))
          ∙ ap (λ w. bit_at w (other % 64)) is
          ∙ ap (λ place. bit_at (get_or words place 0) (other % 64)) (sym same)
      | inr differs ↦ ap (λ w. bit_at w (other % 64)) (get_or-set_other words (k / 64) (other / 64) after 0 differs)
    ]

pub numbers_changed : (words after : List ℕ) (n k bit : ℕ) (is_free : Bool) → k < n → eqb bit 1 ≡ is_free → Changes k bit words after
    → numbers_of after n ≡ set (numbers_of words n) k is_free
numbers_changed words after n k bit is_free within is change =
    same_lists (numbers_of after n) (set (numbers_of words n) k is_free)
    (length_of after n ∙ sym (length-set (numbers_of words n) k is_free ∙ length_of words n))
    (λ j d inside. let below : j < n = (let all = length_of after n in omega (arith, all, inside)) in read_of after n j d below ∙ sym (read j d below))
  where
    read : (j : ℕ) (d : Bool) → j < n → get_or (set (numbers_of words n) k is_free) j d ≡ eqb (bit_of after j) 1
    read j d below = elim (cases_eq j k) [
      | inl same ↦
          ap (λ place. get_or (set (numbers_of words n) k is_free) place d) same
          ∙ get_or-set_same (numbers_of words n) k is_free d (let all = length_of words n in omega (arith, all, within))
          ∙ sym is ∙ ap (λ b. eqb b 1) (sym change.bit) ∙ ap (λ place. eqb (bit_of after place) 1) (sym same)
      | inr apart ↦
          get_or-set_other (numbers_of words n) k j is_free d apart ∙ read_of words n j d below ∙ ap (λ b. eqb b 1) (sym (change.others j apart))
    ]

pub words_changed : (words after : List ℕ) (n k bit : ℕ) → k < n → Changes k bit words after → AreWordsOf words n → AreWordsOf after n
words_changed words after n k bit within change words_are = record {
  enough = let same = change.words in let enough = words_are.enough in omega (arith, same, enough);
  few = let same = change.words in let few = words_are.few in omega (arith, same, few);
  past = λ other past. change.others other (λ is. (let no : ⊥ = omega (arith, within, past, is) in no)) ∙ words_are.past other past;
}
