-- Numbers as bits of words, 64 a word.
use Rattle.std.specs.Prelude.{◌≡◌, ℕ, ◌*◌, ◌/◌, ◌%◌, ◌+◌, ◌<◌, ◌≤◌, ◌==◌, Bool, List, length, map, slice_index}
use Rattle.std.specs.Int.{bit_at}
use Rattle.std.specs.List.{range_with_len}

-- the bit of a number
unfoldable pub bit_of : List ℕ → ℕ → ℕ
bit_of words k = bit_at (slice_index words (k / 64)) (k % 64)

-- at each number from 0 to n - 1, whether its bit is 1
unfoldable pub numbers_of : List ℕ → ℕ → List Bool
numbers_of words n = map (λ k. bit_of words k == 1) (range_with_len 0 n)

-- as many words as n numbers take, and no bit past the last number is 1
pub record AreWordsOf (words : List ℕ) (n : ℕ) : Type 0 where
  pub enough : n ≤ 64 * length words
  pub few : 64 * length words ≤ n + 63
  pub past : (k : ℕ) → n ≤ k → bit_of words k ≡ 0

-- in a word, the lowest bit from one on that is 1
pub record IsLowestBit (word low bit : ℕ) : Type 0 where
  pub within : bit < 64
  pub reached : low ≤ bit
  pub set : bit_at word bit ≡ 1
  pub least : (other : ℕ) → low ≤ other → other < bit → bit_at word other ≡ 0

-- the least number from one on whose bit is 1
pub record IsNextBit (words : List ℕ) (from k : ℕ) : Type 0 where
  pub reached : from ≤ k
  pub set : bit_of words k ≡ 1
  pub least : (other : ℕ) → from ≤ other → other < k → bit_of words other ≡ 0
