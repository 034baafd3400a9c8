-- What is kept beside the numbers.
use Rattle.std.specs.Prelude.{◌≡◌, ℕ, ◌*◌, ◌^◌, ◌<◌, List}
use Rattle.allocators.specs.Numbers.{free_in}
use Rattle.allocators.specs.Words.{bit_of, numbers_of, AreWordsOf}

-- the words of n numbers, a word below which none has a free number, and how many numbers are free
pub record IsKept (words : List ℕ) (n lowest_word count : ℕ) : Type 0 where
  pub fits : n < 2 ^ 64
  pub words_are : AreWordsOf words n
  pub none_below : (k : ℕ) → k < 64 * lowest_word → bit_of words k ≡ 0
  pub counted : count ≡ free_in (numbers_of words n)
