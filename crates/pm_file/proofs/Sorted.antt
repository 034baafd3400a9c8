-- The lines of a round in the order of their addresses.
use Rattle.std.proofs.Common.{◌≡◌, ◌==◌, ℕ, ◌<◌, List, length, sym, ◌∙◌, slice_index, subst}
use Rattle.std.specs.Prelude.{Option, Some, None}
use Rattle.std.specs.List.Sorted.{IsPermutation, IsSorted, IsStrictlyIncreasing}
use Rattle.std.specs.Ordering.{nat_cmp}
use Rattle.std.proofs.lemmas.List.Elements.{All-get_or, All-from_get_or}
use Rattle.std.proofs.lemmas.List.Sorted.{IsNonDecreasingBy-from_sort, All-permutation, IsPermutation-trans, list_any-IsPermutation}
use Rattle.std.proofs.lemmas.Map.Keys.{IsDistinct-IsPermutation, IsStrictlyIncreasing-from_distinct}
use Rattle.pm_file.specs.Given.{is_listed, IsEachOnce, HasLines}
use Rattle.pm_file.proofs.Rounds.{flips}

-- each line is listed once still
pub once_sorted : (old new : List ℕ) → IsPermutation old new → IsEachOnce old → IsEachOnce new
once_sorted old new same once = IsDistinct-IsPermutation _ flips old new same once

-- so they rise
pub rises : (lines : List ℕ) → IsSorted nat_cmp lines → IsEachOnce lines → IsStrictlyIncreasing lines
rises lines sorted once = IsStrictlyIncreasing-from_distinct lines (IsNonDecreasingBy-from_sort (λ line. line) lines sorted) once

-- what they were all below they are below
pub below_sorted : (old new : List ℕ) (bound : ℕ) → IsPermutation old new → ((k : ℕ) → k < length old → slice_index old k < bound) → (k : ℕ) → k < length new → slice_index new k < bound
below_sorted old new bound same below k inside =
    let all = All-permutation (λ line. line < bound) old new same (All-from_get_or (λ line. line < bound) old 0 below) in
    All-get_or (λ line. line < bound) new k 0 inside all

-- the same lines are listed
pub listed_sorted : (old new : List ℕ) (line : ℕ) → IsPermutation old new → is_listed new line ≡ is_listed old line
listed_sorted old new line same = sym (list_any-IsPermutation (λ listed. listed == line) old new same)

-- what a medium was given of them it was given of the lines as they were
pub lines_sorted : (before after : Option (List ℕ)) (words old new : List ℕ) → IsPermutation old new → HasLines before after words new → HasLines before after words old
lines_sorted None after words old new same has = tt
lines_sorted (Some before) None words old new same has = absurd has
lines_sorted (Some before) (Some after) words old new same has = record {
  given = λ line k listed small. has.given line k (listed_sorted old new line same ∙ listed) small;
  kept = λ line k unlisted small. has.kept line k (listed_sorted old new line same ∙ unlisted) small;
}

-- what is sorted behind a first change of places has the lines that were seen
pub same_sorted : (seen old front held new : List ℕ) → seen ≡ old → held ≡ front → IsPermutation seen front → IsPermutation held new → IsPermutation old new
same_sorted seen old front held new is kept first then = subst (λ (l : List ℕ). IsPermutation l new) is (IsPermutation-trans seen front new first (subst (λ (l : List ℕ). IsPermutation l new) kept then))
