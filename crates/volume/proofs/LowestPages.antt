-- The least free numbers, as they are listed one by one.
use Rattle.std.proofs.Common.{◌≡◌, ◌≢◌, inl, inr, ℕ, suc, ◌+◌, ◌<◌, ◌≤◌, Bool, List, [], ◌∷◌, ◌++◌, length, get_or, Contains, refl, sym, subst, arith}
use Rattle.std.specs.List.{AllPairs}
use Rattle.std.proofs.lemmas.Bool.{cases_eq, cases_lt}
use Rattle.std.proofs.lemmas.List.Elements.{Contains-get_or, Contains-append_left, Contains-push, Contains-push_cases}
use Rattle.std.proofs.lemmas.List.Quantifiers.{all_pairs_push}
use Rattle.image_reading.specs.Counts.{IsIn, IsDistinct}
use Rattle.image_reading.proofs.Counts.{count_one}
use Rattle.allocators.specs.Numbers.{IsFree, IsNextFree, free_in}
use Rattle.volume.specs.Lowest.{AreLowestOf}
use Rattle.volume.proofs.Frees.{count_free}
use Rattle.volume.proofs.PageLists.{contained_in, in_contained}

-- these are the free numbers below a bound, in rising order
pub record AreFreeBelow (free : List Bool) (bound : ℕ) (numbers : List ℕ) : Type 0 where
  pub rising : AllPairs (λ earlier later. earlier < later) numbers
  pub each : (k : ℕ) → Contains numbers k → IsFree free k × (k < bound)
  pub all : (k : ℕ) → k < bound → IsFree free k → Contains numbers k

pub none_below : (free : List Bool) → AreFreeBelow free 0 []
none_below free = record {
  rising = λ i j d lt within. absurd (omega (arith, within));
  each = λ k (place, within, is). absurd (omega (arith, within));
  all = λ k low. absurd (omega (arith, low));
}

-- the next one is listed
pub one_more : (free : List Bool) (from number : ℕ) (numbers : List ℕ) → AreFreeBelow free from numbers → IsNextFree free from number → AreFreeBelow free (number + 1) (numbers ++ number ∷ [])
one_more free from number numbers listed next = record {
  rising = all_pairs_push (λ earlier later. earlier < later) numbers number listed.rising
      (λ k d within. let below = (listed.each (get_or numbers k d) (Contains-get_or numbers k d within)).1 in let reached = next.reached in omega (arith, below, reached));
  each = λ k there. elim (Contains-push_cases numbers number k there) [
    | inl before ↦ let (is_free, below) = listed.each k before in let reached = next.reached in (is_free, omega (arith, below, reached))
    | inr same ↦ (subst (IsFree free) same next.free, omega (arith, same))
  ];
  all = λ k low is_free. elim (cases_eq k number) [
    | inl same ↦ subst (Contains (numbers ++ number ∷ [])) (sym same) (Contains-push numbers number)
    | inr other ↦ Contains-append_left numbers (number ∷ []) k (listed.all k (below k low other is_free) is_free)
  ];
}
  where
    below : (k : ℕ) → k < number + 1 → k ≢ number → IsFree free k → k < from
    below k low other is_free = elim (cases_lt k from) [
      | inl less ↦ less
      | inr reached ↦ let least = next.least k reached is_free in absurd (other (omega (arith, least, low)))
    ]

-- ---- all are listed where none is left

rising_head : (x : ℕ) (xs : List ℕ) → AllPairs (λ earlier later. earlier < later) (x ∷ xs) → ¬ IsIn x xs
rising_head x xs rising among =
    let (k, within, is) = in_contained x xs among in
    let less = rising 0 (suc k) x (omega arith) (omega (arith, within)) in
    omega (arith, less, is)

rising_tail : (x : ℕ) (xs : List ℕ) → AllPairs (λ earlier later. earlier < later) (x ∷ xs) → AllPairs (λ earlier later. earlier < later) xs
rising_tail x xs rising = λ i j d lt within. rising (suc i) (suc j) d (omega (arith, lt)) (omega (arith, within))

pub rising_distinct : (xs : List ℕ) → AllPairs (λ earlier later. earlier < later) xs → IsDistinct xs
rising_distinct [] rising = tt
rising_distinct (x ∷ xs) rising = (rising_head x xs rising, rising_distinct xs (rising_tail x xs rising))

pub all_listed : (free : List Bool) (from : ℕ) (numbers : List ℕ) → AreFreeBelow free from numbers → ((k : ℕ) → from ≤ k → ¬ IsFree free k) → length numbers ≡ free_in free
all_listed free from numbers listed none =
    count_one (IsFree free) (length numbers) (free_in free) (
      numbers,
      rising_distinct numbers listed.rising,
      (λ k. (
        (λ among. (listed.each k (in_contained k numbers among)).0),
        (λ is_free. contained_in k numbers (listed.all k (elim (cases_lt k from) [ inl less ↦ less | inr reached ↦ absurd (none k reached is_free) ]) is_free)),
      )),
      refl,
    )
    (count_free free)

-- so one is left where fewer are listed
pub one_left : (free : List Bool) (from count : ℕ) (numbers : List ℕ) → AreFreeBelow free from numbers → length numbers < count → count ≤ free_in free → ((k : ℕ) → from ≤ k → ¬ IsFree free k) → ⊥
one_left free from count numbers listed fewer enough none = let all = all_listed free from numbers listed none in omega (arith, all, fewer, enough)

pub lowest_listed : (free : List Bool) (from count : ℕ) (numbers : List ℕ) → AreFreeBelow free from numbers → length numbers ≡ count → AreLowestOf (IsFree free) count numbers
lowest_listed free from count numbers listed is = record {
  count_is = is;
  rising = listed.rising;
  each = λ k there. (listed.each k there).0;
  lowest = λ k other there lower is_free. listed.all other (let below = (listed.each k there).1 in omega (arith, below, lower)) is_free;
}

pub lowest_alike : (Q R : ℕ → Type 0) (count : ℕ) (numbers : List ℕ) → ((k : ℕ) → Q k → R k) → ((k : ℕ) → R k → Q k) → AreLowestOf Q count numbers → AreLowestOf R count numbers
lowest_alike Q R count numbers to from lowest = record {
  count_is = lowest.count_is;
  rising = lowest.rising;
  each = λ k there. to k (lowest.each k there);
  lowest = λ k other there lower is. lowest.lowest k other there lower (from other is);
}

pub no_numbers : (Q : ℕ → Type 0) → AreLowestOf Q 0 []
no_numbers Q = record {
  count_is = refl;
  rising = λ i j d lt within. absurd (omega (arith, within));
  each = λ k (place, within, is). absurd (omega (arith, within));
  lowest = λ k other (place, within, is) lower free. absurd (omega (arith, within));
}
