-- What a change at one number leaves, and what their count says.
use Rattle.std.proofs.Common.{◌≡◌, ◌≢◌, ℕ, suc, ◌+◌, ◌<◌, Bool, true, false, cond, List, [], ◌∷◌, length, set, get_or, replicate, Some, refl, sym, ap, ◌∙◌, arith, mul-one}
use Rattle.std.proofs.lemmas.Bool.{false≢true, false_from_ne_true}
use Rattle.std.proofs.lemmas.List.{length-set, get_or-set_same, get_or-set_other}
use Rattle.std.proofs.lemmas.List.Sums.{sum_by-set, sum_by-cons, get_or-le-sum_by}
use Rattle.std.proofs.lemmas.List.Folds.{sum_by-replicate}
use Rattle.std.proofs.lemmas.Option.{slice_get-get_or, slice_get_within, get_or_from_slice_get}
use Rattle.allocators.specs.Numbers.{IsFree, free_in, Takes, Gives}

pub free_here : (numbers : List Bool) (k : ℕ) → k < length numbers → get_or numbers k false ≡ true → IsFree numbers k
free_here numbers k within is = slice_get-get_or numbers k false within ∙ ap Some is

pub reads_free : (numbers : List Bool) (k : ℕ) → IsFree numbers k → get_or numbers k false ≡ true
reads_free numbers k free = get_or_from_slice_get numbers k true false free

-- ---- after a change at one number

pub free_after_give : (numbers : List Bool) (k : ℕ) → k < length numbers → IsFree (set numbers k true) k
free_after_give numbers k within =
    free_here (set numbers k true) k (let same = length-set numbers k true in omega (arith, same)) (get_or-set_same numbers k true false within)

pub taken_after_take : (numbers : List Bool) (k : ℕ) → k < length numbers → ¬ IsFree (set numbers k false) k
taken_after_take numbers k within free =
    false≢true (sym (get_or-set_same numbers k false false within) ∙ reads_free (set numbers k false) k free)

pub free_before : (numbers : List Bool) (k other : ℕ) (is_free : Bool) → other ≢ k → IsFree (set numbers k is_free) other → IsFree numbers other
free_before numbers k other is_free apart free =
    free_here numbers other
    (let same = length-set numbers k is_free in let within = slice_get_within (set numbers k is_free) other true free in omega (arith, same, within))
    (sym (get_or-set_other numbers k other is_free false apart) ∙ reads_free (set numbers k is_free) other free)

pub free_still : (numbers : List Bool) (k other : ℕ) (is_free : Bool) → other ≢ k → IsFree numbers other → IsFree (set numbers k is_free) other
free_still numbers k other is_free apart free =
    free_here (set numbers k is_free) other
    (let same = length-set numbers k is_free in let within = slice_get_within numbers other true free in omega (arith, same, within))
    (get_or-set_other numbers k other is_free false apart ∙ reads_free numbers other free)

-- ---- how many are free

abbrev counted : Bool → ℕ
counted is_free = cond is_free 1 0

pub count_of_all : (n : ℕ) → free_in (replicate n true) ≡ n
count_of_all n = sum_by-replicate counted n true ∙ mul-one n

count_with : (numbers : List Bool) (k : ℕ) (is_free : Bool) → k < length numbers
    → free_in (set numbers k is_free) + counted (get_or numbers k false) ≡ free_in numbers + counted is_free
count_with numbers k is_free within = sum_by-set counted numbers k is_free false within

pub count_after_give : (numbers : List Bool) (k : ℕ) → k < length numbers → ¬ IsFree numbers k → free_in (set numbers k true) ≡ free_in numbers + 1
count_after_give numbers k within taken =
    let was = ap counted (false_from_ne_true (get_or numbers k false) (λ is. taken (free_here numbers k within is))) in
    let change = count_with numbers k true within in
    omega (arith, was, change)

pub count_after_take : (numbers : List Bool) (k : ℕ) → IsFree numbers k → free_in (set numbers k false) + 1 ≡ free_in numbers
count_after_take numbers k free =
    let was = ap counted (reads_free numbers k free) in
    let change = count_with numbers k false (slice_get_within numbers k true free) in
    omega (arith, was, change)

-- ---- the calls

pub takes : (numbers : List Bool) (k : ℕ) → IsFree numbers k → Takes k numbers (set numbers k false)
takes numbers k free = record {
  numbers = refl;
  taken = taken_after_take numbers k (slice_get_within numbers k true free);
  count = count_after_take numbers k free;
}

pub gives : (numbers : List Bool) (k : ℕ) → k < length numbers → ¬ IsFree numbers k → Gives k numbers (set numbers k true)
gives numbers k within taken = record {
  numbers = refl;
  free = free_after_give numbers k within;
  count = count_after_give numbers k within taken;
}

-- ---- whether one is free

pub none_is_free : (numbers : List Bool) → free_in numbers ≡ 0 → (k : ℕ) → ¬ IsFree numbers k
none_is_free numbers none k free =
    let here = get_or-le-sum_by counted numbers k false (slice_get_within numbers k true free) in
    let one = ap counted (reads_free numbers k free) in
    omega (arith, here, one, none)

pub some_is_free : (numbers : List Bool) → 0 < free_in numbers → (k : ℕ) × IsFree numbers k
some_is_free [] some = absurd (omega arith)
some_is_free (true ∷ numbers) some = (0, refl)
some_is_free (false ∷ numbers) some =
    let rest = sum_by-cons counted false numbers in
    let (k, free) = some_is_free numbers (omega (arith, rest, some)) in
    (suc k, free)
