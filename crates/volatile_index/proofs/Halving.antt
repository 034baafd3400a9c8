-- A search by halving: what one comparison tells of the entries on its side, and how many comparisons there are.
use Rattle.std.proofs.Common.{◌≡◌, ℕ, suc, ◌+◌, ◌-◌, ◌*◌, ◌^◌, ◌≤◌, List, length, get_or, slice_get, IsSomeAnd, Some, refl, sym, ap, subst, ◌∙◌, arith, true, Ordering, Less, Equal, Greater, is_lt}
use Rattle.std.specs.Cmp.Lexicographic.{nat_list_cmp_total}
use Rattle.std.specs.FinMap.{nat_cmp-IsAntisymmetric, slice_cmp-IsAntisymmetric}
use Rattle.std.specs.List.{AllWithin}
use Rattle.std.specs.List.Sorted.{IsNonDecreasingBy, IsSortedBy}
use Rattle.std.specs.Ordering.{ordering_index}
use Rattle.std.proofs.lemmas.Bool.{false≢true}
use Rattle.std.proofs.lemmas.List.Sorted.{searchable_from_sorted}
use Rattle.std.proofs.lemmas.Option.{get_or_from_slice_get, slice_get_within}
use Rattle.std.proofs.Math.Nat.{pow-succ', mul-le-mul_left}
use Rattle.volatile_index.specs.declared.entry.Entry.{Entry}
use Rattle.layout.specs.Name.{name_cmp}
use Rattle.volatile_index.specs.Entries.{IsSorted}
use Rattle.volatile_index.specs.Place.{IsGap}
use Rattle.volatile_index.proofs.EntryLaws.{turned}

abbrev against : List ℕ → Entry → Ordering
against name entry = name_cmp entry.name name

not_falling : (entries : List Entry) → IsSorted entries → IsSortedBy (λ a b. is_lt (name_cmp a.name b.name)) entries
not_falling entries sorted k d low next =
    ap is_lt (turned (get_or entries k d).name (get_or entries (k + 1) d).name (sorted k (k + 1) d (omega arith) next))

non_decreasing : (name : List ℕ) (entries : List Entry) → IsSorted entries → IsNonDecreasingBy (λ entry. ordering_index (against name entry)) entries
non_decreasing name entries sorted = searchable_from_sorted nat_list_cmp_total (λ (entry : Entry). entry.name) entries name (not_falling entries sorted)

is_less : (order : Ordering) → ordering_index order ≤ 0 → order ≡ Less
is_less Less low = refl
is_less Equal low = absurd (omega arith)
is_less Greater low = absurd (omega arith)

is_greater : (order : Ordering) → 2 ≤ ordering_index order → order ≡ Greater
is_greater Less high = absurd (omega arith)
is_greater Equal high = absurd (omega arith)
is_greater Greater high = refl

pub is_lt_less : (order : Ordering) → is_lt order ≡ true → order ≡ Less
is_lt_less Less is = refl
is_lt_less Equal is = absurd (false≢true is)
is_lt_less Greater is = absurd (false≢true is)

-- ---- one comparison

module _ (name : List ℕ) (entries : List Entry) (middle : ℕ) (found : Entry) (sorted : IsSorted entries) (is : slice_get entries middle ≡ Some found) where
  here : (d : Entry) → get_or entries middle d ≡ found
  here d = get_or_from_slice_get entries middle found d is

  pub less_up_to : name_cmp found.name name ≡ Less → AllWithin (λ entry. name_cmp entry.name name ≡ Less) entries 0 (middle + 1)
  less_up_to less k d low below = is_less (against name (get_or entries k d))
      (let rising = non_decreasing name entries sorted k middle d (omega arith) (slice_get_within entries middle found is) in
      let index = ap (λ entry. ordering_index (against name entry)) (here d) ∙ ap ordering_index less in
      omega (arith, rising, index))

  pub greater_from : name_cmp found.name name ≡ Greater → AllWithin (λ entry. name_cmp entry.name name ≡ Greater) entries middle (length entries)
  greater_from greater k d low below = is_greater (against name (get_or entries k d))
      (let rising = non_decreasing name entries sorted middle k d low below in
      let index = ap (λ entry. ordering_index (against name entry)) (here d) ∙ ap ordering_index greater in
      omega (arith, rising, index))

  pub found_here : name_cmp found.name name ≡ Equal → IsSomeAnd (slice_get entries middle) (λ entry. entry.name ≡ name)
  found_here equal =
      subst (λ option. IsSomeAnd option (λ entry. entry.name ≡ name)) (sym is)
      (slice_cmp-IsAntisymmetric nat_cmp-IsAntisymmetric found.name name equal)

-- where the last name is less, a new one comes behind all
pub behind_all : (name : List ℕ) (entries : List Entry) (last : Entry) → IsSorted entries → slice_get entries (length entries - 1) ≡ Some last → name_cmp last.name name ≡ Less → IsGap entries (length entries) name
behind_all name entries last sorted is less = record {
  within = omega arith;
  less = λ k d low below. less_up_to name entries (length entries - 1) last sorted is less k d low (omega arith);
  greater = λ k d reached below. absurd (omega arith);
}

-- ---- how many comparisons there are

-- each step halves what is left: this holds of the steps so far, the entries that are left, and all entries
pub record Halves (steps rest all : ℕ) : Type 0 where
  pub left : 2 ^ steps * rest ≤ all
  pub cost : 2 ^ steps ≤ 2 * all + 1

pub no_step_yet : (all : ℕ) → Halves 0 all all
no_step_yet all = record { left = omega arith; cost = omega arith }

module _ (start before after rest all : ℕ) (begun : start ≤ before) (one : after ≡ before + 1) (some : 1 ≤ rest) (halves : Halves (before - start) rest all) where
  steps_are : 2 ^ (after - start) ≡ 2 * 2 ^ (before - start)
  steps_are = ap (λ n. 2 ^ n) (let next : after - start ≡ suc (before - start) = omega arith in next) ∙ pow-succ' 2 (before - start)

  -- a step among some entries costs no more than is allowed
  pub step_cost : 2 ^ (after - start) ≤ 2 * all + 1
  step_cost =
      let twice = steps_are in
      let most = halves.left in
      let each = mul-le-mul_left (2 ^ (before - start)) some in
      omega (arith, twice, most, each)

  -- and leaves at most half of them
  pub step_halves : (less : ℕ) → 2 * less ≤ rest → Halves (after - start) less all
  step_halves less half = record {
    left =
        let twice = ap (λ n. n * less) steps_are in
        let most = halves.left in
        let each = mul-le-mul_left (2 ^ (before - start)) half in
        omega (arith, twice, most, each);
    cost = step_cost;
  }
