-- The count of a page among fills, and what an edit of one fill does to the counts.
use Rattle.std.proofs.Common.{◌≡◌, ◌≢◌, ℕ, zero, suc, ◌+◌, ◌-◌, ◌<◌, ◌≤◌, List, [], ◌∷◌, length, get_or, set, Result, Ok, Err, IfOk, IfErr, refl, sym, ap, subst, ◌∙◌, inl, inr, arith}
use Rattle.std.specs.List.{insert, remove}
use Rattle.std.specs.List.Sorted.{IsSearchInRange, IsBinarySearchResult, IsNonDecreasingBy}
use Rattle.std.specs.Ordering.{nat_cmp, ordering_index}
use Rattle.std.proofs.lemmas.Cmp.{ranked}
use Rattle.std.proofs.lemmas.List.Sorted.{IsNonDecreasingBy-from_default}
use Rattle.std.proofs.lemmas.List.Edits.{length-insert, get_or-insert_below, get_or-insert_at, get_or-insert_above, length-remove, get_or-remove_below, get_or-remove_above}
use Rattle.std.proofs.lemmas.Bool.{cases_lt, cases_eq}
use Rattle.std.proofs.lemmas.Bool.Decides.{nat_tests}
use Rattle.std.proofs.lemmas.Grind.{common_steps}
use Rattle.volatile_index.specs.declared.fills.Fill.{Fill}
use Rattle.volatile_index.specs.Fills.{names_at, no_fill, page_of, names_of, IsRising, IsFillAt, IsFillGap, AreFull, IsFirstOpen, IsSound, Raises, IsOpenIn, IsLeastOpenIn}

-- ---- the search

module _ (fills : List Fill) (rising : IsRising fills) (page : ℕ) where
  comparisons_rise : IsNonDecreasingBy (λ (fill : Fill). ordering_index (nat_cmp fill.page page)) fills
  comparisons_rise = IsNonDecreasingBy-from_default (λ (fill : Fill). ordering_index (nat_cmp fill.page page)) fills no_fill (λ i j le in_range.
      let pages_rise : page_of fills i ≤ page_of fills j = grind (arith, rising i j, λ (same : i ≡ j). ap (page_of fills) same) in
      grind (arith, nat_tests))

  found : (place : ℕ) → place < length fills → IsBinarySearchResult (λ (fill : Fill). nat_cmp fill.page page) fills (Ok place) → IsFillAt fills page place
  found place in_range equal = record { within = in_range; is = ranked _ page _ (sym (equal no_fill)) }

  gap : (place : ℕ) → place ≤ length fills → IsBinarySearchResult (λ (fill : Fill). nat_cmp fill.page page) fills (Err place) → IsFillGap fills page place
  gap place in_range parted = record {
    within = in_range;
    less = λ j lt. ranked _ page _ (sym ((parted comparisons_rise).0 j no_fill (omega arith) lt));
    greater = λ j le lt. ranked _ page _ (sym ((parted comparisons_rise).1 j no_fill le lt));
  }

  pub found_at : (r : Result ℕ ℕ) → IsSearchInRange r (length fills) → IsBinarySearchResult (λ (fill : Fill). nat_cmp fill.page page) fills r → IfOk r (λ place. IsFillAt fills page place)
  found_at (Ok place) in_range is = found place in_range is
  found_at (Err place) in_range is = tt

  pub gap_at : (r : Result ℕ ℕ) → IsSearchInRange r (length fills) → IsBinarySearchResult (λ (fill : Fill). nat_cmp fill.page page) fills r → IfErr r (λ place. IsFillGap fills page place)
  gap_at (Ok place) in_range is = tt
  gap_at (Err place) in_range is = gap place in_range is

-- ---- the count of a page

rising_tail : (fill : Fill) (fills : List Fill) → IsRising (fill ∷ fills) → IsRising fills
rising_tail fill fills rising i j lt within = rising (suc i) (suc j) (omega arith) (omega arith)

pub names_here : (fills : List Fill) (page place : ℕ) → IsRising fills → IsFillAt fills page place → names_at fills page ≡ names_of fills place
names_here [] page place rising at = absurd (omega (arith, at.within))
names_here (fill ∷ fills) page zero rising at = grind (arith, nat_tests, at.is)
names_here (fill ∷ fills) page (suc place) rising at =
    let within : place < length fills = omega (arith, at.within) in
    grind (arith, nat_tests, at.is, rising 0 (suc place), names_here fills page place (rising_tail fill fills rising) (record { within = within; is = at.is }))

pub no_names : (fills : List Fill) (page : ℕ) → ((k : ℕ) → k < length fills → page_of fills k ≢ page) → names_at fills page ≡ 0
no_names [] page none = refl
no_names (fill ∷ fills) page none = grind (arith, nat_tests, none 0 (omega arith), no_names fills page (λ k lt. none (suc k) (omega arith)))

pub names_in_gap : (fills : List Fill) (page place : ℕ) → IsFillGap fills page place → names_at fills page ≡ 0
names_in_gap fills page place gap = no_names fills page (λ k lt same. grind (arith, gap.less k, gap.greater k))

pub fill_of : (fills : List Fill) (page : ℕ) → 0 < names_at fills page → (place : ℕ) × IsFillAt fills page place
fill_of [] page some = absurd (omega (arith, some))
fill_of (fill ∷ fills) page some = elim (cases_eq fill.page page) [
  | inl same ↦ (0, record { within = omega arith; is = same })
  | inr other ↦
      let later : 0 < names_at fills page = grind (arith, nat_tests, some, other) in
      let (place, at) = fill_of fills page later in
      (suc place, record { within = let w = at.within in omega (arith, w); is = at.is })
]

-- ---- a count that changes

names_set : (fills : List Fill) (page names place other : ℕ) → IsRising fills → IsFillAt fills page place → other ≢ page
    → names_at (set fills place (record { page = page; names = names })) other ≡ names_at fills other
names_set [] page names place other rising at differs = absurd (omega (arith, at.within))
names_set (fill ∷ fills) page names zero other rising at differs = grind (arith, nat_tests, at.is, differs)
names_set (fill ∷ fills) page names (suc place) other rising at differs =
    let within : place < length fills = omega (arith, at.within) in
    grind (arith, nat_tests, names_set fills page names place other (rising_tail fill fills rising) (record { within = within; is = at.is }) differs)

names_insert : (fills : List Fill) (page names place other : ℕ) → place ≤ length fills → other ≢ page
    → names_at (insert fills place (record { page = page; names = names })) other ≡ names_at fills other
names_insert fills page names zero other within differs = grind (arith, nat_tests, differs)
names_insert [] page names (suc place) other within differs = absurd (omega (arith, within))
names_insert (fill ∷ fills) page names (suc place) other within differs =
    grind (arith, nat_tests, names_insert fills page names place other (omega (arith, within)) differs)

names_remove : (fills : List Fill) (page place other : ℕ) → IsFillAt fills page place → other ≢ page → names_at (remove fills place) other ≡ names_at fills other
names_remove [] page place other at differs = absurd (omega (arith, at.within))
names_remove (fill ∷ fills) page zero other at differs = grind (arith, nat_tests, at.is, differs)
names_remove (fill ∷ fills) page (suc place) other at differs =
    let within : place < length fills = omega (arith, at.within) in
    grind (arith, nat_tests, names_remove fills page place other (record { within = within; is = at.is }) differs)

module _ (fills : List Fill) (first_open : ℕ) (sound : IsSound fills first_open) (page : ℕ) where
  module _ (place : ℕ) (at : IsFillAt fills page place) where
    -- the page's fill gets another count
    module _ (names : ℕ) (some : 1 ≤ names) where
      abbrev pub new : List Fill
      new = set fills place (record { page = page; names = names })

      pub set_length : length new ≡ length fills
      set_length = grind (arith, common_steps)

      set_page : (k : ℕ) → k < length fills → page_of new k ≡ page_of fills k
      set_page k lt = grind (arith, common_steps, cases_eq k place, at.is, at.within)

      set_names : (k : ℕ) → k ≢ place → names_of new k ≡ names_of fills k
      set_names k differs = grind (arith, common_steps, differs)

      set_here : names_of new place ≡ names
      set_here = grind (arith, common_steps, at.within)

      pub set_rising : IsRising new
      set_rising i j lt within = grind (arith, set_length, set_page i, set_page j, sound.rising i j)

      pub set_some : (k : ℕ) → k < length new → 1 ≤ names_of new k
      set_some k lt = elim (cases_eq k place) [
        | inl same ↦ subst (λ n. 1 ≤ names_of new n) (sym same) (subst (λ n. 1 ≤ n) (sym set_here) some)
        | inr other ↦ subst (λ n. 1 ≤ n) (sym (set_names k other)) (sound.some k (let same = set_length in omega (arith, same, lt)))
      ]

      pub set_count : names_at new page ≡ names
      set_count = names_here new page place set_rising (record { within = grind (arith, set_length, at.within); is = grind (arith, set_page place, at.is, at.within) }) ∙ set_here

      pub set_others : (other : ℕ) → other ≢ page → names_at new other ≡ names_at fills other
      set_others other differs = names_set fills page names place other sound.rising at differs

      pub set_full : (from : ℕ) → from ≤ first_open → (place < from → 32 ≤ names) → AreFull new from
      set_full from low many k lt = elim (cases_eq k place) [
        | inl same ↦ subst (λ n. 32 ≤ names_of new n) (sym same) (subst (λ n. 32 ≤ n) (sym set_here) (many (omega (arith, same, lt))))
        | inr other ↦ subst (λ n. 32 ≤ n) (sym (set_names k other)) (sound.first.full k (omega (arith, lt, low)))
      ]

      pub set_raises : names ≡ names_of fills place + 1 → Raises page fills new
      set_raises more = record {
        here = let is = set_count in let was = names_here fills page place sound.rising at in omega (arith, is, was, more);
        others = set_others;
      }

      pub set_lowers : names + 1 ≡ names_of fills place → Raises page new fills
      set_lowers fewer = record {
        here = let is = set_count in let was = names_here fills page place sound.rising at in omega (arith, is, was, fewer);
        others = λ other differs. sym (set_others other differs);
      }

    -- the page's fill is taken out
    abbrev pub less : List Fill
    less = remove fills place

    less_length : length less + 1 ≡ length fills
    less_length = length-remove fills place at.within

    less_below : (k : ℕ) → k < place → get_or less k no_fill ≡ get_or fills k no_fill
    less_below k lt = get_or-remove_below fills place no_fill k lt at.within

    less_above : (k : ℕ) → place ≤ k → get_or less k no_fill ≡ get_or fills (k + 1) no_fill
    less_above k le = get_or-remove_above fills place no_fill k le at.within

    page_below : (k : ℕ) → k < place → page_of less k ≡ page_of fills k
    page_below k lt = ap (λ (f : Fill). f.page) (less_below k lt)

    page_above : (k : ℕ) → place ≤ k → page_of less k ≡ page_of fills (k + 1)
    page_above k le = ap (λ (f : Fill). f.page) (less_above k le)

    names_below : (k : ℕ) → k < place → names_of less k ≡ names_of fills k
    names_below k lt = ap (λ (f : Fill). f.names) (less_below k lt)

    names_above : (k : ℕ) → place ≤ k → names_of less k ≡ names_of fills (k + 1)
    names_above k le = ap (λ (f : Fill). f.names) (less_above k le)

    pub less_rising : IsRising less
    less_rising i j lt within =
        grind (arith, less_length, page_below i, page_below j, page_above i, page_above j, sound.rising i j, sound.rising i (j + 1), sound.rising (i + 1) (j + 1))

    pub less_some : (k : ℕ) → k < length less → 1 ≤ names_of less k
    less_some k lt = grind (arith, less_length, names_below k, names_above k, sound.some k, sound.some (k + 1))

    pub less_count : names_at less page ≡ 0
    less_count = no_names less page (λ k lt same.
        grind (arith, less_length, at.is, at.within, page_below k, page_above k, sound.rising k place, sound.rising place (k + 1)))

    pub less_others : (other : ℕ) → other ≢ page → names_at less other ≡ names_at fills other
    less_others other differs = names_remove fills page place other at differs

    pub less_lowers : names_of fills place ≡ 1 → Raises page less fills
    less_lowers one = record {
      here = let is = less_count in let was = names_here fills page place sound.rising at in omega (arith, is, was, one);
      others = λ other differs. sym (less_others other differs);
    }

    pub less_full : (from : ℕ) → from ≤ first_open → from ≤ place → AreFull less from
    less_full from low before k lt = subst (λ n. 32 ≤ n) (sym (names_below k (omega (arith, lt, before)))) (sound.first.full k (omega (arith, lt, low)))

    pub less_within : (from : ℕ) → from ≤ place → from ≤ length less
    less_within from before = let n = less_length in let w = at.within in omega (arith, n, w, before)

  -- a new fill with one entry
  module _ (place : ℕ) (gap : IsFillGap fills page place) where
    abbrev pub fill : Fill
    fill = record { page = page; names = 1 }

    abbrev pub more : List Fill
    more = insert fills place fill

    more_length : length more ≡ length fills + 1
    more_length = length-insert fills place fill gap.within

    below : (k : ℕ) → k < place → get_or more k no_fill ≡ get_or fills k no_fill
    below k lt = get_or-insert_below fills place fill no_fill k lt gap.within

    here : get_or more place no_fill ≡ fill
    here = get_or-insert_at fills place fill no_fill gap.within

    above : (k : ℕ) → place < k → get_or more k no_fill ≡ get_or fills (k - 1) no_fill
    above k lt = subst (λ q. get_or more q no_fill ≡ get_or fills (k - 1) no_fill) {x = k - 1 + 1} (omega (arith, lt))
        (get_or-insert_above fills place fill no_fill (k - 1) (omega (arith, lt)) gap.within)

    pages_below : (k : ℕ) → k < place → page_of more k ≡ page_of fills k
    pages_below k lt = ap (λ (f : Fill). f.page) (below k lt)

    pages_here : (k : ℕ) → k ≡ place → page_of more k ≡ page
    pages_here k is = subst (λ n. page_of more n ≡ page) (sym is) (ap (λ (f : Fill). f.page) here)

    pages_above : (k : ℕ) → place < k → page_of more k ≡ page_of fills (k - 1)
    pages_above k lt = ap (λ (f : Fill). f.page) (above k lt)

    counts_below : (k : ℕ) → k < place → names_of more k ≡ names_of fills k
    counts_below k lt = ap (λ (f : Fill). f.names) (below k lt)

    counts_here : (k : ℕ) → k ≡ place → names_of more k ≡ 1
    counts_here k is = subst (λ n. names_of more n ≡ 1) (sym is) (ap (λ (f : Fill). f.names) here)

    counts_above : (k : ℕ) → place < k → names_of more k ≡ names_of fills (k - 1)
    counts_above k lt = ap (λ (f : Fill). f.names) (above k lt)

    more_rising : IsRising more
    more_rising i j lt within =
        grind (arith, more_length, pages_below i, pages_here i, pages_above i, pages_below j, pages_here j, pages_above j, sound.rising i j, sound.rising i (j - 1), sound.rising (i - 1) (j - 1), gap.less i, gap.greater (j - 1))

    more_some : (k : ℕ) → k < length more → 1 ≤ names_of more k
    more_some k lt = grind (arith, more_length, counts_below k, counts_here k, counts_above k, sound.some k, sound.some (k - 1))

    more_first : (from : ℕ) → from ≤ place → from ≤ first_open → (first_open ≤ place → from ≡ first_open) → (place ≤ first_open → from ≡ place) → IsFirstOpen more from
    more_first from low small either least = record {
      within = let n = more_length in let w = gap.within in omega (arith, n, w, low);
      full = λ k lt. subst (λ n. 32 ≤ n) (sym (counts_below k (omega (arith, lt, low)))) (sound.first.full k (omega (arith, lt, small)));
      has_room = λ lt. elim (cases_lt first_open place) [
        | inl before ↦
            let is = either (omega (arith, before)) in
            subst (λ n. names_of more n < 32) (sym is)
            (subst (λ n. n < 32) (sym (counts_below first_open before)) (sound.first.has_room (let w = gap.within in omega (arith, before, w))))
        | inr after ↦ subst (λ n. n < 32) (sym (counts_here from (least after))) (omega arith)
      ];
    }

    pub more_sound : (from : ℕ) → from ≤ place → from ≤ first_open → (first_open ≤ place → from ≡ first_open) → (place ≤ first_open → from ≡ place) → IsSound more from
    more_sound from low small either least = record { rising = more_rising; some = more_some; first = more_first from low small either least }

    pub more_raises : Raises page fills more
    more_raises = record {
      here =
          let in_new = names_here more page place more_rising (record { within = let n = more_length in let w = gap.within in omega (arith, n, w); is = pages_here place refl }) in
          let one = counts_here place refl in
          let none = names_in_gap fills page place gap in
          omega (arith, in_new, one, none);
      others = λ other differs. names_insert fills page 1 place other gap.within differs;
    }

-- ---- the least page with room

module _ (fills : List Fill) (first_open : ℕ) (sound : IsSound fills first_open) where
  -- a page with room has its fill at the first open one or behind it
  open_fill : (page : ℕ) → IsOpenIn fills page → (place : ℕ) × IsFillAt fills page place × first_open ≤ place
  open_fill page (some, few) =
      let (place, at) = fill_of fills page some in
      let is = names_here fills page place sound.rising at in (
        place,
        at,
        elim (cases_lt place first_open) [
          | inl full ↦ let many = sound.first.full place full in absurd (omega (arith, many, is, few))
          | inr le ↦ le
        ],
      )

  pub no_room : length fills ≤ first_open → (page : ℕ) → ¬ IsOpenIn fills page
  no_room end page room = let (place, at, le) = open_fill page room in let w = at.within in omega (arith, end, w, le)

  pub least_room : first_open < length fills → IsLeastOpenIn fills (page_of fills first_open)
  least_room lt =
      let is = names_here fills (page_of fills first_open) first_open sound.rising (record { within = lt; is = refl }) in
      let some = sound.some first_open lt in
      let few = sound.first.has_room lt in (
        (omega (arith, is, some), omega (arith, is, few)),
        (λ other room.
            let (place, at, le) = open_fill other room in
            grind (arith, at.is, at.within, sound.rising first_open place, λ (same : first_open ≡ place). ap (page_of fills) same)),
      )
