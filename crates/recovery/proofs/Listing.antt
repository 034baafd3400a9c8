-- The lists of a plan, as loops make them: the set below the loop's number.
use Rattle.std.proofs.Common.{◌≡◌, ◌⊎◌, inl, inr, ℕ, zero, suc, ◌+◌, ◌<◌, ◌≤◌, List, [], ◌∷◌, ◌++◌, length, slice_index, refl, sym, ap, subst, ◌∙◌, arith}
use Rattle.std.proofs.lemmas.Bool.{cases_lt}
use Rattle.std.proofs.lemmas.List.{length_push, get_or_push, get_or_append_left}
use Rattle.recovery.specs.Parts.{IsRising}
use Rattle.recovery.specs.Plans.{IsListOf}
use Rattle.recovery.specs.Listing.{IsBelow, IsListBelow}

module _ (Q : ℕ → Type 0) where
  wider : (a b n : ℕ) → a ≤ b → IsBelow Q a n → IsBelow Q b n
  wider a b n order is = record { below = let lt = is.below in omega (arith, lt, order); is = is.is }

  pub list_none : (limit : ℕ) (numbers : List ℕ) → numbers ≡ [] → ((n : ℕ) → n < limit → ¬ Q n) → IsListBelow Q limit numbers
  list_none limit numbers none before =
      let empty : length numbers ≡ 0 = ap length none in
      record {
        rising = λ i k lt within. absurd (omega (arith, empty, lt, within));
        each = λ place within. absurd (omega (arith, empty, within));
        all = λ n is. absurd (before n is.below is.is);
      }

  -- no number from a to before b is in the set
  pub list_skipped : (a b : ℕ) (numbers : List ℕ) → a ≤ b → ((n : ℕ) → a ≤ n → n < b → ¬ Q n) → IsListBelow Q a numbers → IsListBelow Q b numbers
  list_skipped a b numbers order none list = record {
    rising = list.rising;
    each = λ place within. wider a b (slice_index numbers place) order (list.each place within);
    all = λ n is. elim (cases_lt n a) [
      | inl before ↦ list.all n (record { below = before; is = is.is })
      | inr after ↦ absurd (none n after is.below is.is)
    ];
  }

  list_passed : (n : ℕ) (numbers : List ℕ) → ¬ Q n → IsListBelow Q n numbers → IsListBelow Q (n + 1) numbers
  list_passed n numbers other list = list_skipped n (n + 1) numbers (omega arith) (λ m after before is. let same : m ≡ n = omega (arith, after, before) in other (subst Q same is)) list

  module _ (n : ℕ) (numbers : List ℕ) (list : IsListBelow Q n numbers) where
    old : (place : ℕ) → place < length numbers → slice_index (numbers ++ n ∷ []) place ≡ slice_index numbers place
    old place within = get_or_append_left numbers (n ∷ []) 0 place within

    new : (place : ℕ) → length numbers ≤ place → place < length (numbers ++ n ∷ []) → slice_index (numbers ++ n ∷ []) place ≡ n
    new place after within = get_or_push numbers n 0 place (let long = length_push numbers n in omega (arith, after, within, long))

    earlier : (i k : ℕ) → i < k → k < length (numbers ++ n ∷ []) → i < length numbers
    earlier i k lt within = let long = length_push numbers n in omega (arith, lt, within, long)

    list_pushed : Q n → IsListBelow Q (n + 1) (numbers ++ n ∷ [])
    list_pushed is = record {
      rising = λ i k lt within.
          let first = earlier i k lt within in
          let less = (list.each i first).below in
          elim (cases_lt k (length numbers)) [
            | inl before ↦ let rises = list.rising i k lt before in omega (arith, rises, old i first, old k before)
            | inr after ↦ omega (arith, less, old i first, new k after within)
          ];
      each = λ place within. elim (cases_lt place (length numbers)) [
        | inl before ↦ subst (IsBelow Q (n + 1)) (sym (old place before)) (wider n (n + 1) (slice_index numbers place) (omega arith) (list.each place before))
        | inr after ↦ subst (IsBelow Q (n + 1)) (sym (new place after within)) (record { below = omega arith; is = is })
      ];
      all = λ m there. elim (cases_lt m n) [
        | inl before ↦
            let (place, within, at) = list.all m (record { below = before; is = there.is }) in
            (place, let long = length_push numbers n in omega (arith, within, long), old place within ∙ at)
        | inr after ↦
            let last : length numbers < length (numbers ++ n ∷ []) = let long = length_push numbers n in omega (arith, long) in
            (length numbers, last, new (length numbers) (omega arith) last ∙ (let less = there.below in omega (arith, after, less)))
      ];
    }

  -- one turn of a loop
  pub list_step : (n : ℕ) (before after : List ℕ) → (Q n × (after ≡ before ++ n ∷ [])) ⊎ (¬ Q n × (after ≡ before)) → IsListBelow Q n before → IsListBelow Q (n + 1) after
  list_step n before after (inl (is, items)) list = subst (IsListBelow Q (n + 1)) (sym items) (list_pushed n before list is)
  list_step n before after (inr (other, items)) list = subst (IsListBelow Q (n + 1)) (sym items) (list_passed n before other list)

  pub list_all : (limit : ℕ) (numbers : List ℕ) → ((n : ℕ) → Q n → n < limit) → IsListBelow Q limit numbers → IsListOf Q numbers
  list_all limit numbers below list = record {
    rising = list.rising;
    each = λ place within. (list.each place within).is;
    all = λ n is. list.all n (record { below = below n is; is = is });
  }

-- ---- what holds at each place of a list holds there once more is pushed

pub places_more : (R : ℕ → ℕ → Type 0) (n x : ℕ) (old new : List ℕ) → length old ≡ n → new ≡ old ++ x ∷ [] → R n x → ((k : ℕ) → k < n → R k (slice_index old k)) → (k : ℕ) → k < n + 1 → R k (slice_index new k)
places_more R n x old new long is here before k lt = subst (λ (l : List ℕ). R k (slice_index l k)) (sym is) (elim (cases_lt k n) [
  | inl earlier ↦ subst (R k) (sym (get_or_append_left old (x ∷ []) 0 k (omega (arith, long, earlier)))) (before k earlier)
  | inr last ↦
      let at : k ≡ n = omega (arith, last, lt) in
      subst (R k) (sym (get_or_push old x 0 k (omega (arith, long, at)))) (subst (λ (z : ℕ). R z x) (sym at) here)
])

-- ---- a rising list is no longer than its numbers allow

at_least : (numbers : List ℕ) → IsRising numbers → (k : ℕ) → k < length numbers → k ≤ slice_index numbers k
at_least numbers rising zero within = omega arith
at_least numbers rising (suc k) within =
    let before : k < length numbers = omega (arith, within) in
    let so_far = at_least numbers rising k before in
    let rises = rising k (suc k) (omega arith) within in
    omega (arith, so_far, rises)

-- as many as the length, by its last place
few : (numbers : List ℕ) (limit count : ℕ) → length numbers ≡ count → IsRising numbers → ((k : ℕ) → k < length numbers → slice_index numbers k < limit) → count ≤ limit
few numbers limit zero long rising below = omega arith
few numbers limit (suc last) long rising below =
    let within : last < length numbers = omega (arith, long) in
    let least = at_least numbers rising last within in
    let most = below last within in
    omega (arith, least, most)

pub list_short : (Q : ℕ → Type 0) (limit : ℕ) (numbers : List ℕ) → ((n : ℕ) → Q n → n < limit) → IsListOf Q numbers → length numbers ≤ limit
list_short Q limit numbers below list = few numbers limit (length numbers) refl list.rising (λ k within. below (slice_index numbers k) (list.each k within))
