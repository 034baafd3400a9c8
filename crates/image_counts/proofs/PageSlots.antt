-- So many pages have so many slots.
use Rattle.std.proofs.Common.{◌≡◌, ℕ, ◌+◌, ◌*◌, ◌/◌, ◌<◌, ◌≤◌, List, [], ◌∷◌, length, sum_by, refl, sym, ap, subst, ◌∙◌, arith}
use Rattle.std.proofs.lemmas.List.Sums.{sum_by-cons}
use Rattle.layout.specs.Geometry.{page_of_slot}
use Rattle.image_reading.specs.Counts.{Count}
use Rattle.image_counts.proofs.Counting.{IsMatched, count_shared, count_alike, count_run}
use Rattle.image_counts.proofs.Pages.{in_among, among_in, apart_distinct}

count_page : (j : ℕ) → Count (λ s. page_of_slot s ≡ j) 32
unfolding page_of_slot
count_page j = count_alike (λ s. (32 * j ≤ s) × (s < 32 * j + 32)) (λ s. page_of_slot s ≡ j) 32 to from (count_run (32 * j) 32)
  where
    to : (s : ℕ) → (32 * j ≤ s) × (s < 32 * j + 32) → s / 32 ≡ j
    to s within = omega (arith, within)

    from : (s : ℕ) → s / 32 ≡ j → (32 * j ≤ s) × (s < 32 * j + 32)
    from s is = (omega (arith, is), omega (arith, is))

sum_of_pages : (js : List ℕ) → sum_by (λ j. 32) js ≡ 32 * length js
sum_of_pages [] = refl
sum_of_pages (j ∷ js) = let rest = sum_of_pages js in let one = sum_by-cons (λ j. 32) j js in omega (arith, rest, one)

-- pages that are so many have 32 times as many slots
pub count_slots_of : (Q : ℕ → Type 0) (k : ℕ) → Count Q k → Count (λ s. Q (page_of_slot s)) (32 * k)
count_slots_of Q k (js, distinct, is, long) =
    subst (Count (λ s. Q (page_of_slot s))) (sum_of_pages js ∙ ap (λ n. 32 * n) long)
    (count_alike (IsMatched (λ j s. page_of_slot s ≡ j) js) (λ s. Q (page_of_slot s)) (sum_by (λ j. 32) js)
    (λ s (j, among, at). subst Q (sym at) ((is j).0 (in_among j js among)))
    (λ s q. (page_of_slot s, among_in (page_of_slot s) js ((is (page_of_slot s)).1 q), refl))
    (count_shared (λ j s. page_of_slot s ≡ j) (λ j. 32) js (record {
      apart = apart_distinct js distinct;
      each = λ j among. count_page j;
      own = λ i j s among there a b. sym a ∙ b;
    })))
