-- The lines that were flushed in a round.
use Rattle.std.proofs.Common.{◌≡◌, inl, inr, refl, ℕ, ◌<◌, ◌≤◌, true, false, List, [], ◌∷◌, ◌++◌, ◌==◌, length, sym, ◌∙◌, ap, arith, slice_index}
use Rattle.std.specs.Prelude.{◌||◌, slice_set, replicate}
use Rattle.std.specs.List.{list_any}
use Rattle.std.proofs.lemmas.Bool.{cases_eq, cases_lt, eq-eqb, ne_eqb}
use Rattle.std.proofs.lemmas.Cmp.{nat_eq_equiv}
use Rattle.std.proofs.lemmas.Grind.{get_or-set_at}
use Rattle.std.proofs.lemmas.List.{length-set, length_push, get_or_past, length-replicate, get_or-replicate, get_or-set_other}
use Rattle.std.proofs.lemmas.List.Elements.{All-get_or, All-from_get_or, All-push}
use Rattle.std.proofs.lemmas.List.Folds.{list_any-append}
use Rattle.std.proofs.lemmas.Map.Keys.{IsDistinct-from_apart, IsDistinct-push}
use Rattle.std.proofs.lemmas.Map.Steps.{length-le_from_distinct_below}
use Rattle.std.proofs.Math.Bool.{or-false, or-true}
use Rattle.pm_file.specs.Given.{is_listed, IsEachOnce}

-- two lines compare alike from both sides
pub flips : (line other : ℕ) → (line == other) ≡ (other == line)
flips line other = elim (cases_eq line other) [
  | inl same ↦ eq-eqb line other same ∙ sym (eq-eqb other line (sym same))
  | inr differ ↦ ne_eqb line other differ ∙ sym (ne_eqb other line (λ same. differ (sym same)))
]

-- a line is looked for alike from both sides
sought : (lines : List ℕ) (line : ℕ) → list_any (λ other. line == other) lines ≡ is_listed lines line
sought [] line = refl
sought (first ∷ rest) line = rw (flips line first, sought rest line) refl

-- where no line is listed, each is listed once
pub none_once : (lines : List ℕ) → lines ≡ [] → IsEachOnce lines
none_once lines none = rw none (IsDistinct-from_apart _ [] (λ i j d before below. absurd (omega arith)))

-- before the first round all rounds are 0
pub no_round : (rounds : List ℕ) (count line : ℕ) → rounds ≡ replicate count 0 → slice_index rounds line ≡ 0
no_round rounds count line none = rw none (elim (cases_lt line count) [
  | inl low ↦ get_or-replicate count line 0 0 low
  | inr high ↦ get_or_past (replicate count 0) line 0 (omega (arith, length-replicate {A = ℕ} count 0))
])

-- Of a round the lines that were flushed in it are listed, and only those.
pub record ListsRound (rounds : List ℕ) (round : ℕ) (lines : List ℕ) : Type 0 where
  pub noted : (line : ℕ) → slice_index rounds line ≡ round → is_listed lines line ≡ true
  pub only : (line : ℕ) → is_listed lines line ≡ true → slice_index rounds line ≡ round

-- a line that was last flushed in an earlier round isn't listed
unlisted_before : (rounds lines : List ℕ) (round line : ℕ) → ListsRound rounds round lines → slice_index rounds line < round → is_listed lines line ≡ false
unlisted_before rounds lines round line lists earlier = elim (is_listed lines line) as (λ t. is_listed lines line ≡ t → t ≡ false) [
  | true ↦ λ is. let now = lists.only line is in absurd (omega (arith, now, earlier))
  | false ↦ λ is. refl
] refl

-- one line more is flushed
pub once_more : (rounds lines : List ℕ) (round line : ℕ) → ListsRound rounds round lines → IsEachOnce lines → slice_index rounds line < round → IsEachOnce (lines ++ line ∷ [])
once_more rounds lines round line lists once earlier = IsDistinct-push nat_eq_equiv lines line once (sought lines line ∙ unlisted_before rounds lines round line lists earlier)

-- whether it or another one is listed then
listed_more : (lines : List ℕ) (line other : ℕ) → is_listed (lines ++ line ∷ []) other ≡ (is_listed lines other || (line == other))
listed_more lines line other = list_any-append (λ l. l == other) lines (line ∷ []) ∙ ap (λ b. is_listed lines other || b) (or-false (line == other))

pub lists_more : (rounds lines : List ℕ) (round line : ℕ) → line < length rounds → ListsRound rounds round lines → ListsRound (slice_set rounds line round) round (lines ++ line ∷ [])
lists_more rounds lines round line inside lists = record {
  noted = λ other is. elim (cases_eq other line) [
    | inl same ↦ listed_more lines line other ∙ rw (eq-eqb line other (sym same)) (or-true (is_listed lines other))
    | inr differs ↦
        let before : is_listed lines other ≡ true = lists.noted other (sym (get_or-set_other rounds line other round 0 differs) ∙ is) in
        listed_more lines line other ∙ rw before refl
  ];
  only = λ other listed. elim (cases_eq other line) [
    | inl same ↦ get_or-set_at rounds line other round 0 same inside
    | inr differs ↦
        let not : (line == other) ≡ false = ne_eqb line other (λ same. differs (sym same)) in
        let before : is_listed lines other ≡ true = sym (or-false (is_listed lines other)) ∙ ap (λ b. is_listed lines other || b) (sym not) ∙ sym (listed_more lines line other) ∙ listed in
        get_or-set_other rounds line other round 0 differs ∙ lists.only other before
  ];
}

-- no round is past this one then
pub past_more : (rounds : List ℕ) (round line : ℕ) → line < length rounds → ((other : ℕ) → slice_index rounds other ≤ round) → (other : ℕ) → slice_index (slice_set rounds line round) other ≤ round
past_more rounds round line inside past other = elim (cases_eq other line) [
  | inl same ↦ let is = get_or-set_at rounds line other round 0 same inside in omega (arith, is)
  | inr differs ↦ let is = get_or-set_other rounds line other round 0 differs in let before = past other in omega (arith, is, before)
]

-- each line that is listed then has a round
pub below_more : (rounds lines : List ℕ) (round line : ℕ) → line < length rounds → ((k : ℕ) → k < length lines → slice_index lines k < length rounds) → (k : ℕ) → k < length (lines ++ line ∷ []) → slice_index (lines ++ line ∷ []) k < length (slice_set rounds line round)
below_more rounds lines round line inside below k less =
    let long = length-set rounds line round in
    let all = All-push (λ l. l < length rounds) lines line (All-from_get_or (λ l. l < length rounds) lines 0 below) inside in
    let is : slice_index (lines ++ line ∷ []) k < length rounds = All-get_or (λ l. l < length rounds) (lines ++ line ∷ []) k 0 less all in
    omega (arith, long, is)

-- a line that has a round is one of all
has_place : (rounds : List ℕ) (line : ℕ) → 1 ≤ slice_index rounds line → line < length rounds
has_place rounds line some = elim (cases_lt line (length rounds)) [
  | inl low ↦ low
  | inr high ↦ let none = get_or_past rounds line 0 high in absurd (omega (arith, none, some))
]

-- where a line was not flushed in a round, not all of them were
pub fewer_in_round : (rounds lines : List ℕ) (round line : ℕ) → 1 ≤ round → line < length rounds → ListsRound rounds round lines → IsEachOnce lines → slice_index rounds line < round → length lines < length rounds
fewer_in_round rounds lines round line some inside lists once earlier =
    let more = lists_more rounds lines round line inside lists in
    let long = length-set rounds line round in
    let place : (other : ℕ) → list_any (λ l. other == l) (lines ++ line ∷ []) ≡ true → other < length rounds = λ other has.
    let is = more.only other (sym (sought (lines ++ line ∷ []) other) ∙ has) in
    let in_all = has_place (slice_set rounds line round) other (omega (arith, is, some)) in
    omega (arith, in_all, long) in
    let all = length-le_from_distinct_below (lines ++ line ∷ []) (length rounds) (once_more rounds lines round line lists once earlier) place in
    let size = length_push lines line in
    omega (arith, all, size)
