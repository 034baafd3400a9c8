-- How a tally's counts follow the bytes.
use Rattle.std.proofs.Common.{◌≡◌, ℕ, zero, suc, ◌+◌, ◌-◌, ◌^◌, ◌<◌, ◌≤◌, Bool, true, false, true≢false, ◌==◌, ◌&&◌, ◌||◌, min, cond, List, [], ◌∷◌, ◌++◌, length, map, take, codes, flat_map, Some, refl, sym, ap, ◌∙◌, inl, inr, arith, length-append}
use Rattle.std.specs.Prelude.{not, bytes_eq, count_by, slice_get, if◌then◌else◌}
use Rattle.std.specs.List.{All, list_any, starts_with}
use Rattle.std.proofs.lemmas.Bool.{cases_Bool, eqb-true}
use Rattle.std.proofs.lemmas.List.{append-nil, length-take, take_all, take-take, take-append-le}
use Rattle.std.proofs.lemmas.List.Elements.{All-nil, All-cons}
use Rattle.std.proofs.lemmas.List.Sums.{sum_by-append, sum_by-cons}
use Rattle.io_edge.specs.Count.{one_more}
use Rattle.tree_model.specs.Step.{Answer, Refused}
use Rattle.tree_model.specs.declared.reply.Refusal.TheVariants.{NoMemory}
use Rattle.script.specs.Answers.{begins_with, is_accepted}
use Rattle.script.specs.Lines.{newline, is_newline, IsUnbroken, complete_lines_of, onto_line}
use Rattle.script.specs.Texts.{answer_text}
use Rattle.script.proofs.AnswerLines.{is_answer_line}
use Rattle.script.proofs.LineLaws.{complete_lines_of-front, complete_lines_of-begun, complete_lines_of-joined, with_newlines}
use Rattle.crash_replay.specs.Tally.{is_no_memory, open_line, count_of, accepted_in, refused_in, HadMemory, TallyLaw}

abbrev ones : Bool → ℕ
ones t = cond t 1 0

-- one element more at the front
one_counted : {X : Type 0} (passes : X → Bool) (x : X) (xs : List X) → count_by passes (x ∷ xs) ≡ ones (passes x) + count_by passes xs
one_counted passes x xs = sum_by-cons (λ y. cond (passes y) 1 0) x xs

count_within : {X : Type 0} (passes : X → Bool) (xs : List X) → count_by passes xs ≤ length xs
count_within passes [] = omega arith
count_within passes (x ∷ xs) = omega (arith, one_counted passes x xs, one_at_most (passes x), count_within passes xs)
  where
    one_at_most : (t : Bool) → ones t ≤ 1
    one_at_most true = omega arith
    one_at_most false = omega arith

-- ---- one byte more

-- where no newline stands
unbroken : (bytes : List ℕ) → list_any is_newline bytes ≡ false → IsUnbroken bytes
unbroken [] none = All-nil (λ x. is_newline x ≡ false)
unbroken (b ∷ bytes) none = elim (cases_Bool (is_newline b)) [
  | inl here ↦ absurd (true≢false (sym (ap (λ t. t || list_any is_newline bytes) here) ∙ none))
  | inr not_here ↦ All-cons (λ x. is_newline x ≡ false) b bytes not_here (unbroken bytes (sym (ap (λ t. t || list_any is_newline bytes) not_here) ∙ none))
]

-- where one stands, a line has ended
some_line : (bytes : List ℕ) → list_any is_newline bytes ≡ true → 0 < length (complete_lines_of bytes)
some_line [] some = absurd (true≢false (sym some))
some_line (b ∷ bytes) some = elim (cases_Bool (is_newline b)) [
  | inl here ↦ rw here (omega arith)
  | inr not_here ↦ rw not_here (onto_some b (complete_lines_of bytes) (some_line bytes (sym (ap (λ t. t || list_any is_newline bytes) not_here) ∙ some)))
]
  where
    onto_some : (c : ℕ) (lines : List (List ℕ)) → 0 < length lines → 0 < length (onto_line c lines)
    onto_some c [] any = absurd (omega arith)
    onto_some c (line ∷ lines) any = omega arith

onto_more : (b : ℕ) (lines more : List (List ℕ)) → 0 < length lines → onto_line b (lines ++ more) ≡ onto_line b lines ++ more
onto_more b [] more any = absurd (omega arith)
onto_more b (line ∷ lines) more any = refl

-- a newline ends the open line
pub lines_ended : (bytes : List ℕ) → complete_lines_of (bytes ++ newline ∷ []) ≡ complete_lines_of bytes ++ open_line bytes ∷ []
lines_ended [] = refl
lines_ended (b ∷ bytes) = elim (cases_Bool (list_any is_newline (b ∷ bytes))) [
  | inl some ↦ rw some (behind (lines_ended bytes) some)
  | inr none ↦
      let whole = unbroken (b ∷ bytes) none in
      rw none (complete_lines_of-front (b ∷ bytes) [] whole ∙ sym (ap (λ ls. ls ++ (b ∷ bytes) ∷ []) (complete_lines_of-begun (b ∷ bytes) whole)))
]
  where
    behind : complete_lines_of (bytes ++ newline ∷ []) ≡ complete_lines_of bytes ++ open_line bytes ∷ [] → list_any is_newline (b ∷ bytes) ≡ true
        → complete_lines_of (b ∷ bytes ++ newline ∷ []) ≡ complete_lines_of (b ∷ bytes) ++ open_line bytes ∷ []
    behind later some = elim (cases_Bool (is_newline b)) [
      | inl here ↦ rw here (ap (λ ls. [] ∷ ls) later)
      | inr not_here ↦ rw not_here (
          ap (onto_line b) later
          ∙ onto_more b (complete_lines_of bytes) (open_line bytes ∷ []) (some_line bytes (sym (ap (λ t. t || list_any is_newline bytes) not_here) ∙ some))
          )
    ]

any_more : (b : ℕ) (bytes : List ℕ) → list_any is_newline (bytes ++ b ∷ []) ≡ list_any is_newline bytes || is_newline b
any_more b [] = elim (cases_Bool (is_newline b)) [ inl here ↦ rw here refl | inr not_here ↦ rw not_here refl ]
any_more b (c ∷ bytes) = elim (cases_Bool (is_newline c)) [
  | inl here ↦ rw here refl
  | inr not_here ↦ rw not_here (any_more b bytes)
]

-- what is open then
pub open_ended : (bytes : List ℕ) → open_line (bytes ++ newline ∷ []) ≡ []
open_ended [] = refl
open_ended (b ∷ bytes) =
    ap (λ t. cond t (open_line (bytes ++ newline ∷ [])) (b ∷ bytes ++ newline ∷ [])) (any_more newline (b ∷ bytes) ∙ same (list_any is_newline (b ∷ bytes)))
    ∙ open_ended bytes
  where
    same : (t : Bool) → (t || true) ≡ true
    same true = refl
    same false = refl

-- another byte goes on with it
pub lines_kept : (b : ℕ) (bytes : List ℕ) → is_newline b ≡ false → complete_lines_of (bytes ++ b ∷ []) ≡ complete_lines_of bytes
lines_kept b [] other = ap (λ t. cond t ([] ∷ []) []) other
lines_kept b (c ∷ bytes) other = ap (λ ls. cond (is_newline c) ([] ∷ ls) (onto_line c ls)) (lines_kept b bytes other)

pub open_more : (b : ℕ) (bytes : List ℕ) → is_newline b ≡ false → open_line (bytes ++ b ∷ []) ≡ open_line bytes ++ b ∷ []
open_more b [] other = rw other refl
open_more b (c ∷ bytes) other =
    let same : list_any is_newline ((c ∷ bytes) ++ b ∷ []) ≡ list_any is_newline (c ∷ bytes) = any_more b (c ∷ bytes) ∙ as_before (list_any is_newline (c ∷ bytes)) in
    ap (λ t. cond t (open_line (bytes ++ b ∷ [])) (c ∷ bytes ++ b ∷ [])) same
    ∙ elim (cases_Bool (list_any is_newline (c ∷ bytes))) [
      | inl some ↦ rw some (open_more b bytes other)
      | inr none ↦ rw none refl
    ]
  where
    as_before : (t : Bool) → (t || is_newline b) ≡ t
    as_before true = refl
    as_before false = other

-- ---- the counts

pub counted_more : (passes : List ℕ → Bool) (bytes : List ℕ) (count : ℕ) (hit : Bool) → count ≡ count_of passes bytes → hit ≡ passes (open_line bytes)
    → (if hit then one_more count else count) ≡ count_of passes (bytes ++ newline ∷ [])
counted_more passes bytes count hit is hits =
    let before = count_by passes (complete_lines_of bytes) in
    let now : count_by passes (complete_lines_of (bytes ++ newline ∷ [])) ≡ before + cond hit 1 0 =
    ap (count_by passes) (lines_ended bytes) ∙ sum_by-append (λ l. cond (passes l) 1 0) (complete_lines_of bytes) (open_line bytes ∷ []) ∙ last hits in
    step hit now
  where
    last : hit ≡ passes (open_line bytes) → count_by passes (complete_lines_of bytes) + count_by passes (open_line bytes ∷ []) ≡ count_by passes (complete_lines_of bytes) + cond hit 1 0
    last h = ap (λ t. count_by passes (complete_lines_of bytes) + t) (omega arith ∙ ap ones (sym h))

    step : (t : Bool) → count_by passes (complete_lines_of (bytes ++ newline ∷ [])) ≡ count_by passes (complete_lines_of bytes) + cond t 1 0
        → (if t then one_more count else count) ≡ count_of passes (bytes ++ newline ∷ [])
    step true now = omega (arith, is, now)
    step false now = omega (arith, is, now)

pub counted_kept : (passes : List ℕ → Bool) (b : ℕ) (bytes : List ℕ) (count : ℕ) → is_newline b ≡ false → count ≡ count_of passes bytes → count ≡ count_of passes (bytes ++ b ∷ [])
counted_kept passes b bytes count other is = is ∙ sym (ap (λ ls. min (count_by passes ls) (2 ^ 64 - 1)) (lines_kept b bytes other))

-- ---- the bytes that are kept tell enough

pub begins_kept : (bytes begun line : List ℕ) → begun ≡ take 15 line → length bytes ≤ 15 → begins_with bytes begun ≡ begins_with bytes line
begins_kept bytes begun line is short =
    ap (begins_with bytes) is ∙ ap (λ l. starts_with (λ a b. a == b) l bytes) refl
    ∙ ap (λ l. pointwise_of bytes l) (take-take (length bytes) 15 line short)
  where
    pointwise_of : List ℕ → List ℕ → Bool
    pointwise_of needle l = bytes_eq needle l

whole_kept : (n : ℕ) (line other : List ℕ) → length other < n → bytes_eq (take n line) other ≡ bytes_eq line other
whole_kept zero line other short = absurd (omega arith)
whole_kept (suc n) [] other short = refl
whole_kept (suc n) (b ∷ line) [] short = refl
whole_kept (suc n) (b ∷ line) (c ∷ other) short = ap (λ t. (b == c) && t) (whole_kept n line other (omega arith))

pub no_memory_kept : (begun line : List ℕ) → begun ≡ take 15 line → is_no_memory begun ≡ is_no_memory line
no_memory_kept begun line is = ap is_no_memory is ∙ whole_kept 15 line (codes "error NoMemory") (omega arith)

pub begun_more : (begun line : List ℕ) (b : ℕ) → begun ≡ take 15 line → length begun < 15 → begun ++ b ∷ [] ≡ take 15 (line ++ b ∷ [])
begun_more begun line b is room =
    let short : length line < 15 = omega (arith, room, ap length is, length-take 15 line) in
    ap (λ l. l ++ b ∷ []) (is ∙ take_all 15 line (omega arith))
    ∙ sym (take_all 15 (line ++ b ∷ []) (omega (arith, short, length-append line (b ∷ []))))

pub begun_full : (begun line : List ℕ) (b : ℕ) → begun ≡ take 15 line → 15 ≤ length begun → begun ≡ take 15 (line ++ b ∷ [])
begun_full begun line b is full =
    let long : 15 ≤ length line = omega (arith, full, ap length is, length-take 15 line) in
    is ∙ sym (take-append-le 15 line (b ∷ []) long)

-- ---- the texts of answers

abbrev answer_lines : List Answer → List (List ℕ)
answer_lines answers = map (λ a. (is_answer_line a).line) answers

texts_are_lines : (answers : List Answer) → flat_map answer_text answers ≡ with_newlines (answer_lines answers)
texts_are_lines [] = refl
texts_are_lines (answer ∷ answers) =
    ap (λ text. text ++ flat_map answer_text answers) (is_answer_line answer).text
    ∙ ap (λ rest. ((is_answer_line answer).line ++ newline ∷ []) ++ rest) (texts_are_lines answers)

each_unbroken : (answers : List Answer) → All IsUnbroken (answer_lines answers)
each_unbroken [] = All-nil IsUnbroken
each_unbroken (answer ∷ answers) = All-cons IsUnbroken (is_answer_line answer).line (answer_lines answers) (is_answer_line answer).unbroken (each_unbroken answers)

-- each answer is a line
lines_are : (answers : List Answer) → complete_lines_of (flat_map answer_text answers) ≡ answer_lines answers
lines_are answers =
    ap complete_lines_of (texts_are_lines answers ∙ sym (append-nil (with_newlines (answer_lines answers))))
    ∙ complete_lines_of-joined (answer_lines answers) [] (each_unbroken answers) (All-nil (λ x. is_newline x ≡ false))

one_each : (answers : List Answer) → count_by (begins_with (codes "ok")) (answer_lines answers) + count_by (begins_with (codes "error")) (answer_lines answers) ≡ length answers
one_each [] = refl
one_each (answer ∷ answers) =
    let told = is_answer_line answer in
    let ok = ap ones told.ok in
    let error = ap ones told.error in
    let ok-more = one_counted (begins_with (codes "ok")) told.line (answer_lines answers) in
    let error-more = one_counted (begins_with (codes "error")) told.line (answer_lines answers) in
    omega (arith, ok, error, ok-more, error-more, one (is_accepted answer), one_each answers)
  where
    one : (t : Bool) → ones t + ones (not t) ≡ 1
    one true = refl
    one false = refl

accepted_each : (answers : List Answer) → count_by (begins_with (codes "ok")) (answer_lines answers) ≡ accepted_in answers
accepted_each [] = refl
accepted_each (answer ∷ answers) =
    let told = is_answer_line answer in
    let more = one_counted (begins_with (codes "ok")) told.line (answer_lines answers) in
    omega (arith, ap ones told.ok, more, one_counted is_accepted answer answers, accepted_each answers)

refused_each : (answers : List Answer) → count_by (begins_with (codes "error")) (answer_lines answers) ≡ refused_in answers
refused_each [] = refl
refused_each (answer ∷ answers) =
    let told = is_answer_line answer in
    let more = one_counted (begins_with (codes "error")) told.line (answer_lines answers) in
    omega (arith, ap ones told.error, more, one_counted (λ a. not (is_accepted a)) answer answers, refused_each answers)

found : (answers : List Answer) (k : ℕ) → slice_get answers k ≡ Some (Refused NoMemory) → 0 < count_by is_no_memory (answer_lines answers)
found [] k is = cc is
found (answer ∷ answers) zero is =
    let same : answer ≡ Refused NoMemory = cc is in
    let here : is_no_memory (is_answer_line answer).line ≡ true = ap is_no_memory ((is_answer_line answer).no_memory.1 same) in
    let counts = ap ones here in
    omega (arith, counts, one_counted is_no_memory (is_answer_line answer).line (answer_lines answers))
found (answer ∷ answers) (suc k) is = omega (arith, found answers k is, one_counted is_no_memory (is_answer_line answer).line (answer_lines answers))

bytes_same : (bytes other : List ℕ) → bytes_eq bytes other ≡ true → bytes ≡ other
bytes_same [] [] same = refl
bytes_same [] (c ∷ other) same = absurd (true≢false (sym same))
bytes_same (b ∷ bytes) [] same = absurd (true≢false (sym same))
bytes_same (b ∷ bytes) (c ∷ other) same = elim (cases_Bool (b == c)) [
  | inl here ↦
      let rest : bytes_eq bytes other ≡ true = sym (ap (λ t. t && bytes_eq bytes other) here) ∙ same in
      ap (λ h. h ∷ bytes) (eqb-true b c here) ∙ ap (λ l. c ∷ l) (bytes_same bytes other rest)
  | inr apart ↦ absurd (true≢false (sym same ∙ ap (λ t. t && bytes_eq bytes other) apart))
]

none_found : (answers : List Answer) → HadMemory answers → count_by is_no_memory (answer_lines answers) ≡ 0
none_found [] had = refl
none_found (answer ∷ answers) had = elim (cases_Bool (is_no_memory (is_answer_line answer).line)) [
  | inl here ↦ absurd (had 0 (ap (λ a. Some a) ((is_answer_line answer).no_memory.0 (bytes_same (is_answer_line answer).line (codes "error NoMemory") here))))
  | inr not_here ↦
      let counts = ap ones not_here in
      omega (arith, counts, one_counted is_no_memory (is_answer_line answer).line (answer_lines answers), none_found answers (λ k is. had (suc k) is))
]

pub tally_law-holds : TallyLaw
tally_law-holds tally answers is =
    let ok = ap (count_by (begins_with (codes "ok"))) (lines_are answers) in
    let error = ap (count_by (begins_with (codes "error"))) (lines_are answers) in
    let lacking = ap (count_by is_no_memory) (lines_are answers) in
    record {
      lacking = (
        λ none k here. absurd (omega (arith, none, is.lacking, lacking, found answers k here)),
        λ had. omega (arith, is.lacking, lacking, none_found answers had),
      );
      accepted = λ few. omega (arith, few, is.accepted, ok, accepted_each answers, count_within is_accepted answers);
      refused = λ few. omega (arith, few, is.refused, error, refused_each answers, count_within (λ a. not (is_accepted a)) answers);
      all = λ few. omega (arith, few, is.accepted, is.refused, ok, error, one_each answers);
    }
