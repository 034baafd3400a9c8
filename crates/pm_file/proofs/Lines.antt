-- Runs of lines, and what a medium holds that was given them.
use Rattle.std.proofs.Common.{◌≡◌, ◌≢◌, ◌⊎◌, inl, inr, refl, ℕ, suc, ◌+◌, ◌*◌, ◌-◌, ◌<◌, ◌≤◌, true, false, List, [], ◌∷◌, ◌++◌, ◌==◌, length, take, drop, sym, ◌∙◌, ap, subst, arith, slice_index}
use Rattle.std.specs.Prelude.{◌||◌, Option, Some, None, slice_range}
use Rattle.std.proofs.lemmas.Grind.{common_steps}
use Rattle.std.proofs.lemmas.List.{length-drop, length-take-le, get_or-append-add, get_or-take, get_or-drop}
use Rattle.std.proofs.lemmas.List.Folds.{list_any-append}
use Rattle.std.proofs.lemmas.Bool.{cases_eq, cases_lt, eq-eqb, ne_eqb}
use Rattle.std.proofs.Math.ListN.{get_or-append}
use Rattle.std.proofs.Math.Bool.{or-false, or-true}
use Rattle.std.proofs.Math.Seq.{take-add, take-length}
use Rattle.pm_file.specs.Given.{is_listed, IsRun, AddsRun, AddsLines, HasRun, HasLines, ReadsFrom}

-- a run without its first line is the run from the line after it on
rest_of_run : (first : ℕ) (rest : List ℕ) (line : ℕ) → IsRun (first ∷ rest) line → IsRun rest (line + 1)
rest_of_run first rest line run = λ k below.
    let is : slice_index rest k ≡ line + suc k = run (suc k) (omega arith) in
    omega (arith, is)

-- a line of a run is listed
listed_in_run : (run : List ℕ) (line other : ℕ) → IsRun run line → line ≤ other → other < line + length run → is_listed run other ≡ true
listed_in_run [] line other is from to = absurd (omega arith)
listed_in_run (first ∷ rest) line other is from to =
    let head : first ≡ line + 0 = is 0 (omega arith) in
    elim (cases_eq other line) [
      | inl same ↦
          let here : (first == other) ≡ true = eq-eqb first other (omega (arith, head, same)) in
          rw here refl
      | inr differs ↦
          let there : is_listed rest other ≡ true = listed_in_run rest (line + 1) other (rest_of_run first rest line is) (omega (arith, differs)) (omega arith) in
          rw there (or-true (first == other))
    ]

-- a line beside a run isn't
unlisted_beside_run : (run : List ℕ) (line other : ℕ) → IsRun run line → (other < line) ⊎ (line + length run ≤ other) → is_listed run other ≡ false
unlisted_beside_run [] line other is beside = refl
unlisted_beside_run (first ∷ rest) line other is beside =
    let head : first ≡ line + 0 = is 0 (omega arith) in
    let differs : first ≢ other = elim beside [ inl low ↦ omega (arith, head) | inr high ↦ omega (arith, head) ] in
    let here : (first == other) ≡ false = ne_eqb first other differs in
    let further : (other < line + 1) ⊎ (line + 1 + length rest ≤ other) = elim beside [ inl low ↦ inl (omega arith) | inr high ↦ inr (omega arith) ] in
    rw here (unlisted_beside_run rest (line + 1) other (rest_of_run first rest line is) further)

-- a word of a line among so many has its place in the run's words
abbrev HasWords : List ℕ → List ℕ → ℕ → Type 0
HasWords part words line = (k : ℕ) → k < length part → slice_index part k ≡ slice_index words (8 * line + k)

word_of_run : (before after words part : List ℕ) (first count line k : ℕ) → length part ≡ 8 * count → HasWords part words first → AddsRun before after first part → first ≤ line → line < first + count → k < 8 → slice_index after (8 * line + k) ≡ slice_index words (8 * line + k)
word_of_run before after words part first count line k long same has from to small =
    let below : 8 * (line - first) + k < length part = omega (arith, long) in
    let place : 8 * first + (8 * (line - first) + k) ≡ 8 * line + k = omega arith in
    let is : slice_index after (8 * first + (8 * (line - first) + k)) ≡ slice_index words (8 * first + (8 * (line - first) + k)) = has.given _ below ∙ same _ below in
    subst (λ (n : ℕ). slice_index after n ≡ slice_index words n) place is

word_beside_run : (before after part : List ℕ) (first count line k : ℕ) → length part ≡ 8 * count → AddsRun before after first part → (line < first) ⊎ (first + count ≤ line) → k < 8 → slice_index after (8 * line + k) ≡ slice_index before (8 * line + k)
word_beside_run before after part first count line k long has beside small =
    has.kept _ (elim beside [ inl low ↦ inl (omega arith) | inr high ↦ inr (omega (arith, long)) ])

-- whether a line is in a run or beside it
in_or_beside : (first count line : ℕ) → ((first ≤ line) × (line < first + count)) ⊎ ((line < first) ⊎ (first + count ≤ line))
in_or_beside first count line = elim (cases_lt line first) [
  | inl low ↦ inr (inl low)
  | inr from ↦ elim (cases_lt line (first + count)) [ inl to ↦ inl (from, to) | inr high ↦ inr (inr high) ]
]

-- beside a run, the lines before it are listed
listed_beside : (lines run : List ℕ) (first line : ℕ) → IsRun run first → (line < first) ⊎ (first + length run ≤ line) → is_listed (lines ++ run) line ≡ is_listed lines line
listed_beside lines run first line is beside =
    let both : is_listed (lines ++ run) line ≡ (is_listed lines line || is_listed run line) = list_any-append (λ listed. listed == line) lines run in
    let not : is_listed run line ≡ false = unlisted_beside_run run first line is beside in
    both ∙ rw not (or-false (is_listed lines line))

listed_of_run : (lines run : List ℕ) (first line : ℕ) → IsRun run first → first ≤ line → line < first + length run → is_listed (lines ++ run) line ≡ true
listed_of_run lines run first line is from to =
    let both : is_listed (lines ++ run) line ≡ (is_listed lines line || is_listed run line) = list_any-append (λ listed. listed == line) lines run in
    let yes : is_listed run line ≡ true = listed_in_run run first line is from to in
    both ∙ rw yes (or-true (is_listed lines line))

-- one more run was given
adds_more : (before mid after words lines run part : List ℕ) (first : ℕ) → IsRun run first → length part ≡ 8 * length run → HasWords part words first → AddsLines before mid words lines → AddsRun mid after first part → AddsLines before after words (lines ++ run)
adds_more before mid after words lines run part first is long same had has = record {
  given = λ line k listed small. elim (in_or_beside first (length run) line) [
    | inl inside ↦ word_of_run mid after words part first (length run) line k long same has inside.0 inside.1 small
    | inr beside ↦ word_beside_run mid after part first (length run) line k long has beside small ∙ had.given line k (sym (listed_beside lines run first line is beside) ∙ listed) small
  ];
  kept = λ line k unlisted small. elim (in_or_beside first (length run) line) [
    | inl inside ↦
        let yes : is_listed (lines ++ run) line ≡ true = listed_of_run lines run first line is inside.0 inside.1 in
        let clash : true ≡ false = sym yes ∙ unlisted in
        let none : ⊥ = cc in absurd none
    | inr beside ↦ word_beside_run mid after part first (length run) line k long has beside small ∙ had.kept line k (sym (listed_beside lines run first line is beside) ∙ unlisted) small
  ];
}

-- a run's words, as they are passed
part_is : (words : List ℕ) (line count : ℕ) → slice_range words (line * 8) (line * 8 + count * 8) ≡ take (count * 8) (drop (line * 8) words)
part_is words line count =
    let size : line * 8 + count * 8 - line * 8 ≡ count * 8 = omega arith in
    rw size refl

part_words : (words : List ℕ) (line count : ℕ) → HasWords (take (count * 8) (drop (line * 8) words)) words line
part_words words line count = λ k below.
    let long : length (take (count * 8) (drop (line * 8) words)) ≤ count * 8 = grind (arith, common_steps) in
    let small : k < count * 8 = omega (arith, below, long) in
    let place : line * 8 + k ≡ 8 * line + k = omega arith in
    get_or-take (count * 8) (drop (line * 8) words) k 0 small ∙ get_or-drop (line * 8) words k 0 ∙ ap (λ (j : ℕ). slice_index words j) place

part_long : (words : List ℕ) (line count : ℕ) → 8 * (line + count) ≤ length words → length (take (count * 8) (drop (line * 8) words)) ≡ 8 * count
part_long words line count inside =
    let rest : length (drop (line * 8) words) ≡ length words - line * 8 = length-drop (line * 8) words in
    length-take-le (count * 8) (drop (line * 8) words) (omega (arith, rest, inside)) ∙ omega arith

-- a slice to the end is what is left
pub left_is : (lines : List ℕ) (done : ℕ) → slice_range lines done (length lines) ≡ drop done lines
left_is lines done = subst (λ (n : ℕ). take n (drop done lines) ≡ drop done lines) (length-drop done lines) (take-length (drop done lines))

-- the first of the lines that are left
first_left : (lines : List ℕ) (done : ℕ) → slice_index (drop done lines) 0 ≡ slice_index lines done
first_left lines done =
    let place : done + 0 ≡ done = omega arith in
    get_or-drop done lines 0 0 ∙ ap (λ (j : ℕ). slice_index lines j) place

-- where each line has its words among these, so has a run
pub run_inside : (words lines : List ℕ) (done count : ℕ) → ((k : ℕ) → k < length lines → 8 * slice_index lines k + 8 ≤ length words) → 0 < count → done + count ≤ length lines → IsRun (take count (drop done lines)) (slice_index (drop done lines) 0) → 8 * (slice_index lines done + count) ≤ length words
run_inside words lines done count inside some below run =
    let rest : length (drop done lines) ≡ length lines - done = length-drop done lines in
    let long : length (take count (drop done lines)) ≡ count = length-take-le count (drop done lines) (omega (arith, rest, below)) in
    let first = first_left lines done in
    let small : count - 1 < count = omega (arith, some) in
    let last : slice_index (take count (drop done lines)) (count - 1) ≡ slice_index (drop done lines) 0 + (count - 1) = run (count - 1) (omega (arith, long, some)) in
    let is : slice_index (take count (drop done lines)) (count - 1) ≡ slice_index (drop done lines) (count - 1) = get_or-take count (drop done lines) (count - 1) 0 small in
    let place : slice_index (drop done lines) (count - 1) ≡ slice_index lines (done + (count - 1)) = get_or-drop done lines (count - 1) 0 in
    let room = inside (done + (count - 1)) (omega (arith, some, below)) in
    omega (arith, first, last, is, place, room, some)

-- as a loop gives the lines
pub runs_more : (before mid after : Option (List ℕ)) (words lines : List ℕ) (done count : ℕ) → done + count ≤ length lines → 8 * (slice_index lines done + count) ≤ length words → IsRun (take count (drop done lines)) (slice_index (drop done lines) 0) → HasLines before mid words (take done lines) → HasRun mid after (slice_index lines done) (slice_range words (slice_index lines done * 8) (slice_index lines done * 8 + count * 8)) → HasLines before after words (take (done + count) lines)
runs_more None mid after words lines done count below inside run had has = tt
runs_more (Some before) None after words lines done count below inside run had has = absurd had
runs_more (Some before) (Some mid) None words lines done count below inside run had has = absurd has
runs_more (Some before) (Some mid) (Some after) words lines done count below inside run had has =
    let from_line : IsRun (take count (drop done lines)) (slice_index lines done) = subst (λ (n : ℕ). IsRun (take count (drop done lines)) n) (first_left lines done) run in
    let line = slice_index lines done in
    let part : List ℕ = take (count * 8) (drop (line * 8) words) in
    let rest : length (drop done lines) ≡ length lines - done = length-drop done lines in
    let counted : length (take count (drop done lines)) ≡ count = length-take-le count (drop done lines) (omega (arith, rest, below)) in
    let long : length part ≡ 8 * length (take count (drop done lines)) = part_long words line count inside ∙ ap (λ (n : ℕ). 8 * n) (sym counted) in
    let given : AddsRun mid after line part = subst (λ (p : List ℕ). AddsRun mid after line p) (part_is words line count) has in
    let all = adds_more before mid after words (take done lines) (take count (drop done lines)) part line from_line long (part_words words line count) had given in
    rw (take-add done count lines) all

-- one more part was read
pub reads_more : (held : Option (List ℕ)) (words part : List ℕ) (n m : ℕ) → length words ≡ n → ReadsFrom held 0 n words → ReadsFrom held n m part → ReadsFrom held 0 (n + m) (words ++ part)
reads_more None words part n m long had has = tt
reads_more (Some held) words part n m long had has = λ k below. elim (cases_lt k n) [
  | inl low ↦ get_or-append words part 0 k (omega arith) ∙ had k low
  | inr high ↦
      let place : length words + (k - n) ≡ k = omega arith in
      let is : slice_index (words ++ part) k ≡ slice_index part (k - n) = subst (λ (j : ℕ). slice_index (words ++ part) j ≡ slice_index part (k - n)) place (get_or-append-add words part (k - n) 0) in
      let same : n + (k - n) ≡ 0 + k = omega arith in
      is ∙ has (k - n) (omega arith) ∙ ap (λ (j : ℕ). slice_index held j) same
]
