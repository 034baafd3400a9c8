-- The mark of a volume, and the fences and events with it, over one call after another.
use Rattle.std.proofs.Common.{◌≡◌, inl, inr, ℕ, ◌+◌, ◌<◌, ◌≤◌, ◌==◌, Bool, true, false, not, ◌&&◌, nat_lt, if◌then◌else◌, List, length, refl, sym, ap, ◌∙◌, arith, true≢false}
use Rattle.std.proofs.lemmas.Bool.{cases_lt, lt-ltb}
use Rattle.std.proofs.lemmas.List.{get_or-set_other, get_or-set_same, get_or_past}
use Rattle.std.specs.Prelude.{slice_index, slice_set}
use Rattle.pm_trait.specs.DeviceView.{DeviceView}
use Rattle.pm_trait.specs.Unfolds.{KeepsWords}
use Rattle.layout.specs.Superblock.{IsSuperblockWord, KeepsSuperblock, has_mark, mark_word, closed_mark, open_mark}
use Rattle.volume.specs.Costs.{where_true, events_with_mark, fences_with_mark, mark_after, mark_events}
use Rattle.engine.specs.Exec.{LeavesMark, mark_left}

-- ---- numbers

some_marked : (marked : Bool) (fences : ℕ) → marked ≡ true → 0 < fences → (marked && nat_lt 0 fences) ≡ true
some_marked true fences is some = lt-ltb 0 fences some
some_marked false fences is some = absurd (true≢false (sym is))

-- where no fence is made the mark stays, and costs nothing
pub fences_without : (marked : Bool) (fences : ℕ) → (marked ≡ true → fences ≡ 0) → fences_with_mark marked fences ≡ fences
fences_without false fences none = let unmarked : where_true (false && nat_lt 0 fences) 1 ≡ 0 = refl in omega (arith, unmarked)
fences_without true fences none = let still : where_true (true && nat_lt 0 fences) 1 ≡ 0 = ap (λ (n : ℕ). where_true (true && nat_lt 0 n) 1) (none refl) in omega (arith, still)

events_without : (fences events : ℕ) → events_with_mark false fences events ≡ events
events_without fences events = let unmarked : where_true (false && nat_lt 0 fences) mark_events ≡ 0 = refl in omega (arith, unmarked)

mark_without : (marked : Bool) (fences : ℕ) → (marked ≡ true → fences ≡ 0) → marked ≡ mark_after marked fences
mark_without false fences none = refl
mark_without true fences none = sym (ap (λ (n : ℕ). mark_after true n) (none refl))

-- and a marked volume's first fence takes it away
pub fences_unmarked : (marked : Bool) (fences : ℕ) → marked ≡ true → 0 < fences → fences_with_mark marked fences ≡ 1 + fences
fences_unmarked marked fences is some = ap (λ (b : Bool). where_true b 1 + fences) (some_marked marked fences is some)

pub events_unmarked : (marked : Bool) (fences events : ℕ) → marked ≡ true → 0 < fences → events_with_mark marked fences events ≡ mark_events + events
events_unmarked marked fences events is some = ap (λ (b : Bool). where_true b mark_events + events) (some_marked marked fences is some)

mark_taken : (marked : Bool) (fences : ℕ) → 0 < fences → mark_after marked fences ≡ false
mark_taken false fences some = refl
mark_taken true fences some = ap (λ (b : Bool). true && not b) (lt-ltb 0 fences some)

-- one line after another
fences_joined : (marked : Bool) (first second : ℕ) → fences_with_mark marked (first + second) ≡ fences_with_mark marked first + fences_with_mark (mark_after marked first) second
fences_joined false first second =
    let all = fences_without false (first + second) (λ is. absurd (true≢false (sym is))) in
    let one = fences_without false first (λ is. absurd (true≢false (sym is))) in
    let other = fences_without false second (λ is. absurd (true≢false (sym is))) in
    omega (arith, all, one, other)
fences_joined true first second = elim (cases_lt 0 first) [
  | inl some ↦
      let all = fences_unmarked true (first + second) refl (omega (arith, some)) in
      let one = fences_unmarked true first refl some in
      let taken = ap (λ (b : Bool). fences_with_mark b second) (mark_taken true first some) in
      let other = fences_without false second (λ is. absurd (true≢false (sym is))) in
      omega (arith, all, one, taken, other)
  | inr none ↦
      let is : first ≡ 0 = omega (arith, none) in
      let all = ap (λ (n : ℕ). fences_with_mark true n) (let same : first + second ≡ second = omega (arith, is) in same) in
      let one = fences_without true first (λ marked. is) in
      let stays = ap (λ (b : Bool). fences_with_mark b second) (sym (mark_without true first (λ marked. is))) in
      omega (arith, all, one, is, stays)
]

events_joined : (marked : Bool) (first second events more : ℕ)
    → events_with_mark marked (first + second) (events + more) ≡ events_with_mark marked first events + events_with_mark (mark_after marked first) second more
events_joined false first second events more =
    let all = events_without (first + second) (events + more) in
    let one = events_without first events in
    let other = events_without second more in
    omega (arith, all, one, other)
events_joined true first second events more = elim (cases_lt 0 first) [
  | inl some ↦
      let all = events_unmarked true (first + second) (events + more) refl (omega (arith, some)) in
      let one = events_unmarked true first events refl some in
      let taken = ap (λ (b : Bool). events_with_mark b second more) (mark_taken true first some) in
      let other = events_without second more in
      omega (arith, all, one, taken, other)
  | inr none ↦
      let is : first ≡ 0 = omega (arith, none) in
      let all = ap (λ (n : ℕ). events_with_mark true n (events + more)) (let same : first + second ≡ second = omega (arith, is) in same) in
      let one : events_with_mark true first events ≡ events_with_mark true 0 events = ap (λ (n : ℕ). events_with_mark true n events) is in
      let still : where_true (true && nat_lt 0 0) mark_events ≡ 0 = refl in
      let stays = ap (λ (b : Bool). events_with_mark b second more) (sym (mark_without true first (λ marked. is))) in
      omega (arith, all, one, still, stays)
]

-- ---- the word of the mark

-- whether it says closed after so many fences
left_says : (mark fences : ℕ) → (mark_left mark fences == closed_mark) ≡ mark_after (mark == closed_mark) fences
left_says mark fences = elim (mark == closed_mark) as (λ closed. (mark == closed_mark) ≡ closed → ((if closed && nat_lt 0 fences then open_mark else mark) == closed_mark) ≡ mark_after closed fences) [
  | true ↦ λ is. elim (nat_lt 0 fences) as (λ some. ((if true && some then open_mark else mark) == closed_mark) ≡ (true && not some)) [ true ↦ refl | false ↦ is ]
  | false ↦ λ is. is
] refl

-- it stays where the volume wasn't closed
left_open : (mark fences : ℕ) → (mark == closed_mark) ≡ false → mark_left mark fences ≡ mark
left_open mark fences is = ap (λ (closed : Bool). if closed && nat_lt 0 fences then open_mark else mark) is

-- and where no fence is made
left_without : (mark fences : ℕ) → ((mark == closed_mark) ≡ true → fences ≡ 0) → mark_left mark fences ≡ mark
left_without mark fences none = elim (mark == closed_mark) as (λ closed. (mark == closed_mark) ≡ closed → mark_left mark fences ≡ mark) [
  | true ↦ λ is. ap (λ (n : ℕ). mark_left mark n) (none is) ∙ ap (λ (closed : Bool). if closed && nat_lt 0 0 then open_mark else mark) is
  | false ↦ λ is. left_open mark fences is
] refl

-- the first fence on a closed volume takes it away
left_taken : (mark fences : ℕ) → (mark == closed_mark) ≡ true → 0 < fences → mark_left mark fences ≡ open_mark
left_taken mark fences is some =
    ap (λ (closed : Bool). if closed && nat_lt 0 fences then open_mark else mark) is ∙ ap (λ (b : Bool). if true && b then open_mark else mark) (lt-ltb 0 fences some)

left_joined : (mark first second : ℕ) → mark_left (mark_left mark first) second ≡ mark_left mark (first + second)
left_joined mark first second = elim (mark == closed_mark) as (λ closed. (mark == closed_mark) ≡ closed → mark_left (mark_left mark first) second ≡ mark_left mark (first + second)) [
  | true ↦ λ is. elim (cases_lt 0 first) [
    | inl some ↦ ap (λ (m : ℕ). mark_left m second) (left_taken mark first is some) ∙ sym (left_taken mark (first + second) is (omega (arith, some)))
    | inr none ↦
        let zero_first : first ≡ 0 = omega (arith, none) in
        let same : second ≡ first + second = omega (arith, zero_first) in
        ap (λ (m : ℕ). mark_left m second) (left_without mark first (λ closed. zero_first)) ∙ ap (λ (n : ℕ). mark_left mark n) same
  ]
  | false ↦ λ is. ap (λ (m : ℕ). mark_left m second) (left_open mark first is) ∙ left_open mark second is ∙ sym (left_open mark (first + second) is)
] refl

pub has_mark_after : {fences : ℕ} {before after : DeviceView} → LeavesMark fences before after → has_mark after.words ≡ mark_after (has_mark before.words) fences
has_mark_after {fences} {before} {after} leaves = ap (λ (mark : ℕ). mark == closed_mark) leaves.mark ∙ left_says (slice_index before.words mark_word) fences

-- ---- words

pub beside_here : (words : List ℕ) → KeepsSuperblock words words
beside_here words a inside other = refl

pub beside_then : (first next last : List ℕ) → KeepsSuperblock first next → KeepsSuperblock next last → KeepsSuperblock first last
beside_then first next last one two a inside other = two a inside other ∙ one a inside other

pub keeps_then : {one two : ℕ} {a b c : DeviceView} → LeavesMark one a b → LeavesMark two b c → LeavesMark (one + two) a c
keeps_then {one} {two} {a} {b} {c} first second = record {
  mark = second.mark ∙ ap (λ (mark : ℕ). mark_left mark two) first.mark ∙ left_joined (slice_index a.words mark_word) one two;
  beside = beside_then a.words b.words c.words first.beside second.beside;
}

-- a call that keeps the words of the superblock, and makes a fence on a volume without the mark alone
pub keeps_call : (before after : DeviceView) (fences : ℕ) → KeepsWords IsSuperblockWord before.words after.words → (has_mark before.words ≡ true → fences ≡ 0) → LeavesMark fences before after
keeps_call before after fences keeps none = record {
  mark = keeps mark_word (omega arith) ∙ sym (left_without (slice_index before.words mark_word) fences none);
  beside = λ a inside other. keeps a inside;
}

-- nothing is stored before it, or after it
pub keeps_before : {fences : ℕ} {a b c : DeviceView} → b.words ≡ a.words → LeavesMark fences b c → LeavesMark fences a c
keeps_before {fences} {a} {b} {c} same second = record {
  mark = second.mark ∙ ap (λ (words : List ℕ). mark_left (slice_index words mark_word) fences) same;
  beside = λ word inside other. second.beside word inside other ∙ ap (λ (words : List ℕ). slice_index words word) same;
}

pub keeps_after : {fences : ℕ} {a b c : DeviceView} → c.words ≡ b.words → LeavesMark fences a b → LeavesMark fences a c
keeps_after same first = record {
  mark = ap (λ (words : List ℕ). slice_index words mark_word) same ∙ first.mark;
  beside = λ word inside other. ap (λ (words : List ℕ). slice_index words word) same ∙ first.beside word inside other;
}

-- the mark of a closed volume is taken away, before so many fences
pub keeps_taken : (before after : DeviceView) (fences : ℕ) → after.words ≡ slice_set before.words mark_word open_mark → has_mark before.words ≡ true → 0 < fences → LeavesMark fences before after
keeps_taken before after fences is marked some = record {
  mark =
      ap (λ (words : List ℕ). slice_index words mark_word) is ∙ get_or-set_same before.words mark_word open_mark 0 (marked_long before.words marked)
      ∙ sym (left_taken (slice_index before.words mark_word) fences marked some);
  beside = λ a inside other. ap (λ (words : List ℕ). slice_index words a) is ∙ get_or-set_other before.words mark_word a open_mark 0 other;
}
  where
    marked_long : (words : List ℕ) → has_mark words ≡ true → mark_word < length words
    marked_long words marked = elim (cases_lt mark_word (length words)) [
      | inl within ↦ within
      | inr past ↦ absurd (true≢false (sym marked ∙ ap (λ (mark : ℕ). mark == closed_mark) (get_or_past words mark_word 0 past)))
    ]

-- no fence after that one changes it
pub keeps_taken_then : {one two fences : ℕ} {a b c : DeviceView} → has_mark a.words ≡ true → 0 < one → 0 < fences → LeavesMark one a b → LeavesMark two b c → LeavesMark fences a c
keeps_taken_then {one} {two} {fences} {a} {b} {c} marked some more first second = record {
  mark =
      (keeps_then first second).mark
      ∙ left_taken (slice_index a.words mark_word) (one + two) marked (omega (arith, some)) ∙ sym (left_taken (slice_index a.words mark_word) fences marked more);
  beside = beside_then a.words b.words c.words first.beside second.beside;
}

-- nothing is stored
pub keeps_here : (before after : DeviceView) (fences : ℕ) → after.words ≡ before.words → fences ≡ 0 → LeavesMark fences before after
keeps_here before after fences same none =
    keeps_call before after fences (λ word inside. ap (λ (words : List ℕ). slice_index words word) same) (λ marked. none)

-- ---- a run goes on

-- by so many fences more
pub fences_go_on : (marked was : Bool) (all one more first now after : ℕ) → was ≡ mark_after marked all → now ≡ first + fences_with_mark marked all → after ≡ now + fences_with_mark was one → more ≡ all + one
    → after ≡ first + fences_with_mark marked more
fences_go_on marked was all one more first now after mark so_far added sum =
    let joined = fences_joined marked all one in
    let mark_is = ap (λ (b : Bool). fences_with_mark b one) mark in
    let sum_is = ap (λ (n : ℕ). fences_with_mark marked n) sum in
    omega (arith, so_far, added, joined, mark_is, sum_is)

-- and so many events more, one of them the acknowledgement
pub events_go_on : (marked was : Bool) (all one more events its others first now after : ℕ) → was ≡ mark_after marked all → now ≤ first + events_with_mark marked all events → after ≤ now + (events_with_mark was one its + 1)
    → more ≡ all + one → others ≡ events + (its + 1) → after ≤ first + events_with_mark marked more others
events_go_on marked was all one more events its others first now after mark so_far added sum counted =
    let joined = events_joined marked all one events (its + 1) in
    let mark_is = ap (λ (b : Bool). events_with_mark b one its) mark in
    let sum_is = ap (λ (n : ℕ). events_with_mark marked n others) sum in
    let counted_is = ap (λ (n : ℕ). events_with_mark marked (all + one) n) counted in
    omega (arith, so_far, added, joined, mark_is, sum_is, counted_is)
