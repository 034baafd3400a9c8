-- What of the lines of a script is left, by where the sessions' next lines stand.
use Rattle.std.proofs.Common.{◌≡◌, ℕ, zero, suc, ◌+◌, ◌<◌, ◌≤◌, ◌==◌, nat_le, nat_lt, Bool, true, false, cond, List, [], ◌∷◌, ◌++◌, length, take, drop, map, get_or, set, slice_index, Option, Some, None, is_some, inl, inr, refl, sym, ap, ◌∙◌, subst, arith}
use Rattle.std.proofs.lemmas.Bool.{eqb-true, eq-eqb, eqb-false, le-leb, lt-leb, le-ltb, lt-ltb, ltb-true, cases_lt, false≢true}
use Rattle.std.proofs.lemmas.List.{drop_more, drop_all, take-append-drop, length-take-le, get_or-set_same, get_or-set_other}
use Rattle.std.proofs.lemmas.List.Elements.{All-head, All-tail}
use Rattle.tree_model.specs.Run.{Line}
use Rattle.script.specs.Lines.{call_of}
use Rattle.script.specs.declared.session_line.SessionLine.{SessionLine}
use Rattle.session_lines.specs.Places.{call_in, left_from, first_place, AreOf, IsNext, IsNextFrom, AreLeft}
use Rattle.session_lines.specs.Turns.{next_line, without_next, has_line}

-- ---- where a session's first line stands

first_place-from : (session place : ℕ) (lines : List SessionLine) → place ≤ first_place session place lines
first_place-from session place [] = omega arith
first_place-from session place (line ∷ lines) =
    let more = first_place-from session (place + 1) lines in
    elim (line.session == session) as (λ t. place ≤ cond t place (first_place session (place + 1) lines)) [ true ↦ omega arith | false ↦ omega (arith, more) ]

-- one line fewer
first_place-tail : (session place : ℕ) (line : SessionLine) (lines : List SessionLine) → first_place session place (line ∷ lines) ≤ first_place session (place + 1) lines
first_place-tail session place line lines =
    let more = first_place-from session (place + 1) lines in
    elim (line.session == session) as (λ t. cond t place (first_place session (place + 1) lines) ≤ first_place session (place + 1) lines) [ true ↦ omega (arith, more) | false ↦ omega arith ]

first_place-own : (session place : ℕ) (line : SessionLine) (lines : List SessionLine) → (line.session == session) ≡ true → first_place session place (line ∷ lines) ≡ place
first_place-own session place line lines own = ap (λ t. cond t place (first_place session (place + 1) lines)) own

-- the line there is the session's
own_line : (session place : ℕ) (line : SessionLine) (lines : List SessionLine) → first_place session place (line ∷ lines) ≡ place → (line.session == session) ≡ true
own_line session place line lines there =
    let more = first_place-from session (place + 1) lines in
    elim (line.session == session) as (λ t. cond t place (first_place session (place + 1) lines) ≡ place → t ≡ true) [
      | true ↦ λ _. refl
      | false ↦ λ is. absurd (omega (arith, more, is))
    ] there

-- ---- a line that is left, and one that is not

abbrev keeps : List ℕ → ℕ → SessionLine → Bool
keeps next place line = nat_le (slice_index next line.session) place

left_kept : (next : List ℕ) (place : ℕ) (line : SessionLine) (lines : List SessionLine) → slice_index next line.session ≤ place
    → left_from next place (line ∷ lines) ≡ call_in line ∷ left_from next (place + 1) lines
left_kept next place line lines below =
    ap (λ t. cond t (call_in line ∷ left_from next (place + 1) lines) (left_from next (place + 1) lines)) (le-leb (slice_index next line.session) place below)

left_passed : (next : List ℕ) (place : ℕ) (line : SessionLine) (lines : List SessionLine) → place < slice_index next line.session
    → left_from next place (line ∷ lines) ≡ left_from next (place + 1) lines
left_passed next place line lines above =
    ap (λ t. cond t (call_in line ∷ left_from next (place + 1) lines) (left_from next (place + 1) lines)) (lt-leb (slice_index next line.session) place above)

-- where the next line of a line's session is, said of the session
next_of_own : (next : List ℕ) (session : ℕ) (line : SessionLine) → (line.session == session) ≡ true → slice_index next line.session ≡ slice_index next session
next_of_own next session line own = ap (slice_index next) (eqb-true line.session session own)

-- two lists say the same of each other session
abbrev AgreeBeside : List ℕ → List ℕ → ℕ → Type 0
AgreeBeside next new session = (k : ℕ) → (k == session) ≡ false → slice_index new k ≡ slice_index next k

-- a line of another session is left or not as before
left_beside : (next new : List ℕ) (session place : ℕ) (line : SessionLine) (lines : List SessionLine) → AgreeBeside next new session → (line.session == session) ≡ false
    → left_from new place (line ∷ lines) ≡ cond (keeps next place line) (call_in line ∷ left_from new (place + 1) lines) (left_from new (place + 1) lines)
left_beside next new session place line lines agree other =
    ap (λ n. cond (nat_le n place) (call_in line ∷ left_from new (place + 1) lines) (left_from new (place + 1) lines)) (agree line.session other)

-- ---- lists that leave the same

left_same : (next new : List ℕ) (session place : ℕ) (lines : List SessionLine) → AgreeBeside next new session
    → slice_index next session ≤ first_place session place lines → slice_index new session ≤ first_place session place lines
    → left_from new place lines ≡ left_from next place lines
left_same next new session place [] agree old_below new_below = refl
left_same next new session place (line ∷ lines) agree old_below new_below =
    let tail = first_place-tail session place line lines in
    let rest = left_same next new session (place + 1) lines agree (omega (arith, tail, old_below)) (omega (arith, tail, new_below)) in
    elim (line.session == session) as (λ t. (line.session == session) ≡ t → left_from new place (line ∷ lines) ≡ left_from next place (line ∷ lines)) [
      | true ↦ λ own.
          let old_own = next_of_own next session line own in
          let new_own = next_of_own new session line own in
          let here = first_place-own session place line lines own in
          left_kept new place line lines (omega (arith, new_own, here, new_below))
          ∙ ap (λ left. call_in line ∷ left) rest
          ∙ sym (left_kept next place line lines (omega (arith, old_own, here, old_below)))
      | false ↦ λ other.
          left_beside next new session place line lines agree other
          ∙ ap (λ left. cond (keeps next place line) (call_in line ∷ left) left) rest
    ] refl

-- ---- a session's next line

next_skips : (t : Bool) (line : SessionLine) (left : List (ℕ × Line)) (session : ℕ) → (line.session == session) ≡ false
    → next_line (cond t (call_in line ∷ left) left) session ≡ next_line left session
next_skips true line left session other = ap (λ t. cond t (Some (call_of line.text.now)) (next_line left session)) other
next_skips false line left session other = refl

without_skips : (t : Bool) (line : SessionLine) (left : List (ℕ × Line)) (session : ℕ) → (line.session == session) ≡ false
    → without_next (cond t (call_in line ∷ left) left) session ≡ cond t (call_in line ∷ without_next left session) (without_next left session)
without_skips true line left session other = ap (λ t. cond t left (call_in line ∷ without_next left session)) other
without_skips false line left session other = refl

-- lines before the place of its next one are none that it has left
next_before : (next : List ℕ) (session place behind : ℕ) (front lines : List SessionLine) → place + length front ≡ behind → behind ≤ slice_index next session
    → next_line (left_from next place (front ++ lines)) session ≡ next_line (left_from next behind lines) session
next_before next session place behind [] lines sum below = ap (λ p. next_line (left_from next p lines) session) (omega (arith, sum))
next_before next session place behind (line ∷ front) lines sum below =
    let rest = next_before next session (place + 1) behind front lines (omega (arith, sum)) below in
    elim (line.session == session) as (λ t. (line.session == session) ≡ t → next_line (left_from next place (line ∷ (front ++ lines))) session ≡ next_line (left_from next behind lines) session) [
      | true ↦ λ own.
          let same = next_of_own next session line own in
          ap (λ left. next_line left session) (left_passed next place line (front ++ lines) (omega (arith, same, below, sum))) ∙ rest
      | false ↦ λ other. next_skips (keeps next place line) line (left_from next (place + 1) (front ++ lines)) session other ∙ rest
    ] refl

-- what the first of these lines asks for
abbrev first_call : List SessionLine → Option Line
first_call [] = None
first_call (line ∷ lines) = Some (call_of line.text.now)

next_here : (next : List ℕ) (session place : ℕ) (lines : List SessionLine) → slice_index next session ≡ place → first_place session place lines ≡ place
    → next_line (left_from next place lines) session ≡ first_call lines
next_here next session place [] is there = refl
next_here next session place (line ∷ lines) is there =
    let own = own_line session place line lines there in
    let same = next_of_own next session line own in
    ap (λ left. next_line left session) (left_kept next place line lines (omega (arith, same, is)))
    ∙ ap (λ t. cond t (Some (call_of line.text.now)) (next_line (left_from next (place + 1) lines) session)) own

-- the session's next line is the one at its place
next_line-left : (next : List ℕ) (session place : ℕ) (lines : List SessionLine) → slice_index next session ≡ place → IsNext lines session place
    → next_line (left_from next 0 lines) session ≡ first_call (drop place lines)
next_line-left next session place lines is known =
    let within = known.within in
    ap (λ all. next_line (left_from next 0 all) session) (sym (take-append-drop place lines))
    ∙ next_before next session 0 place (take place lines) (drop place lines) (omega (arith, length-take-le place lines within)) (omega (arith, is))
    ∙ next_here next session place (drop place lines) is known.there

drop_some : (lines : List SessionLine) (place : ℕ) → place < length lines → (line : SessionLine) × (drop place lines ≡ line ∷ drop (place + 1) lines)
drop_some [] place inside = absurd (omega (arith, inside))
drop_some (line ∷ lines) place inside = (get_or (line ∷ lines) place line, drop_more (line ∷ lines) place line inside)

-- it has one left where its place is below their number
has_line-left : (next : List ℕ) (session place : ℕ) (lines : List SessionLine) → slice_index next session ≡ place → IsNext lines session place
    → has_line (left_from next 0 lines) session ≡ nat_lt place (length lines)
has_line-left next session place lines is known =
    ap is_some (next_line-left next session place lines is known)
    ∙ elim (cases_lt place (length lines)) as (λ _. is_some (first_call (drop place lines)) ≡ nat_lt place (length lines)) [
      | inl inside ↦ ap (λ rest. is_some (first_call rest)) (drop_some lines place inside).1 ∙ sym (lt-ltb place (length lines) inside)
      | inr behind ↦ ap (λ rest. is_some (first_call rest)) (drop_all place lines behind) ∙ sym (le-ltb place (length lines) behind)
    ]

-- one that has a line left is a session
has_line-below : (sessions : ℕ) (next : List ℕ) (place : ℕ) (lines : List SessionLine) (session : ℕ) → AreOf sessions lines
    → has_line (left_from next place lines) session ≡ true → session < sessions
has_line-below sessions next place [] session below some = absurd (false≢true some)
has_line-below sessions next place (line ∷ lines) session below some =
    elim (line.session == session) as (λ t. (line.session == session) ≡ t → session < sessions) [
      | true ↦ λ own. subst (λ (k : ℕ). k < sessions) (eqb-true line.session session own) (All-head (λ l. l.session < sessions) line lines below)
      | false ↦ λ other.
          has_line-below sessions next (place + 1) lines session (All-tail (λ l. l.session < sessions) line lines below)
          (sym (ap is_some (next_skips (keeps next place line) line (left_from next (place + 1) lines) session other)) ∙ some)
    ] refl

-- ---- a line that is taken off

without_before : (next new : List ℕ) (session place behind : ℕ) (front lines : List SessionLine) → AgreeBeside next new session → place + length front ≡ behind
    → behind ≤ slice_index next session → behind ≤ slice_index new session → left_from new behind lines ≡ without_next (left_from next behind lines) session
    → left_from new place (front ++ lines) ≡ without_next (left_from next place (front ++ lines)) session
without_before next new session place behind [] lines agree sum old_below new_below same =
    let here : place ≡ behind = omega (arith, sum) in
    subst (λ (p : ℕ). left_from new p lines ≡ without_next (left_from next p lines) session) (sym here) same
without_before next new session place behind (line ∷ front) lines agree sum old_below new_below same =
    let rest = without_before next new session (place + 1) behind front lines agree (omega (arith, sum)) old_below new_below same in
    elim (line.session == session) as (λ t. (line.session == session) ≡ t → left_from new place (line ∷ (front ++ lines)) ≡ without_next (left_from next place (line ∷ (front ++ lines))) session) [
      | true ↦ λ own.
          let old_own = next_of_own next session line own in
          let new_own = next_of_own new session line own in
          left_passed new place line (front ++ lines) (omega (arith, new_own, new_below, sum)) ∙ rest
          ∙ ap (λ left. without_next left session) (sym (left_passed next place line (front ++ lines) (omega (arith, old_own, old_below, sum))))
      | false ↦ λ other.
          left_beside next new session place line (front ++ lines) agree other
          ∙ ap (λ left. cond (keeps next place line) (call_in line ∷ left) left) rest
          ∙ sym (without_skips (keeps next place line) line (left_from next (place + 1) (front ++ lines)) session other)
    ] refl

without_here : (next new : List ℕ) (session place : ℕ) (line : SessionLine) (lines : List SessionLine) → AgreeBeside next new session → slice_index next session ≡ place
    → first_place session place (line ∷ lines) ≡ place → slice_index new session ≡ first_place session (place + 1) lines
    → left_from new place (line ∷ lines) ≡ without_next (left_from next place (line ∷ lines)) session
without_here next new session place line lines agree is there new_is =
    let own = own_line session place line lines there in
    let old_own = next_of_own next session line own in
    let new_own = next_of_own new session line own in
    let more = first_place-from session (place + 1) lines in
    left_passed new place line lines (omega (arith, new_own, new_is, more))
    ∙ left_same next new session (place + 1) lines agree (omega (arith, is, more)) (omega (arith, new_is))
    ∙ sym (ap (λ left. without_next left session) (left_kept next place line lines (omega (arith, old_own, is)))
    ∙ ap (λ t. cond t (left_from next (place + 1) lines) (call_in line ∷ without_next (left_from next (place + 1) lines) session)) own)

agree_set : (next : List ℕ) (session place : ℕ) → AgreeBeside next (set next session place) session
agree_set next session place k other =
    let apart = eqb-false k session other in
    get_or-set_other next session k place 0 apart

-- the session's next line is passed over
left_from-passed : (next : List ℕ) (session place behind : ℕ) (lines : List SessionLine) → session < length next → slice_index next session ≡ place → IsNext lines session place
    → place < length lines → behind ≡ first_place session (place + 1) (drop (place + 1) lines)
    → left_from (set next session behind) 0 lines ≡ without_next (left_from next 0 lines) session
left_from-passed next session place behind lines low is known inside new_is =
    let within = known.within in
    let new = set next session behind in
    let new_at : slice_index new session ≡ behind = get_or-set_same next session behind 0 low in
    let some = drop_some lines place inside in
    let more = first_place-from session (place + 1) (drop (place + 1) lines) in
    let agree = agree_set next session behind in
    let there = ap (first_place session place) (sym some.1) ∙ known.there in
    let here = without_here next new session place some.0 (drop (place + 1) lines) agree is there (new_at ∙ new_is) in
    let rest = subst (λ (all : List SessionLine). left_from new place all ≡ without_next (left_from next place all) session) (sym some.1) here in
    let whole = without_before next new session 0 place (take place lines) (drop place lines) agree (omega (arith, length-take-le place lines within)) (omega (arith, is))
    (omega (arith, new_at, new_is, more)) rest in
    subst (λ (all : List SessionLine). left_from new 0 all ≡ without_next (left_from next 0 all) session) (take-append-drop place lines) whole

-- ---- at the beginning

-- each line is left where no session's next one stands behind its first
left_from-all : (next : List ℕ) (place : ℕ) (lines : List SessionLine) → AreOf (length next) lines
    → ((session : ℕ) → session < length next → slice_index next session ≤ first_place session place lines) → left_from next place lines ≡ map call_in lines
left_from-all next place [] below first = refl
left_from-all next place (line ∷ lines) below first =
    let own = eq-eqb line.session line.session refl in
    let here = first_place-own line.session place line lines own in
    let low = All-head (λ l. l.session < length next) line lines below in
    let known = first line.session low in
    left_kept next place line lines (omega (arith, known, here))
    ∙ ap (λ left. call_in line ∷ left)
    (left_from-all next (place + 1) lines (All-tail (λ l. l.session < length next) line lines below)
    (λ session inside. let at = first session inside in let tail = first_place-tail session place line lines in omega (arith, at, tail)))

-- ---- what an index gives

place_of : (next : List ℕ) (session place : ℕ) → session < length next → place ≡ get_or next session place → slice_index next session ≡ place
place_of [] session place low is = absurd (omega (arith, low))
place_of (first ∷ next) zero place low is = sym is
place_of (first ∷ next) (suc session) place low is = place_of next session place (omega (arith, low)) is

-- whether a session has a line left, by the place that stands for it
pub has_line-at : (lines : List SessionLine) (next : List ℕ) (session place : ℕ) → AreLeft lines next → session < length next → place ≡ get_or next session place
    → has_line (left_from next 0 lines) session ≡ nat_lt place (length lines)
has_line-at lines next session place left low is =
    let at = place_of next session place low is in
    has_line-left next session place lines at (subst (λ (p : ℕ). IsNext lines session p) at (left.places session low))

-- ---- a session that has a line left

pub session_below : (lines : List SessionLine) (next : List ℕ) (session : ℕ) → AreLeft lines next → has_line (left_from next 0 lines) session ≡ true → session < length next
session_below lines next session left some = has_line-below (length next) next 0 lines session left.below some

pub place_inside : (lines : List SessionLine) (next : List ℕ) (session place : ℕ) → AreLeft lines next → has_line (left_from next 0 lines) session ≡ true
    → place ≡ get_or next session place → place < length lines
place_inside lines next session place left some is =
    let low = session_below lines next session left some in
    ltb-true place (length lines) (sym (has_line-at lines next session place left low is) ∙ some)

-- the line at a session's place is its next one
pub next_line-at : (lines : List SessionLine) (next : List ℕ) (session place : ℕ) (line : SessionLine) → AreLeft lines next → has_line (left_from next 0 lines) session ≡ true
    → place ≡ get_or next session place → line ≡ get_or lines place line → next_line (left_from next 0 lines) session ≡ Some (call_of line.text.now)
next_line-at lines next session place line left some is line_is =
    let low = session_below lines next session left some in
    let at = place_of next session place low is in
    next_line-left next session place lines at (subst (λ (p : ℕ). IsNext lines session p) at (left.places session low))
    ∙ ap first_call (drop_more lines place line (place_inside lines next session place left some is))
    ∙ ap (λ l. Some (call_of l.text.now)) (sym line_is)

-- a line that is taken off, by the place that stands for its session
pub passed_at : (lines : List SessionLine) (next : List ℕ) (session place behind : ℕ) → AreLeft lines next → has_line (left_from next 0 lines) session ≡ true
    → place ≡ get_or next session place → behind ≡ first_place session (place + 1) (drop (place + 1) lines)
    → left_from (set next session behind) 0 lines ≡ without_next (left_from next 0 lines) session
passed_at lines next session place behind left some is behind_is =
    let low = session_below lines next session left some in
    let at = place_of next session place low is in
    left_from-passed next session place behind lines low at (subst (λ (p : ℕ). IsNext lines session p) at (left.places session low))
    (place_inside lines next session place left some is) behind_is

-- the places of the sessions' first lines
abbrev pub AreFirst : List SessionLine → List ℕ → ℕ → Type 0
AreFirst lines next sessions = (session : ℕ) → session < sessions → IsNextFrom lines 0 session (slice_index next session)

pub left_at_first : (lines : List SessionLine) (next : List ℕ) (sessions : ℕ) → length next ≡ sessions → AreOf sessions lines → AreFirst lines next sessions
    → left_from next 0 lines ≡ map call_in lines
left_at_first lines next sessions long below known =
    left_from-all next 0 lines (subst (λ (n : ℕ). AreOf n lines) (sym long) below)
    (λ session inside. let at = (known session (omega (arith, inside, long))).first in omega (arith, at))
