-- A run goes on by one more line.
use Rattle.std.proofs.Common.{◌≡◌, ℕ, ◌+◌, ◌<◌, List, [], ◌∷◌, ◌++◌, length, map, refl, ap, ◌∙◌, arith}
use Rattle.std.specs.Prelude.{Some, slice_get}
use Rattle.tree_model.specs.Step.{Answer, Stopped}
use Rattle.tree_model.specs.Run.{Line, State, LineStep, LineFails}
use Rattle.tree_model.specs.Fences.{fences_of, fences_of_run}
use Rattle.tree_model.proofs.FenceLaws.{last_left, fences_of_run-more}
use Rattle.volume.specs.LineEvents.{events_of_line, events_of_run}
use Rattle.engine.specs.Run.{Run, state_after, last_state}
use Rattle.engine.proofs.Lists.{get_front}

-- a run in which no line failed has as many states as answers, and as many answers as lines
pub answers_as_lines : (P : ℕ) (start : State) (lines : List Line) (answers : List Answer) (states : List State) → Run P start lines answers states → length states ≡ length answers → length lines ≡ length states
answers_as_lines P start [] [] [] run same = refl
answers_as_lines P start [] [] (s ∷ states) run same = absurd run
answers_as_lines P start [] (a ∷ answers) states run same = absurd run
answers_as_lines P start (l ∷ lines) [] states run same = absurd run
answers_as_lines P start (l ∷ lines) (a ∷ answers) [] run same = absurd (omega arith)
answers_as_lines P start (l ∷ lines) (a ∷ answers) (s ∷ states) run same =
    let rest = answers_as_lines P s lines answers states run.1 (omega (arith, same)) in omega (arith, rest)

pub run_step : (P : ℕ) (start : State) (lines : List Line) (answers : List Answer) (states : List State) (line : Line) (answer : Answer) (new : State) →
    Run P start lines answers states → length states ≡ length answers → LineStep P (last_state start states) line answer new →
    Run P start (lines ++ line ∷ []) (answers ++ answer ∷ []) (states ++ new ∷ [])
run_step P start [] [] [] line answer new run same step = (step, tt)
run_step P start [] [] (s ∷ states) line answer new run same step = absurd run
run_step P start [] (a ∷ answers) states line answer new run same step = absurd run
run_step P start (l ∷ lines) [] states line answer new run same step = absurd run
run_step P start (l ∷ lines) (a ∷ answers) [] line answer new run same step = absurd (omega arith)
run_step P start (l ∷ lines) (a ∷ answers) (s ∷ states) line answer new run same step =
    (run.0, run_step P s lines answers states line answer new run.1 (omega (arith, same)) step)

pub run_fails : (P : ℕ) (start : State) (lines : List Line) (answers : List Answer) (states : List State) (line : Line) (answer : Answer) →
    Run P start lines answers states → length states ≡ length answers → LineFails P (last_state start states) line answer →
    Run P start (lines ++ line ∷ []) (answers ++ answer ∷ []) states
run_fails P start [] [] [] line answer run same step = (step, refl)
run_fails P start [] [] (s ∷ states) line answer run same step = absurd run
run_fails P start [] (a ∷ answers) states line answer run same step = absurd run
run_fails P start (l ∷ lines) [] states line answer run same step = absurd run
run_fails P start (l ∷ lines) (a ∷ answers) [] line answer run same step = absurd (omega arith)
run_fails P start (l ∷ lines) (a ∷ answers) (s ∷ states) line answer run same step =
    (run.0, run_fails P s lines answers states line answer run.1 (omega (arith, same)) step)

all_stopped : (lines : List Line) (line : Line) → map (λ (later : Line). Stopped) lines ++ Stopped ∷ [] ≡ map (λ (later : Line). Stopped) (lines ++ line ∷ [])
all_stopped [] line = refl
all_stopped (l ∷ lines) line = ap (λ (answers : List Answer). Stopped ∷ answers) (all_stopped lines line)

pub run_stopped : (P : ℕ) (start : State) (lines : List Line) (answers : List Answer) (states : List State) (line : Line) →
    Run P start lines answers states → length states < length answers →
    Run P start (lines ++ line ∷ []) (answers ++ Stopped ∷ []) states
run_stopped P start [] [] states line run fewer = absurd (omega arith)
run_stopped P start [] (a ∷ answers) states line run fewer = absurd run
run_stopped P start (l ∷ lines) [] states line run fewer = absurd run
run_stopped P start (l ∷ lines) (a ∷ answers) [] line run fewer =
    (run.0, ap (λ (answered : List Answer). answered ++ Stopped ∷ []) run.1 ∙ all_stopped lines line)
run_stopped P start (l ∷ lines) (a ∷ answers) (s ∷ states) line run fewer =
    (run.0, run_stopped P s lines answers states line run.1 (omega (arith, fewer)))

-- the state after the last line is the one after all of them
pub state_after_last : (start : State) (states : List State) → slice_get (start ∷ states) (length states) ≡ Some (last_state start states)
state_after_last start [] = refl
state_after_last start (s ∷ states) = grind (arith, state_after_last s states)

pub last_state-append : (start : State) (states : List State) (new : State) → last_state start (states ++ new ∷ []) ≡ new
last_state-append start [] new = refl
last_state-append start (s ∷ states) new = last_state-append s states new

-- a state that was reached stays with its number
pub state_stays : (start : State) (states : List State) (new : State) (k : ℕ) (state : State) → state_after start states k ≡ Some state → state_after start (states ++ new ∷ []) k ≡ Some state
state_stays start states new k state is = get_front (start ∷ states) (new ∷ []) k state is

-- a line that leaves no state takes no fence, and no event
pub fences_still : (P : ℕ) (start : State) (lines : List Line) (answers : List Answer) (states : List State) (line : Line) (answer : Answer) → Run P start lines answers states
    → fences_of_run start (lines ++ line ∷ []) (answers ++ answer ∷ []) states ≡ fences_of_run start lines answers states
fences_still P start [] [] [] line answer run = refl
fences_still P start [] [] (s ∷ states) line answer run = absurd run
fences_still P start [] (a ∷ answers) states line answer run = absurd run
fences_still P start (l ∷ lines) [] states line answer run = absurd run
fences_still P start (l ∷ lines) (a ∷ answers) [] line answer run = refl
fences_still P start (l ∷ lines) (a ∷ answers) (s ∷ states) line answer run = ap (λ (n : ℕ). fences_of start l a s + n) (fences_still P s lines answers states line answer run.1)

pub events_still : (P : ℕ) (start : State) (lines : List Line) (answers : List Answer) (states : List State) (line : Line) (answer : Answer) → Run P start lines answers states
    → events_of_run start (lines ++ line ∷ []) (answers ++ answer ∷ []) states ≡ events_of_run start lines answers states
events_still P start [] [] [] line answer run = refl
events_still P start [] [] (s ∷ states) line answer run = absurd run
events_still P start [] (a ∷ answers) states line answer run = absurd run
events_still P start (l ∷ lines) [] states line answer run = absurd run
events_still P start (l ∷ lines) (a ∷ answers) [] line answer run = refl
events_still P start (l ∷ lines) (a ∷ answers) (s ∷ states) line answer run = ap (λ (n : ℕ). events_of_line start l a s + 1 + n) (events_still P s lines answers states line answer run.1)

-- ---- fences and events

-- a run goes on by a line, and its acknowledgement
pub events_more : (start : State) (lines : List Line) (answers : List Answer) (states : List State) (line : Line) (answer : Answer) (new : State) → length lines ≡ length states → length states ≡ length answers
    → events_of_run start (lines ++ line ∷ []) (answers ++ answer ∷ []) (states ++ new ∷ []) ≡ events_of_run start lines answers states + (events_of_line (last_state start states) line answer new + 1)
events_more start [] [] [] line answer new many same = omega arith
events_more start [] [] (s ∷ states) line answer new many same = absurd (omega (arith, many))
events_more start [] (a ∷ answers) [] line answer new many same = absurd (omega (arith, same))
events_more start [] (a ∷ answers) (s ∷ states) line answer new many same = absurd (omega (arith, many))
events_more start (l ∷ lines) answers [] line answer new many same = absurd (omega (arith, many))
events_more start (l ∷ lines) [] (s ∷ states) line answer new many same = absurd (omega (arith, same))
events_more start (l ∷ lines) (a ∷ answers) (s ∷ states) line answer new many same =
    let rest = events_more s lines answers states line answer new (omega (arith, many)) (omega (arith, same)) in omega (arith, rest)

last_is : (start : State) (states : List State) → last_left start states ≡ last_state start states
last_is start [] = refl
last_is start (s ∷ states) = last_is s states

-- a run goes on by a line
pub fences_more : (start : State) (lines : List Line) (answers : List Answer) (states : List State) (line : Line) (answer : Answer) (new : State) → length lines ≡ length states → length states ≡ length answers
    → fences_of_run start (lines ++ line ∷ []) (answers ++ answer ∷ []) (states ++ new ∷ []) ≡ fences_of_run start lines answers states + fences_of (last_state start states) line answer new
fences_more start lines answers states line answer new many same =
    let more = fences_of_run-more start lines answers states line answer new many same in
    let last = ap (λ (old : State). fences_of old line answer new) (last_is start states) in
    omega (arith, more, last)
