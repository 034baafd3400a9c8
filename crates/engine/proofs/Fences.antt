-- The fences of the lines of a run, line by line, as the run goes on.
use Rattle.std.proofs.Common.{◌≡◌, inl, inr, ℕ, zero, suc, ◌+◌, ◌<◌, List, [], ◌∷◌, ◌++◌, length, refl, ap, subst, ◌∙◌, arith}
use Rattle.std.proofs.lemmas.List.{append-nil}
use Rattle.std.specs.Prelude.{slice_get}
use Rattle.tree_model.specs.Step.{Answer, Fault}
use Rattle.tree_model.specs.Run.{Line, State}
use Rattle.tree_model.specs.Fences.{fences_of}
use Rattle.engine.specs.Quiet.{fences_at, MayStore}
use Rattle.engine.specs.Run.{last_state}
use Rattle.engine.proofs.Lists.{get_front, get_last}

-- what a line took, it took
fences_stay : (start : State) (lines more : List Line) (answers later : List Answer) (states last : List State) (k : ℕ) → 0 < fences_at start lines answers states k
    → 0 < fences_at start (lines ++ more) (answers ++ later) (states ++ last) k
fences_stay start [] more answers later states last k some = absurd (omega (arith, some))
fences_stay start (l ∷ lines) more [] later states last k some = absurd (omega (arith, some))
fences_stay start (l ∷ lines) more (a ∷ answers) later [] last k some = absurd (omega (arith, some))
fences_stay start (l ∷ lines) more (a ∷ answers) later (s ∷ states) last zero some = some
fences_stay start (l ∷ lines) more (a ∷ answers) later (s ∷ states) last (suc k) some = fences_stay s lines more answers later states last k some

-- and the last line its own
fences_last : (start : State) (lines : List Line) (answers : List Answer) (states : List State) (line : Line) (answer : Answer) (new : State) → length lines ≡ length states → length states ≡ length answers
    → fences_at start (lines ++ line ∷ []) (answers ++ answer ∷ []) (states ++ new ∷ []) (length states) ≡ fences_of (last_state start states) line answer new
fences_last start [] [] [] line answer new many same = refl
fences_last start [] [] (s ∷ states) line answer new many same = absurd (omega (arith, many))
fences_last start [] (a ∷ answers) [] line answer new many same = absurd (omega (arith, same))
fences_last start [] (a ∷ answers) (s ∷ states) line answer new many same = absurd (omega (arith, many))
fences_last start (l ∷ lines) answers [] line answer new many same = absurd (omega (arith, many))
fences_last start (l ∷ lines) [] (s ∷ states) line answer new many same = absurd (omega (arith, same))
fences_last start (l ∷ lines) (a ∷ answers) (s ∷ states) line answer new many same =
    fences_last s lines answers states line answer new (omega (arith, many)) (omega (arith, same))

-- ---- which lines may store

-- a line that might store, may
pub may_store_more : (start : State) (lines more : List Line) (answers later : List Answer) (states last : List State) (k : ℕ) → MayStore start lines answers states k
    → MayStore start (lines ++ more) (answers ++ later) (states ++ last) k
may_store_more start lines more answers later states last k (inl failed) = inl (get_front answers later k Fault failed)
may_store_more start lines more answers later states last k (inr some) = inr (fences_stay start lines more answers later states last k some)

-- where no state is left by the lines that come
pub may_store_still : (start : State) (lines more : List Line) (answers later : List Answer) (states : List State) (k : ℕ) → MayStore start lines answers states k
    → MayStore start (lines ++ more) (answers ++ later) states k
may_store_still start lines more answers later states k may =
    subst (λ (left : List State). MayStore start (lines ++ more) (answers ++ later) left k) (append-nil states) (may_store_more start lines more answers later states [] k may)

-- the line that is running
pub may_store_now : (start : State) (lines : List Line) (answers : List Answer) (states : List State) (line : Line) (answer : Answer) (new : State) (k : ℕ) → length lines ≡ length states → length states ≡ length answers
    → (k ≡ 0) × (0 < fences_of (last_state start states) line answer new) → MayStore start (lines ++ line ∷ []) (answers ++ answer ∷ []) (states ++ new ∷ []) (length states + k)
may_store_now start lines answers states line answer new k many same (none, some) =
    let now : length states + k ≡ length states = omega (arith, none) in
    let taken = ap (fences_at start (lines ++ line ∷ []) (answers ++ answer ∷ []) (states ++ new ∷ [])) now ∙ fences_last start lines answers states line answer new many same in
    inr (omega (arith, taken, some))

-- the line in which a fence failed
pub may_store_failed : (start : State) (lines : List Line) (answers : List Answer) (states : List State) (line : Line) (k : ℕ) → length states ≡ length answers → k ≡ 0
    → MayStore start (lines ++ line ∷ []) (answers ++ Fault ∷ []) states (length states + k)
may_store_failed start lines answers states line k same none =
    let now : length states + k ≡ length answers = omega (arith, same, none) in
    inl (ap (slice_get (answers ++ Fault ∷ [])) now ∙ get_last answers Fault)
