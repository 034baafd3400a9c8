-- Which lines of a run may be answered NoMemory, as the run goes on.
use Rattle.std.proofs.Common.{◌≡◌, ◌≢◌, ◌⊎◌, inl, inr, ℕ, zero, suc, ◌≤◌, List, [], ◌∷◌, ◌++◌, length, refl, ap, ◌∙◌, arith}
use Rattle.std.specs.Prelude.{IsTrue, Some, slice_get}
use Rattle.pm_trait.specs.Device.{HasRisen}
use Rattle.tree_model.specs.Step.{Answer, Refused, Fault, Stopped}
use Rattle.tree_model.specs.Run.{Line, State}
use Rattle.tree_model.specs.Places.{line_needs_places}
use Rattle.tree_model.specs.declared.reply.Refusal.TheVariants.{NoMemory}
use Rattle.engine.specs.Memory.{needs_places_at}
use Rattle.engine.specs.Run.{last_state}
use Rattle.engine.proofs.Faults.{risen_later, risen_earlier}
use Rattle.engine.proofs.Lists.{get_more}

-- each line that was answered NoMemory needs a place, or the device refused room
abbrev pub HaveCause : State → List Line → List Answer → List State → ℕ → ℕ → Type 0
HaveCause start lines answers states before now = (k : ℕ) → slice_get answers k ≡ Some (Refused NoMemory) → IsTrue (needs_places_at start lines states k) ⊎ HasRisen before now

more_lines : (start : State) (lines more : List Line) (states : List State) (k : ℕ) → IsTrue (needs_places_at start lines states k) → IsTrue (needs_places_at start (lines ++ more) states k)
more_lines start [] more states k needs = absurd (cc needs)
more_lines start (l ∷ lines) more states zero needs = needs
more_lines start (l ∷ lines) more [] (suc k) needs = absurd (cc needs)
more_lines start (l ∷ lines) more (s ∷ states) (suc k) needs = more_lines s lines more states k needs

more_states : (start : State) (lines : List Line) (states more : List State) (k : ℕ) → IsTrue (needs_places_at start lines states k) → IsTrue (needs_places_at start lines (states ++ more) k)
more_states start [] states more k needs = absurd (cc needs)
more_states start (l ∷ lines) states more zero needs = needs
more_states start (l ∷ lines) [] more (suc k) needs = absurd (cc needs)
more_states start (l ∷ lines) (s ∷ states) more (suc k) needs = more_states s lines states more k needs

needs_last : (start : State) (lines : List Line) (states : List State) (line : Line) → length lines ≡ length states
    → needs_places_at start (lines ++ line ∷ []) states (length states) ≡ line_needs_places (last_state start states) line
needs_last start [] [] line many = refl
needs_last start [] (s ∷ states) line many = absurd (omega (arith, many))
needs_last start (l ∷ lines) [] line many = absurd (omega (arith, many))
needs_last start (l ∷ lines) (s ∷ states) line many = needs_last s lines states line (omega (arith, many))

pub fault_is_none : Fault ≢ Refused NoMemory
fault_is_none is = cc

pub stopped_is_none : Stopped ≢ Refused NoMemory
stopped_is_none is = cc

-- a line with another answer
pub other_answer : (start : State) (lines more : List Line) (answers : List Answer) (states : List State) (answer : Answer) (first before now : ℕ) → answer ≢ Refused NoMemory → before ≤ now
    → HaveCause start lines answers states first before → HaveCause start (lines ++ more) (answers ++ answer ∷ []) states first now
other_answer start lines more answers states answer first before now other order causes k is = elim (get_more answers answer k (Refused NoMemory) is) [
  | inl earlier ↦ elim (causes k earlier) [
    | inl needs ↦ inl (more_lines start lines more states k needs)
    | inr risen ↦ inr (risen_later first before now risen order)
  ]
  | inr last ↦ absurd (other last.1)
]

-- a line that was answered
pub one_answer : (start : State) (lines : List Line) (answers : List Answer) (states : List State) (line : Line) (answer : Answer) (new : State) (first before now : ℕ)
    → length lines ≡ length states → length states ≡ length answers → first ≤ before → before ≤ now
    → (answer ≡ Refused NoMemory → IsTrue (line_needs_places (last_state start states) line) ⊎ HasRisen before now)
    → HaveCause start lines answers states first before → HaveCause start (lines ++ line ∷ []) (answers ++ answer ∷ []) (states ++ new ∷ []) first now
one_answer start lines answers states line answer new first before now many same was order cause causes k is = elim (get_more answers answer k (Refused NoMemory) is) [
  | inl earlier ↦ elim (causes k earlier) [
    | inl needs ↦ inl (more_states start (lines ++ line ∷ []) states (new ∷ []) k (more_lines start lines (line ∷ []) states k needs))
    | inr risen ↦ inr (risen_later first before now risen order)
  ]
  | inr last ↦ elim (cause last.1) [
    | inl needs ↦
        let here : k ≡ length states = omega (arith, last.0, same) in
        inl (more_states start (lines ++ line ∷ []) states (new ∷ []) k (ap (needs_places_at start (lines ++ line ∷ []) states) here ∙ needs_last start lines states line many ∙ needs))
    | inr risen ↦ inr (risen_earlier first before now was risen)
  ]
]
