-- What a crash in a step of a call leaves: the history, or in a step that commits one that its command enters; and whose ranges those of the others are.
use Rattle.std.proofs.Common.{◌≡◌, ◌⊎◌, inl, inr, ℕ, zero, suc, Bool, true, List, [], ◌∷◌, Option, None, Some, refl, sym, ◌∙◌}
use Rattle.std.specs.List.{Contains}
use Rattle.std.proofs.lemmas.List.Elements.{Contains-append_left, Contains-append_right, Contains-append_cases}
use Rattle.tree_model.specs.Capacity.{Supply}
use Rattle.tree_model.specs.Run.{State, Line}
use Rattle.tree_model.specs.Step.{tree_after}
use Rattle.tree_model.specs.declared.command.Command.{Command}
use Rattle.mixing_laws.specs.Mixed.{Range}
use Rattle.session_laws.specs.Calls.{Call, Calls, without, range_of_call, ranges_of_all}
use Rattle.session_laws.specs.Histories.{EntersHistory, MayBeLeft as MayLeave}
use Rattle.sessions.specs.History.{IsLegal}
use Rattle.sessions.specs.Steps.{MayBeLeft, AreRunning, IsBeforeOrBehind, IsBeforeOrEntered, may_commit}
use Rattle.sessions.specs.declared.entry.Entry.{Entry}

-- ---- ranges

-- what the others write is among what all do
pub ranges_without : (calls : Calls) (s : ℕ) (range : Range) → Contains (ranges_of_all (without calls s)) range → Contains (ranges_of_all calls) range
ranges_without [] s range held = held
ranges_without (None ∷ calls) zero range held = held
ranges_without (Some call ∷ calls) zero range held = Contains-append_right (range_of_call call) (ranges_of_all calls) range held
ranges_without (None ∷ calls) (suc s) range held = ranges_without calls s range held
ranges_without (Some call ∷ calls) (suc s) range held = elim (Contains-append_cases (range_of_call call) (ranges_of_all (without calls s)) range held) [
  | inl here ↦ Contains-append_left (range_of_call call) (ranges_of_all calls) range here
  | inr there ↦ Contains-append_right (range_of_call call) (ranges_of_all calls) range (ranges_without calls s range there)
]

-- ---- states

-- the history, or in a step that commits one that the command enters
abbrev pub IsStepState : Bool → Supply → State → Command → ℕ → State → Type 0
IsStepState is_commit supply history command id state = (state ≡ history) ⊎ (is_commit ≡ true) × EntersHistory supply history state command id

-- behind a step that commits it is the tree that the command leaves
abbrev pub IsTreeBehind : Bool → State → Command → ℕ → State → Type 0
IsTreeBehind is_commit history command id later = is_commit ≡ true → later.tree ≡ tree_after id history.tree command

-- such a state comes with an entry
abbrev pub HasLegalEntry : ℕ → Bool → Supply → State → Command → ℕ → Line → Type 0
HasLegalEntry P is_commit supply history command id line =
    (state : State) → is_commit ≡ true → EntersHistory supply history state command id → (entry : Entry) × IsLegal P entry line history state

-- ---- images

module _ (P : ℕ) (calls : Calls) (history : State) (line : Line) (image : List ℕ) (is_commit : Bool) (supply : Supply) (command : Command) (id : ℕ) where
  abbrev Left : (State → Type 0) → Type 0
  Left IsOne = MayBeLeft P calls history line IsOne image

  abbrev AtStep : State → Type 0
  AtStep state = IsStepState is_commit supply history command id state

  pub left_in_step : (ranges : List Range) → AreRunning calls history line ranges → MayLeave P ranges supply is_commit command id history image → Left AtStep
  left_in_step ranges running (inl crash) = record { state = history; state_is = inl refl; ranges = ranges; running = running; crash = crash }
  left_in_step ranges running (inr (commit, entered, enters, crash)) = record {
    state = entered;
    state_is = inr (commit, enters);
    ranges = ranges;
    running = running;
    crash = crash;
  }

  left_as : (IsOne : State → Type 0) → ((state : State) → AtStep state → IsOne state) → Left AtStep → Left IsOne
  left_as IsOne is left = record { state = left.state; state_is = is left.state left.state_is; ranges = left.ranges; running = left.running; crash = left.crash }

  -- the history before the step, or one with the tree behind it
  pub left_behind : (later : State) → IsTreeBehind is_commit history command id later → Left AtStep → Left (IsBeforeOrBehind history later 0)
  left_behind later tree = left_as (IsBeforeOrBehind history later 0) is_behind
    where
      is_behind : (state : State) → AtStep state → IsBeforeOrBehind history later 0 state
      is_behind state (inl same) = inl (refl, same)
      is_behind state (inr (commit, enters)) = inr (enters.after.tree ∙ sym (tree commit))

  -- or one with its entry
  pub left_entered : (ran : Option Call) → (is_commit ≡ true → may_commit ran history line ≡ true) → HasLegalEntry P is_commit supply history command id line → Left AtStep
      → Left (IsBeforeOrEntered P ran history line)
  left_entered ran may legal = left_as (IsBeforeOrEntered P ran history line) is_entered
    where
      is_entered : (state : State) → AtStep state → IsBeforeOrEntered P ran history line state
      is_entered state (inl same) = inl same
      is_entered state (inr (commit, enters)) = inr (may commit, legal state commit enters)
