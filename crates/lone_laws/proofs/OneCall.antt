-- Where there is one session no call runs beside another: all that is free is free for its call.
use Rattle.std.proofs.Common.{◌≡◌, ℕ, zero, suc, true, [], ◌∷◌, length, is_none, IsTrue, None, sym, ap, refl, ◌∙◌, arith}
use Rattle.std.proofs.lemmas.Bool.{and_from}
use Rattle.pm_trait.specs.DeviceView.{DeviceView}
use Rattle.tree_model.specs.Capacity.{Supply, untaken}
use Rattle.tree_model.specs.Run.{State, is_changing, may_fail}
use Rattle.tree_model.specs.Step.{refusal_of, refusal_with}
use Rattle.tree_model.specs.declared.command.Command.{Command}
use Rattle.image_reading.specs.Residue.{Residue, no_residue}
use Rattle.session_laws.specs.Calls.{Calls, AreIdle, call_at, without, left_of_all}
use Rattle.session_laws.proofs.Lists.{left_idle, without_idle}
use Rattle.sessions.specs.History.{supply_of}
use Rattle.sessions.specs.Interleave.{InterleaveView, IsWeaving}
use Rattle.sessions.specs.Steps.{HasHeld}
use Rattle.sessions.specs.declared.entry.Entry.{Entry}
use Rattle.sessions.proofs.WeavesOne.{tasks_long}

-- a change that is accepted so is accepted by the volume alone
pub may_fail_free : (P : ℕ) (state : State) (supply : Supply) (c : Command) → supply ≡ untaken P → is_changing c ≡ true → refusal_with supply state.tree state.room c ≡ None
    → IsTrue (may_fail P state c)
may_fail_free P state supply c free changing accepted =
    and_from (is_changing c) (is_none (refusal_of P state.tree state.room c)) changing
    (ap is_none (ap (λ (all : Supply). refusal_with all state.tree state.room c) (sym free) ∙ accepted))

-- ---- the only call

no_other : (calls : Calls) (s : ℕ) → length calls ≡ 1 → call_at calls (suc s) ≡ None
no_other [] s one = refl
no_other (call ∷ []) s one = refl
no_other (call ∷ other ∷ calls) s one = absurd (omega (arith, one))

rest_idle : (calls : Calls) → length calls ≡ 1 → AreIdle (without calls 0)
rest_idle [] one s = refl
rest_idle (call ∷ calls) one zero = refl
rest_idle (call ∷ calls) one (suc s) = no_other (call ∷ calls) s one

module _ (weave : InterleaveView) (device : DeviceView) (calls : Calls) (history : State) (weaving : IsWeaving weave device calls history) (one : length weave.tasks ≡ 1) where
  one_call : length calls ≡ 1
  one_call = sym (tasks_long calls) ∙ ap length (sym weaving.tasks) ∙ one

  nothing_beside : left_of_all weave.volume (without calls 0) ≡ no_residue
  nothing_beside = left_idle weave.volume (without calls 0) (rest_idle calls one_call)

  pub all_free : (entry : Entry) → HasHeld entry (left_of_all weave.volume (without calls 0)) → supply_of weave.volume.size entry ≡ untaken weave.volume.size
  all_free entry held =
      let inodes = held.inodes ∙ ap (λ (left : Residue). length left.inodes) nothing_beside in
      let pages = held.pages ∙ ap (λ (left : Residue). length left.pages) nothing_beside in
      λ k. record { pages = weave.volume.size; taken_inodes = inodes k; taken_pages = pages k }

  module _ (none : call_at calls 0 ≡ None) where
    pub none_runs : AreIdle calls
    none_runs s = ap (λ (all : Calls). call_at all s) (sym (without_idle calls 0 none)) ∙ rest_idle calls one_call s

    pub nothing_left : left_of_all weave.volume calls ≡ no_residue
    nothing_left = left_idle weave.volume calls none_runs
