-- The step of a running call, as its parts tell it: it was made or its fence failed, and its entry came or didn't.
use Rattle.std.proofs.Common.{arith, ◌-◌, ◌≡◌, ℕ, ◌+◌, Bool, true, false, ◌==◌, ◌||◌, if◌then◌else◌, List, set, Option, Some, None, Ok, Err, refl, sym, ap, subst, ◌∙◌}
use Rattle.std.proofs.lemmas.Bool.{ne_eqb, eq-eqb, eqb-true, eqb-false}
use Rattle.pm_trait.specs.DeviceView.{DeviceView, Acknowledges}
use Rattle.pm_trait.specs.Unfolds.{Takes}
use Rattle.pm_trait.proofs.Unfolding.{done}
use Rattle.tree_model.specs.declared.reply.Reply.{Reply}
use Rattle.tree_model.specs.declared.reply.Reply.TheVariants.{Done, Fault}
use Rattle.volume.specs.Stages.{Advances, next_by}
use Rattle.volume.specs.Volume.{VolumeView}
use Rattle.rename_ptr.proofs.Stepping.{failed_as}
use Rattle.running_calls.specs.declared.running.Running.{Running}
use Rattle.running_calls.specs.Stages.{StandsNext, IsNext, EntersAt, step_of}
use Rattle.sessions.specs.Advanced.{with_entry, enters_now, fences_of_task, entries_behind, MadeStep, HasAdvanced, goes_on, ends, fails}
use Rattle.sessions.specs.Interleave.{InterleaveView}
use Rattle.sessions.specs.declared.entry.StepReply.{StepReply}
use Rattle.sessions.specs.declared.entry.StepReply.TheVariants.{Running as RunsOn, Ended}
use Rattle.sessions.specs.declared.entry.WeaveReply.TheVariants.{Plain}
use Rattle.sessions.specs.declared.task.Task.{Task}

-- ---- the entry

-- whether the entry comes now, as the code asks first whether no fence is left
pub enters_at_none : (fences behind : ℕ) → fences ≡ 0 → (fences == 0) ≡ enters_now fences behind
enters_at_none fences behind none = subst (λ (fences : ℕ). (fences == 0) ≡ enters_now fences behind) (sym none) refl

-- and else whether those that are left behind it come behind the commit
less_test : (fences behind : ℕ) (same : Bool) → (fences ≡ 0 → ⊥) → (fences == behind + 1) ≡ same → (fences - 1 == behind) ≡ same
less_test fences behind true some is = let now = eqb-true fences (behind + 1) is in eq-eqb (fences - 1) behind (omega (arith, now))
less_test fences behind false some is = let other = eqb-false fences (behind + 1) is in ne_eqb (fences - 1) behind (λ same. other (omega (arith, same, some)))

pub enters_at : (fences behind : ℕ) → (fences ≡ 0 → ⊥) → (fences - 1 == behind) ≡ enters_now fences behind
enters_at fences behind some =
    less_test fences behind (fences == behind + 1) some refl
    ∙ subst (λ (none : Bool). (fences == behind + 1) ≡ (none || (fences == behind + 1))) (sym (ne_eqb fences 0 some)) refl

-- what the volume and the entries are behind the step
abbrev pub stepped : InterleaveView → VolumeView → ℕ → List ℕ → Task → Reply → InterleaveView
stepped old volume session bytes task reply = record old { volume = volume; entries = entries_behind old session bytes task reply }

-- What was seen of the sessions is what they were before the step.
module _ (old seen : InterleaveView) (same : seen ≡ old) (volume : VolumeView) (session : ℕ) (bytes : List ℕ) (task : Task) where
  abbrev with_entries : Bool → Reply → InterleaveView
  with_entries enters reply = record old { volume = volume; entries = if enters then with_entry old session task.number (Plain reply) else old.entries }

  pub stepped_entered : (new entered : InterleaveView) (reply told : Reply) → enters_now (fences_of_task old.volume bytes task) task.behind ≡ true → told ≡ reply → new ≡ entered
      → entered ≡ record seen { volume = volume; entries = with_entry seen session task.number (Plain told) } → new ≡ stepped old volume session bytes task reply
  stepped_entered new entered reply told enters is_told new_is is = new_is ∙ is
      ∙ ap (λ (weave : InterleaveView). record weave { volume = volume; entries = with_entry weave session task.number (Plain told) }) same
      ∙ ap (with_entries true) is_told
      ∙ subst (λ (test : Bool). with_entries true reply ≡ with_entries test reply) (sym enters) refl

  pub stepped_same : (new : InterleaveView) (reply : Reply) → enters_now (fences_of_task old.volume bytes task) task.behind ≡ false → new ≡ record seen { volume = volume }
      → new ≡ stepped old volume session bytes task reply
  stepped_same new reply enters is = is
      ∙ ap (λ (weave : InterleaveView). record weave { volume = volume }) same
      ∙ subst (λ (test : Bool). with_entries false reply ≡ with_entries test reply) (sym enters) refl

-- ---- the step

-- it was made, and told so; and this is left of the call
pub record IsMade (E : Type 0) (old new : VolumeView) (before after : DeviceView) (bytes : List ℕ) (running : Running) (told : Option Reply) (left : Running) : Type 0 where
  pub takes : Takes {E = E} (step_of old bytes running) before after (Ok told)
  pub next : IsNext running (next_by told left)
  pub volume : Advances {T = Option Reply} {E = E} (step_of old bytes running).events (EntersAt running) old new (Ok told)
  pub stage : StandsNext new after bytes (next_by told left)

made : (E : Type 0) (old new : VolumeView) (before after : DeviceView) (bytes : List ℕ) (running : Running) (told : Option Reply) (left : Running)
    → IsMade E old new before after bytes running told left → MadeStep old new before after bytes running (next_by told left)
made E old new before after bytes running told left is = record { takes = done tt is.takes; next_is = is.next; enters = is.volume.made; stands = is.stage }

module _ (E : Type 0) (old seen new : InterleaveView) (same : seen ≡ old) (volume : VolumeView) (before fenced : DeviceView) (session : ℕ) (task : Task) (bytes : List ℕ) where
  pub step_goes_on : (left : Running) → IsMade E seen.volume volume before fenced bytes task.running None left
      → new ≡ record (stepped old volume session bytes task Done) { tasks = set old.tasks session (Some (record task { running = left })) }
      → HasAdvanced old new before fenced session task bytes (RunsOn task.number)
  step_goes_on left is_made is =
      let here = subst (λ (weave : InterleaveView). IsMade E weave.volume volume before fenced bytes task.running None left) same is_made in
      subst (λ (new : InterleaveView). HasAdvanced old new before fenced session task bytes (RunsOn task.number)) (sym is)
      (goes_on left (made E old.volume volume before fenced bytes task.running None left here) refl refl)

  pub step_ends : (after : DeviceView) (told : Reply) (left : Running) (reply : StepReply) → IsMade E seen.volume volume before fenced bytes task.running (Some told) left
      → Acknowledges fenced after → new ≡ stepped old volume session bytes task told → reply ≡ Ended task.number (Plain told)
      → HasAdvanced old new before after session task bytes reply
  step_ends after told left reply is_made acked is is_told =
      let here = subst (λ (weave : InterleaveView). IsMade E weave.volume volume before fenced bytes task.running (Some told) left) same is_made in
      subst (λ (new : InterleaveView). HasAdvanced old new before after session task bytes reply) (sym is)
      (ends told fenced (made E old.volume volume before fenced bytes task.running (Some told) left here) acked refl is_told)

  pub step_fails : (fault : E) (reply : StepReply) → Takes {T = Option Reply} (step_of seen.volume bytes task.running) before fenced (Err fault)
      → volume ≡ record seen.volume { stopped = true } → new ≡ record seen { volume = volume } → reply ≡ Ended task.number (Plain Fault)
      → HasAdvanced old new before fenced session task bytes reply
  step_fails fault reply takes stopped is is_told =
      let here = failed_as {T = Option Reply} {U = Unit {0}} {F = Unit {0}} (Err tt) refl takes in
      subst (λ (new : InterleaveView). HasAdvanced old new before fenced session task bytes reply) (sym is)
      (subst (λ (weave : InterleaveView). HasAdvanced weave (record seen { volume = volume }) before fenced session task bytes reply) same
      (fails (record { takes = here; stopped = stopped }) refl is_told))
