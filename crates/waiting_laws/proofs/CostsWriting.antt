-- What is left of a write costs its next step and what is left behind that.
use Rattle.std.proofs.Common.{◌≡◌, ℕ, ◌+◌, Bool, true, false, List, [], ◌∷◌, Option, Some, None, length, refl, ap, subst, ◌∙◌, arith}
use Rattle.std.specs.Prelude.{nat_le, if◌then◌else◌}
use Rattle.pm_trait.specs.DeviceView.{DeviceView}
use Rattle.pm_trait.specs.Unfolds.{Step, events_in, fences_in}
use Rattle.tree_model.specs.declared.reply.Reply.{Reply}
use Rattle.tree_model.specs.declared.reply.Reply.TheVariants.{Count}
use Rattle.volume.specs.Volume.{VolumeView}
use Rattle.volume.specs.Costs.{span_events, fence_events, growth_events, fences_for_growth}
use Rattle.volume.specs.declared.next.Next.{Next}
use Rattle.volume.specs.declared.next.Next.TheVariants.{More, Ended}
use Rattle.volume.specs.declared.plan.Action.TheVariants.{Write as WriteBytes}
use Rattle.volume.specs.declared.plan.Writing.{Writing}
use Rattle.data_ops.specs.GrowthStages.{left_of_growth, step_of_growth, next_of_growth}
use Rattle.data_ops.specs.Steps.{sizing}
use Rattle.data_ops.specs.Writing.{growth_of, overwriting}
use Rattle.data_ops.specs.WriteStages.{StandsStage, begun, left_of, step_of, next_of, next_growing}
use Rattle.data_ops.specs.declared.grow.Progress.{Progress}
use Rattle.data_ops.specs.declared.grow.Progress.TheVariants.{Begun, Filled, Owned}
use Rattle.data_ops.specs.declared.write.Stage.{Stage}
use Rattle.data_ops.specs.declared.write.Stage.TheVariants.{Nothing, Inside, Growing}
use Rattle.waiting_laws.specs.Costs.{Costs, CostsPlan}
use Rattle.waiting_laws.proofs.CostsSteps.{alike_same, costs_first, costs_behind}
use Rattle.waiting_laws.proofs.CostsGrowth.{growth_all, growth_fences, growth_left, growth_costs}

module _ (volume : VolumeView) (device : DeviceView) (bytes : List ℕ) (writing : Writing) where
  abbrev P : ℕ
  P = volume.size

  abbrev inside : ℕ
  inside = span_events writing.offset (writing.offset + writing.count) + fence_events

  abbrev past : ℕ
  past = growth_events writing.old_size writing.offset (length writing.new_pages)

  -- all of it, by the way that it takes
  events_by : (t : Bool) → StandsStage volume device bytes (if t then Inside writing else Growing writing Begun) → (if t then inside else past) ≡ events_in (left_of P bytes (if t then Inside writing else Growing writing Begun))
  events_by true stands = let count = stands.at.0.count in ap (λ (n : ℕ). span_events writing.offset (writing.offset + n) + fence_events) count ∙ (omega arith)
  events_by false stands = growth_all P (growth_of writing) bytes writing.new_pages

  fences_by : (t : Bool) → (if t then 1 else fences_for_growth writing.new_pages) ≡ fences_in (left_of P bytes (if t then Inside writing else Growing writing Begun))
  fences_by true = refl
  fences_by false = growth_fences P (growth_of writing) bytes writing.new_pages

  pub writing_plan : StandsStage volume device bytes (begun (WriteBytes writing)) → CostsPlan (WriteBytes writing) (left_of volume.size bytes (begun (WriteBytes writing)))
  writing_plan stands = record {
    events = events_by (nat_le (writing.offset + writing.count) writing.old_size) stands;
    fences = fences_by (nat_le (writing.offset + writing.count) writing.old_size);
  }

-- what is left behind a step
abbrev left_behind : ℕ → List ℕ → Next Stage → List Step
left_behind P bytes (More running) = left_of P bytes running
left_behind P bytes (Ended reply) = []

grown : (P : ℕ) (bytes : List ℕ) (writing : Writing) (next : Option Progress) → growth_left P (growth_of writing) bytes writing.new_pages next ≡ left_behind P bytes (next_growing writing next)
grown P bytes writing (Some progress) = refl
grown P bytes writing None = refl

running_costs : (volume : VolumeView) (device : DeviceView) (bytes : List ℕ) (running : Stage) → StandsStage volume device bytes running → (running ≡ Nothing → ⊥)
    → Costs (left_of volume.size bytes running) (step_of volume.size bytes running) (left_behind volume.size bytes (next_of running))
running_costs volume device bytes Nothing stands some = absurd (some refl)
running_costs volume device bytes (Inside writing) stands some = costs_first (overwriting volume.size writing.inode writing.offset bytes) [] refl
running_costs volume device bytes (Growing writing progress) stands some =
    let rest = growth_left volume.size (growth_of writing) bytes writing.new_pages (next_of_growth progress writing.new_pages) in
    costs_behind (left_of volume.size bytes (Growing writing progress)) (step_of volume.size bytes (Growing writing progress)) rest (left_behind volume.size bytes (next_of (Growing writing progress)))
    (growth_costs volume.size (growth_of writing) bytes device _ writing.new_pages progress stands.at.1)
    (alike_same rest (left_behind volume.size bytes (next_of (Growing writing progress))) (grown volume.size bytes writing (next_of_growth progress writing.new_pages)))

-- What is left of a write that stands costs its next step: a growth whose pages are filled has pages then.
pub writing_goes_on : (volume : VolumeView) (device : DeviceView) (bytes : List ℕ) (running next : Stage) → StandsStage volume device bytes running → next_of running ≡ More next
    → Costs (left_of volume.size bytes running) (step_of volume.size bytes running) (left_of volume.size bytes next)
writing_goes_on volume device bytes running next stands is = subst (λ (n : Next Stage). Costs (left_of volume.size bytes running) (step_of volume.size bytes running) (left_behind volume.size bytes n)) is
    (running_costs volume device bytes running stands (some running is))
  where
    some : (stage : Stage) → next_of stage ≡ More next → stage ≡ Nothing → ⊥
    some stage on none = let clash : ◌≡◌ {A = Next Stage} (Ended (Count 0)) (More next) = subst (λ (s : Stage). next_of s ≡ More next) none on in absurd cc

-- a growth ends behind its last step alone
growing_ends : (P : ℕ) (bytes : List ℕ) (writing : Writing) (progress : Progress) (pages : List ℕ) (reply : Reply) → next_growing writing (next_of_growth progress pages) ≡ Ended reply
    → Costs (left_of_growth P (growth_of writing) bytes pages progress) (step_of_growth P (growth_of writing) bytes pages progress) []
growing_ends P bytes writing Begun [] reply is = absurd (let clash : ◌≡◌ {A = Next Stage} (More (Growing writing Owned)) (Ended reply) = is in cc)
growing_ends P bytes writing Begun (page ∷ pages) reply is = absurd (let clash : ◌≡◌ {A = Next Stage} (More (Growing writing Filled)) (Ended reply) = is in cc)
growing_ends P bytes writing Filled pages reply is = absurd (let clash : ◌≡◌ {A = Next Stage} (More (Growing writing Owned)) (Ended reply) = is in cc)
growing_ends P bytes writing Owned pages reply is = costs_first (sizing writing.inode (writing.offset + writing.count)) [] refl

pub writing_ends : (P : ℕ) (bytes : List ℕ) (running : Stage) (reply : Reply) → next_of running ≡ Ended reply → (running ≡ Nothing → ⊥) → Costs (left_of P bytes running) (step_of P bytes running) []
writing_ends P bytes Nothing reply is some = absurd (some refl)
writing_ends P bytes (Inside writing) reply is some = costs_first (overwriting P writing.inode writing.offset bytes) [] refl
writing_ends P bytes (Growing writing progress) reply is some = growing_ends P bytes writing progress writing.new_pages reply is
