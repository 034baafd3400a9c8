-- What is left of a file's new size costs its next step and what is left behind that.
use Rattle.std.proofs.Common.{◌≡◌, ℕ, ◌+◌, ◌*◌, ◌≤◌, Bool, true, false, List, [], Option, Some, None, length, refl, sym, ap, subst, ◌∙◌, arith}
use Rattle.std.specs.Prelude.{nat_lt, if◌then◌else◌}
use Rattle.std.proofs.Math.Bool.{or-false}
use Rattle.std.proofs.lemmas.Bool.{lt-ltb}
use Rattle.pm_trait.specs.DeviceView.{DeviceView}
use Rattle.pm_trait.specs.Unfolds.{Step, events_in, fences_in}
use Rattle.tree_model.specs.declared.reply.Reply.{Reply}
use Rattle.tree_model.specs.declared.reply.Reply.TheVariants.{Done}
use Rattle.volatile_index.specs.Index.{pages_of}
use Rattle.volume.specs.Volume.{VolumeView}
use Rattle.volume.specs.Costs.{where_true, inode_events, descriptor_rest_events, fence_events, commit_events, loss_events, growth_events, fences_for_loss, fences_for_growth}
use Rattle.volume.specs.declared.next.Next.{Next}
use Rattle.volume.specs.declared.next.Next.TheVariants.{More, Ended}
use Rattle.volume.specs.declared.plan.Action.TheVariants.{Resize}
use Rattle.volume.specs.declared.plan.Resizing.{Resizing}
use Rattle.data_ops.specs.Growing.{owner_events, release_events}
use Rattle.data_ops.specs.Steps.{sizing, giving, freeing}
use Rattle.data_ops.specs.Cutting.{gone_pages, growth_to, cut_steps}
use Rattle.data_ops.specs.GrowthStages.{next_of_growth}
use Rattle.data_ops.specs.ResizeStages.{IsCutAt, StandsStage, begun, left_of, left_of_cut, step_of, step_of_cut, next_of, next_growing, next_cutting}
use Rattle.data_ops.specs.declared.grow.Progress.{Progress}
use Rattle.data_ops.specs.declared.grow.Progress.TheVariants.{Begun as GrowthBegun}
use Rattle.data_ops.specs.declared.truncate.CutProgress.{CutProgress}
use Rattle.data_ops.specs.declared.truncate.CutProgress.TheVariants.{Begun, Lowered, Trimmed}
use Rattle.data_ops.specs.declared.truncate.Stage.{Stage}
use Rattle.data_ops.specs.declared.truncate.Stage.TheVariants.{Nothing, Growing, Cutting}
use Rattle.waiting_laws.specs.Costs.{Costs, CostsPlan, ResizingCosts}
use Rattle.waiting_laws.proofs.CostsGrowth.{growth_all, growth_fences, growth_left, growth_costs}
use Rattle.waiting_laws.proofs.CostsSteps.{CostsAlike, alike_same, alike_through, falls, costs_first, costs_behind}
use Rattle.waiting_laws.proofs.FileLists.{gone_long}

rest_is : (pages : ℕ) → pages * descriptor_rest_events + where_true false inode_events + fence_events ≡ release_events pages
rest_is pages = omega arith

by_parts : (first a b : ℕ) → first + (a + b) ≡ first + (a + (b + 0))
by_parts first a b = omega arith

-- ---- a cut

module _ (P : ℕ) (resizing : Resizing) (pages : List ℕ) (enough : resizing.cut ≤ length pages) where
  abbrev gone : List ℕ
  gone = gone_pages resizing pages

  long : length gone ≡ resizing.cut
  long = gone_long resizing pages enough

  -- all of it
  cut_events : commit_events + loss_events resizing.cut false ≡ events_in (cut_steps P resizing pages)
  cut_events =
      ap (λ (b : Bool). commit_events + (where_true (nat_lt 0 resizing.cut) (owner_events resizing.cut) + where_true b (resizing.cut * descriptor_rest_events + where_true false inode_events + fence_events))) (or-false (nat_lt 0 resizing.cut))
      ∙ ap (λ (n : ℕ). commit_events + (where_true (nat_lt 0 resizing.cut) (owner_events resizing.cut) + where_true (nat_lt 0 resizing.cut) n)) (rest_is resizing.cut)
      ∙ ap (λ (n : ℕ). commit_events + (where_true (nat_lt 0 n) (owner_events n) + where_true (nat_lt 0 n) (release_events n))) (sym long)
      ∙ by_parts commit_events _ _

  cut_fences : 1 + fences_for_loss resizing.cut false ≡ fences_in (cut_steps P resizing pages)
  cut_fences =
      ap (λ (b : Bool). 1 + (where_true (nat_lt 0 resizing.cut) 1 + where_true b 1)) (or-false (nat_lt 0 resizing.cut))
      ∙ ap (λ (n : ℕ). 1 + (where_true (nat_lt 0 n) 1 + where_true (nat_lt 0 n) 1)) (sym long)
      ∙ by_parts 1 _ _

  -- what is left at the next stage
  abbrev cut_left : Next Stage → List Step
  cut_left (More Nothing) = []
  cut_left (More (Growing other progress)) = []
  cut_left (More (Cutting other progress)) = left_of_cut P resizing pages progress
  cut_left (Ended reply) = []

  -- pages lose their owner and are freed where there are any
  lowered : (some : Bool) → nat_lt 0 resizing.cut ≡ some → CostsAlike (left_of_cut P resizing pages Lowered) (cut_left (if some then More (Cutting resizing Lowered) else Ended Done))
  lowered true is = alike_same (left_of_cut P resizing pages Lowered) (left_of_cut P resizing pages Lowered) refl
  lowered false none =
      let not = ap (nat_lt 0) long ∙ none in
      alike_through (left_of_cut P resizing pages Lowered) (left_of_cut P resizing pages Trimmed) [] (falls (giving P gone) (left_of_cut P resizing pages Trimmed) not) (falls (freeing P gone) [] not)

  -- each stage
  cut_costs : (I : List ℕ) (progress : CutProgress) → IsCutAt P I resizing pages progress → Costs (left_of_cut P resizing pages progress) (step_of_cut P resizing pages progress) (cut_left (next_cutting resizing progress))
  cut_costs I Begun at =
      costs_behind (cut_steps P resizing pages) (sizing resizing.inode resizing.new_size) (left_of_cut P resizing pages Lowered) (cut_left (next_cutting resizing Begun))
      (costs_first (sizing resizing.inode resizing.new_size) (left_of_cut P resizing pages Lowered) refl) (lowered (nat_lt 0 resizing.cut) refl)
  cut_costs I Lowered at = costs_first (giving P gone) (left_of_cut P resizing pages Trimmed) (ap (nat_lt 0) long ∙ lt-ltb 0 resizing.cut at.0)
  cut_costs I Trimmed at = costs_first (freeing P gone) [] (ap (nat_lt 0) long ∙ lt-ltb 0 resizing.cut at.0)

-- ---- all of it

module _ (volume : VolumeView) (device : DeviceView) (resizing : Resizing) where
  abbrev P : ℕ
  P = volume.size

  abbrev more : ℕ
  more = growth_events resizing.old_size resizing.old_size (length resizing.new_pages)

  events_by : (t : Bool) → StandsStage volume device (if t then Growing resizing GrowthBegun else Cutting resizing Begun)
      → (if t then more else (commit_events + loss_events resizing.cut false)) ≡ events_in (left_of volume (if t then Growing resizing GrowthBegun else Cutting resizing Begun))
  events_by true stands = growth_all P (growth_to resizing) [] resizing.new_pages
  events_by false stands = cut_events P resizing (pages_of volume.index resizing.inode) stands.at.2.enough

  fences_by : (t : Bool) → StandsStage volume device (if t then Growing resizing GrowthBegun else Cutting resizing Begun)
      → (if t then fences_for_growth resizing.new_pages else (1 + fences_for_loss resizing.cut false)) ≡ fences_in (left_of volume (if t then Growing resizing GrowthBegun else Cutting resizing Begun))
  fences_by true stands = growth_fences P (growth_to resizing) [] resizing.new_pages
  fences_by false stands = cut_fences P resizing (pages_of volume.index resizing.inode) stands.at.2.enough

  plan_costs : StandsStage volume device (begun (Resize resizing)) → CostsPlan (Resize resizing) (left_of volume (begun (Resize resizing)))
  plan_costs stands = record {
    events = events_by (nat_lt resizing.old_size resizing.new_size) stands;
    fences = fences_by (nat_lt resizing.old_size resizing.new_size) stands;
  }

-- ---- a step

abbrev left_behind : VolumeView → Next Stage → List Step
left_behind volume (More running) = left_of volume running
left_behind volume (Ended reply) = []

grown : (volume : VolumeView) (resizing : Resizing) (next : Option Progress) → growth_left volume.size (growth_to resizing) [] resizing.new_pages next ≡ left_behind volume (next_growing resizing next)
grown volume resizing (Some progress) = refl
grown volume resizing None = refl

lowered_is : (volume : VolumeView) (resizing : Resizing) (enough : resizing.cut ≤ length (pages_of volume.index resizing.inode)) (some : Bool)
    → cut_left volume.size resizing (pages_of volume.index resizing.inode) enough (if some then More (Cutting resizing Lowered) else Ended Done) ≡ left_behind volume (if some then More (Cutting resizing Lowered) else Ended Done)
lowered_is volume resizing enough true = refl
lowered_is volume resizing enough false = refl

cut_is : (volume : VolumeView) (resizing : Resizing) (enough : resizing.cut ≤ length (pages_of volume.index resizing.inode)) (progress : CutProgress)
    → cut_left volume.size resizing (pages_of volume.index resizing.inode) enough (next_cutting resizing progress) ≡ left_behind volume (next_cutting resizing progress)
cut_is volume resizing enough Begun = lowered_is volume resizing enough (nat_lt 0 resizing.cut)
cut_is volume resizing enough Lowered = refl
cut_is volume resizing enough Trimmed = refl

running_costs : (volume : VolumeView) (device : DeviceView) (running : Stage) → StandsStage volume device running → (running ≡ Nothing → ⊥) → Costs (left_of volume running) (step_of volume running) (left_behind volume (next_of running))
running_costs volume device Nothing stands some = absurd (some refl)
running_costs volume device (Growing resizing progress) stands some =
    let rest = growth_left volume.size (growth_to resizing) [] resizing.new_pages (next_of_growth progress resizing.new_pages) in
    costs_behind (left_of volume (Growing resizing progress)) (step_of volume (Growing resizing progress)) rest (left_behind volume (next_of (Growing resizing progress)))
    (growth_costs volume.size (growth_to resizing) [] device (pages_of volume.index resizing.inode) resizing.new_pages progress stands.at.1)
    (alike_same rest (left_behind volume (next_of (Growing resizing progress))) (grown volume resizing (next_of_growth progress resizing.new_pages)))
running_costs volume device (Cutting resizing progress) stands some =
    let pages = pages_of volume.index resizing.inode in
    let rest = cut_left volume.size resizing pages stands.at.2.enough (next_cutting resizing progress) in
    costs_behind (left_of volume (Cutting resizing progress)) (step_of volume (Cutting resizing progress)) rest (left_behind volume (next_of (Cutting resizing progress)))
    (cut_costs volume.size resizing pages stands.at.2.enough device.words progress stands.at.1)
    (alike_same rest (left_behind volume (next_of (Cutting resizing progress))) (cut_is volume resizing stands.at.2.enough progress))

goes_on : (volume : VolumeView) (device : DeviceView) (running next : Stage) → StandsStage volume device running → next_of running ≡ More next → Costs (left_of volume running) (step_of volume running) (left_of volume next)
goes_on volume device running next stands is = subst (λ (n : Next Stage). Costs (left_of volume running) (step_of volume running) (left_behind volume n)) is (running_costs volume device running stands (some running is))
  where
    some : (stage : Stage) → next_of stage ≡ More next → stage ≡ Nothing → ⊥
    some stage on none = let clash : ◌≡◌ {A = Next Stage} (Ended Done) (More next) = subst (λ (s : Stage). next_of s ≡ More next) none on in absurd cc

ends : (volume : VolumeView) (device : DeviceView) (running : Stage) (reply : Reply) → StandsStage volume device running → next_of running ≡ Ended reply → (running ≡ Nothing → ⊥) → Costs (left_of volume running) (step_of volume running) []
ends volume device running reply stands is some = subst (λ (n : Next Stage). Costs (left_of volume running) (step_of volume running) (left_behind volume n)) is (running_costs volume device running stands some)

pub resizing_costs : ResizingCosts
resizing_costs = record { plan = plan_costs; goes_on = goes_on; ends = ends }
