-- The next step of a call that waits is the first of those that it has left, and has a store: so it makes a fence, and its events are kept.
use Rattle.std.proofs.Common.{◌≡◌, ℕ, ◌+◌, ◌<◌, ◌≤◌, Bool, true, false, if◌then◌else◌, List, [], ◌∷◌, length, refl, sym, ap, subst, arith}
use Rattle.std.proofs.lemmas.Bool.{lt-ltb}
use Rattle.pm_trait.specs.DeviceView.{DeviceView}
use Rattle.pm_trait.specs.Unfolds.{Step, events_in, fences_in}
use Rattle.fence_token.specs.declared.states.Clean.{Clean}
use Rattle.tree_model.specs.Run.{State}
use Rattle.tree_model.specs.declared.command.Command.{Command}
use Rattle.tree_model.specs.declared.reply.Reply.TheVariants.{Done}
use Rattle.image_reading.specs.Residue.{Residue}
use Rattle.volatile_index.specs.Index.{pages_of}
use Rattle.volume.specs.Costs.{pages_of_loss}
use Rattle.volume.specs.Volume.{VolumeView}
use Rattle.volume.specs.declared.plan.Moving.{Moving}
use Rattle.volume.specs.declared.plan.NewEntry.{NewEntry}
use Rattle.volume.specs.declared.plan.NewName.{NewName}
use Rattle.volume.specs.declared.plan.Removal.{Removal}
use Rattle.entry_steps.specs.declared.place.NamePlace.{NamePlace}
use Rattle.entry_steps.specs.declared.place.NamePlace.TheVariants.{Slot, Page}
use Rattle.entry_steps.specs.Steps.{naming, owning}
use Rattle.entry_steps.specs.Waiting.{left_of_place, step_of_place}
use Rattle.create_ops.specs.declared.run.Stage.{Stage as EntryStage}
use Rattle.create_ops.specs.declared.run.Stage.TheVariants.{Begun as EntryBegun, Written as EntryWritten, Claimed as EntryClaimed}
use Rattle.unlink_ops.specs.declared.link.Stage.{Stage as LinkStage}
use Rattle.unlink_ops.specs.declared.link.Stage.TheVariants.{Begun as LinkBegun, Written as LinkWritten, Claimed as LinkClaimed}
use Rattle.unlink_ops.specs.RemovalStages as removals
use Rattle.unlink_ops.specs.declared.removal.Stage.{Stage as RemovalStage}
use Rattle.unlink_ops.specs.declared.removal.Stage.TheVariants.{Begun as NameThere, Unnamed, Cleared as SlotCleared, Disowned as PagesDisowned}
use Rattle.unlink_ops.proofs.Passing.{some_store}
use Rattle.rename_ptr.specs.Stages as moves
use Rattle.rename_ptr.specs.declared.rename.Progress.{Progress as MoveProgress}
use Rattle.rename_ptr.proofs.Ahead as ahead
use Rattle.data_ops.specs.Cutting.{growth_to, gone_pages as pages_cut}
use Rattle.data_ops.specs.Steps.{sizing, giving as giving_cut, freeing as freeing_cut, owning as owning_file}
use Rattle.data_ops.specs.ResizeStages as resizes
use Rattle.data_ops.specs.Writing.{growth_of}
use Rattle.data_ops.specs.WriteStages as writes
use Rattle.data_ops.specs.declared.grow.Progress.TheVariants.{Begun, Filled, Owned}
use Rattle.data_ops.specs.declared.truncate.CutProgress.TheVariants.{Begun as CutBegun, Lowered, Trimmed}
use Rattle.data_ops.specs.declared.truncate.Stage.{Stage as ResizeStage}
use Rattle.data_ops.specs.declared.truncate.Stage.TheVariants.{Nothing as SizeKept, Growing as GrowsBySize, Cutting}
use Rattle.data_ops.specs.declared.write.Stage.{Stage as WriteStage}
use Rattle.data_ops.specs.declared.write.Stage.TheVariants.{Nothing as NothingWritten, Inside, Growing as GrowsByWrite}
use Rattle.running_calls.specs.declared.running.Running.{Running}
use Rattle.running_calls.specs.declared.running.Running.TheVariants.{Makes, Links, Removes, Moves, Writes, Resizes}
use Rattle.running_calls.specs.Stages.{StandsStage, left_of, step_of}
use Rattle.waiting_laws.proofs.CostsResizing.{resizing_costs}
use Rattle.waiting_laws.proofs.CostsSteps.{costs_first}
use Rattle.running_laws.specs.Waits.{Waits}

-- It has a store, and its events and its fence are among those of the steps that are left.
pub record IsFirst (left : List Step) (step : Step) : Type 0 where
  pub stores : step.stores ≡ true
  pub fits : step.events ≤ events_in left
  pub some : 0 < fences_in left

pub is_first : (step : Step) (later : List Step) → step.stores ≡ true → IsFirst (step ∷ later) step
is_first step later stores =
    let costs = costs_first step later stores in
    let events = costs.events in
    let fences = costs.fences in
    record { stores = stores; fits = omega (arith, events); some = omega (arith, fences) }

-- one that costs a fence has a store
stores_by : (step : Step) (later : List Step) → fences_in (step ∷ later) ≡ 1 + fences_in later → step.stores ≡ true
stores_by step later costs = by_test step.stores refl
  where
    by_test : (b : Bool) → step.stores ≡ b → step.stores ≡ true
    by_test true is = is
    by_test false is =
        let none : fences_in (step ∷ later) ≡ 0 + fences_in later = ap (λ (t : Bool). (if t then 1 else 0) + fences_in later) is in
        absurd (omega (arith, costs, none))

-- ---- beside others

module _ (volume : VolumeView) (device : DeviceView) (bytes : List ℕ) (state : State) (command : Command) (others : Residue) where
  first_at_place : (P d s i : ℕ) (place : NamePlace Clean) → IsFirst (left_of_place P d s i place) (step_of_place P d s i place)
  first_at_place P d s i (Slot slot) = is_first (naming P s i) [] refl
  first_at_place P d s i (Page page) = is_first (owning P page d) (naming P s i ∷ []) refl

  first_of_entry : (entry : NewEntry) (stage : EntryStage) → Waits volume device state command (Makes (record { entry = entry; stage = stage })) others
      → IsFirst (left_of volume bytes (Makes (record { entry = entry; stage = stage }))) (step_of volume bytes (Makes (record { entry = entry; stage = stage })))
  first_of_entry entry EntryBegun waits = absurd waits.2.name
  first_of_entry entry (EntryWritten node) waits = first_at_place volume.size entry.directory entry.slot entry.inode node.place
  first_of_entry entry (EntryClaimed node) waits = is_first (naming volume.size entry.slot entry.inode) [] refl

  first_of_link : (link : NewName) (stage : LinkStage) → Waits volume device state command (Links (record { link = link; stage = stage })) others
      → IsFirst (left_of volume bytes (Links (record { link = link; stage = stage }))) (step_of volume bytes (Links (record { link = link; stage = stage })))
  first_of_link link LinkBegun waits = absurd waits.3.name
  first_of_link link (LinkWritten file) waits = first_at_place volume.size link.directory link.slot link.inode file.place
  first_of_link link (LinkClaimed file) waits = is_first (naming volume.size link.slot link.inode) [] refl

  first_of_removal : (removal : Removal) (stage : RemovalStage) → removals.StandsStage volume device (record { removal = removal; stage = stage })
      → IsFirst (removals.left_of volume (record { removal = removal; stage = stage })) (removals.step_of volume (record { removal = removal; stage = stage }))
  first_of_removal removal stage stands = by_stage stage (some_store volume device removal stage stands)
    where
      pages : List ℕ
      pages = removals.pages_gone volume removal

      by_stage : (at : RemovalStage) → (removals.step_at volume.size removal pages at).stores ≡ true
          → IsFirst (removals.left_at volume.size removal pages at) (removals.step_at volume.size removal pages at)
      by_stage NameThere stores = is_first (removals.step_at volume.size removal pages NameThere) (removals.left_at volume.size removal pages Unnamed) stores
      by_stage Unnamed stores = is_first (removals.step_at volume.size removal pages Unnamed) (removals.left_at volume.size removal pages SlotCleared) stores
      by_stage SlotCleared stores = is_first (removals.step_at volume.size removal pages SlotCleared) (removals.left_at volume.size removal pages PagesDisowned) stores
      by_stage PagesDisowned stores = is_first (removals.step_at volume.size removal pages PagesDisowned) [] stores

  first_of_write : (stage : WriteStage) → Waits volume device state command (Writes stage) others → writes.StandsStage volume device bytes stage
      → IsFirst (writes.left_of volume.size bytes stage) (writes.step_of volume.size bytes stage)
  first_of_write NothingWritten waits stands = absurd waits
  first_of_write (Inside writing) waits stands = absurd waits
  first_of_write (GrowsByWrite writing Begun) waits stands = absurd waits.6.new_pages
  first_of_write (GrowsByWrite writing Filled) waits stands =
      let growth = growth_of writing in
      is_first (owning_file volume.size growth.inode writing.new_pages) (sizing growth.inode growth.new_size ∷ []) (lt-ltb 0 (length writing.new_pages) stands.at.1.some)
  first_of_write (GrowsByWrite writing Owned) waits stands = let growth = growth_of writing in is_first (sizing growth.inode growth.new_size) [] refl

  first_of_resize : (stage : ResizeStage) → Waits volume device state command (Resizes stage) others → resizes.StandsStage volume device stage
      → IsFirst (resizes.left_of volume stage) (resizes.step_of volume stage)
  first_of_resize SizeKept waits stands = absurd waits
  first_of_resize (GrowsBySize resizing Begun) waits stands = absurd waits.4.new_pages
  first_of_resize (GrowsBySize resizing Filled) waits stands =
      let growth = growth_to resizing in
      is_first (owning_file volume.size growth.inode resizing.new_pages) (sizing growth.inode growth.new_size ∷ []) (lt-ltb 0 (length resizing.new_pages) stands.at.1.some)
  first_of_resize (GrowsBySize resizing Owned) waits stands = let growth = growth_to resizing in is_first (sizing growth.inode growth.new_size) [] refl
  first_of_resize (Cutting resizing CutBegun) waits stands = absurd waits.2.cut
  first_of_resize (Cutting resizing Lowered) waits stands =
      let pages = pages_cut resizing (pages_of volume.index resizing.inode) in
      let rest = freeing_cut volume.size pages ∷ [] in
      let step = giving_cut volume.size pages in
      is_first step rest (stores_by step rest (resizing_costs.goes_on volume device (Cutting resizing Lowered) (Cutting resizing Trimmed) stands refl).fences)
  first_of_resize (Cutting resizing Trimmed) waits stands =
      let pages = pages_cut resizing (pages_of volume.index resizing.inode) in
      let step = freeing_cut volume.size pages in
      is_first step [] (stores_by step [] (resizing_costs.ends volume device (Cutting resizing Trimmed) Done stands refl (λ none. (cc))).fences)

  pub first_of : (running : Running) → Waits volume device state command running others → StandsStage volume device bytes running
      → IsFirst (left_of volume bytes running) (step_of volume bytes running)
  first_of (Makes running) waits stands = first_of_entry running.entry running.stage waits
  first_of (Links running) waits stands = first_of_link running.link running.stage waits
  first_of (Removes running) waits stands = first_of_removal running.removal running.stage stands
  first_of (Moves running) waits stands = absurd waits
  first_of (Writes running) waits stands = first_of_write running waits stands
  first_of (Resizes running) waits stands = first_of_resize running waits stands

-- ---- alone

pub first_of_move : (P : ℕ) (moving : Moving) (pages : List ℕ) (progress : MoveProgress) → length pages ≡ pages_of_loss moving.replaced → moves.HasStore moving progress
    → IsFirst (moves.left_at P moving pages progress) (moves.step_at P moving pages progress)
first_of_move P moving pages progress count store =
    let step = moves.step_at P moving pages progress in
    subst (λ (left : List Step). IsFirst left step) (sym (ahead.left_is P moving pages progress store))
    (is_first step (ahead.later P moving pages progress) (ahead.stores P moving pages count progress store))
