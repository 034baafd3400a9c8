-- Behind its first step a write or a truncation waits, where it grows or gives pages back, and else has ended.
use Rattle.std.proofs.Common.{◌≡◌, ℕ, ◌+◌, ◌-◌, ◌<◌, ◌≤◌, Bool, true, false, nat_le, nat_lt, List, [], ◌∷◌, length, Option, Some, refl, sym, ap, subst, ◌∙◌, arith}
use Rattle.std.specs.Prelude.{if◌then◌else◌}
use Rattle.std.proofs.lemmas.Bool.Decides.{nat_tests}
use Rattle.std.proofs.lemmas.List.{nil_from_length}
use Rattle.pm_trait.specs.DeviceView.{DeviceView}
use Rattle.layout.specs.Fields.{inode_size}
use Rattle.tree_model.specs.PathText.{Route}
use Rattle.tree_model.specs.Tree.{Tree, bytes_of, id_at}
use Rattle.tree_model.specs.Step.{with_bytes, overwritten, resized}
use Rattle.tree_model.specs.Run.{State}
use Rattle.tree_model.specs.declared.command.Command.TheVariants.{Write, Truncate}
use Rattle.tree_model.specs.declared.reply.Reply.TheVariants.{Done}
use Rattle.image_reading.specs.Reading.{pages_of_size}
use Rattle.image_reading.specs.Residue.{Residue, no_residue}
use Rattle.volume.specs.Volume.{VolumeView}
use Rattle.volume.specs.declared.next.Next.{Next}
use Rattle.volume.specs.declared.next.Next.TheVariants.{More, Ended}
use Rattle.volume.specs.declared.plan.Action.TheVariants.{Write as WriteBytes, Resize}
use Rattle.volume.specs.declared.plan.Resizing.{Resizing}
use Rattle.volume.specs.declared.plan.Writing.{Writing}
use Rattle.data_ops.specs.declared.grow.Progress.{Progress}
use Rattle.data_ops.specs.declared.grow.Progress.TheVariants.{Begun, Filled, Owned}
use Rattle.data_ops.specs.declared.truncate.CutProgress.TheVariants.{Begun as CutBegun, Lowered}
use Rattle.data_ops.specs.declared.truncate.Stage.{Stage as ResizeStage}
use Rattle.data_ops.specs.declared.truncate.Stage.TheVariants.{Growing as GrowsBySize, Cutting}
use Rattle.data_ops.specs.declared.write.Stage.{Stage as WriteStage}
use Rattle.data_ops.specs.declared.write.Stage.TheVariants.{Inside, Growing as GrowsByWrite}
use Rattle.data_ops.specs.Cutting.{growth_to}
use Rattle.data_ops.specs.GrowthStages.{next_of_growth}
use Rattle.data_ops.specs.ResizeStages as resizes
use Rattle.data_ops.specs.WriteStages as writes
use Rattle.data_ops.specs.Writing.{growth_of}
use Rattle.running_calls.specs.Stages.{StandsNext, as_call}
use Rattle.running_calls.specs.declared.running.Running.{Running}
use Rattle.running_calls.specs.declared.running.Running.TheVariants.{Writes, Resizes}
use Rattle.waiting_laws.specs.Beside.{IsReady, Leaves}
use Rattle.waiting_laws.specs.Cutting.{left_by}
use Rattle.waiting_laws.specs.Growing.{TearsFile, IsGrowthOf, file_held_by}
use Rattle.waiting_laws.proofs.CuttingBegins.{cut_lowered_law, cut_at_once_law}
use Rattle.waiting_laws.proofs.FileTruncations as truncations
use Rattle.waiting_laws.proofs.FileWrites as plans
use Rattle.waiting_laws.proofs.GrowingFilled.{growth_filled_law}
use Rattle.waiting_laws.proofs.WritingInside.{writing_inside_law}
use Rattle.running_laws.specs.Steps.{HasStoredBelow, BeganBeside}
use Rattle.running_laws.proofs.BeginNames.{Goes}

-- where a file doesn't grow it gets no page
none_new : (new old : ℕ) (pages : List ℕ) → new ≤ old → length pages ≡ pages_of_size new - pages_of_size old → pages ≡ []
unfolding pages_of_size
none_new new old pages least count = nil_from_length pages (omega (arith, least, count))

-- what is torn below the size in words is stored below the length of the bytes
stored_below : (P : ℕ) (I J : List ℕ) (state later : State) (file offset : ℕ) (bytes : List ℕ)
    → inode_size I file ≡ length (bytes_of state.tree file) → TearsFile P I J state later file offset bytes
    → HasStoredBelow (record { file = file; offset = offset; bytes = bytes }) state later
stored_below P I J state later file offset bytes size tears = record {
  file = tears.file;
  tree = tears.tree ∙ ap (λ (n : ℕ). with_bytes state.tree file (resized (overwritten (bytes_of state.tree file) offset bytes) n)) size;
  room = tears.room;
}

-- behind the first step of a growth there is another one
next_grown : (pages : List ℕ) → (progress : Progress) × (next_of_growth Begun pages ≡ Some progress)
next_grown [] = (Owned, refl)
next_grown (page ∷ pages) = (Filled, refl)

-- ---- a write

module _ (volume new : VolumeView) (before after : DeviceView) (state : State) (path : Route) (writing : Writing) (bytes : List ℕ) (others : Residue)
    (ready : IsReady volume before state (Write path writing.offset bytes) (WriteBytes writing) others) where
  abbrev BeganWriting : WriteStage → Next Running → Type 0
  BeganWriting stage next = BeganBeside volume new before after state (Write path writing.offset bytes) (WriteBytes writing) (Writes stage) next others

  abbrev GoesWriting : WriteStage → Next Running → Type 0
  GoesWriting stage next = Goes volume new before after state (Write path writing.offset bytes) (WriteBytes writing) (Writes stage) next others

  write_inside : (next : Next Running) → writes.begun_writing writing ≡ Inside writing → writing.offset + writing.count ≤ writing.old_size → GoesWriting (Inside writing) next
  write_inside next begins inside makes is stands =
      let (stepped, tears, leaves) = writing_inside_law volume new before after state path writing bytes 0 others ready begins makes in
      let none = none_new (writing.offset + writing.count) writing.old_size writing.new_pages inside (plans.count volume before state path writing bytes others ready) in
      subst (BeganWriting (Inside writing)) (sym is)
      (record {
        later = stepped.new;
        means = record { tree = stepped.tree; room = stepped.room };
        leaves = subst (λ (pages : List ℕ). Leaves volume new before after stepped.new no_residue others (file_held_by volume writing.inode pages)) (sym none) leaves;
        waits = tt;
      })

  write_growing : (next : Next Running) → writing.old_size < writing.offset + writing.count → GoesWriting (GrowsByWrite writing Begun) next
  write_growing next more makes is stands =
      let (progress, at) = next_grown writing.new_pages in
      let as_more : next ≡ More (Writes (GrowsByWrite writing progress)) = is ∙ ap (λ (o : Option Progress). as_call Writes (writes.next_growing writing o)) at in
      let may : writes.StandsStage new after bytes (GrowsByWrite writing progress) = subst (StandsNext new after bytes) as_more stands in
      let (later, tears, waits) = growth_filled_law volume new before after state (Write path writing.offset bytes) (WriteBytes writing) (growth_of writing) bytes
      writing.new_pages progress others ready (IsGrowthOf.write path writing bytes more) makes at (record { at = may.at.1; knows = may.at.2; kept = may.kept }) in
      let for = plans.for_writing volume before state path writing bytes others ready in
      let size = plans.size volume before state path writing bytes others ready ∙ for.size_is in
      subst (BeganWriting (GrowsByWrite writing Begun)) (sym as_more)
      (record {
        later = later;
        means = stored_below volume.size before.words after.words state later writing.inode writing.offset bytes size tears;
        leaves = waits.leaves;
        waits = (path, bytes, refl, ap (λ (T : Tree). id_at T path) tears.tree ∙ for.inode_is, may.at.0, plans.some volume before state path writing bytes others ready, waits.waits);
      })

  write_by : (next : Next Running) (inside : Bool) → nat_le (writing.offset + writing.count) writing.old_size ≡ inside
      → GoesWriting (if inside then Inside writing else GrowsByWrite writing Begun) next
  write_by next true test = write_inside next (ap (λ (b : Bool). if b then Inside writing else GrowsByWrite writing Begun) test) (grind (arith, nat_tests))
  write_by next false test = write_growing next (grind (arith, nat_tests))

  pub write_goes : (next : Next Running) → GoesWriting (writes.begun_writing writing) next
  write_goes next = write_by next (nat_le (writing.offset + writing.count) writing.old_size) refl

-- ---- a truncation

module _ (volume new : VolumeView) (before after : DeviceView) (state : State) (path : Route) (resizing : Resizing) (others : Residue)
    (ready : IsReady volume before state (Truncate path resizing.new_size) (Resize resizing) others) where
  abbrev BeganResizing : ResizeStage → Next Running → Type 0
  BeganResizing stage next = BeganBeside volume new before after state (Truncate path resizing.new_size) (Resize resizing) (Resizes stage) next others

  abbrev GoesResizing : ResizeStage → Next Running → Type 0
  GoesResizing stage next = Goes volume new before after state (Truncate path resizing.new_size) (Resize resizing) (Resizes stage) next others

  -- ---- to more

  size_growing : (next : Next Running) → resizing.old_size < resizing.new_size → GoesResizing (GrowsBySize resizing Begun) next
  size_growing next more makes is stands =
      let (progress, at) = next_grown resizing.new_pages in
      let as_more : next ≡ More (Resizes (GrowsBySize resizing progress)) = is ∙ ap (λ (o : Option Progress). as_call Resizes (resizes.next_growing resizing o)) at in
      let may : resizes.StandsStage new after (GrowsBySize resizing progress) = subst (StandsNext new after []) as_more stands in
      let (later, tears, waits) = growth_filled_law volume new before after state (Truncate path resizing.new_size) (Resize resizing) (growth_to resizing) []
      resizing.new_pages progress others ready (IsGrowthOf.truncate path resizing more) makes at (record { at = may.at.1; knows = may.at.2; kept = may.kept }) in
      let for = truncations.for_resizing volume before state path resizing others ready in
      let size = truncations.size volume before state path resizing others ready ∙ for.old_is in
      subst (BeganResizing (GrowsBySize resizing Begun)) (sym as_more)
      (record {
        later = later;
        means = stored_below volume.size before.words after.words state later resizing.inode resizing.old_size [] size tears;
        leaves = waits.leaves;
        waits = (path, refl, ap (λ (T : Tree). id_at T path) tears.tree ∙ for.inode_is, may.at.0, waits.waits);
      })

  -- ---- to less: the first step commits it

  module _ (begins : resizes.begun_resizing resizing ≡ Cutting resizing CutBegun) (least : resizing.new_size ≤ resizing.old_size) where
    none : resizing.new_pages ≡ []
    none = none_new resizing.new_size resizing.old_size resizing.new_pages least (truncations.count volume before state path resizing others ready)

    -- what comes behind the cut, by whether pages go
    abbrev cut_then : Bool → Next ResizeStage
    cut_then some = if some then More (Cutting resizing Lowered) else Ended Done

    -- in what is held, with the file's new pages, of which there are none
    held_all : (later : State) (left : Residue) → Leaves volume new before after later left others (file_held_by volume resizing.inode [])
        → Leaves volume new before after later left others (file_held_by volume resizing.inode resizing.new_pages)
    held_all later left leaves = subst (λ (pages : List ℕ). Leaves volume new before after later left others (file_held_by volume resizing.inode pages)) (sym none) leaves

    cut_by : (next : Next Running) (some : Bool) → nat_lt 0 resizing.cut ≡ some → GoesResizing (Cutting resizing CutBegun) next
    cut_by next true test makes is stands =
        let first : resizes.next_of (Cutting resizing CutBegun) ≡ More (Cutting resizing Lowered) = ap cut_then test in
        let as_more : next ≡ More (Resizes (Cutting resizing Lowered)) = is ∙ ap (as_call Resizes) first in
        let (commits, waits) = cut_lowered_law volume new before after state path resizing Lowered 0 others ready begins makes first
        (subst (StandsNext new after []) as_more stands) in
        subst (BeganResizing (Cutting resizing CutBegun)) (sym as_more)
        (record {
          later = commits.stepped.new;
          means = record { tree = commits.stepped.tree; room = commits.stepped.room };
          leaves = held_all commits.stepped.new (left_by new resizing) waits.leaves;
          waits = (path, refl, waits.waits);
        })
    cut_by next false test makes is stands =
        let first : resizes.next_of (Cutting resizing CutBegun) ≡ Ended Done = ap cut_then test in
        let ended : next ≡ Ended Done = is ∙ ap (as_call Resizes) first in
        let (commits, leaves) = cut_at_once_law volume new before after state path resizing 0 others ready begins makes first in
        subst (BeganResizing (Cutting resizing CutBegun)) (sym ended)
        (record {
          later = commits.stepped.new;
          means = record { tree = commits.stepped.tree; room = commits.stepped.room };
          leaves = held_all commits.stepped.new no_residue leaves;
          waits = tt;
        })

  resize_by : (next : Next Running) (more : Bool) → nat_lt resizing.old_size resizing.new_size ≡ more
      → GoesResizing (if more then GrowsBySize resizing Begun else Cutting resizing CutBegun) next
  resize_by next true test = size_growing next (grind (arith, nat_tests))
  resize_by next false test =
      cut_by (ap (λ (b : Bool). if b then GrowsBySize resizing Begun else Cutting resizing CutBegun) test) (grind (arith, nat_tests)) next (nat_lt 0 resizing.cut) refl

  pub resize_goes : (next : Next Running) → GoesResizing (resizes.begun_resizing resizing) next
  resize_goes next = resize_by next (nat_lt resizing.old_size resizing.new_size) refl
