-- What a crash leaves in the first step of a call, whatever its command: by its plan.
use Rattle.std.proofs.Common.{◌≡◌, inl, inr, ℕ, ◌+◌, ◌<◌, Bool, true, false, nat_le, nat_lt, List, [], Option, None, Some, refl, sym, ap, subst, ◌∙◌, arith, true≢false}
use Rattle.std.specs.Prelude.{if◌then◌else◌}
use Rattle.std.proofs.lemmas.Bool.Decides.{nat_tests}
use Rattle.pm_trait.specs.DeviceView.{DeviceView}
use Rattle.layout.specs.declared.kinds.NodeKind.{NodeKind}
use Rattle.layout.specs.declared.kinds.NodeKind.TheVariants.{File, Directory}
use Rattle.tree_model.specs.Run.{State}
use Rattle.tree_model.specs.PathText.{Route}
use Rattle.tree_model.specs.Tree.{id_at, is_directory, is_directory_node, IsTree}
use Rattle.tree_model.specs.Step.{refusal_with}
use Rattle.tree_model.specs.Capacity.{Supply}
use Rattle.tree_model.specs.declared.command.Command.{Command}
use Rattle.tree_model.specs.declared.command.Command.TheVariants.{Unlink, Rmdir, Write, Truncate}
use Rattle.tree_model.proofs.AcceptedLaws.{Accepted-from_row}
use Rattle.image_reading.specs.Residue.{Residue}
use Rattle.image_counts.specs.Laws.{supply_beside}
use Rattle.volume.specs.Volume.{VolumeView}
use Rattle.volume.specs.Costs.{events_of}
use Rattle.volume.specs.Moves.{is_directory_kind}
use Rattle.volume.specs.Planned.{IsRemovalFor, IsPlannedWith}
use Rattle.volume.specs.Stages.{keeping}
use Rattle.volume.specs.declared.plan.NewEntry.{NewEntry}
use Rattle.volume.specs.declared.plan.NewName.{NewName}
use Rattle.volume.specs.declared.plan.Removal.{Removal}
use Rattle.volume.specs.declared.plan.Writing.{Writing}
use Rattle.volume.specs.declared.plan.Resizing.{Resizing}
use Rattle.volume.specs.declared.plan.Action.{Action}
use Rattle.volume.specs.declared.plan.Action.TheVariants.{Make, Name, Remove, Move, Write as WriteBytes, WriteNothing, Resize, KeepSize, KeepNames, Read as ReadBytes, Status, Names, Space}
use Rattle.volume.proofs.ContentPlans.{planned_writing, planned_resizing}
use Rattle.volume.proofs.PlanActions.{planned_linking, planned_removing}
use Rattle.volume.proofs.Plans.{planned_making}
use Rattle.volume.proofs.WalkedBeside.{stands_tree}
use Rattle.create_ops.specs.Stages as entries
use Rattle.unlink_ops.specs.LinkStages as links
use Rattle.unlink_ops.specs.RemovalStages as removals
use Rattle.data_ops.specs.WriteStages as writes
use Rattle.data_ops.specs.ResizeStages as resizes
use Rattle.data_ops.specs.Cutting.{growth_to}
use Rattle.data_ops.specs.Writing.{growth_of}
use Rattle.data_ops.specs.declared.grow.Progress.TheVariants.{Begun}
use Rattle.data_ops.specs.declared.write.Stage.TheVariants.{Inside, Growing as GrowsByWrite}
use Rattle.data_ops.specs.declared.truncate.Stage.TheVariants.{Growing as GrowsBySize, Cutting}
use Rattle.data_ops.specs.declared.truncate.CutProgress.TheVariants.{Begun as CutBegun}
use Rattle.running_calls.specs.declared.running.Running.{Running}
use Rattle.running_calls.specs.declared.running.Running.TheVariants.{Makes, Links, Removes, Writes, Resizes}
use Rattle.running_calls.specs.Stages.{begun, step_of}
use Rattle.waiting_laws.specs.Beside.{IsReady}
use Rattle.waiting_laws.specs.Growing.{IsGrowthOf}
use Rattle.waiting_laws.specs.Removing.{of_kind}
use Rattle.waiting_laws.proofs.ContentCrash.{growth_first_crash_law, writing_crash_law, cut_first_crash_law}
use Rattle.waiting_laws.proofs.NamedCrashLinking.{linking_first_crash}
use Rattle.waiting_laws.proofs.NamedCrashMaking.{making_first_crash}
use Rattle.waiting_laws.proofs.RemovingCommits.{removing_first_crash_law}
use Rattle.running_laws.specs.Crashes.{CrashIs, FirstCrashLaw}
use Rattle.running_laws.specs.Steps.{commits, given_inode, range_of, runs_beside}
use Rattle.running_laws.specs.Waits.{bytes_of_command}

-- ---- the command of a removal's plan

as_unlink : (kind : NodeKind) (path : Route) → is_directory_kind kind ≡ false → Unlink path ≡ of_kind kind path
as_unlink File path is = refl
as_unlink Directory path is = absurd (true≢false is)

as_rmdir : (kind : NodeKind) (path : Route) → is_directory_kind kind ≡ true → Rmdir path ≡ of_kind kind path
as_rmdir File path is = absurd (true≢false (sym is))
as_rmdir Directory path is = refl

same_inode : (i j : ℕ) → ◌≡◌ {A = Option ℕ} (Some i) (Some j) → i ≡ j
same_inode i j e = cc

-- the kind is that of the node which the path names
kind_at : (P : ℕ) (I : List ℕ) (state : State) (command : Command) (removal : Removal) (path : Route) (id : ℕ) → IsRemovalFor P I state command path removal
    → id_at state.tree path ≡ Some id
    → is_directory_kind removal.loss.kind ≡ is_directory state.tree id
kind_at P I state command removal path id for named = sym for.loss.kind_is ∙ ap (is_directory state.tree) (same_inode removal.loss.inode id (sym for.named.inode_is ∙ named))

pub command_of_removal : (supply : Supply) (I : List ℕ) (state : State) (command : Command) (removal : Removal) → IsTree state.tree
    → IsPlannedWith supply I state command (Remove removal)
    → (path : Route) × (command ≡ of_kind removal.loss.kind path)
command_of_removal supply I state command removal tree planned =
    let (path, which, for) = planned_removing supply.pages I state command removal planned.plan_is in
    elim which [
      | inl is ↦
          let accepted = subst (λ (c : Command). refusal_with supply state.tree state.room c ≡ None) is planned.accepted in
          let source = (Accepted-from_row supply state.tree state.room (Unlink path) tree accepted).source in
          (path, is ∙ as_unlink removal.loss.kind path (kind_at supply.pages I state command removal path source.id for source.named ∙ ap is_directory_node source.file))
      | inr is ↦
          let accepted = subst (λ (c : Command). refusal_with supply state.tree state.room c ≡ None) is planned.accepted in
          let source = (Accepted-from_row supply state.tree state.room (Rmdir path) tree accepted).source in
          (path, is ∙ as_rmdir removal.loss.kind path (kind_at supply.pages I state command removal path source.id for source.named ∙ source.directory))
    ]

-- ---- what the plan begins

same_running : (one other : Running) → ◌≡◌ {A = Option Running} (Some one) (Some other) → one ≡ other
same_running one other e = cc

no_running : (running : Running) → ◌≡◌ {A = Option Running} None (Some running) → ⊥
no_running running e = cc

past : (end size : ℕ) → nat_le end size ≡ false → size < end
past end size test = grind (arith, nat_tests)

larger : (old new : ℕ) → nat_lt old new ≡ true → old < new
larger old new test = grind (arith, nat_tests)

module _ (volume : VolumeView) (device : DeviceView) (state : State) (others : Residue) (J : List ℕ) where
  abbrev Ready : Command → Action → Type 0
  Ready command action = IsReady volume device state command action others

  -- of the call that the action begins
  abbrev Leaves : Command → Action → Running → Type 0
  Leaves command action running =
      (step_of (keeping volume action) (bytes_of_command command) running).Makes device.words J
      → CrashIs (commits running) (range_of (bytes_of_command command) running) volume.size device.words J state command (given_inode running)

  -- ---- names

  of_entry : (command : Command) (entry : NewEntry) → Ready command (Make entry) → Leaves command (Make entry) (Makes (entries.begun entry))
  of_entry command entry ready =
      let (path, is) = planned_making volume.size device.words state command entry ready.planned.plan_is in
      λ made. making_first_crash volume device state path entry others J (subst (λ c. Ready c (Make entry)) is ready) made

  of_link : (command : Command) (link : NewName) → Ready command (Name link) → Leaves command (Name link) (Links (links.begun link))
  of_link command link ready =
      let (from, path, is, for) = planned_linking volume.size device.words state command link ready.planned.plan_is in
      λ made. linking_first_crash volume device state from path link others J (subst (λ c. Ready c (Name link)) is ready) made

  of_removal : (command : Command) (removal : Removal) → Ready command (Remove removal) → Leaves command (Remove removal) (Removes (removals.begun removal))
  of_removal command removal ready =
      let tree = stands_tree volume device state others ready.prepared.stands in
      let (path, is) = command_of_removal (supply_beside volume.size others) device.words state command removal tree ready.planned in
      subst (λ c. Ready c (Remove removal) → Leaves c (Remove removal) (Removes (removals.begun removal))) (sym is)
      (λ ready made. removing_first_crash_law volume device state path removal 0 others J ready made) ready

  -- ---- a write

  write_begins : (path : Route) (writing : Writing) (bytes : List ℕ) → Ready (Write path writing.offset bytes) (WriteBytes writing)
      → Leaves (Write path writing.offset bytes) (WriteBytes writing) (Writes (writes.begun_writing writing))
  write_begins path writing bytes ready = by_test (nat_le (writing.offset + writing.count) writing.old_size) refl
    where
      by_test : (inside : Bool) → nat_le (writing.offset + writing.count) writing.old_size ≡ inside
          → Leaves (Write path writing.offset bytes) (WriteBytes writing) (Writes (if inside then Inside writing else GrowsByWrite writing Begun))
      by_test true test made =
          let begins : writes.begun_writing writing ≡ Inside writing = ap (λ (t : Bool). if t then Inside writing else GrowsByWrite writing Begun) test in
          let (stepped, tears) = writing_crash_law volume device state path writing bytes 0 others J ready begins made in
          (stepped, tears.crash)
      by_test false test made =
          (growth_first_crash_law volume device state (Write path writing.offset bytes) (WriteBytes writing) (growth_of writing) bytes writing.new_pages others J ready
          (IsGrowthOf.write path writing bytes (past (writing.offset + writing.count) writing.old_size test)) made).1.crash

  of_write : (command : Command) (writing : Writing) → Ready command (WriteBytes writing) → Leaves command (WriteBytes writing) (Writes (writes.begun_writing writing))
  of_write command writing ready =
      let (path, offset, bytes, is, for) = planned_writing volume.size device.words state command writing ready.planned.plan_is in
      let at : command ≡ Write path writing.offset bytes = is ∙ ap (λ o. Write path o bytes) (sym for.offset_is) in
      subst (λ c. Ready c (WriteBytes writing) → Leaves c (WriteBytes writing) (Writes (writes.begun_writing writing))) (sym at) (write_begins path writing bytes) ready

  -- ---- another size

  size_begins : (path : Route) (resizing : Resizing) → Ready (Truncate path resizing.new_size) (Resize resizing)
      → Leaves (Truncate path resizing.new_size) (Resize resizing) (Resizes (resizes.begun_resizing resizing))
  size_begins path resizing ready = by_test (nat_lt resizing.old_size resizing.new_size) refl
    where
      by_test : (grows : Bool) → nat_lt resizing.old_size resizing.new_size ≡ grows
          → Leaves (Truncate path resizing.new_size) (Resize resizing) (Resizes (if grows then GrowsBySize resizing Begun else Cutting resizing CutBegun))
      by_test true test made =
          (growth_first_crash_law volume device state (Truncate path resizing.new_size) (Resize resizing) (growth_to resizing) [] resizing.new_pages others J ready
          (IsGrowthOf.truncate path resizing (larger resizing.old_size resizing.new_size test)) made).1.crash
      by_test false test made =
          let begins : resizes.begun_resizing resizing ≡ Cutting resizing CutBegun = ap (λ (t : Bool). if t then GrowsBySize resizing Begun else Cutting resizing CutBegun) test in
          cut_first_crash_law volume device state path resizing 0 others J ready begins made

  of_size : (command : Command) (resizing : Resizing) → Ready command (Resize resizing) → Leaves command (Resize resizing) (Resizes (resizes.begun_resizing resizing))
  of_size command resizing ready =
      let (path, size, is, for) = planned_resizing volume.size device.words state command resizing ready.planned.plan_is in
      let at : command ≡ Truncate path resizing.new_size = is ∙ ap (λ n. Truncate path n) (sym for.new_is) in
      subst (λ c. Ready c (Resize resizing) → Leaves c (Resize resizing) (Resizes (resizes.begun_resizing resizing))) (sym at) (size_begins path resizing) ready

  -- ---- by the plan

  as_begun : (command : Command) (action : Action) (first running : Running) → ◌≡◌ {A = Option Running} (Some first) (Some running) → Leaves command action first
      → Leaves command action running
  as_begun command action first running is leaves = subst (Leaves command action) (same_running first running is) leaves

  moves_alone : {X : Type 0} (first : Running) (running : Running) → ◌≡◌ {A = Option Running} (Some first) (Some running) → runs_beside first ≡ false
      → runs_beside running ≡ true → X
  moves_alone first running is alone beside = absurd (true≢false (sym beside ∙ ap runs_beside (sym (same_running first running is)) ∙ alone))

  by_plan : (command : Command) (action : Action) (running : Running) → Ready command action → 0 < events_of action → begun action ≡ Some running → runs_beside running ≡ true
      → Leaves command action running
  by_plan command (Make entry) running ready some is beside = as_begun command (Make entry) (Makes (entries.begun entry)) running is (of_entry command entry ready)
  by_plan command (Name link) running ready some is beside = as_begun command (Name link) (Links (links.begun link)) running is (of_link command link ready)
  by_plan command (Remove removal) running ready some is beside = as_begun command (Remove removal) (Removes (removals.begun removal)) running is (of_removal command removal ready)
  by_plan command (Move moving) running ready some is beside = moves_alone _ running is refl beside
  by_plan command (WriteBytes writing) running ready some is beside =
      as_begun command (WriteBytes writing) (Writes (writes.begun_writing writing)) running is (of_write command writing ready)
  by_plan command WriteNothing running ready some is beside = absurd (omega (arith, some))
  by_plan command (Resize resizing) running ready some is beside =
      as_begun command (Resize resizing) (Resizes (resizes.begun_resizing resizing)) running is (of_size command resizing ready)
  by_plan command KeepSize running ready some is beside = absurd (omega (arith, some))
  by_plan command KeepNames running ready some is beside = absurd (omega (arith, some))
  by_plan command (ReadBytes reading) running ready some is beside = absurd (no_running running is)
  by_plan command (Status inode) running ready some is beside = absurd (no_running running is)
  by_plan command (Names inode) running ready some is beside = absurd (no_running running is)
  by_plan command Space running ready some is beside = absurd (no_running running is)

pub first_crash_law : FirstCrashLaw
first_crash_law volume device state command action running others J ready some is beside made =
    by_plan volume device state others J command action running ready some is beside made
