-- What a call is told by its plan, which its first step tells where it ends; and it makes a node only where its plan is an entry.
use Rattle.std.proofs.Common.{◌≡◌, ℕ, ◌+◌, Bool, true, false, if◌then◌else◌, ◌==◌, nat_le, nat_lt, List, [], ◌∷◌, length, Option, None, Some, refl, sym, ap, subst, ◌∙◌, arith}
use Rattle.std.proofs.lemmas.Bool.{eqb-true, true≢false}
use Rattle.tree_model.specs.Run.{State, is_changing}
use Rattle.tree_model.specs.Step.{is_same_node}
use Rattle.tree_model.specs.declared.command.Command.{Command}
use Rattle.tree_model.specs.declared.command.Command.TheVariants.{Create, Mkdir, Link, Unlink, Rmdir, Rename, Write, Truncate, Read, Stat as Tell, List as Show, Df}
use Rattle.tree_model.specs.declared.reply.Reply.{Reply}
use Rattle.tree_model.specs.declared.reply.Reply.TheVariants.{Done, Count}
use Rattle.naming_laws.specs.Naming.{inode_need}
use Rattle.volume.specs.Planned.{IsNothingOr, IsPlanOf, IsMovingFor, IsWritingFor, IsResizingFor, is_size_of}
use Rattle.volume.specs.declared.next.Next.{Next}
use Rattle.volume.specs.declared.next.Next.TheVariants.{More, Ended}
use Rattle.volume.specs.declared.plan.Action.{Action}
use Rattle.volume.specs.declared.plan.Action.TheVariants.{Make, Name, Remove, Move, Write as WriteBytes, WriteNothing, Resize, KeepSize, KeepNames}
use Rattle.volume.specs.declared.plan.Action.TheVariants.{Read as ReadBytes, Status, Names, Space}
use Rattle.volume.specs.declared.plan.Moving.{Moving}
use Rattle.volume.specs.declared.plan.NewEntry.{NewEntry}
use Rattle.volume.specs.declared.plan.NewName.{NewName}
use Rattle.volume.specs.declared.plan.Resizing.{Resizing}
use Rattle.volume.specs.declared.plan.Writing.{Writing}
use Rattle.volume.proofs.Plans.{nothing_or}
use Rattle.create_ops.specs.Stages as entries
use Rattle.create_ops.specs.declared.run.Stage.TheVariants.{Written as EntryWritten}
use Rattle.unlink_ops.specs.declared.link.Stage.TheVariants.{Written as LinkWritten}
use Rattle.unlink_ops.specs.LinkStages as links
use Rattle.unlink_ops.specs.RemovalStages as removals
use Rattle.rename_ptr.specs.Stages as moves
use Rattle.data_ops.specs.ResizeStages as resizes
use Rattle.data_ops.specs.WriteStages as writes
use Rattle.data_ops.specs.GrowthStages.{next_of_growth}
use Rattle.data_ops.specs.declared.grow.Progress.TheVariants.{Begun}
use Rattle.data_ops.specs.declared.truncate.CutProgress.TheVariants.{Begun as CutBegun, Lowered}
use Rattle.data_ops.specs.declared.truncate.Stage.TheVariants.{Growing as GrowsBySize, Cutting}
use Rattle.data_ops.specs.declared.write.Stage.TheVariants.{Inside, Growing as GrowsByWrite}
use Rattle.running_calls.specs.declared.running.Running.{Running}
use Rattle.running_calls.specs.declared.running.Running.TheVariants.{Makes, Links, Removes, Moves, Writes, Resizes}
use Rattle.running_calls.specs.Stages.{IsNext, as_call, begun}
use Rattle.running_laws.specs.Steps.{commits}
use Rattle.sessions.proofs.GoesMade.{told_next}
use Rattle.sessions.proofs.GoesReplies.{AnswersAs}

-- ---- by its plan

abbrev pub told_of_plan : Action → Reply
told_of_plan (Make entry) = Done
told_of_plan (Name link) = Done
told_of_plan (Remove removal) = Done
told_of_plan (Move moving) = Done
told_of_plan (WriteBytes writing) = Count writing.count
told_of_plan WriteNothing = Count 0
told_of_plan (Resize resizing) = Done
told_of_plan KeepSize = Done
told_of_plan KeepNames = Done
told_of_plan (ReadBytes reading) = Done
told_of_plan (Status inode) = Done
told_of_plan (Names inode) = Done
told_of_plan Space = Done

written_told : (bytes : List ℕ) (action : Action) (none : Bool) (For : Writing → Type 0) → (length bytes == 0) ≡ none
    → ((writing : Writing) → For writing → writing.count ≡ length bytes)
    → IsNothingOr none WriteNothing (λ action. (writing : Writing) × (action ≡ WriteBytes writing) × For writing) action → told_of_plan action ≡ Count (length bytes)
written_told bytes action true For test count is = ap told_of_plan is ∙ ap Count (sym (eqb-true (length bytes) 0 test))
written_told bytes action false For test count (writing, is, for) = ap told_of_plan is ∙ ap Count (count writing for)

module _ (P : ℕ) (I : List ℕ) (state : State) where
  pub plan_told : (command : Command) (action : Action) → is_changing command ≡ true → IsPlanOf P I state command action → AnswersAs command (told_of_plan action)
  plan_told (Create path) action changing (entry, is, for) supply T room = ap told_of_plan is
  plan_told (Mkdir path) action changing (entry, is, for) supply T room = ap told_of_plan is
  plan_told (Link from to) action changing (link, is, for) supply T room = ap told_of_plan is
  plan_told (Unlink path) action changing (removal, is, for) supply T room = ap told_of_plan is
  plan_told (Rmdir path) action changing (removal, is, for) supply T room = ap told_of_plan is
  plan_told (Rename from to) action changing plan supply T room =
      nothing_or (told_of_plan action ≡ Done) Move (IsMovingFor P I state from to) KeepNames action (is_same_node state.tree from to) plan (λ is. ap told_of_plan is)
      (λ moving is for. ap told_of_plan is)
  plan_told (Write path offset bytes) action changing plan supply T room =
      written_told bytes action (length bytes == 0) (IsWritingFor P I state path offset bytes) refl (λ writing for. for.count_is) plan
  plan_told (Truncate path size) action changing plan supply T room =
      nothing_or (told_of_plan action ≡ Done) Resize (IsResizingFor P I state path size) KeepSize action (is_size_of state path size) plan (λ is. ap told_of_plan is)
      (λ resizing is for. ap told_of_plan is)
  plan_told (Read path offset count) action changing plan supply T room = absurd (true≢false (sym changing))
  plan_told (Tell path) action changing plan supply T room = absurd (true≢false (sym changing))
  plan_told (Show path) action changing plan supply T room = absurd (true≢false (sym changing))
  plan_told Df action changing plan supply T room = absurd (true≢false (sym changing))

  -- one that makes a node has an entry as its plan
  pub plan_makes : (command : Command) (action : Action) → inode_need command ≡ 1 → IsPlanOf P I state command action → (entry : NewEntry) × (action ≡ Make entry)
  plan_makes (Create path) action one (entry, is, for) = (entry, is)
  plan_makes (Mkdir path) action one (entry, is, for) = (entry, is)
  plan_makes (Link from to) action one plan = absurd (omega (arith, one))
  plan_makes (Unlink path) action one plan = absurd (omega (arith, one))
  plan_makes (Rmdir path) action one plan = absurd (omega (arith, one))
  plan_makes (Rename from to) action one plan = absurd (omega (arith, one))
  plan_makes (Write path offset bytes) action one plan = absurd (omega (arith, one))
  plan_makes (Truncate path size) action one plan = absurd (omega (arith, one))
  plan_makes (Read path offset count) action one plan = absurd (omega (arith, one))
  plan_makes (Tell path) action one plan = absurd (omega (arith, one))
  plan_makes (Show path) action one plan = absurd (omega (arith, one))
  plan_makes Df action one plan = absurd (omega (arith, one))

-- ---- by its first step

abbrev TellsFirst : Action → Running → Next Running → Type 0
TellsFirst action running (More next) = commits running ≡ true → Done ≡ told_of_plan action
TellsFirst action running (Ended reply) = reply ≡ told_of_plan action

abbrev TellsBegun : Action → Option Running → Next Running → Type 0
TellsBegun action None next = Unit {0}
TellsBegun action (Some running) next = IsNext running next → TellsFirst action running next

tells_so : (action : Action) (running : Running) (next left : Next Running) → next ≡ left → TellsFirst action running left → TellsFirst action running next
tells_so action running next left is tells = subst (TellsFirst action running) (sym is) tells

entry_tells : (entry : NewEntry) (next : Next Running) → IsNext (Makes (entries.begun entry)) next → TellsFirst (Make entry) (Makes (entries.begun entry)) next
entry_tells entry next (left, (node, is), same) =
    tells_so (Make entry) (Makes (entries.begun entry)) next (as_call Makes (More (record { entry = entry; stage = EntryWritten node }))) (same ∙ ap (as_call Makes) is)
    (λ commit. refl)

link_tells : (link : NewName) (next : Next Running) → IsNext (Links (links.begun link)) next → TellsFirst (Name link) (Links (links.begun link)) next
link_tells link next (left, (file, is), same) =
    tells_so (Name link) (Links (links.begun link)) next (as_call Links (More (record { link = link; stage = LinkWritten file }))) (same ∙ ap (as_call Links) is) (λ commit. refl)

move_tells : (moving : Moving) (running : Running) (page : Option ℕ) → TellsFirst (Move moving) running (as_call Moves (moves.next_first moving page))
move_tells moving running None = λ commit. refl
move_tells moving running (Some page) = λ commit. refl

growth_tells : (writing : Writing) (pages : List ℕ)
    → TellsFirst (WriteBytes writing) (Writes (GrowsByWrite writing Begun)) (as_call Writes (writes.next_growing writing (next_of_growth Begun pages)))
growth_tells writing [] = λ commit. absurd (true≢false (sym commit))
growth_tells writing (page ∷ pages) = λ commit. absurd (true≢false (sym commit))

write_tells : (writing : Writing) (inside : Bool)
    → TellsFirst (WriteBytes writing) (Writes (if inside then Inside writing else GrowsByWrite writing Begun))
    (as_call Writes (writes.next_of (if inside then Inside writing else GrowsByWrite writing Begun)))
write_tells writing true = refl
write_tells writing false = growth_tells writing writing.new_pages

size_tells : (resizing : Resizing) (running : Running) (pages : List ℕ)
    → TellsFirst (Resize resizing) running (as_call Resizes (resizes.next_growing resizing (next_of_growth Begun pages)))
size_tells resizing running [] = λ commit. refl
size_tells resizing running (page ∷ pages) = λ commit. refl

cut_tells : (resizing : Resizing) (running : Running) (some : Bool)
    → TellsFirst (Resize resizing) running (as_call Resizes (if some then More (Cutting resizing Lowered) else Ended Done))
cut_tells resizing running true = λ commit. refl
cut_tells resizing running false = refl

resize_tells : (resizing : Resizing) (running : Running) (grows : Bool)
    → TellsFirst (Resize resizing) running (as_call Resizes (resizes.next_of (if grows then GrowsBySize resizing Begun else Cutting resizing CutBegun)))
resize_tells resizing running true = size_tells resizing running resizing.new_pages
resize_tells resizing running false = cut_tells resizing running (nat_lt 0 resizing.cut)

tells_by : (action : Action) (next : Next Running) → TellsBegun action (begun action) next
tells_by (Make entry) next = entry_tells entry next
tells_by (Name link) next = link_tells link next
tells_by (Remove removal) next =
    λ is. tells_so (Remove removal) (Removes (removals.begun removal)) next (as_call Removes (removals.next_of removal (removals.begun removal).stage)) is (λ commit. refl)
tells_by (Move moving) next =
    let first = Moves (moves.begun (Move moving)) in
    λ is. tells_so (Move moving) first next (as_call Moves (moves.next_first moving moving.new_page)) is (move_tells moving first moving.new_page)
tells_by (WriteBytes writing) next =
    λ is. tells_so (WriteBytes writing) (Writes (writes.begun_writing writing)) next (as_call Writes (writes.next_of (writes.begun_writing writing))) is
    (write_tells writing (nat_le (writing.offset + writing.count) writing.old_size))
tells_by WriteNothing next = λ is. tells_so WriteNothing (Writes (writes.begun WriteNothing)) next (Ended (Count 0)) is refl
tells_by (Resize resizing) next =
    let first = Resizes (resizes.begun_resizing resizing) in
    λ is. tells_so (Resize resizing) first next (as_call Resizes (resizes.next_of (resizes.begun_resizing resizing))) is
    (resize_tells resizing first (nat_lt resizing.old_size resizing.new_size))
tells_by KeepSize next = λ is. tells_so KeepSize (Resizes (resizes.begun KeepSize)) next (Ended Done) is refl
tells_by KeepNames next = λ is. tells_so KeepNames (Moves (moves.begun KeepNames)) next (Ended Done) is refl
tells_by (ReadBytes reading) next = tt
tells_by (Status inode) next = tt
tells_by (Names inode) next = tt
tells_by Space next = tt

told_so : (action : Action) (running : Running) (next : Next Running) → commits running ≡ true → TellsFirst action running next → told_next next ≡ told_of_plan action
told_so action running (More next) commit tells = tells commit
told_so action running (Ended reply) commit tells = tells

-- one that commits first is told so,
pub first_told : (action : Action) (running : Running) (next : Next Running) → begun action ≡ Some running → IsNext running next → commits running ≡ true
    → told_next next ≡ told_of_plan action
first_told action running next begins is commit =
    told_so action running next commit (subst (λ (o : Option Running). TellsBegun action o next) begins (tells_by action next) is)

-- and so is one that ends
pub end_told : (action : Action) (running : Running) (reply : Reply) → begun action ≡ Some running → IsNext running (Ended reply) → reply ≡ told_of_plan action
end_told action running reply begins is = subst (λ (o : Option Running). TellsBegun action o (Ended reply)) begins (tells_by action (Ended reply)) is
