-- What a call gives at its end: the reply of the tree for its command, `Done` or how many bytes it wrote.
use Rattle.std.proofs.Common.{[], ◌≡◌, ◌≢◌, ℕ, Bool, true, false, if◌then◌else◌, nat_lt, Option, None, Some, refl, sym, ap, subst, ◌∙◌, true≢false}
use Rattle.pm_trait.specs.DeviceView.{DeviceView}
use Rattle.layout.specs.declared.kinds.NodeKind.{NodeKind}
use Rattle.layout.specs.declared.kinds.NodeKind.TheVariants.{File as AFile, Directory as ADirectory}
use Rattle.fence_token.specs.declared.states.Clean.{Clean}
use Rattle.tree_model.specs.Capacity.{Supply}
use Rattle.tree_model.specs.PathText.{Route}
use Rattle.tree_model.specs.Replies.{reply_of}
use Rattle.tree_model.specs.Run.{State}
use Rattle.tree_model.specs.Step.{making as made_by, answer_of}
use Rattle.tree_model.specs.Tree.{Tree, Room}
use Rattle.tree_model.specs.declared.command.Command.{Command}
use Rattle.tree_model.specs.declared.command.Command.TheVariants.{Link, Rename, Truncate}
use Rattle.tree_model.specs.declared.reply.Reply.{Reply}
use Rattle.tree_model.specs.declared.reply.Reply.TheVariants.{Done, Count, Bytes}
use Rattle.image_reading.specs.Residue.{Residue}
use Rattle.volume.specs.Costs.{pages_removed, pages_replaced, goes_of}
use Rattle.volume.specs.Volume.{VolumeView}
use Rattle.volume.specs.declared.next.Next.{Next}
use Rattle.volume.specs.declared.next.Next.TheVariants.{More, Ended}
use Rattle.volume.specs.declared.plan.Moving.{Moving}
use Rattle.volume.specs.declared.plan.NewEntry.{NewEntry}
use Rattle.volume.specs.declared.plan.NewName.{NewName}
use Rattle.volume.specs.declared.plan.Removal.{Removal}
use Rattle.volume.specs.declared.plan.Resizing.{Resizing}
use Rattle.entry_steps.specs.declared.place.NamePlace.{NamePlace}
use Rattle.entry_steps.specs.declared.place.NamePlace.TheVariants.{Slot, Page}
use Rattle.create_ops.specs.Stages as entries
use Rattle.create_ops.specs.declared.run.Stage.{Stage as EntryStage}
use Rattle.create_ops.specs.declared.run.Stage.TheVariants.{Begun as EntryBegun, Written as EntryWritten, Claimed as EntryClaimed}
use Rattle.unlink_ops.specs.LinkStages as links
use Rattle.unlink_ops.specs.RemovalStages as removals
use Rattle.unlink_ops.specs.declared.link.Stage.{Stage as LinkStage}
use Rattle.unlink_ops.specs.declared.link.Stage.TheVariants.{Begun as LinkBegun, Written as LinkWritten, Claimed as LinkClaimed}
use Rattle.unlink_ops.specs.declared.removal.Stage.{Stage as RemovalStage}
use Rattle.unlink_ops.specs.declared.removal.Stage.TheVariants.{Begun as NameThere, Unnamed, Cleared as SlotCleared, Disowned as PagesDisowned}
use Rattle.rename_ptr.specs.Stages as moves
use Rattle.rename_ptr.specs.declared.rename.Progress.{Progress as MoveProgress}
use Rattle.rename_ptr.specs.declared.rename.Progress.TheVariants.{Begun as MoveBegun, Filled as MoveFilled, Opened, Pointed, Moved, Left, Cleared, Disowned}
use Rattle.rename_ptr.specs.declared.rename.Stage.{Stage as MoveStage}
use Rattle.rename_ptr.specs.declared.rename.Stage.TheVariants.{Nothing as NamesKept, Moving as MovesName}
use Rattle.data_ops.specs.ResizeStages as resizes
use Rattle.data_ops.specs.WriteStages as writes
use Rattle.data_ops.specs.declared.grow.Progress.{Progress}
use Rattle.data_ops.specs.declared.grow.Progress.TheVariants.{Begun, Filled, Owned}
use Rattle.data_ops.specs.declared.truncate.CutProgress.{CutProgress}
use Rattle.data_ops.specs.declared.truncate.CutProgress.TheVariants.{Begun as CutBegun, Lowered, Trimmed}
use Rattle.data_ops.specs.declared.truncate.Stage.{Stage as ResizeStage}
use Rattle.data_ops.specs.declared.truncate.Stage.TheVariants.{Nothing as SizeKept, Growing as GrowsBySize, Cutting}
use Rattle.data_ops.specs.declared.write.Stage.{Stage as WriteStage}
use Rattle.data_ops.specs.declared.write.Stage.TheVariants.{Nothing as NothingWritten, Inside, Growing as GrowsByWrite}
use Rattle.running_calls.specs.declared.running.Running.{Running}
use Rattle.running_calls.specs.declared.running.Running.TheVariants.{Makes, Links, Removes, Moves, Writes, Resizes}
use Rattle.running_calls.specs.Stages.{IsNext, as_call}
use Rattle.waiting_laws.specs.Removing as removing
use Rattle.running_laws.specs.Steps.{commits, has_committed}
use Rattle.running_laws.specs.Waits.{Waits}
use Rattle.session_laws.proofs.GoingNext.{goes_on}

-- ---- what is told

-- the reply is that of the tree, whichever it is, where the command is accepted
abbrev pub AnswersAs : Command → Reply → Type 0
AnswersAs command reply = (supply : Supply) (T : Tree) (room : Room) → reply ≡ reply_of (answer_of supply T room command)

-- Bytes aren't told, and one that has committed before tells nothing more.
pub record IsTold (command : Command) (running : Running) (reply : Reply) : Type 0 where
  pub answers : AnswersAs command reply
  pub no_bytes : (count : ℕ) → reply ≢ Bytes count
  pub done : has_committed running ≡ true → reply ≡ Done

-- where the call goes on behind its commit it will be told that it is done
abbrev pub TellsNext : Command → Running → Next Running → Type 0
TellsNext command running (More next) = commits running ≡ true → AnswersAs command Done
TellsNext command running (Ended reply) = IsTold command running reply

is_done : (command : Command) (running : Running) (reply : Reply) → reply ≡ Done → AnswersAs command Done → IsTold command running reply
is_done command running reply is answers = record {
  answers = λ supply T room. is ∙ answers supply T room;
  no_bytes = λ count bytes. cc (is, bytes);
  done = λ has. is;
}

-- ---- which end with `Done`

abbrev EndsDone : {Stage : Type 0} → Next Stage → Type 0
EndsDone (More running) = Unit {0}
EndsDone (Ended reply) = reply ≡ Done

ends_either : {Stage : Type 0} (b : Bool) (one other : Next Stage) → EndsDone one → EndsDone other → EndsDone (if b then one else other)
ends_either true one other first second = first
ends_either false one other first second = second

ends_as : {Stage : Type 0} (of_kind : Stage → Running) (left : Next Stage) → EndsDone left → EndsDone (as_call of_kind left)
ends_as of_kind (More running) ends = tt
ends_as of_kind (Ended reply) ends = ends

entry_placed : (entry : NewEntry) (place : NamePlace Clean) (left : Next entries.RunningView) → entries.IsAfterPlace entry place left → EndsDone left
entry_placed entry (Slot slot) left is = subst (λ (next : Next entries.RunningView). EndsDone next) (sym is) refl
entry_placed entry (Page page) left (node, is) = subst (λ (next : Next entries.RunningView). EndsDone next) (sym is) tt

entry_done : (entry : NewEntry) (stage : EntryStage) (left : Next entries.RunningView) → entries.IsAfter entry stage left → EndsDone left
entry_done entry EntryBegun left (node, is) = subst (λ (next : Next entries.RunningView). EndsDone next) (sym is) tt
entry_done entry (EntryWritten node) left is = entry_placed entry node.place left is
entry_done entry (EntryClaimed node) left is = subst (λ (next : Next entries.RunningView). EndsDone next) (sym is) refl

link_placed : (link : NewName) (place : NamePlace Clean) (left : Next links.RunningView) → links.IsAfterPlace link place left → EndsDone left
link_placed link (Slot slot) left is = subst (λ (next : Next links.RunningView). EndsDone next) (sym is) refl
link_placed link (Page page) left (file, is) = subst (λ (next : Next links.RunningView). EndsDone next) (sym is) tt

link_done : (link : NewName) (stage : LinkStage) (left : Next links.RunningView) → links.IsAfter link stage left → EndsDone left
link_done link LinkBegun left (file, is) = subst (λ (next : Next links.RunningView). EndsDone next) (sym is) tt
link_done link (LinkWritten file) left is = link_placed link file.place left is
link_done link (LinkClaimed file) left is = subst (λ (next : Next links.RunningView). EndsDone next) (sym is) refl

removal_done : (removal : Removal) (stage : RemovalStage) → EndsDone (removals.next_of removal stage)
removal_done removal NameThere = tt
removal_done removal Unnamed =
    ends_either (nat_lt 0 (pages_removed removal)) (removals.at_stage removal SlotCleared) (if removal.loss.goes then removals.at_stage removal PagesDisowned else Ended Done) tt
    (ends_either removal.loss.goes (removals.at_stage removal PagesDisowned) (Ended Done) tt refl)
removal_done removal SlotCleared = tt
removal_done removal PagesDisowned = refl

grown_done : (resizing : Resizing) (progress : Option Progress) → EndsDone (resizes.next_growing resizing progress)
grown_done resizing (Some progress) = tt
grown_done resizing None = refl

cut_done : (resizing : Resizing) (progress : CutProgress) → EndsDone (resizes.next_cutting resizing progress)
cut_done resizing CutBegun = ends_either (nat_lt 0 resizing.cut) (More (Cutting resizing Lowered)) (Ended Done) tt refl
cut_done resizing Lowered = tt
cut_done resizing Trimmed = refl

resize_done : (stage : ResizeStage) → EndsDone (resizes.next_of stage)
resize_done SizeKept = refl
resize_done (GrowsBySize resizing progress) = grown_done resizing _
resize_done (Cutting resizing progress) = cut_done resizing progress

-- ---- a name that moves

-- behind a step it isn't at its begin
abbrev pub IsLaterMove : Next MoveStage → Type 0
IsLaterMove (More NamesKept) = ⊥
IsLaterMove (More (MovesName moving progress)) = progress ≡ MoveBegun → ⊥
IsLaterMove (Ended reply) = reply ≡ Done

later_either : (b : Bool) (one other : Next MoveStage) → IsLaterMove one → IsLaterMove other → IsLaterMove (if b then one else other)
later_either true one other first second = first
later_either false one other first second = second

later_first : (moving : Moving) (page : Option ℕ) → IsLaterMove (moves.next_first moving page)
later_first moving None = λ is. cc
later_first moving (Some page) = λ is. cc

pub later_move : (moving : Moving) (progress : MoveProgress) → IsLaterMove (moves.next_moving moving progress)
later_move moving MoveBegun = later_first moving moving.new_page
later_move moving MoveFilled = λ is. cc
later_move moving Opened = λ is. cc
later_move moving Pointed = λ is. cc
later_move moving Moved = λ is. cc
later_move moving Left =
    later_either (nat_lt 0 (pages_replaced moving)) (More (MovesName moving Cleared)) (if goes_of moving.replaced then More (MovesName moving Disowned) else Ended Done)
    (λ is. cc)
    (later_either (goes_of moving.replaced) (More (MovesName moving Disowned)) (Ended Done) (λ is. cc) refl)
later_move moving Cleared = λ is. cc
later_move moving Disowned = refl

-- whatever it does, a rename is done
tells_move : (from to : Route) (running : Running) (left : Next MoveStage) → IsLaterMove left → TellsNext (Rename from to) running (as_call Moves left)
tells_move from to running (More stage) later = λ commit supply T room. refl
tells_move from to running (Ended reply) later = is_done (Rename from to) running reply later (λ supply T room. refl)

pub tells_rename : (from to : Route) (command : Command) (moving : Moving) (progress : MoveProgress) (running : Running) (next : Next Running) → command ≡ Rename from to
    → running ≡ Moves (MovesName moving progress) → IsNext running next → TellsNext command running next
tells_rename from to command moving progress running next same at is =
    let left : next ≡ as_call Moves (moves.next_moving moving progress) = subst (λ (now : Running). IsNext now next) at is in
    subst (λ (c : Command). TellsNext c running next) (sym same)
    (subst (TellsNext (Rename from to) running) (sym left) (tells_move from to running (moves.next_moving moving progress) (later_move moving progress)))

-- ---- beside others

answers_so : (command other : Command) → command ≡ other → AnswersAs other Done → AnswersAs command Done
answers_so command other same answers = subst (λ (c : Command). AnswersAs c Done) (sym same) answers

made_answers : (kind : NodeKind) (path : Route) → AnswersAs (made_by kind path) Done
made_answers AFile path supply T room = refl
made_answers ADirectory path supply T room = refl

gone_answers : (kind : NodeKind) (path : Route) → AnswersAs (removing.of_kind kind path) Done
gone_answers AFile path supply T room = refl
gone_answers ADirectory path supply T room = refl

module _ (volume : VolumeView) (device : DeviceView) (state : State) (command : Command) (others : Residue) (reply : Reply) where
  -- one that ends with `Done`
  ends : (running : Running) (next : Next Running) → next ≡ Ended reply → EndsDone next → AnswersAs command Done → IsTold command running reply
  ends running next is done answers = is_done command running reply (subst (λ (n : Next Running). EndsDone n) is done) answers

  write_told : (stage : WriteStage) → Waits volume device state command (Writes stage) others → Ended reply ≡ as_call Writes (writes.next_of stage)
      → IsTold command (Writes stage) reply
  write_told NothingWritten waits is = absurd waits
  write_told (Inside writing) waits is = absurd waits
  write_told (GrowsByWrite writing Begun) waits is = absurd waits.6.new_pages
  write_told (GrowsByWrite writing Filled) waits is = absurd (let clash : ◌≡◌ {A = Next Running} (Ended reply) (More (Writes (GrowsByWrite writing Owned))) = is in cc)
  write_told (GrowsByWrite writing Owned) (path, bytes, same, there, at, some, waits) is =
      let count : reply ≡ Count writing.count = (let told : ◌≡◌ {A = Next Running} (Ended reply) (Ended (Count writing.count)) = is in cc) in
      record {
        answers = λ supply T room. count ∙ ap Count at.count ∙ ap (λ (c : Command). reply_of (answer_of supply T room c)) (sym same);
        no_bytes = λ n other. cc (count, other);
        done = λ has. absurd (true≢false (sym has));
      }

  resize_told : (stage : ResizeStage) → Waits volume device state command (Resizes stage) others → Ended reply ≡ as_call Resizes (resizes.next_of stage)
      → IsTold command (Resizes stage) reply
  resize_told SizeKept waits is = absurd waits
  resize_told (GrowsBySize resizing progress) (path, same, there, bounded, growing) is =
      ends (Resizes (GrowsBySize resizing progress)) (as_call Resizes (resizes.next_of (GrowsBySize resizing progress))) (sym is)
      (ends_as Resizes (resizes.next_of (GrowsBySize resizing progress)) (resize_done (GrowsBySize resizing progress)))
      (answers_so command (Truncate path resizing.new_size) same (λ supply T room. refl))
  resize_told (Cutting resizing progress) (path, same, cutting) is =
      ends (Resizes (Cutting resizing progress)) (as_call Resizes (resizes.next_of (Cutting resizing progress))) (sym is)
      (ends_as Resizes (resizes.next_of (Cutting resizing progress)) (resize_done (Cutting resizing progress)))
      (answers_so command (Truncate path resizing.new_size) same (λ supply T room. refl))

  told_at_end : (running : Running) → Waits volume device state command running others → IsNext running (Ended reply) → IsTold command running reply
  told_at_end (Makes running) (path, same, waits) (left, after, is) =
      ends (Makes running) (as_call Makes left) (sym is) (ends_as Makes left (entry_done running.entry running.stage left after))
      (answers_so command (made_by running.entry.kind path) same (made_answers running.entry.kind path))
  told_at_end (Links running) (from, path, same, waits) (left, after, is) =
      ends (Links running) (as_call Links left) (sym is) (ends_as Links left (link_done running.link running.stage left after))
      (answers_so command (Link from path) same (λ supply T room. refl))
  told_at_end (Removes running) (path, same, waits) is =
      let left = removals.next_of running.removal running.stage in
      ends (Removes running) (as_call Removes left) (sym is) (ends_as Removes left (removal_done running.removal running.stage))
      (answers_so command (removing.of_kind running.removal.loss.kind path) same (gone_answers running.removal.loss.kind path))
  told_at_end (Moves running) waits is = absurd waits
  told_at_end (Writes running) waits is = write_told running waits is
  told_at_end (Resizes running) waits is = resize_told running waits is

-- one that goes on commits nothing
pub tells_beside : (volume : VolumeView) (device : DeviceView) (state : State) (command : Command) (others : Residue) (running : Running) (next : Next Running)
    → Waits volume device state command running others → IsNext running next → TellsNext command running next
tells_beside volume device state command others running (More next) waits is =
    λ commit. absurd (true≢false (sym commit ∙ (goes_on volume volume [] device state command others running next waits is).quiet))
tells_beside volume device state command others running (Ended reply) waits is = told_at_end volume device state command others reply running waits is
