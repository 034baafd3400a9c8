-- A call that waits has as many fences left whatever step another one made: they hang on its stage, and on how many pages go, which the call knows.
use Rattle.std.proofs.Common.{◌≡◌, ◌≢◌, inl, inr, ℕ, ◌+◌, ◌-◌, ◌≤◌, Bool, if◌then◌else◌, ◌||◌, nat_lt, List, ◌++◌, length, Option, None, Some, refl, sym, ap, subst, ◌∙◌, arith}
use Rattle.std.proofs.Common.{length-drop}
use Rattle.std.proofs.lemmas.Bool.{cases_eq}
use Rattle.pm_trait.specs.DeviceView.{DeviceView}
use Rattle.pm_trait.specs.Unfolds.{Step, fences_in}
use Rattle.tree_model.specs.Run.{State}
use Rattle.tree_model.specs.declared.command.Command.{Command}
use Rattle.image_reading.specs.Residue.{Residue}
use Rattle.volatile_index.specs.Index.{pages_of}
use Rattle.volume.specs.Costs.{count_of, goes_of, pages_of_loss}
use Rattle.volume.specs.Volume.{VolumeView}
use Rattle.volume.specs.declared.plan.Moving.{Moving}
use Rattle.volume.specs.declared.plan.NewEntry.{NewEntry}
use Rattle.volume.specs.declared.plan.NewName.{NewName}
use Rattle.volume.specs.declared.plan.Removal.{Removal}
use Rattle.volume.specs.declared.plan.Resizing.{Resizing}
use Rattle.fence_token.specs.declared.states.Clean.{Clean}
use Rattle.entry_steps.specs.declared.place.NamePlace.{NamePlace}
use Rattle.entry_steps.specs.declared.place.NamePlace.TheVariants.{Slot, Page}
use Rattle.entry_steps.specs.Steps.{claim_steps}
use Rattle.entry_steps.specs.Waiting.{left_of_place}
use Rattle.removal_steps.specs.Steps.{gone_pages}
use Rattle.create_ops.specs.Stages as entries
use Rattle.create_ops.specs.declared.run.Stage.{Stage as EntryStage}
use Rattle.create_ops.specs.declared.run.Stage.TheVariants.{Begun as EntryBegun, Written as EntryWritten, Claimed as EntryClaimed}
use Rattle.unlink_ops.specs.LinkStages as links
use Rattle.unlink_ops.specs.declared.link.Stage.{Stage as LinkStage}
use Rattle.unlink_ops.specs.declared.link.Stage.TheVariants.{Begun as LinkBegun, Written as LinkWritten, Claimed as LinkClaimed}
use Rattle.unlink_ops.specs.RemovalStages as removals
use Rattle.unlink_ops.specs.declared.removal.Stage.{Stage as RemovalStage}
use Rattle.unlink_ops.specs.declared.removal.Stage.TheVariants.{Begun as NameThere, Unnamed, Cleared as SlotCleared, Disowned as PagesDisowned}
use Rattle.rename_ptr.specs.Stages as moves
use Rattle.rename_ptr.specs.Steps.{opening}
use Rattle.rename_ptr.specs.declared.rename.Progress.{Progress as MoveProgress}
use Rattle.rename_ptr.specs.declared.rename.Progress.TheVariants.{Begun as MoveBegun, Filled as MoveFilled, Opened, Pointed, Moved, Left, Cleared, Disowned}
use Rattle.rename_ptr.specs.declared.rename.Stage.TheVariants.{Moving as MovesName}
use Rattle.data_ops.specs.Cutting as cutting
use Rattle.data_ops.specs.ResizeStages as resizes
use Rattle.data_ops.specs.declared.grow.Progress.TheVariants.{Begun, Filled, Owned}
use Rattle.data_ops.specs.declared.truncate.CutProgress.{CutProgress}
use Rattle.data_ops.specs.declared.truncate.CutProgress.TheVariants.{Begun as CutBegun, Lowered, Trimmed}
use Rattle.data_ops.specs.declared.truncate.Stage.{Stage as ResizeStage}
use Rattle.data_ops.specs.declared.truncate.Stage.TheVariants.{Nothing as SizeKept, Growing as GrowsBySize, Cutting}
use Rattle.data_ops.specs.declared.write.Stage.{Stage as WriteStage}
use Rattle.data_ops.specs.declared.write.Stage.TheVariants.{Nothing as NothingWritten, Inside, Growing as GrowsByWrite}
use Rattle.running_calls.specs.declared.running.Running.{Running}
use Rattle.running_calls.specs.declared.running.Running.TheVariants.{Makes, Links, Removes, Moves, Writes, Resizes}
use Rattle.running_calls.specs.Stages.{left_of}
use Rattle.running_laws.specs.Waits.{bytes_of_command, Waits}
use Rattle.session_laws.specs.Calls.{Call, Calls, call_at, fences_of_call}
use Rattle.session_laws.specs.Moving.{MoveWaits}
use Rattle.sessions.specs.Interleave.{InterleaveView, AllWait, idle, beside, alone, IsWeaving}

-- ---- by how many pages go

-- the owners of so many pages and of the one that is given back, and the rest of them with an inode that goes
abbrev owners : Option ℕ → ℕ → ℕ
owners given n = if nat_lt 0 (n + count_of given) then 1 else 0

abbrev rests : Option ℕ → Bool → ℕ → ℕ
rests given goes n = if nat_lt 0 (n + count_of given) || goes then 1 else 0

abbrev losses : Option ℕ → Bool → ℕ → ℕ
losses given goes n = owners given n + (rests given goes n + 0)

module _ (P Q : ℕ) where
  removal_fences : (removal : Removal) (stage : RemovalStage) (pages others : List ℕ) → length pages ≡ length others
      → fences_in (removals.left_at P removal pages stage) ≡ fences_in (removals.left_at Q removal others stage)
  removal_fences removal NameThere pages others same = ap (λ (n : ℕ). 1 + (1 + losses removal.given_back removal.loss.goes n)) same
  removal_fences removal Unnamed pages others same = ap (λ (n : ℕ). 1 + losses removal.given_back removal.loss.goes n) same
  removal_fences removal SlotCleared pages others same = ap (λ (n : ℕ). losses removal.given_back removal.loss.goes n) same
  removal_fences removal PagesDisowned pages others same = ap (λ (n : ℕ). rests removal.given_back removal.loss.goes n + 0) same

  claimed : (directory : ℕ) (page : Option ℕ) (one other : List Step) → fences_in one ≡ fences_in other
      → fences_in (claim_steps P directory page ++ one) ≡ fences_in (claim_steps Q directory page ++ other)
  claimed directory None one other same = same
  claimed directory (Some page) one other same = ap (λ (n : ℕ). 1 + n) same

  opened : (moving : Moving) (page : Option ℕ) (one other : List Step) → fences_in one ≡ fences_in other
      → fences_in (opening P moving page ++ one) ≡ fences_in (opening Q moving page ++ other)
  opened moving None one other same = same
  opened moving (Some page) one other same = ap (λ (n : ℕ). 1 + (1 + n)) same

  moving_fences : (moving : Moving) (pages others : List ℕ) → length pages ≡ length others
      → fences_in (moves.left_at P moving pages Opened) ≡ fences_in (moves.left_at Q moving others Opened)
  moving_fences moving pages others same = ap (λ (n : ℕ). 1 + (1 + (1 + (1 + losses moving.given_back (goes_of moving.replaced) n)))) same

  move_fences : (moving : Moving) (progress : MoveProgress) (pages others : List ℕ) → length pages ≡ length others
      → fences_in (moves.left_at P moving pages progress) ≡ fences_in (moves.left_at Q moving others progress)
  move_fences moving MoveBegun pages others same =
      opened moving moving.new_page (moves.left_at P moving pages Opened) (moves.left_at Q moving others Opened) (moving_fences moving pages others same)
  move_fences moving MoveFilled pages others same =
      claimed moving.to_directory moving.new_page (moves.left_at P moving pages Opened) (moves.left_at Q moving others Opened) (moving_fences moving pages others same)
  move_fences moving Opened pages others same = moving_fences moving pages others same
  move_fences moving Pointed pages others same = ap (λ (n : ℕ). 1 + (1 + (1 + losses moving.given_back (goes_of moving.replaced) n))) same
  move_fences moving Moved pages others same = ap (λ (n : ℕ). 1 + (1 + losses moving.given_back (goes_of moving.replaced) n)) same
  move_fences moving Left pages others same = ap (λ (n : ℕ). 1 + losses moving.given_back (goes_of moving.replaced) n) same
  move_fences moving Cleared pages others same = ap (λ (n : ℕ). losses moving.given_back (goes_of moving.replaced) n) same
  move_fences moving Disowned pages others same = ap (λ (n : ℕ). rests moving.given_back (goes_of moving.replaced) n + 0) same

  cut_fences : (resizing : Resizing) (progress : CutProgress) (pages others : List ℕ) → length (cutting.gone_pages resizing pages) ≡ length (cutting.gone_pages resizing others)
      → fences_in (resizes.left_of_cut P resizing pages progress) ≡ fences_in (resizes.left_of_cut Q resizing others progress)
  cut_fences resizing CutBegun pages others same = ap (λ (n : ℕ). 1 + ((if nat_lt 0 n then 1 else 0) + ((if nat_lt 0 n then 1 else 0) + 0))) same
  cut_fences resizing Lowered pages others same = ap (λ (n : ℕ). (if nat_lt 0 n then 1 else 0) + ((if nat_lt 0 n then 1 else 0) + 0)) same
  cut_fences resizing Trimmed pages others same = ap (λ (n : ℕ). (if nat_lt 0 n then 1 else 0) + 0) same

  place_fences : (directory slot inode : ℕ) (place : NamePlace Clean)
      → fences_in (left_of_place P directory slot inode place) ≡ fences_in (left_of_place Q directory slot inode place)
  place_fences directory slot inode (Slot dentry) = refl
  place_fences directory slot inode (Page page) = refl

-- so many pages go as the plan of a cut has
last_pages : (resizing : Resizing) (pages : List ℕ) → resizing.cut ≤ length pages → length (cutting.gone_pages resizing pages) ≡ resizing.cut
last_pages resizing pages enough = let long = length-drop (length pages - resizing.cut) pages in omega (arith, long, enough)

-- ---- where it waits beside others

module _ (old new : VolumeView) (before after : DeviceView) (words later : State) (command : Command) (others now : Residue) where
  abbrev bytes : List ℕ
  bytes = bytes_of_command command

  entry_fences : (entry : NewEntry) (stage : EntryStage) → Waits old before words command (Makes (record { entry = entry; stage = stage })) others
      → fences_in (entries.left_at new.size entry stage) ≡ fences_in (entries.left_at old.size entry stage)
  entry_fences entry EntryBegun was = absurd was.2.name
  entry_fences entry (EntryWritten node) was = place_fences new.size old.size entry.directory entry.slot entry.inode node.place
  entry_fences entry (EntryClaimed node) was = refl

  link_fences : (link : NewName) (stage : LinkStage) → Waits old before words command (Links (record { link = link; stage = stage })) others
      → fences_in (links.left_at new.size link stage) ≡ fences_in (links.left_at old.size link stage)
  link_fences link LinkBegun was = absurd was.3.name
  link_fences link (LinkWritten file) was = place_fences new.size old.size link.directory link.slot link.inode file.place
  link_fences link (LinkClaimed file) was = refl

  write_fences : (stage : WriteStage) → fences_in (left_of new bytes (Writes stage)) ≡ fences_in (left_of old bytes (Writes stage))
  write_fences NothingWritten = refl
  write_fences (Inside writing) = refl
  write_fences (GrowsByWrite writing Begun) = refl
  write_fences (GrowsByWrite writing Filled) = refl
  write_fences (GrowsByWrite writing Owned) = refl

  resize_fences : (stage : ResizeStage) → Waits old before words command (Resizes stage) others → Waits new after later command (Resizes stage) now
      → fences_in (left_of new bytes (Resizes stage)) ≡ fences_in (left_of old bytes (Resizes stage))
  resize_fences SizeKept was still = refl
  resize_fences (GrowsBySize resizing Begun) was still = refl
  resize_fences (GrowsBySize resizing Filled) was still = refl
  resize_fences (GrowsBySize resizing Owned) was still = refl
  resize_fences (Cutting resizing progress) was still =
      cut_fences new.size old.size resizing progress (pages_of new.index resizing.inode) (pages_of old.index resizing.inode)
      (last_pages resizing (pages_of new.index resizing.inode) still.2.at.2.enough ∙ sym (last_pages resizing (pages_of old.index resizing.inode) was.2.at.2.enough))

  waits_fences : (running : Running) → Waits old before words command running others → Waits new after later command running now
      → fences_in (left_of new bytes running) ≡ fences_in (left_of old bytes running)
  waits_fences (Makes running) was still = entry_fences running.entry running.stage was
  waits_fences (Links running) was still = link_fences running.link running.stage was
  waits_fences (Removes running) was still =
      removal_fences new.size old.size running.removal running.stage (removals.pages_gone new running.removal) (removals.pages_gone old running.removal)
      (still.2.losses.count ∙ sym was.2.losses.count)
  waits_fences (Moves running) was still = absurd was
  waits_fences (Writes running) was still = write_fences running
  waits_fences (Resizes running) was still = resize_fences running was still

-- ---- where a rename runs alone

same_call : (one other : Call) → ◌≡◌ {A = Option Call} (Some one) (Some other) → one ≡ other
same_call one other is = cc

same_moving : (moving other : Moving) (progress later : MoveProgress) → ◌≡◌ {A = Running} (Moves (MovesName moving progress)) (Moves (MovesName other later))
    → moving ≡ other
same_moving moving other progress later is = cc

-- it is whichever call runs
alone_at : (volume : VolumeView) (device : DeviceView) (words : State) (calls : Calls) (r : ℕ) (moved : Call) → MoveWaits volume device words calls r moved
    → (s : ℕ) (other : Call) → call_at calls s ≡ Some other → MoveWaits volume device words calls s other
alone_at volume device words calls r moved wait s other runs = elim (cases_eq r s) [
  | inl same ↦
      let at : MoveWaits volume device words calls s moved = subst (λ (at : ℕ). MoveWaits volume device words calls at moved) same wait in
      subst (λ (call : Call). MoveWaits volume device words calls s call) (same_call moved other (sym at.runs ∙ runs)) at
  | inr differ ↦ absurd (let none = wait.alone s differ in let clash : ◌≡◌ {A = Option Call} None (Some other) = sym none ∙ runs in cc)
]

-- and waits beside none
not_beside : (volume other : VolumeView) (device after : DeviceView) (words later : State) (calls : Calls) (s : ℕ) (call : Call) (residue : Residue)
    → MoveWaits volume device words calls s call → Waits other after later call.command call.running residue → ⊥
not_beside volume other device after words later calls s call residue wait waits =
    subst (λ (running : Running). Waits other after later call.command running residue) wait.running_is waits

moved_fences : (old new : VolumeView) (before after : DeviceView) (words later : State) (calls others : Calls) (s : ℕ) (call : Call) → MoveWaits old before words calls s call
    → MoveWaits new after later others s call → fences_of_call new call ≡ fences_of_call old call
moved_fences old new before after words later calls others s call was still =
    let same = same_moving still.moving was.moving still.progress was.progress (sym still.running_is ∙ was.running_is) in
    let count = subst (λ (moving : Moving). length (gone_pages new moving.replaced) ≡ pages_of_loss moving.replaced) same still.waits.knows.losses.count in
    ap (λ (running : Running). fences_in (left_of new (bytes_of_command call.command) running)) was.running_is
    ∙ move_fences new.size old.size was.moving was.progress (gone_pages new was.moving.replaced) (gone_pages old was.moving.replaced) (count ∙ sym was.waits.knows.losses.count)
    ∙ sym (ap (λ (running : Running). fences_in (left_of old (bytes_of_command call.command) running)) was.running_is)

-- ---- whichever it is

module _ (old new : VolumeView) (before after : DeviceView) (words later : State) (calls others : Calls) (s : ℕ) (other : Call) (runs : call_at calls s ≡ Some other)
    (still : call_at others s ≡ Some other) where
  runs_none : {X : Type 0} → call_at calls s ≡ None → X
  runs_none none = absurd (let clash : ◌≡◌ {A = Option Call} None (Some other) = sym none ∙ runs in cc)

  still_none : {X : Type 0} → call_at others s ≡ None → X
  still_none none = absurd (let clash : ◌≡◌ {A = Option Call} None (Some other) = sym none ∙ still in cc)

  fences_by : AllWait old before words calls → AllWait new after later others → fences_of_call new other ≡ fences_of_call old other
  fences_by (idle none going kept stands) (idle none_on going_on kept_on stands_on) = runs_none (none s)
  fences_by (idle none going kept stands) (beside on kept_on) = runs_none (none s)
  fences_by (idle none going kept stands) (alone q moved on later_on) = runs_none (none s)
  fences_by (beside wait kept) (idle none going kept_on stands) = still_none (none s)
  fences_by (beside wait kept) (beside on kept_on) =
      waits_fences old new before after words later other.command _ _ other.running (wait.each s other runs).waits (on.each s other still).waits
  fences_by (beside wait kept) (alone q moved on later_on) =
      absurd (not_beside new old after before later words others s other _ (alone_at new after later others q moved on s other still) (wait.each s other runs).waits)
  fences_by (alone r moved wait first) (idle none going kept stands) = still_none (none s)
  fences_by (alone r moved wait first) (beside on kept_on) =
      absurd (not_beside old new before after words later calls s other _ (alone_at old before words calls r moved wait s other runs) (on.each s other still).waits)
  fences_by (alone r moved wait first) (alone q now on later_on) =
      moved_fences old new before after words later calls others s other (alone_at old before words calls r moved wait s other runs)
      (alone_at new after later others q now on s other still)

-- The other sessions' calls have as many fences left as before.
pub others_fences : (old new : InterleaveView) (before after : DeviceView) (calls later_calls : Calls) (history later : State) (session : ℕ)
    → IsWeaving old before calls history → IsWeaving new after later_calls later → ((s : ℕ) → s ≢ session → call_at later_calls s ≡ call_at calls s)
    → (s : ℕ) (other : Call) → s ≢ session → call_at calls s ≡ Some other → fences_of_call new.volume other ≡ fences_of_call old.volume other
others_fences old new before after calls later_calls history later session was on same s other differ runs =
    fences_by old.volume new.volume before after was.words on.words calls later_calls s other runs (same s differ ∙ runs) was.waits on.waits
