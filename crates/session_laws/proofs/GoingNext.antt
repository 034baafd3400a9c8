-- A call that waits goes on: where it isn't ended by its step, the step commits nothing, and what it has left stays until it has committed.
use Rattle.std.proofs.Common.{◌≡◌, ℕ, true, false, Bool, if◌then◌else◌, nat_lt, List, refl, sym, subst, ◌∙◌, true≢false}
use Rattle.pm_trait.specs.DeviceView.{DeviceView}
use Rattle.pm_trait.specs.Unfolds.{fences_in}
use Rattle.fence_token.specs.declared.states.Clean.{Clean}
use Rattle.tree_model.specs.Run.{State}
use Rattle.tree_model.specs.declared.command.Command.{Command}
use Rattle.tree_model.specs.declared.reply.Reply.TheVariants.{Done}
use Rattle.image_reading.specs.Residue.{Residue}
use Rattle.inode_state.specs.Inode.{InodeView}
use Rattle.volume.specs.Volume.{VolumeView}
use Rattle.volume.specs.Costs.{pages_removed}
use Rattle.volume.specs.declared.next.Next.{Next}
use Rattle.volume.specs.declared.next.Next.TheVariants.{More, Ended}
use Rattle.volume.specs.declared.plan.NewEntry.{NewEntry}
use Rattle.volume.specs.declared.plan.NewName.{NewName}
use Rattle.volume.specs.declared.plan.Removal.{Removal}
use Rattle.entry_steps.specs.declared.place.NamePlace.{NamePlace}
use Rattle.entry_steps.specs.declared.place.NamePlace.TheVariants.{Slot, Page}
use Rattle.create_ops.specs.Stages as entries
use Rattle.create_ops.specs.declared.run.Stage.{Stage as EntryStage}
use Rattle.create_ops.specs.declared.run.Stage.TheVariants.{Begun as EntryBegun, Written as EntryWritten, Claimed as EntryClaimed}
use Rattle.unlink_ops.specs.LinkStages as links
use Rattle.unlink_ops.specs.declared.link.Stage.{Stage as LinkStage}
use Rattle.unlink_ops.specs.declared.link.Stage.TheVariants.{Begun as LinkBegun, Written as LinkWritten, Claimed as LinkClaimed}
use Rattle.unlink_ops.specs.RemovalStages as removals
use Rattle.unlink_ops.specs.declared.removal.Stage.{Stage as RemovalStage}
use Rattle.unlink_ops.specs.declared.removal.Stage.TheVariants.{Begun as NameThere, Unnamed, Cleared as SlotCleared, Disowned as PagesDisowned}
use Rattle.data_ops.specs.declared.grow.Progress.TheVariants.{Begun, Filled, Owned}
use Rattle.data_ops.specs.declared.truncate.CutProgress.TheVariants.{Begun as CutBegun, Lowered, Trimmed}
use Rattle.data_ops.specs.declared.truncate.Stage.{Stage as ResizeStage}
use Rattle.data_ops.specs.declared.truncate.Stage.TheVariants.{Nothing as SizeKept, Growing as GrowsBySize, Cutting}
use Rattle.data_ops.specs.declared.write.Stage.{Stage as WriteStage}
use Rattle.data_ops.specs.declared.write.Stage.TheVariants.{Nothing as NothingWritten, Inside, Growing as GrowsByWrite}
use Rattle.data_ops.specs.ResizeStages as resizes
use Rattle.data_ops.specs.WriteStages as writes
use Rattle.running_calls.specs.declared.running.Running.{Running}
use Rattle.running_calls.specs.declared.running.Running.TheVariants.{Makes, Links, Removes, Moves, Writes, Resizes}
use Rattle.running_calls.specs.Stages.{IsNext, as_call, left_of}
use Rattle.running_laws.specs.Waits.{left_by, Waits}
use Rattle.running_laws.specs.Steps.{commits, has_committed}

-- The step commits nothing; a call that has committed commits no more, and one that hasn't commits in the step that is its last.
pub record GoesOn (old new : VolumeView) (bytes : List ℕ) (running next : Running) : Type 0 where
  pub quiet : commits running ≡ false
  pub committed : has_committed next ≡ has_committed running
  pub left : has_committed next ≡ false → left_by new next ≡ left_by old running
  pub done : has_committed next ≡ true → commits next ≡ false
  pub commit : has_committed next ≡ false → commits next ≡ true
  pub last : has_committed next ≡ false → fences_in (left_of new bytes next) ≡ 1

-- and where the call ends nothing is said
abbrev pub GoesTo : VolumeView → VolumeView → List ℕ → Running → Next Running → Type 0
GoesTo old new bytes running (More next) = GoesOn old new bytes running next
GoesTo old new bytes running (Ended reply) = Unit {0}

module _ (old new : VolumeView) (bytes : List ℕ) where
  -- one step before the one that commits
  before_last : (running next : Running) → commits running ≡ false → has_committed next ≡ has_committed running → left_by new next ≡ left_by old running → commits next ≡ true
      → fences_in (left_of new bytes next) ≡ 1 → has_committed next ≡ false → GoesOn old new bytes running next
  before_last running next quiet committed left commit last not_yet = record {
    quiet = quiet;
    committed = committed;
    left = λ none. left;
    done = λ has. absurd (true≢false (sym has ∙ not_yet));
    commit = λ none. commit;
    last = λ none. last;
  }

  -- behind the one that committed
  behind_commit : (running next : Running) → commits running ≡ false → has_committed running ≡ true → has_committed next ≡ true
      → commits next ≡ false → GoesOn old new bytes running next
  behind_commit running next quiet has also done = record {
    quiet = quiet;
    committed = also ∙ sym has;
    left = λ none. absurd (true≢false (sym also ∙ none));
    done = λ is. done;
    commit = λ none. absurd (true≢false (sym also ∙ none));
    last = λ none. absurd (true≢false (sym also ∙ none));
  }

  module _ (device : DeviceView) (state : State) (command : Command) (others : Residue) where
    -- ---- an entry, and one more name

    entry_placed : (entry : NewEntry) (inode : InodeView) (place : NamePlace Clean) (left : Next entries.RunningView) → entries.IsAfterPlace entry place left
        → GoesTo old new bytes (Makes (record { entry = entry; stage = EntryWritten (record { inode = inode; place = place }) })) (as_call Makes left)
    entry_placed entry inode (Slot slot) left is =
        let running : Running = Makes (record { entry = entry; stage = EntryWritten (record { inode = inode; place = Slot slot }) }) in
        subst (λ (l : Next entries.RunningView). GoesTo old new bytes running (as_call Makes l)) (sym is) tt
    entry_placed entry inode (Page page) left (node, is) =
        let running : Running = Makes (record { entry = entry; stage = EntryWritten (record { inode = inode; place = Page page }) }) in
        subst (λ (l : Next entries.RunningView). GoesTo old new bytes running (as_call Makes l)) (sym is)
        (before_last running (Makes (record { entry = entry; stage = EntryClaimed node })) refl refl refl refl refl refl)

    entry_goes : (entry : NewEntry) (stage : EntryStage) (left : Next entries.RunningView) → Waits old device state command (Makes (record { entry = entry; stage = stage })) others
        → entries.IsAfter entry stage left → GoesTo old new bytes (Makes (record { entry = entry; stage = stage })) (as_call Makes left)
    entry_goes entry EntryBegun left waits is = absurd waits.2.name
    entry_goes entry (EntryWritten node) left waits is = entry_placed entry node.inode node.place left is
    entry_goes entry (EntryClaimed node) left waits is =
        let running : Running = Makes (record { entry = entry; stage = EntryClaimed node }) in
        subst (λ (l : Next entries.RunningView). GoesTo old new bytes running (as_call Makes l)) (sym is) tt

    link_placed : (link : NewName) (inode : InodeView) (place : NamePlace Clean) (left : Next links.RunningView) → links.IsAfterPlace link place left
        → GoesTo old new bytes (Links (record { link = link; stage = LinkWritten (record { inode = inode; place = place }) })) (as_call Links left)
    link_placed link inode (Slot slot) left is =
        let running : Running = Links (record { link = link; stage = LinkWritten (record { inode = inode; place = Slot slot }) }) in
        subst (λ (l : Next links.RunningView). GoesTo old new bytes running (as_call Links l)) (sym is) tt
    link_placed link inode (Page page) left (file, is) =
        let running : Running = Links (record { link = link; stage = LinkWritten (record { inode = inode; place = Page page }) }) in
        subst (λ (l : Next links.RunningView). GoesTo old new bytes running (as_call Links l)) (sym is)
        (before_last running (Links (record { link = link; stage = LinkClaimed file })) refl refl refl refl refl refl)

    link_goes : (link : NewName) (stage : LinkStage) (left : Next links.RunningView) → Waits old device state command (Links (record { link = link; stage = stage })) others
        → links.IsAfter link stage left → GoesTo old new bytes (Links (record { link = link; stage = stage })) (as_call Links left)
    link_goes link LinkBegun left waits is = absurd waits.3.name
    link_goes link (LinkWritten file) left waits is = link_placed link file.inode file.place left is
    link_goes link (LinkClaimed file) left waits is =
        let running : Running = Links (record { link = link; stage = LinkClaimed file }) in
        subst (λ (l : Next links.RunningView). GoesTo old new bytes running (as_call Links l)) (sym is) tt

    -- ---- a name that goes

    abbrev RemovalGoes : Removal → RemovalStage → Next removals.RunningView → Type 0
    RemovalGoes removal stage left = GoesTo old new bytes (Removes (record { removal = removal; stage = stage })) (as_call Removes left)

    unnamed_goes : (removal : Removal) (some goes : Bool)
        → RemovalGoes removal Unnamed (if some then removals.at_stage removal SlotCleared else if goes then removals.at_stage removal PagesDisowned else Ended Done)
    unnamed_goes removal true goes =
        behind_commit (Removes (record { removal = removal; stage = Unnamed })) (Removes (record { removal = removal; stage = SlotCleared })) refl refl refl refl
    unnamed_goes removal false true =
        behind_commit (Removes (record { removal = removal; stage = Unnamed })) (Removes (record { removal = removal; stage = PagesDisowned })) refl refl refl refl
    unnamed_goes removal false false = tt

    removal_goes : (removal : Removal) (stage : RemovalStage) → Waits old device state command (Removes (record { removal = removal; stage = stage })) others
        → RemovalGoes removal stage (removals.next_of removal stage)
    removal_goes removal NameThere waits = absurd waits.2.falling
    removal_goes removal Unnamed waits = unnamed_goes removal (nat_lt 0 (pages_removed removal)) removal.loss.goes
    removal_goes removal SlotCleared waits =
        behind_commit (Removes (record { removal = removal; stage = SlotCleared })) (Removes (record { removal = removal; stage = PagesDisowned })) refl refl refl refl
    removal_goes removal PagesDisowned waits = tt

    -- ---- a file

    write_goes : (stage : WriteStage) → Waits old device state command (Writes stage) others → GoesTo old new bytes (Writes stage) (as_call Writes (writes.next_of stage))
    write_goes NothingWritten waits = absurd waits
    write_goes (Inside writing) waits = absurd waits
    write_goes (GrowsByWrite writing Begun) waits = absurd waits.6.new_pages
    write_goes (GrowsByWrite writing Filled) waits = before_last (Writes (GrowsByWrite writing Filled)) (Writes (GrowsByWrite writing Owned)) refl refl refl refl refl refl
    write_goes (GrowsByWrite writing Owned) waits = tt

    resize_goes : (stage : ResizeStage) → Waits old device state command (Resizes stage) others → GoesTo old new bytes (Resizes stage) (as_call Resizes (resizes.next_of stage))
    resize_goes SizeKept waits = absurd waits
    resize_goes (GrowsBySize resizing Begun) waits = absurd waits.4.new_pages
    resize_goes (GrowsBySize resizing Filled) waits = before_last (Resizes (GrowsBySize resizing Filled)) (Resizes (GrowsBySize resizing Owned)) refl refl refl refl refl refl
    resize_goes (GrowsBySize resizing Owned) waits = tt
    resize_goes (Cutting resizing CutBegun) waits = absurd waits.2.cut
    resize_goes (Cutting resizing Lowered) waits = behind_commit (Resizes (Cutting resizing Lowered)) (Resizes (Cutting resizing Trimmed)) refl refl refl refl
    resize_goes (Cutting resizing Trimmed) waits = tt

    -- ---- whatever it does

    goes : (running : Running) (next : Next Running) → Waits old device state command running others → IsNext running next → GoesTo old new bytes running next
    goes (Makes running) next waits (left, after, is) = subst (GoesTo old new bytes (Makes running)) (sym is) (entry_goes running.entry running.stage left waits after)
    goes (Links running) next waits (left, after, is) = subst (GoesTo old new bytes (Links running)) (sym is) (link_goes running.link running.stage left waits after)
    goes (Removes running) next waits is = subst (GoesTo old new bytes (Removes running)) (sym is) (removal_goes running.removal running.stage waits)
    goes (Moves running) next waits is = absurd waits
    goes (Writes running) next waits is = subst (GoesTo old new bytes (Writes running)) (sym is) (write_goes running waits)
    goes (Resizes running) next waits is = subst (GoesTo old new bytes (Resizes running)) (sym is) (resize_goes running waits)

pub goes_on : (old new : VolumeView) (bytes : List ℕ) (device : DeviceView) (state : State) (command : Command) (others : Residue) (running next : Running)
    → Waits old device state command running others → IsNext running (More next) → GoesOn old new bytes running next
goes_on old new bytes device state command others running next waits is = goes old new bytes device state command others running (More next) waits is
