-- Where a call that begins isn't ended by its first step: what it has left then, and how many of its fences come behind its commit.
use Rattle.std.proofs.Common.{◌≡◌, ℕ, ◌+◌, Bool, true, false, nat_le, nat_lt, if◌then◌else◌, List, [], ◌∷◌, Option, Some, refl, sym, ap, subst, ◌∙◌, arith, true≢false}
use Rattle.std.proofs.lemmas.Bool.{le-leb, ne_eqb}
use Rattle.pm_trait.specs.DeviceView.{DeviceView}
use Rattle.fence_token.specs.declared.states.Clean.{Clean}
use Rattle.tree_model.specs.declared.reply.Reply.{Reply}
use Rattle.tree_model.specs.declared.reply.Reply.TheVariants.{Done, Count}
use Rattle.tree_model.proofs.TreeKept.{same_some}
use Rattle.image_reading.specs.Residue.{Residue}
use Rattle.entry_steps.specs.Waiting.{IsPlaceAt}
use Rattle.entry_steps.specs.declared.place.NamePlace.{NamePlace}
use Rattle.entry_steps.specs.declared.place.NamePlace.TheVariants.{Slot, Page}
use Rattle.volume.specs.Volume.{VolumeView}
use Rattle.volume.specs.Costs.{pages_removed, fences_for_claim, fences_for_growth, fences_for_loss, fences_of_plan}
use Rattle.volume.specs.declared.next.Next.{Next}
use Rattle.volume.specs.declared.next.Next.TheVariants.{More, Ended}
use Rattle.volume.specs.declared.plan.Action.{Action}
use Rattle.volume.specs.declared.plan.Action.TheVariants.{Make, Name, Remove, Move, Write as WriteBytes, WriteNothing, Resize, KeepSize, KeepNames}
use Rattle.volume.specs.declared.plan.Action.TheVariants.{Read as ReadBytes, Status, Names, Space}
use Rattle.volume.specs.declared.plan.NewEntry.{NewEntry}
use Rattle.volume.specs.declared.plan.NewName.{NewName}
use Rattle.volume.specs.declared.plan.Removal.{Removal}
use Rattle.volume.specs.declared.plan.Resizing.{Resizing}
use Rattle.volume.specs.declared.plan.Writing.{Writing}
use Rattle.create_ops.specs.Stages as entries
use Rattle.create_ops.specs.declared.node.NewNode.{NewNode}
use Rattle.create_ops.specs.declared.run.Stage.TheVariants.{Written as NodeWritten}
use Rattle.unlink_ops.specs.LinkStages as links
use Rattle.unlink_ops.specs.declared.link.NamedFile.{NamedFile}
use Rattle.unlink_ops.specs.declared.link.Stage.TheVariants.{Written as LinkWritten}
use Rattle.unlink_ops.specs.RemovalStages as removals
use Rattle.unlink_ops.specs.declared.removal.Stage.TheVariants.{Unnamed}
use Rattle.rename_ptr.specs.Stages as moves
use Rattle.data_ops.specs.GrowthStages.{next_of_growth}
use Rattle.data_ops.specs.ResizeStages as resizes
use Rattle.data_ops.specs.WriteStages as writes
use Rattle.data_ops.specs.declared.grow.Progress.TheVariants.{Begun, Filled, Owned}
use Rattle.data_ops.specs.declared.truncate.CutProgress.TheVariants.{Begun as CutBegun, Lowered}
use Rattle.data_ops.specs.declared.truncate.Stage.{Stage as ResizeStage}
use Rattle.data_ops.specs.declared.truncate.Stage.TheVariants.{Nothing as SizeKept, Growing as GrowsBySize, Cutting}
use Rattle.data_ops.specs.declared.write.Stage.{Stage as WriteStage}
use Rattle.data_ops.specs.declared.write.Stage.TheVariants.{Nothing as NothingWritten, Inside, Growing as GrowsByWrite}
use Rattle.running_calls.specs.declared.running.Running.{Running}
use Rattle.running_calls.specs.declared.running.Running.TheVariants.{Makes, Links, Removes, Moves, Writes, Resizes}
use Rattle.running_calls.specs.Stages.{StandsStage, IsNext, as_call, begun}
use Rattle.waiting_laws.specs.Crashes.{is_in_place}
use Rattle.waiting_laws.specs.Growing.{pages_left_by}
use Rattle.running_laws.specs.Waits.{left_by}
use Rattle.running_laws.specs.Steps.{commits, has_committed, runs_beside}
use Rattle.session_laws.specs.Going.{behind_commit}
use Rattle.session_laws.proofs.BeginKept.{none_begins, alone}
use Rattle.session_laws.proofs.BeginNeeds.{left_of_plan}
use Rattle.session_laws.proofs.MoveBehind.{IsBehind}

-- Until it has committed it has left what is its own by its plan, which has so many fences, and so many of them behind its commit.
pub record IsBegun (new : VolumeView) (own : Residue) (fences behind : ℕ) (first next : Running) : Type 0 where
  pub quiet : has_committed next ≡ false → commits first ≡ false
  pub left : has_committed next ≡ false → left_by new next ≡ own
  pub behind_it : (left : ℕ) → fences ≡ 1 + left → IsBehind left behind (commits next) (has_committed next)

-- ---- more or nothing

no_more : {X : Type 0} (running : Running) (reply : Reply) → ◌≡◌ {A = Next Running} (More running) (Ended reply) → X
no_more running reply is = absurd (cc)

same_more : (one other : Running) → ◌≡◌ {A = Next Running} (More one) (More other) → one ≡ other
same_more one other is = cc

module _ (new : VolumeView) (after : DeviceView) (bytes : List ℕ) (running : Running) (stands : StandsStage new after bytes running) where
  -- it goes on with this one
  goes_with : (own : Residue) (fences behind : ℕ) (first next : Running) → More running ≡ More next → (StandsStage new after bytes next → IsBegun new own fences behind first next)
      → IsBegun new own fences behind first running
  goes_with own fences behind first next is begun_is =
      let same = same_more running next is in
      subst (λ (r : Running). IsBegun new own fences behind first r) (sym same) (begun_is (subst (λ (r : Running). StandsStage new after bytes r) same stands))

  -- ---- a new name, which is in place, or waits for its page

  place_behind : (device : DeviceView) (P d s : ℕ) (new_page : Option ℕ) (place : NamePlace Clean) (left : ℕ) → IsPlaceAt P d s new_page place device
      → 2 + fences_for_claim new_page ≡ 1 + left → IsBehind left 0 (is_in_place place) false
  place_behind device P d s new_page (Slot slot) left at all =
      let none = ap fences_for_claim at.1 in
      let one : 1 ≡ left = omega (arith, all, none) in
      subst (λ n. IsBehind n 0 true false) one (record { commit = refl; committed = refl })
  place_behind device P d s new_page (Page page) left at all =
      let some = ap fences_for_claim at.page_is in
      let two : 2 ≡ left = omega (arith, all, some) in
      subst (λ n. IsBehind n 0 false false) two (record { commit = refl; committed = refl })

  makes_on : (entry : NewEntry) (node : NewNode) → StandsStage new after bytes (Makes (record { entry = entry; stage = NodeWritten node }))
      → IsBegun new (left_of_plan (Make entry)) (fences_of_plan (Make entry)) 0 (Makes (entries.begun entry)) (Makes (record { entry = entry; stage = NodeWritten node }))
  makes_on entry node at = record {
    quiet = λ none. refl;
    left = λ none. refl;
    behind_it = λ left all. place_behind after new.size entry.directory entry.slot entry.new_page node.place left at.words.1 all;
  }

  links_on : (link : NewName) (file : NamedFile) → StandsStage new after bytes (Links (record { link = link; stage = LinkWritten file }))
      → IsBegun new (left_of_plan (Name link)) (fences_of_plan (Name link)) 0 (Links (links.begun link)) (Links (record { link = link; stage = LinkWritten file }))
  links_on link file at = record {
    quiet = λ none. refl;
    left = λ none. refl;
    behind_it = λ left all. place_behind after new.size link.directory link.slot link.new_page file.place left at.words.1 all;
  }

  -- ---- a step that has committed

  committed_behind : (losing left : ℕ) → left ≡ losing → IsBehind left losing false true
  committed_behind losing left is = record {
    commit = sym (ne_eqb left (losing + 1) (λ same. omega (arith, same, is)));
    committed = sym (le-leb left losing (omega (arith, is)));
  }

  removes_on : (removal : Removal)
      → IsBegun new (left_of_plan (Remove removal)) (fences_of_plan (Remove removal)) (behind_commit (Remove removal)) (Removes (removals.begun removal))
      (Removes (record { removal = removal; stage = Unnamed }))
  removes_on removal = record {
    quiet = λ none. absurd (true≢false none);
    left = λ none. absurd (true≢false none);
    behind_it = λ left all. committed_behind (1 + fences_for_loss (pages_removed removal) removal.loss.goes) left (omega (arith, all));
  }

  cut_on : (resizing : Resizing) (own : Residue)
      → IsBegun new own (1 + fences_for_loss resizing.cut false) (fences_for_loss resizing.cut false) (Resizes (Cutting resizing CutBegun)) (Resizes (Cutting resizing Lowered))
  cut_on resizing own = record {
    quiet = λ none. absurd (true≢false none);
    left = λ none. absurd (true≢false none);
    behind_it = λ left all. committed_behind (fences_for_loss resizing.cut false) left (omega (arith, all));
  }

  -- ---- a growth, with new pages or without

  growth_behind : (fences left : ℕ) (is_last : Bool) → fences ≡ 1 + left → fences ≡ (if is_last then 2 else 3) → IsBehind left 0 is_last false
  growth_behind fences left true all is = let one : 1 ≡ left = omega (arith, all, is) in subst (λ n. IsBehind n 0 true false) one (record { commit = refl; committed = refl })
  growth_behind fences left false all is = let two : 2 ≡ left = omega (arith, all, is) in subst (λ n. IsBehind n 0 false false) two (record { commit = refl; committed = refl })

  module _ (writing : Writing) where
    abbrev WriteBegun : ℕ → WriteStage → Type 0
    WriteBegun fences first = IsBegun new (pages_left_by writing.inode writing.new_pages) fences 0 (Writes first) running

    write_grows : (pages : List ℕ) → More running ≡ as_call Writes (writes.next_growing writing (next_of_growth Begun pages))
        → WriteBegun (fences_for_growth pages) (GrowsByWrite writing Begun)
    write_grows [] is = goes_with _ 2 0 (Writes (GrowsByWrite writing Begun)) (Writes (GrowsByWrite writing Owned)) is (λ at. record {
      quiet = λ none. refl;
      left = λ none. refl;
      behind_it = λ left all. growth_behind 2 left true all refl;
    })
    write_grows (page ∷ pages) is = goes_with _ 3 0 (Writes (GrowsByWrite writing Begun)) (Writes (GrowsByWrite writing Filled)) is (λ at. record {
      quiet = λ none. refl;
      left = λ none. refl;
      behind_it = λ left all. growth_behind 3 left false all refl;
    })

    write_on : (inside : Bool) → More running ≡ as_call Writes (writes.next_of (if inside then Inside writing else GrowsByWrite writing Begun))
        → WriteBegun (if inside then 1 else fences_for_growth writing.new_pages) (if inside then Inside writing else GrowsByWrite writing Begun)
    write_on true is = no_more running (Count writing.count) is
    write_on false is = write_grows writing.new_pages is

  module _ (resizing : Resizing) where
    abbrev ResizeBegun : ℕ → ℕ → ResizeStage → Type 0
    ResizeBegun fences behind first = IsBegun new (pages_left_by resizing.inode resizing.new_pages) fences behind (Resizes first) running

    resize_grows : (pages : List ℕ) → More running ≡ as_call Resizes (resizes.next_growing resizing (next_of_growth Begun pages))
        → ResizeBegun (fences_for_growth pages) 0 (GrowsBySize resizing Begun)
    resize_grows [] is = goes_with _ 2 0 (Resizes (GrowsBySize resizing Begun)) (Resizes (GrowsBySize resizing Owned)) is (λ at. record {
      quiet = λ none. refl;
      left = λ none. refl;
      behind_it = λ left all. growth_behind 2 left true all refl;
    })
    resize_grows (page ∷ pages) is = goes_with _ 3 0 (Resizes (GrowsBySize resizing Begun)) (Resizes (GrowsBySize resizing Filled)) is (λ at. record {
      quiet = λ none. refl;
      left = λ none. refl;
      behind_it = λ left all. growth_behind 3 left false all refl;
    })

    cut_by : (some : Bool) → More running ≡ as_call Resizes (if some then More (Cutting resizing Lowered) else Ended Done)
        → ResizeBegun (1 + fences_for_loss resizing.cut false) (fences_for_loss resizing.cut false) (Cutting resizing CutBegun)
    cut_by true is =
        let losing = fences_for_loss resizing.cut false in
        let own = pages_left_by resizing.inode resizing.new_pages in
        goes_with own (1 + losing) losing (Resizes (Cutting resizing CutBegun)) (Resizes (Cutting resizing Lowered)) is (λ at. cut_on resizing own)
    cut_by false is = no_more running Done is

    resize_on : (grows : Bool) → More running ≡ as_call Resizes (resizes.next_of (if grows then GrowsBySize resizing Begun else Cutting resizing CutBegun))
        → ResizeBegun (if grows then fences_for_growth resizing.new_pages else 1 + fences_for_loss resizing.cut false) (if grows then 0 else fences_for_loss resizing.cut false)
        (if grows then GrowsBySize resizing Begun else Cutting resizing CutBegun)
    resize_on true is = resize_grows resizing.new_pages is
    resize_on false is = cut_by (nat_lt 0 resizing.cut) is

  -- ---- by plan

  abbrev GoesBegun : Action → Running → Type 0
  GoesBegun action first = IsNext first (More running) → IsBegun new (left_of_plan action) (fences_of_plan action) (behind_commit action) first running

  begun_with : (action : Action) (one first : Running) → Some one ≡ Some first → GoesBegun action one → GoesBegun action first
  begun_with action one first begins goes = subst (GoesBegun action) (same_some one first begins) goes

  make_goes : (entry : NewEntry) → GoesBegun (Make entry) (Makes (entries.begun entry))
  make_goes entry (left, (node, is), same) =
      goes_with _ _ 0 (Makes (entries.begun entry)) (Makes (record { entry = entry; stage = NodeWritten node })) (same ∙ ap (as_call Makes) is) (makes_on entry node)

  name_goes : (link : NewName) → GoesBegun (Name link) (Links (links.begun link))
  name_goes link (left, (file, is), same) =
      goes_with _ _ 0 (Links (links.begun link)) (Links (record { link = link; stage = LinkWritten file })) (same ∙ ap (as_call Links) is) (links_on link file)

  goes_begun : (action : Action) (first : Running) → begun action ≡ Some first → runs_beside first ≡ true → GoesBegun action first
  goes_begun (Make entry) first begins beside = begun_with (Make entry) (Makes (entries.begun entry)) first begins (make_goes entry)
  goes_begun (Name link) first begins beside = begun_with (Name link) (Links (links.begun link)) first begins (name_goes link)
  goes_begun (Remove removal) first begins beside =
      begun_with (Remove removal) (Removes (removals.begun removal)) first begins
      (λ is. goes_with _ _ _ (Removes (removals.begun removal)) (Removes (record { removal = removal; stage = Unnamed })) is (λ at. removes_on removal))
  goes_begun (Move moving) first begins beside = alone (Moves (moves.begun (Move moving))) first begins refl beside
  goes_begun (WriteBytes writing) first begins beside =
      begun_with (WriteBytes writing) (Writes (writes.begun_writing writing)) first begins (write_on writing (nat_le (writing.offset + writing.count) writing.old_size))
  goes_begun WriteNothing first begins beside = begun_with WriteNothing (Writes NothingWritten) first begins (λ is. no_more running (Count 0) is)
  goes_begun (Resize resizing) first begins beside =
      begun_with (Resize resizing) (Resizes (resizes.begun_resizing resizing)) first begins (resize_on resizing (nat_lt resizing.old_size resizing.new_size))
  goes_begun KeepSize first begins beside = begun_with KeepSize (Resizes SizeKept) first begins (λ is. no_more running Done is)
  goes_begun KeepNames first begins beside = alone (Moves (moves.begun KeepNames)) first begins refl beside
  goes_begun (ReadBytes reading) first begins beside = none_begins first begins
  goes_begun (Status inode) first begins beside = none_begins first begins
  goes_begun (Names inode) first begins beside = none_begins first begins
  goes_begun Space first begins beside = none_begins first begins

pub first_goes : (new : VolumeView) (after : DeviceView) (bytes : List ℕ) (action : Action) (first running : Running) → begun action ≡ Some first → runs_beside first ≡ true
    → IsNext first (More running) → StandsStage new after bytes running → IsBegun new (left_of_plan action) (fences_of_plan action) (behind_commit action) first running
first_goes new after bytes action first running begins beside is stands = goes_begun new after bytes running stands action first begins beside is
