-- What the plan of a truncation says of its file, what its steps cost and leave, and that the volume stands for what the command leaves.
use Rattle.std.proofs.Common.{◌≡◌, ◌≢◌, ℕ, ◌-◌, ◌<◌, ◌≤◌, false, List, [], length, Option, Some, unwrap_or, refl, sym, ap, subst, ◌∙◌, arith, ◌⊎◌, inl, inr, ◌+◌, nat_lt, Contains}
use Rattle.std.specs.Prelude.{Result, OnOk, Ok}
use Rattle.std.proofs.lemmas.Bool.{cases_lt, eqb-true, eqb-false, ltb-true, ltb-false}
use Rattle.std.proofs.lemmas.List.{nil_from_length}
use Rattle.pm_trait.specs.DeviceView.{DeviceView, IsSettledView, MakesIntervals}
use Rattle.pm_trait.specs.Trail.{Trail}
use Rattle.pm_trait.specs.Unfolds.{events_in, fences_in, Unfolds}
use Rattle.pm_trait.proofs.Unfolding.{intervals, map_ok}
use Rattle.pm_trait.proofs.DeviceViewLaws.{intervals_none}
use Rattle.layout.specs.Geometry.{pieces, inode_word_of}
use Rattle.layout.specs.Fields.{inode_size, word}
use Rattle.layout.specs.Superblock.{has_mark}
use Rattle.tree_model.specs.Capacity.{untaken}
use Rattle.tree_model.specs.PathText.{Route}
use Rattle.tree_model.specs.Run.{State}
use Rattle.tree_model.specs.Step.{id_of, Done, least_free_id}
use Rattle.tree_model.specs.Tree.{root_id, bytes_of, page_bytes}
use Rattle.tree_model.specs.Accepted.{MayTruncate, IsFileAt}
use Rattle.tree_model.specs.declared.command.Command.{Command}
use Rattle.tree_model.specs.declared.command.Command.TheVariants.{Truncate}
use Rattle.tree_model.proofs.AcceptedLaws.{Accepted-from_row}
use Rattle.tree_model.specs.declared.reply.Reply.{Reply}
use Rattle.tree_model.specs.declared.reply.Reply.TheVariants.{Done as Told}
use Rattle.image_reading.specs.Reading.{pages_of_size}
use Rattle.image_reading.specs.Soundness.{IsCoherent}
use Rattle.image_reading.proofs.Tidied.{tidied, as_tidy}
use Rattle.image_counts.proofs.States.{state_law}
use Rattle.image_counts.specs.Entries.{IsFreePage}
use Rattle.image_laws.specs.CreateStep.{IsStepped}
use Rattle.content_laws.proofs.CutStates.{cut_step_law}
use Rattle.content_laws.proofs.CutTidy.{cut_law, cut_index_law}
use Rattle.content_laws.proofs.Steps.{same_size_step}
use Rattle.volatile_index.specs.Index.{pages_of}
use Rattle.volume.specs.Carried.{IsPlanFor, LeavesState, IsAtomic, Follows}
use Rattle.volume.specs.declared.plan.Action.TheVariants.{Resize, KeepSize}
use Rattle.volume.specs.Planned.{IsResizingFor}
use Rattle.volume.specs.Volume.{VolumeView}
use Rattle.volume.specs.declared.plan.Resizing.{Resizing}
use Rattle.volume.proofs.LowestPages.{rising_distinct}
use Rattle.volume.specs.Entered.{HasResized}
use Rattle.volume.specs.Commit.{HangsOn, HangsOnWords}
use Rattle.volume.specs.Costs.{growth_events, fences_for_growth, commit_events, loss_events, fences_for_loss, events_of_resize, fences_of_resize}
use Rattle.volume.proofs.Unmarked.{moments_read}
use Rattle.volume.proofs.Grown.{has_grown, has_cut}
use Rattle.plan_laws.proofs.Left.{IsCountedBy, KeepsMark}
use Rattle.entry_steps.proofs.Turning.{hangs_on}
use Rattle.entry_steps.proofs.Answered.{follows_as}
use Rattle.data_ops.specs.Growing.{MayGrow, IsGrowing, IsGrowthBy}
use Rattle.data_ops.specs.Cutting.{MayCut, growth_to, MayResize, IsResizingAt, StoresSize, HasStoredSize, cut_steps, resize_steps, TakesIn, IsTruncation}
use Rattle.data_ops.specs.Hanging.{IsRangeWord}
use Rattle.data_ops.specs.Steps.{growth_steps}
use Rattle.data_ops.proofs.Pages.{are_free, IsFileOf, found_file}
use Rattle.data_ops.proofs.Cuts.{kept_is, can_be_cut, enough, cut_named, knows_cut, cut_costs, cut_fences, cut_done, cut_underway}
use Rattle.data_ops.proofs.Steps.{leaves_stepped, resize_keep, resizing_for, same_size, either_sum, either_made, made_as, follows_idle}
use Rattle.data_ops.proofs.Growth.{growth_costs, growth_fences, grown_done, growth_underway, leaves_grown}

-- ---- what the plan of a truncation says of its file

module _ {volume : VolumeView} {device : DeviceView} {state : State} {path : Route} {resizing : Resizing} (plan : IsPlanFor volume device state (Truncate path resizing.new_size) (Resize resizing)) where
  pub for_resizing : IsResizingFor volume.size device.words state path resizing.new_size resizing
  for_resizing = (resizing_for volume.size device.words state path resizing.new_size resizing plan.planned.plan_is).1

  pub cut_at : IsResizingAt volume.size device.words state path resizing
  cut_at = record { reads = plan.stands.reads; planned = plan.planned }

  found : MayTruncate (untaken volume.size) state.tree state.room path resizing.new_size
  found =
      Accepted-from_row (untaken volume.size) state.tree state.room (Truncate path resizing.new_size)
      (state_law volume.size device.words state (tidied plan.stands.tidy).coherent plan.stands.reads).tree plan.planned.accepted

  of_file : IsFileOf volume device state resizing.inode
  of_file = found_file volume device state path resizing.inode plan.stands found.source for_resizing.inode_is

  old_size : inode_size device.words resizing.inode ≡ resizing.old_size
  old_size = of_file.size ∙ sym for_resizing.old_is

  -- ---- which way

  was : length (bytes_of state.tree (id_of state.tree path)) ≡ resizing.old_size
  was = ap (λ (o : Option ℕ). length (bytes_of state.tree (unwrap_or o root_id))) for_resizing.inode_is ∙ sym for_resizing.old_is

  needed : length resizing.new_pages ≡ pieces resizing.new_size page_bytes - pieces resizing.old_size page_bytes
  needed = for_resizing.new_pages.count_is ∙ ap (λ (n : ℕ). pieces resizing.new_size page_bytes - pieces n page_bytes) was

  none_added : resizing.new_size < resizing.old_size → resizing.new_pages ≡ []
  none_added less = nil_from_length resizing.new_pages (let count = needed in omega (arith, count, less))

  none_cut : resizing.old_size ≤ resizing.new_size → resizing.cut ≡ 0
  none_cut most = let count = for_resizing.cut_is in omega (arith, count, most)

  other : resizing.new_size ≢ resizing.old_size
  other same = eqb-false resizing.new_size (length (bytes_of state.tree (id_of state.tree path))) (resizing_for volume.size device.words state path resizing.new_size resizing plan.planned.plan_is).0 (same ∙ sym was)

  -- ---- what its steps ask for

  may_cut : resizing.new_size < resizing.old_size → MayCut volume.size device.words resizing (pages_of volume.index resizing.inode)
  unfolding pages_of_size
  may_cut less = record {
    can = record { tidy = tidied plan.stands.tidy; reached = of_file.reached; file = of_file.file; less = let old = old_size in omega (arith, old, less) };
    held = of_file.held;
    old_size = old_size;
    cut = for_resizing.cut_is;
  }

  added : length resizing.new_pages ≡ pages_of_size resizing.new_size - pages_of_size (inode_size device.words resizing.inode)
  unfolding pages_of_size
  added = needed ∙ ap (λ (n : ℕ). pieces resizing.new_size page_bytes - pieces n page_bytes) (sym old_size)

  unused : (page : ℕ) → Contains resizing.new_pages page → IsFreePage volume.size device.words page
  unused page among = let is = for_resizing.new_pages.each page among in (is.0, is.1.0)

  may_grow : resizing.old_size < resizing.new_size → MayGrow volume.size device.words (growth_to resizing) [] (pages_of volume.index resizing.inode) resizing.new_pages
  may_grow more = record {
    can = record {
      tidy = tidied plan.stands.tidy;
      reached = of_file.reached;
      file = of_file.file;
      larger = let old = old_size in omega (arith, old, more);
      small = found.within;
      inside = omega (arith, more);
      count = added;
      free = unused;
    };
    old_size = old_size;
    held = of_file.held;
    free = are_free volume.size device.words state resizing.new_pages plan.stands.tidy plan.stands.reads (rising_distinct resizing.new_pages for_resizing.new_pages.rising) unused;
    reaches = omega arith;
    some = λ less. absurd (omega (arith, less));
  }

  pub may_resize : MayResize volume.size device.words resizing (pages_of volume.index resizing.inode)
  may_resize = record { other = other; cut = may_cut; grow = may_grow }

-- ---- a file that gets another size: by its growth, or by a cut

-- where no byte is written only the size is a word of the range
size_alone : (P : ℕ) (W image other : List ℕ) (i offset : ℕ) → word other (inode_word_of i 2) ≡ word image (inode_word_of i 2) → (at : ℕ) → IsRangeWord P W i offset [] at → word other at ≡ word image at
size_alone P W image other i offset same at IsRangeWord.size = same
size_alone P W image other i offset same at (IsRangeWord.byte o j low inside page) = let least = inside.least in let below = inside.below in absurd (omega (arith, least, below))

hangs_on_size : {old new : Option Trail} (P : ℕ) (W : List ℕ) (i offset : ℕ) → HangsOnWords P old new (IsRangeWord P W i offset []) → HangsOn P old new (inode_word_of i 2)
hangs_on_size P W i offset hangs = record {
  continues = hangs.continues;
  each = λ moment image other tree from upto may also same reads. hangs.each moment image other tree from upto may also (size_alone P W image other i offset same) reads;
}

-- the growth of an accepted command
pub growth_by : {P : ℕ} {W : List ℕ} {state : State} (path : Route) (resizing : Resizing) → IsResizingAt P W state path resizing → IsGrowthBy P W state (Truncate path resizing.new_size) (growth_to resizing) []
growth_by path resizing at = record {
  reads = at.reads;
  accepted = at.planned.accepted;
  path = path;
  names = cut_named at;
  grows = IsGrowing.truncate refl refl;
}

pub less_by : (a b : ℕ) → b ≢ a → nat_lt a b ≡ false → b < a
less_by a b other test = let most = ltb-false a b test in omega (arith, most, other)

-- the plan's events and fences are those of its steps
module _ (P : ℕ) (old : DeviceView) (resizing : Resizing) (pages : List ℕ) (may : MayResize P old.words resizing pages) where
  pub all_costs : events_of_resize resizing ≡ events_in (resize_steps P resizing pages)
  all_costs =
      either_sum events_in (nat_lt resizing.old_size resizing.new_size) (growth_steps P (growth_to resizing) [] resizing.new_pages) (cut_steps P resizing pages)
      (growth_events resizing.old_size resizing.old_size (length resizing.new_pages)) (commit_events + loss_events resizing.cut false)
      (λ test. growth_costs P (growth_to resizing) [] resizing.new_pages) (λ test. cut_costs old (may.cut (less_by resizing.old_size resizing.new_size may.other test)))

  all_fences : fences_of_resize resizing ≡ fences_in (resize_steps P resizing pages)
  all_fences =
      either_sum fences_in (nat_lt resizing.old_size resizing.new_size) (growth_steps P (growth_to resizing) [] resizing.new_pages) (cut_steps P resizing pages)
      (fences_for_growth resizing.new_pages) (1 + fences_for_loss resizing.cut false)
      (λ test. growth_fences P (growth_to resizing) [] resizing.new_pages) (λ test. cut_fences old (may.cut (less_by resizing.old_size resizing.new_size may.other test)))

  -- ---- what it leaves

  module _ {T E : Type 0} (new : DeviceView) (result : Result T E) (settled : IsSettledView old) (made : Unfolds (resize_steps P resizing pages) old new result) where
    ways : ((resizing.old_size < resizing.new_size) × Unfolds (growth_steps P (growth_to resizing) [] resizing.new_pages) old new result) ⊎ ((resizing.new_size < resizing.old_size) × Unfolds (cut_steps P resizing pages) old new result)
    ways = elim (either_made (nat_lt resizing.old_size resizing.new_size) (growth_steps P (growth_to resizing) [] resizing.new_pages) (cut_steps P resizing pages) made) [
      | inl (test, grown) ↦ inl (ltb-true resizing.old_size resizing.new_size test, grown)
      | inr (test, cut) ↦ inr (less_by resizing.old_size resizing.new_size may.other test, cut)
    ]

    pub all_intervals : MakesIntervals old new (events_of_resize resizing) (fences_of_resize resizing) result
    all_intervals = made_as _ (events_of_resize resizing) _ (fences_of_resize resizing) all_costs all_fences (intervals settled made)

    pub stores_size : OnOk result (StoresSize P old.words new.words resizing)
    stores_size = elim ways [
      | inl (more, made) ↦ map_ok _ _ result (λ grown. record { grown = λ again. grown; cut = λ less. absurd (omega (arith, less, more)) }) (grown_done old (may.grow more) new result made)
      | inr (less, made) ↦ map_ok _ _ result (λ cut. record { grown = λ more. absurd (omega (arith, less, more)); cut = λ again. cut }) (cut_done old (may.cut less) new result made)
    ]

    module _ {state : State} {path : Route} (at : IsResizingAt P old.words state path resizing) where
      -- without the mark what a crash leaves is sound
      pub is_atomic : has_mark old.words ≡ false → IsAtomic P old new state (Truncate path resizing.new_size)
      is_atomic unmarked =
          let sound = moments_read P state (Some (Truncate path resizing.new_size)) settled unmarked (resize_keep P resizing pages) made in
          elim ways [
            | inl (more, made) ↦ (let under = growth_underway old (may.grow more) new result made settled (growth_by path resizing at) in record { any_moment = sound under.any_moment; stays = under.stays })
            | inr (less, made) ↦ (let under = cut_underway old (may.cut less) new result made settled at in record { any_moment = sound under.any_moment; stays = under.stays })
          ]

      pub has_stored : HasStoredSize P old new resizing pages result
      has_stored = record {
        in_turn = made;
        made = stores_size;
        commit_word = elim ways [
          | inl (more, made) ↦ hangs_on_size P old.words resizing.inode resizing.old_size (growth_underway old (may.grow more) new result made settled (growth_by path resizing at)).hangs
          | inr (less, made) ↦ hangs_on (cut_underway old (may.cut less) new result made settled at).hangs
        ];
      }

-- ---- it leaves a volume that stands for what its command leaves

module _ {volume : VolumeView} {device : DeviceView} {state : State} {path : Route} {resizing : Resizing} (plan : IsPlanFor volume device state (Truncate path resizing.new_size) (Resize resizing)) (new : VolumeView) (takes : TakesIn volume new resizing) where
  -- it has grown or is cut, and not both
  pub has_resized : HasResized volume new resizing
  has_resized = elim (cases_lt resizing.new_size resizing.old_size) [
    | inl less ↦ has_cut volume new resizing (takes.cut less) (none_added plan less)
    | inr most ↦ has_grown volume new resizing (takes.grown most) (none_cut plan most)
  ]

  module _ (after : DeviceView) (resized : StoresSize volume.size device.words after.words resizing) (settled : IsSettledView after) (counted : IsCountedBy (Resize resizing) device after) (keeps : KeepsMark volume new device.words after.words after) where
    leaves_cut : resizing.new_size < resizing.old_size → LeavesState volume new device after state (Truncate path resizing.new_size) Done
    leaves_cut less =
        let may = may_cut plan less in
        let file = can_be_cut may in
        let cut = resized.cut less in
        let leaves = takes.cut less in
        let i = resizing.inode in
        let z = resizing.new_size in
        let tidy = as_tidy (cut_law volume.size device.words cut.given after.words i z may.can cut.cuts).tidy in
        let truncated = cut_step_law volume.size device.words cut.given after.words state path i z (least_free_id state.tree) may.can cut.cuts (for_resizing plan).inode_is plan.stands.reads in
        let knows = knows_cut volume device.words after.words i z resizing.cut plan.stands.knows may.can may.held.least may.held.most (kept_is file) (enough file)
        (cut_index_law volume.size device.words cut.given after.words i z may.can cut.cuts) (tidied tidy) new leaves in
        leaves_stepped plan refl (λ gives. refl) after.words tidy truncated.stepped new after (ap (λ (v : VolumeView). v.size) leaves.rest) knows refl settled counted keeps

    pub leaves_resized : LeavesState volume new device after state (Truncate path resizing.new_size) Done
    leaves_resized = elim (cases_lt resizing.new_size resizing.old_size) [
      | inl less ↦ leaves_cut less
      | inr most ↦
          let differs = other plan in
          let more : resizing.old_size < resizing.new_size = omega (arith, most, differs) in
          leaves_grown plan refl (λ gives. refl) (may_grow plan more) (growth_by path resizing (cut_at plan))
          (rising_distinct resizing.new_pages (for_resizing plan).new_pages.rising) new after (resized.grown more) (takes.grown most) settled counted keeps
    ]

-- ---- a truncation to the size that the file has: nothing is to be done

module _ {volume : VolumeView} {device : DeviceView} {state : State} {path : Route} {size : ℕ} (plan : IsPlanFor volume device state (Truncate path size) KeepSize) where
  coherent : IsCoherent volume.size device.words
  coherent = (tidied plan.stands.tidy).coherent

  source : IsFileAt state.tree path
  source =
      let found : MayTruncate (untaken volume.size) state.tree state.room path size =
      Accepted-from_row (untaken volume.size) state.tree state.room (Truncate path size) (state_law volume.size device.words state coherent plan.stands.reads).tree plan.planned.accepted in
      found.source

  size_is : size ≡ length (bytes_of state.tree source.id)
  size_is =
      eqb-true size (length (bytes_of state.tree (id_of state.tree path))) (same_size volume.size device.words state path size plan.planned.plan_is)
      ∙ ap (λ (o : Option ℕ). length (bytes_of state.tree (unwrap_or o root_id))) source.named

  is_stepped : IsStepped volume.size device.words state (Truncate path size) (least_free_id state.tree)
  is_stepped =
      let file = found_file volume device state path source.id plan.stands source source.named in
      same_size_step volume.size device.words state source.id size source.bytes source.file size_is path (least_free_id state.tree) coherent file.reached file.file plan.stands.reads source.named

pub follows_nothing : {volume : VolumeView} {device : DeviceView} (state : State) (command : Command) → IsTruncation command → IsPlanFor volume device state command KeepSize → {E : Type 0} (reply : Reply) → Follows {E = E} volume volume device device state command Done (Ok reply)
follows_nothing {volume} {device} state command (path, size, is) plan reply =
    let here = subst (λ (c : Command). IsPlanFor volume device state c KeepSize) is plan in
    follows_as (Truncate path size) command is (follows_idle here refl (λ gives. refl) (omega arith, omega arith) (is_stepped here) reply)
