-- What the plan of a write says of its file, what its steps cost and leave, and that the plan is carried out once they are made.
use Rattle.std.proofs.Common.{◌≡◌, ℕ, ◌+◌, ◌-◌, ◌==◌, ◌<◌, ◌≤◌, Bool, true, false, cond, List, length, Some, unwrap_or, refl, sym, ap, subst, ◌∙◌, arith, Option, inl, ◌⊎◌, inr, [], ◌∷◌, Contains}
use Rattle.std.proofs.lemmas.Bool.Decides.{nat_tests}
use Rattle.std.specs.Prelude.{Ok, Result, OnOk, nat_le, Err}
use Rattle.std.proofs.lemmas.Bool.{cases_lt, eqb-true, leb-true, leb-false}
use Rattle.std.proofs.lemmas.List.{nil_from_length}
use Rattle.pm_trait.specs.DeviceView.{DeviceView, IsSettledView, MakesIntervals}
use Rattle.pm_trait.proofs.DeviceLaws.{fenced_stays}
use Rattle.pm_trait.proofs.DeviceViewLaws.{intervals_none}
use Rattle.pm_trait.specs.Unfolds.{events_in, fences_in, Takes, Unfolds, KeepsWords}
use Rattle.pm_trait.proofs.Unfolding.{quiet_fenced, intervals, map_ok, words_kept}
use Rattle.layout.specs.Geometry.{pieces}
use Rattle.layout.specs.Fields.{inode_size}
use Rattle.layout.specs.Superblock.{has_mark, IsSuperblockWord}
use Rattle.tree_model.specs.Capacity.{untaken}
use Rattle.tree_model.specs.PathText.{Route}
use Rattle.tree_model.specs.Run.{State}
use Rattle.tree_model.specs.Step.{id_of, rise, Count, step, least_free_id, tree_after, with_bytes, overwritten, outcome_of}
use Rattle.tree_model.specs.Tree.{root_id, bytes_of, page_bytes, Tree, IsRoom, is_directory, id_at}
use Rattle.tree_model.specs.Accepted.{MayWrite as Accepts}
use Rattle.tree_model.specs.declared.command.Command.{Command}
use Rattle.tree_model.specs.declared.command.Command.TheVariants.{Write}
use Rattle.tree_model.proofs.AcceptedLaws.{Accepted-from_row}
use Rattle.tree_model.specs.declared.reply.Refusal.{Refusal}
use Rattle.tree_model.specs.declared.reply.Reply.{Reply}
use Rattle.tree_model.specs.declared.reply.Reply.TheVariants.{Count as Told}
use Rattle.tree_model.proofs.RoomLaws.{room_after-same}
use Rattle.image_reading.specs.Reading.{pages_of_size, Reads}
use Rattle.image_reading.proofs.Tidied.{tidied, as_tidy}
use Rattle.image_counts.proofs.States.{state_law}
use Rattle.image_counts.specs.Entries.{IsFreePage}
use Rattle.image_laws.specs.CreateStep.{IsStepped}
use Rattle.image_laws.specs.Quiet.{IsMix}
use Rattle.content_laws.specs.Inside.{LeavesWritten as Stands}
use Rattle.content_laws.proofs.Inside.{inside_law}
use Rattle.content_laws.proofs.Moments.{inside_once_law}
use Rattle.content_laws.proofs.Torn.{torn_tree_law}
use Rattle.content_laws.specs.Gained.{HasGained}
use Rattle.content_laws.proofs.Steps.{inside_step_law, written_tree}
use Rattle.volatile_index.specs.Index.{pages_of}
use Rattle.volume.specs.Carried.{IsPlanFor, IsAtomic, LeavesState, Follows, Carries, MayCarry}
use Rattle.volume.specs.declared.plan.Action.TheVariants.{Write as WriteBytes, WriteNothing}
use Rattle.volume.specs.Planned.{IsWritingFor}
use Rattle.volume.specs.Volume.{VolumeView}
use Rattle.volume.specs.declared.plan.Writing.{Writing}
use Rattle.volume.proofs.LowestPages.{rising_distinct}
use Rattle.volume.specs.Costs.{span_events, fence_events, growth_events, fences_for_growth, events_of_write, fences_of_write, events_of, fences_of_plan}
use Rattle.volume.proofs.Unmarked.{ReadsAllowed, moments_read}
use Rattle.volume.specs.Entered.{EntersPages}
use Rattle.plan_laws.proofs.Left.{IsCountedBy, KeepsMark}
use Rattle.entry_steps.proofs.Answered.{follows_as}
use Rattle.entry_steps.proofs.Moments.{is_mix, on_ok}
use Rattle.entry_steps.proofs.Turning.{IsUnderway}
use Rattle.data_ops.specs.Growing.{MayGrow, IsGrowing, IsGrowthBy}
use Rattle.data_ops.specs.Writing.{MayWriteInside, MayWriteBytes, IsWritingAt, growth_of, IsWriteOf, StoresBytes, HasStoredBytes, overwriting, write_steps}
use Rattle.data_ops.specs.Hanging.{IsRangeWord}
use Rattle.data_ops.specs.Steps.{growth_steps}
use Rattle.data_ops.proofs.Pages.{are_free, IsFileOf, found_file}
use Rattle.data_ops.proofs.Steps.{leaves_stepped, write_keep, only, writing_for, no_byte, follows_idle, either_sum, either_made, made_as, either_more}
use Rattle.data_ops.proofs.Carrying.{carries_made, carries_stopped}
use Rattle.data_ops.proofs.Growth.{entered_beside, growth_costs, growth_fences, grown_done, growth_underway, same_range, knows_grown, leaves_grown}

not_zero : (n : ℕ) → (n == 0) ≡ false → 0 < n
not_zero n test = grind (arith, nat_tests)

-- ---- what the plan of an accepted write says, and what its steps ask for

module _ {volume : VolumeView} {device : DeviceView} {state : State} {path : Route} {bytes : List ℕ} {writing : Writing} (plan : IsPlanFor volume device state (Write path writing.offset bytes) (WriteBytes writing)) where
  pub for_writing : IsWritingFor volume.size device.words state path writing.offset bytes writing
  for_writing = (writing_for volume.size device.words state path writing.offset bytes writing plan.planned.plan_is).1

  some_test : (length bytes == 0) ≡ false
  some_test = (writing_for volume.size device.words state path writing.offset bytes writing plan.planned.plan_is).0

  found : Accepts (untaken volume.size) state.tree state.room path writing.offset bytes
  found =
      Accepted-from_row (untaken volume.size) state.tree state.room (Write path writing.offset bytes)
      (state_law volume.size device.words state (tidied plan.stands.tidy).coherent plan.stands.reads).tree plan.planned.accepted

  of_file : IsFileOf volume device state writing.inode
  of_file = found_file volume device state path writing.inode plan.stands found.source for_writing.inode_is

  old_size : inode_size device.words writing.inode ≡ writing.old_size
  old_size = of_file.size ∙ sym for_writing.size_is

  needed : length writing.new_pages ≡ pieces (writing.offset + length bytes) page_bytes - pieces writing.old_size page_bytes
  needed =
      for_writing.new_pages.count_is
      ∙ ap (λ (t : Bool). cond t 0 (rise (bytes_of state.tree (id_of state.tree path)) (writing.offset + length bytes))) some_test
      ∙ ap (λ (o : Option ℕ). pieces (writing.offset + length bytes) page_bytes - pieces (length (bytes_of state.tree (unwrap_or o root_id))) page_bytes) for_writing.inode_is
      ∙ ap (λ (n : ℕ). pieces (writing.offset + length bytes) page_bytes - pieces n page_bytes) (sym for_writing.size_is)

  added : length writing.new_pages ≡ pages_of_size (writing.offset + length bytes) - pages_of_size (inode_size device.words writing.inode)
  unfolding pages_of_size
  added = needed ∙ ap (λ (n : ℕ). pieces (writing.offset + length bytes) page_bytes - pieces n page_bytes) (sym old_size)

  -- a write inside the size takes no page
  pub none_added : writing.offset + writing.count ≤ writing.old_size → length writing.new_pages ≡ 0
  none_added inside = let need = needed in let long = for_writing.count_is in omega (arith, need, long, inside)

  unused : (page : ℕ) → Contains writing.new_pages page → IsFreePage volume.size device.words page
  unused page among = let is = for_writing.new_pages.each page among in (is.0, is.1.0)

  pub may_write : writing.offset + writing.count ≤ writing.old_size → MayWriteInside volume.size device.words writing.inode writing.offset bytes (pages_of volume.index writing.inode)
  may_write inside = record {
    can = record {
      tidy = tidied plan.stands.tidy;
      reached = of_file.reached;
      file = of_file.file;
      inside = let size = old_size in let long = for_writing.count_is in omega (arith, size, long, inside);
    };
    held = of_file.held;
    some = not_zero (length bytes) some_test;
  }

  pub may_grow : writing.old_size < writing.offset + writing.count → MayGrow volume.size device.words (growth_of writing) bytes (pages_of volume.index writing.inode) writing.new_pages
  may_grow more =
      let long = for_writing.count_is in
      record {
        can = record {
          tidy = tidied plan.stands.tidy;
          reached = of_file.reached;
          file = of_file.file;
          larger = let size = old_size in omega (arith, size, more);
          small = let most = found.within in omega (arith, most, long);
          inside = omega (arith, long);
          count = added ∙ ap (λ (n : ℕ). pages_of_size (writing.offset + n) - pages_of_size (inode_size device.words writing.inode)) (sym long);
          free = unused;
        };
        old_size = old_size;
        held = of_file.held;
        free = are_free volume.size device.words state writing.new_pages plan.stands.tidy plan.stands.reads (rising_distinct writing.new_pages for_writing.new_pages.rising) unused;
        reaches = omega (arith, long, more);
        some = λ less. not_zero (length bytes) some_test;
      }

  pub may_write_bytes : MayWriteBytes volume.size device.words writing bytes (pages_of volume.index writing.inode)
  may_write_bytes = record { count = for_writing.count_is; small = let most = found.within in let long = for_writing.count_is in omega (arith, most, long); inside = may_write; past = may_grow }

-- the growth of an accepted write
pub write_grows : {P : ℕ} {W : List ℕ} {state : State} (path : Route) (bytes : List ℕ) (writing : Writing) → IsWritingAt P W state path bytes writing → IsGrowthBy P W state (Write path writing.offset bytes) (growth_of writing) bytes
write_grows {P} {W} {state} path bytes writing at =
    let (some, for) = writing_for P W state path writing.offset bytes writing at.planned.plan_is in
    record {
      reads = at.reads;
      accepted = at.planned.accepted;
      path = path;
      names = for.inode_is;
      grows = IsGrowing.write (ap (λ (n : ℕ). writing.offset + n) for.count_is) (not_zero (length bytes) some);
    }

-- ---- a write of no bytes: nothing is to be done

module _ {volume : VolumeView} {device : DeviceView} {state : State} {path : Route} {offset : ℕ} {bytes : List ℕ} (plan : IsPlanFor volume device state (Write path offset bytes) WriteNothing) where
  pub none : length bytes ≡ 0
  none = eqb-true (length bytes) 0 (no_byte volume.size device.words state path offset bytes plan.planned.plan_is)

  -- the tree is as it was
  same_tree : state.tree ≡ tree_after (least_free_id state.tree) state.tree (Write path offset bytes)
  same_tree = sym (ap (λ (t : Bool). cond t state.tree (with_bytes state.tree (id_of state.tree path) (overwritten (bytes_of state.tree (id_of state.tree path)) offset bytes))) (no_byte volume.size device.words state path offset bytes plan.planned.plan_is))

  is_stepped : IsStepped volume.size device.words state (Write path offset bytes) (least_free_id state.tree)
  is_stepped =
      let fits = (state_law volume.size device.words state (tidied plan.stands.tidy).coherent plan.stands.reads).room in
      record {
        new = state;
        reads = plan.stands.reads;
        tree = same_tree;
        room = (
          false,
          sym (room_after-same (least_free_id state.tree) state.tree state.room (Write path offset bytes) false fits refl refl (λ x. ap (λ (tree : Tree). is_directory tree x) (sym same_tree))),
          subst (λ (tree : Tree). IsRoom tree state.room) same_tree fits,
        );
      }

pub follows_nothing : {volume : VolumeView} {device : DeviceView} {bytes : List ℕ} (state : State) (command : Command) → IsWriteOf bytes command → IsPlanFor volume device state command WriteNothing → {E : Type 0} (reply : Reply)
    → Follows {E = E} volume volume device device state command (Count (length bytes)) (Ok reply)
follows_nothing {volume} {device} {bytes} state command (path, offset, is) plan reply =
    let here = subst (λ (c : Command). IsPlanFor volume device state c WriteNothing) is plan in
    follows_as (Write path offset bytes) command is (follows_idle here refl (λ gives. refl) (omega arith, omega arith) (is_stepped here) reply)

-- ---- what a crash leaves of a write inside the size

module _ {P : ℕ} {state : State} (path : Route) (bytes pages : List ℕ) (writing : Writing) (old new : DeviceView) (at : IsWritingAt P old.words state path bytes writing) (may : MayWriteInside P old.words writing.inode writing.offset bytes pages)
    {T E : Type 0} {result : Result T E} (takes : Takes (overwriting P writing.inode writing.offset bytes) old new result) where
  abbrev later : Tree
  later = (step P state.tree state.room (Write path writing.offset bytes)).tree

  named : id_at state.tree path ≡ Some writing.inode
  named = (writing_for P old.words state path writing.offset bytes writing at.planned.plan_is).1.inode_is

  law : Stands P old.words new.words writing.inode writing.offset bytes
  law = inside_law P old.words new.words writing.inode writing.offset bytes may.can takes.makes.writes

  inside_allowed : (M : List ℕ) → IsMix old.words new.words M → ReadsAllowed P state (Some (Write path writing.offset bytes)) M
  inside_allowed M mix =
      let torn = law.torn M mix in
      let (tree, reads, left) = torn_tree_law P old.words M state path writing.inode writing.offset bytes torn at.reads.tree named at.planned.accepted in
      record { coherent = torn.coherent; tree = tree; reads = reads; allowed = inr (inr left) }

  later_is : later ≡ with_bytes state.tree writing.inode (overwritten (bytes_of state.tree writing.inode) writing.offset bytes)
  later_is =
      ap (λ (o : Option Refusal). (outcome_of o (untaken P) (least_free_id state.tree) state.tree state.room (Write path writing.offset bytes)).tree) at.planned.accepted
      ∙ sym (written_tree state.tree path writing.inode writing.offset (least_free_id state.tree) bytes may.some named)

  -- where the words before read as the tree after, so does all that is left
  inside_stays : Reads P old.words later → (M : List ℕ) → IsMix old.words new.words M → Reads P M later
  inside_stays has M mix =
      (inside_once_law P old.words new.words M writing.inode writing.offset bytes state.tree may.can takes.makes.writes mix at.reads.tree (subst (λ (tree : Tree). Reads P old.words tree) later_is has)).reads later has

  inside_underway : IsUnderway P (IsRangeWord P old.words writing.inode writing.offset bytes) (ReadsAllowed P state (Some (Write path writing.offset bytes))) later old.trail new.trail
  inside_underway =
      let one = takes.fenced.fenced in
      let run = quiet_fenced (IsMix old.words new.words) one (is_mix old.words new.words) in
      record {
        no_ack = one.no_ack;
        any_moment = quiet_fenced (ReadsAllowed P state (Some (Write path writing.offset bytes))) one (λ image mix. inside_allowed image (is_mix old.words new.words image mix));
        stays = fenced_stays (λ image. Reads P image later) one (λ has image mix. inside_stays has image (is_mix old.words new.words image mix));
        hangs = record {
          continues = run.continues;
          each = λ moment image other tree from upto may_image may_other same reads.
              (law.hangs image other (run.each moment image from upto may_image).1 (run.each moment other from upto may_other).1 (same_range P old.words image other writing.inode writing.offset bytes same)).reads tree reads;
        };
      }

-- ---- what a write costs: its events and fences are those of its steps

pub all_costs : (P : ℕ) (writing : Writing) (bytes : List ℕ) → writing.count ≡ length bytes → events_of_write writing ≡ events_in (write_steps P writing bytes)
all_costs P writing bytes count =
    either_sum events_in (nat_le (writing.offset + writing.count) writing.old_size) (overwriting P writing.inode writing.offset bytes ∷ []) (growth_steps P (growth_of writing) bytes writing.new_pages)
    (span_events writing.offset (writing.offset + writing.count) + fence_events) (growth_events writing.old_size writing.offset (length writing.new_pages))
    (λ test. let long = ap (λ (n : ℕ). span_events writing.offset (writing.offset + n)) count in omega (arith, long)) (λ test. growth_costs P (growth_of writing) bytes writing.new_pages)

all_fences : (P : ℕ) (writing : Writing) (bytes : List ℕ) → fences_of_write writing ≡ fences_in (write_steps P writing bytes)
all_fences P writing bytes =
    either_sum fences_in (nat_le (writing.offset + writing.count) writing.old_size) (overwriting P writing.inode writing.offset bytes ∷ []) (growth_steps P (growth_of writing) bytes writing.new_pages)
    1 (fences_for_growth writing.new_pages) (λ test. omega arith) (λ test. growth_fences P (growth_of writing) bytes writing.new_pages)

-- ---- what it leaves

module _ {T E : Type 0} (P : ℕ) (old new : DeviceView) (writing : Writing) (bytes pages : List ℕ) (result : Result T E) (may : MayWriteBytes P old.words writing bytes pages) (settled : IsSettledView old) (made : Unfolds (write_steps P writing bytes) old new result) where
  ways : ((writing.old_size < writing.offset + writing.count) × Unfolds (growth_steps P (growth_of writing) bytes writing.new_pages) old new result)
      ⊎ ((writing.offset + writing.count ≤ writing.old_size) × Takes (overwriting P writing.inode writing.offset bytes) old new result)
  ways = elim (either_made (nat_le (writing.offset + writing.count) writing.old_size) (overwriting P writing.inode writing.offset bytes ∷ []) (growth_steps P (growth_of writing) bytes writing.new_pages) made) [
    | inl (test, inside) ↦ inr (leb-true (writing.offset + writing.count) writing.old_size test, only inside)
    | inr (test, grown) ↦ inl (leb-false (writing.offset + writing.count) writing.old_size test, grown)
  ]

  pub all_intervals : MakesIntervals old new (events_of_write writing) (fences_of_write writing) result
  all_intervals = made_as _ (events_of_write writing) _ (fences_of_write writing) (all_costs P writing bytes may.count) (all_fences P writing bytes) (intervals settled made)

  pub stores_bytes : OnOk result (StoresBytes P old.words new.words writing bytes)
  stores_bytes = elim ways [
    | inl (more, made) ↦ map_ok _ _ result (λ grown. record { inside = λ most. absurd (omega (arith, most, more)); past = λ again. grown }) (grown_done old (may.past more) new result made)
    | inr (inside, takes) ↦ on_ok result (record { inside = λ again. takes.makes; past = λ more. absurd (omega (arith, inside, more)) })
  ]

  module _ {state : State} {path : Route} (at : IsWritingAt P old.words state path bytes writing) where
    underway : IsUnderway P (IsRangeWord P old.words writing.inode writing.offset bytes) (ReadsAllowed P state (Some (Write path writing.offset bytes))) (step P state.tree state.room (Write path writing.offset bytes)).tree old.trail new.trail
    underway = elim ways [
      | inl (more, made) ↦ growth_underway old (may.past more) new result made settled (write_grows path bytes writing at)
      | inr (inside, takes) ↦ inside_underway path bytes pages writing old new at (may.inside inside) takes
    ]

    -- without the mark what a crash leaves is sound
    pub is_atomic : has_mark old.words ≡ false → IsAtomic P old new state (Write path writing.offset bytes)
    is_atomic unmarked = record {
      any_moment = moments_read P state (Some (Write path writing.offset bytes)) settled unmarked (write_keep P writing bytes) made underway.any_moment;
      stays = underway.stays;
    }

    pub has_stored : HasStoredBytes P old new writing bytes result
    has_stored = record { in_turn = made; made = stores_bytes; commit_word = underway.hangs }

-- ---- it leaves a volume that stands for what the command leaves

module _ {volume : VolumeView} {device : DeviceView} {state : State} {path : Route} {bytes : List ℕ} {writing : Writing} (plan : IsPlanFor volume device state (Write path writing.offset bytes) (WriteBytes writing)) (after : DeviceView)
    (written : StoresBytes volume.size device.words after.words writing bytes) (new : VolumeView) (enters : EntersPages volume new writing.inode writing.new_pages) (settled : IsSettledView after)
    (counted : IsCountedBy (WriteBytes writing) device after) (keeps : KeepsMark volume new device.words after.words after) where
  left_inside : writing.offset + writing.count ≤ writing.old_size → LeavesState volume new device after state (Write path writing.offset bytes) (Count (length bytes))
  left_inside inside =
      let i = writing.inode in
      let may = may_write plan inside in
      let for = for_writing plan in
      let writes = (written.inside inside).writes in
      let law = inside_law volume.size device.words after.words i writing.offset bytes may.can writes in
      let none = nil_from_length writing.new_pages (none_added plan inside) in
      let tidy = as_tidy law.tidy in
      let knows = knows_grown volume device.words after.words i writing.new_pages plan.stands.knows may.can.tidy may.held.least may.held.most may.held.count (unused plan)
      (rising_distinct writing.new_pages for.new_pages.rising) (subst (λ (l : List ℕ). HasGained volume.size device.words after.words i l) (sym none) law.index) (tidied tidy) new enters in
      leaves_stepped plan refl (λ gives. refl) after.words tidy (inside_step_law volume.size device.words after.words state path i writing.offset (least_free_id state.tree) bytes may.can writes may.some for.inode_is plan.stands.reads)
      new after (ap (λ (v : VolumeView). v.size) enters.rest) knows refl settled counted keeps

  pub leaves_written : LeavesState volume new device after state (Write path writing.offset bytes) (Count (length bytes))
  leaves_written = elim (cases_lt writing.old_size (writing.offset + writing.count)) [
    | inl more ↦
        leaves_grown plan refl (λ gives. refl) (may_grow plan more) (write_grows path bytes writing (record { reads = plan.stands.reads; planned = plan.planned }))
        (rising_distinct writing.new_pages (for_writing plan).new_pages.rising) new after (written.past more) enters settled counted keeps
    | inr inside ↦ left_inside inside
  ]

-- ---- the plan of a write is carried out, once the bytes are on the device and the new pages in the volume

more_events : (writing : Writing) → 0 < events_of (WriteBytes writing)
more_events writing =
    either_more (nat_le (writing.offset + writing.count) writing.old_size) (span_events writing.offset (writing.offset + writing.count) + fence_events) (growth_events writing.old_size writing.offset (length writing.new_pages))
    (omega arith) (omega arith)

-- by the offset that the plan has
pub own_offset : {volume : VolumeView} {device : DeviceView} {bytes : List ℕ} {writing : Writing} (state : State) (command : Command) → IsWriteOf bytes command → IsPlanFor volume device state command (WriteBytes writing)
    → (path : Route) × (command ≡ Write path writing.offset bytes) × IsPlanFor volume device state (Write path writing.offset bytes) (WriteBytes writing)
own_offset {volume} {device} {bytes} {writing} state command (path, offset, is) plan =
    let at = subst (λ (c : Command). IsPlanFor volume device state c (WriteBytes writing)) is plan in
    let same = sym (writing_for volume.size device.words state path offset bytes writing at.planned.plan_is).1.offset_is in
    (path, is ∙ ap (λ (n : ℕ). Write path n bytes) same, subst (λ (n : ℕ). IsPlanFor volume device state (Write path n bytes) (WriteBytes writing)) same at)

-- the plan of a write of these bytes, by the size that the call has
module _ {volume : VolumeView} {old : DeviceView} {writing : Writing} {bytes : List ℕ} (planned : (state : State) × (path : Route) × IsPlanFor volume old state (Write path writing.offset bytes) (WriteBytes writing)) where
  may_store : MayWriteBytes volume.size old.words writing bytes (pages_of volume.index writing.inode)
  may_store = may_write_bytes planned.2

  module _ {T E : Type 0} {new : DeviceView} {result : Result T E} (made : Unfolds (write_steps volume.size writing bytes) old new result) where
    pub stored : HasStoredBytes volume.size old new writing bytes result
    stored = has_stored volume.size old new writing bytes _ result may_store planned.2.stands.settled made (record { reads = planned.2.stands.reads; planned = planned.2.planned })

    device : MakesIntervals old new (events_of (WriteBytes writing)) (fences_of_plan (WriteBytes writing)) result
    device = all_intervals volume.size old new writing bytes _ result may_store planned.2.stands.settled made

    beside : KeepsWords IsSuperblockWord old.words new.words
    beside = words_kept IsSuperblockWord (write_keep volume.size writing bytes) made

    atomic : (state : State) (path : Route) → IsPlanFor volume old state (Write path writing.offset bytes) (WriteBytes writing) → has_mark old.words ≡ false → IsAtomic volume.size old new state (Write path writing.offset bytes)
    atomic state path here = is_atomic volume.size old new writing bytes _ result may_store here.stands.settled made (record { reads = here.stands.reads; planned = here.planned })

  module _ (ready : MayCarry volume old (WriteBytes writing)) {T E F : Type 0} {new : DeviceView} {after : VolumeView} where
    pub carried : {done : T} (reply : Reply) → reply ≡ Told (length bytes) → Unfolds {E = E} (write_steps volume.size writing bytes) old new (Ok done) → EntersPages volume after writing.inode writing.new_pages
        → Carries {E = F} volume after old new (WriteBytes writing) (Count (length bytes)) (IsWriteOf bytes) (Ok reply)
    carried {done = done} reply told made enters =
        let all = device made in
        let stores = stores_bytes volume.size old new writing bytes _ (Ok done) may_store planned.2.stands.settled made in
        carries_made (λ (path : Route). Write path writing.offset bytes) own_offset planned ready (more_events writing) (beside made) (atomic made) reply told all (entered_beside enters) enters
        (λ state path here keeps. leaves_written here new stores after enters all.settled (all.counted, all.grown) keeps)

    pub carried_no_further : {fault : E} (other : F) → Unfolds {T = T} (write_steps volume.size writing bytes) old new (Err fault) → (after.stopped ≡ true) × (after.size ≡ volume.size) × (after.marked ≡ volume.marked)
        → Carries volume after old new (WriteBytes writing) (Count (length bytes)) (IsWriteOf bytes) (Err other)
    carried_no_further other made = carries_stopped (λ (path : Route). Write path writing.offset bytes) own_offset planned ready (more_events writing) (beside made) (atomic made) other (device made)
