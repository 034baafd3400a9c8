-- A file grows: what its steps leave for the next one, what a crash leaves, and what the volume knows then.
use Rattle.std.proofs.Common.{◌≡◌, ◌≢◌, ◌⊎◌, inl, inr, ℕ, ◌+◌, ◌-◌, ◌*◌, ◌<◌, ◌≤◌, List, length, slice_index, refl, sym, ap, subst, ◌∙◌, arith, Contains, Bool, true, false, cond, nat_lt, [], ◌∷◌, Option, Some, None, ◌%◌, ◌↔◌}
use Rattle.std.proofs.lemmas.Bool.{cases_lt, lt-ltb}
use Rattle.std.proofs.lemmas.List.{length-set}
use Rattle.std.proofs.lemmas.List.Elements.{Contains-get_or}
use Rattle.std.proofs.lemmas.Option.{slice_get-get_or, slice_get_within}
use Rattle.std.specs.Prelude.{Result, Ok, slice_set, OnOk}
use Rattle.pm_trait.specs.DeviceView.{DeviceView, IsSettledView}
use Rattle.pm_trait.specs.Unfolds.{MayFence, Step, Takes, step_events, events_in, fences_in, Unfolds}
use Rattle.pm_trait.proofs.Unfolding.{step_intervals, map_ok, through, next}
use Rattle.pm_trait.specs.Device.{Mix}
use Rattle.layout.specs.declared.fields.DescriptorFields.{DescriptorFields}
use Rattle.layout.specs.declared.fields.InodeFields.{InodeFields}
use Rattle.layout.specs.Geometry.{IsVolumeSize, data_pages_of, inode_word_of, descriptor_word_of, inodes_of}
use Rattle.layout.specs.Fields.{word, inode_kind, inode_size, page_owner, page_kind, page_offset}
use Rattle.layout.proofs.GeometryLaws.{descriptor_word_within}
use Rattle.layout.proofs.ByteLaws.{page_byte-kept}
use Rattle.inode_state.specs.States.{IsLive}
use Rattle.inode_state.specs.Inode.{fields_at}
use Rattle.inode_state.specs.Covered.{HasPagesFor}
use Rattle.page_state.specs.Page.{descriptor_of}
use Rattle.page_state.proofs.PageLaws.{same_descriptor_fields}
use Rattle.tree_model.specs.Run.{State}
use Rattle.tree_model.specs.Step.{outcome_of, step, refusal_of, least_free_id, tree_after, with_bytes, overwritten, resized, Answer, answer_of, room_after}
use Rattle.tree_model.specs.Tree.{Tree, bytes_of}
use Rattle.tree_model.specs.Capacity.{untaken}
use Rattle.tree_model.specs.declared.command.Command.{Command}
use Rattle.tree_model.specs.declared.command.Command.TheVariants.{Write}
use Rattle.tree_model.specs.declared.reply.Refusal.{Refusal}
use Rattle.image_reading.specs.Reading.{pages_of_size, Reads, HasBytes, Reached, IsPageOf}
use Rattle.image_reading.proofs.FilePages.{page_from_place}
use Rattle.image_reading.specs.Soundness.{Rule, IsCoherent}
use Rattle.image_reading.specs.Counts.{IsIn, IsDistinct}
use Rattle.image_reading.specs.Tidy.{IsTidied}
use Rattle.image_reading.proofs.Tidied.{tidied, as_tidy}
use Rattle.image_counts.specs.Entries.{IsEntryOf, IsPageIn, IsFreePage}
use Rattle.image_laws.proofs.NewPage.{behind_owner}
use Rattle.image_laws.proofs.Addresses.{page-ne_inode, descriptor-ne_inode, descriptor-ne_page, descriptor_word-one}
use Rattle.image_laws.specs.CreateStep.{IsStepped}
use Rattle.image_laws.specs.Frame.{SameMeaning}
use Rattle.image_laws.specs.Quiet.{IsMix}
use Rattle.image_laws.proofs.Meaning.{meanings_chain}
use Rattle.content_laws.specs.Growth.{IsFillWord, FillsFile, TakesPages, CanGrow, sized}
use Rattle.content_laws.specs.Torn.{ReadsTorn, SameRange}
use Rattle.content_laws.specs.Moments.{IsEarly}
use Rattle.content_laws.proofs.Bytes.{length-overwritten, length-resized}
use Rattle.content_laws.proofs.Filling.{fill_torn, fill_quiet}
use Rattle.content_laws.proofs.Torn.{content_of, torn_means_law, torn_tree_law}
use Rattle.content_laws.proofs.Growth.{growth_law, inside}
use Rattle.content_laws.proofs.Steps.{resized_tree, write_past_step_law, lengthen_step_law, written_tree}
use Rattle.content_laws.proofs.Moments.{growth_once_law, taking_law, growth_hangs_law}
use Rattle.content_laws.specs.Gained.{HasGained}
use Rattle.allocators.proofs.NumbersLaws.{taken_after_take}
use Rattle.volatile_index.specs.Index.{inodes_of_index, pages_of}
use Rattle.volume.specs.declared.plan.Writing.{Writing}
use Rattle.volume.specs.Volume.{VolumeView}
use Rattle.volume.specs.Entered.{IsTaken, MayTakePages, with_taken, TakesPages as TakesNumbers, EntersPages}
use Rattle.volume.specs.Stages.{HasKept}
use Rattle.volume.proofs.MayStill.{taken_still, page_places_alike}
use Rattle.volume.proofs.PageLists.{contained_in, in_contained}
use Rattle.volume.proofs.Moments.{with_kept, takes_keeping, pages_entered, IsSameBeside, takes_beside, pages_beside}
use Rattle.volume.proofs.Unmarked.{ReadsAllowed}
use Rattle.volume.specs.Costs.{where_true, growth_events, fences_for_growth}
use Rattle.volume.specs.Stands.{Knows}
use Rattle.volume.specs.Carried.{LeavesState, IsPlanFor}
use Rattle.volume.specs.declared.plan.Action.{Action}
use Rattle.plan_laws.specs.Laws.{gives_back}
use Rattle.plan_laws.proofs.Left.{IsCountedBy, KeepsMark}
use Rattle.entry_steps.proofs.Keeping.{kept_on}
use Rattle.entry_steps.proofs.Moments.{mix_of_new, is_mix}
use Rattle.entry_steps.proofs.Turning.{IsUnderway, IsSide, Turns, one_side, turned}
use Rattle.entry_steps.proofs.Facts.{Facts, facts_of, with_pages, IsSaidBy, told, knows_told, enters_pages, at_in, is_in}
use Rattle.data_ops.specs.declared.grow.Growth.{Growth}
use Rattle.data_ops.specs.Files.{AreBytesFrom, HasPages}
use Rattle.data_ops.specs.Growing.{MayGrow, IsGrowing, IsGrowthBy, StoresGrowth}
use Rattle.data_ops.specs.GrowthStages.{CanFill, AreFilled, AreTaken, HasNewPages, KnowsGrowth, EntersGrowth, step_of_growth, next_of_growth, left_of_growth, IsGrowthAt}
use Rattle.data_ops.specs.Steps.{CanRaise, owning, sizing, filling_file, growth_steps}
use Rattle.data_ops.specs.Writing.{MayWriteInside}
use Rattle.data_ops.specs.WriteStages.{CanOverwrite}
use Rattle.data_ops.specs.declared.grow.Progress.{Progress}
use Rattle.data_ops.specs.declared.grow.Progress.TheVariants.{Begun, Filled, Owned}
use Rattle.data_ops.specs.GrowthSteps.{StandsGrowth, StandsNextGrowth}
use Rattle.data_ops.specs.Hanging.{IsRangeWord}
use Rattle.data_ops.proofs.Pages.{none_taken, kept_fields, kept_descriptor, owned_apart}
use Rattle.data_ops.proofs.Steps.{exactly, first_words, leaves_stepped}
use Rattle.data_ops.proofs.Going.{IsBehind, all_behind, none_behind, stored_events}

-- ---- what its steps leave for the next one, said of the words alone: the pages that are filled, and the file with its pages for
-- its new size

-- ---- what is said of a tidy image is said of the words

pub can_fill : {P : ℕ} {W : List ℕ} {growth : Growth} {bytes old_pages new_pages : List ℕ} → MayGrow P W growth bytes old_pages new_pages → CanFill P W growth bytes old_pages new_pages
can_fill may = record {
  held = may.held;
  old_size = may.old_size;
  free = may.free;
  larger = let larger = may.can.larger in let was = may.old_size in omega (arith, larger, was);
  small = may.can.small;
  inside = may.can.inside;
  count = let count = may.can.count in let was = ap pages_of_size may.old_size in omega (arith, count, was);
  reaches = may.reaches;
  some = may.some;
}

pub can_overwrite : {P : ℕ} {W : List ℕ} {writing : Writing} {bytes pages : List ℕ} → MayWriteInside P W writing.inode writing.offset bytes pages → CanOverwrite P W writing bytes pages
can_overwrite {writing = writing} may = record {
  held = may.held;
  some = may.some;
  inside = may.can.inside;
  small = may.can.tidy.coherent Rule.sizes writing.inode may.can.reached may.can.file;
}

-- ---- the fill

module _ {P : ℕ} {W : List ℕ} {growth : Growth} {bytes old_pages new_pages : List ℕ} (can : CanFill P W growth bytes old_pages new_pages) {A : List ℕ} (fills : FillsFile P W A growth.inode growth.offset bytes new_pages) where
  not_inode : (f : ℕ) → f < 16 → {a : ℕ} → IsFillWord P W growth.inode new_pages a → a ≡ inode_word_of growth.inode f → ⊥
  not_inode f few (IsFillWord.old k j w page low) e = page-ne_inode P j w growth.inode f can.held.least can.held.most few e
  not_inode f few (IsFillWord.new j w there low) e = page-ne_inode P j w growth.inode f can.held.least can.held.most few e
  not_inode f few (IsFillWord.descriptor j g there which) e = descriptor-ne_inode P j g growth.inode f can.held.least can.held.most few e

  inode_kept : (f : ℕ) → f < 16 → word A (inode_word_of growth.inode f) ≡ word W (inode_word_of growth.inode f)
  inode_kept f few = fills.others (inode_word_of growth.inode f) (λ fill. not_inode f few fill refl)

  not_descriptor : (j f : ℕ) → j < data_pages_of P → f < 8 → (f ≡ 0) ⊎ ¬ Contains new_pages j → {a : ℕ} → IsFillWord P W growth.inode new_pages a → a ≡ descriptor_word_of P j f → ⊥
  not_descriptor j f within few why (IsFillWord.old k h w page low) e = descriptor-ne_page P j f h w within few (sym e)
  not_descriptor j f within few why (IsFillWord.new h w there low) e = descriptor-ne_page P j f h w within few (sym e)
  not_descriptor j f within few why (IsFillWord.descriptor h g there which) e =
      let (low, high) = behind_owner g which in
      let (same, field) = descriptor_word-one P h g j f high few e in
      elim why [ inl owner ↦ (let none : ⊥ = omega (arith, low, field, owner) in none) | inr other ↦ other (subst (Contains new_pages) same there) ]

  descriptor_kept : (j f : ℕ) → j < data_pages_of P → f < 8 → (f ≡ 0) ⊎ ¬ Contains new_pages j → word A (descriptor_word_of P j f) ≡ word W (descriptor_word_of P j f)
  descriptor_kept j f within few why = fills.others (descriptor_word_of P j f) (λ fill. not_descriptor j f within few why fill refl)

  fields_kept : fields_at A growth.inode ≡ fields_at W growth.inode
  fields_kept = kept_fields growth.inode W A inode_kept

  kind_kept : inode_kind A growth.inode ≡ inode_kind W growth.inode
  unfolding inode_kind
  kind_kept = inode_kept 0 (omega arith)

  size_kept : inode_size A growth.inode ≡ inode_size W growth.inode
  unfolding inode_size
  size_kept = inode_kept 2 (omega arith)

  owner_kept : (j : ℕ) → j < data_pages_of P → page_owner P A j ≡ page_owner P W j
  unfolding page_owner
  owner_kept j within = descriptor_kept j 0 within (omega arith) (inl refl)

  page_kept : (n : ℕ) → n < length old_pages → descriptor_of P A (slice_index old_pages n) ≡ descriptor_of P W (slice_index old_pages n)
  page_kept n low =
      let other = owned_apart P W growth.inode 0 old_pages new_pages can.held.least can.held.bytes (record { each = λ k inside. ap (λ (d : DescriptorFields). d.owner) (can.free.free.each k inside) }) n low in
      kept_descriptor P W A (slice_index old_pages n) (λ f few. descriptor_kept (slice_index old_pages n) f (can.held.bytes.in_range.each n low) (omega (arith, few)) (inr other))

  still_held : HasPages P A growth.inode old_pages
  still_held = record {
    least = can.held.least;
    most = can.held.most;
    live = subst (λ (f : InodeFields). IsLive growth.inode f) (sym fields_kept) can.held.live;
    file = kind_kept ∙ can.held.file;
    bytes = record {
      in_range = can.held.bytes.in_range;
      distinct = can.held.bytes.distinct;
      each = λ k low. page_kept k low ∙ can.held.bytes.each k low;
    };
    all = λ j page. can.held.all j (record { in_range = page.in_range; owner = sym (owner_kept j page.in_range) ∙ page.owner });
    count = can.held.count ∙ ap pages_of_size (sym size_kept);
  }

  filled_pages : AreBytesFrom P A 0 (length old_pages) new_pages
  filled_pages = record {
    in_range = can.free.in_range;
    distinct = can.free.distinct;
    each = λ k low.
        let page = slice_index new_pages k in
        let there = slice_get-get_or new_pages k 0 low in
        same_descriptor_fields (descriptor_of P A page) (record { owner = 0; kind = 1; offset = length old_pages + k })
        (owner_kept page (can.free.in_range.each k low) ∙ ap (λ (d : DescriptorFields). d.owner) (can.free.free.each k low))
        (fills.kinds k page there) (fills.offsets k page there ∙ ap (λ (n : ℕ). n + k) (sym can.held.count));
  }

  enough : pages_of_size growth.new_size ≤ length old_pages + length new_pages
  enough =
      let held = can.held.count ∙ ap pages_of_size can.old_size in
      let count = can.count in
      omega (arith, held, count)

  pub filled : 0 < length new_pages → AreFilled P A growth old_pages new_pages
  filled some = record { some = some; held = still_held; pages_are = filled_pages; enough = enough }

-- ---- the owners

module _ {P : ℕ} {I : List ℕ} (growth : Growth) {old_pages new_pages : List ℕ} (held : HasPages P I growth.inode old_pages) (new : AreBytesFrom P I 0 (length old_pages) new_pages)
    (enough : pages_of_size growth.new_size ≤ length old_pages + length new_pages) (device : DeviceView) (takes : TakesPages P I device.words growth.inode new_pages) where
  fields_taken : fields_at device.words growth.inode ≡ fields_at I growth.inode
  fields_taken = kept_fields growth.inode I device.words (λ f few. takes.others (inode_word_of growth.inode f) (λ j there e. descriptor-ne_inode P j 0 growth.inode f held.least held.most few (sym e)))

  -- only the owners of new pages change
  descriptor_taken : (j f : ℕ) → f < 8 → (f ≢ 0) ⊎ ¬ Contains new_pages j → word device.words (descriptor_word_of P j f) ≡ word I (descriptor_word_of P j f)
  descriptor_taken j f few why = takes.others (descriptor_word_of P j f) (λ h there e.
      let (same, field) = descriptor_word-one P j f h 0 few (omega arith) e in
      elim why [ inl other ↦ other field | inr none ↦ none (subst (Contains new_pages) (sym same) there) ])

  old_page : (n : ℕ) → n < length old_pages → descriptor_of P device.words (slice_index old_pages n) ≡ record { owner = growth.inode; kind = 1; offset = 0 + n }
  old_page n low =
      let other = owned_apart P I growth.inode 0 old_pages new_pages held.least held.bytes (record { each = λ k inside. ap (λ (d : DescriptorFields). d.owner) (new.each k inside) }) n low in
      kept_descriptor P I device.words (slice_index old_pages n) (λ f few. descriptor_taken (slice_index old_pages n) f (omega (arith, few)) (inr other)) ∙ held.bytes.each n low

  kind_taken : (j : ℕ) → page_kind P device.words j ≡ page_kind P I j
  unfolding page_kind
  kind_taken j = descriptor_taken j 1 (omega arith) (inl (λ e. omega (arith, e)))

  offset_taken : (j : ℕ) → page_offset P device.words j ≡ page_offset P I j
  unfolding page_offset
  offset_taken j = descriptor_taken j 2 (omega arith) (inl (λ e. omega (arith, e)))

  new_page : (n : ℕ) → n < length new_pages → descriptor_of P device.words (slice_index new_pages n) ≡ record { owner = growth.inode; kind = 1; offset = length old_pages + n }
  new_page n low =
      let page = slice_index new_pages n in
      same_descriptor_fields (descriptor_of P device.words page) (record { owner = growth.inode; kind = 1; offset = length old_pages + n })
      (takes.owners page (Contains-get_or new_pages n 0 low))
      (kind_taken page ∙ ap (λ (d : DescriptorFields). d.kind) (new.each n low))
      (offset_taken page ∙ ap (λ (d : DescriptorFields). d.offset) (new.each n low))

  abbrev at_offset : ℕ → DescriptorFields
  at_offset at = record { owner = growth.inode; kind = 1; offset = at }

  page_there : (k : ℕ) → k < pages_of_size growth.new_size → (j : ℕ) × (j < data_pages_of P) × (descriptor_of P device.words j ≡ at_offset k)
  page_there k below = elim (cases_lt k (length old_pages)) [
    | inl low ↦ (slice_index old_pages k, held.bytes.in_range.each k low, old_page k low ∙ ap at_offset (let same : 0 + k ≡ k = omega arith in same))
    | inr high ↦
        let n = k - length old_pages in
        let inside : n < length new_pages = (let all = enough in omega (arith, below, high, all)) in
        let behind : length old_pages + n ≡ k = omega (arith, high) in (
          slice_index new_pages n,
          new.in_range.each n inside,
          new_page n inside ∙ ap at_offset behind,
        )
  ]

  covered : IsVolumeSize P → length device.words ≡ 512 * P → IsSettledView device → HasPagesFor P growth.inode growth.new_size device
  unfolding pages_of_size
  covered size whole settled = λ k below.
      let (j, within, is) = page_there k below in (
        j,
        record {
          in_range = within;
          owner = ap (λ (d : DescriptorFields). d.owner) is;
          kind = ap (λ (d : DescriptorFields). d.kind) is;
          at = ap (λ (d : DescriptorFields). d.offset) is;
          settled = λ field few.
              let inside = descriptor_word_within P j field size within (omega (arith, few)) in
              settled.each (descriptor_word_of P j field) (omega (arith, inside, whole));
        },
      )

  can_raise : IsVolumeSize P → length device.words ≡ 512 * P → IsSettledView device → CanRaise P device growth.inode growth.new_size
  can_raise size whole settled = record {
    least = held.least;
    most = held.most;
    live = subst (λ (f : InodeFields). IsLive growth.inode f) (sym fields_taken) held.live;
    covered = covered size whole settled;
  }

-- the file may have its size once the new pages are its own
pub raised : {P : ℕ} {I : List ℕ} {growth : Growth} {old_pages new_pages : List ℕ} → AreFilled P I growth old_pages new_pages → (device : DeviceView) → TakesPages P I device.words growth.inode new_pages → IsVolumeSize P → length device.words ≡ 512 * P → IsSettledView device
    → CanRaise P device growth.inode growth.new_size
raised {growth = growth} filled device takes = can_raise growth filled.held filled.pages_are filled.enough device takes

-- and where it needs none, behind the fill
pub raised_at_once : {P : ℕ} {W : List ℕ} {growth : Growth} {bytes old_pages new_pages : List ℕ} → CanFill P W growth bytes old_pages new_pages → length new_pages ≡ 0 → (device : DeviceView)
    → FillsFile P W device.words growth.inode growth.offset bytes new_pages → IsVolumeSize P → length device.words ≡ 512 * P → IsSettledView device → CanRaise P device growth.inode growth.new_size
raised_at_once {P} {growth = growth} {new_pages = new_pages} can none device fills =
    can_raise growth (still_held can fills) (filled_pages can fills) (enough can fills) device (none_taken P growth.inode device.words new_pages none)

-- ---- its next step, once its fence succeeded: what stands then of the device and of the volume

-- ---- pages that are taken

each_taken : (free : List Bool) (pages : List ℕ) → ((page : ℕ) → IsIn page pages → page < length free) → (k : ℕ) → IsIn k pages → IsTaken (with_taken free pages) k
each_taken free [] below k among = absurd among
each_taken free (page ∷ pages) below k (inl same) =
    let low = below page (inl refl) in
    let long = length-set free page false in
    subst (IsTaken (with_taken free (page ∷ pages))) (sym same) (taken_still (slice_set free page false) pages page (omega (arith, low, long), taken_after_take free page low))
each_taken free (page ∷ pages) below k (inr later) =
    each_taken (slice_set free page false) pages (λ other there. let low = below other (inr there) in let long = length-set free page false in omega (arith, low, long)) k later

are_taken : (volume after : VolumeView) (pages : List ℕ) → MayTakePages volume pages → after.data_pages ≡ with_taken volume.data_pages pages → AreTaken after pages
are_taken volume after pages may takes = λ page there.
    subst (λ (free : List Bool). IsTaken free page) (sym takes)
    (each_taken volume.data_pages pages (λ other among. slice_get_within volume.data_pages other _ (may.free other (in_contained other pages among))) page (contained_in page pages there))

-- ---- what the volume knows where its index is the same

knows_on : (volume after : VolumeView) (inode : ℕ) (pages : List ℕ) (before progress : Progress) → after.index ≡ volume.index → KnowsGrowth volume inode pages before → HasNewPages after pages progress → KnowsGrowth after inode pages progress
knows_on volume after inode pages before progress same knows numbers = record {
  least = knows.least;
  most = let all = ap inodes_of_index same in let most = knows.most in omega (arith, all, most);
  places = page_places_alike volume after same inode pages knows.places;
  numbers = numbers;
}

-- fewer events are kept
pub knows_kept : (volume after : VolumeView) (n inode : ℕ) (pages : List ℕ) (progress : Progress) → after ≡ record volume { kept = n } → KnowsGrowth volume inode pages progress → KnowsGrowth after inode pages progress
knows_kept volume after n inode pages progress is knows = subst (λ (v : VolumeView). KnowsGrowth v inode pages progress) (sym is) (record { least = knows.least; most = knows.most; places = knows.places; numbers = numbers progress knows.numbers })
  where
    numbers : (at : Progress) → HasNewPages volume pages at → HasNewPages (record volume { kept = n }) pages at
    numbers Begun may = record { once = may.once; free = may.free }
    numbers Filled taken = taken
    numbers Owned taken = taken

-- ---- what stands behind the step

-- its events are all that it takes of the device's room
room_left : {T E : Type 0} {value : T} (step : Step) (a b : DeviceView) (words : ℕ) → step.stores ≡ true → MayFence a words step.events 1 → Takes {E = E} step a b (Ok value) → a.spare ≤ b.spare + step.events
room_left {value = value} step a b words stores begins takes =
    let made = step_intervals step a b (Ok value) begins.settled takes in
    let same : step_events step ≡ step.events = ap (λ (t : Bool). cond t step.events 0) stores in
    let room = made.room in
    omega (arith, room, same)

-- what is said of a step that succeeded
pub of_ok : {T E : Type 0} {value : T} (Q : Result T E → Type 0) {made : Result T E} → ◌≡◌ {A = Result T E} (Ok value) made → Q made → Q (Ok value)
of_ok Q same holds = subst Q (sym same) holds

module _ (volume : VolumeView) (now later : DeviceView) (growth : Growth) (bytes : List ℕ) (size : IsVolumeSize volume.size) where
  abbrev filled_volume : List ℕ → VolumeView
  filled_volume pages = record volume { kept = volume.kept - (step_of_growth volume.size growth bytes pages Begun).events; data_pages = with_taken volume.data_pages pages }

  behind_filled : {T E : Type 0} {value : T} (pages : List ℕ) → MayFence now (512 * volume.size) (step_of_growth volume.size growth bytes pages Begun).events 1 → StandsGrowth volume now growth bytes pages Begun → Takes {E = E} (step_of_growth volume.size growth bytes pages Begun) now later (Ok value)
      → StandsNextGrowth (filled_volume pages) later growth bytes pages (next_of_growth Begun pages)
  behind_filled {value = value} [] begins stands takes =
      let made = step_intervals (step_of_growth volume.size growth bytes [] Begun) now later (Ok value) begins.settled takes in
      record {
        at = raised_at_once stands.at refl later takes.makes size (made.long ∙ begins.whole) made.settled;
        knows = knows_on volume _ growth.inode [] Begun Owned refl stands.knows (are_taken volume (filled_volume []) [] stands.knows.numbers refl);
        kept = kept_on (step_of_growth volume.size growth bytes [] Begun).events _ stands.kept refl (room_left (step_of_growth volume.size growth bytes [] Begun) now later (512 * volume.size) refl begins takes);
      }
  behind_filled {value = value} (page ∷ more) begins stands takes = record {
    at = filled stands.at takes.makes (omega arith);
    knows = knows_on volume _ growth.inode (page ∷ more) Begun Filled refl stands.knows (are_taken volume (filled_volume (page ∷ more)) (page ∷ more) stands.knows.numbers refl);
    kept = kept_on (step_of_growth volume.size growth bytes (page ∷ more) Begun).events _ stands.kept refl (room_left (step_of_growth volume.size growth bytes (page ∷ more) Begun) now later (512 * volume.size) refl begins takes);
  }

  behind_owned : {T E : Type 0} {value : T} (pages : List ℕ) → MayFence now (512 * volume.size) (step_of_growth volume.size growth bytes pages Filled).events 1 → StandsGrowth volume now growth bytes pages Filled → Takes {E = E} (step_of_growth volume.size growth bytes pages Filled) now later (Ok value)
      → StandsNextGrowth (record volume { kept = volume.kept - (step_of_growth volume.size growth bytes pages Filled).events }) later growth bytes pages (next_of_growth Filled pages)
  behind_owned {value = value} pages begins stands takes =
      let step = step_of_growth volume.size growth bytes pages Filled in
      let made = step_intervals step now later (Ok value) begins.settled takes in
      let test = lt-ltb 0 (length pages) stands.at.some in
      record {
        at = raised stands.at later takes.makes size (made.long ∙ begins.whole) made.settled;
        knows = knows_on volume _ growth.inode pages Filled Owned refl stands.knows stands.knows.numbers;
        kept = kept_on step.events (events_in (left_of_growth volume.size growth bytes pages Owned))
            (subst (λ (t : Bool). HasKept volume now (cond t step.events 0 + events_in (left_of_growth volume.size growth bytes pages Owned))) test stands.kept) refl (room_left step now later (512 * volume.size) test begins takes);
      }

  -- the growth may make the step after it
  pub behind : {T E : Type 0} {value : T} (pages : List ℕ) (after : VolumeView) (progress : Progress) → MayFence now (512 * volume.size) (step_of_growth volume.size growth bytes pages progress).events 1 → StandsGrowth volume now growth bytes pages progress
      → Takes {E = E} (step_of_growth volume.size growth bytes pages progress) now later (Ok value)
      → EntersGrowth growth.inode pages progress (record volume { kept = volume.kept - (step_of_growth volume.size growth bytes pages progress).events }) after → StandsNextGrowth after later growth bytes pages (next_of_growth progress pages)
  behind pages after Begun begins stands takes enters = subst (λ (v : VolumeView). StandsNextGrowth v later growth bytes pages (next_of_growth Begun pages)) (sym enters) (behind_filled pages begins stands takes)
  behind pages after Filled begins stands takes enters = subst (λ (v : VolumeView). StandsNextGrowth v later growth bytes pages (next_of_growth Filled pages)) (sym enters) (behind_owned pages begins stands takes)
  behind pages after Owned begins stands takes enters = tt

-- ---- from one of its steps to the next: the steps that are left, and what the volume is by now

-- how many steps are left at most
abbrev pub rank_of_growth : Progress → ℕ
rank_of_growth Begun = 3
rank_of_growth Filled = 2
rank_of_growth Owned = 1

abbrev pub rank_of_next : Option Progress → ℕ
rank_of_next (Some progress) = rank_of_growth progress
rank_of_next None = 0

-- a step brings it nearer to its end
pub fewer_steps : (progress : Progress) (pages : List ℕ) → rank_of_next (next_of_growth progress pages) < rank_of_growth progress
fewer_steps Begun [] = omega arith
fewer_steps Begun (page ∷ pages) = omega arith
fewer_steps Filled pages = omega arith
fewer_steps Owned pages = omega arith

-- ---- the steps that are left

module _ (P : ℕ) (growth : Growth) (bytes : List ℕ) where
  -- those behind the first
  abbrev pub rest_of_growth : List ℕ → Progress → List Step
  rest_of_growth pages Begun = owning P growth.inode pages ∷ sizing growth.inode growth.new_size ∷ []
  rest_of_growth pages Filled = sizing growth.inode growth.new_size ∷ []
  rest_of_growth pages Owned = []

  -- those of its next stage
  abbrev pub left_behind : List ℕ → Option Progress → List Step
  left_behind pages (Some progress) = step_of_growth P growth bytes pages progress ∷ rest_of_growth pages progress
  left_behind pages None = []

  -- owners are given where there are new pages
  pub growth_behind : (pages : List ℕ) (progress : Progress) (after : DeviceView) → IsBehind (rest_of_growth pages progress) (left_behind pages (next_of_growth progress pages)) after
  growth_behind [] Begun after = none_behind (owning P growth.inode []) refl (none_taken P growth.inode after.words [] refl) (all_behind (sizing growth.inode growth.new_size ∷ []) after)
  growth_behind (page ∷ pages) Begun after = all_behind (rest_of_growth (page ∷ pages) Begun) after
  growth_behind pages Filled after = all_behind (rest_of_growth pages Filled) after
  growth_behind pages Owned after = all_behind [] after

  pub growth_own : (device : DeviceView) (olds pages : List ℕ) (progress : Progress) → IsGrowthAt P device growth bytes olds pages progress → step_events (step_of_growth P growth bytes pages progress) ≡ (step_of_growth P growth bytes pages progress).events
  growth_own device olds pages Begun stands = refl
  growth_own device olds pages Filled stands = stored_events (owning P growth.inode pages) (lt-ltb 0 (length pages) stands.some)
  growth_own device olds pages Owned stands = refl

-- ---- what the volume is by now

-- as at entry, but for what is kept; and then with the new pages taken
abbrev pub HasComeTo : VolumeView → VolumeView → List ℕ → Progress → Type 0
HasComeTo old now pages Begun = with_kept old.kept now ≡ old
HasComeTo old now pages Filled = TakesNumbers old (with_kept old.kept now) pages
HasComeTo old now pages Owned = TakesNumbers old (with_kept old.kept now) pages

abbrev pub HasComeOn : VolumeView → VolumeView → ℕ → List ℕ → Option Progress → Type 0
HasComeOn old now inode pages (Some progress) = HasComeTo old now pages progress
HasComeOn old now inode pages None = EntersPages old (with_kept old.kept now) inode pages

module _ (old volume new : VolumeView) (inode k : ℕ) where
  pages_taken : (pages : List ℕ) → HasComeTo old volume pages Begun → TakesNumbers (with_kept k volume) new pages → TakesNumbers old (with_kept old.kept new) pages
  pages_taken pages come takes = subst (λ (v : VolumeView). TakesNumbers v (with_kept old.kept new) pages) come (takes_keeping old.kept (with_kept k volume) new pages takes)

  pub growth_come_on : (pages : List ℕ) (progress : Progress) → HasComeTo old volume pages progress → EntersGrowth inode pages progress (with_kept k volume) new → HasComeOn old new inode pages (next_of_growth progress pages)
  growth_come_on [] Begun come enters = pages_taken [] come enters
  growth_come_on (page ∷ pages) Begun come enters = pages_taken (page ∷ pages) come enters
  growth_come_on pages Filled come same = ap (with_kept old.kept) same ∙ come
  growth_come_on pages Owned come puts = pages_entered old (with_kept old.kept volume) new old.kept k inode pages come puts

-- what a growth doesn't enter is as it was
pub none_beside : (a b : VolumeView) → b ≡ a → IsSameBeside a b
none_beside a b same = subst (IsSameBeside a) (sym same) (record { size = refl; stopped = refl; marked = refl; kept = refl })

pub growth_beside : (inode : ℕ) (pages : List ℕ) (progress : Progress) (a b : VolumeView) → EntersGrowth inode pages progress a b → IsSameBeside a b
growth_beside inode pages Begun a b takes = takes_beside a b pages takes
growth_beside inode pages Filled a b same = none_beside a b same
growth_beside inode pages Owned a b puts = pages_beside a b inode pages puts

pub entered_beside : {a b : VolumeView} {inode : ℕ} {pages : List ℕ} → EntersPages a b inode pages → IsSameBeside a b
entered_beside enters = record {
  size = ap (λ (v : VolumeView). v.size) enters.rest;
  stopped = ap (λ (v : VolumeView). v.stopped) enters.rest;
  marked = ap (λ (v : VolumeView). v.marked) enters.rest;
  kept = ap (λ (v : VolumeView). v.kept) enters.rest;
}

-- ---- what a crash leaves of it

pub mix_of_old : (a b : List ℕ) → IsMix a b a
mix_of_old a b = record { size = refl; words = λ x. inl refl }

-- ---- on which words the reading hangs

pub same_range : (P : ℕ) (W M N : List ℕ) (i offset : ℕ) (bytes : List ℕ) → ((at : ℕ) → IsRangeWord P W i offset bytes at → word N at ≡ word M at) → SameRange P W M N i offset bytes
same_range P W M N i offset bytes same = λ o j low inside page. page_byte-kept P M N j (o % 4096) (same _ (IsRangeWord.byte o j low inside page))

-- ---- the tree after

module _ {P : ℕ} {W : List ℕ} {state : State} {command : Command} {growth : Growth} {bytes old_pages new_pages : List ℕ} (may : MayGrow P W growth bytes old_pages new_pages) (by : IsGrowthBy P W state command growth bytes) where
  abbrev tree_later : Tree
  tree_later = (step P state.tree state.room command).tree

  -- an accepted command leaves its tree
  pub tree_is : tree_later ≡ tree_after (least_free_id state.tree) state.tree command
  tree_is = ap (λ (o : Option Refusal). (outcome_of o (untaken P) (least_free_id state.tree) state.tree state.room command).tree) by.accepted

  long : length (bytes_of state.tree growth.inode) ≡ inode_size W growth.inode
  long = (content_of P W state.tree growth.inode may.can.tidy.coherent by.reads.tree may.can.reached may.can.file).size

  fresh_by : (c : Command) → IsGrowing growth bytes by.path c → (fresh_bytes : List ℕ) × (length fresh_bytes ≡ growth.new_size) × (with_bytes state.tree growth.inode fresh_bytes ≡ tree_after (least_free_id state.tree) state.tree c)
  fresh_by c (IsGrowing.write is some) =
      let made = length-overwritten (bytes_of state.tree growth.inode) growth.offset bytes in
      let before = long in
      let larger = may.can.larger in
      (overwritten (bytes_of state.tree growth.inode) growth.offset bytes, omega (arith, made, before, larger, is), written_tree state.tree by.path growth.inode growth.offset (least_free_id state.tree) bytes some by.names)
  fresh_by c (IsGrowing.truncate none at) = (resized (bytes_of state.tree growth.inode) growth.new_size, length-resized (bytes_of state.tree growth.inode) growth.new_size, resized_tree state.tree by.path growth.inode growth.new_size (least_free_id state.tree) by.names)

  fresh_bytes : (bytes : List ℕ) × (length bytes ≡ growth.new_size) × (with_bytes state.tree growth.inode bytes ≡ tree_later)
  fresh_bytes = let (made, whole, is) = fresh_by command by.grows in (made, whole, is ∙ sym tree_is)

  -- ---- torn, or where nothing is written the tree before

  abbrev IsTornOrSame : List ℕ → Type 0
  IsTornOrSame M = ReadsTorn P W M growth.inode growth.offset bytes × (length bytes ≡ 0 → SameMeaning P W M)

  allowed_by : (c : Command) → refusal_of P state.tree state.room c ≡ None → IsGrowing growth bytes by.path c → (M : List ℕ) → IsTornOrSame M → ReadsAllowed P state (Some c) M
  allowed_by c accepted (IsGrowing.write is some) M left =
      let (torn, reads, allowed) = torn_tree_law P W M state by.path growth.inode growth.offset bytes left.0 by.reads.tree by.names accepted in
      record { coherent = left.0.coherent; tree = torn; reads = reads; allowed = inr (inr allowed) }
  allowed_by c accepted (IsGrowing.truncate none at) M left =
      let same = left.1 (ap length none) in
      record { coherent = same.coherent; tree = state.tree; reads = same.reads state.tree by.reads.tree; allowed = inl refl }

  allowed : (M : List ℕ) → IsTornOrSame M → ReadsAllowed P state (Some command) M
  allowed M left = allowed_by command by.accepted by.grows M left

  module _ (A : List ℕ) (fills : FillsFile P W A growth.inode growth.offset bytes new_pages) where
    filling : (M : List ℕ) → IsMix W A M → IsTornOrSame M
    filling M mix = (
      fill_torn P W A growth.inode growth.new_size growth.offset bytes new_pages may.can fills M mix,
      (λ none. fill_quiet P W A growth.inode growth.new_size growth.offset bytes new_pages may.can fills M mix (λ o inside. let least = inside.least in let below = inside.below in absurd (omega (arith, none, least, below)))),
    )

    filled_torn : IsTornOrSame A
    filled_torn = filling A (mix_of_new W A fills.size)

    after_filling : (M : List ℕ) → SameMeaning P A M → IsTornOrSame M
    after_filling M same = (torn_means_law P W A M growth.inode growth.offset bytes filled_torn.0 same, (λ none. meanings_chain.chained P W A M (filled_torn.1 none) same))

    pub early_allowed : (M : List ℕ) → IsEarly P W A growth.inode M → ReadsAllowed P state (Some command) M
    early_allowed M left = elim left [ inl mix ↦ allowed M (filling M mix) | inr taken ↦ allowed M (after_filling M taken.means) ]

    -- before the size is stored nothing reads as the tree after
    pub early : (M : List ℕ) → IsEarly P W A growth.inode M → ¬ Reads P M tree_later
    early M left reads =
        let (made, whole, is) = fresh_bytes in
        growth_once_law P W A M growth.inode growth.new_size growth.offset bytes new_pages made state.tree may.can fills left whole (subst (λ (t : Tree). Reads P M t) (sym is) reads)

    module _ (B : List ℕ) (takes : TakesPages P A B growth.inode new_pages) where
      pub new_coherent : IsCoherent P (sized B growth.inode growth.new_size)
      new_coherent = (growth_law P W A B growth.inode growth.new_size growth.offset bytes new_pages may.can fills takes).tidy.coherent

      -- ---- the end

      stepped_by : (c : Command) → IsGrowing growth bytes by.path c → IsStepped P (sized B growth.inode growth.new_size) state c (least_free_id state.tree)
      stepped_by c (IsGrowing.write is some) =
          subst (λ (size : ℕ). IsStepped P (sized B growth.inode size) state (Write by.path growth.offset bytes) (least_free_id state.tree)) (sym is)
          (write_past_step_law P W A B state by.path growth.inode growth.offset (least_free_id state.tree) bytes new_pages (subst (λ (size : ℕ). CanGrow P W growth.inode size growth.offset bytes new_pages) is may.can) fills takes some by.names by.reads)
      stepped_by c (IsGrowing.truncate none at) =
          lengthen_step_law P W A B state by.path growth.inode growth.new_size growth.offset (least_free_id state.tree) new_pages (subst (λ (l : List ℕ). CanGrow P W growth.inode growth.new_size growth.offset l new_pages) none may.can)
          (subst (λ (l : List ℕ). FillsFile P W A growth.inode growth.offset l new_pages) none fills) takes by.names by.reads

      pub stepped : IsStepped P (sized B growth.inode growth.new_size) state command (least_free_id state.tree)
      stepped = stepped_by command by.grows

      pub new_reads : Reads P (sized B growth.inode growth.new_size) tree_later
      new_reads = subst (λ (t : Tree). Reads P (sized B growth.inode growth.new_size) t) (stepped.tree ∙ sym tree_is) stepped.reads.tree

-- ---- what a crash leaves while it runs, and how the file has grown then, by what stands before each step

-- ---- what it costs

module _ (P : ℕ) (growth : Growth) (bytes pages : List ℕ) where
  pub growth_costs : growth_events growth.old_size growth.offset (length pages) ≡ events_in (growth_steps P growth bytes pages)
  growth_costs = omega arith

fences_are : (pages : List ℕ) → fences_for_growth pages ≡ 1 + (where_true (nat_lt 0 (length pages)) 1 + (1 + 0))
fences_are [] = refl
fences_are (page ∷ pages) = sym (ap (λ (t : Bool). 1 + (where_true t 1 + 1)) (lt-ltb 0 (length (page ∷ pages)) (omega arith)))

pub growth_fences : (P : ℕ) (growth : Growth) (bytes pages : List ℕ) → fences_for_growth pages ≡ fences_in (growth_steps P growth bytes pages)
growth_fences P growth bytes pages = fences_are pages

-- ---- the whole call

module _ {P : ℕ} (old : DeviceView) {growth : Growth} {bytes old_pages new_pages : List ℕ} (may : MayGrow P old.words growth bytes old_pages new_pages) {T E : Type 0} (new : DeviceView) (result : Result T E)
    (made : Unfolds (growth_steps P growth bytes new_pages) old new result) where
  pub grown_done : OnOk result (StoresGrowth P old.words new.words growth.inode growth.new_size growth.offset bytes new_pages)
  grown_done = map_ok _ _ result (λ (A, fills, (B, takes, (C, size, same))). record { filled = A; taken = B; fills = fills; takes = takes; size = same ∙ size }) (through result made)

  module _ (settled : IsSettledView old) {state : State} {command : Command} (by : IsGrowthBy P old.words state command growth bytes) where
    abbrev later : Tree
    later = (step P state.tree state.room command).tree

    After : List ℕ → Type 0
    After image = IsCoherent P image × Reads P image later

    -- before the size is stored, by the words that the first step made
    module _ (A : List ℕ) (fills : FillsFile P old.words A growth.inode growth.offset bytes new_pages) where
      before : IsSide P (IsRangeWord P old.words growth.inode growth.offset bytes) (ReadsAllowed P state (Some command)) (IsEarly P old.words A growth.inode)
      before = record {
        may = early_allowed may by A fills;
        alike = λ image other tree one more same reads.
            growth_hangs_law P old.words A image other growth.inode growth.new_size growth.offset bytes new_pages tree may.can fills one more (same_range P old.words image other growth.inode growth.offset bytes same) reads;
      }

      turns : Turns (IsEarly P old.words A growth.inode) After (inode_word_of growth.inode 2) (exactly A (filling_file P growth bytes new_pages) ∷ owning P growth.inode new_pages ∷ sizing growth.inode growth.new_size ∷ []) old.words
      unfolding After
      turns next is = inl (
        (λ image mix. inl (is_mix old.words A image (subst (λ (l : List ℕ). Mix old.words l image) is mix))),
        subst (λ (l : List ℕ). Turns (IsEarly P old.words A growth.inode) (λ image. IsCoherent P image × Reads P image later) (inode_word_of growth.inode 2) (owning P growth.inode new_pages ∷ sizing growth.inode growth.new_size ∷ []) l) (sym is)
            (λ B takes. inl (
              (λ image mix. inr (taking_law P old.words A B image growth.inode growth.new_size growth.offset bytes new_pages may.can fills takes (is_mix A B image mix))),
              (λ C size. inr (
                record { value = growth.new_size; inside = inside P old.words A B growth.inode growth.new_size growth.offset bytes new_pages may.can fills takes; stored = size },
                subst (λ image. IsCoherent P image × Reads P image later) (sym size) (new_coherent may by A fills B takes, new_reads may by A fills B takes),
                tt,
              )),
            )),
      )

    pub growth_underway : IsUnderway P (IsRangeWord P old.words growth.inode growth.offset bytes) (ReadsAllowed P state (Some command)) later old.trail new.trail
    unfolding After
    growth_underway =
        let (A, fills, told) = first_words made in
        turned (before A fills) (λ image left. early may by A fills image left)
        (one_side later (λ image both. record { coherent = both.0; tree = later; reads = both.1; allowed = inr (inl refl) }) (λ image both. both.1)) (λ image both. both.1)
        IsRangeWord.size settled (inl (mix_of_old old.words A)) (turns A fills) told

-- ---- what a volume knows once a file has grown and has its new pages

module _ (volume : VolumeView) (W K : List ℕ) (i : ℕ) (pages : List ℕ) (knows : Knows volume W) (tidy : IsTidied volume.size W) (least : 1 ≤ i) (most : i ≤ inodes_of volume.size)
    (all : length (pages_of volume.index i) ≡ pages_of_size (inode_size W i)) (free : (j : ℕ) → Contains pages j → IsFreePage volume.size W j) (distinct : IsDistinct pages) (gained : HasGained volume.size W K i pages) where
  facts_grown : Facts
  facts_grown = with_pages (facts_of volume.size W volume.stopped) i (length (pages_of volume.index i)) pages

  -- a new page had no owner, and is the file's
  was_ownerless : (x j : ℕ) → 1 ≤ x → IsIn j pages → ¬ IsPageIn volume.size W x j
  was_ownerless x j some among page = let none = (free j (in_contained j pages among)).1 in let own = page.owner in omega (arith, some, own, none)

  page_gained : (j : ℕ) → IsIn j pages → IsPageIn volume.size K i j
  page_gained j among = let (k, stands, low) = at_in pages j among in let page = gained.gained k j stands in record { in_range = page.in_range; owner = page.owner }

  owner_same : (j : ℕ) → j < data_pages_of volume.size → ¬ IsIn j pages → page_owner volume.size K j ≡ page_owner volume.size W j
  owner_same j low none = gained.owners j low (λ there. none (contained_in j pages there))

  entries_grown : (d slot : ℕ) (bytes : List ℕ) → IsEntryOf volume.size W d bytes slot ↔ IsEntryOf volume.size K d bytes slot
  entries_grown d slot bytes = (
    (λ is. let (there, owner) = (gained.entries d slot).1 (is.slot, is.owner) in record { slot = there; owner = owner; name = gained.names slot is.slot ∙ is.name }),
    (λ is. let (there, owner) = (gained.entries d slot).0 (is.slot, is.owner) in record { slot = there; owner = owner; name = sym (gained.names slot there) ∙ is.name }),
  )

  pages_said : (x j : ℕ) → 1 ≤ x → (IsPageIn volume.size W x j ⊎ ((x ≡ i) × IsIn j pages)) ↔ IsPageIn volume.size K x j
  pages_said x j some = (
    (λ either. elim either [
      | inl is ↦ record { in_range = is.in_range; owner = owner_same j is.in_range (λ among. was_ownerless x j some among is) ∙ is.owner }
      | inr (here, among) ↦ subst (λ (y : ℕ). IsPageIn volume.size K y j) (sym here) (page_gained j among)
    ]),
    (λ is. elim (is_in j pages) [
      | yes among ↦ inr (sym is.owner ∙ (page_gained j among).owner, among)
      | no none ↦ inl (record { in_range = is.in_range; owner = sym (owner_same j is.in_range none) ∙ is.owner })
    ]),
  )

  -- a page that a file had stands where it stood
  old_place : (x k j : ℕ) → 1 ≤ x → Reached volume.size W x → HasBytes W x → IsPageIn volume.size W x j → page_offset volume.size W j ≡ k → page_offset volume.size K j ≡ k
  old_place x k j some was bytes is place =
      let kind = (tidy.coherent Rule.page_kinds j).file is.in_range (subst (λ (y : ℕ). Reached volume.size W y) (sym is.owner) was) (subst (λ (y : ℕ). HasBytes W y) (sym is.owner) bytes) in
      let of_file : IsPageOf volume.size W x k j = page_from_place (record { in_range = is.in_range; owner = is.owner; kind = kind; offset = place }) in
      ((gained.files x k j was (λ there. was_ownerless x j some (contained_in j pages there) is)).1 of_file).offset

  said_grown : IsSaidBy volume.size facts_grown K
  unfolding facts_grown
  said_grown = record {
    entries = λ d slot bytes some few. entries_grown d slot bytes;
    pages = λ x j some few. pages_said x j some;
    places = λ x k j some few page reached bytes place. elim place [
      | inl (is, stands) ↦ (let was = (gained.reached x).0 reached in let file = sym (gained.kinds x some few) ∙ bytes in old_place x k j some was file is (stands was file))
      | inr (here, n, stands, count) ↦ (let offset = (gained.gained n j stands).offset in omega (arith, offset, all, count))
    ];
    inodes = λ k low. let kind = gained.kinds (k + 1) (omega arith) (omega (arith, low)) in ((λ none. kind ∙ none), (λ none. sym kind ∙ none));
    data_pages = λ j low. (
      (λ (none, out). owner_same j low out ∙ none),
      (λ none.
          let out : ¬ IsIn j pages = λ among. (let own = (page_gained j among).owner in omega (arith, own, none, least)) in
          (sym (owner_same j low out) ∙ none, out)),
    );
  }

  pub knows_grown : IsTidied volume.size K → (new : VolumeView) → EntersPages volume new i pages → Knows new K
  unfolding facts_grown
  knows_grown after new enters = knows_told volume.size new facts_grown K after (enters_pages (told volume.size volume W refl tidy knows) new i pages enters least most distinct (λ j among. was_ownerless i j least among)) said_grown

-- ---- a file that has grown leaves a volume that stands for what its command leaves

module _ {volume : VolumeView} {device : DeviceView} {state : State} {command : Command} {answer : Answer} {action : Action} (plan : IsPlanFor volume device state command action)
    (told : answer_of (untaken volume.size) state.tree state.room command ≡ answer)
    (kept : (gives : Bool) → room_after (least_free_id state.tree) state.tree state.room command gives ≡ room_after (least_free_id state.tree) state.tree state.room command (gives_back action))
    {growth : Growth} {bytes new_pages : List ℕ} (may : MayGrow volume.size device.words growth bytes (pages_of volume.index growth.inode) new_pages) (by : IsGrowthBy volume.size device.words state command growth bytes) where
  pub leaves_grown : IsDistinct new_pages → (new : VolumeView) (after : DeviceView) → StoresGrowth volume.size device.words after.words growth.inode growth.new_size growth.offset bytes new_pages → EntersPages volume new growth.inode new_pages → IsSettledView after
      → IsCountedBy action device after → KeepsMark volume new device.words after.words after → LeavesState volume new device after state command answer
  leaves_grown distinct new after grown enters settled counted keeps =
      let K = sized grown.taken growth.inode growth.new_size in
      let law = growth_law volume.size device.words grown.filled grown.taken growth.inode growth.new_size growth.offset bytes new_pages may.can grown.fills grown.takes in
      let tidy = as_tidy law.tidy in
      let knows = knows_grown volume device.words K growth.inode new_pages plan.stands.knows (tidied plan.stands.tidy) may.held.least may.held.most may.held.count may.can.free distinct law.index (tidied tidy) new enters in
      leaves_stepped plan told kept K tidy (stepped may by grown.filled grown.fills grown.taken grown.takes) new after (ap (λ (v : VolumeView). v.size) enters.rest) knows grown.size settled counted
      (subst (λ (l : List ℕ). KeepsMark volume new device.words l after) grown.size keeps)
