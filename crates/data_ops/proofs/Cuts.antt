-- A file is cut: what stands before each of its steps, what follows, what a crash leaves, and what the volume knows then.
use Rattle.std.proofs.Common.{◌≡◌, ◌≢◌, ◌⊎◌, ℕ, ◌+◌, ◌-◌, ◌*◌, ◌<◌, ◌≤◌, List, length, slice_index, get_or-set_other, inl, inr, sym, ap, subst, ◌∙◌, arith, length-drop, Contains, Bool, true, false, nat_lt, [], ◌∷◌, refl, cond, ◌||◌, Option, Some, ◌↔◌, if◌then◌else◌}
use Rattle.std.proofs.lemmas.List.{get_or_default, get_or-set_same}
use Rattle.std.proofs.lemmas.List.Elements.{Contains-get_or}
use Rattle.std.specs.Prelude.{Result, Ok, OnOk}
use Rattle.std.proofs.lemmas.Bool.{cases_eq, lt-ltb, ltb-true, ltb-false}
use Rattle.pm_trait.specs.DeviceView.{DeviceView, IsSettledView}
use Rattle.pm_trait.specs.Unfolds.{Step, Takes, events_in, Along, fences_in, Unfolds}
use Rattle.pm_trait.proofs.Unfolding.{step_intervals, map_ok, through, next}
use Rattle.layout.specs.declared.fields.DescriptorFields.{DescriptorFields}
use Rattle.layout.specs.Geometry.{IsVolumeSize, pieces, data_pages_of, inode_word_of, descriptor_word_of, inodes_of}
use Rattle.layout.specs.Fields.{word, inode_size, page_owner, page_kind, page_offset}
use Rattle.layout.proofs.GeometryLaws.{inode_word_within, same_descriptor_word, inode_word_not_descriptor_word}
use Rattle.page_state.specs.Page.{descriptor_of}
use Rattle.page_state.proofs.PageLaws.{same_descriptor_fields}
use Rattle.tree_model.specs.declared.reply.Reply.TheVariants.{Done}
use Rattle.tree_model.specs.PathText.{Route}
use Rattle.tree_model.specs.Capacity.{untaken}
use Rattle.tree_model.specs.Step.{step, outcome_of, least_free_id, tree_after}
use Rattle.tree_model.specs.Tree.{Tree, id_at}
use Rattle.tree_model.specs.Run.{State}
use Rattle.tree_model.specs.declared.command.Command.TheVariants.{Truncate}
use Rattle.tree_model.specs.declared.reply.Refusal.{Refusal}
use Rattle.image_reading.specs.Reading.{pages_of_size, Reads}
use Rattle.image_reading.specs.Tidy.{IsTidied}
use Rattle.image_counts.specs.Entries.{IsPageIn}
use Rattle.image_laws.specs.Drop.{GivesPages}
use Rattle.image_laws.specs.Frame.{SameMeaning}
use Rattle.image_laws.proofs.Meaning.{same_itself, same_chained}
use Rattle.image_laws.proofs.Resize.{only_size}
use Rattle.content_laws.specs.Cut.{IsPastCut, ClearsPages, Cuts, MayTrim, with_size, LeavesLowered, CanCut, HasCut}
use Rattle.content_laws.specs.Growth.{sized}
use Rattle.content_laws.proofs.CutTidy.{lowering_law}
use Rattle.content_laws.proofs.CutWords as words
use Rattle.content_laws.proofs.CutWords.{inside}
use Rattle.content_laws.proofs.Steps.{resized_tree}
use Rattle.content_laws.proofs.Trims.{same_trim, trimming, may_release, releasing}
use Rattle.content_laws.proofs.CutQuiet as quiet
use Rattle.volatile_index.specs.Index.{pages_of}
use Rattle.volume.specs.declared.plan.Resizing.{Resizing}
use Rattle.volume.specs.Costs.{commit_events, where_true, inode_events, descriptor_rest_events, fence_events, loss_events, fences_for_loss}
use Rattle.volume.specs.Volume.{VolumeView}
use Rattle.volume.specs.Entered.{MayLosePages, LeavesLastPages}
use Rattle.volume.specs.Stages.{HasKept}
use Rattle.volume.specs.declared.next.Next.{Next}
use Rattle.volume.specs.declared.next.Next.TheVariants.{More, Ended}
use Rattle.volume.proofs.Unmarked.{ReadsAllowed}
use Rattle.volume.specs.Stands.{Knows}
use Rattle.entry_steps.proofs.Keeping.{kept_on}
use Rattle.entry_steps.proofs.Moments.{is_mix}
use Rattle.entry_steps.proofs.Turning.{IsUnderway, Turns, one_side, turned}
use Rattle.entry_steps.proofs.Facts.{Facts, facts_of, with_first, IsSaidBy, told, knows_told, leaves_last_pages}
use Rattle.data_ops.specs.Files.{AreBytesFrom}
use Rattle.data_ops.specs.Cutting.{MayCut, gone_pages, IsResizingAt, StoresCut, cut_steps}
use Rattle.data_ops.specs.Steps.{CanDisown, CanRelease, giving, freeing}
use Rattle.data_ops.specs.ResizeStages.{CanCutFile, IsCutAt, StandsStage, StandsNext, EntersCut, left_of, left_of_cut, step_of_cut, step_of, next_cutting}
use Rattle.data_ops.specs.Growing.{owner_events, release_events}
use Rattle.data_ops.specs.declared.truncate.CutProgress.{CutProgress}
use Rattle.data_ops.specs.declared.truncate.CutProgress.TheVariants.{Begun, Lowered, Trimmed}
use Rattle.data_ops.specs.declared.truncate.Stage.{Stage}
use Rattle.data_ops.specs.declared.truncate.Stage.TheVariants.{Cutting}
use Rattle.data_ops.proofs.Pages.{none_given, none_cleared, kept_descriptor}
use Rattle.data_ops.proofs.Steps.{resizing_for}
use Rattle.data_ops.proofs.Going.{IsBehind, all_behind, none_behind, stored_events}
use Rattle.data_ops.proofs.Spans.{IsPart, bytes_part, dropped_part}

-- ---- the pages behind a file's new end: what stands before each step, by the words as they are, and what the laws ask of them

-- a file that may be cut
pub can_be_cut : {P : ℕ} {W : List ℕ} {resizing : Resizing} {pages : List ℕ} → MayCut P W resizing pages → CanCutFile P W resizing pages
can_be_cut may = record {
  lower = record { least = may.held.least; most = may.held.most; live = may.held.live; less = may.can.less };
  held = may.held;
  old_size = may.old_size;
  cut = may.cut;
}

-- so many are the last pages of a list
pub last_long : (resizing : Resizing) (pages : List ℕ) → resizing.cut ≤ length pages → length (gone_pages resizing pages) ≡ resizing.cut
last_long resizing pages enough = let all = length-drop (length pages - resizing.cut) pages in omega (arith, all, enough)

-- ---- the pages

module _ {P : ℕ} {W : List ℕ} {resizing : Resizing} {pages : List ℕ} (may : CanCutFile P W resizing pages) where
  cut_is : resizing.cut ≡ pages_of_size (inode_size W resizing.inode) - pages_of_size resizing.new_size
  cut_is = may.cut ∙ ap (λ (n : ℕ). pages_of_size n - pages_of_size resizing.new_size) (sym may.old_size)

  fewer : pages_of_size resizing.new_size ≤ pages_of_size (inode_size W resizing.inode)
  unfolding pages_of_size
  fewer = let less = may.lower.less in omega (arith, less)

  pub enough : resizing.cut ≤ length pages
  enough = let is = cut_is in let count = may.held.count in omega (arith, is, count)

  pub kept_is : length pages - resizing.cut ≡ pages_of_size resizing.new_size
  kept_is = let is = cut_is in let count = may.held.count in let least = fewer in omega (arith, is, count, least)

  -- the size's word is none of a descriptor
  sized_word : (j field : ℕ) → word (sized W resizing.inode resizing.new_size) (descriptor_word_of P j field) ≡ word W (descriptor_word_of P j field)
  unfolding word
  sized_word j field =
      get_or-set_other W (inode_word_of resizing.inode 2) (descriptor_word_of P j field) resizing.new_size 0
      (λ same. inode_word_not_descriptor_word P resizing.inode j 2 field may.held.least may.held.most (omega arith) (sym same))

  sized_descriptor : (j : ℕ) → descriptor_of P (sized W resizing.inode resizing.new_size) j ≡ descriptor_of P W j
  sized_descriptor j = kept_descriptor P W (sized W resizing.inode resizing.new_size) j (λ f few. sized_word j f)

  -- they are the last of its pages, as the code takes them
  pub gone_long : length (gone_pages resizing pages) ≡ resizing.cut
  gone_long = last_long resizing pages enough

  parts : IsPart pages (gone_pages resizing pages) (length pages - resizing.cut)
  parts = dropped_part pages (length pages - resizing.cut)

  -- they follow one another from the new end on
  from_end : AreBytesFrom P W resizing.inode (length pages - resizing.cut) (gone_pages resizing pages)
  from_end = bytes_part P W resizing.inode (length pages - resizing.cut) pages (gone_pages resizing pages) may.held.bytes parts

  -- the file has its new size, and they stand past its end
  pub can_disown : IsVolumeSize P → length W ≡ 512 * P → CanDisown P (sized W resizing.inode resizing.new_size) resizing.inode (gone_pages resizing pages)
  unfolding pages_of_size inode_size word
  can_disown size whole =
      let least = may.lower.least in
      let most = may.lower.most in
      let only = only_size P W resizing.inode resizing.new_size least most in
      let within = inode_word_within P resizing.inode 2 size least most (omega arith) in
      let inside : inode_word_of resizing.inode 2 < length W = omega (arith, within, whole) in
      record {
        least = least;
        most = most;
        live = (subst (λ (kind : ℕ). (kind ≡ 1) ⊎ (kind ≡ 2)) (sym (only.node_kind resizing.inode)) may.lower.live.0, only.own resizing.inode ∙ may.lower.live.1);
        first = length pages - resizing.cut;
        behind = let first = kept_is in let stored = ap (λ (n : ℕ). pieces n 4096) (get_or-set_same W (inode_word_of resizing.inode 2) resizing.new_size 0 inside) in omega (arith, first, stored);
        pages_are = record { in_range = from_end.in_range; distinct = from_end.distinct; each = λ k low. sized_descriptor (slice_index (gone_pages resizing pages) k) ∙ from_end.each k low };
      }

-- Pages past a file's end that lose their owner can be released.
pub can_release : {P : ℕ} {I : List ℕ} {i : ℕ} {gone : List ℕ} (J : List ℕ) → CanDisown P I i gone → GivesPages P I J (Contains gone) → CanRelease P J gone
unfolding page_owner page_kind page_offset
can_release {P} {I} {i} {gone} J can gives = record {
  first = can.first;
  pages_are = record {
    in_range = can.pages_are.in_range;
    distinct = can.pages_are.distinct;
    each = λ k low.
        let page = slice_index gone k in
        let stays : (f : ℕ) → f < 8 → f ≢ 0 → word J (descriptor_word_of P page f) ≡ word I (descriptor_word_of P page f)
        = λ f few some. gives.others (descriptor_word_of P page f) (λ j there same. some (same_descriptor_word P page j f 0 few (omega arith) same).1) in
        same_descriptor_fields (descriptor_of P J page) (record { owner = 0; kind = 1; offset = can.first + k })
        (gives.owners page (Contains-get_or gone k 0 low))
        (stays 1 (omega arith) (λ same. omega (arith, same)) ∙ ap (λ (d : DescriptorFields). d.kind) (can.pages_are.each k low))
        (stays 2 (omega arith) (λ same. omega (arith, same)) ∙ ap (λ (d : DescriptorFields). d.offset) (can.pages_are.each k low));
  };
}

-- ---- what the laws ask for

module _ {P : ℕ} {W : List ℕ} {resizing : Resizing} {pages : List ℕ} (may : MayCut P W resizing pages) where
  abbrev file : CanCutFile P W resizing pages
  file = can_be_cut may

  -- the words with the new size mean what they mean
  pub sized_same : SameMeaning P (sized W resizing.inode resizing.new_size) (sized W resizing.inode resizing.new_size)
  sized_same = same_itself P (sized W resizing.inode resizing.new_size) (words.resized_file P W resizing.inode resizing.new_size may.can).coherent

  -- they are those that the laws speak of
  to_past : (j : ℕ) → Contains (gone_pages resizing pages) j → IsPastCut P W resizing.inode resizing.new_size j
  to_past j (k, low, is) =
      let page : slice_index (gone_pages resizing pages) k ≡ j = get_or_default (gone_pages resizing pages) k 0 j low ∙ is in
      let says = (from_end file).each k low in
      let least = kept_is file in
      record {
        in_range = subst (λ (x : ℕ). x < data_pages_of P) page ((from_end file).in_range.each k low);
        owner = ap (page_owner P W) (sym page) ∙ ap (λ (d : DescriptorFields). d.owner) says;
        past = let same = ap (page_offset P W) (sym page) ∙ ap (λ (d : DescriptorFields). d.offset) says in omega (arith, same, least);
      }

  of_past : (j : ℕ) → IsPastCut P W resizing.inode resizing.new_size j → Contains (gone_pages resizing pages) j
  of_past j past =
      let (n, inside, is) = may.held.all j (record { in_range = past.in_range; owner = past.owner }) in
      let page : slice_index pages n ≡ j = get_or_default pages n 0 j inside ∙ is in
      let offset = ap (page_offset P W) (sym page) ∙ ap (λ (d : DescriptorFields). d.offset) (may.held.bytes.each n inside) in
      let behind = past.past in
      let first = kept_is file in
      let long = gone_long file in
      let k = n - (length pages - resizing.cut) in
      let back : length pages - resizing.cut + k ≡ n = omega (arith, offset, behind, first) in
      let low : k < length (gone_pages resizing pages) = omega (arith, back, inside, long) in
      subst (λ (x : ℕ). Contains (gone_pages resizing pages) x) ((parts file).same k low ∙ ap (λ (m : ℕ). slice_index pages m) back ∙ page) (Contains-get_or (gone_pages resizing pages) k 0 low)

  gives_past : (J : List ℕ) → GivesPages P (sized W resizing.inode resizing.new_size) J (Contains (gone_pages resizing pages)) → GivesPages P (sized W resizing.inode resizing.new_size) J (IsPastCut P W resizing.inode resizing.new_size)
  gives_past J gives = record {
    size = gives.size;
    owners = λ j past. gives.owners j (of_past j past);
    others = λ a out. gives.others a (λ j there. out j (to_past j there));
  }

  clears_past : (J K : List ℕ) → ClearsPages P J K (Contains (gone_pages resizing pages)) → ClearsPages P J K (IsPastCut P W resizing.inode resizing.new_size)
  clears_past J K clears = record {
    size = clears.size;
    rests = λ j f past. clears.rests j f (of_past j past);
    others = λ a out. clears.others a (λ j f there. out j f (to_past j there));
  }

  pub cuts_are : (J K : List ℕ) → GivesPages P (sized W resizing.inode resizing.new_size) J (Contains (gone_pages resizing pages)) → ClearsPages P J K (Contains (gone_pages resizing pages)) → Cuts P W J K resizing.inode resizing.new_size
  cuts_are J K gives clears = record { gives = gives_past J gives; clears = clears_past J K clears }

  pub may_trim : MayTrim P (sized W resizing.inode resizing.new_size) resizing.inode (Contains (gone_pages resizing pages))
  may_trim =
      let law = quiet.may_trim P W resizing.inode resizing.new_size may.can in
      record {
        coherent = law.coherent;
        reached = law.reached;
        file = law.file;
        decided = λ j. elim (law.decided j) [ inl past ↦ inl (of_past j past) | inr none ↦ inr (λ there. none (to_past j there)) ];
        past = λ j there. law.past j (to_past j there);
      }

-- ---- what stands behind each of its steps, by what stood before it and what it made

-- ---- the steps that are left

-- those behind the first
abbrev pub rest_of_cut : ℕ → Resizing → List ℕ → CutProgress → List Step
rest_of_cut P resizing pages Begun = giving P (gone_pages resizing pages) ∷ freeing P (gone_pages resizing pages) ∷ []
rest_of_cut P resizing pages Lowered = freeing P (gone_pages resizing pages) ∷ []
rest_of_cut P resizing pages Trimmed = []

cut_left : (P : ℕ) (resizing : Resizing) (pages : List ℕ) (progress : CutProgress) → left_of_cut P resizing pages progress ≡ step_of_cut P resizing pages progress ∷ rest_of_cut P resizing pages progress
cut_left P resizing pages Begun = refl
cut_left P resizing pages Lowered = refl
cut_left P resizing pages Trimmed = refl

module _ (P : ℕ) (I : List ℕ) (resizing : Resizing) (pages : List ℕ) (enough : resizing.cut ≤ length pages) where
  some_gone : 0 < resizing.cut → nat_lt 0 (length (gone_pages resizing pages)) ≡ true
  some_gone some = lt-ltb 0 (length (gone_pages resizing pages)) (let long = last_long resizing pages enough in omega (arith, some, long))

  -- the step has a store
  pub cut_stores : (progress : CutProgress) → IsCutAt P I resizing pages progress → (step_of_cut P resizing pages progress).stores ≡ true
  cut_stores Begun at = refl
  cut_stores Lowered at = some_gone at.0
  cut_stores Trimmed at = some_gone at.0

-- the pages are the file's and taken, however many events are kept
pub may_lose : (volume after : VolumeView) (n : ℕ) {inode count : ℕ} → after ≡ record volume { kept = n } → MayLosePages volume inode count → MayLosePages after inode count
may_lose volume after n {inode} {count} is may =
    subst (λ (v : VolumeView). MayLosePages v inode count) (sym is) (record { least = may.least; most = may.most; enough = may.enough; once = may.once; pages_taken = may.pages_taken })

-- ---- events

module _ (volume : VolumeView) (device : DeviceView) (resizing : Resizing) (progress : CutProgress) (stands : StandsStage volume device (Cutting resizing progress)) where
  pub long : length (gone_pages resizing (pages_of volume.index resizing.inode)) ≡ resizing.cut
  long = last_long resizing (pages_of volume.index resizing.inode) stands.at.2.enough

  stores : (step_of volume (Cutting resizing progress)).stores ≡ true
  stores = cut_stores volume.size device.words resizing (pages_of volume.index resizing.inode) stands.at.2.enough progress stands.at.1

  abbrev rest : List Step
  rest = rest_of_cut volume.size resizing (pages_of volume.index resizing.inode) progress

  has_kept : HasKept volume device ((step_of volume (Cutting resizing progress)).events + events_in rest)
  has_kept = subst (λ (n : ℕ). HasKept volume device (n + events_in rest)) (stored_events (step_of volume (Cutting resizing progress)) stores) (subst (λ (l : List Step). HasKept volume device (events_in l)) (cut_left volume.size resizing (pages_of volume.index resizing.inode) progress) stands.kept)

  -- ---- behind the step

  module _ {T E : Type 0} {value : T} (settled : IsSettledView device) (after : DeviceView) (takes : Takes {E = E} (step_of volume (Cutting resizing progress)) device after (Ok value)) where
    -- the stage behind it, by what its words are then
    stands_behind : (next : CutProgress) → rest_of_cut volume.size resizing (pages_of volume.index resizing.inode) progress ≡ left_of volume (Cutting resizing next) → IsCutAt volume.size after.words resizing (pages_of volume.index resizing.inode) next
        → StandsStage (record volume { kept = volume.kept - (step_of volume (Cutting resizing progress)).events }) after (Cutting resizing next)
    stands_behind next same at =
        let made = step_intervals (step_of volume (Cutting resizing progress)) device after (Ok value) settled takes in
        let all = stored_events (step_of volume (Cutting resizing progress)) stores in
        record {
          going = stands.going;
          whole = made.long ∙ stands.whole;
          at = (stands.at.0, at, may_lose volume _ (volume.kept - (step_of volume (Cutting resizing progress)).events) refl stands.at.2);
          kept = kept_on (step_of volume (Cutting resizing progress)).events (events_in (left_of volume (Cutting resizing next)))
              (subst (λ (l : List Step). HasKept volume device ((step_of volume (Cutting resizing progress)).events + events_in l)) same has_kept) refl (let room = made.room in omega (arith, room, all));
        }

next_lowered : (volume : VolumeView) (device : DeviceView) (resizing : Resizing) (some : Bool) → nat_lt 0 resizing.cut ≡ some → (0 < resizing.cut → StandsStage volume device (Cutting resizing Lowered))
    → StandsNext volume device (if some then More (Cutting resizing Lowered) else Ended Done)
next_lowered volume device resizing true is stands = stands (ltb-true 0 resizing.cut is)
next_lowered volume device resizing false is stands = tt

-- what is left of a cut stands behind its step
cut_stands : {T E : Type 0} {value : T} (volume : VolumeView) (device after : DeviceView) (new : VolumeView) (resizing : Resizing) (progress : CutProgress) → IsVolumeSize volume.size → StandsStage volume device (Cutting resizing progress) → IsSettledView device
    → Takes {E = E} (step_of volume (Cutting resizing progress)) device after (Ok value) → EntersCut resizing progress (record volume { kept = volume.kept - (step_of volume (Cutting resizing progress)).events }) new → StandsNext new after (next_cutting resizing progress)
cut_stands {T} {E} {value} volume device after new resizing Begun size stands settled takes enters =
    subst (λ (v : VolumeView). StandsNext v after (next_cutting resizing Begun)) (sym enters)
    (next_lowered (record volume { kept = volume.kept - commit_events }) after resizing (nat_lt 0 resizing.cut) refl
    (λ some. stands_behind volume device resizing Begun stands {T = T} {E = E} {value = value} settled after takes Lowered refl
    (some, subst (λ (l : List ℕ). CanDisown volume.size l resizing.inode (gone_pages resizing (pages_of volume.index resizing.inode))) (sym takes.makes) (can_disown stands.at.1 size stands.whole))))
cut_stands {T} {E} {value} volume device after new resizing Lowered size stands settled takes enters =
    subst (λ (v : VolumeView). StandsStage v after (Cutting resizing Trimmed)) (sym enters)
    (stands_behind volume device resizing Lowered stands {T = T} {E = E} {value = value} settled after takes Trimmed refl (stands.at.1.0, can_release after.words stands.at.1.1 takes.makes))
cut_stands volume device after new resizing Trimmed size stands settled takes enters = tt

-- and so by the list of pages and the size as the code has them
pub cut_stands_as : {T E : Type 0} {P : ℕ} {pages : List ℕ} {result : Result T E} {value : T} {events : ℕ} (volume paid new : VolumeView) (device after : DeviceView) (resizing : Resizing) (progress : CutProgress) (next : Next Stage) → P ≡ volume.size
    → pages ≡ pages_of volume.index resizing.inode → result ≡ Ok value → events ≡ (step_of volume (Cutting resizing progress)).events → IsVolumeSize P → StandsStage volume device (Cutting resizing progress) → IsSettledView device
    → Takes (step_of_cut P resizing pages progress) device after result → paid ≡ record volume { kept = volume.kept - events } → EntersCut resizing progress paid new → next ≡ next_cutting resizing progress → StandsNext new after next
cut_stands_as {T} {E} {P} {pages} {result} {value} {events} volume paid new device after resizing progress next same are done events_are size stands settled takes is enters next_is =
    let made : Takes {T = T} {E = E} (step_of volume (Cutting resizing progress)) device after (Ok value) =
    subst (λ (r : Result T E). Takes (step_of volume (Cutting resizing progress)) device after r) done
    (subst (λ (l : List ℕ). Takes (step_of_cut volume.size resizing l progress) device after result) are (subst (λ (p : ℕ). Takes (step_of_cut p resizing pages progress) device after result) same takes)) in
    subst (λ (n : Next Stage). StandsNext new after n) (sym next_is)
    (cut_stands {T = T} {E = E} {value = value} volume device after new resizing progress (subst IsVolumeSize same size) stands settled made
    (subst (λ (v : VolumeView). EntersCut resizing progress v new) (is ∙ ap (λ (n : ℕ). record volume { kept = volume.kept - n }) events_are) enters))

-- ---- from one of its steps to the next: the steps that are left

-- how many steps are left at most
abbrev pub rank_of_cut : CutProgress → ℕ
rank_of_cut Begun = 3
rank_of_cut Lowered = 2
rank_of_cut Trimmed = 1

module _ (P : ℕ) (resizing : Resizing) (pages : List ℕ) (enough : resizing.cut ≤ length pages) where
  none_gone : nat_lt 0 resizing.cut ≡ false → length (gone_pages resizing pages) ≡ 0
  none_gone test = let long = last_long resizing pages enough in let none = ltb-false 0 resizing.cut test in omega (arith, long, none)

  no_store : nat_lt 0 resizing.cut ≡ false → nat_lt 0 (length (gone_pages resizing pages)) ≡ false
  no_store test = ap (nat_lt 0) (last_long resizing pages enough) ∙ test

  -- those of the next stage: pages lose their owner and are freed where there are any
  abbrev pub left_behind_cut : CutProgress → List Step
  left_behind_cut Begun = cond (nat_lt 0 resizing.cut) (left_of_cut P resizing pages Lowered) []
  left_behind_cut Lowered = left_of_cut P resizing pages Trimmed
  left_behind_cut Trimmed = []

  loss_behind : (some : Bool) → nat_lt 0 resizing.cut ≡ some → (after : DeviceView) → IsBehind (rest_of_cut P resizing pages Begun) (cond some (left_of_cut P resizing pages Lowered) []) after
  loss_behind true test after = all_behind (rest_of_cut P resizing pages Begun) after
  loss_behind false test after =
      none_behind (giving P (gone_pages resizing pages)) (no_store test) (none_given P after.words (gone_pages resizing pages) (none_gone test))
      (none_behind (freeing P (gone_pages resizing pages)) (no_store test) (none_cleared P after.words (gone_pages resizing pages) (none_gone test)) (all_behind [] after))

  pub cut_behind : (progress : CutProgress) (after : DeviceView) → IsBehind (rest_of_cut P resizing pages progress) (left_behind_cut progress) after
  cut_behind Begun after = loss_behind (nat_lt 0 resizing.cut) refl after
  cut_behind Lowered after = all_behind (rest_of_cut P resizing pages Lowered) after
  cut_behind Trimmed after = all_behind [] after

-- ---- what a crash leaves while it runs, and what is cut then, by what stands before each step

-- ---- what the plan says of the tree

module _ {P : ℕ} {W : List ℕ} {state : State} {path : Route} {resizing : Resizing} (at : IsResizingAt P W state path resizing) where
  pub cut_named : id_at state.tree path ≡ Some resizing.inode
  cut_named = (resizing_for P W state path resizing.new_size resizing at.planned.plan_is).1.inode_is

  tree_steps : (step P state.tree state.room (Truncate path resizing.new_size)).tree ≡ tree_after (least_free_id state.tree) state.tree (Truncate path resizing.new_size)
  tree_steps = ap (λ (o : Option Refusal). (outcome_of o (untaken P) (least_free_id state.tree) state.tree state.room (Truncate path resizing.new_size)).tree) at.planned.accepted

  tree_is : (step P state.tree state.room (Truncate path resizing.new_size)).tree ≡ with_size state.tree resizing.inode resizing.new_size
  tree_is = tree_steps ∙ sym (resized_tree state.tree path resizing.inode resizing.new_size (least_free_id state.tree) cut_named)

-- ---- what it costs

or_false : (holds : Bool) → holds || false ≡ holds
or_false true = refl
or_false false = refl

rest_is : (pages : ℕ) → pages * descriptor_rest_events + where_true false inode_events + fence_events ≡ release_events pages
rest_is pages = omega arith

sum_of : (a b c : ℕ) → a + (b + c) ≡ a + (b + (c + 0))
sum_of a b c = omega arith

module _ {P : ℕ} (old : DeviceView) {resizing : Resizing} {pages : List ℕ} (may : MayCut P old.words resizing pages) where
  pub cut_costs : commit_events + loss_events resizing.cut false ≡ events_in (cut_steps P resizing pages)
  cut_costs =
      ap (λ (b : Bool). commit_events + (where_true (nat_lt 0 resizing.cut) (owner_events resizing.cut) + where_true b (resizing.cut * descriptor_rest_events + where_true false inode_events + fence_events))) (or_false (nat_lt 0 resizing.cut))
      ∙ ap (λ (n : ℕ). commit_events + (where_true (nat_lt 0 resizing.cut) (owner_events resizing.cut) + where_true (nat_lt 0 resizing.cut) n)) (rest_is resizing.cut)
      ∙ ap (λ (n : ℕ). commit_events + (where_true (nat_lt 0 n) (owner_events n) + where_true (nat_lt 0 n) (release_events n))) (sym (gone_long (can_be_cut may)))
      ∙ sum_of commit_events _ _

  pub cut_fences : 1 + fences_for_loss resizing.cut false ≡ fences_in (cut_steps P resizing pages)
  cut_fences =
      ap (λ (b : Bool). 1 + (where_true (nat_lt 0 resizing.cut) 1 + where_true b 1)) (or_false (nat_lt 0 resizing.cut))
      ∙ ap (λ (n : ℕ). 1 + (where_true (nat_lt 0 n) 1 + where_true (nat_lt 0 n) 1)) (sym (gone_long (can_be_cut may)))
      ∙ sum_of 1 _ _

  -- ---- each mix

  lowered : LeavesLowered P old.words resizing.inode resizing.new_size
  lowered = lowering_law P old.words resizing.inode resizing.new_size may.can

  onward : Along (SameMeaning P (sized old.words resizing.inode resizing.new_size)) (giving P (gone_pages resizing pages) ∷ freeing P (gone_pages resizing pages) ∷ []) (sized old.words resizing.inode resizing.new_size)
  onward J gave =
      let trim = may_trim may in (
        (λ M mix. trimming P (sized old.words resizing.inode resizing.new_size) J (Contains (gone_pages resizing pages)) gave resizing.inode trim M (is_mix (sized old.words resizing.inode resizing.new_size) J M mix)),
        (λ K cleared. (
          (λ M mix. same_chained P (sized old.words resizing.inode resizing.new_size) J M (same_trim P (sized old.words resizing.inode resizing.new_size) J (Contains (gone_pages resizing pages)) gave resizing.inode trim)
              (releasing P J K (Contains (gone_pages resizing pages)) resizing.inode (may_release P (sized old.words resizing.inode resizing.new_size) J (Contains (gone_pages resizing pages)) gave resizing.inode trim) cleared M (is_mix J K M mix))),
          tt,
        )),
      )

  turns : Turns (λ image. image ≡ old.words) (SameMeaning P (sized old.words resizing.inode resizing.new_size)) (inode_word_of resizing.inode 2) (cut_steps P resizing pages) old.words
  turns next is = inr (
    record { value = resizing.new_size; inside = inside P old.words resizing.inode resizing.new_size may.can; stored = is },
    subst (SameMeaning P (sized old.words resizing.inode resizing.new_size)) (sym is) (sized_same may),
    subst (λ (l : List ℕ). Along (SameMeaning P (sized old.words resizing.inode resizing.new_size)) (giving P (gone_pages resizing pages) ∷ freeing P (gone_pages resizing pages) ∷ []) l) (sym is) onward,
  )

  -- ---- the whole call

  module _ {T E : Type 0} (new : DeviceView) (result : Result T E) (made : Unfolds (cut_steps P resizing pages) old new result) where
    pub cut_done : OnOk result (StoresCut P old.words new.words resizing.inode resizing.new_size)
    cut_done = map_ok _ _ result
        (λ (a, is, (J, gave, (K, cleared, same))).
        let given = subst (λ (l : List ℕ). GivesPages P l J (Contains (gone_pages resizing pages))) is gave in
        record { given = J; cuts = subst (λ (l : List ℕ). Cuts P old.words J l resizing.inode resizing.new_size) (sym same) (cuts_are may J K given cleared) })
        (through result made)

    module _ (settled : IsSettledView old) {state : State} {path : Route} (at : IsResizingAt P old.words state path resizing) where
      abbrev later : Tree
      later = (step P state.tree state.room (Truncate path resizing.new_size)).tree

      reads_later : (image : List ℕ) → SameMeaning P (sized old.words resizing.inode resizing.new_size) image → Reads P image later
      reads_later image same = same.reads later (subst (Reads P (sized old.words resizing.inode resizing.new_size)) (sym (tree_is at)) (lowered.reads state.tree at.reads.tree))

      reads_before : (image : List ℕ) → image ≡ old.words → Reads P image state.tree
      reads_before image is = subst (λ (l : List ℕ). Reads P l state.tree) (sym is) at.reads.tree

      not_yet : (image : List ℕ) → image ≡ old.words → Reads P image later → ⊥
      not_yet image is reads = lowered.not_yet state.tree (subst (Reads P old.words) (tree_is at) (subst (λ (l : List ℕ). Reads P l later) is reads))

      may_before : (image : List ℕ) → image ≡ old.words → ReadsAllowed P state (Some (Truncate path resizing.new_size)) image
      may_before image is = subst (ReadsAllowed P state (Some (Truncate path resizing.new_size))) (sym is) (record { coherent = may.can.tidy.coherent; tree = state.tree; reads = at.reads.tree; allowed = inl refl })

      may_later : (image : List ℕ) → SameMeaning P (sized old.words resizing.inode resizing.new_size) image → ReadsAllowed P state (Some (Truncate path resizing.new_size)) image
      may_later image same = record { coherent = same.coherent; tree = later; reads = reads_later image same; allowed = inr (inl refl) }

      pub cut_underway : IsUnderway P (λ word. word ≡ inode_word_of resizing.inode 2) (ReadsAllowed P state (Some (Truncate path resizing.new_size))) later old.trail new.trail
      cut_underway = turned (one_side state.tree may_before reads_before) not_yet (one_side later may_later reads_later) reads_later refl settled refl turns made

-- ---- what a volume knows once a file is cut and its last pages have left it

module _ (volume : VolumeView) (W K : List ℕ) (i z count : ℕ) (knows : Knows volume W) (can : CanCut volume.size W i z) (least : 1 ≤ i) (most : i ≤ inodes_of volume.size)
    (first : length (pages_of volume.index i) - count ≡ pages_of_size z) (enough : count ≤ length (pages_of volume.index i)) (cut : HasCut volume.size W K i z) where
  facts : Facts
  facts = with_first (facts_of volume.size W volume.stopped) i (pages_of_size z) (page_offset volume.size W)

  pages_known : (x j : ℕ) → 1 ≤ x → (IsPageIn volume.size W x j × (x ≡ i → page_offset volume.size W j < pages_of_size z)) ↔ IsPageIn volume.size K x j
  pages_known x j some = elim (cases_eq x i) [
    | inl same ↦ subst (λ (y : ℕ). (IsPageIn volume.size W y j × (y ≡ i → page_offset volume.size W j < pages_of_size z)) ↔ IsPageIn volume.size K y j) (sym same)
        ((λ (was, low). (cut.kept j).1 (was, low refl)), (λ is. let (was, low) = (cut.kept j).0 is in (was, (λ here. low))))
    | inr other ↦ ((λ (was, low). (cut.others x j some other).1 was), (λ is. ((cut.others x j some other).0 is, (λ here. absurd (other here)))))
  ]

  said : IsSaidBy volume.size facts K
  unfolding facts
  said = record {
    entries = λ d slot bytes some few. let same = cut.entries d slot bytes in (same.1, same.0);
    pages = λ x j some few. pages_known x j some;
    places = λ x k j some few is reached bytes place. cut.offsets x j some ((pages_known x j some).0 is) ∙ place ((cut.reached x).0 reached) (sym (cut.kinds x some few) ∙ bytes);
    inodes = λ k low. let kind = cut.kinds (k + 1) (omega arith) (omega (arith, low)) in ((λ none. kind ∙ none), (λ none. sym kind ∙ none));
    data_pages = λ j low. (
      (λ either. ((cut.free_pages j).1 (elim either [ inl none ↦ inl (low, none) | inr (is, past) ↦ inr (record { in_range = is.in_range; owner = is.owner; past = past }) ])).1),
      (λ none. elim ((cut.free_pages j).0 (low, none)) [ inl was ↦ inl was.1 | inr past ↦ inr (record { in_range = past.in_range; owner = past.owner }, past.past) ]),
    );
  }

  pub knows_cut : IsTidied volume.size K → (new : VolumeView) → LeavesLastPages volume new i count → Knows new K
  unfolding facts
  knows_cut tidy new leaves =
      knows_told volume.size new facts K tidy
      (leaves_last_pages (told volume.size volume W refl can.tidy knows) new i count (pages_of_size z) (page_offset volume.size W) leaves least most (omega (arith, first, enough)) (λ k j stands. knows.nodes.offsets i k j can.reached can.file stands)) said
