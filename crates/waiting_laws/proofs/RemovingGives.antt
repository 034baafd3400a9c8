-- Pages lose their owner: behind this step the removal waits again.
use Rattle.std.proofs.Common.{◌≡◌, ◌≢◌, ◌↔◌, inl, inr, ℕ, ◌-◌, ◌<◌, ◌≤◌, true, List, [], Option, Some, None, refl, sym, ap, subst, ◌∙◌, arith}
use Rattle.std.specs.Prelude.{Contains, slice_index}
use Rattle.std.proofs.lemmas.List.{get_or_default}
use Rattle.pm_trait.specs.DeviceView.{DeviceView}
use Rattle.pm_trait.specs.Unfolds.{Step}
use Rattle.layout.specs.Geometry.{inodes_of, data_pages_of, page_of_slot}
use Rattle.layout.proofs.GeometryLaws.{slot_below}
use Rattle.layout.specs.Fields.{inode_kind, page_owner, page_kind, page_offset}
use Rattle.layout.specs.declared.fields.DescriptorFields.{DescriptorFields}
use Rattle.tree_model.specs.Run.{State}
use Rattle.image_reading.specs.Reading.{slot_owner}
use Rattle.image_reading.specs.Residue.{Residue, IsTidyBeside}
use Rattle.image_counts.specs.Entries.{IsUnusedPage}
use Rattle.image_counts.proofs.Distinct.{in_front}
use Rattle.image_laws.specs.Drop.{GivesPages}
use Rattle.image_laws.specs.Frame.{SameMeaning}
use Rattle.image_laws.specs.Free.{Stores}
use Rattle.image_laws.specs.Stages.{MayGive}
use Rattle.image_laws.proofs.Stages as stages
use Rattle.removal_steps.specs.Steps.{MayEmpty, IsEmptied}
use Rattle.weave_laws.specs.Beside.{StoresIn}
use Rattle.weave_laws.specs.Joined.{joined}
use Rattle.weave_laws.specs.Removing.{IsLeftPage}
use Rattle.weave_laws.specs.Waiting.{HasNoPageOf, IsBarePage, IsGoingPage}
use Rattle.weave_laws.proofs.Contained.{contained_in, contained_or_not}
use Rattle.weave_laws.proofs.OwnWords.{given_words_law}
use Rattle.weave_laws.proofs.GivenPages.{given_law}
use Rattle.weave_laws.proofs.WaitingPlaces.{no_pointer}
use Rattle.weave_laws.proofs.WaitingRemovals.{waiting_giving_law}
use Rattle.volume.specs.Volume.{VolumeView}
use Rattle.entry_steps.proofs.Lists.{not_none}
use Rattle.volume.specs.declared.next.Next.TheVariants.{More}
use Rattle.volume.specs.declared.plan.Removal.{Removal}
use Rattle.volume.proofs.Moments.{with_kept}
use Rattle.knowing_laws.specs.Knowing.{KeepsPagesBut, ChangesNumbers}
use Rattle.unlink_ops.specs.declared.removal.Stage.TheVariants.{Cleared, Disowned}
use Rattle.unlink_ops.specs.RemovalStages.{RunningView, pages_gone, step_at, next_of, EntersAt, StandsStage}
use Rattle.waiting_laws.specs.Beside.{StandsWith, MakesStep, KeepsMeaning}
use Rattle.waiting_laws.specs.Removing.{held_by, left_at, HasItsPage, IsPlaced, WaitsToRemove, WaitsOn}
use Rattle.waiting_laws.proofs.RemovingKnows.{reads_same, entries_stay, unused_as, same_numbers, known_still}
use Rattle.waiting_laws.proofs.RemovingWaits as waiting
use Rattle.waiting_laws.proofs.RemovingWaits.{KeepsPlace, at, same_next, all_left, cut_by, by_cut, goes_by, stores_cut, behind_kept}
use Rattle.waiting_laws.proofs.Standing as standing
use Rattle.waiting_laws.proofs.Standing.{IsReached}

-- ---- the words J of the step

module _ (old : VolumeView) (before : DeviceView) (state : State) (removal : Removal) (others : Residue) (waits : WaitsToRemove old before state (at removal Cleared) others)
    (J : List ℕ) (made : (step_at old.size removal (pages_gone old removal) Cleared).Makes before.words J) where
  abbrev P : ℕ
  P = old.size

  abbrev I : List ℕ
  I = before.words

  abbrev s : ℕ
  s = removal.slot

  abbrev pages : List ℕ
  pages = pages_gone old removal

  abbrev all : List ℕ
  all = all_left pages removal.given_back

  abbrev left : Residue
  left = left_at old removal Cleared

  gives : GivesPages P I J (Contains all)
  gives = record {
    size = made.size;
    owners = λ j is. made.owners j (cut_by pages removal.given_back j is);
    others = λ a out. made.others a (λ j cut. out j (by_cut pages removal.given_back j cut));
  }

  -- ---- the pages

  file_page : (j : ℕ) → Contains pages j → (removal.loss.goes ≡ true) × (page_owner P I j ≡ removal.loss.inode) × (page_kind P I j ≡ 1)
  file_page j (k, inside, is) =
      let here : slice_index pages k ≡ j = get_or_default pages k 0 j inside ∙ is in
      let file = waits.words.disown.file.each k inside in (
        goes_by old removal j (k, inside, is),
        ap (page_owner P I) (sym here) ∙ ap (λ (d : DescriptorFields). d.owner) file,
        ap (page_kind P I) (sym here) ∙ ap (λ (d : DescriptorFields). d.kind) file,
      )

  bare : (page : ℕ) → IsEmptied P I page → IsBarePage P I page
  unfolding slot_owner
  bare page emptied = record {
    kind = emptied.kind;
    numbers = emptied.slots;
    pointers = λ t here. no_pointer P I (joined left others) waits.beside.stands.beside waits.beside.no_pointer t (record {
      in_range = slot_below P t (subst (λ (j : ℕ). j < data_pages_of P) (sym here) emptied.in_range);
      kind = ap (page_kind P I) here ∙ emptied.kind;
      owned = λ zero. emptied.owned (ap (page_owner P I) (sym here) ∙ zero);
    });
  }

  emptied_going : (given : Option ℕ) → MayEmpty P I given → (j : ℕ) → given ≡ Some j → IsBarePage P I j
  emptied_going given may j is = bare j (subst (MayEmpty P I) is may)

  going : (j : ℕ) → Contains all j → IsGoingPage P I removal.loss.goes removal.loss.inode j
  going j there = elim (cut_by pages removal.given_back j there) [
    | inl node ↦ inl (file_page j node)
    | inr given ↦ inr (emptied_going removal.given_back waits.words.disown.emptied_is j given)
  ]

  kind_some : (j : ℕ) → Contains all j → page_kind P I j ≢ 0
  kind_some j there zero = elim (going j there) [
    | inl (goes, owner, kind) ↦ omega (arith, kind, zero)
    | inr page ↦ let kind = page.kind in omega (arith, kind, zero)
  ]

  law : MayGive P I (Contains all) × ((j : ℕ) → Contains all j → IsLeftPage P I (joined left others) j)
  law = waiting_giving_law P I state all removal.loss.goes removal.loss.inode others (waiting.beside_words old before state removal Cleared others waits) going

  free_stores : Stores P I J
  free_stores = stages.give_stores P I J (Contains all) law.0 gives

  meaning : SameMeaning P I J
  meaning = stages.same_give P I J (Contains all) law.0 gives

  tidy : IsTidyBeside P J (joined left others)
  tidy = given_law P I J all (joined left others) meaning gives law.1 waits.beside.stands.beside

  -- ---- the words

  only : StoresIn P I J (held_by old removal).slots (held_by old removal).pages (held_by old removal).inodes
  only = stores_cut old removal I J (waits.page) (given_words_law P I J all gives)

  owner_kept : (j : ℕ) → ¬ Contains all j → page_owner P J j ≡ page_owner P I j
  unfolding page_owner
  owner_kept j out = stages.give_descriptor P I J (Contains all) law.0 gives j 0 (omega arith) (inr out)

  kind_kept : (j : ℕ) → page_kind P J j ≡ page_kind P I j
  unfolding page_kind
  kind_kept j = stages.give_descriptor P I J (Contains all) law.0 gives j 1 (omega arith) (inl (λ none. omega (arith, none)))

  offset_kept : (j : ℕ) → page_offset P J j ≡ page_offset P I j
  unfolding page_offset
  offset_kept j = stages.give_descriptor P I J (Contains all) law.0 gives j 2 (omega arith) (inl (λ none. omega (arith, none)))

  node_kind : (i : ℕ) → 1 ≤ i → i ≤ inodes_of P → inode_kind J i ≡ inode_kind I i
  unfolding inode_kind
  node_kind i least most = stages.give_inode P I J (Contains all) law.0 gives i 0 least most (omega arith)

  unused : (j : ℕ) → IsUnusedPage P I j ↔ IsUnusedPage P J j
  unused j = elim (contained_or_not all j) [
    | inl there ↦ ((λ is. absurd (kind_some j there is.1)), (λ is. absurd (kind_some j there (sym (kind_kept j) ∙ is.1))))
    | inr out ↦ unused_as P I J j (owner_kept j out) (kind_kept j)
  ]

  keeps_pages : KeepsPagesBut P I J (joined left others) (joined left others) []
  keeps_pages = record {
    left = λ j out kept. out;
    owners = λ j low out kept. owner_kept j (λ there. out (in_front j all others.pages (contained_in j all there)));
    offsets = λ j low out kept. offset_kept j;
  }

  numbers : ChangesNumbers P I J [] []
  numbers = same_numbers P I J node_kind (λ j low. unused j)

  abbrev spent : ℕ
  spent = (step_at P removal pages Cleared).events

  abbrev K : VolumeView
  K = with_kept (old.kept - spent) old

  -- what the volume stands beside then
  reached : IsReached K J state left others
  reached = record {
    coherent = meaning.coherent;
    beside = tidy;
    reads = reads_same P I J state meaning waits.beside.stands.reads;
    knows = known_still (old.kept - spent) old I J (joined left others) (joined left others) waits.beside.stands.knows gives.size (entries_stay P I J law.0.coherent free_stores) keeps_pages numbers;
    no_pointer = waits.beside.no_pointer;
  }

  -- no crash in it changes a meaning
  pub quiet : KeepsMeaning P I J
  quiet = standing.quiet P I J (held_by old removal).slots (held_by old removal).pages (held_by old removal).inodes only (waiting.no_mark old before state removal Cleared others waits)
      (λ M mix. stages.giving_law P I J M all law.0 gives mix)

  -- ---- what stays with the slot's page

  -- it goes where it is given back alone
  not_gone : slot_owner P I s ≡ removal.directory → removal.given_back ≡ None → ¬ Contains all (page_of_slot s)
  unfolding slot_owner
  not_gone owner none there = elim (cut_by pages removal.given_back (page_of_slot s) there) [
    | inl node ↦ let (goes, is, kind) = file_page (page_of_slot s) node in (waits.losses.apart goes).0 (sym owner ∙ is)
    | inr given ↦ (let clash : None ≡ Some (page_of_slot s) = sym none ∙ given in not_none (page_of_slot s) clash)
  ]

  page_kept : (given : Option ℕ) → removal.given_back ≡ given → HasItsPage P I removal given → HasItsPage P J removal given
  unfolding slot_owner
  page_kept None none is = owner_kept (page_of_slot s) (not_gone is none) ∙ is
  page_kept (Some page) given is = is

  place_kept : IsPlaced P J removal
  unfolding slot_owner
  place_kept = record {
    in_range = waits.place.in_range;
    owner = elim (contained_or_not all (page_of_slot s)) [
      | inl there ↦ inr (gives.owners (page_of_slot s) there)
      | inr out ↦ elim waits.place.owner [ inl is ↦ inl (owner_kept (page_of_slot s) out ∙ is) | inr none ↦ inr (owner_kept (page_of_slot s) out ∙ none) ]
    ];
  }

  alone_kept : HasNoPageOf P J others removal.loss.inode
  alone_kept j among is = elim (contained_or_not all j) [
    | inl there ↦ (let none = gives.owners j there in let least = waits.losses.node.0 in omega (arith, none, is, least))
    | inr out ↦ waits.alone j among (sym (owner_kept j out) ∙ is)
  ]

  keeps : KeepsPlace old I J removal others
  keeps = record { page = page_kept removal.given_back refl waits.page; place = place_kept; alone = alone_kept; stores = only }

-- ---- where it waits behind the step

module _ (old : VolumeView) (before after : DeviceView) (state : State) (removal : Removal) (others : Residue) (waits : WaitsToRemove old before state (at removal Cleared) others)
    (N : VolumeView) (same : N ≡ with_kept (old.kept - (step_at old.size removal (pages_gone old removal) Cleared).events) old)
    (makes : MakesStep (step_at old.size removal (pages_gone old removal) Cleared) (EntersAt (at removal Cleared)) old N before after) where
  abbrev step : Step
  step = step_at old.size removal (pages_gone old removal) Cleared

  abbrev R : VolumeView
  R = with_kept (old.kept - step.events) old

  kept_place : KeepsPlace old before.words after.words removal others
  kept_place = keeps old before state removal others waits after.words makes.takes.makes

  some : step.stores ≡ true
  some = waiting.some_pages old removal waits.losses waits.words.some

  beside : StandsWith R after state (left_at old removal Disowned) others
  beside = standing.behind old R before after state state (left_at old removal Cleared) (left_at old removal Disowned) others step (EntersAt (at removal Cleared)) (held_by old removal).slots (held_by old removal).pages (held_by old removal).inodes
      waits.beside (subst (λ (v : VolumeView). MakesStep step (EntersAt (at removal Cleared)) old v before after) same makes) some (behind_kept old step.events) kept_place.stores
      (reached old before state removal others waits after.words makes.takes.makes)

  waits_disowned : StandsStage R after (at removal Disowned) → WaitsOn old R before after state (at removal Disowned) others
  waits_disowned stands = waiting.waits_again old before state removal Cleared others waits (old.kept - step.events) after Disowned beside stands tt kept_place

  pub on_disowned : (next : RunningView) → next_of removal Cleared ≡ More next → StandsStage N after next → WaitsOn old N before after state next others
  on_disowned next is stands =
      subst (λ (v : VolumeView). StandsStage v after next → WaitsOn old v before after state next others) (sym same)
      (subst (λ (r : RunningView). StandsStage R after r → WaitsOn old R before after state r others) (same_next (at removal Disowned) next is) waits_disowned)
      stands
