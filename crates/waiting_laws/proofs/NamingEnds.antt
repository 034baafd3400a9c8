-- A slot takes its number, by which the name is there: what the volume knows then, and that its call has ended.
use Rattle.std.proofs.Common.{◌≡◌, ◌≢◌, ◌⊎◌, inl, inr, ℕ, ◌≤◌, ◌-◌, false, List, [], ◌∷◌, ◌++◌, Contains, Option, Some, None, refl, sym, ap, subst, ◌∙◌}
use Rattle.std.proofs.lemmas.Bool.{cases_eq}
use Rattle.pm_trait.specs.DeviceView.{DeviceView}
use Rattle.layout.specs.Geometry.{inodes_of, page_of_slot, slot_word_of}
use Rattle.layout.specs.Fields.{inode_kind, slot_name}
use Rattle.layout.proofs.GeometryLaws.{page_of_slot_below}
use Rattle.tree_model.specs.PathText.{Route}
use Rattle.tree_model.specs.Run.{State}
use Rattle.tree_model.specs.declared.command.Command.{Command}
use Rattle.image_reading.specs.Counts.{IsIn}
use Rattle.image_reading.specs.Reading.{HasBytes, slot_owner, Reached, IsReachedSlot}
use Rattle.image_reading.specs.Residue.{Residue, no_residue, IsTidyBeside}
use Rattle.image_reading.specs.Soundness.{Sound}
use Rattle.image_counts.specs.Entries.{IsEntryOf, IsPageIn}
use Rattle.image_counts.proofs.Distinct.{in_either}
use Rattle.image_counts.proofs.Links.{not_both_kinds}
use Rattle.image_counts.proofs.Paths.{in_range}
use Rattle.image_laws.specs.Add.{CanAdd}
use Rattle.image_laws.specs.Create.{committed}
use Rattle.image_laws.specs.CreateStep.{IsStepped}
use Rattle.image_laws.specs.Quiet.{IsMix}
use Rattle.image_laws.proofs.Adds.{add_law}
use Rattle.image_laws.proofs.AddSlot as added
use Rattle.image_laws.proofs.OnlySlot.{same_owner, same_name}
use Rattle.weave_laws.specs.Beside.{StoresIn, AreInVolume}
use Rattle.weave_laws.specs.Joined.{joined}
use Rattle.weave_laws.specs.Naming.{pages_left, IsWrittenPlace}
use Rattle.weave_laws.specs.Removing.{IsPageOfName}
use Rattle.weave_laws.proofs.Committed as takes
use Rattle.weave_laws.proofs.Committed.{TakesNumber, number_taken}
use Rattle.weave_laws.proofs.Disjoint.{wider_law}
use Rattle.weave_laws.proofs.OneWord.{one_word_law}
use Rattle.weave_laws.proofs.OwnWords.{committed_words_law}
use Rattle.volatile_index.specs.Index.{NodeView, node_of, pages_of}
use Rattle.volume.specs.Volume.{VolumeView}
use Rattle.volume.specs.Beside.{KnowsBeside, StandsBeside}
use Rattle.volume.specs.Costs.{commit_events}
use Rattle.volume.specs.Entered.{pages_of_option, PutsName}
use Rattle.volume.proofs.Moments.{with_kept, IsSameBeside, name_beside}
use Rattle.volume.proofs.PageLists.{in_contained, contained_in}
use Rattle.entry_steps.specs.Steps.{naming}
use Rattle.entry_steps.proofs.Facts.{option_once}
use Rattle.knowing_laws.specs.Knowing.{IsFileOf, BringsName, KeepsPagesBut, ChangesNumbers}
use Rattle.knowing_laws.proofs.Names.{name_known}
use Rattle.waiting_laws.specs.Beside.{Affects, Holding, StandsWith, MakesStep, Commits, Leaves}
use Rattle.waiting_laws.specs.Naming.{KnowsPlace}
use Rattle.waiting_laws.proofs.Standing.{IsReached, behind, no_mark, same_mark, sound_without}
use Rattle.waiting_laws.proofs.NamingBegun.{knows_kept, name_held, reached_by}
use Rattle.waiting_laws.proofs.NamingWritten.{page_left}
use Rattle.waiting_laws.proofs.NamingWords.{owner_stays, offset_stays, unused_stays, inode_kind_stays}

-- the page of a name that is written is the slot's
pub page_of_place : (P : ℕ) (I : List ℕ) (s : ℕ) (new_page : Option ℕ) → IsWrittenPlace P I s new_page → IsPageOfName s new_page
page_of_place P I s None at = tt
page_of_place P I s (Some page) at = at.0

pub in_place : (s : ℕ) (new_page : Option ℕ) → IsPageOfName s new_page → (j : ℕ) → IsIn j (pages_of_option new_page) → j ≡ page_of_slot s
in_place s None at j among = absurd among
in_place s (Some page) at j among = elim among [ inl is ↦ is ∙ sym at | inr none ↦ absurd none ]

-- ---- the words

module _ {P : ℕ} {I : List ℕ} {p : Route} {d s i : ℕ} (can : CanAdd P I p d s i) where
  abbrev J : List ℕ
  J = committed P I s i

  number : TakesNumber P I J s i
  number = number_taken P I p d s i can

  range : AreInVolume P [] []
  range = record { of_pages = λ j none. absurd none; of_inodes = λ x none. absurd none }

  stores : StoresIn P I J (s ∷ []) [] []
  stores = committed_words_law P I s i

  d_kind : inode_kind J d ≡ inode_kind I d
  d_kind = takes.kind_same can number d (takes.d_reached can number)

  slot_forth : (t : ℕ) → IsReachedSlot P I t → IsReachedSlot P J t
  slot_forth t r =
      let owner = same_owner number.only t r.live.held.in_range in
      record {
        owner = subst (Reached P J) (sym owner) (takes.reached_forth can number (slot_owner P I t) r.owner);
        directory = ap (inode_kind J) owner ∙ takes.kind_same can number (slot_owner P I t) r.owner ∙ r.directory;
        live = added.live_forward P I J p d s i can number.only number.stored t r.live;
      }

  entry_forth : (e t : ℕ) (bytes : List ℕ) → IsEntryOf P I e bytes t → IsEntryOf P J e bytes t
  entry_forth e t bytes was = record {
    slot = slot_forth t was.slot;
    owner = same_owner number.only t was.slot.live.held.in_range ∙ was.owner;
    name = same_name number.only t ∙ was.name;
  }

  new_entry : (bytes : List ℕ) → bytes ≡ slot_name P I s → IsEntryOf P J d bytes s
  new_entry bytes is = record {
    slot = takes.new_slot can number;
    owner = same_owner number.only s can.slot.held.in_range ∙ can.slot.owner;
    name = same_name number.only s ∙ sym is;
  }

  entry_cases : (e t : ℕ) (bytes : List ℕ) → IsEntryOf P J e bytes t → IsEntryOf P I e bytes t ⊎ ((e ≡ d) × (t ≡ s) × (bytes ≡ slot_name P I s))
  entry_cases e t bytes is = elim (added.slot_cases P I J p d s i can number.only number.stored t is.slot) [
    | inl here ↦ inr (
      sym is.owner ∙ ap (slot_owner P J) here ∙ same_owner number.only s can.slot.held.in_range ∙ can.slot.owner,
      here,
      sym is.name ∙ same_name number.only t ∙ ap (slot_name P I) here,
    )
    | inr old ↦ inl (record { slot = old; owner = sym (same_owner number.only t old.live.held.in_range) ∙ is.owner; name = sym (same_name number.only t) ∙ is.name })
  ]

  -- the name is an entry of its directory; what the node is that it names is said apart
  pub brings : (name : List ℕ) → name ≡ slot_name P I s → (Reached P J i → HasBytes J i → IsFileOf P I i ⊎ ((1 ≤ i) × (i ≤ inodes_of P) × ((j : ℕ) → ¬ IsPageIn P J i j))) → BringsName P I J d s name
  brings name is file = record {
    entries = λ e t bytes. (
      (λ now. elim (entry_cases e t bytes now) [ inl was ↦ inl was | inr (same, slots, names) ↦ inr (same, slots, names ∙ sym is) ]),
      (λ either. elim either [
        | inl was ↦ entry_forth e t bytes was
        | inr (same, slots, names) ↦ subst (λ y. IsEntryOf P J y bytes t) (sym same) (subst (IsEntryOf P J d bytes) (sym slots) (new_entry bytes (names ∙ is)))
      ]),
    );
    files = λ x reached bytes. elim (takes.reached_cases can number x reached) [
      | inl was ↦
          let (least, most) = in_range P I can.coherent x was in
          inl (record { least = least; most = most; reached = was; file = sym (takes.kind_same can number x was) ∙ bytes })
      | inr same ↦ subst (λ y. IsFileOf P I y ⊎ ((1 ≤ y) × (y ≤ inodes_of P) × ((j : ℕ) → ¬ IsPageIn P J y j))) (sym same) (file (subst (Reached P J) same reached) (subst (HasBytes J) same bytes))
    ];
    directory = λ file. not_both_kinds J d file (d_kind ∙ can.slot.directory);
  }

  -- a page has the owner that it had
  pub same_page : (x j : ℕ) → IsPageIn P J x j → IsPageIn P I x j
  same_page x j page = record { in_range = page.in_range; owner = sym (owner_stays range stores j page.in_range (λ none. none)) ∙ page.owner }

  slot_page : IsPageIn P J d (page_of_slot s)
  unfolding slot_owner
  slot_page =
      let low = page_of_slot_below P s can.slot.held.in_range in
      record { in_range = low; owner = owner_stays range stores (page_of_slot s) low (λ none. none) ∙ can.slot.owner }

  owners_kept : (new_page : Option ℕ) (left others : Residue) → left.pages ≡ pages_left new_page → KeepsPagesBut P I J (joined left others) others (pages_of_option new_page)
  owners_kept new_page left others is = record {
    left = λ j kept out among. elim (in_either j left.pages others.pages among) [
      | inl mine ↦ out (subst (IsIn j) (is ∙ page_left new_page) mine)
      | inr theirs ↦ kept theirs
    ];
    owners = λ j low kept out. owner_stays range stores j low (λ none. none);
    offsets = λ j low kept out. offset_stays range stores j low (λ none. none);
  }

  numbers_kept : ChangesNumbers P I J [] []
  numbers_kept = record {
    inodes_within = λ x none. absurd none;
    other_inodes = λ x least most out. let same = inode_kind_stays range stores x least most (λ none. none) in ((λ none. same ∙ none), (λ none. sym same ∙ none));
    other_pages = λ j low out. unused_stays range stores j low (λ none. none);
  }

in_added : (xs ys : List ℕ) (j : ℕ) → Contains (xs ++ ys) j → Contains xs j ⊎ IsIn j ys
in_added xs ys j there = elim (in_either j xs ys (contained_in j (xs ++ ys) there)) [ inl old ↦ inl (in_contained j xs old) | inr added ↦ inr added ]

-- ---- the step commits

-- The slot takes its number: there is nothing between, and the words after it are sound.
pub name_commits : {volume : VolumeView} {device : DeviceView} {state : State} {residue : Residue} {command : Command} {p : Route} {d s i : ℕ} → StandsBeside volume device state residue → volume.marked ≡ false
    → CanAdd volume.size device.words p d s i → IsStepped volume.size (committed volume.size device.words s i) state command i → (J : List ℕ) → (naming volume.size s i).Makes device.words J
    → Commits volume.size device.words J state command i
name_commits {volume} {device} {state} {residue} {command} {p} {d} {s} {i} stands unmarked can stepped J made = record {
  crash = λ M mix. subst (λ l. IsMix device.words l M → (M ≡ device.words) ⊎ (M ≡ l)) (sym made) (one_word_law device.words M (slot_word_of volume.size s 0) i) mix;
  sound = subst (Sound volume.size) (sym made) (sound_without volume.size (committed volume.size device.words s i) (add_law volume.size device.words p d s i can).coherent
      (same_mark volume.size device.words (committed volume.size device.words s i) (s ∷ []) [] [] (stores can) ∙ no_mark volume device state residue stands unmarked));
  stepped = subst (λ l. IsStepped volume.size l state command i) (sym made) stepped;
}

-- ---- the call has ended

-- it is committed, and nothing of it is left
abbrev pub HasEnded : VolumeView → VolumeView → DeviceView → DeviceView → State → Command → ℕ → Residue → Holding → Type 0
HasEnded old new before after state command i others held =
    (commits : Commits old.size before.words after.words state command i)
    × Leaves old new before after commits.stepped.new no_residue others held

module _ {old new : VolumeView} {before after : DeviceView} {state : State} {command : Command} {p : Route} {d s i : ℕ} {name : List ℕ} {new_page : Option ℕ} {left others : Residue} (on : StandsWith old before state left others)
    (can : CanAdd old.size before.words p d s i) (stepped : IsStepped old.size (committed old.size before.words s i) state command i) (tidy : IsTidyBeside old.size (committed old.size before.words s i) others)
    (comes : BringsName old.size before.words (committed old.size before.words s i) d s name) (is : left.pages ≡ pages_left new_page) (none : others.pointer ≡ None) (place : IsWrittenPlace old.size before.words s new_page) (knows : KnowsPlace old d new_page)
    (Enters : VolumeView → VolumeView → Type 0) (makes : MakesStep (naming old.size s i) Enters old new before after) (puts : PutsName (with_kept (old.kept - commit_events) old) new d name s new_page) where
  abbrev P : ℕ
  P = old.size

  abbrev I : List ℕ
  I = before.words

  -- the volume whose events are kept no more
  abbrev paid : VolumeView
  paid = with_kept (old.kept - commit_events) old

  at : IsPageOfName s new_page
  at = page_of_place P I s new_page place

  made : after.words ≡ committed P I s i
  made = makes.takes.makes

  commits : Commits P I after.words state command i
  commits = name_commits on.stands on.unmarked can stepped after.words made

  stored : StoresIn P I after.words (s ∷ []) [] []
  stored = subst (λ l. StoresIn P I l (s ∷ []) [] []) (sym made) (stores can)

  same : IsSameBeside paid new
  same = name_beside paid new d name s new_page puts

  -- the name is in the index, with its page
  known : KnowsBeside new (committed P I s i) others
  known =
      let (least, most) = in_range P I can.coherent d (takes.d_reached can (number can)) in
      name_known paid new I (committed P I s i) (joined left others) others d s name new_page (knows_kept paid.kept on.stands.knows) (stores can).size least most comes (owners_kept can new_page left others is)
      (record { owned = λ j among. subst (IsPageIn P (committed P I s i) d) (sym (in_place s new_page at j among)) (slot_page can); unlisted = λ x j among least most. knows.unlisted x j among; once = option_once new_page })
      (numbers_kept can) puts

  -- what the words after it say
  reached : IsReached new after.words commits.stepped.new no_residue others
  reached = reached_by new P after.words commits.stepped.new no_residue others same.size
      commits.sound.coherent
      (subst (λ l. IsTidyBeside P l others) (sym made) tidy)
      commits.stepped.reads
      (subst (λ l. KnowsBeside new l others) (sym made) known)
      none

  others_same : (x : ℕ) → x ≢ d → node_of new.index x ≡ node_of old.index x
  others_same x other = puts.index.elsewhere.others x other ∙ puts.page.index.elsewhere.others x other

  pages_here : pages_of new.index d ≡ pages_of old.index d ++ pages_of_option new_page
  pages_here = puts.index.node.pages ∙ puts.page.index.node.pages

  -- of the directory alone the index has more, and no list gets another page than the name's
  affects : Affects old new (name_held d s i)
  affects = record {
    size = same.size;
    others = λ x out. others_same x (λ is. out (inr (inl is)));
    lists = λ x j there. elim (cases_eq x d) [
      | inl is ↦ elim (in_added (pages_of old.index d) (pages_of_option new_page) j (subst (λ l. Contains l j) pages_here (subst (λ y. Contains (pages_of new.index y) j) is there))) [
        | inl was ↦ inl (subst (λ y. Contains (pages_of old.index y) j) (sym is) was)
        | inr added ↦ inr (inl (in_place s new_page at j added))
      ]
      | inr other ↦ inl (subst (λ (node : NodeView). Contains node.pages j) (others_same x other) there)
    ];
  }

  pub ended : HasEnded old new before after state command i others (name_held d s i)
  ended = (
    commits,
    record {
      beside = behind old new before after state commits.stepped.new left no_residue others (naming P s i) Enters (s ∷ []) [] [] on makes refl (record { size = same.size; stopped = same.stopped; marked = same.marked; kept = same.kept }) stored reached;
      stores = wider_law P I after.words (s ∷ []) [] [] (s ∷ []) (page_of_slot s ∷ []) (i ∷ d ∷ []) (record { of_slots = λ t among. inl among; of_pages = λ j none. absurd none; of_inodes = λ x none. absurd none }) stored;
      affects = affects;
    },
  )
