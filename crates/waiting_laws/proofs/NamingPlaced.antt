-- The place of a new name beside other calls: what the plan says of it, in the tree, in the words and on the volume. The others have left
-- nothing of the directory.
use Rattle.std.proofs.Common.{◌≡◌, ◌⊎◌, inl, inr, ℕ, zero, suc, ◌+◌, ◌-◌, ◌*◌, ◌^◌, ◌==◌, ◌<◌, ◌≤◌, true, false, List, [], ◌∷◌, ◌++◌, length, reverse, Contains, Option, Some, None, is_some, refl, sym, ap, subst, ◌∙◌, arith, true≢false}
use Rattle.std.proofs.lemmas.Bool.{cases_eq, cases_lt}
use Rattle.std.proofs.lemmas.Bool.Decides.{nat_tests}
use Rattle.std.proofs.lemmas.List.{get_or_past}
use Rattle.pm_trait.specs.DeviceView.{DeviceView}
use Rattle.layout.specs.Geometry.{IsVolumeSize, inodes_of, data_pages_of, slots_of, page_of_slot, inode_word_of, descriptor_word_of}
use Rattle.layout.specs.Fields.{word, inode_kind, inode_links, page_owner}
use Rattle.layout.specs.Name.{IsName, IsBytes, words_of_name}
use Rattle.layout.proofs.GeometryLaws.{slots_in_pages, data_pages_below, page_of_slot_below, page_of_entry}
use Rattle.layout.proofs.NameLaws.{name_in_words-words_of_name, IsNameWords-words_of_name}
use Rattle.layout.proofs.Widths.{inode_field_read, descriptor_field_read}
use Rattle.tree_model.specs.PathText.{Route}
use Rattle.tree_model.specs.Tree.{id_at, is_directory, is_root, parent, last_name, name_count, link_count, pages_in}
use Rattle.tree_model.specs.Accepted.{MayName}
use Rattle.tree_model.specs.Run.{State}
use Rattle.image_reading.specs.Counts.{IsIn}
use Rattle.image_reading.specs.Reading.{IsFile, IsDirectory, HasBytes, slot_owner, IsHeld, Reached, IsRoomOf, IsNameOf, IsChildOf, ReadsAs}
use Rattle.image_reading.specs.Residue.{Residue}
use Rattle.image_reading.specs.Soundness.{Rule}
use Rattle.image_counts.specs.Entries.{IsUnusedDataPage, IsFreeInode}
use Rattle.image_counts.specs.Laws.{HasRoomWords, IsApart, ReadsBeside, supply_beside}
use Rattle.image_counts.proofs.Beside.{has_pages_beside, room_beside_law}
use Rattle.image_counts.proofs.Inodes.{inode_count_law}
use Rattle.image_counts.proofs.Links.{link_law, link_word_beside_law, not_both_kinds}
use Rattle.image_counts.proofs.Nodes.{size_law}
use Rattle.image_laws.specs.Stages.{IsReadySlot}
use Rattle.inode_state.specs.States.{free_fields}
use Rattle.inode_state.specs.Inode.{fields_at}
use Rattle.weave_laws.specs.Naming.{IsBlankSlot}
use Rattle.weave_laws.specs.Waiting.{IsPlaceOf, TakesPageIfFull}
use Rattle.weave_laws.proofs.FreeBeside.{kindless_unreached, kindless_tidy, unused_tidy}
use Rattle.weave_laws.proofs.WaitingNames.{root_or_not, is_new, free_slot}
use Rattle.volatile_index.specs.Index.{NodeView, node_of, empty_node, entries_of, pages_of}
use Rattle.volume.specs.Volume.{VolumeView}
use Rattle.volume.specs.Beside.{KnowsBeside, StandsBeside}
use Rattle.volume.specs.Entered.{pages_of_option, MayTakePages, MayPutName}
use Rattle.volume.specs.Planned.{IsVacantSlot, IsPlace, IsNewNameAt}
use Rattle.volume.proofs.Frees.{reads_beside}
use Rattle.volume.proofs.Places.{in_one, page_free}
use Rattle.volume.proofs.PlannedNames.{may_take_none}
use Rattle.volume.proofs.WalkedBeside.{reached_at, in_index, below_there}
use Rattle.volume.proofs.Ways.{whole_path}
use Rattle.entry_steps.specs.Placing.{MayPlace}
use Rattle.entry_steps.specs.Steps.{IsLinkable}
use Rattle.entry_steps.proofs.Counts.{count_below}
use Rattle.entry_steps.proofs.Zeros.{zero_slot, zero_descriptor, zero_inode}
use Rattle.allocators.specs.Numbers.{IsFree}

some_one : (x y : ℕ) → ◌≡◌ {A = Option ℕ} (Some x) (Some y) → x ≡ y
some_one x y e = cc

is_same : (n m : ℕ) → n ≡ m → n == m ≡ true
is_same n m e = grind (arith, nat_tests)

-- ---- inodes

module _ {P : ℕ} {I : List ℕ} {residue : Residue} {state : State} (holds : ReadsBeside P I residue state) where
  size : IsVolumeSize P
  size = (holds.coherent Rule.head 0).size refl

  pub in_table : (x : ℕ) → Reached P I x → (1 ≤ x) × (x ≤ inodes_of P)
  in_table x reached = let counted = inode_count_law P I state holds.coherent holds.reads in (counted.least x reached, counted.most x reached)

  -- a node that is reached may get one link more: there are fewer names than a count can tell
  pub linkable : (x : ℕ) → Reached P I x → IsApart P I residue x → IsLinkable P I x
  linkable x reached apart = elim ((holds.coherent Rule.kinds x).kind reached) [
    | inl file ↦
        let counted = ((link_law P I state holds.coherent holds.reads).counted x reached).file file in
        let most = count_below (IsNameOf P I x) (slots_of P) _ (λ s named. named.slot.live.held.in_range) counted in
        made (inl file) (omega (arith, is, most, slots_in_pages P, few, size.1))
    | inr directory ↦
        let counted = ((link_law P I state holds.coherent holds.reads).counted x reached).directory directory in
        let most = count_below (IsChildOf P I x) (slots_of P) counted.0 (λ s child. child.slot.live.held.in_range) counted.1 in
        made (inr directory) (omega (arith, counted.2, is, most, slots_in_pages P, few, size.1))
  ]
    where
      few : data_pages_of P < P
      few = data_pages_below P size

      is : link_count state.tree x ≡ inode_links I x
      is = link_word_beside_law P I residue state holds x reached apart

      made : IsFile I x ⊎ IsDirectory I x → inode_links I x < 2 ^ 64 - 1 → IsLinkable P I x
      made kind countable = record { least = (in_table x reached).0; most = (in_table x reached).1; live = (kind, (holds.coherent Rule.kinds x).own reached); countable = countable }

  -- an inode without a kind is free
  pub inode_free : (i : ℕ) → IsFreeInode P I i → fields_at I i ≡ free_fields
  inode_free i (least, most, none) = zero_inode I i (λ f lt. elim (cases_eq (word I (inode_word_of i f)) 0) [
    | inl is ↦ is
    | inr ne ↦ absurd (kindless_tidy P I i residue holds.beside none (record { least = least; most = most; unreached = kindless_unreached P I i holds.coherent none; nonzero = (f, inode_field_read I f lt, ne) }))
  ])

  -- and a page without owner and kind
  page_may_place : (page : ℕ) → IsUnusedDataPage P I page → MayPlace P I (32 * page) (Some page)
  page_may_place page (low, unused) = (
    (
      low,
      zero_descriptor P I page (λ f lt. elim (cases_eq (word I (descriptor_word_of P page f)) 0) [
        | inl is ↦ is
        | inr ne ↦ absurd (unused_tidy P I page residue holds.beside unused
            (record { in_range = low; free = λ kept. (has_pages_beside P I residue state holds).owned page kept unused.0; nonzero = (f, descriptor_field_read I f lt, ne) }))
      ]),
    ),
    refl,
  )

-- ---- the directory and the place

-- A plan's new name was accepted beside the others, and these have left nothing of its directory.
pub record IsComingName (volume : VolumeView) (device : DeviceView) (state : State) (others : Residue) (path : Route) (d : ℕ) (name : List ℕ) (slot : ℕ) (new_page : Option ℕ) : Type 0 where
  pub stands : StandsBeside volume device state others
  pub new : IsNewNameAt volume.size device.words state path d name slot new_page
  pub may : MayName (supply_beside volume.size others) state.tree state.room path
  pub apart : IsApart volume.size device.words others d

module _ {volume : VolumeView} {device : DeviceView} {state : State} {residue : Residue} {path : Route} {d : ℕ} {name : List ℕ} {slot : ℕ} {new_page : Option ℕ} (coming : IsComingName volume device state residue path d name slot new_page) where
  abbrev P : ℕ
  P = volume.size

  abbrev I : List ℕ
  I = device.words

  pub holds : ReadsBeside P I residue state
  holds = reads_beside volume device state residue coming.stands

  pub is_holder : is_directory state.tree d ≡ true
  is_holder = subst (λ (x : ℕ). is_directory state.tree x ≡ true) (some_one coming.may.holder.directory d (sym coming.may.holder.held ∙ coming.new.directory_is)) coming.may.holder.holds

  pub reached_d : Reached P I d × IsDirectory I d
  reached_d = ((size_law P I state holds.coherent holds.reads).directories d).0 is_holder

  pub table_d : (1 ≤ d) × (d ≤ inodes_of P)
  table_d = in_table holds d reached_d.0

  pub linkable_d : IsLinkable P I d
  linkable_d = linkable holds d reached_d.0 coming.apart

  room_words : HasRoomWords P I state d
  room_words = room_beside_law P I residue state holds d reached_d.0 reached_d.1 coming.apart

  -- ---- a vacant slot

  module _ (vacant : IsVacantSlot P I d slot) where
    held : IsHeld P I slot
    unfolding slot_owner
    held =
        let owner = vacant.page.owner in
        let low = page_of_slot_below P slot vacant.page.in_range in
        record {
          in_range = vacant.page.in_range;
          kind = (holds.coherent Rule.page_kinds (page_of_slot slot)).directory low (subst (Reached P I) (sym owner) reached_d.0) (subst (IsDirectory I) (sym owner) reached_d.1);
          owned = λ none. let some = table_d.0 in omega (arith, sym owner ∙ none, some);
        }

    pub place_of : IsPlaceOf P I state.tree path d slot
    place_of = record { above = coming.new.directory_is; directory = is_holder; held = held; owner = vacant.page.owner }

    -- its page has another name
    room : IsRoomOf P I d (page_of_slot slot)
    unfolding slot_owner
    room = elim (((has_pages_beside P I residue state holds).used (page_of_slot slot) (page_of_slot_below P slot vacant.page.in_range)).1 (λ unused. held.owned unused.0)) [
      | inl kept ↦ elim kept [
        | inl page ↦ absurd (not_both_kinds I d (subst (HasBytes I) vacant.page.owner page.file) reached_d.1)
        | inr here ↦ subst (λ x. IsRoomOf P I x (page_of_slot slot)) vacant.page.owner here
      ]
      | inr left ↦ absurd (coming.apart.pages (page_of_slot slot) left vacant.page.owner)
    ]

    pub blank : IsBlankSlot P I d slot
    blank = record { kept = room; zero = λ f lt. room_words.zeros slot f vacant.page vacant.vacant lt }

    pub ready_slot : residue.pointer ≡ None → IsName name → IsBytes name → IsReadySlot P I (reverse (parent path)) d slot (words_of_name name)
    ready_slot no_pointer is_name of_bytes = record {
      coherent = holds.coherent;
      slot = free_slot P I residue state path d slot holds no_pointer place_of vacant.vacant;
      is_name = IsNameWords-words_of_name name is_name of_bytes;
      new = is_new P I state holds.coherent holds.reads path d slot place_of coming.may.absent _ (name_in_words-words_of_name name is_name of_bytes ∙ coming.new.name_is);
    }

  -- ---- either place

  free_by : (page : Option ℕ) → IsPlace P I d slot page → MayPlace P I slot page
  free_by None place = (place.vacant.page.in_range, zero_slot P I slot (λ f lt. (blank place.vacant).zero f lt))
  free_by (Some page) place = subst (λ s. MayPlace P I s (Some page)) (sym place.slot_is) (page_may_place holds page place.page_is.free)

  pub may_place : MayPlace P I slot new_page
  may_place = free_by new_page coming.new.place

  full_by : (page : Option ℕ) → IsPlace P I d slot page → TakesPageIfFull state d page
  full_by None place = tt
  full_by (Some page) place = is_same (name_count state.tree d) (32 * pages_in state.room d) (room_words.full.1 (λ s is none. place.full s (record { page = is; vacant = none })))

  -- a directory that takes a new page is full
  pub full : TakesPageIfFull state d new_page
  full = full_by new_page coming.new.place

first_of : (page slot : ℕ) → slot ≡ 32 * page → page_of_slot slot ≡ page
first_of page slot is = let plain : slot ≡ 32 * page + 0 = omega (arith, is) in ap page_of_slot plain ∙ page_of_entry page 0 (omega arith)

-- a new page is unused, and the slot stands in it
pub new_page_is : {P : ℕ} {I : List ℕ} {d slot page : ℕ} → IsPlace P I d slot (Some page) → (page_of_slot slot ≡ page) × IsUnusedDataPage P I page
new_page_is {slot = slot} {page = page} place = (first_of page slot place.slot_is, place.page_is.free)

-- ---- the volume

-- the index holds nothing of what is no inode
node_past : (index : List NodeView) (i : ℕ) → (i ≡ 0) ⊎ (length index < i) → node_of index i ≡ empty_node
unfolding node_of
node_past index zero past = refl
node_past index (suc k) past = get_or_past index k empty_node (elim past [ inl none ↦ omega (arith, none) | inr high ↦ omega (arith, high) ])

not_in_none : {X : Type 0} (j : ℕ) (pages : List ℕ) → pages ≡ [] → Contains pages j → X
not_in_none j pages none (k, lt, is) = let long = ap length none in absurd (omega (arith, lt, long))

-- A list that is of no inode of the table is empty, and others have the pages that the words say.
unlisted_unused : (volume : VolumeView) (I : List ℕ) (residue : Residue) → KnowsBeside volume I residue → (j : ℕ) → ¬ IsIn j residue.pages → page_owner volume.size I j ≡ 0 → (i : ℕ) → ¬ Contains (pages_of volume.index i) j
unlisted_unused volume I residue knows j kept free i there = elim (cases_eq i 0) [
  | inl none ↦ not_in_none j (pages_of volume.index i) (ap (λ (node : NodeView). node.pages) (node_past volume.index i (inl none))) there
  | inr some ↦ elim (cases_lt (length volume.index) i) [
    | inl past ↦ not_in_none j (pages_of volume.index i) (ap (λ (node : NodeView). node.pages) (node_past volume.index i (inr past))) there
    | inr upto ↦
        let inside = (knows.nodes.pages i j (omega (arith, some)) (let each = knows.nodes.each_inode in omega (arith, upto, each)) kept).0 there in
        some (sym inside.owner ∙ free)
  ]
]

-- what a name is absent from isn't the root
not_root : (P : ℕ) (I : List ℕ) (state : State) (path : Route) → ReadsAs P I state → id_at state.tree path ≡ None → is_root path ≡ false
not_root P I state path reads absent = elim (root_or_not path) [
  | inl root ↦ absurd (let both : ◌≡◌ {A = Option ℕ} None (Some 1) = sym absent ∙ ap (id_at state.tree) root ∙ (reads.tree.names [] 1).1 refl in cc)
  | inr other ↦ other
]

-- The index may get the last name of a path at which nothing is.
pub may_put : (volume : VolumeView) (device : DeviceView) (state : State) (residue : Residue) → StandsBeside volume device state residue → (path : Route) (d : ℕ) (name : List ℕ) → id_at state.tree (parent path) ≡ Some d
    → name ≡ last_name path → id_at state.tree path ≡ None → MayPutName volume d name
may_put volume device state residue stands path d name above name_is none =
    let (least, most) = in_index volume device d (state, residue, stands) (reached_at volume device state residue (parent path) d stands above) in
    record {
      least = least;
      most = most;
      absent = λ entry there same.
          let named = below_there volume device state residue (parent path) d entry.slot name stands above
          (subst (λ (n : List ℕ). Contains (entries_of volume.index d) (record { name = n; slot = entry.slot })) same there) in
          let whole = whole_path path (not_root volume.size device.words state path stands.reads none) ∙ ap (λ (n : List ℕ). parent path ++ n ∷ []) (sym name_is) in
          true≢false (sym (ap is_some named) ∙ ap (λ (p : Route). is_some (id_at state.tree p)) (sym whole) ∙ ap is_some none);
    }

module _ {volume : VolumeView} {device : DeviceView} {state : State} {residue : Residue} {path : Route} {d : ℕ} {name : List ℕ} {slot : ℕ} {new_page : Option ℕ} (coming : IsComingName volume device state residue path d name slot new_page) where
  pub may_put_last : MayPutName volume d name
  may_put_last = may_put volume device state residue coming.stands path d name coming.new.directory_is coming.new.name_is coming.may.absent

  takes_by : (page : Option ℕ) → IsPlace volume.size device.words d slot page → MayTakePages volume (pages_of_option page)
  takes_by None place = may_take_none volume
  takes_by (Some page) place = record {
    once = ((λ none. none), tt);
    free = λ other there. subst (IsFree volume.data_pages) (sym (in_one page other there)) (page_free volume device (state, residue, coming.stands) page place.page_is.free);
  }

  -- its page may be taken
  pub may_take : MayTakePages volume (pages_of_option new_page)
  may_take = takes_by new_page coming.new.place

  unlisted_by : (page : Option ℕ) → IsPlace volume.size device.words d slot page → (i j : ℕ) → IsIn j (pages_of_option page) → ¬ Contains (pages_of volume.index i) j
  unlisted_by None place i j among there = among
  unlisted_by (Some page) place i j among there = elim among [
    | inr none ↦ none
    | inl is ↦
        let unused = place.page_is.free.1 in
        unlisted_unused volume device.words residue coming.stands.knows page (λ left. elim (coming.stands.beside.marks page left) [ inl owned ↦ owned unused.0 | inr kind ↦ kind unused.1 ]) unused.0 i
        (subst (Contains (pages_of volume.index i)) is there)
  ]

  -- no list has the page yet
  pub unlisted : (i j : ℕ) → IsIn j (pages_of_option new_page) → ¬ Contains (pages_of volume.index i) j
  unlisted = unlisted_by new_page coming.new.place
