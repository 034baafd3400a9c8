-- The place of a new name: what the plan says of it, in the tree and in the words, and what a new page leaves there.
use Rattle.std.proofs.Common.{◌≡◌, ◌≢◌, ◌⊎◌, inl, inr, ℕ, ◌+◌, ◌-◌, ◌*◌, ◌^◌, ◌==◌, ◌<◌, ◌≤◌, true, false, List, [], ◌∷◌, length, reverse, Option, Some, None, is_some, refl, sym, ap, subst, ◌∙◌, arith}
use Rattle.std.proofs.lemmas.Bool.{cases_eq}
use Rattle.std.proofs.lemmas.Bool.Decides.{nat_tests}
use Rattle.std.proofs.lemmas.List.{reverse-append}
use Rattle.layout.proofs.Widths.{descriptor_words_written}
use Rattle.layout.specs.Geometry.{IsVolumeSize, inodes_of, data_pages_of, slots_of, page_of_slot, descriptor_word_of}
use Rattle.layout.proofs.GeometryLaws.{slots_in_pages, data_pages_below, page_of_slot_below, page_of_entry, slot_below}
use Rattle.layout.specs.Fields.{word, inode_links}
use Rattle.layout.specs.Name.{IsName, IsBytes, words_of_name, name_in_words}
use Rattle.layout.proofs.NameLaws.{name_in_words-words_of_name, IsNameWords-words_of_name}
use Rattle.tree_model.specs.PathText.{Route}
use Rattle.tree_model.specs.Tree.{id_at, is_directory, parent, last_name, name_count, link_count, pages_in}
use Rattle.tree_model.specs.Accepted.{MayName}
use Rattle.tree_model.specs.Capacity.{untaken}
use Rattle.tree_model.specs.Step.{is_full}
use Rattle.tree_model.specs.Run.{State, IsVolumeState}
use Rattle.image_reading.specs.Reading.{IsFile, IsDirectory, slot_owner, Names, Reached, IsNameOf, IsChildOf, ReadsAs}
use Rattle.image_reading.specs.Repairs.{IsLitterPage}
use Rattle.image_reading.specs.Soundness.{Rule, IsCoherent}
use Rattle.image_reading.specs.Tidy.{Tidy}
use Rattle.image_reading.proofs.Tidied.{tidied}
use Rattle.image_counts.specs.Entries.{IsEntryOf, IsFreePage}
use Rattle.image_counts.specs.Laws.{HasRoomWords, HasInodes}
use Rattle.image_counts.proofs.Inodes.{inode_count_law}
use Rattle.image_counts.proofs.Links.{link_law, link_word_law}
use Rattle.image_counts.proofs.Nodes.{size_law}
use Rattle.image_counts.proofs.Slots.{absence_law}
use Rattle.image_counts.proofs.States.{state_law}
use Rattle.image_counts.proofs.Tidied.{page_count_law, room_law}
use Rattle.image_laws.specs.Create.{CanName, IsVacant}
use Rattle.volume.specs.Planned.{IsVacantSlot, IsPlace, IsNewNameAt}
use Rattle.volume.proofs.Ways.{whole_path}
use Rattle.entry_steps.specs.Steps.{IsLinkable, MayTake}
use Rattle.entry_steps.specs.Placing.{MayPlace}
use Rattle.entry_steps.proofs.Counts.{none_of, count_below}
use Rattle.entry_steps.proofs.Zeros.{zero_slot, zero_descriptor}

-- The image is tidy and reads as the state, whose command may give this name to a path's directory, and this is its place.
pub record IsNamingAt (P : ℕ) (W : List ℕ) (state : State) (path : Route) (d : ℕ) (name : List ℕ) (slot : ℕ) (new_page : Option ℕ) : Type 0 where
  pub tidy : Tidy P W
  pub reads : ReadsAs P W state
  pub may : MayName (untaken P) state.tree state.room path
  pub new_name : IsNewNameAt P W state path d name slot new_page

some_one : (x y : ℕ) → ◌≡◌ {A = Option ℕ} (Some x) (Some y) → x ≡ y
some_one x y e = cc

is_same : (n m : ℕ) → n ≡ m → n == m ≡ true
is_same n m e = grind (arith, nat_tests)

not_equal : (n m : ℕ) → (n ≡ m → ⊥) → n == m ≡ false
not_equal n m e = let apart : n ≢ m = e in grind (arith, nat_tests)

-- ---- a tidy image that reads as a state

module _ {P : ℕ} {W : List ℕ} {state : State} (tidy : Tidy P W) (reads : ReadsAs P W state) where
  coherent_image : IsCoherent P W
  coherent_image = (tidied tidy).coherent

  -- a node that is reached may get one link more: there are fewer names than a count can tell
  pub linkable : (x : ℕ) → Reached P W x → IsLinkable P W x
  linkable x reached = elim ((coherent_image Rule.kinds x).kind reached) [
    | inl file ↦
        let counted = ((link_law P W state coherent_image reads).counted x reached).file file in
        let most = count_below (IsNameOf P W x) (slots_of P) _ (λ s named. named.slot.live.held.in_range) counted in
        made (inl file) (omega (arith, is, most, slots_in_pages P, few, size.1))
    | inr directory ↦
        let counted = ((link_law P W state coherent_image reads).counted x reached).directory directory in
        let most = count_below (IsChildOf P W x) (slots_of P) counted.0 (λ s child. child.slot.live.held.in_range) counted.1 in
        made (inr directory) (omega (arith, counted.2, is, most, slots_in_pages P, few, size.1))
  ]
    where
      size : IsVolumeSize P
      size = (coherent_image Rule.head 0).size refl

      few : data_pages_of P < P
      few = data_pages_below P size

      is : link_count state.tree x ≡ inode_links W x
      is = link_word_law P W state (tidied tidy) reads x reached

      range : HasInodes P W state.tree
      range = inode_count_law P W state coherent_image reads

      made : IsFile W x ⊎ IsDirectory W x → inode_links W x < 2 ^ 64 - 1 → IsLinkable P W x
      made kind countable = record { least = range.least x reached; most = range.most x reached; live = (kind, (coherent_image Rule.kinds x).own reached); countable = countable }

module _ {P : ℕ} {W : List ℕ} {state : State} {path : Route} {d : ℕ} {name : List ℕ} {slot : ℕ} {new_page : Option ℕ} (at : IsNamingAt P W state path d name slot new_page) where
  pub coherent : IsCoherent P W
  coherent = (tidied at.tidy).coherent

  pub volume_state : IsVolumeState P state
  volume_state = state_law P W state coherent at.reads

  pub size : IsVolumeSize P
  size = (coherent Rule.head 0).size refl

  pub whole : length W ≡ 512 * P
  whole = (coherent Rule.head 0).whole refl

  -- ---- the directory

  holder_is : at.may.holder.directory ≡ d
  holder_is = some_one at.may.holder.directory d (sym at.may.holder.held ∙ at.new_name.directory_is)

  pub is_holder : is_directory state.tree d ≡ true
  is_holder = subst (λ (x : ℕ). is_directory state.tree x ≡ true) holder_is at.may.holder.holds

  pub holds : Reached P W d × IsDirectory W d
  holds = ((size_law P W state coherent at.reads).directories d).0 is_holder

  pub named : Names P W (reverse (parent path)) d
  named = (at.reads.tree.names (parent path) d).0 at.new_name.directory_is

  inodes : HasInodes P W state.tree
  inodes = inode_count_law P W state coherent at.reads

  pub from_one : 1 ≤ d
  from_one = inodes.least d holds.0

  pub within : d ≤ inodes_of P
  within = inodes.most d holds.0

  -- ---- the name

  pub absent : (t : ℕ) → ¬ IsEntryOf P W d (last_name path) t
  absent =
      ((absence_law P W state coherent at.reads).absent (parent path) d (last_name path) at.new_name.directory_is).0
      (ap (λ (p : Route). id_at state.tree p) (sym (whole_path path at.may.holder.below)) ∙ at.may.absent)

  module _ (is_name : IsName name) (of_bytes : IsBytes name) where
    name_is : name_in_words (words_of_name name) ≡ last_name path
    name_is = name_in_words-words_of_name name is_name of_bytes ∙ at.new_name.name_is

    pub can_name : CanName P W (reverse (parent path)) d (words_of_name name)
    can_name = record {
      tidy = tidied at.tidy;
      path = named;
      directory = holds.1;
      is_name = IsNameWords-words_of_name name is_name of_bytes;
      new = λ t reached owner same. absent t (record { slot = reached; owner = owner; name = same ∙ name_is });
    }

    pub path_reversed : reverse path ≡ name_in_words (words_of_name name) ∷ reverse (parent path)
    path_reversed =
        ap reverse (whole_path path at.may.holder.below) ∙ reverse-append (parent path) (last_name path ∷ []) ∙ ap (λ (n : List ℕ). n ∷ reverse (parent path)) (sym name_is)

  -- ---- the place

  pub room_words : HasRoomWords P W state d
  room_words = room_law P W state (tidied at.tidy) at.reads d holds.0 holds.1

  pub vacant : IsVacantSlot P W d slot → IsVacant P W d slot
  unfolding slot_owner
  vacant is =
      let owner = is.page.owner in
      let page = page_of_slot_below P slot is.page.in_range in
      record {
        held = record {
          in_range = is.page.in_range;
          kind = (coherent Rule.page_kinds (page_of_slot slot)).directory page (subst (λ (x : ℕ). Reached P W x) (sym owner) holds.0) (subst (λ (x : ℕ). IsDirectory W x) (sym owner) holds.1);
          owned = λ none. let some = from_one in omega (arith, sym owner ∙ none, some);
        };
        owner = owner;
        free = is.vacant;
      }

  page_free : (page : ℕ) → IsFreePage P W page → MayTake P W (Some page)
  page_free page free = (
    free.0,
    zero_descriptor P W page (λ f lt. elim (cases_eq (word W (descriptor_word_of P page f)) 0) [
      | inl is ↦ is
      | inr ne ↦ absurd (none_of (IsLitterPage P W) page at.tidy.repaired.of_pages
          (record { in_range = free.0; free = λ kept. ((page_count_law P W state (tidied at.tidy) at.reads).kept page free.0).0 kept free.1; nonzero = (f, omega (arith, lt, descriptor_words_written W), ne) }))
    ]),
  )

  takes_by : (page : Option ℕ) → IsPlace P W d slot page → MayTake P W page
  takes_by None place = tt
  takes_by (Some page) place = page_free page (place.page_is.free.0, place.page_is.free.1.0)

  pub takes : MayTake P W new_page
  takes = takes_by new_page at.new_name.place

  within_by : (page : Option ℕ) → IsPlace P W d slot page → slot < slots_of P
  within_by None place = place.vacant.page.in_range
  within_by (Some page) place =
      let plain : slot ≡ 32 * page + 0 = omega (arith, place.slot_is) in
      slot_below P slot (subst (λ (j : ℕ). j < data_pages_of P) (sym (ap (λ (s : ℕ). page_of_slot s) plain ∙ page_of_entry page 0 (omega arith))) place.page_is.free.0)

  pub slot_within : slot < slots_of P
  slot_within = within_by new_page at.new_name.place

  -- the directory is full where the name needs a new page, and only there
  pub full_by : (page : Option ℕ) → IsPlace P W d slot page → is_full state.tree state.room d ≡ is_some page
  full_by None place = not_equal (name_count state.tree d) (32 * pages_in state.room d) (λ full. room_words.full.0 full slot place.vacant.page place.vacant.vacant)
  full_by (Some page) place = is_same (name_count state.tree d) (32 * pages_in state.room d) (room_words.full.1 (λ s is none. place.full s (record { page = is; vacant = none })))

  -- the place is free
  free_by : (page : Option ℕ) → MayTake P W page → IsPlace P W d slot page → MayPlace P W slot page
  free_by None may place = (place.vacant.page.in_range, zero_slot P W slot (λ f lt. room_words.zeros slot f place.vacant.page place.vacant.vacant lt))
  free_by (Some page) may place = (may, place.slot_is)

  pub may_place : MayPlace P W slot new_page
  may_place = free_by new_page takes at.new_name.place
