-- Link, in a page that the directory has and in a new one.
use Rattle.std.proofs.Common.{◌≡◌, ◌⊎◌, inl, inr, ℕ, List, ◌∷◌, reverse, sym, ap, subst, ◌∙◌, arith}
use Rattle.layout.specs.Geometry.{page_of_slot, slot_word_of}
use Rattle.layout.specs.Name.{name_in_words}
use Rattle.layout.specs.declared.kinds.NodeKind.TheVariants.{File}
use Rattle.tree_model.specs.PathText.{Route}
use Rattle.tree_model.specs.Step.{with_path}
use Rattle.tree_model.specs.Tree.{Tree, Room}
use Rattle.image_reading.specs.Reading.{IsRoomOf, Reads, HasRoom}
use Rattle.image_reading.specs.Soundness.{IsCoherent}
use Rattle.image_reading.specs.Tidy.{IsTidied}
use Rattle.image_counts.specs.Entries.{IsFreePage}
use Rattle.image_laws.specs.Add.{CanAdd, IsOldFile, with_page}
use Rattle.image_laws.specs.Commits.{Commits}
use Rattle.image_laws.specs.Create.{IsVacant, MakesEmptyPage, committed, owned}
use Rattle.image_laws.specs.Frame.{SameMeaning}
use Rattle.image_laws.specs.Grown.{HasGrown}
use Rattle.image_laws.specs.Link.{MakesLink, CanLink, LinkLaw, NewPageLinkLaw}
use Rattle.image_laws.specs.Quiet.{IsMix}
use Rattle.image_laws.proofs.Adds.{inside, only, stored, add_law, add_tree_law, add_room_law}
use Rattle.image_laws.proofs.Creates.{ready_slot, clean_slot, room_here}
use Rattle.image_laws.proofs.Free.{mix_one, stores_law}
use Rattle.image_laws.proofs.Grown.{grown_with_page}
use Rattle.image_laws.proofs.Linking as linking
use Rattle.image_laws.proofs.Naming as naming
use Rattle.image_laws.proofs.LinkTidy as linked
use Rattle.image_laws.proofs.Meaning.{same_itself, same_chained}
use Rattle.image_laws.proofs.PageCreates.{taken, clean}
use Rattle.image_laws.proofs.PageReady.{HasTaken, page_ready, forth, kind_as_before, no_room}
use Rattle.image_laws.proofs.Ready.{IsCleanSlot, IsNamed}
use Rattle.image_laws.proofs.Words.{other_word}
use Rattle.image_laws.specs.Stages.{IsReadySlot}

module _ (P : ℕ) (W B C : List ℕ) (p path : Route) (d s i : ℕ) (name : List ℕ) (start : SameMeaning P W B) (place : IsReadySlot P B p d s name) (file : IsOldFile P B i)
    (makes : MakesLink P B C s i name) (is : reverse path ≡ name_in_words name ∷ p) where
  can : CanAdd P C p d s i
  can = linking.can_add P B C p d s i name place file makes

  same_linked : SameMeaning P W C
  same_linked = same_chained P W B C start (naming.entries place (linking.named P B C p d s i name place file makes)).same

  commit : (M : List ℕ) → IsMix C (committed P C s i) M → SameMeaning P W M ⊎ (M ≡ committed P C s i)
  commit M m = elim (mix_one C M (slot_word_of P s 0) i (inside P C s 0 same_linked.coherent place.slot.held.in_range (omega arith)) m) [
    | inl e ↦ inl (subst (SameMeaning P W) (sym e) same_linked)
    | inr e ↦ inr e
  ]

  coherent : IsCoherent P (committed P C s i)
  coherent = (add_law P C p d s i can).coherent

  tidy : IsCleanSlot P B s → IsTidied P (committed P C s i)
  tidy rest = linked.tidy_after P B C (committed P C s i) p d s i name place file makes can (only P C s i can.coherent) (stored P C s i can.coherent can.slot.held.in_range) (other_word C (slot_word_of P s 0) i)
      coherent rest

  pub grown : HasGrown P B (committed P C s i) d s i name
  grown = linked.grown_after P B C (committed P C s i) p d s i name place file makes can (only P C s i can.coherent) (stored P C s i can.coherent can.slot.held.in_range) (other_word C (slot_word_of P s 0) i)
      (add_law P C p d s i can).coherent

  reads : (T : Tree) → Reads P W T → Reads P (committed P C s i) (with_path T path i)
  reads T h =
      let path_is = is ∙ ap (λ n. n ∷ p) (sym (naming.name_is place (linking.named P B C p d s i name place file makes))) in
      (add_tree_law P C p path d s i can path_is).old_file T (same_linked.reads T h) (linking.old_file P B C p d s i name place file makes)

  -- a file takes no place in a room
  pub old_page_room : IsRoomOf P C d (page_of_slot s) → (room : Room) → HasRoom P C room → HasRoom P (committed P C s i) room
  old_page_room here room has = (add_room_law P C p d s i can).old_page room File has (linking.old_file P B C p d s i name place file makes).file here

  pub new_page_room : (IsRoomOf P C d (page_of_slot s) → ⊥) → (room : Room) → HasRoom P C room → HasRoom P (committed P C s i) (with_page room d)
  new_page_room none room has = (add_room_law P C p d s i can).new_page room File has (linking.old_file P B C p d s i name place file makes).file none

  pub named_link : (after : Room → Room) → ((room : Room) → HasRoom P C room → HasRoom P (committed P C s i) (after room)) → IsNamed P W (committed P C s i) (λ T. with_path T path i) after
  named_link after room = record { coherent = coherent; reads = reads; room = λ r h. room r (same_linked.room r h) }

  pub is_link : (after : Room → Room) → ((room : Room) → HasRoom P C room → HasRoom P (committed P C s i) (after room)) → IsCleanSlot P B s → Commits P W B C (committed P C s i) (λ T. with_path T path i) after
  is_link after room rest = record {
    before = λ M m. same_chained P W B M start (stores_law P B C M place.coherent (linking.stores P B C p d s i name place file makes) m);
    commit = commit;
    tidy = tidy rest;
    reads = reads;
    room = λ r h. room r (same_linked.room r h);
  }

-- ---- in a page that the directory has

module _ (P : ℕ) (W I : List ℕ) (p path : Route) (d s i : ℕ) (name : List ℕ) (can : CanLink P W p d i name) (vacant : IsVacant P W d s) (makes : MakesLink P W I s i name) (is : reverse path ≡ name_in_words name ∷ p) where
  place_here : IsReadySlot P W p d s name
  place_here = ready_slot P W p d s name can.place vacant

  itself : SameMeaning P W W
  itself = same_itself P W can.place.tidy.coherent

  same_room : (room : Room) → HasRoom P I room → HasRoom P (committed P I s i) room
  same_room =
      let here = ((naming.entries place_here (linking.named P W I p d s i name place_here can.file makes)).rooms d (page_of_slot s)).0 (room_here P W p d s name can.place vacant) in
      old_page_room P W W I p path d s i name itself place_here can.file makes is here

  pub link_named : IsNamed P W (committed P I s i) (λ T. with_path T path i) (λ room. room)
  link_named = named_link P W W I p path d s i name itself place_here can.file makes is (λ room. room) same_room

  pub link_made : Commits P W W I (committed P I s i) (λ T. with_path T path i) (λ room. room) × HasGrown P W (committed P I s i) d s i name
  link_made = (
    is_link P W W I p path d s i name itself place_here can.file makes is (λ room. room) same_room (clean_slot P W p d s name can.place vacant),
    grown P W W I p path d s i name itself place_here can.file makes is,
  )

pub link_law : LinkLaw
link_law P W I p path d s i name can vacant makes is = link_made P W I p path d s i name can vacant makes is

-- ---- in a new page

module _ (P : ℕ) (W A I : List ℕ) (p path : Route) (d j s i : ℕ) (name : List ℕ) (can : CanLink P W p d i name) (page : IsFreePage P W j) (at : page_of_slot s ≡ j) (made : MakesEmptyPage P W A j)
    (makes : MakesLink P (owned P A j d) I s i name) (is : reverse path ≡ name_in_words name ∷ p) where
  page_taken : HasTaken P W (owned P A j d) j d
  page_taken = taken P W A p d j s name can.place page at made

  place_there : IsReadySlot P (owned P A j d) p d s name
  place_there = page_ready P W (owned P A j d) p d j s name can.place page at page_taken

  file_there : IsOldFile P (owned P A j d) i
  file_there = record {
    reached = forth P W (owned P A j d) p d j s name can.place page at page_taken i can.file.reached;
    file = kind_as_before P W (owned P A j d) p d j s name can.place page at page_taken i can.file.reached can.file.file;
  }

  more_room : (room : Room) → HasRoom P I room → HasRoom P (committed P I s i) (with_page room d)
  more_room =
      let none : IsRoomOf P I d (page_of_slot s) → ⊥ = λ room. no_room P W (owned P A j d) p d j s name can.place page at page_taken
      (((naming.entries place_there (linking.named P (owned P A j d) I p d s i name place_there file_there makes)).rooms d (page_of_slot s)).1 room) in
      new_page_room P W (owned P A j d) I p path d s i name page_taken.same place_there file_there makes is none

  pub page_link_named : IsNamed P W (committed P I s i) (λ T. with_path T path i) (λ room. with_page room d)
  page_link_named = named_link P W (owned P A j d) I p path d s i name page_taken.same place_there file_there makes is (λ room. with_page room d) more_room

  pub page_linked : IsCleanSlot P (owned P A j d) s → Commits P W (owned P A j d) I (committed P I s i) (λ T. with_path T path i) (λ room. with_page room d)
  page_linked rest = is_link P W (owned P A j d) I p path d s i name page_taken.same place_there file_there makes is (λ room. with_page room d) more_room rest

  pub page_grown : HasGrown P W (committed P I s i) d s i name
  page_grown = grown_with_page P W A (committed P I s i) p d j s i name can.place page at made (grown P W (owned P A j d) I p path d s i name page_taken.same place_there file_there makes is)

pub new_page_link_law : NewPageLinkLaw
new_page_link_law P W A I p path d j s i name can page at zero makes is =
    let made = zero.empty in (
      page_linked P W A I p path d j s i name can page at made makes is (clean P W A p d j s name can.place page at made zero.zeros),
      page_grown P W A I p path d j s i name can page at made makes is,
    )
