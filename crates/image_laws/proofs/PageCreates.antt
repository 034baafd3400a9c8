-- Create and mkdir in a new page.
use Rattle.std.proofs.Common.{◌≡◌, inl, inr, ℕ, ◌<◌, List, ◌∷◌, reverse, ◌∙◌, arith}
use Rattle.layout.specs.Fields.{word, page_owner, page_kind, slot_inode, slot_pointer}
use Rattle.layout.specs.Geometry.{page_of_slot, page_word_of}
use Rattle.layout.specs.Name.{name_in_words}
use Rattle.layout.specs.declared.kinds.NodeKind.{NodeKind}
use Rattle.tree_model.specs.PathText.{Route}
use Rattle.tree_model.specs.Step.{new_node, with_new}
use Rattle.tree_model.specs.Tree.{Room}
use Rattle.image_reading.specs.Reading.{IsDirectory, Reached, IsRoomOf, HasRoom}
use Rattle.image_counts.specs.Entries.{IsFreePage}
use Rattle.image_laws.specs.Add.{with_page, with_node}
use Rattle.image_laws.specs.Commits.{Commits}
use Rattle.image_laws.specs.Create.{MakesEmptyPage, MakesNode, CanName, owned, committed, NewPageLaw}
use Rattle.image_laws.specs.Frame.{SameMeaning}
use Rattle.image_laws.specs.Free.{Stores}
use Rattle.image_laws.proofs.Adds.{add_room_law}
use Rattle.image_laws.proofs.Creates.{named, created, free_inode}
use Rattle.image_laws.proofs.Making as making
use Rattle.image_laws.proofs.Naming as naming
use Rattle.image_laws.proofs.Free.{SameEntries, entries_stores, entries_chained}
use Rattle.image_laws.proofs.NewPage.{made_descriptor, made_inode, made_slot, zero_slot, owned_owner, owned_descriptor, owned_inode, owned_slot}
use Rattle.image_laws.proofs.PageQuiet.{fills_empty}
use Rattle.image_laws.proofs.PageReady.{HasTaken, page_ready, page_clean, inode_ready, no_room}
use Rattle.image_laws.proofs.Ready.{IsCleanSlot, IsNamed}
use Rattle.image_laws.proofs.Taking as taking
use Rattle.image_laws.specs.Stages.{IsReady, IsFreeInode}
use Rattle.image_laws.specs.Taking.{FillsPage}

module _ (P : ℕ) (W A : List ℕ) (p : Route) (d j s : ℕ) (name : List ℕ) (can : CanName P W p d name) (page : IsFreePage P W j) (at_s : page_of_slot s ≡ j) (makes : MakesEmptyPage P W A j) where
  fills : FillsPage P W A j
  fills = fills_empty P W A j can.tidy.coherent page makes

  same_page : SameMeaning P W A
  same_page = taking.same_page P W A p d j can.tidy.coherent can.path can.directory page fills

  d_reached : Reached P A d
  d_reached = taking.d_reached P W A p d j can.tidy.coherent can.path can.directory page fills

  d_directory : IsDirectory A d
  d_directory = taking.d_directory P W A p d j can.tidy.coherent can.path can.directory page fills

  unowned : page_owner P A j ≡ 0
  unowned = taking.unowned P W A p d j can.tidy.coherent can.path can.directory page fills

  owning_stores : Stores P A (owned P A j d)
  owning_stores = taking.owning_stores P W A p d j can.tidy.coherent can.path can.directory page fills

  entries : SameEntries P W (owned P A j d)
  entries = entries_chained P W A (owned P A j d) (entries_stores P W A can.tidy.coherent fills.stores) (entries_stores P A (owned P A j d) same_page.coherent owning_stores)

  pub taken : HasTaken P W (owned P A j d) j d
  unfolding page_kind slot_inode slot_pointer
  taken = record {
    owner = owned_owner P A j d same_page.coherent d_reached d_directory page.0 unowned makes.kind makes.numbers makes.pointers;
    kind = owned_descriptor P A j d same_page.coherent d_reached d_directory page.0 unowned makes.kind makes.numbers makes.pointers j 1 (omega arith) (inr (omega arith)) ∙ makes.kind;
    numbers = λ t at. owned_slot P A j d same_page.coherent d_reached d_directory page.0 unowned makes.kind makes.numbers makes.pointers t 0 ∙ makes.numbers t at;
    pointers = λ t at. owned_slot P A j d same_page.coherent d_reached d_directory page.0 unowned makes.kind makes.numbers makes.pointers t 1 ∙ makes.pointers t at;
    descriptors = λ x f lt l8 ne. owned_descriptor P A j d same_page.coherent d_reached d_directory page.0 unowned makes.kind makes.numbers makes.pointers x f l8 (inl ne)
        ∙ made_descriptor P W A j can.tidy.coherent page makes x f lt l8 (inl ne);
    inodes = λ x f some most lt. owned_inode P A j d same_page.coherent d_reached d_directory page.0 unowned makes.kind makes.numbers makes.pointers x f some most lt
        ∙ made_inode P W A j can.tidy.coherent page makes x f some most lt;
    slots = λ t f lt ne. owned_slot P A j d same_page.coherent d_reached d_directory page.0 unowned makes.kind makes.numbers makes.pointers t f ∙ made_slot P W A j can.tidy.coherent page makes t f lt ne;
    version = entries.version;
    same = entries.same;
    reached_slots = entries.slots;
    rooms = entries.rooms;
  }

  -- a page of zeros is clean
  pub clean : ((w : ℕ) → w < 512 → word A (page_word_of P j w) ≡ 0) → IsCleanSlot P (owned P A j d) s
  clean zeros = page_clean P W (owned P A j d) p d j s name can page at_s taken
      (λ t f at lt. owned_slot P A j d same_page.coherent d_reached d_directory page.0 unowned makes.kind makes.numbers makes.pointers t f ∙ zero_slot P A j zeros t f at lt)

  module _ (I : List ℕ) (path : Route) (kind : NodeKind) (i : ℕ) (free : IsFreeInode P W i) (made : MakesNode P (owned P A j d) I kind d s i name) (is : reverse path ≡ name_in_words name ∷ p) where
    ready : IsReady P (owned P A j d) p d s i name
    ready = record {
      place = page_ready P W (owned P A j d) p d j s name can page at_s taken;
      inode = inode_ready P W (owned P A j d) p d j s name can page at_s taken i free;
    }

    room_after : (room : Room) → HasRoom P I room → HasRoom P (committed P I s i) (with_node (with_page room d) i kind)
    room_after room has =
        let none : IsRoomOf P I d (page_of_slot s) → ⊥ = λ old. no_room P W (owned P A j d) p d j s name can page at_s taken
        (((naming.entries ready.place (making.named P (owned P A j d) I p kind d s i name ready made)).rooms d (page_of_slot s)).1 old) in
        (add_room_law P I p d s i (making.can_add P (owned P A j d) I p kind d s i name ready made)).new_page room kind has (making.made_kind P (owned P A j d) I p kind d s i name ready made) none

    pub page_named : IsNamed P W (committed P I s i) (λ T. with_new T path i (new_node kind)) (λ room. with_node (with_page room d) i kind)
    page_named = named P W (owned P A j d) I p path kind d s i name entries.same ready made is (λ room. with_node (with_page room d) i kind) room_after

    pub page_created : IsCleanSlot P (owned P A j d) s → Commits P W (owned P A j d) I (committed P I s i) (λ T. with_new T path i (new_node kind)) (λ room. with_node (with_page room d) i kind)
    page_created rest = created P W (owned P A j d) I p path kind d s i name entries.same ready made is (λ room. with_node (with_page room d) i kind) room_after rest

pub new_page_law : NewPageLaw
new_page_law P W A I p path kind d j s i name can page at_s zero made is =
    let makes = zero.empty in
    page_created P W A p d j s name can.place page at_s makes I path kind i (free_inode P W p d i name can) made is (clean P W A p d j s name can.place page at_s makes zero.zeros)
