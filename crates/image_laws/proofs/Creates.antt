-- Create and mkdir in a page that the directory has.
use Rattle.std.proofs.Common.{◌≡◌, ◌⊎◌, inl, inr, ℕ, ◌<◌, List, ◌∷◌, reverse, sym, ap, subst, ◌∙◌, arith}
use Rattle.layout.specs.Fields.{word, page_owner}
use Rattle.layout.specs.Geometry.{page_of_slot, slot_word_of}
use Rattle.layout.specs.Name.{name_in_words}
use Rattle.layout.specs.declared.kinds.NodeKind.{NodeKind}
use Rattle.tree_model.specs.PathText.{Route}
use Rattle.tree_model.specs.Tree.{Tree, Room}
use Rattle.tree_model.specs.Step.{new_node, with_new}
use Rattle.image_reading.specs.Reading.{slot_owner, IsLive, Reached, IsRoomOf, Reads, HasRoom}
use Rattle.image_reading.specs.Soundness.{IsCoherent}
use Rattle.image_reading.specs.Tidy.{IsTidied}
use Rattle.image_laws.specs.Add.{IsFreeSlot, with_node}
use Rattle.image_laws.specs.Commits.{Commits}
use Rattle.image_laws.specs.Create.{MakesNode, CanName, CanMake, IsVacant, committed, CreateLaw}
use Rattle.image_laws.specs.Frame.{SameMeaning}
use Rattle.image_laws.specs.Quiet.{IsMix}
use Rattle.image_laws.proofs.Adds.{inside, only, stored, add_law, add_tree_law, add_room_law}
use Rattle.image_laws.proofs.Free.{mix_one, stores_law}
use Rattle.image_laws.proofs.Making as making
use Rattle.image_laws.proofs.Naming as naming
use Rattle.image_laws.proofs.MakeTidy.{tidy_after}
use Rattle.image_laws.proofs.Meaning.{same_itself, same_chained}
use Rattle.image_laws.proofs.Ready.{IsCleanSlot, IsNamed, IsTidyBut, tidy_but, no_pointer, owned_kept, held_room, dead_zero}
use Rattle.image_laws.proofs.Words.{other_word}
use Rattle.image_laws.specs.Stages.{IsReady, IsReadySlot, IsFreeInode}

-- ---- from an image that is ready

module _ (P : ℕ) (W B C : List ℕ) (p path : Route) (kind : NodeKind) (d s i : ℕ) (name : List ℕ) (start : SameMeaning P W B) (ready : IsReady P B p d s i name)
    (makes : MakesNode P B C kind d s i name) (is : reverse path ≡ name_in_words name ∷ p) where
  same_made : SameMeaning P W C
  same_made = same_chained P W B C start (naming.entries ready.place (making.named P B C p kind d s i name ready makes)).same

  commit : (M : List ℕ) → IsMix C (committed P C s i) M → SameMeaning P W M ⊎ (M ≡ committed P C s i)
  commit M m = elim (mix_one C M (slot_word_of P s 0) i (inside P C s 0 same_made.coherent ready.place.slot.held.in_range (omega arith)) m) [
    | inl e ↦ inl (subst (SameMeaning P W) (sym e) same_made)
    | inr e ↦ inr e
  ]

  coherent : IsCoherent P (committed P C s i)
  coherent = (add_law P C p d s i (making.can_add P B C p kind d s i name ready makes)).coherent

  tidy : IsCleanSlot P B s → IsTidied P (committed P C s i)
  tidy rest =
      let can = making.can_add P B C p kind d s i name ready makes in
      tidy_after P B C (committed P C s i) p kind d s i name ready makes can (only P C s i can.coherent) (stored P C s i can.coherent can.slot.held.in_range) (other_word C (slot_word_of P s 0) i)
      coherent rest

  reads : (T : Tree) → Reads P W T → Reads P (committed P C s i) (with_new T path i (new_node kind))
  reads T h =
      let can = making.can_add P B C p kind d s i name ready makes in
      let path_is = is ∙ ap (λ n. n ∷ p) (sym (naming.name_is ready.place (making.named P B C p kind d s i name ready makes))) in
      (add_tree_law P C p path d s i can path_is).new_node T (new_node kind) (same_made.reads T h) (making.is_new P B C p kind d s i name ready makes) (making.node_made P B C p kind d s i name ready makes)

  pub named : (after : Room → Room) → ((room : Room) → HasRoom P C room → HasRoom P (committed P C s i) (after room)) → IsNamed P W (committed P C s i) (λ T. with_new T path i (new_node kind)) after
  named after room = record { coherent = coherent; reads = reads; room = λ r h. room r (same_made.room r h) }

  pub created : (after : Room → Room) → ((room : Room) → HasRoom P C room → HasRoom P (committed P C s i) (after room)) → IsCleanSlot P B s → Commits P W B C (committed P C s i) (λ T. with_new T path i (new_node kind)) after
  created after room rest = record {
    before = λ M m. same_chained P W B M start (stores_law P B C M ready.place.coherent (making.stores P B C p kind d s i name ready makes) m);
    commit = commit;
    tidy = tidy rest;
    reads = reads;
    room = λ r h. room r (same_made.room r h);
  }

-- ---- a tidy image is ready

-- a free inode of a tidy image owns no page
pub free_inode : (P : ℕ) (W : List ℕ) (p : Route) (d i : ℕ) (name : List ℕ) → CanMake P W p d i name → IsFreeInode P W i
free_inode P W p d i name can = record {
  least = can.least;
  most = can.most;
  unreached = can.unreached;
  no_pages = λ j lt e. owned_kept P W j can.place.tidy lt (λ z. (let least = can.least in omega (arith, e, z, least))) (λ kept. elim kept [
    | inl file ↦ can.unreached (subst (Reached P W) e file.owner)
    | inr room ↦ can.unreached (subst (Reached P W) e room.reached)
  ]);
}

module _ (P : ℕ) (W : List ℕ) (p : Route) (d s : ℕ) (name : List ℕ) (can : CanName P W p d name) (vacant : IsVacant P W d s) where
  pub room_here : IsRoomOf P W d (page_of_slot s)
  room_here = held_room P W d s can.tidy (p, can.path) can.directory vacant.held vacant.owner

  but : IsTidyBut P W (page_of_slot s)
  but = tidy_but P W (page_of_slot s) can.tidy

  free_slot : IsFreeSlot P W p d s
  free_slot = record {
    path = can.path;
    directory = can.directory;
    held = vacant.held;
    owner = vacant.owner;
    free = vacant.free;
    no_pointer = no_pointer P W (page_of_slot s) but s vacant.held;
    no_target = λ t h e. (let none = no_pointer P W (page_of_slot s) but t h in omega (arith, none, e));
  }

  clean : (t f : ℕ) → page_of_slot t ≡ page_of_slot s → (IsLive P W t → ⊥) → f < 16 → word W (slot_word_of P t f) ≡ 0
  unfolding slot_owner
  clean t f at dead lt = dead_zero P W t f can.tidy (subst (λ j. IsRoomOf P W (page_owner P W j) j) (sym at) (subst (λ x. IsRoomOf P W x (page_of_slot s)) (sym vacant.owner) room_here)) dead lt

  pub ready_slot : IsReadySlot P W p d s name
  ready_slot = record {
    coherent = can.tidy.coherent;
    slot = free_slot;
    is_name = can.is_name;
    new = can.new;
  }

  pub clean_slot : IsCleanSlot P W s
  clean_slot = record { but = but; clean = clean }

pub is_ready : (P : ℕ) (W : List ℕ) (p : Route) (d s i : ℕ) (name : List ℕ) → CanMake P W p d i name → IsVacant P W d s → IsReady P W p d s i name
is_ready P W p d s i name can vacant = record { place = ready_slot P W p d s name can.place vacant; inode = free_inode P W p d i name can }

module _ (P : ℕ) (W I : List ℕ) (p path : Route) (kind : NodeKind) (d s i : ℕ) (name : List ℕ) (can : CanMake P W p d i name) (vacant : IsVacant P W d s) (makes : MakesNode P W I kind d s i name)
    (is : reverse path ≡ name_in_words name ∷ p) where
  ready : IsReady P W p d s i name
  ready = is_ready P W p d s i name can vacant

  room_after : (room : Room) → HasRoom P I room → HasRoom P (committed P I s i) (with_node room i kind)
  room_after room has =
      let here = ((naming.entries ready.place (making.named P W I p kind d s i name ready makes)).rooms d (page_of_slot s)).0 (room_here P W p d s name can.place vacant) in
      (add_room_law P I p d s i (making.can_add P W I p kind d s i name ready makes)).old_page room kind has (making.made_kind P W I p kind d s i name ready makes) here

  pub create_named : IsNamed P W (committed P I s i) (λ T. with_new T path i (new_node kind)) (λ room. with_node room i kind)
  create_named = named P W W I p path kind d s i name (same_itself P W can.place.tidy.coherent) ready makes is (λ room. with_node room i kind) room_after

  pub create_made : Commits P W W I (committed P I s i) (λ T. with_new T path i (new_node kind)) (λ room. with_node room i kind)
  create_made = created P W W I p path kind d s i name (same_itself P W can.place.tidy.coherent) ready makes is (λ room. with_node room i kind) room_after
      (clean_slot P W p d s name can.place vacant)

pub create_law : CreateLaw
create_law P W I p path kind d s i name can vacant makes is = create_made P W I p path kind d s i name can vacant makes is
