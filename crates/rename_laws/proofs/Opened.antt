-- What stands before a rename's pointer is stored, wherever its slot d stands: B are the words W, or those with a new page of directory x.
use Rattle.std.proofs.Common.{◌≡◌, inl, inr, ℕ, ◌+◌, ◌<◌, ◌≤◌, List, length, length-set, refl, sym, subst, ◌∙◌, arith}
use Rattle.layout.specs.Fields.{word, page_offset, slot_inode, slot_pointer, slot_name, slot_words}
use Rattle.layout.specs.Geometry.{inodes_of, page_of_slot, inode_word_of, descriptor_word_of, slot_word_of}
use Rattle.layout.proofs.Widths.{descriptor_field_read}
use Rattle.tree_model.specs.PathText.{Route}
use Rattle.image_reading.specs.Reading.{slot_owner, IsHeld, IsReachedSlot}
use Rattle.image_counts.specs.Entries.{IsFreePage}
use Rattle.image_laws.specs.Create.{CanName, owned, MakesNamedPage}
use Rattle.image_laws.specs.Frame.{SameMeaning}
use Rattle.image_laws.specs.Stages.{IsReadySlot}
use Rattle.image_laws.proofs.Addresses.{descriptor-ne_slot, descriptor_word-one}
use Rattle.image_laws.proofs.Meaning.{same_itself}
use Rattle.image_laws.proofs.PageCreates.{taken}
use Rattle.image_laws.proofs.PageReady.{HasTaken, page_ready, entry_same, slot_same, no_pointers}
use Rattle.image_laws.proofs.Ready.{no_pointer, tidy_but}
use Rattle.image_laws.proofs.Words.{slot_words-same, other_word}
use Rattle.rename_laws.specs.Target.{Target, Vacant, Opened, Taken, CanRename, old_number}
use Rattle.rename_laws.specs.Ready.{IsTargetOpened, HasNewPage, IsNewPage, IsTargetWord}

-- the name words that slot d gets, or has
abbrev pub words_for : ℕ → List ℕ → ℕ → Target → List ℕ
words_for P W d (Vacant name) = name
words_for P W d (Opened j name) = name
words_for P W d (Taken r) = slot_words P W d

-- where they aren't to be stored yet, they stand there
abbrev pub HasWords : ℕ → List ℕ → List ℕ → ℕ → Target → Type 0
HasWords P W B d (Vacant name) = Unit {0}
HasWords P W B d (Opened j name) = slot_words P B d ≡ name
HasWords P W B d (Taken r) = slot_words P B d ≡ slot_words P W d

-- B means what W means, with the same reached slots and inodes, no slot points, and slot d is held by x.
pub record IsOpen (P : ℕ) (W B : List ℕ) (x d : ℕ) (target : Target) : Type 0 where
  pub means : SameMeaning P W B
  pub held : IsHeld P B d
  pub owner : slot_owner P B d ≡ x
  pub number : slot_inode P B d ≡ old_number target
  pub name_words : HasWords P W B d target
  pub no_pointer : (t : ℕ) → IsHeld P B t → slot_pointer P B t ≡ 0
  pub kept : (t : ℕ) → IsReachedSlot P W t → IsReachedSlot P B t
  pub known : (t : ℕ) → IsReachedSlot P B t → IsReachedSlot P W t
  pub owners : (t : ℕ) → IsReachedSlot P W t → slot_owner P B t ≡ slot_owner P W t
  pub names : (t : ℕ) → IsReachedSlot P W t → slot_name P B t ≡ slot_name P W t
  pub numbers : (t : ℕ) → IsReachedSlot P W t → slot_inode P B t ≡ slot_inode P W t
  pub inodes : (y f : ℕ) → 1 ≤ y → y ≤ inodes_of P → f < 16 → word B (inode_word_of y f) ≡ word W (inode_word_of y f)
  pub page : HasNewPage P B x d target
  pub size : length B ≡ length W
  pub others : (a : ℕ) → (IsTargetWord P W d target a → ⊥) → word B a ≡ word W a

-- ---- in a page that was there

module _ (P : ℕ) (W : List ℕ) (pa pb : Route) (s x d : ℕ) where
  same_open : (target : Target) → CanRename P W pa pb s x d target → IsHeld P W d → slot_owner P W d ≡ x → slot_inode P W d ≡ old_number target → HasWords P W W d target → HasNewPage P W x d target
      → IsOpen P W W x d target
  same_open target can held owner number words page = record {
    means = same_itself P W can.tidy.coherent;
    held = held;
    owner = owner;
    number = number;
    name_words = words;
    no_pointer = no_pointer P W 0 (tidy_but P W 0 can.tidy);
    kept = λ t r. r;
    known = λ t r. r;
    owners = λ t r. refl;
    names = λ t r. refl;
    numbers = λ t r. refl;
    inodes = λ y f some most lt. refl;
    page = page;
    size = refl;
    others = λ a other. refl;
  }

-- ---- in a new page

module _ (P : ℕ) (W A : List ℕ) (pb : Route) (x d j : ℕ) (name : List ℕ) (can : CanName P W pb x name) (page : IsFreePage P W j) (at : page_of_slot d ≡ j) (makes : MakesNamedPage P W A j d name) where
  after : List ℕ
  after = owned P A j x

  took : HasTaken P W after j x
  unfolding after
  took = taken P W A pb x j d name can page at makes.empty

  slot_ready : IsReadySlot P after pb x d name
  slot_ready = page_ready P W after pb x j d name can page at took

  owned_slot : (t f : ℕ) → word after (slot_word_of P t f) ≡ word A (slot_word_of P t f)
  unfolding after
  owned_slot t f = other_word A (descriptor_word_of P j 0) x (slot_word_of P t f) (λ e. descriptor-ne_slot P j 0 t f page.0 (omega arith) (sym e))

  not_target : (a : ℕ) → (IsTargetWord P W d (Opened j name) a → ⊥) → word after a ≡ word W a
  unfolding after
  not_target a other = other_word A (descriptor_word_of P j 0) x a (λ e. other (inr (0, descriptor_field_read W 0 (omega arith), e))) ∙ makes.empty.others a (λ made. elim made [
    | inl w ↦ other (inl w)
    | inr rest ↦ elim rest [ inl e ↦ other (inr (1, descriptor_field_read W 1 (omega arith), e)) | inr e ↦ other (inr (2, descriptor_field_read W 2 (omega arith), e)) ]
  ])

  new_page : IsNewPage P after x d j
  unfolding after page_offset
  new_page = record {
    owner = took.owner;
    kind = took.kind;
    offset = other_word A (descriptor_word_of P j 0) x (descriptor_word_of P j 2) (λ e. let field = (descriptor_word-one P j 2 j 0 (omega arith) (omega arith) e).1 in omega (arith, field)) ∙ makes.empty.offset;
    zeros = λ t here ne f lt. owned_slot t f ∙ makes.zeros t here ne f lt;
  }

  opened_open : IsOpen P W (owned P A j x) x d (Opened j name)
  unfolding after
  opened_open = record {
    means = took.same;
    held = slot_ready.slot.held;
    owner = slot_ready.slot.owner;
    number = slot_ready.slot.free;
    name_words = slot_words-same P A after d (λ f lt. owned_slot d (2 + f)) ∙ makes.name_is;
    no_pointer = no_pointers P W after pb x j d name can page at took;
    kept = λ t r. (took.reached_slots t).0 r;
    known = λ t r. (took.reached_slots t).1 r;
    owners = λ t r. ((entry_same P W after pb x j d name can page at took (slot_owner P W t) t).1 (r, refl)).1;
    names = λ t r. (slot_same P W after pb x j d name can page at took t r).0;
    numbers = λ t r. (slot_same P W after pb x j d name can page at took t r).1;
    inodes = took.inodes;
    page = new_page;
    size = length-set A (descriptor_word_of P j 0) x ∙ makes.empty.size;
    others = not_target;
  }

-- ---- in all three cases

pub opened : (P : ℕ) (W B : List ℕ) (pa pb : Route) (s x d : ℕ) (target : Target) → CanRename P W pa pb s x d target → IsTargetOpened P W B x d target → IsOpen P W B x d target
opened P W B pa pb s x d (Vacant name) can same = subst (λ I. IsOpen P W I x d (Vacant name)) (sym same) (let place = can.target_slot.1 in same_open P W pa pb s x d (Vacant name) can place.held place.owner place.free tt tt)
opened P W B pa pb s x d (Opened j name) can (A, makes, same) =
    subst (λ I. IsOpen P W I x d (Opened j name)) (sym same) (opened_open P W A pb x d j name can.target_slot.0 can.target_slot.1 can.target_slot.2 makes)
opened P W B pa pb s x d (Taken r) can same = subst (λ I. IsOpen P W I x d (Taken r)) (sym same) (let place = can.target_slot in same_open P W pa pb s x d (Taken r) can place.entry.0.live.held place.entry.1 place.number refl tt)
