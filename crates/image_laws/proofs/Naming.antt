-- The words of a name are stored in a slot that stands ready: nothing is meant by them yet, and the slot may take a number.
use Rattle.std.proofs.Common.{◌≡◌, ◌≢◌, ◌⊎◌, inl, ℕ, ◌<◌, ◌≤◌, List, sym, subst, ap, ◌∙◌, arith}
use Rattle.layout.specs.Fields.{word, inode_links, slot_inode, slot_pointer, slot_name, slot_words}
use Rattle.layout.specs.Geometry.{inodes_of, data_pages_of, descriptor_word_of, slot_word_of}
use Rattle.layout.specs.Name.{IsNameWords, name_in_words}
use Rattle.layout.proofs.Widths.{in_descriptor}
use Rattle.tree_model.specs.PathText.{Route}
use Rattle.image_reading.specs.Counts.{AtMost}
use Rattle.image_reading.specs.Reading.{HasBytes, IsDirectory, slot_owner, IsHeld, IsNameOf, IsChildOf}
use Rattle.image_laws.specs.Add.{IsFreeSlot, IsNewNode, IsOldFile, CanAdd}
use Rattle.image_laws.specs.Agrees.{Alike}
use Rattle.image_laws.specs.Free.{Stores}
use Rattle.image_laws.specs.Stages.{IsReadySlot}
use Rattle.image_laws.proofs.Free.{SameEntries, alike_stores, entries_stores}
use Rattle.image_laws.proofs.KeptPages.{KeepsPages, by_words, held_owner_same, held_forth, held_back}
use Rattle.image_laws.proofs.Meaning.{slot_name_same}

-- From B to C slot s gets the words of a name: no descriptor changes, and of no other slot any word.
pub record StoresName (P : ℕ) (B C : List ℕ) (s : ℕ) (name : List ℕ) : Type 0 where
  pub stores : Stores P B C
  pub descriptors : (j f : ℕ) → j < data_pages_of P → f < 8 → word C (descriptor_word_of P j f) ≡ word B (descriptor_word_of P j f)
  pub slots : (t f : ℕ) → f < 16 → (f < 2) ⊎ (t ≢ s) → word C (slot_word_of P t f) ≡ word B (slot_word_of P t f)
  pub words : slot_words P C s ≡ name

module _ {P : ℕ} {B C : List ℕ} {p : Route} {d s : ℕ} {name : List ℕ} (place : IsReadySlot P B p d s name) (named : StoresName P B C s name) where
  pub entries : SameEntries P B C
  entries = entries_stores P B C place.coherent named.stores

  alike : Alike P B C
  alike = alike_stores P B C place.coherent named.stores

  pub paged : KeepsPages P B C (λ j. ⊥)
  paged = by_words P B C (λ j. ⊥) (λ j f lt read none. named.descriptors j f lt (in_descriptor B f read))

  pub owner_same : (t : ℕ) → IsHeld P B t → slot_owner P C t ≡ slot_owner P B t
  owner_same t held = held_owner_same paged t held (λ none. none)

  pub number_same : (t : ℕ) → slot_inode P C t ≡ slot_inode P B t
  unfolding slot_inode
  number_same t = named.slots t 0 (omega arith) (inl (omega arith))

  pointer_same : (t : ℕ) → slot_pointer P C t ≡ slot_pointer P B t
  unfolding slot_pointer
  pointer_same t = named.slots t 1 (omega arith) (inl (omega arith))

  pub name_is : slot_name P C s ≡ name_in_words name
  unfolding slot_name
  name_is = ap name_in_words named.words

  free_slot : IsFreeSlot P C p d s
  free_slot = record {
    path = (entries.same.names p d).0 place.slot.path;
    directory = (alike.inodes d (p, place.slot.path)).kind ∙ place.slot.directory;
    held = held_forth paged s (λ none. none) place.slot.held;
    owner = owner_same s place.slot.held ∙ place.slot.owner;
    free = number_same s ∙ place.slot.free;
    no_pointer = pointer_same s ∙ place.slot.no_pointer;
    no_target = λ t h e. place.slot.no_target t (held_back paged t (λ none. none) h) (sym (pointer_same t) ∙ e);
  }

  pub may_add : (i : ℕ) → 2 ≤ i → i ≤ inodes_of P → IsNewNode P C i ⊎ IsOldFile P C i → (HasBytes C i → AtMost 1 (IsNameOf P C i) (inode_links C i))
      → (IsDirectory C i → AtMost 3 (IsChildOf P C d) (inode_links C d)) → CanAdd P C p d s i
  may_add i least most node name_link child_link = record {
    coherent = entries.same.coherent;
    slot = free_slot;
    name = subst IsNameWords (sym named.words) place.is_name;
    new = λ t r o e.
        let old = (entries.slots t).1 r in
        place.new t old (sym (owner_same t old.live.held) ∙ o) (sym (slot_name_same P B C alike t old) ∙ e ∙ name_is);
    least = least;
    most = most;
    node = node;
    name_link = name_link;
    child_link = child_link;
  }
