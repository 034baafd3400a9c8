-- The intervals of unlink and rmdir: the slot's inode number; a link word and the rest of the slot; owners of pages that are
-- given back; the rest of their descriptors, and the words of an inode that has no name left.
use Rattle.std.specs.Prelude.{◌≡◌, ◌≢◌, ◌⊎◌, ℕ, ◌+◌, ◌<◌, ◌≤◌, List, ◌∷◌, length, reverse, set}
use Rattle.layout.specs.Fields.{word, inode_words, descriptor_words, inode_links, page_owner, slot_inode, slot_name}
use Rattle.layout.specs.Geometry.{data_pages_of, page_of_slot, inode_word_of, descriptor_word_of, slot_word_of}
use Rattle.tree_model.specs.PathText.{Route}
use Rattle.tree_model.specs.Step.{without_path, without_unnamed}
use Rattle.tree_model.specs.Tree.{Tree}
use Rattle.image_reading.specs.Reading.{HasBytes, IsDirectory, slot_owner, Names, Reached, IsReachedSlot, IsRoomOf, Reads}
use Rattle.image_reading.specs.Tidy.{IsTidied}
use Rattle.image_counts.specs.Entries.{IsSlotOf}
use Rattle.image_laws.specs.Frame.{SameMeaning}
use Rattle.image_laws.specs.Quiet.{IsMix}
use Rattle.image_laws.specs.Remove.{HasRoomRemoved}

-- p names the owner of the reached slot s, and a directory that the slot names has no names.
pub record CanDrop (P : ℕ) (I : List ℕ) (p : Route) (s : ℕ) : Type 0 where
  pub tidy : IsTidied P I
  pub path : Names P I p (slot_owner P I s)
  pub slot : IsReachedSlot P I s
  pub empty : IsDirectory I (slot_inode P I s) → (t : ℕ) → IsSlotOf P I (slot_inode P I s) t → ⊥

-- the slot gives up its inode number
abbrev pub dropped : ℕ → List ℕ → ℕ → List ℕ
dropped P I s = set I (slot_word_of P s 0) 0

-- Inode y has a link less: a file itself, or a directory's parent.
abbrev pub IsFalling : ℕ → List ℕ → ℕ → ℕ → Type 0
IsFalling P I s y = (HasBytes I (slot_inode P I s) × (y ≡ slot_inode P I s)) ⊎ (IsDirectory I (slot_inode P I s) × (y ≡ slot_owner P I s))

-- From I to J inode y has a link less, and words 1 to 15 of the slot are zero.
pub record ClearsName (P : ℕ) (I J : List ℕ) (s y : ℕ) : Type 0 where
  pub size : length J ≡ length I
  pub links : inode_links J y + 1 ≡ inode_links I y
  pub zeros : (f : ℕ) → 1 ≤ f → f < 16 → word J (slot_word_of P s f) ≡ 0
  pub others : (a : ℕ) → ((f : ℕ) → 1 ≤ f → f < 16 → a ≢ slot_word_of P s f) → a ≢ inode_word_of y 1 → word J a ≡ word I a

-- Page j is given back, as I stands: it is a page of inode i, which has no name, or it is the slot's, which has no live slot.
pub record IsGiven (P : ℕ) (I : List ℕ) (d s i j : ℕ) : Type 0 where
  pub in_range : j < data_pages_of P
  pub why : ((page_owner P I j ≡ i) × (Reached P I i → ⊥)) ⊎ ((j ≡ page_of_slot s) × (IsRoomOf P I d j → ⊥))

-- From I to J the pages that are given back lose their owners.
pub record GivesPages (P : ℕ) (I J : List ℕ) (given : ℕ → Type 0) : Type 0 where
  pub size : length J ≡ length I
  pub owners : (j : ℕ) → given j → page_owner P J j ≡ 0
  pub others : (a : ℕ) → ((j : ℕ) → given j → a ≢ descriptor_word_of P j 0) → word J a ≡ word I a

-- From I to J the rest of their descriptors becomes zero, and the words of the inode where it is gone.
pub record ClearsRest (P : ℕ) (I J : List ℕ) (given : ℕ → Type 0) (gone : Type 0) (i : ℕ) : Type 0 where
  pub size : length J ≡ length I
  pub rests : (j f : ℕ) → given j → 1 ≤ f → f < descriptor_words I → word J (descriptor_word_of P j f) ≡ 0
  pub inode : gone → (f : ℕ) → f < inode_words I → word J (inode_word_of i f) ≡ 0
  pub others : (a : ℕ) → ((j f : ℕ) → given j → 1 ≤ f → f < descriptor_words I → a ≢ descriptor_word_of P j f) → (gone → (f : ℕ) → f < inode_words I → a ≢ inode_word_of i f) → word J a ≡ word I a

-- all four intervals
pub record Drops (P : ℕ) (W I J K : List ℕ) (s y : ℕ) : Type 0 where
  pub falls : IsFalling P W s y
  pub clears : ClearsName P (dropped P W s) I s y
  pub gives : GivesPages P I J (IsGiven P (dropped P W s) (slot_owner P W s) s (slot_inode P W s))
  pub rest : ClearsRest P J K (IsGiven P (dropped P W s) (slot_owner P W s) s (slot_inode P W s)) (Reached P (dropped P W s) (slot_inode P W s) → ⊥) (slot_inode P W s)

-- A crash leaves W, or what means what the first store leaves. The end is tidy, its tree is without the path, and its room without what was given back.
pub record IsDrop (P : ℕ) (W I J K : List ℕ) (p : Route) (s : ℕ) : Type 0 where
  pub commit : (M : List ℕ) → IsMix W (dropped P W s) M → (M ≡ W) ⊎ (M ≡ dropped P W s)
  pub clearing : (M : List ℕ) → IsMix (dropped P W s) I M → SameMeaning P (dropped P W s) M
  pub giving : (M : List ℕ) → IsMix I J M → SameMeaning P (dropped P W s) M
  pub freeing : (M : List ℕ) → IsMix J K M → SameMeaning P (dropped P W s) M
  pub tidy : IsTidied P K
  pub reads : (T : Tree) (path : Route) → reverse path ≡ slot_name P W s ∷ p → Reads P W T → Reads P K (without_unnamed (without_path T path))
  pub room : HasRoomRemoved P W K (slot_owner P W s) s (slot_inode P W s)

abbrev pub DropLaw : Type 0
DropLaw = (P : ℕ) (W I J K : List ℕ) (p : Route) (s y : ℕ) → CanDrop P W p s → Drops P W I J K s y → IsDrop P W I J K p s
