-- The intervals of create and mkdir: a new page of the directory where it needs one, the node's and the name's words,
-- and the slot's inode number.
use Rattle.std.specs.Prelude.{◌≡◌, ◌≢◌, ◌⊎◌, ℕ, ◌+◌, ◌<◌, ◌≤◌, List, [], ◌∷◌, length, reverse, set, slice_index}
use Rattle.layout.specs.Fields.{word, inode_words, inode_links, page_kind, page_offset, slot_inode, slot_pointer, slot_name, slot_words}
use Rattle.layout.specs.Geometry.{inodes_of, page_of_slot, inode_word_of, descriptor_word_of, slot_word_of, page_word_of}
use Rattle.layout.specs.Name.{IsNameWords, name_in_words}
use Rattle.layout.specs.declared.kinds.NodeKind.{NodeKind}
use Rattle.layout.specs.declared.kinds.NodeKind.TheVariants.{File, Directory}
use Rattle.tree_model.specs.PathText.{Route}
use Rattle.tree_model.specs.Step.{new_node, with_new}
use Rattle.image_reading.specs.Litter.{IsZeroSlot}
use Rattle.image_reading.specs.Reading.{IsDirectory, slot_owner, IsHeld, Names, Reached, IsReachedSlot}
use Rattle.image_reading.specs.Soundness.{IsCoherent}
use Rattle.image_reading.specs.Tidy.{IsTidied}
use Rattle.image_counts.specs.Entries.{IsFreePage}
use Rattle.image_laws.specs.Commits.{Commits}
use Rattle.image_laws.specs.Frame.{SameMeaning}
use Rattle.image_laws.specs.Quiet.{IsMix}
use Rattle.image_laws.specs.Add.{with_page, with_node}

-- a is one of the first n values of f
abbrev pub IsAmong : (ℕ → ℕ) → ℕ → ℕ → Type 0
IsAmong f n a = (k : ℕ) × (k < n) × (a ≡ f k)

-- ---- the node and its name

-- the first words of a new node's inode
abbrev pub node_words : NodeKind → ℕ → List ℕ
node_words Directory i = 2 ∷ 2 ∷ 0 ∷ i ∷ []
node_words File i = 1 ∷ 1 ∷ 0 ∷ i ∷ []

-- the links of the directory that it is made in
abbrev pub parent_links : NodeKind → ℕ → ℕ
parent_links Directory links = links + 1
parent_links File links = links

-- a word of inode i, a name word of slot s, or with a directory the link word of its parent d
abbrev pub IsMadeWord : ℕ → List ℕ → NodeKind → ℕ → ℕ → ℕ → ℕ → Type 0
IsMadeWord P I Directory d s i a = IsAmong (inode_word_of i) (inode_words I) a ⊎ (IsAmong (λ k. slot_word_of P s (2 + k)) 14 a ⊎ (a ≡ inode_word_of d 1))
IsMadeWord P I File d s i a = IsAmong (inode_word_of i) (inode_words I) a ⊎ IsAmong (λ k. slot_word_of P s (2 + k)) 14 a

-- From I to J those words become the node's, the name's and the parent's, and no other word changes.
pub record MakesNode (P : ℕ) (I J : List ℕ) (kind : NodeKind) (d s i : ℕ) (name : List ℕ) : Type 0 where
  pub size : length J ≡ length I
  pub inode : (f : ℕ) → f < inode_words I → word J (inode_word_of i f) ≡ slice_index (node_words kind i) f
  pub words : slot_words P J s ≡ name
  pub parent : inode_links J d ≡ parent_links kind (inode_links I d)
  pub others : (a : ℕ) → (IsMadeWord P I kind d s i a → ⊥) → word J a ≡ word I a

-- ---- what a call needs of a tidy image

-- The image is tidy, and p names directory d, which has no name like these name words.
pub record CanName (P : ℕ) (I : List ℕ) (p : Route) (d : ℕ) (name : List ℕ) : Type 0 where
  pub tidy : IsTidied P I
  pub path : Names P I p d
  pub directory : IsDirectory I d
  pub is_name : IsNameWords name
  pub new : (t : ℕ) → IsReachedSlot P I t → slot_owner P I t ≡ d → slot_name P I t ≢ name_in_words name

-- and inode i is free
pub record CanMake (P : ℕ) (I : List ℕ) (p : Route) (d i : ℕ) (name : List ℕ) : Type 0 where
  pub place : CanName P I p d name
  pub least : 2 ≤ i
  pub most : i ≤ inodes_of P
  pub unreached : Reached P I i → ⊥

-- a slot of the directory that names nothing
pub record IsVacant (P : ℕ) (I : List ℕ) (d s : ℕ) : Type 0 where
  pub held : IsHeld P I s
  pub owner : slot_owner P I s ≡ d
  pub free : slot_inode P I s ≡ 0

-- ---- the two intervals

-- slot s takes inode i
abbrev pub committed : ℕ → List ℕ → ℕ → ℕ → List ℕ
committed P I s i = set I (slot_word_of P s 0) i

-- The directory has a vacant slot.
abbrev pub CreateLaw : Type 0
CreateLaw = (P : ℕ) (W I : List ℕ) (p path : Route) (kind : NodeKind) (d s i : ℕ) (name : List ℕ) → CanMake P W p d i name → IsVacant P W d s
    → MakesNode P W I kind d s i name → reverse path ≡ name_in_words name ∷ p
    → Commits P W W I (committed P I s i) (λ T. with_new T path i (new_node kind)) (λ room. with_node room i kind)

-- ---- a new page

-- the words of page j, and its descriptor's kind and offset
abbrev pub IsPageMadeWord : ℕ → ℕ → ℕ → Type 0
IsPageMadeWord P j a = IsAmong (page_word_of P j) 512 a ⊎ ((a ≡ descriptor_word_of P j 1) ⊎ (a ≡ descriptor_word_of P j 2))

-- From I to J page j becomes a directory page whose slots name nothing and point at nothing, still without an owner.
pub record MakesEmptyPage (P : ℕ) (I J : List ℕ) (j : ℕ) : Type 0 where
  pub size : length J ≡ length I
  pub numbers : (s : ℕ) → page_of_slot s ≡ j → slot_inode P J s ≡ 0
  pub pointers : (s : ℕ) → page_of_slot s ≡ j → slot_pointer P J s ≡ 0
  pub kind : page_kind P J j ≡ 2
  pub offset : page_offset P J j ≡ 0
  pub others : (a : ℕ) → (IsPageMadeWord P j a → ⊥) → word J a ≡ word I a

-- and its slot d has the name, its other slots are zero
pub record MakesNamedPage (P : ℕ) (I J : List ℕ) (j d : ℕ) (name : List ℕ) : Type 0 where
  pub empty : MakesEmptyPage P I J j
  pub open empty use *
  pub name_is : slot_words P J d ≡ name
  pub zeros : (t : ℕ) → page_of_slot t ≡ j → t ≢ d → IsZeroSlot P J t

-- or each of its words is zero, as a tidy image has it
pub record MakesPage (P : ℕ) (I J : List ℕ) (j : ℕ) : Type 0 where
  pub empty : MakesEmptyPage P I J j
  pub open empty use *
  pub zeros : (w : ℕ) → w < 512 → word J (page_word_of P j w) ≡ 0

-- directory d owns page j
abbrev pub owned : ℕ → List ℕ → ℕ → ℕ → List ℕ
owned P I j d = set I (descriptor_word_of P j 0) d

-- From W over A to B: a crash leaves what means W.
pub record IsPageQuiet (P : ℕ) (W A B : List ℕ) : Type 0 where
  pub making : (M : List ℕ) → IsMix W A M → SameMeaning P W M
  pub owning : (M : List ℕ) → IsMix A B M → SameMeaning P W M

-- The directory takes page j, and then slot s of it.
abbrev pub NewPageLaw : Type 0
NewPageLaw = (P : ℕ) (W A I : List ℕ) (p path : Route) (kind : NodeKind) (d j s i : ℕ) (name : List ℕ) → CanMake P W p d i name → IsFreePage P W j → page_of_slot s ≡ j
    → MakesPage P W A j → MakesNode P (owned P A j d) I kind d s i name → reverse path ≡ name_in_words name ∷ p
    → Commits P W (owned P A j d) I (committed P I s i) (λ T. with_new T path i (new_node kind)) (λ room. with_node (with_page room d) i kind)

-- The page's own steps mean nothing, whatever is made in it.
abbrev pub PageQuietLaw : Type 0
PageQuietLaw = (P : ℕ) (W A : List ℕ) (p : Route) (d j : ℕ) → IsCoherent P W → Names P W p d → IsDirectory W d → IsFreePage P W j → MakesEmptyPage P W A j → IsPageQuiet P W A (owned P A j d)
