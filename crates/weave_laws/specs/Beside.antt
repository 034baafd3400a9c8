-- While a call waits another call makes a step, which stores to words of its own alone, so what the waiting call holds stays. A call's words
-- are told by its slots, its pages and its inodes. P is the number of pages, I the words before a step, J those after it.
use Rattle.std.specs.Prelude.{◌≡◌, ◌⊎◌, ℕ, ◌<◌, Bool, true, List, [], ◌∷◌, ◌++◌, length, Contains}
use Rattle.layout.specs.Geometry.{data_pages_of, page_of_slot, inode_word_of, descriptor_word_of, slot_word_of, page_word_of}
use Rattle.layout.specs.Fields.{word, inode_words, descriptor_words, inode_kind, inode_links, inode_size, inode_own, page_owner, page_kind, page_offset, page_byte, slot_inode, slot_pointer, slot_words, slot_name}
use Rattle.layout.specs.declared.kinds.NodeKind.{NodeKind}
use Rattle.image_reading.specs.Counts.{IsIn}
use Rattle.image_reading.specs.Litter.{IsInode}
use Rattle.image_reading.specs.Reading.{IsPageOf}
use Rattle.image_laws.specs.Create.{MakesNode, committed, owned}
use Rattle.image_laws.specs.Drop.{dropped, ClearsName, GivesPages, ClearsRest}
use Rattle.image_laws.specs.Link.{MakesLink}
use Rattle.image_laws.specs.Taking.{MakesPagedNode, MakesPagedLink}
use Rattle.content_laws.specs.Inside.{WritesInside}
use Rattle.content_laws.specs.Growth.{FillsFile, TakesPages, sized}
use Rattle.weave_laws.specs.Naming.{counts_left}
use Rattle.weave_laws.specs.Removing.{inodes_left}

-- ---- words of a call

-- Word a is of one of these slots, pages or inodes. (A page has its descriptor too. Of that, and of an inode, it is one that is read in I.)
pub data IsWordOf (P : ℕ) (I slots pages inodes : List ℕ) : ℕ → Type 0 where
  slot : (s f : ℕ) → IsIn s slots → f < 16 → IsWordOf P I slots pages inodes (slot_word_of P s f)
  page : (j w : ℕ) → IsIn j pages → w < 512 → IsWordOf P I slots pages inodes (page_word_of P j w)
  descriptor : (j f : ℕ) → IsIn j pages → f < descriptor_words I → IsWordOf P I slots pages inodes (descriptor_word_of P j f)
  inode : (i f : ℕ) → IsIn i inodes → f < inode_words I → IsWordOf P I slots pages inodes (inode_word_of i f)

-- From I to J no word changes but such ones.
pub record StoresIn (P : ℕ) (I J slots pages inodes : List ℕ) : Type 0 where
  pub size : length J ≡ length I
  pub others : (a : ℕ) → ¬ IsWordOf P I slots pages inodes a → word J a ≡ word I a

-- Each of these is among more of them; a slot may be there with its page.
pub record AreAmong (slots pages inodes more_slots more_pages more_inodes : List ℕ) : Type 0 where
  pub of_slots : (s : ℕ) → IsIn s slots → IsIn s more_slots ⊎ IsIn (page_of_slot s) more_pages
  pub of_pages : (j : ℕ) → IsIn j pages → IsIn j more_pages
  pub of_inodes : (i : ℕ) → IsIn i inodes → IsIn i more_inodes

-- So what a step stores to is of all that its call holds.
abbrev pub WiderLaw : Type 0
WiderLaw = (P : ℕ) (I J slots pages inodes more_slots more_pages more_inodes : List ℕ) → AreAmong slots pages inodes more_slots more_pages more_inodes
    → StoresIn P I J slots pages inodes → StoresIn P I J more_slots more_pages more_inodes

-- ---- of two calls

-- the pages and the inodes are the volume's
pub record AreInVolume (P : ℕ) (pages inodes : List ℕ) : Type 0 where
  pub of_pages : (j : ℕ) → IsIn j pages → j < data_pages_of P
  pub of_inodes : (i : ℕ) → IsIn i inodes → IsInode P i

-- Nothing is in both, and no slot of one stands in a page of the other.
pub record AreApart (slots pages inodes other_slots other_pages other_inodes : List ℕ) : Type 0 where
  pub of_slots : (s : ℕ) → IsIn s slots → ¬ IsIn s other_slots
  pub of_pages : (j : ℕ) → IsIn j pages → ¬ IsIn j other_pages
  pub of_inodes : (i : ℕ) → IsIn i inodes → ¬ IsIn i other_inodes
  pub no_slot : (s : ℕ) → IsIn s slots → ¬ IsIn (page_of_slot s) other_pages
  pub no_other_slot : (s : ℕ) → IsIn s other_slots → ¬ IsIn (page_of_slot s) pages

pub record KeepsSlot (P : ℕ) (I J : List ℕ) (s : ℕ) : Type 0 where
  pub number : slot_inode P J s ≡ slot_inode P I s
  pub pointer : slot_pointer P J s ≡ slot_pointer P I s
  pub words : slot_words P J s ≡ slot_words P I s
  pub name : slot_name P J s ≡ slot_name P I s

pub record KeepsPage (P : ℕ) (I J : List ℕ) (j : ℕ) : Type 0 where
  pub owner : page_owner P J j ≡ page_owner P I j
  pub kind : page_kind P J j ≡ page_kind P I j
  pub offset : page_offset P J j ≡ page_offset P I j
  pub bytes : (o : ℕ) → o < 4096 → page_byte P J j o ≡ page_byte P I j o

pub record KeepsInode (I J : List ℕ) (i : ℕ) : Type 0 where
  pub kind : inode_kind J i ≡ inode_kind I i
  pub links : inode_links J i ≡ inode_links I i
  pub size : inode_size J i ≡ inode_size I i
  pub own : inode_own J i ≡ inode_own I i

-- From I to J what these words say stays.
pub record Keeps (P : ℕ) (I J slots pages inodes : List ℕ) : Type 0 where
  pub words : (a : ℕ) → IsWordOf P I slots pages inodes a → word J a ≡ word I a
  pub of_slots : (s : ℕ) → IsIn s slots ⊎ IsIn (page_of_slot s) pages → KeepsSlot P I J s
  pub of_pages : (j : ℕ) → IsIn j pages → KeepsPage P I J j
  pub of_inodes : (i : ℕ) → IsIn i inodes → KeepsInode I J i

-- A step of one call changes nothing that another holds.
abbrev pub DisjointLaw : Type 0
DisjointLaw = (P : ℕ) (I J slots pages inodes other_slots other_pages other_inodes : List ℕ) → AreInVolume P pages inodes → AreInVolume P other_pages other_inodes
    → AreApart slots pages inodes other_slots other_pages other_inodes → StoresIn P I J slots pages inodes → Keeps P I J other_slots other_pages other_inodes

-- ---- the steps

abbrev pub NodeWordsLaw : Type 0
NodeWordsLaw = (P : ℕ) (I J : List ℕ) (kind : NodeKind) (d s i : ℕ) (name : List ℕ) → MakesNode P I J kind d s i name → StoresIn P I J (s ∷ []) [] (i ∷ counts_left kind d)

abbrev pub LinkWordsLaw : Type 0
LinkWordsLaw = (P : ℕ) (I J : List ℕ) (s i : ℕ) (name : List ℕ) → MakesLink P I J s i name → StoresIn P I J (s ∷ []) [] (i ∷ [])

abbrev pub PagedNodeWordsLaw : Type 0
PagedNodeWordsLaw = (P : ℕ) (I J : List ℕ) (kind : NodeKind) (d j s i : ℕ) (name : List ℕ) → page_of_slot s ≡ j → MakesPagedNode P I J kind d j s i name
    → StoresIn P I J [] (j ∷ []) (i ∷ counts_left kind d)

abbrev pub PagedLinkWordsLaw : Type 0
PagedLinkWordsLaw = (P : ℕ) (I J : List ℕ) (j s i : ℕ) (name : List ℕ) → page_of_slot s ≡ j → MakesPagedLink P I J j s i name → StoresIn P I J [] (j ∷ []) (i ∷ [])

abbrev pub OwnedWordsLaw : Type 0
OwnedWordsLaw = (P : ℕ) (I : List ℕ) (j d : ℕ) → StoresIn P I (owned P I j d) [] (j ∷ []) []

abbrev pub CommittedWordsLaw : Type 0
CommittedWordsLaw = (P : ℕ) (I : List ℕ) (s i : ℕ) → StoresIn P I (committed P I s i) (s ∷ []) [] []

abbrev pub DroppedWordsLaw : Type 0
DroppedWordsLaw = (P : ℕ) (I : List ℕ) (s : ℕ) → StoresIn P I (dropped P I s) (s ∷ []) [] []

abbrev pub ClearedWordsLaw : Type 0
ClearedWordsLaw = (P : ℕ) (I J : List ℕ) (s y : ℕ) → ClearsName P I J s y → StoresIn P I J (s ∷ []) [] (y ∷ [])

abbrev pub GivenWordsLaw : Type 0
GivenWordsLaw = (P : ℕ) (I J pages : List ℕ) → GivesPages P I J (Contains pages) → StoresIn P I J [] pages []

abbrev pub FreedWordsLaw : Type 0
FreedWordsLaw = (P : ℕ) (I J pages : List ℕ) (goes : Bool) (i : ℕ) → ClearsRest P I J (Contains pages) (goes ≡ true) i → StoresIn P I J [] pages (inodes_left goes i)

-- the pages of file i are among these
abbrev pub HasPagesOf : ℕ → List ℕ → ℕ → List ℕ → Type 0
HasPagesOf P I i pages = (k j : ℕ) → IsPageOf P I i k j → IsIn j pages

abbrev pub InsideWordsLaw : Type 0
InsideWordsLaw = (P : ℕ) (I J : List ℕ) (i offset : ℕ) (bytes own : List ℕ) → HasPagesOf P I i own → WritesInside P I J i offset bytes → StoresIn P I J [] own []

abbrev pub FilledWordsLaw : Type 0
FilledWordsLaw = (P : ℕ) (I J : List ℕ) (i offset : ℕ) (bytes pages own : List ℕ) → HasPagesOf P I i own → FillsFile P I J i offset bytes pages → StoresIn P I J [] (own ++ pages) []

abbrev pub TakenWordsLaw : Type 0
TakenWordsLaw = (P : ℕ) (I J : List ℕ) (i : ℕ) (pages : List ℕ) → TakesPages P I J i pages → StoresIn P I J [] pages []

abbrev pub SizedWordsLaw : Type 0
SizedWordsLaw = (P : ℕ) (I : List ℕ) (i z : ℕ) → StoresIn P I (sized I i z) [] [] (i ∷ [])
