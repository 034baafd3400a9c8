-- A name is written, and then its slot takes the number: what each step leaves to be repaired, beside other calls. P is the number of
-- pages, I the words before a step, J those after it.
use Rattle.std.specs.Prelude.{◌≡◌, ◌≢◌, ℕ, ◌+◌, ◌<◌, List, [], ◌∷◌, Option, Some, None, slice_index}
use Rattle.layout.specs.Fields.{word, inode_kind, inode_links}
use Rattle.layout.specs.Geometry.{page_of_slot, inode_word_of}
use Rattle.layout.specs.declared.kinds.NodeKind.{NodeKind}
use Rattle.layout.specs.declared.kinds.NodeKind.TheVariants.{File, Directory}
use Rattle.tree_model.specs.PathText.{Route}
use Rattle.image_reading.specs.Litter.{IsZeroSlot}
use Rattle.image_reading.specs.Reading.{IsLinkCount, IsRoomOf}
use Rattle.image_laws.specs.Add.{IsOldFile, CanAdd}
use Rattle.image_laws.specs.Create.{node_words, MakesNode, committed}
use Rattle.image_laws.specs.Link.{MakesLink}
use Rattle.image_laws.specs.Stages.{IsReady, IsReadySlot}
use Rattle.image_reading.specs.Residue.{Residue, IsTidyBeside}
use Rattle.weave_laws.specs.Joined.{joined}

-- ---- what a name that waits for its number leaves

-- its slot, or the new page that it is in
abbrev pub slots_left : ℕ → Option ℕ → List ℕ
slots_left s None = s ∷ []
slots_left s (Some page) = []

abbrev pub pages_left : Option ℕ → List ℕ
pages_left None = []
pages_left (Some page) = page ∷ []

-- the links of the directory that a directory is made in
abbrev pub counts_left : NodeKind → ℕ → List ℕ
counts_left Directory d = d ∷ []
counts_left File d = []

-- with a new node the inode
abbrev pub node_left : NodeKind → ℕ → ℕ → Option ℕ → ℕ → Residue
node_left kind d s new_page i = record { pointer = None; slots = slots_left s new_page; pages = pages_left new_page; inodes = i ∷ []; counts = counts_left kind d }

-- with a link the links of the file
abbrev pub link_left : ℕ → Option ℕ → ℕ → Residue
link_left s new_page i = record { pointer = None; slots = slots_left s new_page; pages = pages_left new_page; inodes = []; counts = i ∷ [] }

-- ---- the name is written

-- The directory that a directory is made in has as many links as are counted.
abbrev pub IsCountedParent : ℕ → List ℕ → NodeKind → ℕ → Type 0
IsCountedParent P I Directory d = IsLinkCount P I d (inode_links I d)
IsCountedParent P I File d = Unit {0}

-- The slot is zero, in a page of d that has a live one.
pub record IsBlankSlot (P : ℕ) (I : List ℕ) (d s : ℕ) : Type 0 where
  pub kept : IsRoomOf P I d (page_of_slot s)
  pub zero : IsZeroSlot P I s

abbrev pub NodeWrittenLaw : Type 0
NodeWrittenLaw = (P : ℕ) (I J : List ℕ) (p : Route) (kind : NodeKind) (d s i : ℕ) (name : List ℕ) (others : Residue) → IsReady P I p d s i name → IsBlankSlot P I d s → inode_kind I i ≡ 0
    → IsCountedParent P I kind d → MakesNode P I J kind d s i name → IsTidyBeside P I others
    → IsTidyBeside P J (joined (node_left kind d s None i) others)

abbrev pub LinkWrittenLaw : Type 0
LinkWrittenLaw = (P : ℕ) (I J : List ℕ) (p : Route) (d s i : ℕ) (name : List ℕ) (others : Residue) → IsReadySlot P I p d s name → IsBlankSlot P I d s → IsOldFile P I i
    → IsLinkCount P I i (inode_links I i) → MakesLink P I J s i name → IsTidyBeside P I others
    → IsTidyBeside P J (joined (link_left s None i) others)

-- ---- the slot takes the number

-- inode x has a link more than are counted,
abbrev pub HasSpareLink : ℕ → List ℕ → ℕ → Type 0
HasSpareLink P I x = (n : ℕ) × IsLinkCount P I x n × (inode_links I x ≡ n + 1)

-- and so has the directory that a directory is made in
abbrev pub IsWrittenParent : ℕ → List ℕ → NodeKind → ℕ → Type 0
IsWrittenParent P I Directory d = HasSpareLink P I d
IsWrittenParent P I File d = Unit {0}

-- The new inode has the kind and the links of a new node.
pub record IsWrittenNode (P : ℕ) (I : List ℕ) (kind : NodeKind) (d i : ℕ) : Type 0 where
  pub words : (f : ℕ) → f < 2 → word I (inode_word_of i f) ≡ slice_index (node_words kind i) f
  pub parent : IsWrittenParent P I kind d

-- the slot stands in the new page, whose other slots are zero
abbrev pub IsWrittenPlace : ℕ → List ℕ → ℕ → Option ℕ → Type 0
IsWrittenPlace P I s None = Unit {0}
IsWrittenPlace P I s (Some page) = (page_of_slot s ≡ page) × ((t : ℕ) → page_of_slot t ≡ page → t ≢ s → IsZeroSlot P I t)

-- then nothing of it is left to be repaired
abbrev pub NodeCommittedLaw : Type 0
NodeCommittedLaw = (P : ℕ) (I : List ℕ) (p : Route) (kind : NodeKind) (d s : ℕ) (new_page : Option ℕ) (i : ℕ) (others : Residue) → CanAdd P I p d s i → IsWrittenNode P I kind d i
    → IsWrittenPlace P I s new_page → IsTidyBeside P I (joined (node_left kind d s new_page i) others) → IsTidyBeside P (committed P I s i) others

abbrev pub LinkCommittedLaw : Type 0
LinkCommittedLaw = (P : ℕ) (I : List ℕ) (p : Route) (d s : ℕ) (new_page : Option ℕ) (i : ℕ) (others : Residue) → CanAdd P I p d s i → HasSpareLink P I i
    → IsWrittenPlace P I s new_page → IsTidyBeside P I (joined (link_left s new_page i) others) → IsTidyBeside P (committed P I s i) others
