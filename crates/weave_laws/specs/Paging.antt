-- A name is written in a new page, in one interval with its node or its link, and then the page gets its owner. Neither step changes a
-- meaning, whatever other calls have left, and what each leaves to be repaired is said beside that. P is the number of pages, I the words
-- before a step, J those after it, and M is a mix of both.
use Rattle.std.specs.Prelude.{◌≡◌, ℕ, List, Some}
use Rattle.layout.specs.Fields.{inode_links}
use Rattle.layout.specs.Geometry.{page_of_slot}
use Rattle.layout.specs.declared.kinds.NodeKind.{NodeKind}
use Rattle.image_reading.specs.Litter.{IsInode}
use Rattle.image_reading.specs.Reading.{IsDirectory, Reached, IsLinkCount}
use Rattle.image_reading.specs.Residue.{Residue, IsTidyBeside}
use Rattle.image_reading.specs.Soundness.{IsCoherent}
use Rattle.image_counts.specs.Entries.{IsFreePage, IsUnusedDataPage, IsFreeInode}
use Rattle.image_laws.specs.Add.{IsOldFile}
use Rattle.image_laws.specs.Create.{owned}
use Rattle.image_laws.specs.Frame.{SameMeaning}
use Rattle.image_laws.specs.Quiet.{IsMix}
use Rattle.image_laws.specs.Stages.{IsEmptyPage}
use Rattle.image_laws.specs.Taking.{MakesPagedNode, MakesPagedLink}
use Rattle.weave_laws.specs.Joined.{joined}
use Rattle.weave_laws.specs.Naming.{IsCountedParent, node_left, link_left}

-- ---- no meaning changes

-- a new node, of an inode that isn't reached, and its name in a page that has no owner
abbrev pub PagedNodeQuietLaw : Type 0
PagedNodeQuietLaw = (P : ℕ) (I J M : List ℕ) (kind : NodeKind) (d j s i : ℕ) (name : List ℕ) → IsCoherent P I → Reached P I d → IsFreePage P I j → page_of_slot s ≡ j
    → IsInode P i → ¬ Reached P I i → MakesPagedNode P I J kind d j s i name → IsMix I J M → SameMeaning P I M

-- or one more link of a file
abbrev pub PagedLinkQuietLaw : Type 0
PagedLinkQuietLaw = (P : ℕ) (I J M : List ℕ) (j s i : ℕ) (name : List ℕ) → IsCoherent P I → IsFreePage P I j → page_of_slot s ≡ j → IsOldFile P I i
    → MakesPagedLink P I J j s i name → IsMix I J M → SameMeaning P I M

-- then the page's owner
abbrev pub OwningQuietLaw : Type 0
OwningQuietLaw = (P : ℕ) (I M : List ℕ) (d j : ℕ) → IsCoherent P I → Reached P I d → IsDirectory I d → IsFreePage P I j → IsEmptyPage P I j
    → IsMix I (owned P I j d) M → SameMeaning P I M

-- ---- what is left to be repaired

-- The page has neither an owner nor a kind before, and the inode no kind.
abbrev pub PagedNodeWrittenLaw : Type 0
PagedNodeWrittenLaw = (P : ℕ) (I J : List ℕ) (kind : NodeKind) (d j s i : ℕ) (name : List ℕ) (others : Residue) → IsCoherent P I → Reached P I d → IsUnusedDataPage P I j → page_of_slot s ≡ j
    → IsFreeInode P I i → IsCountedParent P I kind d → MakesPagedNode P I J kind d j s i name → IsTidyBeside P I others
    → IsTidyBeside P J (joined (node_left kind d s (Some j) i) others)

abbrev pub PagedLinkWrittenLaw : Type 0
PagedLinkWrittenLaw = (P : ℕ) (I J : List ℕ) (j s i : ℕ) (name : List ℕ) (others : Residue) → IsCoherent P I → IsUnusedDataPage P I j → page_of_slot s ≡ j → IsOldFile P I i
    → IsLinkCount P I i (inode_links I i) → MakesPagedLink P I J j s i name → IsTidyBeside P I others
    → IsTidyBeside P J (joined (link_left s (Some j) i) others)

-- The owner of the page is stored: the same is left.
abbrev pub PageOwnedLaw : Type 0
PageOwnedLaw = (P : ℕ) (I : List ℕ) (d j : ℕ) (residue : Residue) → IsCoherent P I → Reached P I d → IsDirectory I d → IsFreePage P I j → IsEmptyPage P I j
    → IsTidyBeside P I residue → IsTidyBeside P (owned P I j d) residue
