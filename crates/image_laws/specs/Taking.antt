-- A directory takes a page in one interval with what the name in it needs, a new node or one more link, and then the page gets its owner.
use Rattle.std.specs.Prelude.{◌≡◌, ◌≢◌, ℕ, ◌+◌, ◌<◌, List, length, slice_index}
use Rattle.layout.specs.Fields.{word, inode_words, inode_links, page_owner, page_kind, page_offset, slot_inode, slot_pointer, slot_words}
use Rattle.layout.specs.Geometry.{data_pages_of, page_of_slot, inode_word_of}
use Rattle.layout.specs.declared.kinds.NodeKind.{NodeKind}
use Rattle.tree_model.specs.PathText.{Route}
use Rattle.image_reading.specs.Litter.{IsZeroSlot}
use Rattle.image_reading.specs.Reading.{IsDirectory, Names}
use Rattle.image_reading.specs.Soundness.{IsCoherent}
use Rattle.image_counts.specs.Entries.{IsFreePage}
use Rattle.image_laws.specs.Create.{node_words, parent_links, IsMadeWord, MakesNode, CanMake, IsPageMadeWord, MakesPage, owned, IsPageQuiet}
use Rattle.image_laws.specs.Free.{Stores}
use Rattle.image_laws.specs.Link.{IsLinkedWord, MakesLink, CanLink}

-- ---- any interval that fills a page

-- From W to A each word that changes is free and no owner changes, and page j becomes a directory page whose slots name nothing and point
-- at nothing.
pub record FillsPage (P : ℕ) (W A : List ℕ) (j : ℕ) : Type 0 where
  pub stores : Stores P W A
  pub owners : (x : ℕ) → x < data_pages_of P → page_owner P A x ≡ page_owner P W x
  pub kind : page_kind P A j ≡ 2
  pub numbers : (t : ℕ) → page_of_slot t ≡ j → slot_inode P A t ≡ 0
  pub pointers : (t : ℕ) → page_of_slot t ≡ j → slot_pointer P A t ≡ 0

-- Directory d, which p names, takes the free page j so: a crash leaves what means W.
abbrev pub TakingLaw : Type 0
TakingLaw = (P : ℕ) (W A : List ℕ) (p : Route) (d j : ℕ) → IsCoherent P W → Names P W p d → IsDirectory W d → IsFreePage P W j → FillsPage P W A j
    → IsPageQuiet P W A (owned P A j d)

-- ---- a page with a name, and a node or a link

-- Page j is a directory page. No slot of it names anything or points; slot s has the name, and the others are zero.
pub record IsNamedPage (P : ℕ) (I : List ℕ) (j s : ℕ) (name : List ℕ) : Type 0 where
  pub kind : page_kind P I j ≡ 2
  pub offset : page_offset P I j ≡ 0
  pub numbers : (t : ℕ) → page_of_slot t ≡ j → slot_inode P I t ≡ 0
  pub pointers : (t : ℕ) → page_of_slot t ≡ j → slot_pointer P I t ≡ 0
  pub name_is : slot_words P I s ≡ name
  pub zeros : (t : ℕ) → page_of_slot t ≡ j → t ≢ s → IsZeroSlot P I t

-- From I to J page j becomes such a page, still without an owner, and its words, the node's and the parent's change. No other word does.
pub record MakesPagedNode (P : ℕ) (I J : List ℕ) (kind : NodeKind) (d j s i : ℕ) (name : List ℕ) : Type 0 where
  pub size : length J ≡ length I
  pub page : IsNamedPage P J j s name
  pub inode : (f : ℕ) → f < inode_words I → word J (inode_word_of i f) ≡ slice_index (node_words kind i) f
  pub parent : inode_links J d ≡ parent_links kind (inode_links I d)
  pub others : (a : ℕ) → (IsPageMadeWord P j a → ⊥) → (IsMadeWord P I kind d s i a → ⊥) → word J a ≡ word I a

-- or inode i has one link more in place of a node
pub record MakesPagedLink (P : ℕ) (I J : List ℕ) (j s i : ℕ) (name : List ℕ) : Type 0 where
  pub size : length J ≡ length I
  pub page : IsNamedPage P J j s name
  pub links : inode_links J i ≡ inode_links I i + 1
  pub others : (a : ℕ) → (IsPageMadeWord P j a → ⊥) → (IsLinkedWord P s i a → ⊥) → word J a ≡ word I a

-- A crash leaves what means W.
abbrev pub PagedNodeLaw : Type 0
PagedNodeLaw = (P : ℕ) (W A : List ℕ) (p : Route) (kind : NodeKind) (d j s i : ℕ) (name : List ℕ) → CanMake P W p d i name → IsFreePage P W j → page_of_slot s ≡ j
    → MakesPagedNode P W A kind d j s i name → IsPageQuiet P W A (owned P A j d)

abbrev pub PagedLinkLaw : Type 0
PagedLinkLaw = (P : ℕ) (W A : List ℕ) (p : Route) (d j s i : ℕ) (name : List ℕ) → CanLink P W p d i name → IsFreePage P W j → page_of_slot s ≡ j
    → MakesPagedLink P W A j s i name → IsPageQuiet P W A (owned P A j d)

-- ---- the same end

-- Once the page has its owner the words are those of an order in which the directory takes a page of zeros first, and the node is made in
-- it then. The words with that page, `blank`, need never have been there.
pub record EndsInNode (P : ℕ) (W A : List ℕ) (kind : NodeKind) (d j s i : ℕ) (name : List ℕ) : Type 0 where
  pub blank : List ℕ
  pub page : MakesPage P W blank j
  pub made : MakesNode P (owned P blank j d) (owned P A j d) kind d s i name

-- or the link
pub record EndsInLink (P : ℕ) (W A : List ℕ) (d j s i : ℕ) (name : List ℕ) : Type 0 where
  pub blank : List ℕ
  pub page : MakesPage P W blank j
  pub made : MakesLink P (owned P blank j d) (owned P A j d) s i name

abbrev pub SameEndLaw : Type 0
SameEndLaw = (P : ℕ) (W A : List ℕ) (p : Route) (kind : NodeKind) (d j s i : ℕ) (name : List ℕ) → CanMake P W p d i name → IsFreePage P W j → page_of_slot s ≡ j
    → MakesPagedNode P W A kind d j s i name → EndsInNode P W A kind d j s i name

abbrev pub SameLinkEndLaw : Type 0
SameLinkEndLaw = (P : ℕ) (W A : List ℕ) (p : Route) (d j s i : ℕ) (name : List ℕ) → CanLink P W p d i name → IsFreePage P W j → page_of_slot s ≡ j
    → MakesPagedLink P W A j s i name → EndsInLink P W A d j s i name
