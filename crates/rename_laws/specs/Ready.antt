-- The intervals of a rename before its commit: a new page of the directory where it needs one, and then the pointer, with the name and a
-- link. W are the words before, B those with the new page, I those from which slot d may take its number.
use Rattle.std.specs.Prelude.{◌≡◌, ◌≢◌, ◌⊎◌, ℕ, ◌+◌, List, length, Option}
use Rattle.layout.specs.Fields.{word, descriptor_words, page_owner, page_kind, page_offset, slot_inode, slot_pointer, slot_name, slot_words}
use Rattle.layout.specs.Geometry.{page_of_slot, descriptor_word_of, slot_word_of, page_word_of}
use Rattle.layout.specs.Kinds.{page_code}
use Rattle.layout.specs.declared.kinds.PageKind.TheVariants.{Slots}
use Rattle.tree_model.specs.PathText.{Route}
use Rattle.image_reading.specs.Litter.{IsZeroSlot}
use Rattle.image_reading.specs.Reading.{slot_owner}
use Rattle.image_laws.specs.Create.{IsAmong, MakesNamedPage, IsPageQuiet, owned}
use Rattle.image_laws.specs.Frame.{SameMeaning}
use Rattle.image_laws.specs.Links.{IsLinkWord, Rises}
use Rattle.image_laws.specs.Move.{CanMove}
use Rattle.image_laws.specs.Quiet.{IsMix}
use Rattle.rename_laws.specs.Target.{Target, Vacant, Opened, Taken, CanRename, Holds, IsRising, old_number, name_of}

-- ---- a new page

-- From W to B directory x has taken its new page, where there is one.
abbrev pub IsTargetOpened : ℕ → List ℕ → List ℕ → ℕ → ℕ → Target → Type 0
IsTargetOpened P W B x d (Vacant name) = B ≡ W
IsTargetOpened P W B x d (Opened j name) = (A : List ℕ) × MakesNamedPage P W A j d name × (B ≡ owned P A j x)
IsTargetOpened P W B x d (Taken r) = B ≡ W

-- ---- the pointer

-- a name word of a slot that was vacant
abbrev pub IsNewNameWord : ℕ → ℕ → Target → ℕ → Type 0
IsNewNameWord P d (Vacant name) a = IsAmong (λ k. slot_word_of P d (2 + k)) 14 a
IsNewNameWord P d (Opened j name) a = ⊥
IsNewNameWord P d (Taken r) a = ⊥

-- such a slot has the name
abbrev pub HasNewName : ℕ → List ℕ → ℕ → Target → Type 0
HasNewName P I d (Vacant name) = slot_words P I d ≡ name
HasNewName P I d (Opened j name) = Unit {0}
HasNewName P I d (Taken r) = Unit {0}

-- From B to I slot d points at slot s, has its name where it was vacant, and the rising inode has a link more. No other word changes.
pub record PointsAt (P : ℕ) (B I : List ℕ) (s d : ℕ) (target : Target) (rising : Option ℕ) : Type 0 where
  pub size : length I ≡ length B
  pub pointer : slot_pointer P I d ≡ s + 1
  pub name_is : HasNewName P I d target
  pub links : Rises B I rising
  pub others : (a : ℕ) → a ≢ slot_word_of P d 1 → (IsNewNameWord P d target a → ⊥) → (IsLinkWord rising a → ⊥) → word I a ≡ word B a

-- ---- what stands before the commit

-- page j is a directory page of x, and its slots but d are zero
pub record IsNewPage (P : ℕ) (I : List ℕ) (x d j : ℕ) : Type 0 where
  pub owner : page_owner P I j ≡ x
  pub kind : page_kind P I j ≡ page_code Slots
  pub offset : page_offset P I j ≡ 0
  pub zeros : (t : ℕ) → page_of_slot t ≡ j → t ≢ d → IsZeroSlot P I t

-- where there is such a page
abbrev pub HasNewPage : ℕ → List ℕ → ℕ → ℕ → Target → Type 0
HasNewPage P I x d (Vacant name) = Unit {0}
HasNewPage P I x d (Opened j name) = IsNewPage P I x d j
HasNewPage P I x d (Taken r) = Unit {0}

-- a word of a new name, or of a new page or its descriptor
abbrev pub IsTargetWord : ℕ → List ℕ → ℕ → Target → ℕ → Type 0
IsTargetWord P W d (Vacant name) a = IsNewNameWord P d (Vacant name) a
IsTargetWord P W d (Opened j name) a = IsAmong (page_word_of P j) 512 a ⊎ IsAmong (descriptor_word_of P j) (descriptor_words W) a
IsTargetWord P W d (Taken r) a = ⊥

-- I means what W means, slot d may take the number of slot s, and the words are those of W, but for d's pointer, its new name or page,
-- and the rising links.
pub record IsMoveReady (P : ℕ) (W I : List ℕ) (pa pb : Route) (s x d : ℕ) (target : Target) (rising : Option ℕ) : Type 0 where
  pub can : CanRename P W pa pb s x d target
  pub rises : Holds (IsRising P W s x target) rising
  pub means : SameMeaning P W I
  pub can_move : CanMove P I pa pb s d
  pub owner : slot_owner P I d ≡ x
  pub number : slot_inode P I d ≡ old_number target
  pub name_is : slot_name P I d ≡ name_of P W d target
  pub page : HasNewPage P I x d target
  pub links : Rises W I rising
  pub size : length I ≡ length W
  pub others : (a : ℕ) → a ≢ slot_word_of P d 1 → (IsTargetWord P W d target a → ⊥) → (IsLinkWord rising a → ⊥) → word I a ≡ word W a

-- ---- what a crash leaves

-- While x takes its new page it leaves what means W.
abbrev pub OpeningLaw : Type 0
OpeningLaw = (P : ℕ) (W A : List ℕ) (pa pb : Route) (s x d j : ℕ) (name : List ℕ) → CanRename P W pa pb s x d (Opened j name) → MakesNamedPage P W A j d name
    → IsPageQuiet P W A (owned P A j x)

-- So it does while the pointer is stored, and then slot d may take its number.
pub record LeavesReady (P : ℕ) (W B I : List ℕ) (pa pb : Route) (s x d : ℕ) (target : Target) (rising : Option ℕ) : Type 0 where
  pub pointing : (M : List ℕ) → IsMix B I M → SameMeaning P W M
  pub ready : IsMoveReady P W I pa pb s x d target rising

abbrev pub ReadyLaw : Type 0
ReadyLaw = (P : ℕ) (W B I : List ℕ) (pa pb : Route) (s x d : ℕ) (target : Target) (rising : Option ℕ) → CanRename P W pa pb s x d target
    → Holds (IsRising P W s x target) rising → IsTargetOpened P W B x d target → PointsAt P B I s d target rising
    → LeavesReady P W B I pa pb s x d target rising
