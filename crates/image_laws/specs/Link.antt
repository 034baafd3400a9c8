-- The intervals of link: a new page of the directory where it needs one, the raised link word and the name's words, and
-- the slot's inode number.
use Rattle.std.specs.Prelude.{◌≡◌, ◌⊎◌, ℕ, ◌+◌, List, ◌∷◌, length, reverse}
use Rattle.layout.specs.Fields.{word, inode_links, slot_words}
use Rattle.layout.specs.Geometry.{page_of_slot, inode_word_of, slot_word_of}
use Rattle.layout.specs.Name.{name_in_words}
use Rattle.tree_model.specs.PathText.{Route}
use Rattle.tree_model.specs.Step.{with_path}
use Rattle.image_counts.specs.Entries.{IsFreePage}
use Rattle.image_laws.specs.Commits.{Commits}
use Rattle.image_laws.specs.Add.{IsOldFile, with_page}
use Rattle.image_laws.specs.Create.{IsAmong, CanName, IsVacant, MakesPage, committed, owned}
use Rattle.image_laws.specs.Grown.{HasGrown}

-- a name word of slot s, or the link word of inode i
abbrev pub IsLinkedWord : ℕ → ℕ → ℕ → ℕ → Type 0
IsLinkedWord P s i a = IsAmong (λ k. slot_word_of P s (2 + k)) 14 a ⊎ (a ≡ inode_word_of i 1)

-- From I to J the slot's words become the name's, the inode has one link more, and no other word changes.
pub record MakesLink (P : ℕ) (I J : List ℕ) (s i : ℕ) (name : List ℕ) : Type 0 where
  pub size : length J ≡ length I
  pub links : inode_links J i ≡ inode_links I i + 1
  pub words : slot_words P J s ≡ name
  pub others : (a : ℕ) → (IsLinkedWord P s i a → ⊥) → word J a ≡ word I a

-- p names directory d, which has no name like these name words, and i is a file.
pub record CanLink (P : ℕ) (I : List ℕ) (p : Route) (d i : ℕ) (name : List ℕ) : Type 0 where
  pub place : CanName P I p d name
  pub file : IsOldFile P I i

-- The directory has a vacant slot.
abbrev pub LinkLaw : Type 0
LinkLaw = (P : ℕ) (W I : List ℕ) (p path : Route) (d s i : ℕ) (name : List ℕ) → CanLink P W p d i name → IsVacant P W d s → MakesLink P W I s i name
    → reverse path ≡ name_in_words name ∷ p → Commits P W W I (committed P I s i) (λ T. with_path T path i) (λ room. room) × HasGrown P W (committed P I s i) d s i name

-- The directory takes page j, and then slot s of it.
abbrev pub NewPageLinkLaw : Type 0
NewPageLinkLaw = (P : ℕ) (W A I : List ℕ) (p path : Route) (d j s i : ℕ) (name : List ℕ) → CanLink P W p d i name → IsFreePage P W j → page_of_slot s ≡ j
    → MakesPage P W A j → MakesLink P (owned P A j d) I s i name → reverse path ≡ name_in_words name ∷ p
    → Commits P W (owned P A j d) I (committed P I s i) (λ T. with_path T path i) (λ room. with_page room d) × HasGrown P W (committed P I s i) d s i name
