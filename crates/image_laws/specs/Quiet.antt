-- Intervals that change no meaning.
use Rattle.std.specs.Prelude.{◌≡◌, ◌≢◌, ◌↔◌, ◌⊎◌, ℕ, ◌<◌, List, length}
use Rattle.layout.specs.Fields.{word, inode_links, page_owner, page_byte}
use Rattle.layout.specs.Geometry.{data_pages_of}
use Rattle.tree_model.specs.Tree.{Node}
use Rattle.image_reading.specs.Reading.{HasBytes, Reached, IsNode}
use Rattle.image_reading.specs.Soundness.{IsCoherent, HasLinks}
use Rattle.image_laws.specs.Exempt.{IsExempt}
use Rattle.image_laws.specs.Frame.{SameBytes, AllSameBytes, SameShape, SameMeaning}
use Rattle.image_laws.specs.Words.{IsUsed}

-- each word of M is that of A or that of B
pub record IsMix (A B M : List ℕ) : Type 0 where
  pub size : length M ≡ length A
  pub words : (a : ℕ) → (word M a ≡ word A a) ⊎ (word M a ≡ word B a)

-- From I to J no used word changes, but exempt owners and link words within bounds.
pub record IsQuiet (P : ℕ) (I J : List ℕ) : Type 0 where
  pub size : length J ≡ length I
  pub words : (a : ℕ) → IsUsed P I a → word J a ≡ word I a
  pub owners : (j : ℕ) → j < data_pages_of P → (page_owner P J j ≡ page_owner P I j) ⊎ ((g : ℕ) × IsExempt P I J j g)
  pub links : (i : ℕ) → Reached P I i → HasLinks P I i (inode_links J i)

-- Whatever mix of old and new words a crash leaves means the same, where no byte of a file changes below its size. (A word
-- that holds bytes on both sides of a file's end may change.)
abbrev pub MixLaw : Type 0
MixLaw = (P : ℕ) (I J M : List ℕ) → IsCoherent P I → IsQuiet P I J → AllSameBytes P I J → IsMix I J M → SameMeaning P I M

-- M means what I means, but each byte of file i may be the one that J has in its place.
pub record MixesBytes (P : ℕ) (I J M : List ℕ) (i : ℕ) : Type 0 where
  pub shape : SameShape P I M
  pub others : (k : ℕ) (x : Node) → Reached P I k → k ≢ i → IsNode P I k x ↔ IsNode P M k x
  pub bytes : (j o : ℕ) → (page_byte P M j o ≡ page_byte P I j o) ⊎ (page_byte P M j o ≡ page_byte P J j o)

-- the interval in which a write stores its range
abbrev pub WriteLaw : Type 0
WriteLaw = (P : ℕ) (I J M : List ℕ) (i : ℕ) → IsCoherent P I → IsQuiet P I J →
    ((k : ℕ) → Reached P I k → HasBytes I k → k ≢ i → SameBytes P I J k) → IsMix I J M → MixesBytes P I J M i
