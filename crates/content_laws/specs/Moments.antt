-- The moments of a write: on what the reading hangs, and that it stays new once it is.
use Rattle.std.specs.Prelude.{◌≡◌, ◌⊎◌, ℕ, List, length}
use Rattle.tree_model.specs.Step.{with_bytes, overwritten}
use Rattle.tree_model.specs.Tree.{Tree, bytes_of}
use Rattle.image_reading.specs.Reading.{Reads}
use Rattle.image_laws.specs.Frame.{SameMeaning}
use Rattle.image_laws.specs.Quiet.{IsMix}
use Rattle.content_laws.specs.Growth.{CanGrow, FillsFile, MeansFilled}
use Rattle.content_laws.specs.Inside.{CanWrite, WritesInside}
use Rattle.content_laws.specs.Torn.{SameRange}

-- ---- inside the size

-- Where the words before already read as the tree after, so does all that a crash leaves.
abbrev pub InsideOnceLaw : Type 0
InsideOnceLaw = (P : ℕ) (W J M : List ℕ) (i offset : ℕ) (bytes : List ℕ) (T : Tree) → CanWrite P W i offset bytes → WritesInside P W J i offset bytes → IsMix W J M
    → Reads P W T → Reads P W (with_bytes T i (overwritten (bytes_of T i) offset bytes)) → SameMeaning P W M

-- ---- past the size

-- what a crash leaves before the size is stored
abbrev pub IsEarly : ℕ → List ℕ → List ℕ → ℕ → List ℕ → Type 0
IsEarly P W A i M = IsMix W A M ⊎ MeansFilled P W A M i

-- The reading hangs on the bytes of the range below the size.
abbrev pub GrowthHangsLaw : Type 0
GrowthHangsLaw = (P : ℕ) (W A M N : List ℕ) (i z offset : ℕ) (bytes pages : List ℕ) (T : Tree) → CanGrow P W i z offset bytes pages → FillsFile P W A i offset bytes pages
    → IsEarly P W A i M → IsEarly P W A i N → SameRange P W M N i offset bytes → Reads P M T → Reads P N T

-- Nothing of it reads as a tree in which the file has the new size.
abbrev pub GrowthOnceLaw : Type 0
GrowthOnceLaw = (P : ℕ) (W A M : List ℕ) (i z offset : ℕ) (bytes pages new : List ℕ) (T : Tree) → CanGrow P W i z offset bytes pages → FillsFile P W A i offset bytes pages
    → IsEarly P W A i M → length new ≡ z → ¬ Reads P M (with_bytes T i new)
