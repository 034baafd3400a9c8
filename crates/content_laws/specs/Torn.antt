-- What a crash leaves of a range that is being written.
use Rattle.std.specs.Prelude.{◌≡◌, ◌≢◌, ◌↔◌, ℕ, ◌/◌, ◌%◌, ◌<◌, IsTrue, List, Some, None}
use Rattle.layout.specs.Fields.{inode_size, page_byte}
use Rattle.tree_model.specs.Allowed.{is_mix, IsTorn}
use Rattle.tree_model.specs.PathText.{Route}
use Rattle.tree_model.specs.Run.{State}
use Rattle.tree_model.specs.Step.{with_bytes, refusal_of}
use Rattle.tree_model.specs.Tree.{Node, Tree, Room, id_at, bytes_of}
use Rattle.tree_model.specs.declared.command.Command.TheVariants.{Write}
use Rattle.image_reading.specs.Reading.{HasBytes, Names, Reached, IsPageOf, IsNode, Reads, HasRoom}
use Rattle.image_reading.specs.Soundness.{IsCoherent}
use Rattle.image_laws.specs.Frame.{SameMeaning}
use Rattle.image_laws.specs.Quiet.{MixesBytes}
use Rattle.content_laws.specs.Range.{IsInRange, WritesBelow}

-- M reads as I does, but each byte of the range below the size of file i is by itself the old or the new one.
pub record ReadsTorn (P : ℕ) (I M : List ℕ) (i offset : ℕ) (bytes : List ℕ) : Type 0 where
  pub coherent : IsCoherent P M
  pub names : (p : Route) (x : ℕ) → Names P I p x ↔ Names P M p x
  pub others : (x : ℕ) (node : Node) → Reached P I x → x ≢ i → IsNode P I x node ↔ IsNode P M x node
  pub reads : (T : Tree) → Reads P I T → (mixed : List ℕ) × IsTrue (is_mix offset bytes 0 (bytes_of T i) mixed) × Reads P M (with_bytes T i mixed)
  pub room : (room : Room) → HasRoom P I room → HasRoom P M room

-- A mix of the words before and after the interval that writes the range is torn.
abbrev pub TornLaw : Type 0
TornLaw = (P : ℕ) (I J M : List ℕ) (i offset : ℕ) (bytes : List ℕ) → IsCoherent P I → Reached P I i → HasBytes I i
    → WritesBelow P I J i offset bytes → MixesBytes P I J M i → ReadsTorn P I M i offset bytes

-- What means what such a mix means is torn too.
abbrev pub TornMeansLaw : Type 0
TornMeansLaw = (P : ℕ) (I A M : List ℕ) (i offset : ℕ) (bytes : List ℕ) → ReadsTorn P I A i offset bytes → SameMeaning P A M → ReadsTorn P I M i offset bytes

-- It reads as a tree that the write may leave.
abbrev pub TornTreeLaw : Type 0
TornTreeLaw = (P : ℕ) (I M : List ℕ) (old : State) (path : Route) (i offset : ℕ) (bytes : List ℕ) → ReadsTorn P I M i offset bytes → Reads P I old.tree
    → id_at old.tree path ≡ Some i → refusal_of P old.tree old.room (Write path offset bytes) ≡ None
    → (T : Tree) × Reads P M T × IsTorn P old.tree old.room (Write path offset bytes) T

-- In M and N the bytes of the range below the size of file i are the same.
abbrev pub SameRange : ℕ → List ℕ → List ℕ → List ℕ → ℕ → ℕ → List ℕ → Type 0
SameRange P I M N i offset bytes =
    (o j : ℕ) → o < inode_size I i → IsInRange offset bytes o → IsPageOf P I i (o / 4096) j → page_byte P N j (o % 4096) ≡ page_byte P M j (o % 4096)

-- Two such mixes mean the same: the reading hangs on these bytes alone.
abbrev pub SameTornLaw : Type 0
SameTornLaw = (P : ℕ) (I J M N : List ℕ) (i offset : ℕ) (bytes : List ℕ) → WritesBelow P I J i offset bytes → MixesBytes P I J M i → MixesBytes P I J N i
    → SameRange P I M N i offset bytes → SameMeaning P M N
