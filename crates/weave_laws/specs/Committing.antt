-- The step of a write or of a truncation that commits it leaves a state that the accepted command leaves: where the words before the step read as
-- the state `old`. P is the number of pages, I the words before the step, J those after it. (No node is new: id n is not read.)
use Rattle.std.specs.Prelude.{◌≡◌, ℕ, ◌+◌, ◌<◌, List, [], length, Some}
use Rattle.tree_model.specs.PathText.{Route}
use Rattle.tree_model.specs.Run.{State}
use Rattle.tree_model.specs.Tree.{id_at}
use Rattle.tree_model.specs.declared.command.Command.TheVariants.{Write, Truncate}
use Rattle.image_reading.specs.Reading.{ReadsAs}
use Rattle.image_laws.specs.CreateStep.{IsStepped}
use Rattle.content_laws.specs.Growth.{sized}
use Rattle.content_laws.specs.Inside.{WritesInside}
use Rattle.weave_laws.specs.Bytes.{MayWrite, MayRaise, HoldsRange, MayLower}

abbrev pub InsideWriteLaw : Type 0
InsideWriteLaw = (P : ℕ) (I J : List ℕ) (old : State) (path : Route) (i offset n : ℕ) (bytes : List ℕ) → MayWrite P I i offset bytes → WritesInside P I J i offset bytes
    → 0 < length bytes → id_at old.tree path ≡ Some i → ReadsAs P I old → IsStepped P J old (Write path offset bytes) n

abbrev pub RaisedWriteLaw : Type 0
RaisedWriteLaw = (P : ℕ) (I : List ℕ) (old : State) (path : Route) (i offset n : ℕ) (bytes : List ℕ) → MayRaise P I i (offset + length bytes) → HoldsRange P I i (offset + length bytes) offset bytes
    → 0 < length bytes → id_at old.tree path ≡ Some i → ReadsAs P I old → IsStepped P (sized I i (offset + length bytes)) old (Write path offset bytes) n

abbrev pub RaisedTruncateLaw : Type 0
RaisedTruncateLaw = (P : ℕ) (I : List ℕ) (old : State) (path : Route) (i z offset n : ℕ) → MayRaise P I i z → HoldsRange P I i z offset []
    → id_at old.tree path ≡ Some i → ReadsAs P I old → IsStepped P (sized I i z) old (Truncate path z) n

abbrev pub LoweredTruncateLaw : Type 0
LoweredTruncateLaw = (P : ℕ) (I : List ℕ) (old : State) (path : Route) (i z n : ℕ) → MayLower P I i z
    → id_at old.tree path ≡ Some i → ReadsAs P I old → IsStepped P (sized I i z) old (Truncate path z) n
