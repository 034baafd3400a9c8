-- What a write and a truncation to more leave is a state that the step allows.
use Rattle.std.specs.Prelude.{◌≡◌, ℕ, ◌+◌, ◌<◌, List, [], length, Some}
use Rattle.tree_model.specs.PathText.{Route}
use Rattle.tree_model.specs.Run.{State}
use Rattle.tree_model.specs.Tree.{id_at}
use Rattle.tree_model.specs.declared.command.Command.TheVariants.{Write, Truncate}
use Rattle.image_reading.specs.Reading.{ReadsAs}
use Rattle.image_laws.specs.CreateStep.{IsStepped}
use Rattle.content_laws.specs.Inside.{CanWrite, WritesInside}
use Rattle.content_laws.specs.Growth.{CanGrow, FillsFile, TakesPages, sized}

-- (No node is new: id n is not read.)
abbrev pub InsideStepLaw : Type 0
InsideStepLaw = (P : ℕ) (W J : List ℕ) (old : State) (path : Route) (i offset n : ℕ) (bytes : List ℕ) → CanWrite P W i offset bytes → WritesInside P W J i offset bytes
    → 0 < length bytes → id_at old.tree path ≡ Some i → ReadsAs P W old → IsStepped P J old (Write path offset bytes) n

abbrev pub WritePastStepLaw : Type 0
WritePastStepLaw = (P : ℕ) (W A B : List ℕ) (old : State) (path : Route) (i offset n : ℕ) (bytes pages : List ℕ) → CanGrow P W i (offset + length bytes) offset bytes pages
    → FillsFile P W A i offset bytes pages → TakesPages P A B i pages → 0 < length bytes → id_at old.tree path ≡ Some i → ReadsAs P W old
    → IsStepped P (sized B i (offset + length bytes)) old (Write path offset bytes) n

abbrev pub LengthenStepLaw : Type 0
LengthenStepLaw = (P : ℕ) (W A B : List ℕ) (old : State) (path : Route) (i z offset n : ℕ) (pages : List ℕ) → CanGrow P W i z offset [] pages
    → FillsFile P W A i offset [] pages → TakesPages P A B i pages → id_at old.tree path ≡ Some i → ReadsAs P W old
    → IsStepped P (sized B i z) old (Truncate path z) n
