-- The text of a workload: how many of its lines were accepted and refused, what `df` tells behind them, and what the tree has.
use Rattle.std.specs.Prelude.{ℕ, List, [], ◌∷◌, ◌++◌, codes, decimal}
use Rattle.tree_model.specs.Step.{Space}
use Rattle.script.specs.Texts.{line_text, answer_text}
use Rattle.script.specs.declared.work.WorkSummary.{WorkSummary}

abbrev pub answers_line : WorkSummary → List ℕ
answers_line s =
    line_text (codes "work" ∷ codes "lines" ∷ decimal s.lines ∷ codes "ok" ∷ decimal s.accepted ∷ codes "refused" ∷ decimal s.refused ∷ [])

abbrev pub totals_line : WorkSummary → List ℕ
totals_line s = line_text (codes "names" ∷ decimal s.names ∷ codes "bytes" ∷ decimal s.bytes ∷ [])

abbrev pub work_text : WorkSummary → List ℕ
work_text s = answers_line s ++ answer_text (Space s.space) ++ totals_line s
