-- The text of a table: rows of words and a number each.
use Rattle.std.specs.Prelude.{ℕ, ◌+◌, List, [], ◌∷◌, ◌++◌, length, decimal, flat_map}
use Rattle.std.specs.Borrow.{Bor}
use Rattle.std.specs.List.{sum_by}
use Rattle.script.specs.Lines.{newline}

-- the words and the number of each row, and a newline behind them
abbrev pub table_text : List (Bor (List ℕ) × ℕ) → List ℕ
table_text table = flat_map (λ row. row.0.now ++ decimal row.1) table ++ newline ∷ []

-- its length at most, each number with 20 digits
abbrev pub table_room : List (Bor (List ℕ) × ℕ) → ℕ
table_room table = sum_by (λ row. length row.0.now + 20) table + 1
