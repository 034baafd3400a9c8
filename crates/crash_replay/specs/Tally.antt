-- What a tally counts of the bytes that it took.
use Rattle.std.specs.Prelude.{◌≡◌, ◌≢◌, ◌↔◌, ℕ, ◌+◌, ◌-◌, ◌^◌, ◌<◌, min, Bool, if◌then◌else◌, List, [], ◌∷◌, length, take, Some, not, bytes_eq, codes, flat_map, slice_get, count_by}
use Rattle.std.specs.List.{list_any}
use Rattle.tree_model.specs.Step.{Answer, Refused}
use Rattle.tree_model.specs.declared.reply.Refusal.TheVariants.{NoMemory}
use Rattle.script.specs.Answers.{begins_with, is_accepted}
use Rattle.script.specs.Lines.{is_newline, complete_lines_of}
use Rattle.script.specs.Texts.{answer_text}
use Rattle.crash_replay.specs.declared.tally.Tally.{Tally}

-- how many lines it took that begin with `ok`
abbrev pub accepted_count : Tally → ℕ
accepted_count tally = tally.accepted

-- how many that begin with `error`
abbrev pub refused_count : Tally → ℕ
refused_count tally = tally.refused

-- how many that are `error NoMemory`
abbrev pub lacking_count : Tally → ℕ
lacking_count tally = tally.lacking

-- the first bytes of the line that has not ended yet
abbrev pub begun_line : Tally → List ℕ
begun_line tally = tally.begun.items

abbrev pub is_no_memory : List ℕ → Bool
is_no_memory line = bytes_eq line (codes "error NoMemory")

-- the bytes behind the last newline: all where there is none
abbrev pub open_line : List ℕ → List ℕ
open_line [] = []
open_line (b ∷ rest) = if list_any is_newline (b ∷ rest) then open_line rest else b ∷ rest

-- how many of the lines that have ended pass; the count stands still at the end of its range
abbrev pub count_of : (List ℕ → Bool) → List ℕ → ℕ
count_of passes bytes = min (count_by passes (complete_lines_of bytes)) (2 ^ 64 - 1)

-- The counts are those of these bytes, and the line that they end in stands where the tally does: of it so many bytes are kept
-- as tell whether it is `error NoMemory`.
pub record IsTallyOf (tally : Tally) (bytes : List ℕ) : Type 0 where
  pub accepted : accepted_count tally ≡ count_of (begins_with (codes "ok")) bytes
  pub refused : refused_count tally ≡ count_of (begins_with (codes "error")) bytes
  pub lacking : lacking_count tally ≡ count_of is_no_memory bytes
  pub begun : begun_line tally ≡ take 15 (open_line bytes)

-- ---- of answers

-- none of the answers tells of a want of memory
abbrev pub HadMemory : List Answer → Type 0
HadMemory answers = (k : ℕ) → slice_get answers k ≢ Some (Refused NoMemory)

-- how many answers are accepted, and how many are not
abbrev pub accepted_in : List Answer → ℕ
accepted_in answers = count_by is_accepted answers

abbrev pub refused_in : List Answer → ℕ
refused_in answers = count_by (λ answer. not (is_accepted answer)) answers

-- what the counts tell of answers whose texts it took
pub record TellsAnswers (tally : Tally) (answers : List Answer) : Type 0 where
  pub lacking : (lacking_count tally ≡ 0) ↔ HadMemory answers
  pub accepted : length answers < 2 ^ 64 → accepted_count tally ≡ accepted_in answers
  pub refused : length answers < 2 ^ 64 → refused_count tally ≡ refused_in answers
  pub all : length answers < 2 ^ 64 → accepted_count tally + refused_count tally ≡ length answers

abbrev pub TallyLaw : Type 0
TallyLaw = (tally : Tally) (answers : List Answer) → IsTallyOf tally (flat_map answer_text answers) → TellsAnswers tally answers
