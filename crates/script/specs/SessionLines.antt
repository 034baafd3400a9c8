-- The lines of a script of many sessions. Each begins with the number of its session.
use Rattle.std.specs.Prelude.{ℕ, nat_lt, if◌then◌else◌, List, [], ◌∷◌, length, map, Option, Some, None, Err}
use Rattle.tree_model.specs.Run.{Line}
use Rattle.tree_model.specs.declared.reply.LineFault.TheVariants.{BadLine}
use Rattle.script.specs.Lines.{line_limit, lines_of, words_of, number_of, of_words}

-- a line without a number of a session asks the first one for what is no command
abbrev pub no_session : ℕ × Line
no_session = (0, Err BadLine)

-- behind the number, which is below that of the sessions, stands what is asked of the session
abbrev pub of_number : ℕ → Option ℕ → List (List ℕ) → ℕ × Line
of_number sessions None words = no_session
of_number sessions (Some session) words = if nat_lt session sessions then (session, of_words words) else no_session

abbrev pub of_session_words : ℕ → List (List ℕ) → ℕ × Line
of_session_words sessions [] = no_session
of_session_words sessions (word ∷ words) = of_number sessions (number_of word) words

-- whose line it is, and what it asks for
abbrev pub session_call : ℕ → List ℕ → ℕ × Line
session_call sessions line = if nat_lt line_limit (length line) then no_session else of_session_words sessions (words_of line)

abbrev pub session_calls : ℕ → List ℕ → List (ℕ × Line)
session_calls sessions script = map (session_call sessions) (lines_of script)
