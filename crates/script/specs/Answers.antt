-- What the text of each answer is like.
use Rattle.std.specs.Prelude.{◌≡◌, ◌↔◌, ◌==◌, ℕ, Bool, true, false, not, List, [], ◌∷◌, ◌++◌, codes}
use Rattle.std.specs.List.{starts_with}
use Rattle.tree_model.specs.Step.{Answer, Done, Count, Status, Bytes, Listed, Space, Refused, Unread, Fault, Stopped}
use Rattle.tree_model.specs.declared.reply.Refusal.TheVariants.{NoMemory}
use Rattle.script.specs.Lines.{newline, IsUnbroken}
use Rattle.script.specs.Texts.{answer_text}

-- the line begins with these bytes
abbrev pub begins_with : List ℕ → List ℕ → Bool
begins_with bytes line = starts_with (λ a b. a == b) line bytes

-- the answer isn't a refusal or a fault
abbrev pub is_accepted : Answer → Bool
is_accepted Done = true
is_accepted (Count n) = true
is_accepted (Status s) = true
is_accepted (Bytes bytes) = true
is_accepted (Listed directory names) = true
is_accepted (Space f) = true
is_accepted (Refused refusal) = false
is_accepted (Unread fault) = false
is_accepted Fault = false
is_accepted Stopped = false

-- The text is one line, whose only newline stands at its end. It begins with `ok` where the answer is accepted, else with
-- `error`, and is `error NoMemory` of one answer alone.
pub record IsAnswerLine (answer : Answer) : Type 0 where
  pub line : List ℕ
  pub text : answer_text answer ≡ line ++ newline ∷ []
  pub unbroken : IsUnbroken line
  pub ok : begins_with (codes "ok") line ≡ is_accepted answer
  pub error : begins_with (codes "error") line ≡ not (is_accepted answer)
  pub no_memory : (line ≡ codes "error NoMemory") ↔ (answer ≡ Refused NoMemory)

abbrev pub AnswerLaw : Type 0
AnswerLaw = (answer : Answer) → IsAnswerLine answer
