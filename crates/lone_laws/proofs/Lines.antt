-- The lines of one session: the one that ends is the first of those that are left.
use Rattle.std.proofs.Common.{◌≡◌, ℕ, ◌%◌, ◌==◌, Bool, true, false, if◌then◌else◌, List, [], ◌∷◌, ◌++◌, length, map, slice_index, flat_map, Some, refl, sym, ap, subst, ◌∙◌, arith}
use Rattle.std.proofs.lemmas.Bool.{eqb-false}
use Rattle.std.proofs.lemmas.Option.{same_Some}
use Rattle.tree_model.specs.Run.{Line}
use Rattle.tree_model.specs.Step.{Answer}
use Rattle.tree_model.specs.declared.reply.Reply.{Reply}
use Rattle.script.specs.Texts.{answer_text, session_text}
use Rattle.session_lines.specs.Turns.{LeftView, next_line, without_next, turn_of}
use Rattle.sessions.specs.Texts.{answer_in}
use Rattle.sessions.specs.declared.entry.StepReply.{StepReply}
use Rattle.sessions.specs.declared.entry.StepReply.TheVariants.{Running, Ended}
use Rattle.sessions.specs.declared.entry.WeaveReply.TheVariants.{Plain}
use Rattle.schedules.specs.Borders.{IsBorder, AreOfSessions}
use Rattle.schedules.specs.Schedules.{text_of, text_of_reply, texts_of}
use Rattle.schedules.specs.Turns.{Border, Turn, IsTurn, left_behind, border_behind}
use Rattle.schedules.proofs.LinesLeft.{sessions_behind}
use Rattle.schedules.proofs.TurnLaw.{turn_law}
use Rattle.schedules.proofs.Whose.{found_has, behind_of}
use Rattle.lone_laws.specs.Lone.{lines_in, lone_text}

-- ---- the next line

next_first : (lines : List (ℕ × Line)) (line : Line) → AreOfSessions 1 lines → next_line lines 0 ≡ Some line
    → map (λ (one : ℕ × Line). one.1) lines ≡ line ∷ map (λ (one : ℕ × Line). one.1) (without_next lines 0)
next_first [] line of next = absurd (cc next)
next_first (head ∷ lines) line of next =
    elim (head.0 == 0) as (λ (t : Bool). (head.0 == 0) ≡ t → (if t then Some head.1 else next_line lines 0) ≡ Some line
    → map (λ (one : ℕ × Line). one.1) (head ∷ lines) ≡ line ∷ map (λ (one : ℕ × Line). one.1) (if t then lines else head ∷ without_next lines 0)) [
      | true ↦ λ is found. ap (λ (own : Line). own ∷ map (λ (one : ℕ × Line). one.1) lines) (same_Some head.1 line found)
      | false ↦ λ is found. let below = of.0 in let other = eqb-false head.0 0 is in absurd (omega (arith, below, other))
    ] refl next

-- ---- a border of one session

pub record IsLone (border : Border) : Type 0 where
  pub stands : IsBorder border
  pub one : border.left.sessions ≡ 1
  pub of : AreOfSessions border.left.sessions border.left.lines

-- These lines came to their end in the turns; these answers were given to them and written.
pub record TakesLines (AreGiven : List Line → List Answer → Type 0) (now : Border) (turns : List Turn) : Type 0 where
  pub taken : List Line
  pub lines : lines_in now.left ≡ taken ++ lines_in (border_behind now turns).left
  pub answers : List Answer
  pub given : AreGiven taken answers
  pub texts : texts_of now turns ≡ flat_map lone_text answers

module _ (schedule : List ℕ) (count : ℕ) (old : Border) (turn : Turn) (lone : IsLone old) (is : IsTurn schedule count old turn) where
  pub only : turn.session ≡ 0
  only =
      let one = lone.one in
      let below = (found_has old.left (slice_index schedule (count % length schedule)) (turn_of schedule count old.left) refl turn.session (omega (arith, one)) is.whose).below in
      omega (arith, one, below)

  pub line_is : next_line old.left.lines 0 ≡ Some turn.line
  line_is = ap (next_line old.left.lines) (sym only) ∙ is.line_is

  pub lone_behind : IsLone turn.behind
  lone_behind = record {
    stands = (turn_law schedule count old turn lone.stands is).border;
    one = ap (λ (left : LeftView). left.sessions) is.left ∙ sessions_behind old.left turn.session turn.reply ∙ lone.one;
    of = subst (λ (left : LeftView). AreOfSessions left.sessions left.lines) (sym is.left) (behind_of old.left turn.session turn.reply lone.of);
  }

  left_is : (reply : StepReply) → turn.reply ≡ reply → turn.behind.left ≡ left_behind old.left 0 reply
  left_is reply told = is.left ∙ ap (λ (s : ℕ). left_behind old.left s turn.reply) only ∙ ap (left_behind old.left 0) told

  text_is : (reply : StepReply) → turn.reply ≡ reply → text_of old turn ≡ text_of_reply old.history.tree 0 turn.line reply
  text_is reply told =
      ap (λ (s : ℕ). text_of_reply old.history.tree s turn.line turn.reply) only ∙ ap (text_of_reply old.history.tree 0 turn.line) told

  -- its call runs on
  pub runs_on : (number : ℕ) → turn.reply ≡ Running number → (AreGiven : List Line → List Answer → Type 0) (turns : List Turn) → TakesLines AreGiven turn.behind turns
      → TakesLines AreGiven old (turn ∷ turns)
  runs_on number told AreGiven turns rest = record {
    taken = rest.taken;
    lines = ap lines_in (sym (left_is (Running number) told)) ∙ rest.lines;
    answers = rest.answers;
    given = rest.given;
    texts = ap (λ (text : List ℕ). text ++ texts_of turn.behind turns) (text_is (Running number) told) ∙ rest.texts;
  }

  -- its call has ended, and was answered so
  pub has_ended : (number : ℕ) (reply : Reply) (answer : Answer) → turn.reply ≡ Ended number (Plain reply) → answer_in old.history.tree turn.line reply ≡ answer
      → (AreGiven AreLater : List Line → List Answer → Type 0) (turns : List Turn)
      → ((taken : List Line) (answers : List Answer) → AreLater taken answers → AreGiven (turn.line ∷ taken) (answer ∷ answers))
      → TakesLines AreLater turn.behind turns → TakesLines AreGiven old (turn ∷ turns)
  has_ended number reply answer told means AreGiven AreLater turns grows rest = record {
    taken = turn.line ∷ rest.taken;
    lines =
        next_first old.left.lines turn.line (subst (λ (n : ℕ). AreOfSessions n old.left.lines) lone.one lone.of) line_is
        ∙ ap (λ (later : List Line). turn.line ∷ later) (ap lines_in (sym (left_is (Ended number (Plain reply)) told)) ∙ rest.lines);
    answers = answer ∷ rest.answers;
    given = grows rest.taken rest.answers rest.given;
    texts =
        ap (λ (text : List ℕ). text ++ texts_of turn.behind turns)
        (text_is (Ended number (Plain reply)) told ∙ ap (λ (one : Answer). session_text 0 ++ answer_text one) means)
        ∙ ap (λ (later : List ℕ). lone_text answer ++ later) rest.texts;
  }
