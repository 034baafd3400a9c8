-- What stands of the history at a border, for all turns that came so far.
use Rattle.std.proofs.Common.{◌≡◌, inl, inr, ℕ, ◌+◌, ◌<◌, ◌≤◌, true, false, List, [], ◌∷◌, ◌++◌, length, sym, ◌∙◌, subst, arith}
use Rattle.std.specs.Prelude.{Ok, Some, slice_get}
use Rattle.std.proofs.lemmas.Bool.{cases_lt}
use Rattle.tree_model.specs.Run.{State, Line}
use Rattle.tree_model.specs.declared.reply.Reply.TheVariants.{Done}
use Rattle.running_laws.specs.Steps.{has_committed}
use Rattle.session_laws.specs.Calls.{Call, call_at}
use Rattle.sessions.specs.History.{IsLegalHistory}
use Rattle.sessions.specs.Interleave.{to_come}
use Rattle.sessions.specs.declared.entry.Entry.{Entry}
use Rattle.sessions.specs.declared.entry.StepReply.TheVariants.{Ended}
use Rattle.sessions.specs.declared.entry.WeaveReply.{WeaveReply}
use Rattle.sessions.specs.declared.entry.WeaveReply.TheVariants.{Plain}
use Rattle.schedules.specs.Turns.{Border, Turn}
use Rattle.schedules.specs.Entries.{StandOnce, IsWhole, StandsAmong, StandsInOrder}
use Rattle.schedules.proofs.EntryLists.{HasNone, AreAtMost, stands_front, get_within}
use Rattle.schedules.proofs.Numbers.{AreBelow}

-- The entries are a legal history of calls that have begun, each of which stands there once.
pub record SoFar (start : Border) (lines : ℕ → Line) (now : Border) : Type 0 where
  pub size : now.weave.volume.size ≡ start.weave.volume.size
  pub legal : IsLegalHistory start.weave.volume.size lines start.history now.weave.entries now.history
  pub once : StandOnce now.weave.entries
  pub most : AreAtMost now.weave.entries now.weave.begun

-- While no fence has failed each call that began is an entry or is to come; one that runs has a line, and stands there once it has committed.
pub record Goes (lines : ℕ → Line) (passed : List Turn) (now : Border) : Type 0 where
  pub below : AreBelow (now.weave.begun + 1) passed
  pub counted : length now.weave.entries + to_come now.calls ≡ now.weave.begun
  pub line : (s : ℕ) (call : Call) → call_at now.calls s ≡ Some call → lines call.number ≡ Ok call.command
  pub to_stand : (s : ℕ) (call : Call) → call_at now.calls s ≡ Some call → has_committed call.running ≡ false → HasNone now.weave.entries call.number
  pub stands : (s : ℕ) (call : Call) → call_at now.calls s ≡ Some call → has_committed call.running ≡ true
      → StandsAmong now.weave.entries (length now.weave.entries) s call.number (Plain Done)

-- What a turn leaves of it.
pub record TurnStands (start : Border) (lines : ℕ → Line) (passed : List Turn) (old : Border) (turn : Turn) : Type 0 where
  pub so_far : SoFar start lines turn.behind
  pub goes : turn.behind.weave.volume.stopped ≡ false → Goes lines (passed ++ turn ∷ []) turn.behind
  pub more : List Entry
  pub grown : turn.behind.weave.entries ≡ old.weave.entries ++ more
  pub ended : (number : ℕ) (reply : WeaveReply) → turn.reply ≡ Ended number reply → IsWhole reply
      → StandsAmong turn.behind.weave.entries (length turn.behind.weave.entries) turn.session number reply

-- ---- no entry came

pub so_far_kept : (start : Border) (lines : ℕ → Line) (old new : Border) → SoFar start lines old → new.weave.volume.size ≡ old.weave.volume.size
    → new.weave.entries ≡ old.weave.entries → new.history ≡ old.history → old.weave.begun ≤ new.weave.begun → SoFar start lines new
so_far_kept start lines old new so_far size entries history begun = record {
  size = size ∙ so_far.size;
  legal =
      subst (λ (l : List Entry). IsLegalHistory start.weave.volume.size lines start.history l new.history) (sym entries)
      (subst (λ (s : State). IsLegalHistory start.weave.volume.size lines start.history old.weave.entries s) (sym history) so_far.legal);
  once = subst StandOnce (sym entries) so_far.once;
  most = subst (λ (l : List Entry). AreAtMost l new.weave.begun) (sym entries)
      (λ place entry is. let most = so_far.most place entry is in omega (arith, most, begun));
}

-- ---- whatever comes behind

pub in_order : (start : Border) (lines : ℕ → Line) (passed : List Turn) (old : Border) (turn : Turn) (entries more : List Entry) → TurnStands start lines passed old turn
    → entries ≡ turn.behind.weave.entries ++ more → StandsInOrder start lines entries turn
in_order start lines passed old turn entries more stands is = record {
  legal = stands.so_far.legal;
  so_far = (more, is);
  ended = λ number reply ends whole.
      subst (λ (l : List Entry). StandsAmong l (length turn.behind.weave.entries) turn.session number reply) (sym is)
      (stands_front turn.behind.weave.entries more (length turn.behind.weave.entries) turn.session number reply (stands.ended number reply ends whole));
  later = later;
}
  where
    later : (place : ℕ) (entry : Entry) → slice_get entries place ≡ Some entry → turn.behind.weave.begun < entry.number → length turn.behind.weave.entries ≤ place
    later place entry there above = elim (cases_lt place (length turn.behind.weave.entries)) [
      | inr behind ↦ behind
      | inl before ↦
          let known = stands.so_far.most place entry (get_within turn.behind.weave.entries more place entry before (subst (λ (l : List Entry). slice_get l place ≡ Some entry) is there)) in
          absurd (omega (arith, known, above))
    ]
