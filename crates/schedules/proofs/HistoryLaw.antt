-- From a first border on the entries are a legal history, in an order that goes by when calls ended and began.
use Rattle.std.proofs.Common.{◌≡◌, ℕ, List, [], length, refl, sym, ap, subst, arith}
use Rattle.std.specs.Prelude.{Option, None, Some}
use Rattle.tree_model.specs.Run.{Line}
use Rattle.session_laws.specs.Calls.{Call, call_at}
use Rattle.sessions.specs.History.{IsLegalHistory}
use Rattle.sessions.specs.declared.entry.Entry.{Entry}
use Rattle.schedules.specs.Turns.{Border}
use Rattle.schedules.specs.Entries.{line_of, StandOnce}
use Rattle.schedules.specs.Laws.{IsFirst, TurnLaw, HistoryLaw}
use Rattle.schedules.proofs.EntryLists.{AreAtMost}
use Rattle.schedules.proofs.HistoryTurns.{turns_stand}
use Rattle.schedules.proofs.SoFar.{SoFar, Goes}
use Rattle.schedules.proofs.ToCome.{to_come_none}

once_none : StandOnce []
once_none k m one other first second same = absurd (cc first)

most_none : (begun : ℕ) → AreAtMost [] begun
most_none begun place entry is = absurd (cc is)

module _ (start : Border) (first : IsFirst start) (lines : ℕ → Line) where
  -- no call has begun
  no_call : (s : ℕ) (call : Call) → call_at start.calls s ≡ Some call → ⊥
  no_call s call runs =
      let numbered = (first.border.going first.going).weaving.numbered in
      let least = numbered.least s call runs in
      let most = numbered.most s call runs in
      let none = first.unbegun in
      omega (arith, least, most, none)

  no_calls : (s : ℕ) (ran : Option Call) → call_at start.calls s ≡ ran → call_at start.calls s ≡ None
  no_calls s None is = is
  no_calls s (Some call) is = absurd (no_call s call is)

  first_so_far : SoFar start lines start
  first_so_far = record {
    size = refl;
    legal = subst (λ (l : List Entry). IsLegalHistory start.weave.volume.size lines start.history l start.history) (sym first.none) refl;
    once = subst StandOnce (sym first.none) once_none;
    most = subst (λ (l : List Entry). AreAtMost l start.weave.begun) (sym first.none) (most_none start.weave.begun);
  }

  first_goes : Goes lines [] start
  first_goes = record {
    below = tt;
    counted =
        let entries = ap length first.none in
        let calls = to_come_none start.calls (λ s. no_calls s (call_at start.calls s) refl) in
        let begun = first.unbegun in
        omega (arith, entries, calls, begun);
    line = λ s call runs. absurd (no_call s call runs);
    to_stand = λ s call runs none. absurd (no_call s call runs);
    stands = λ s call runs committed. absurd (no_call s call runs);
  }

pub history_law : TurnLaw → HistoryLaw
history_law law schedule start turns first are =
    let all = turns_stand law schedule start turns [] 0 start turns refl are first.border (first_so_far start first (line_of turns)) (λ going. first_goes start first (line_of turns)) in
    record { legal = all.so_far.legal; once = all.so_far.once; in_order = all.in_order }
