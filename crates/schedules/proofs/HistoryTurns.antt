-- One turn after another leaves a history that is legal still.
use Rattle.std.proofs.Common.{◌≡◌, inl, inr, ℕ, ◌+◌, ◌≤◌, true, false, List, [], ◌∷◌, ◌++◌, append-nil, append_assoc, sym, ap, ◌∙◌, arith}
use Rattle.std.specs.Prelude.{Option, None, Some}
use Rattle.std.proofs.lemmas.Bool.{cases_Bool}
use Rattle.tree_model.specs.Run.{Line}
use Rattle.volume.specs.Volume.{VolumeView}
use Rattle.session_laws.specs.Calls.{Call, call_at}
use Rattle.sessions.specs.Steps.{begun_after, begun_in}
use Rattle.sessions.specs.Steps.{number_of as own_number}
use Rattle.sessions.specs.Tasks.{task_in}
use Rattle.sessions.specs.declared.entry.Entry.{Entry}
use Rattle.sessions.specs.declared.entry.StepReply.TheVariants.{Ended}
use Rattle.sessions.specs.declared.entry.WeaveReply.{WeaveReply}
use Rattle.sessions.specs.declared.task.Task.{Task}
use Rattle.schedules.specs.Turns.{Border, Turn, GoesOn, StandsStill, IsTurn, AreTurns, border_behind}
use Rattle.schedules.specs.Entries.{line_of, IsWhole, AllStandInOrder}
use Rattle.schedules.specs.Borders.{IsBorder}
use Rattle.schedules.specs.Laws.{TurnLaw}
use Rattle.schedules.proofs.HistoryGoes.{reply_number, step_stands}
use Rattle.schedules.proofs.Numbers.{line_new}
use Rattle.schedules.proofs.SoFar.{SoFar, Goes, TurnStands, so_far_kept, in_order}

-- ---- a turn without an entry, behind which nothing is done

begun_grows : (begun : ℕ) (ran : Option Call) → begun ≤ begun_after begun ran
begun_grows begun None = omega arith
begun_grows begun (Some call) = omega arith

begun_in_grows : (begun : ℕ) (ran : Option Task) → begun ≤ begun_in begun ran
begun_in_grows begun None = omega arith
begun_in_grows begun (Some task) = omega arith

module _ (start : Border) (lines : ℕ → Line) (passed : List Turn) (old : Border) (turn : Turn) (so_far : SoFar start lines old) (halted : turn.behind.weave.volume.stopped ≡ true) where
  quiet_stands : turn.behind.weave.volume.size ≡ old.weave.volume.size → turn.behind.weave.entries ≡ old.weave.entries → turn.behind.history ≡ old.history
      → old.weave.begun ≤ turn.behind.weave.begun → ((number : ℕ) (reply : WeaveReply) → turn.reply ≡ Ended number reply → IsWhole reply → ⊥)
      → TurnStands start lines passed old turn
  quiet_stands size entries history begun broken = record {
    so_far = so_far_kept start lines old turn.behind so_far size entries history begun;
    goes = λ going. absurd (cc (going, halted));
    more = [];
    grown = entries ∙ sym (append-nil old.weave.entries);
    ended = λ number reply is whole. absurd (broken number reply is whole);
  }

  failed_stands : GoesOn old turn → TurnStands start lines passed old turn
  failed_stands goes_on =
      let fails = goes_on.steps.failed halted in
      let begun = fails.begun in
      let grows = begun_grows old.weave.begun (call_at old.calls turn.session) in
      quiet_stands goes_on.steps.frame.size fails.entries (goes_on.history_kept halted) (omega (arith, begun, grows))
      (λ number reply is whole. whole.no_fault (let told = fails.told in cc (is, told)))

  still_stands : StandsStill old turn → TurnStands start lines passed old turn
  still_stands stays =
      let still = stays.still in
      let begun = still.begun in
      let grows = begun_in_grows old.weave.begun (task_in old.weave.tasks turn.session) in
      quiet_stands (ap (λ (volume : VolumeView). volume.size) still.volume) still.entries stays.history (omega (arith, begun, grows))
      (λ number reply is whole. whole.not_stopped (let told = still.told in cc (is, told)))

-- ---- one turn

module _ (schedule : List ℕ) (count : ℕ) (start : Border) (whole passed rest : List Turn) (old : Border) (turn : Turn) (split : whole ≡ passed ++ turn ∷ rest)
    (is : IsTurn schedule count old turn) (border : IsBorder old) (so_far : SoFar start (line_of whole) old)
    (goes : old.weave.volume.stopped ≡ false → Goes (line_of whole) passed old) where
  on_stands : old.weave.volume.stopped ≡ false → turn.behind.weave.volume.stopped ≡ false → TurnStands start (line_of whole) passed old turn
  on_stands going on =
      let goes_on = is.going going in
      let steps = goes_on.steps.going on in
      step_stands (record {
        so_far = so_far;
        goes = goes going;
        all = border.going going;
        line_is = is.line_is;
        fresh = λ none.
            ap (λ (turns : List Turn). line_of turns (old.weave.begun + 1)) split
            ∙ line_new passed turn rest (old.weave.begun + 1) (goes going).below (reply_number turn.reply _ _ steps.left ∙ ap (own_number old.weave.begun) none);
        size = goes_on.steps.frame.size;
        steps = steps;
        calls = goes_on.calls on;
        history = goes_on.history on;
      })

  turn_stands : TurnStands start (line_of whole) passed old turn
  turn_stands = elim (cases_Bool old.weave.volume.stopped) [
    | inl stopped ↦
        let stays = is.still stopped in
        still_stands start (line_of whole) passed old turn so_far (ap (λ (volume : VolumeView). volume.stopped) stays.still.volume ∙ stopped) stays
    | inr going ↦ elim (cases_Bool turn.behind.weave.volume.stopped) [
      | inl halted ↦ failed_stands start (line_of whole) passed old turn so_far halted (is.going going)
      | inr on ↦ on_stands going on
    ]
  ]

-- ---- all of them

pub record TurnsStand (start : Border) (lines : ℕ → Line) (now : Border) (turns : List Turn) : Type 0 where
  pub so_far : SoFar start lines (border_behind now turns)
  pub more : List Entry
  pub grown : (border_behind now turns).weave.entries ≡ now.weave.entries ++ more
  pub in_order : AllStandInOrder start lines (border_behind now turns).weave.entries turns

-- those that passed, and these behind them
pub turns_stand : TurnLaw → (schedule : List ℕ) (start : Border) (whole passed : List Turn) (count : ℕ) (now : Border) (turns : List Turn) → whole ≡ passed ++ turns
    → AreTurns schedule count now turns → IsBorder now → SoFar start (line_of whole) now → (now.weave.volume.stopped ≡ false → Goes (line_of whole) passed now)
    → TurnsStand start (line_of whole) now turns
turns_stand law schedule start whole passed count now [] split are border so_far goes = record {
  so_far = so_far;
  more = [];
  grown = sym (append-nil now.weave.entries);
  in_order = tt;
}
turns_stand law schedule start whole passed count now (turn ∷ turns) split are border so_far goes =
    let (is, later) = are in
    let here = turn_stands schedule count start whole passed turns now turn split is border so_far goes in
    let behind = turns_stand law schedule start whole (passed ++ turn ∷ []) (count + 1) turn.behind turns (split ∙ sym (append_assoc passed (turn ∷ []) turns)) later
    (law schedule count now turn border is).border here.so_far here.goes in
    record {
      so_far = behind.so_far;
      more = here.more ++ behind.more;
      grown = behind.grown ∙ ap (λ (l : List Entry). l ++ behind.more) here.grown ∙ append_assoc now.weave.entries here.more behind.more;
      in_order = (in_order start (line_of whole) passed now turn _ behind.more here behind.grown, behind.in_order);
    }
