-- One turn more behind those that were taken so far.
use Rattle.std.proofs.Common.{◌≡◌, ℕ, ◌+◌, ◌*◌, ◌≤◌, List, [], ◌∷◌, ◌++◌, length, take, refl, sym, ap, subst, ◌∙◌, arith}
use Rattle.std.specs.Prelude.{Ok, Err}
use Rattle.pm_trait.specs.DeviceView.{DeviceView}
use Rattle.io_edge.specs.Bytes.{Takes, TakesPrefix}
use Rattle.io_edge.proofs.BytesLaws.{takes_none, takes_as, takes_then}
use Rattle.session_lines.specs.Turns.{LeftView}
use Rattle.sessions.specs.Interleave.{InterleaveView}
use Rattle.sessions.specs.declared.interleave.TheConstants.{MOST_CALLS}
use Rattle.schedules.specs.Borders.{IsBorder, IsReached, HasTurned, border_of, most_turns, AreOfSessions}
use Rattle.schedules.specs.Laws.{IsFirst}
use Rattle.schedules.specs.Schedules.{text_of, texts_of}
use Rattle.schedules.specs.Taken.{HasTaken, TookAll}
use Rattle.schedules.specs.Turns.{Border, Turn, IsTurn, border_behind}
use Rattle.schedules.proofs.FirstBorder.{few_turns, no_line}
use Rattle.schedules.proofs.Sums.{SumsUp, sums_up, of_sessions}
use Rattle.schedules.proofs.TurnLists.{turns_more, behind_more, texts_more, one_more}

-- what the code has is this border
as_border : (border : Border) (weave : InterleaveView) (device : DeviceView) (left : LeftView) → IsReached border weave device left
    → border ≡ border_of weave device border.calls border.history left
as_border border weave device left reached =
    ap (λ (w : InterleaveView). border_of w border.device border.calls border.history border.left) reached.weave_is
    ∙ ap (λ (d : DeviceView). border_of weave d border.calls border.history border.left) reached.device_is
    ∙ ap (λ (l : LeftView). border_of weave device border.calls border.history l) reached.left_is

-- So many turns were taken, and their texts written.
pub record TookSoFar (schedule : List ℕ) (start : Border) (count : ℕ) (new : InterleaveView) (after : DeviceView) (left : LeftView) (took now : List ℕ → Type 0) : Type 0 where
  pub turns : List Turn
  pub taken : HasTaken schedule start turns new after left
  pub count_is : length turns ≡ count
  pub texts : Takes took (texts_of start turns) now

pub took_none : (schedule : List ℕ) (start : Border) (took : List ℕ → Type 0) → TookSoFar schedule start 0 start.weave start.device start.left took took
took_none schedule start took = record {
  turns = [];
  taken = record { are = tt; reached = record { weave_is = refl; device_is = refl; left_is = refl } };
  count_is = refl;
  texts = takes_none took;
}

module _ {schedule : List ℕ} {start : Border} {count : ℕ} {weave : InterleaveView} {device : DeviceView} {left : LeftView} {took now : List ℕ → Type 0} (first : IsFirst start)
    (so_far : TookSoFar schedule start count weave device left took now) where
  abbrev turns : List Turn
  turns = so_far.turns

  abbrev last : Border
  last = border_behind start turns

  abbrev here : Border
  here = border_of weave device last.calls last.history left

  pub sums : SumsUp start turns last
  sums = sums_up schedule 0 start turns first.border so_far.taken.are

  same : last ≡ here
  same = as_border last weave device left so_far.taken.reached

  pub here_stands : IsBorder here
  here_stands = subst IsBorder same sums.border

  pub few_fences : device.fences ≤ start.device.fences + count
  few_fences =
      let most = sums.fences in
      let is = ap (λ (d : DeviceView). d.fences) so_far.taken.reached.device_is in
      let long = so_far.count_is in
      omega (arith, most, is, long)

  pub few_acks : device.acks ≤ start.device.acks + count
  few_acks =
      let all = sums.acks in
      let few = sums.acks_few in
      let is = ap (λ (d : DeviceView). d.acks) so_far.taken.reached.device_is in
      let long = so_far.count_is in
      omega (arith, all, few, is, long)

  pub here_of : AreOfSessions start.left.sessions start.left.lines → AreOfSessions left.sessions left.lines
  here_of of = subst (λ (l : LeftView). AreOfSessions l.sessions l.lines) so_far.taken.reached.left_is (of_sessions schedule 0 start turns so_far.taken.are of)

  -- as many as may come
  pub none_left : most_turns * MOST_CALLS ≤ count → left.lines ≡ []
  none_left all =
      let fewer = sums.fewer in
      let few = few_turns start first in
      let long = so_far.count_is in
      ap (λ (l : LeftView). l.lines) (sym so_far.taken.reached.left_is) ∙ no_line last sums.border (omega (arith, all, fewer, few, long))

  pub took_all : {T E : Type 0} (done : T) → left.lines ≡ [] → TookAll {T = T} {E = E} schedule start weave device left took now (Ok done)
  took_all done none = record { turns = turns; taken = so_far.taken; none = none; texts = so_far.texts; cut = tt }

  module _ {new : InterleaveView} {after : DeviceView} {left_now : LeftView} {turn : Turn} (turned : HasTurned schedule count here new after left_now turn) where
    abbrev more : List Turn
    more = turns ++ turn ∷ []

    is_next : IsTurn schedule (0 + length turns) last turn
    is_next =
        let long : count ≡ 0 + length turns = let is = so_far.count_is in omega (arith, is) in
        subst (λ (n : ℕ). IsTurn schedule n last turn) long (subst (λ (border : Border). IsTurn schedule count border turn) (sym same) turned.is_turn)

    behind : border_behind start more ≡ turn.behind
    behind = behind_more start turns turn

    taken_more : HasTaken schedule start more new after left_now
    taken_more = record {
      are = turns_more schedule 0 start turns turn so_far.taken.are is_next;
      reached = subst (λ (border : Border). IsReached border new after left_now) (sym behind) turned.reached;
    }

    text_same : text_of here turn ≡ text_of last turn
    text_same = ap (λ (border : Border). text_of border turn) (sym same)

    pub took_more : (next : List ℕ → Type 0) → Takes now (text_of here turn) next → TookSoFar schedule start (count + 1) new after left_now took next
    took_more next text = record {
      turns = more;
      taken = taken_more;
      count_is = one_more turns turn ∙ ap (λ (n : ℕ). n + 1) so_far.count_is;
      texts =
          takes_as took (texts_of start turns ++ text_of last turn) (texts_of start more) next (sym (texts_more start turns turn))
          (takes_then took now next (texts_of start turns) (text_of last turn) so_far.texts (takes_as now (text_of here turn) (text_of last turn) next text_same text));
    }

    pub took_cut : {T E : Type 0} (fault : E) (next : List ℕ → Type 0) → TakesPrefix now (text_of here turn) next → TookAll {T = T} {E = E} schedule start new after left_now took next (Err fault)
    took_cut fault next prefix =
        let cut = subst (λ (text : List ℕ). TakesPrefix now text next) text_same prefix in
        record {
          turns = more;
          taken = taken_more;
          none = tt;
          texts = tt;
          cut = record {
            front = turns;
            last = turn;
            split = refl;
            count = cut.count;
            short = cut.within;
            takes = takes_then took now next (texts_of start turns) (take cut.count (text_of last turn)) so_far.texts cut.takes;
          };
        }
