-- What many turns come to: fewer may come, and each makes at most one fence and one acknowledgement.
use Rattle.std.proofs.Common.{◌≡◌, inl, inr, ℕ, ◌+◌, ◌≤◌, true, false, List, [], ◌∷◌, length, refl, sym, subst, ◌∙◌, arith}
use Rattle.std.proofs.lemmas.Bool.{cases_Bool}
use Rattle.pm_trait.specs.Device.{HasRisen}
use Rattle.tree_model.specs.declared.reply.Reply.TheVariants as reply
use Rattle.sessions.specs.declared.entry.StepReply.{StepReply}
use Rattle.sessions.specs.declared.entry.StepReply.TheVariants.{Running, Ended}
use Rattle.sessions.specs.declared.entry.WeaveReply.TheVariants.{Plain, Busy}
use Rattle.schedules.specs.Borders.{IsBorder, turns_left, AreOfSessions}
use Rattle.schedules.specs.Crashes.{acks_in, acks_of_turns}
use Rattle.schedules.specs.Laws.{IsTaken}
use Rattle.schedules.specs.Turns.{Border, Turn, AreTurns, border_behind}
use Rattle.session_lines.specs.Turns.{LeftView}
use Rattle.schedules.proofs.TurnLaw.{turn_law}
use Rattle.schedules.proofs.Whose.{behind_of}

acks_few : (answer : StepReply) → acks_in answer ≤ 1
acks_few (Running number) = omega arith
acks_few (Ended number (Plain reply.Done)) = omega arith
acks_few (Ended number (Plain (reply.Count count))) = omega arith
acks_few (Ended number (Plain (reply.Status stat))) = omega arith
acks_few (Ended number (Plain (reply.Bytes count))) = omega arith
acks_few (Ended number (Plain (reply.Names inode count))) = omega arith
acks_few (Ended number (Plain (reply.Space free))) = omega arith
acks_few (Ended number (Plain (reply.Refused refusal))) = omega arith
acks_few (Ended number (Plain (reply.Unread fault))) = omega arith
acks_few (Ended number (Plain reply.Fault)) = omega arith
acks_few (Ended number (Plain reply.Stopped)) = omega arith
acks_few (Ended number (Busy inode holder)) = omega arith

-- From a border on, behind these turns.
pub record SumsUp (old : Border) (turns : List Turn) (last : Border) : Type 0 where
  pub border : IsBorder last
  pub fewer : turns_left last + length turns ≤ turns_left old
  pub fences : last.device.fences ≤ old.device.fences + length turns
  pub acks : last.device.acks ≡ old.device.acks + acks_of_turns turns
  pub acks_few : acks_of_turns turns ≤ length turns
  pub stays : old.weave.volume.stopped ≡ true → last.weave.volume.stopped ≡ true
  pub no_fault : last.weave.volume.stopped ≡ old.weave.volume.stopped → last.device.faults ≡ old.device.faults
  pub cause : old.weave.volume.stopped ≡ false → last.weave.volume.stopped ≡ true → HasRisen old.device.faults last.device.faults

sums_none : (old : Border) → IsBorder old → SumsUp old [] old
sums_none old border = record {
  border = border;
  fewer = omega arith;
  fences = omega arith;
  acks = omega arith;
  acks_few = omega arith;
  stays = λ halted. halted;
  no_fault = λ same. refl;
  cause = λ going halted. absurd (cc (going, halted));
}

module _ (old : Border) (turn : Turn) (turns : List Turn) (last : Border) (taken : IsTaken old turn) (rest : SumsUp turn.behind turns last) where
  -- a fence failed in none of them, or before,
  no_fault : last.weave.volume.stopped ≡ old.weave.volume.stopped → last.device.faults ≡ old.device.faults
  no_fault same = elim (cases_Bool turn.behind.weave.volume.stopped) [
    | inl halted ↦
        let there = rest.stays halted in
        rest.no_fault (there ∙ sym halted) ∙ taken.no_fault (halted ∙ sym there ∙ same)
    | inr going ↦ elim (cases_Bool old.weave.volume.stopped) [
      | inl halted ↦ absurd (let here = taken.stays halted in cc (here, going))
      | inr was ↦ rest.no_fault (same ∙ was ∙ sym going) ∙ taken.no_fault (going ∙ sym was)
    ]
  ]

  -- or in the first, or in a later one
  cause : old.weave.volume.stopped ≡ false → last.weave.volume.stopped ≡ true → HasRisen old.device.faults last.device.faults
  cause was is = elim (cases_Bool turn.behind.weave.volume.stopped) [
    | inl halted ↦ subst (HasRisen old.device.faults) (sym (rest.no_fault (is ∙ sym halted))) (taken.cause was halted)
    | inr going ↦ subst (λ (faults : ℕ). HasRisen faults last.device.faults) (taken.no_fault (going ∙ sym was)) (rest.cause going is)
  ]

  sums_more : SumsUp old (turn ∷ turns) last
  sums_more =
      let fewer = rest.fewer in
      let fewer_here = taken.fewer in
      let fences = rest.fences in
      let fences_here = taken.fences in
      let acks = rest.acks in
      let acks_here = taken.acks in
      let few = rest.acks_few in
      let few_here = acks_few turn.reply in
      record {
        border = rest.border;
        fewer = omega (arith, fewer, fewer_here);
        fences = omega (arith, fences, fences_here);
        acks = omega (arith, acks, acks_here);
        acks_few = omega (arith, few, few_here);
        stays = λ halted. rest.stays (taken.stays halted);
        no_fault = no_fault;
        cause = cause;
      }

pub sums_up : (schedule : List ℕ) (count : ℕ) (old : Border) (turns : List Turn) → IsBorder old → AreTurns schedule count old turns → SumsUp old turns (border_behind old turns)
sums_up schedule count old [] border are = sums_none old border
sums_up schedule count old (turn ∷ turns) border are =
    let taken = turn_law schedule count old turn border are.0 in
    sums_more old turn turns (border_behind turn.behind turns) taken (sums_up schedule (count + 1) turn.behind turns taken.border are.1)

-- each line is of a session still
pub of_sessions : (schedule : List ℕ) (count : ℕ) (old : Border) (turns : List Turn) → AreTurns schedule count old turns → AreOfSessions old.left.sessions old.left.lines
    → AreOfSessions (border_behind old turns).left.sessions (border_behind old turns).left.lines
of_sessions schedule count old [] are of = of
of_sessions schedule count old (turn ∷ turns) are of =
    of_sessions schedule (count + 1) turn.behind turns are.1
    (subst (λ (left : LeftView). AreOfSessions left.sessions left.lines) (sym are.0.left) (behind_of old.left turn.session turn.reply of))
