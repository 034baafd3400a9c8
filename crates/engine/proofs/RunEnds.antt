-- How a run of a script ends.
use Rattle.std.proofs.Common.{◌≡◌, ℕ, Bool, true, false, ◌<◌, List, [], ◌∷◌, ◌++◌, length, take, refl, subst, arith}
use Rattle.std.specs.Prelude.{Option}
use Rattle.pm_trait.specs.DeviceView.{DeviceView}
use Rattle.io_edge.specs.Bytes.{Takes, TakesPrefix}
use Rattle.io_edge.proofs.BytesLaws.{takes_then}
use Rattle.tree_model.specs.Step.{Answer}
use Rattle.tree_model.specs.Run.{State}
use Rattle.script.specs.Texts.{answer_text}
use Rattle.script.specs.declared.run_end.RunEnd.{RunEnd}
use Rattle.engine.specs.Script.{texts_of, EndsWith, ExecutesTold, WritesAnswers, WritesPrefix, RunsScript}
use Rattle.engine.specs.Run.{last_state, IsAt}
use Rattle.engine.specs.Session.{Mounted}
use Rattle.engine.specs.Turns.{Input, RanSoFar}
use Rattle.engine.proofs.Acknowledged.{stands_at}

-- the volume is stopped exactly where fewer states are left than answers
is_stopped : (stopped : Bool) (left given : ℕ) → (stopped ≡ false → left ≡ given) → left < given → stopped ≡ true
is_stopped true left given going fewer = refl
is_stopped false left given going fewer = absurd (let same = going refl in omega (arith, same, fewer))

is_going : (stopped : Bool) (left given : ℕ) → (stopped ≡ true → left < given) → left ≡ given → stopped ≡ false
is_going false left given halted same = refl
is_going true left given halted same = absurd (let fewer = halted refl in omega (arith, same, fewer))

pub run_ends : {P : ℕ} {start : State} {first : DeviceView} {script : Option (List ℕ)} {taken : List ℕ → Type 0} {now : Mounted} {input : Input} {took : List ℕ → Type 0}
    (so_far : RanSoFar P start first script taken now input took) (end : RunEnd) (left : Option (List ℕ)) (written : List ℕ → Type 0)
    → EndsWith end so_far.answers so_far.states → ExecutesTold end script left so_far.lines → WritesAnswers end taken so_far.answers written
    → RunsScript P first now.device end script left taken written
run_ends {start = start} {now = now} so_far end left written ends executes writes = record {
  start = start;
  reads = so_far.reads;
  lines = so_far.lines;
  answers = so_far.answers;
  states = so_far.states;
  run = so_far.run;
  ends = ends;
  cause = λ fewer. so_far.faults.cause (halted fewer);
  no_fault = λ same. so_far.faults.no_fault (going same);
  executes = executes;
  writes = writes;
  acks = so_far.acks;
  acked = so_far.counted;
  ack_count = so_far.ack_count;
  settled = λ same. (so_far.going (going same)).stands.settled;
  last = λ same.
      subst (λ (p : ℕ). IsAt p (last_state start so_far.states) now.device.words) so_far.size
      (stands_at now.volume now.device (so_far.going (going same)).stands);
  fences = λ same. so_far.fences (going same);
  events = λ same. so_far.events (going same);
  mark = λ same. so_far.mark (going same);
  beside = so_far.beside;
  cut = λ fewer. so_far.cut (halted fewer);
  any_moment = so_far.any_moment;
  no_memory = so_far.no_memory;
  refused = so_far.refused;
  quiet = so_far.quiet;
  halts = λ fewer. so_far.halts (halted fewer);
}
  where
    going : length so_far.states ≡ length so_far.answers → now.volume.stopped ≡ false
    going same = is_going now.volume.stopped (length so_far.states) (length so_far.answers) so_far.halted same

    halted : length so_far.states < length so_far.answers → now.volume.stopped ≡ true
    halted fewer = is_stopped now.volume.stopped (length so_far.states) (length so_far.answers) (λ goes. (so_far.going goes).each) fewer

-- the last text was cut
pub prefix_written : (taken : List ℕ → Type 0) (answers : List Answer) (answer : Answer) (now cut : List ℕ → Type 0) → Takes taken (texts_of answers) now → TakesPrefix now (answer_text answer) cut
    → WritesPrefix taken (answers ++ answer ∷ []) cut
prefix_written taken answers answer now cut is front = record {
  whole = answers;
  last = answer;
  split = refl;
  count = front.count;
  short = front.within;
  takes = takes_then taken now cut (texts_of answers) (take front.count (answer_text answer)) is front.takes;
}
