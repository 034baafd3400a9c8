-- A run goes on by one line.
use Rattle.std.proofs.Common.{◌≡◌, ◌⊎◌, inl, inr, ℕ, zero, suc, ◌+◌, ◌≤◌, Bool, true, false, List, [], ◌∷◌, ◌++◌, length, refl, sym, ap, subst, ◌∙◌, arith, length-append, append_assoc}
use Rattle.std.proofs.lemmas.List.{append-nil}
use Rattle.std.specs.Prelude.{Option, Some, None, slice_get}
use Rattle.pm_trait.specs.Device.{moment_of}
use Rattle.pm_trait.specs.DeviceView.{DeviceView}
use Rattle.pm_trait.proofs.ContinuesLaws.{continues_here, acks_from-here}
use Rattle.pm_trait.proofs.DeviceLaws.{leaves_weaker, leaves_here}
use Rattle.pm_trait.proofs.AckLaws.{acks_here, acks_weaker, acks_none}
use Rattle.io_edge.specs.Bytes.{Takes}
use Rattle.io_edge.proofs.BytesLaws.{takes_none, takes_as, takes_then}
use Rattle.tree_model.specs.Step.{Answer, Fault, Stopped}
use Rattle.tree_model.specs.Run.{Line, State}
use Rattle.tree_model.specs.Fences.{fences_of, fences_of_run}
use Rattle.layout.specs.Superblock.{has_mark}
use Rattle.volume.specs.Costs.{events_of, fences_of_plan, events_with_mark, fences_with_mark, mark_after}
use Rattle.volume.specs.LineEvents.{events_of_run}
use Rattle.tree_model.specs.declared.reply.Reply.{Reply}
use Rattle.script.specs.Texts.{answer_text}
use Rattle.volume.specs.Crashes.{MayReadAs}
use Rattle.engine.specs.Run.{state_after, last_state, command_of, IsAt, IsBetween, IsStateAfter}
use Rattle.engine.specs.Script.{texts_of, IsCutShort}
use Rattle.engine.specs.Exec.{HasAnswered, HasFailed, LeavesMark}
use Rattle.engine.specs.Session.{Mounted}
use Rattle.volume.specs.Stands.{StandsFor}
use Rattle.engine.specs.Turns.{Input, IsGoing, HasTaken, CountsFaults, MovesOn, RanSoFar}
use Rattle.engine.proofs.Acknowledged.{may_more, may_be_there, stands_at}
use Rattle.engine.proofs.Faults.{apart, counts_on}
use Rattle.engine.proofs.Runs.{events_more, events_still, fences_more, fences_still}
use Rattle.engine.proofs.After.{leaves_after, acks_after, acked_then}
use Rattle.engine.proofs.Fences.{may_store_more, may_store_still, may_store_now, may_store_failed}
use Rattle.engine.proofs.Lists.{get_front, get_last}
use Rattle.engine.proofs.Marks.{beside_here, beside_then, events_go_on, fences_go_on, fences_without, has_mark_after, keeps_here, keeps_then}
use Rattle.engine.proofs.Memory.{fault_is_none, stopped_is_none, one_answer, other_answer}
use Rattle.engine.proofs.Quiet.{acts_weaker, acts_here, acts_after, acts_unacknowledged}
use Rattle.engine.proofs.Runs.{answers_as_lines, run_step, run_fails, run_stopped, state_after_last, last_state-append, state_stays}

-- ---- what may be read between lines

command_more : (P : ℕ) (state : State) (lines : List Line) (line : Line) (k : ℕ) (image : List ℕ) → MayReadAs P state (command_of (slice_get lines k)) image
    → MayReadAs P state (command_of (slice_get (lines ++ line ∷ []) k)) image
command_more P state [] line zero image may = may_more P state line image may
command_more P state [] line (suc k) image may = may
command_more P state (l ∷ lines) line zero image may = may
command_more P state (l ∷ lines) line (suc k) image may = command_more P state lines line k image may

pub between_line : (P : ℕ) (start : State) (states : List State) (lines : List Line) (line : Line) (k : ℕ) (image : List ℕ) → IsBetween P start states lines k image → IsBetween P start states (lines ++ line ∷ []) k image
between_line P start states lines line k image (state, after, may) = (state, after, command_more P state lines line k image may)

pub between_state : (P : ℕ) (start : State) (states : List State) (new : State) (lines : List Line) (k : ℕ) (image : List ℕ) → IsBetween P start states lines k image → IsBetween P start (states ++ new ∷ []) lines k image
between_state P start states new lines k image (state, after, may) = (state, state_stays start states new k state after, may)

get_past : (lines : List Line) (k : ℕ) → length lines ≤ k → slice_get lines k ≡ None
get_past [] k past = refl
get_past (l ∷ lines) zero past = absurd (omega arith)
get_past (l ∷ lines) (suc k) past = get_past lines k (omega arith)

-- while the line runs
between_now : (P : ℕ) (start : State) (states : List State) (lines : List Line) (line : Line) (n : ℕ) (image : List ℕ) → length lines ≡ n → length states ≡ n
    → MayReadAs P (last_state start states) (command_of (Some line)) image → IsBetween P start states (lines ++ line ∷ []) n image
between_now P start states lines line n image many as_many may = (
  last_state start states,
  ap (λ (k : ℕ). state_after start states k) (sym as_many) ∙ state_after_last start states,
  subst (λ (l : Option Line). MayReadAs P (last_state start states) (command_of l) image)
      (sym (ap (λ (k : ℕ). slice_get (lines ++ line ∷ []) k) (sym many) ∙ get_last lines line)) may,
)

-- after all lines
between_end : (P : ℕ) (start : State) (states : List State) (lines : List Line) (n : ℕ) (image : List ℕ) → length lines ≡ n → length states ≡ n
    → MayReadAs P (last_state start states) None image → IsBetween P start states lines n image
between_end P start states lines n image many as_many may = (
  last_state start states,
  ap (λ (k : ℕ). state_after start states k) (sym as_many) ∙ state_after_last start states,
  subst (λ (l : Option Line). MayReadAs P (last_state start states) (command_of l) image) (sym (get_past lines n (omega (arith, many)))) may,
)

-- ---- what is acknowledged

pub state_after_more : (P : ℕ) (start : State) (states : List State) (new : State) (k : ℕ) (words : List ℕ) → IsStateAfter P start states k words → IsStateAfter P start (states ++ new ∷ []) k words
state_after_more P start states new k words is = record {
  state = is.state;
  after = state_stays start states new k is.state is.after;
  there = is.there;
}

state_after_all : (P : ℕ) (start : State) (states : List State) (n : ℕ) (words : List ℕ) → length states ≡ n → IsAt P (last_state start states) words → IsStateAfter P start states n words
state_after_all P start states n words many is = record {
  state = last_state start states;
  after = ap (λ (k : ℕ). state_after start states k) (sym many) ∙ state_after_last start states;
  there = is;
}

pub one_more : {A : Type 0} (xs : List A) (x : A) → length (xs ++ x ∷ []) ≡ length xs + 1
one_more xs x = length-append xs (x ∷ [])

pub ack_more : (states : List State) (new : State) (first now after : ℕ) → now ≡ first + length states → after ≡ now + 1 → after ≡ first + length (states ++ new ∷ [])
ack_more states new first now after before more = let all = one_more states new in omega (arith, before, more, all)

pub texts_more : (taken : List ℕ → Type 0) (answers : List Answer) (answer : Answer) (now later : List ℕ → Type 0) → Takes taken (texts_of answers) now → Takes now (answer_text answer) later
    → Takes taken (texts_of (answers ++ answer ∷ [])) later
texts_more taken answers answer now later is more =
    takes_as taken (texts_of answers ++ answer_text answer) (texts_of (answers ++ answer ∷ [])) later (sym (texts_end answers))
    (takes_then taken now later (texts_of answers) (answer_text answer) is more)
  where
    texts_end : (answers : List Answer) → texts_of (answers ++ answer ∷ []) ≡ texts_of answers ++ answer_text answer
    texts_end [] = append-nil (answer_text answer)
    texts_end (a ∷ answers) = ap (λ (bytes : List ℕ). answer_text a ++ bytes) (texts_end answers) ∙ sym (append_assoc (answer_text a) (texts_of answers) (answer_text answer))

-- ---- a line that failed

-- as `cut` of a run says, by the fences and events of the lines before it
abbrev pub Cut : (P : ℕ) (start : State) (lines : List Line) (states : List State) (first now : DeviceView) (fences events : ℕ) → Type 0
Cut P start lines states first now fences events =
    IsCutShort P start lines states (mark_after (has_mark first.words) fences) (fences_with_mark (has_mark first.words) fences) (events_with_mark (has_mark first.words) fences events) first now

pub cut_still : (P : ℕ) (start : State) (lines : List Line) (states : List State) (first now : DeviceView) {fences fences_before events events_before : ℕ} → fences ≡ fences_before → events ≡ events_before
    → Cut P start lines states first now fences_before events_before → Cut P start lines states first now fences events
cut_still P start lines states first now {fences} {fences_before} {events} {events_before} same_fences same_events cut =
    subst (λ (n : ℕ). Cut P start lines states first now n events) (sym same_fences)
    (subst (λ (n : ℕ). Cut P start lines states first now fences_before n) (sym same_events) cut)

-- ---- one line, answered

module _ {P : ℕ} {start : State} {first : DeviceView} {script : Option (List ℕ)} {taken : List ℕ → Type 0} {old : Mounted} {input : Input} {before : List ℕ → Type 0}
    (so_far : RanSoFar P start first script taken old input before) (line : Line) {new : Mounted} (moves : MovesOn old new) where
  pub faults_on : CountsFaults new.volume.stopped first.faults new.device.faults
  faults_on = counts_on so_far.faults so_far.order moves.faults moves.cause moves.stays moves.no_fault

  pub faults_order : first.faults ≤ new.device.faults
  faults_order = let one = so_far.order in let two = moves.faults in omega (arith, one, two)

  pub refused_order : first.refused ≤ new.device.refused
  refused_order = let one = so_far.refused in let two = moves.refused in omega (arith, one, two)

  module _ (was : old.volume.stopped ≡ false) where
    pub going : IsGoing start so_far.answers so_far.states old
    going = so_far.going was

    pub many : length so_far.lines ≡ length so_far.states
    many = answers_as_lines P start so_far.lines so_far.answers so_far.states so_far.run going.each

    module _ (is : new.volume.stopped ≡ false) {reply : Reply} (done : HasAnswered P (last_state start so_far.states) line new.session reply old.device new.device) where
      pub new_is : last_state start (so_far.states ++ done.new ∷ []) ≡ done.new
      new_is = last_state-append start so_far.states done.new

      pub while_running : (k : ℕ) (image : List ℕ) → ((k ≡ 0) × MayReadAs P (last_state start so_far.states) (command_of (Some line)) image) ⊎ ((k ≡ 1) × MayReadAs P done.new None image)
          → IsBetween P start (so_far.states ++ done.new ∷ []) (so_far.lines ++ line ∷ []) (length so_far.states + k) image
      while_running k image (inl (none, may)) =
          between_state P start so_far.states done.new (so_far.lines ++ line ∷ []) (length so_far.states + k) image
          (between_now P start so_far.states so_far.lines line (length so_far.states + k) image (omega (arith, many, none)) (omega (arith, none)) may)
      while_running k image (inr (one, may)) =
          between_end P start (so_far.states ++ done.new ∷ []) (so_far.lines ++ line ∷ []) (length so_far.states + k) image
          (one_more so_far.lines line ∙ omega (arith, many, one)) (one_more so_far.states done.new ∙ omega (arith, one))
          (subst (λ (s : State). MayReadAs P s None image) (sym new_is) may)

      pub at_ack : (k : ℕ) (image : List ℕ) → (k ≡ 1) × IsAt P done.new image → IsStateAfter P start (so_far.states ++ done.new ∷ []) (length so_far.states + k) image
      at_ack k image (one, is_at) =
          state_after_all P start (so_far.states ++ done.new ∷ []) (length so_far.states + k) image
          (one_more so_far.states done.new ∙ omega (arith, one)) (subst (λ (s : State). IsAt P s image) (sym new_is) is_at)

      pub more_fences : fences_of_run start (so_far.lines ++ line ∷ []) (so_far.answers ++ done.answer ∷ []) (so_far.states ++ done.new ∷ [])
          ≡ fences_of_run start so_far.lines so_far.answers so_far.states + fences_of (last_state start so_far.states) line done.answer done.new
      more_fences = fences_more start so_far.lines so_far.answers so_far.states line done.answer done.new many going.each

      abbrev pub ran_answered : {input_after : Input} {after : List ℕ → Type 0} → HasTaken (so_far.lines ++ line ∷ []) script input_after
          → Takes before (answer_text done.answer) after → new.device.acks ≡ old.device.acks + 1
          → RanSoFar P start first script taken new input_after after
      ran_answered {after = after} has_taken written acks_are = record {
        reads = so_far.reads;
        size = moves.size ∙ so_far.size;
        lines = so_far.lines ++ line ∷ [];
        answers = so_far.answers ++ done.answer ∷ [];
        states = so_far.states ++ done.new ∷ [];
        run = run_step P start so_far.lines so_far.answers so_far.states line done.answer done.new so_far.run going.each done.step;
        going = λ goes. record {
          each = one_more so_far.states done.new ∙ ap (λ (k : ℕ). k + 1) going.each ∙ sym (one_more so_far.answers done.answer);
          stands = subst (λ (s : State). StandsFor new.volume new.device s) (sym new_is) done.stands;
        };
        halted = λ halts. absurd (apart halts is);
        faults = faults_on;
        order = faults_order;
        has_taken = has_taken;
        texts = texts_more taken so_far.answers done.answer before after so_far.texts written;
        acks = acks_after (length so_far.states) so_far.counted
            (acks_weaker (λ k image is_at. state_after_more P start so_far.states done.new k image is_at) so_far.acks)
            (acks_weaker at_ack done.acks);
        any_moment = leaves_after (length so_far.states) so_far.counted
            (leaves_weaker (λ k image may. between_state P start so_far.states done.new (so_far.lines ++ line ∷ []) k image (between_line P start so_far.states so_far.lines line k image may)) so_far.any_moment)
            (leaves_weaker while_running done.any_moment);
        quiet = acts_after (length so_far.states) so_far.counted so_far.any_moment.continues done.any_moment.continues
            (acts_weaker (λ k may. may_store_more start so_far.lines (line ∷ []) so_far.answers (done.answer ∷ []) so_far.states (done.new ∷ []) k may) so_far.quiet)
            (acts_weaker (λ k may. may_store_now start so_far.lines so_far.answers so_far.states line done.answer done.new k many going.each may) done.quiet);
        no_memory = one_answer start so_far.lines so_far.answers so_far.states line done.answer done.new first.refused old.device.refused new.device.refused many going.each so_far.refused moves.refused done.no_memory so_far.no_memory;
        refused = refused_order;
        halts = λ halts. absurd (apart halts is);
        counted = λ told is_told. acked_then (length so_far.states) 1 so_far.any_moment.continues done.any_moment.continues so_far.counted done.one_ack told is_told ∙ sym (one_more so_far.states done.new);
        fences = λ goes. fences_go_on (has_mark first.words) (has_mark old.device.words) _ _ _ first.fences old.device.fences new.device.fences (has_mark_after (so_far.mark was)) (so_far.fences was) done.fences more_fences;
        events = λ goes.
            events_go_on (has_mark first.words) (has_mark old.device.words) _ _ _ _ _ _ (moment_of first.trail) (moment_of old.device.trail) (moment_of new.device.trail) (has_mark_after (so_far.mark was)) (so_far.events was) done.events
            more_fences (events_more start so_far.lines so_far.answers so_far.states line done.answer done.new many going.each);
        mark = λ goes. subst (λ (fences : ℕ). LeavesMark fences first new.device) (sym more_fences) (keeps_then (so_far.mark was) done.mark);
        cut = λ halts. absurd (apart halts is);
        beside = beside_then first.words old.device.words new.device.words so_far.beside done.mark.beside;
        ack_count = ack_more so_far.states done.new first.acks old.device.acks _ so_far.ack_count acks_are;
      }

    module _ (is : new.volume.stopped ≡ true) (failed : HasFailed P (last_state start so_far.states) line old.device new.device) where
      pub while_failing : (k : ℕ) (image : List ℕ) → (k ≡ 0) × MayReadAs P (last_state start so_far.states) (command_of (Some line)) image → IsBetween P start so_far.states (so_far.lines ++ line ∷ []) (length so_far.states + k) image
      while_failing k image (none, may) =
          between_now P start so_far.states so_far.lines line (length so_far.states + k) image (omega (arith, many, none)) (omega (arith, none)) may

      pub cut_here : Cut P start (so_far.lines ++ line ∷ []) so_far.states first new.device
          (fences_of_run start (so_far.lines ++ line ∷ []) (so_far.answers ++ Fault ∷ []) so_far.states)
          (events_of_run start (so_far.lines ++ line ∷ []) (so_far.answers ++ Fault ∷ []) so_far.states)
      cut_here = cut_still P start (so_far.lines ++ line ∷ []) so_far.states first new.device (fences_still P start so_far.lines so_far.answers so_far.states line Fault so_far.run) (events_still P start so_far.lines so_far.answers so_far.states line Fault so_far.run) (record {
        line = line;
        next = ap (λ (k : ℕ). slice_get (so_far.lines ++ line ∷ []) k) (sym many) ∙ get_last so_far.lines line;
        its_fences = fences_of_plan failed.action;
        its_events = events_of failed.action;
        might = failed.might;
        least =
            let before = so_far.fences was in
            let least = failed.least in
            omega (arith, before, least);
        fewer =
            let before = so_far.fences was in
            let few = failed.fewer in
            let mark_is = ap (λ (b : Bool). fences_with_mark b (fences_of_plan failed.action)) (has_mark_after (so_far.mark was)) in
            omega (arith, before, few, mark_is);
        grown =
            let before = so_far.events was in
            let few = failed.events in
            let mark_is = ap (λ (b : Bool). events_with_mark b (fences_of_plan failed.action) (events_of failed.action)) (has_mark_after (so_far.mark was)) in
            omega (arith, before, few, mark_is);
      })

      abbrev pub ran_failed : {input_after : Input} {after : List ℕ → Type 0} → HasTaken (so_far.lines ++ line ∷ []) script input_after
          → Takes before (answer_text Fault) after → new.device.acks ≡ old.device.acks
          → RanSoFar P start first script taken new input_after after
      ran_failed {after = after} has_taken written acks_are = record {
        reads = so_far.reads;
        size = moves.size ∙ so_far.size;
        lines = so_far.lines ++ line ∷ [];
        answers = so_far.answers ++ Fault ∷ [];
        states = so_far.states;
        run = run_fails P start so_far.lines so_far.answers so_far.states line Fault so_far.run going.each failed.fails;
        going = λ goes. absurd (apart is goes);
        halted = λ halts. omega (arith, going.each, one_more so_far.answers Fault);
        faults = faults_on;
        order = faults_order;
        has_taken = has_taken;
        texts = texts_more taken so_far.answers Fault before after so_far.texts written;
        acks = acks_after (length so_far.states) so_far.counted so_far.acks (acks_none _ failed.any_moment.continues failed.no_ack);
        any_moment = leaves_after (length so_far.states) so_far.counted
            (leaves_weaker (λ k image may. between_line P start so_far.states so_far.lines line k image may) so_far.any_moment)
            (leaves_weaker while_failing failed.any_moment);
        quiet = acts_after (length so_far.states) so_far.counted so_far.any_moment.continues failed.any_moment.continues
            (acts_weaker (λ k may. may_store_still start so_far.lines (line ∷ []) so_far.answers (Fault ∷ []) so_far.states k may) so_far.quiet)
            (acts_unacknowledged failed.any_moment.continues failed.no_ack (may_store_failed start so_far.lines so_far.answers so_far.states line 0 going.each refl));
        no_memory = other_answer start so_far.lines (line ∷ []) so_far.answers so_far.states Fault first.refused old.device.refused new.device.refused fault_is_none moves.refused so_far.no_memory;
        refused = refused_order;
        halts = λ halts. failed.last;
        counted = λ told is_told. acked_then (length so_far.states) 0 so_far.any_moment.continues failed.any_moment.continues so_far.counted (λ t i. failed.no_ack) told is_told ∙ omega arith;
        fences = λ goes. absurd (apart is goes);
        events = λ goes. absurd (apart is goes);
        mark = λ goes. absurd (apart is goes);
        cut = λ halts. cut_here;
        beside = beside_then first.words old.device.words new.device.words so_far.beside failed.mark.beside;
        ack_count = acks_are ∙ so_far.ack_count;
      }

-- ---- one line after a failed fence, which does nothing

abbrev pub ran_stopped : {P : ℕ} {start : State} {first : DeviceView} {script : Option (List ℕ)} {taken : List ℕ → Type 0} {old : Mounted} {input : Input} {before : List ℕ → Type 0}
    (so_far : RanSoFar P start first script taken old input before) (line : Line) → old.volume.stopped ≡ true → {input_after : Input} {after : List ℕ → Type 0}
    → HasTaken (so_far.lines ++ line ∷ []) script input_after → Takes before (answer_text Stopped) after
    → RanSoFar P start first script taken old input_after after
ran_stopped {P = P} {start = start} {first = first} {taken = taken} {old = old} {before = before} so_far line is {after = after} has_taken written = record {
  reads = so_far.reads;
  size = so_far.size;
  lines = so_far.lines ++ line ∷ [];
  answers = so_far.answers ++ Stopped ∷ [];
  states = so_far.states;
  run = run_stopped P start so_far.lines so_far.answers so_far.states line so_far.run (so_far.halted is);
  going = λ goes. absurd (apart is goes);
  halted = λ halts. omega (arith, so_far.halted is, one_more so_far.answers Stopped);
  faults = so_far.faults;
  order = so_far.order;
  has_taken = has_taken;
  texts = texts_more taken so_far.answers Stopped before after so_far.texts written;
  acks = so_far.acks;
  any_moment = leaves_weaker (λ k image may. between_line P start so_far.states so_far.lines line k image may) so_far.any_moment;
  quiet = acts_weaker (λ k may. may_store_still start so_far.lines (line ∷ []) so_far.answers (Stopped ∷ []) so_far.states k may) so_far.quiet;
  no_memory = other_answer start so_far.lines (line ∷ []) so_far.answers so_far.states Stopped first.refused old.device.refused old.device.refused stopped_is_none (omega arith) so_far.no_memory;
  refused = so_far.refused;
  halts = so_far.halts;
  counted = so_far.counted;
  fences = λ goes. absurd (apart is goes);
  events = λ goes. absurd (apart is goes);
  mark = λ goes. absurd (apart is goes);
  cut = λ halts.
      let cut = so_far.cut halts in
      cut_still P start (so_far.lines ++ line ∷ []) so_far.states first old.device (fences_still P start so_far.lines so_far.answers so_far.states line Stopped so_far.run) (events_still P start so_far.lines so_far.answers so_far.states line Stopped so_far.run) (record {
        line = cut.line;
        next = get_front so_far.lines (line ∷ []) (length so_far.states) cut.line cut.next;
        its_fences = cut.its_fences;
        its_events = cut.its_events;
        might = cut.might;
        least = cut.least;
        fewer = cut.fewer;
        grown = cut.grown;
      });
  beside = so_far.beside;
  ack_count = so_far.ack_count;
}

-- ---- before the first line

pub ran_none : {start : State} (now : Mounted) (script : Option (List ℕ)) (taken : List ℕ → Type 0) {input : Input} → now.volume.stopped ≡ false → StandsFor now.volume now.device start
    → HasTaken [] script input → RanSoFar now.volume.size start now.device script taken now input taken
ran_none {start = start} now script taken goes stands has_taken = record {
  reads = stands.reads;
  size = refl;
  lines = [];
  answers = [];
  states = [];
  run = tt;
  going = λ is. record { each = refl; stands = stands };
  halted = λ is. absurd (apart is goes);
  faults = record { cause = λ is. absurd (apart is goes); no_fault = λ is. refl };
  order = omega arith;
  has_taken = has_taken;
  texts = takes_none taken;
  acks = acks_here now.device.trail _;
  any_moment = leaves_here _ stands.settled (start, refl, may_be_there now.volume.size start now.device.words (stands_at now.volume now.device stands));
  quiet = acts_here _ refl;
  no_memory = λ k is. absurd (cc is);
  refused = omega arith;
  halts = λ is. absurd (apart is goes);
  counted = λ told is. acks_from-here (continues_here now.device.trail);
  fences = λ is. let none = fences_without (has_mark now.device.words) 0 (λ marked. refl) in omega (arith, none);
  events = λ is. omega arith;
  mark = λ is. keeps_here now.device now.device 0 refl refl;
  cut = λ is. absurd (apart is goes);
  beside = beside_here now.device.words;
  ack_count = omega arith;
}
