-- A call made its next step: its entry comes where the step commits, and all wait again.
use Rattle.std.proofs.Common.{◌≡◌, ℕ, ◌+◌, ◌-◌, ◌<◌, ◌≤◌, Bool, true, false, not, ◌&&◌, nat_le, if◌then◌else◌, List, [], ◌∷◌, ◌++◌, length, length-append, length-set, set}
use Rattle.std.proofs.Common.{Option, None, Some, Ok}
use Rattle.std.proofs.Common.{refl, sym, ap, subst, ◌∙◌, arith, true≢false}
use Rattle.std.proofs.lemmas.Bool.{le-leb}
use Rattle.pm_trait.specs.Device.{LeavesOnly, AcksSettled}
use Rattle.pm_trait.specs.DeviceView.{DeviceView, StoresAndFences}
use Rattle.tree_model.specs.Run.{State}
use Rattle.tree_model.specs.declared.reply.Reply.{Reply}
use Rattle.tree_model.specs.declared.reply.Reply.TheVariants.{Done, Bytes}
use Rattle.volume.specs.declared.next.Next.{Next}
use Rattle.volume.specs.declared.next.Next.TheVariants.{More, Ended as HasEnded}
use Rattle.running_calls.specs.declared.running.Running.{Running}
use Rattle.running_calls.specs.Stages.{IsNext, step_of}
use Rattle.running_laws.specs.Numbers.{CostsStep, fences_left}
use Rattle.running_laws.specs.Steps.{commits, has_committed, given_inode}
use Rattle.running_laws.specs.Waits.{bytes_of_command}
use Rattle.running_laws.proofs.CostStep.{step_costs_law}
use Rattle.session_laws.specs.Calls.{Call, Calls, call_at, without, left_of_all, ranges_of_all, fences_of_call}
use Rattle.session_laws.specs.Going.{next_call}
use Rattle.session_laws.specs.Histories.{IsHistory, IsCrashOf}
use Rattle.session_laws.proofs.Lists.{call_other}
use Rattle.session_laws.proofs.MoveCalls.{within_calls, at_set}
use Rattle.sessions.specs.Advanced.{MadeStep, entry_of, with_entry, enters_now, fences_of_task, entries_behind}
use Rattle.sessions.specs.History.{supply_of}
use Rattle.sessions.specs.Interleave.{InterleaveView, AllWait, AreNumbered, IsWeaving, task_of, tasks_of, to_come, with_task}
use Rattle.sessions.specs.Laws.{OthersHold}
use Rattle.sessions.specs.Steps.{HasGiven, HasEvents, Enters, IsLeftAs, IsToldAs, IsDoneAtEnd, MayBeLeft, IsBeforeOrBehind, HasAcked, IsBusyRightly, BytesBehind, HasFenced, TakesAll, HasReason, StepsOn, IsCallAt, GetsOn, fences_of_left, number_of, begun_after, is_entered_before, is_entered_behind, acks_of, IsQuietWhere}
use Rattle.sessions.specs.Tasks.{held_by_all}
use Rattle.sessions.specs.declared.entry.Entry.{Entry}
use Rattle.sessions.specs.declared.entry.StepReply.{StepReply}
use Rattle.sessions.specs.declared.entry.StepReply.TheVariants.{Running as RunsOn, Ended}
use Rattle.sessions.specs.declared.entry.WeaveReply.{WeaveReply}
use Rattle.sessions.specs.declared.entry.WeaveReply.TheVariants.{Plain}
use Rattle.sessions.specs.declared.task.Task.{Task}
use Rattle.sessions.proofs.GoesCounts.{enters_at_commit, enters_now_at_commit, committed_stays, entry_more, entries_within}
use Rattle.sessions.proofs.GoesKnown.{BehindNext, WentTo, StandsAt, supply_for}
use Rattle.sessions.proofs.GivenNext.{next_given}
use Rattle.sessions.proofs.GoesLegal.{is_legal, given_so}
use Rattle.sessions.proofs.GoesLists.{to_enter, to_come_put, to_come_at, numbered_put}
use Rattle.sessions.proofs.FencesOthers.{others_fences}
use Rattle.sessions.proofs.GoesReplies.{AnswersAs, TellsNext}
use Rattle.sessions.proofs.ReplyReasons.{is_made, ran_changes}
use Rattle.sessions.proofs.StepCrash.{IsTreeBehind}

-- ---- what is given and entered

-- what is told of a call behind its commit
abbrev pub told_next : Next Running → Reply
told_next (More running) = Done
told_next (HasEnded reply) = reply

abbrev pub reply_next : Call → Next Running → StepReply
reply_next call (More running) = RunsOn call.number
reply_next call (HasEnded reply) = Ended call.number (Plain reply)

-- The step left this of what callers see.
pub record IsLeftSo (old new : InterleaveView) (calls : Calls) (s : ℕ) (call : Call) (next : Next Running) : Type 0 where
  pub tasks : new.tasks ≡ tasks_of (set calls s (next_call call next))
  pub entries : new.entries ≡ entries_behind old s (bytes_of_command call.command) (task_of call) (told_next next)
  pub begun : new.begun ≡ old.begun
  pub bytes : new.bytes ≡ old.bytes

-- The device behind the step, where an end is acknowledged.
pub record IsThereSo (fenced after : DeviceView) (reply : StepReply) : Type 0 where
  pub fences : after.fences ≡ fenced.fences
  pub faults : after.faults ≡ fenced.faults
  pub acks : after.acks ≡ fenced.acks + acks_of reply

-- what the words are is known whichever entry comes
pub record HasCome (old new : InterleaveView) (calls : Calls) (history words : State) (s : ℕ) (call : Call) (next : Next Running) : Type 0 where
  pub later : State
  pub history_is : IsHistory (ranges_of_all (set calls s (next_call call next))) later words
  pub enters : Enters (commits call.running) (with_task old s (task_of call)) new calls s (Ok call.command) history later (reply_next call next)
  pub tree : IsTreeBehind (commits call.running) history call.command (given_inode call.running) later
  pub many : length new.entries ≡ length old.entries + entry_more (commits call.running)

-- Whichever history the calls wait in behind it, a crash leaves that or the one before it.
abbrev pub LeftAtAny : InterleaveView → InterleaveView → DeviceView → DeviceView → Calls → State → Call → Calls → Type 0
LeftAtAny old new before after calls history call now =
    (later : State) → IsTreeBehind (commits call.running) history call.command (given_inode call.running) later → IsWeaving new after now later
    → LeavesOnly before.trail after.trail (λ acks image. MayBeLeft old.volume.size calls history (Ok call.command) (IsBeforeOrBehind history later acks) image)

-- and at an acknowledgement the words read as it
abbrev pub SettledAtAny : InterleaveView → InterleaveView → DeviceView → DeviceView → Calls → Type 0
SettledAtAny old new before after now =
    (later : State) → IsWeaving new after now later → AcksSettled before.trail after.trail (λ acks words. IsCrashOf old.volume.size words (ranges_of_all now) later)

module _ (old new : InterleaveView) (before : DeviceView) (calls : Calls) (history : State) (s : ℕ) (call : Call) (next : Next Running)
    (runs : call_at calls s ≡ Some call) (weaving : IsWeaving (with_task old s (task_of call)) before calls history) (others : old.tasks ≡ tasks_of (without calls s))
    (hold : OthersHold (with_task old s (task_of call)) calls s) (at : StandsAt old.volume before calls history s call) where
  abbrev bytes : List ℕ
  bytes = bytes_of_command call.command

  abbrev now : Calls
  now = set calls s (next_call call next)

  abbrev weave : InterleaveView
  weave = with_task old s (task_of call)

  -- ---- what the others hold

  held_inodes : (held_by_all old.tasks).inodes ≡ length (left_of_all old.volume (without calls s)).inodes
  held_inodes = ap (λ (tasks : List (Option Task)). (held_by_all tasks).inodes) others ∙ hold.inodes

  held_pages : (held_by_all old.tasks).pages ≡ length (left_of_all old.volume (without calls s)).pages
  held_pages = ap (λ (tasks : List (Option Task)). (held_by_all tasks).pages) others ∙ hold.pages

  held_so : (answer : WeaveReply) → supply_of old.volume.size (entry_of old.tasks s call.number answer) ≡ supply_for old.volume calls s
  held_so answer =
      ap (λ (n : ℕ). record { pages = old.volume.size; taken_inodes = n; taken_pages = (held_by_all old.tasks).pages }) held_inodes
      ∙ ap (λ (n : ℕ). record { pages = old.volume.size; taken_inodes = length (left_of_all old.volume (without calls s)).inodes; taken_pages = n }) held_pages

  number_is : number_of old.begun (call_at calls s) ≡ call.number
  number_is = ap (number_of old.begun) runs

  within : s < length calls
  within = within_calls calls s call runs

  -- ---- the step

  module _ (fenced : DeviceView) (made : MadeStep old.volume new.volume before fenced bytes call.running next) (left : IsLeftSo old new calls s call next) where
    abbrev pub went : WentTo old.volume new.volume fenced calls history s call next
    went = at.goes new.volume fenced next made

    costs : CostsStep old.volume new.volume bytes call.running next
    costs =
        step_costs_law old.volume (record old.volume { kept = old.volume.kept - (step_of old.volume bytes call.running).events }) new.volume before fenced bytes call.running next
        at.stands at.first.some refl refl made.enters made.next_is made.stands

    abbrev ahead : ℕ
    ahead = fences_left new.volume bytes next

    -- an ended call has none
    behind_is : (onward : Next Running) → BehindNext new.volume call onward → is_entered_behind (next_call call onward) ≡ nat_le (fences_left new.volume bytes onward) call.behind
    behind_is (More running) behind = behind.committed
    behind_is (HasEnded reply) behind = sym (le-leb 0 call.behind (omega arith))

    enters_is : (not (has_committed call.running) && is_entered_behind (next_call call next)) ≡ commits call.running
    enters_is =
        ap (λ (b : Bool). not b && is_entered_behind (next_call call next)) at.behind.committed
        ∙ ap (λ (b : Bool). not (nat_le (fences_of_call old.volume call) call.behind) && b) (behind_is next went.behind)
        ∙ enters_at_commit (fences_of_call old.volume call) ahead call.behind costs.fences ∙ sym at.behind.commit

    -- and so says the code
    code_is : enters_now (fences_of_task old.volume bytes (task_of call)) call.behind ≡ commits call.running
    code_is = enters_now_at_commit (fences_of_call old.volume call) ahead call.behind costs.fences ∙ sym at.behind.commit

    stays : has_committed call.running ≡ true → is_entered_behind (next_call call next) ≡ true
    stays is =
        behind_is next went.behind ∙ committed_stays (fences_of_call old.volume call) ahead call.behind costs.fences (sym at.behind.committed ∙ is)

    abbrev answer : WeaveReply
    answer = Plain (told_next next)

    entries_are : (b : Bool) → commits call.running ≡ b → new.entries ≡ (if b then with_entry old s call.number answer else old.entries)
    entries_are b is = left.entries ∙ ap (λ (t : Bool). if t then with_entry old s call.number answer else old.entries) (code_is ∙ is)

    -- ---- its entry

    answers_so : (onward : Next Running) → TellsNext call.command call.running onward → commits call.running ≡ true → AnswersAs call.command (told_next onward)
    answers_so (More running) tells commit = tells commit
    answers_so (HasEnded reply) tells commit = tells.answers

    told_so : (onward : Next Running) → IsToldAs (reply_next call onward) (Plain (told_next onward))
    told_so (More running) = refl
    told_so (HasEnded reply) = refl

    -- one that ends without an entry has committed before
    has_been : is_entered_behind (next_call call next) ≡ true → commits call.running ≡ false → has_committed call.running ≡ true
    has_been ended none = by_test (has_committed call.running) refl
      where
        by_test : (b : Bool) → has_committed call.running ≡ b → b ≡ true
        by_test true is = refl
        by_test false is =
            let here = ap (λ (t : Bool). not t && is_entered_behind (next_call call next)) (sym is) in
            let commit = ap (λ (t : Bool). not false && t) (sym ended) ∙ here ∙ enters_is in
            absurd (true≢false (commit ∙ none))

    done_so : (onward : Next Running) → next ≡ onward → TellsNext call.command call.running onward → commits call.running ≡ false → IsDoneAtEnd (reply_next call onward)
    done_so (More running) is tells none = tt
    done_so (HasEnded reply) is tells none = ap Plain (tells.done (has_been (ap (λ (n : Next Running). is_entered_behind (next_call call n)) is) none))

    tells : TellsNext call.command call.running next
    tells = at.tells next made.next_is

    come_quiet : commits call.running ≡ false → HasCome old new calls history went.words s call next
    come_quiet none =
        let same : new.entries ≡ old.entries = entries_are false none in
        let no_more : length old.entries ≡ length old.entries + 0 = omega arith in
        record {
          later = history;
          history_is = went.goes.quiet none;
          enters = subst (λ (b : Bool). Enters b weave new calls s (Ok call.command) history history (reply_next call next)) (sym none)
              (record { told = done_so next refl tells none; same = same; history_same = refl });
          tree = λ commit. absurd (true≢false (sym commit ∙ none));
          many = ap (λ (entries : List Entry). length entries) same ∙ no_more ∙ ap (λ (b : Bool). length old.entries + entry_more b) (sym none);
        }

    same_ran : (ran : Call) → call_at calls s ≡ Some ran → call ≡ ran
    same_ran ran there = let both : ◌≡◌ {A = Option Call} (Some call) (Some ran) = sym runs ∙ there in cc

    come_entered : commits call.running ≡ true → HasCome old new calls history went.words s call next
    come_entered commit =
        let (entered, enters, is) = went.goes.enters commit in
        let entry = entry_of old.tasks s call.number answer in
        let added : new.entries ≡ old.entries ++ entry ∷ [] = entries_are true commit in
        let answers = answers_so next tells commit in
        record {
          later = entered;
          history_is = is;
          enters = subst (λ (b : Bool). Enters b weave new calls s (Ok call.command) history entered (reply_next call next)) (sym commit)
              (record {
                entry = entry;
                added = added;
                session_is = refl;
                number_is = sym number_is;
                held = record { inodes = held_inodes; pages = held_pages };
                legal = is_legal old.volume.size entry (supply_for old.volume calls s) call.command (given_inode call.running) history entered (held_so answer) enters at.id
                    (ap Plain (answers (supply_of old.volume.size entry) history.tree history.room));
                given = λ ran there. subst (HasGiven old.volume.size entry history entered) (same_ran ran there)
                    (given_so old.volume.size entry (supply_for old.volume calls s) call history entered (held_so answer) enters at.id
                    (ap Plain (answers (supply_of old.volume.size entry) history.tree history.room)));
                told = told_so next;
              });
          tree = λ again. enters.after.tree;
          many = ap (λ (entries : List Entry). length entries) added ∙ length-append old.entries (entry ∷ []) ∙ ap (λ (b : Bool). length old.entries + entry_more b) (sym commit);
        }

    come : HasCome old new calls history went.words s call next
    come = by_commit (commits call.running) refl
      where
        by_commit : (b : Bool) → commits call.running ≡ b → HasCome old new calls history went.words s call next
        by_commit true is = come_entered is
        by_commit false is = come_quiet is

    -- ---- they wait

    numbered_so : (onward : Next Running) (one : Call) → next_call call onward ≡ Some one → one.number ≡ call.number
    numbered_so (More running) one is =
        let here : ◌≡◌ {A = Option Call} (Some (record call { running = running })) (Some one) = is in
        let equal : record call { running = running } ≡ one = cc in
        ap (λ (c : Call). c.number) (sym equal)
    numbered_so (HasEnded reply) one is = absurd (let clash : ◌≡◌ {A = Option Call} None (Some one) = is in cc)

    entered_so : length new.entries + to_come now ≤ new.begun
    entered_so =
        let was = weaving.entered in
        let cost = to_come_at calls s call runs in
        let behind = to_come_put calls s (next_call call next) within in
        let many = come.many in
        let begun = left.begun in
        let enough : length old.entries + (to_enter (has_committed call.running) + to_come (without calls s)) ≤ old.begun = omega (arith, was, cost) in
        let next_within =
        entries_within (has_committed call.running) (is_entered_behind (next_call call next)) (commits call.running) (length old.entries) (to_come (without calls s)) old.begun
        enters_is stays enough in
        omega (arith, next_within, many, behind, begun)

    module _ (after : DeviceView) (waits : AllWait new.volume after went.words now)
        (stores : StoresAndFences {T = Unit {0}} {E = Unit {0}} before fenced (step_of old.volume bytes call.running).events (Ok tt))
        (there : IsThereSo fenced after (reply_next call next)) (acked : HasAcked before after (reply_next call next))
        (events : HasEvents before after (reply_next call next)) (left_at : LeftAtAny old new before after calls history call now) (settled_at : SettledAtAny old new before after now) where
      weaving_on : IsWeaving new after now come.later
      weaving_on = record {
        tasks = left.tasks;
        few = let few = weaving.few in let same = length-set calls s (next_call call next) in omega (arith, few, same);
        words = went.words;
        waits = waits;
        history_is = come.history_is;
        numbered = subst (λ (begun : ℕ). AreNumbered begun now) (sym left.begun)
            (numbered_put old.begun calls s call (next_call call next) weaving.numbered runs (numbered_so next));
        entered = entered_so;
      }

      put : call_at now s ≡ next_call call next
      put = at_set calls s (next_call call next) within

      left_as : (onward : Next Running) → IsLeftAs (reply_next call onward) call.number (next_call call onward)
      left_as (More running) = (record call { running = running }, refl, refl, refl)
      left_as (HasEnded reply) = (refl, refl)

      call_so : (onward : Next Running) → IsNext call.running onward → IsCallAt (Some call) (next_call call onward) (Ok call.command) history.tree
      call_so (More running) is = record { command = refl; named = refl; given = next_given call.running running is }
      call_so (HasEnded reply) is = tt

      fences_so : (onward : Next Running) → fences_left new.volume bytes onward ≡ fences_of_left new.volume (next_call call onward)
      fences_so (More running) = refl
      fences_so (HasEnded reply) = refl

      busy_so : (onward : Next Running) → IsBusyRightly (reply_next call onward) (Some call) calls history (Ok call.command)
      busy_so (More running) = tt
      busy_so (HasEnded reply) = λ inode holder is. cc

      bytes_so : (onward : Next Running) → TellsNext call.command call.running onward → BytesBehind old.bytes new.bytes history.tree (Ok call.command) (reply_next call onward)
      bytes_so (More running) tells = left.bytes
      bytes_so (HasEnded reply) tells = record {
        kept = λ other. left.bytes;
        read = λ path offset count read line is. absurd (tells.no_bytes read (let same : Plain reply ≡ Plain (Bytes read) = is in cc));
      }

      counted : fenced.fences ≡ before.fences + 1
      counted = stores.counted

      fenced_so : HasFenced before after (reply_next call next) (call_at calls s)
      fenced_so =
          let more : after.fences ≡ before.fences + 1 = there.fences ∙ counted in
          record { most = omega (arith, more); goes_on = λ one is. more; left = λ number is. more }

      quiet_so : (left : Next Running) → IsQuietWhere (reply_next call left) (Some call) (Ok call.command) before after
      quiet_so (More running) = tt
      quiet_so (HasEnded told) = tt

      reason_so : (left : Next Running) → TellsNext call.command call.running left → HasReason before after (Some call) history (Ok call.command) (reply_next call left)
      reason_so (More running) ends = tt
      reason_so (HasEnded told) ends = is_made call.command told (ran_changes weave before calls history s call weaving runs) ends.answers

      pub steps_on : StepsOn weave new before after calls history s (Ok call.command) (reply_next call next)
      steps_on = record {
        later_calls = now;
        later = come.later;
        weaving = weaving_on;
        others = λ r other. call_other calls s r (next_call call next) (λ same. other (sym same));
        others_left = others_fences weave new before after calls now history come.later s weaving weaving_on
            (λ r other. call_other calls s r (next_call call next) (λ same. other (sym same)));
        begun = left.begun ∙ sym (ap (begun_after old.begun) runs);
        left = subst (λ (own : ℕ). IsLeftAs (reply_next call next) own (call_at now s)) (sym number_is)
            (subst (IsLeftAs (reply_next call next) call.number) (sym put) (left_as next));
        enters = subst (λ (b : Bool). Enters b weave new calls s (Ok call.command) history come.later (reply_next call next)) (sym when) come.enters;
        call_is = subst (λ (one : Option Call). IsCallAt one (call_at now s) (Ok call.command) history.tree) (sym runs)
            (subst (λ (one : Option Call). IsCallAt (Some call) one (Ok call.command) history.tree) (sym put) (call_so next made.next_is));
        gets_on = subst (λ (one : Option Call). GetsOn old.volume new.volume one (call_at now s)) (sym runs)
            (subst (λ (one : Option Call). GetsOn old.volume new.volume (Some call) one) (sym put) (costs.fences ∙ ap (λ (n : ℕ). 1 + n) (fences_so next)));
        takes_all = subst
            (λ (one : Option Call). TakesAll old.volume.size (left_of_all old.volume calls) new.volume before after one (call_at now s) history (Ok call.command) come.later
            (reply_next call next))
            (sym runs) tt;
        busy = subst (λ (one : Option Call). IsBusyRightly (reply_next call next) one calls history (Ok call.command)) (sym runs) (busy_so next);
        reason = subst (λ (one : Option Call). HasReason before after one history (Ok call.command) (reply_next call next)) (sym runs) (reason_so next tells);
        bytes = bytes_so next tells;
        quiet = subst (λ (one : Option Call). IsQuietWhere (reply_next call next) one (Ok call.command) before after) (sym runs) (quiet_so next);
        events = events;
        fences = fenced_so;
        acks = there.acks ∙ ap (λ (n : ℕ). n + acks_of (reply_next call next)) stores.acks;
        acked = acked;
        settled = settled_at come.later weaving_on;
        faults = there.faults ∙ stores.no_fault;
        any_moment = left_at come.later come.tree weaving_on;
      }
        where
          when : (not (is_entered_before (call_at calls s)) && is_entered_behind (call_at now s)) ≡ commits call.running
          when =
              ap (λ (one : Option Call). not (is_entered_before one) && is_entered_behind (call_at now s)) runs
              ∙ ap (λ (one : Option Call). not (has_committed call.running) && is_entered_behind one) put ∙ enters_is
