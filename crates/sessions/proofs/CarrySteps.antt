-- The first step of a call was made: what it leaves of the calls, the history, the entries and the device.
use Rattle.std.proofs.Common.{◌≡◌, inr, ℕ, ◌+◌, ◌<◌, ◌≤◌, Bool, true, false, not, ◌&&◌, ◌||◌, if◌then◌else◌, [], ◌∷◌, length, length-append, set, Option, None, Some, Ok}
use Rattle.std.proofs.Common.{refl, sym, ap, subst, ◌∙◌, arith}
use Rattle.std.proofs.lemmas.Bool.{true≢false}
use Rattle.std.proofs.lemmas.List.{length-set}
use Rattle.pm_trait.specs.Device.{LeavesOnly, AcksSettled}
use Rattle.pm_trait.specs.DeviceView.{DeviceView}
use Rattle.tree_model.specs.Capacity.{Supply}
use Rattle.tree_model.specs.PathText.{Route}
use Rattle.tree_model.specs.Replies.{reply_of}
use Rattle.tree_model.specs.Step.{answer_of}
use Rattle.tree_model.specs.Tree.{Tree, Room}
use Rattle.tree_model.specs.Run.{State, Line, is_changing}
use Rattle.tree_model.specs.declared.command.Command.{Command}
use Rattle.tree_model.specs.declared.command.Command.TheVariants.{Create, Mkdir, Link, Unlink, Rmdir, Rename, Write, Truncate, Read, Stat as Tell, List as Show, Df}
use Rattle.naming_laws.specs.Naming.{inode_need}
use Rattle.image_counts.specs.Laws.{supply_beside}
use Rattle.volume.specs.Volume.{VolumeView}
use Rattle.volume.specs.declared.next.Next.{Next}
use Rattle.volume.specs.declared.next.Next.TheVariants.{More, Ended as HasEnded}
use Rattle.running_calls.specs.declared.running.Running.{Running}
use Rattle.running_laws.specs.Steps.{commits, given_inode}
use Rattle.session_laws.specs.Calls.{Call, Calls, call_at, left_of_all, ranges_of_all}
use Rattle.session_laws.specs.Going.{next_call}
use Rattle.session_laws.specs.Histories.{IsHistory, IsCrashOf, EntersHistory}
use Rattle.session_laws.proofs.Lists.{call_put, call_other}
use Rattle.sessions.specs.Advanced.{entry_of, with_entry}
use Rattle.sessions.specs.Interleave.{InterleaveView, AllWait, AreNumbered, IsWeaving, tasks_of, to_come}
use Rattle.volume.specs.Named.{AreNamedBy}
use Rattle.sessions.specs.Steps.{StepsOn, TakesAll, HasReason, BytesBehind, Enters, IsFreeOfOthers, IsBusyRightly, IsLeftAs, IsToldAs, IsDoneAtEnd, IsCallAt, GetsOn, IsQuietWhere, is_refused}
use Rattle.sessions.specs.Steps.{HasEvents, HasAcked, MayBeLeft, IsBeforeOrBehind, begun_after, number_of, is_entered_before, is_entered_behind, acks_of}
use Rattle.sessions.specs.declared.entry.StepReply.{StepReply}
use Rattle.sessions.specs.declared.entry.StepReply.TheVariants.{Running as RunsOn}
use Rattle.sessions.specs.declared.entry.WeaveReply.TheVariants.{Plain}
use Rattle.sessions.proofs.CarryEntry.{entry_held, entry_legal}
use Rattle.sessions.proofs.CarryLists.{numbered_begun, to_come_begun}
use Rattle.sessions.proofs.GoesLists.{to_enter}
use Rattle.sessions.proofs.GoesMade.{told_next, reply_next}
use Rattle.sessions.proofs.FencesOthers.{others_fences}
use Rattle.sessions.proofs.FencesTakes.{TakesNext, takes_begun, begun_reason}
use Rattle.sessions.proofs.GoesReplies.{AnswersAs}
use Rattle.sessions.proofs.StepCrash.{IsTreeBehind}

-- ---- what is known behind it

-- The history has its command, which makes no node, or is as it was.
abbrev pub GoesTo : Bool → Supply → Command → State → State → Type 0
GoesTo true supply command history later = (id : ℕ) × EntersHistory supply history later command id × (inode_need command ≡ 1 → ⊥)
GoesTo false supply command history later = later ≡ history

-- All wait, the words are those of the history, and the call has its entry where that came with this step.
pub record Began (old : InterleaveView) (volume : VolumeView) (after : DeviceView) (calls : Calls) (history : State) (s : ℕ) (call : Call) (next : Next Running)
    (enters : Bool) : Type 0 where
  pub words : State
  pub later : State
  pub waits : AllWait volume after words (set calls s (next_call call next))
  pub going : volume.stopped ≡ false
  pub history_is : IsHistory (ranges_of_all (set calls s (next_call call next))) later words
  pub goes : GoesTo enters (supply_beside old.volume.size (left_of_all old.volume calls)) call.command history later
  pub tree : IsTreeBehind (commits call.running) history call.command (given_inode call.running) later
  pub entered : is_entered_behind (next_call call next) ≡ enters
  pub told : enters ≡ true → AnswersAs call.command (told_next next)

-- a fence where it goes on
abbrev pub HasFenceBehind : DeviceView → DeviceView → Next Running → Type 0
HasFenceBehind before after (More running) = after.fences ≡ before.fences + 1
HasFenceBehind before after (HasEnded reply) = Unit {0}

-- what it did to the code's view and to the device, with the acknowledgement of a call that has ended
pub record DidStep (old new : InterleaveView) (before after : DeviceView) (calls : Calls) (s : ℕ) (call : Call) (next : Next Running) (enters : Bool) : Type 0 where
  pub tasks : new.tasks ≡ tasks_of (set calls s (next_call call next))
  pub entries : new.entries ≡ (if enters then with_entry old s call.number (Plain (told_next next)) else old.entries)
  pub begun : new.begun ≡ old.begun + 1
  pub bytes : new.bytes ≡ old.bytes
  pub most : after.fences ≤ before.fences + 1
  pub fence : HasFenceBehind before after next
  pub acks : after.acks ≡ before.acks + acks_of (reply_next call next)
  pub acked : HasAcked before after (reply_next call next)
  pub faults : after.faults ≡ before.faults
  pub events : HasEvents before after (reply_next call next)

-- ---- the clauses

same_call : (one other : Call) → ◌≡◌ {A = Option Call} (Some one) (Some other) → one ≡ other
same_call one other is = cc

changing_of : Line → Bool
changing_of (Ok command) = is_changing command
changing_of _ = false

-- a change that ends isn't refused
never_refused : (command : Command) → is_changing command ≡ true → (supply : Supply) (T : Tree) (room : Room) → is_refused (reply_of (answer_of supply T room command)) ≡ false
never_refused (Create path) changing supply T room = refl
never_refused (Mkdir path) changing supply T room = refl
never_refused (Link from to) changing supply T room = refl
never_refused (Unlink path) changing supply T room = refl
never_refused (Rmdir path) changing supply T room = refl
never_refused (Rename from to) changing supply T room = refl
never_refused (Write path offset bytes) changing supply T room = refl
never_refused (Truncate path size) changing supply T room = refl
never_refused (Read path offset count) changing supply T room = refl
never_refused (Tell path) changing supply T room = refl
never_refused (Show path) changing supply T room = refl
never_refused Df changing supply T room = refl

module _ (old new : InterleaveView) (before after : DeviceView) (calls : Calls) (history : State) (session : ℕ) (call : Call) (next : Next Running) (enters : Bool)
    (weaving : IsWeaving old before calls history) (idle : call_at calls session ≡ None) (within : session < length calls) (number : call.number ≡ old.begun + 1)
    (changing : is_changing call.command ≡ true) (free : IsFreeOfOthers calls history call.command)
    (names : AreNamedBy history.tree call.command call.named) (began : Began old new.volume after calls history session call next enters)
    (did : DidStep old new before after calls session call next enters) where
  abbrev left_calls : Calls
  left_calls = set calls session (next_call call next)

  abbrev line : Line
  line = Ok call.command

  abbrev reply : StepReply
  reply = reply_next call next

  own_number : call.number ≡ number_of old.begun (call_at calls session)
  own_number = number ∙ sym (ap (number_of old.begun) idle)

  left_is : call_at left_calls session ≡ next_call call next
  left_is = call_put calls session (next_call call next) within

  -- ---- calls

  same_number : (behind : Next Running) (left : Call) → next_call call behind ≡ Some left → left.number ≡ call.number
  same_number (More running) left is = sym (ap (λ (c : Call). c.number) (same_call (record call { running = running }) left is))
  same_number (HasEnded told) left is = cc

  numbered : AreNumbered new.begun left_calls
  numbered =
      subst (λ (begun : ℕ). AreNumbered begun left_calls) (sym did.begun)
      (numbered_begun old.begun calls session call (next_call call next) weaving.numbered number (same_number next))

  entries_long : (entered : Bool) → new.entries ≡ (if entered then with_entry old session call.number (Plain (told_next next)) else old.entries)
      → is_entered_behind (next_call call next) ≡ entered
      → length new.entries + to_come left_calls ≤ new.begun
  entries_long true added is =
      let was = weaving.entered in
      let begun = did.begun in
      let long = ap length added ∙ length-append old.entries (entry_of old.tasks session call.number (Plain (told_next next)) ∷ []) in
      let all = to_come_begun calls session (next_call call next) idle within in
      let come : to_enter (is_entered_behind (next_call call next)) ≡ 0 = ap (λ (b : Bool). if b then 0 else 1) is in
      omega (arith, was, begun, long, all, come)
  entries_long false added is =
      let was = weaving.entered in
      let begun = did.begun in
      let long = ap length added in
      let all = to_come_begun calls session (next_call call next) idle within in
      let come : to_enter (is_entered_behind (next_call call next)) ≡ 1 = ap (λ (b : Bool). if b then 0 else 1) is in
      omega (arith, was, begun, long, all, come)

  weaves : IsWeaving new after left_calls began.later
  weaves = record {
    tasks = did.tasks;
    few = (let few = weaving.few in let long = length-set calls session (next_call call next) in omega (arith, few, long));
    words = began.words;
    waits = began.waits;
    history_is = began.history_is;
    numbered = numbered;
    entered = entries_long enters did.entries began.entered;
  }

  -- ---- its entry

  told_as : (behind : Next Running) → IsToldAs (reply_next call behind) (Plain (told_next behind))
  told_as (More running) = refl
  told_as (HasEnded told) = refl

  told_none : (behind : Next Running) → is_entered_behind (next_call call behind) ≡ false → IsDoneAtEnd (reply_next call behind)
  told_none (More running) none = tt
  told_none (HasEnded told) none = absurd (true≢false none)

  enters_so : (entered : Bool) → GoesTo entered (supply_beside old.volume.size (left_of_all old.volume calls)) call.command history began.later
      → new.entries ≡ (if entered then with_entry old session call.number (Plain (told_next next)) else old.entries) → is_entered_behind (next_call call next) ≡ entered
      → (entered ≡ true → AnswersAs call.command (told_next next)) → Enters entered old new calls session line history began.later reply
  enters_so true (id, entering, makes_none) added is told = record {
    entry = entry_of old.tasks session call.number (Plain (told_next next));
    added = added;
    session_is = refl;
    number_is = own_number;
    held = entry_held old before calls history session weaving idle call.number (Plain (told_next next));
    legal = entry_legal old before calls history session weaving idle call.number (told_next next) call.command id began.later entering makes_none (told refl);
    given = λ ran runs. absurd (let clash : ◌≡◌ {A = Option Call} None (Some ran) = sym idle ∙ runs in cc);
    told = told_as next;
  }
  enters_so false same added is told = record { told = told_none next is; same = added; history_same = same }

  abbrev EntersIf : Bool → Type 0
  EntersIf b = Enters b old new calls session line history began.later reply

  entered_is : not (is_entered_before (call_at calls session)) && is_entered_behind (call_at left_calls session) ≡ enters
  entered_is =
      ap (λ (ran : Option Call). not (is_entered_before ran) && is_entered_behind (call_at left_calls session)) idle ∙ ap is_entered_behind left_is ∙ began.entered

  -- ---- its reply

  left_as : (behind : Next Running) → call_at left_calls session ≡ next_call call behind
      → IsLeftAs (reply_next call behind) (number_of old.begun (call_at calls session)) (call_at left_calls session)
  left_as (More running) is = (record call { running = running }, is, own_number, own_number)
  left_as (HasEnded told) is = (is, own_number)

  busy_none : (behind : Next Running) → IsBusyRightly (reply_next call behind) None calls history line
  busy_none (More running) = free
  busy_none (HasEnded told) = inr free

  no_read : (path : Route) (offset count : ℕ) → line ≡ Ok (Read path offset count) → ⊥
  unfolding changing_of
  no_read path offset count is = let reads : is_changing call.command ≡ false = ap changing_of is in true≢false (sym changing ∙ reads)

  bytes_behind : (behind : Next Running) → BytesBehind old.bytes new.bytes history.tree line (reply_next call behind)
  bytes_behind (More running) = did.bytes
  bytes_behind (HasEnded told) = record { kept = λ others. did.bytes; read = λ path offset count read is told. absurd (no_read path offset count is) }

  fenced_if : (behind : Next Running) → HasFenceBehind before after behind → (own : ℕ) → reply_next call behind ≡ RunsOn own → after.fences ≡ before.fences + 1
  fenced_if (More running) fence own is = fence
  fenced_if (HasEnded told) fence own is = cc

  quiet_behind : (behind : Next Running) → is_entered_behind (next_call call behind) ≡ enters → (enters ≡ true → AnswersAs call.command (told_next behind))
      → IsQuietWhere (reply_next call behind) None line before after
  quiet_behind (More running) entered told = tt
  quiet_behind (HasEnded answer) entered told = λ none.
      let supply = supply_beside old.volume.size (left_of_all old.volume calls) in
      let refused : is_refused answer ≡ true = sym (ap (λ (b : Bool). not b || is_refused answer) changing) ∙ none in
      let not_refused : is_refused answer ≡ false =
      ap is_refused (told (sym entered) supply history.tree history.room) ∙ never_refused call.command changing supply history.tree history.room in
      absurd (true≢false (sym refused ∙ not_refused))

  -- ---- what the session runs

  call_behind : (behind : Next Running) → IsCallAt None (next_call call behind) line history.tree
  call_behind (More running) = (refl, names)
  call_behind (HasEnded told) = tt

  -- ---- all of them

  pub stepped_on : TakesNext old new.volume before after calls history call next → (IsWeaving new after left_calls began.later
      → LeavesOnly before.trail after.trail (λ acks image. MayBeLeft old.volume.size calls history line (IsBeforeOrBehind history began.later acks) image))
      → (IsWeaving new after left_calls began.later
      → AcksSettled before.trail after.trail (λ acks words. IsCrashOf old.volume.size words (ranges_of_all left_calls) began.later))
      → StepsOn old new before after calls history session line reply
  stepped_on takes left_at settled_at = record {
    later_calls = left_calls;
    later = began.later;
    weaving = weaves;
    others = λ s other. call_other calls session s (next_call call next) (λ same. other (sym same));
    others_left = others_fences old new before after calls left_calls history began.later session weaving weaves
        (λ s other. call_other calls session s (next_call call next) (λ same. other (sym same)));
    begun = did.begun ∙ sym (ap (begun_after old.begun) idle);
    left = left_as next left_is;
    enters = subst EntersIf (sym entered_is) (enters_so enters began.goes did.entries began.entered began.told);
    call_is = subst (λ (ran : Option Call). IsCallAt ran (call_at left_calls session) line history.tree) (sym idle)
        (subst (λ (left : Option Call). IsCallAt None left line history.tree) (sym left_is) (call_behind next));
    gets_on = subst (λ (ran : Option Call). GetsOn old.volume new.volume ran (call_at left_calls session)) (sym idle) tt;
    takes_all = subst
        (λ (ran : Option Call). TakesAll old.volume.size (left_of_all old.volume calls) new.volume before after ran (call_at left_calls session) history line began.later reply)
        (sym idle)
        (subst (λ (left : Option Call). TakesAll old.volume.size (left_of_all old.volume calls) new.volume before after None left history line began.later reply) (sym left_is)
        (takes_begun old new.volume before after calls history began.later call next enters changing began.entered began.told takes));
    busy = subst (λ (ran : Option Call). IsBusyRightly reply ran calls history line) (sym idle) (busy_none next);
    reason = subst (λ (ran : Option Call). HasReason before after ran history line reply) (sym idle)
        (begun_reason before after history call next enters changing began.entered began.told);
    bytes = bytes_behind next;
    quiet = subst (λ (ran : Option Call). IsQuietWhere reply ran line before after) (sym idle) (quiet_behind next began.entered began.told);
    events = did.events;
    fences = record {
      most = did.most;
      goes_on = λ ran runs. cc (idle, runs);
      left = λ own told. fenced_if next did.fence own told;
    };
    acks = did.acks;
    acked = did.acked;
    settled = settled_at weaves;
    faults = did.faults;
    any_moment = left_at weaves;
  }
