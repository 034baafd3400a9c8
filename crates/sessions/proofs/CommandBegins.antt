-- A command begins: what is known where its walks end, where none is in its way, and where it is prepared; and in each case it makes its step.
use Rattle.std.proofs.Common.{◌≡◌, ◌⊎◌, inl, inr, ℕ, ◌^◌, ◌≤◌, Bool, true, false, not, ◌||◌, None, Some, Result, Ok, Err, refl, sym, subst, ◌∙◌, arith}
use Rattle.pm_trait.specs.DeviceView.{DeviceView}
use Rattle.tree_model.specs.Run.{State, is_changing}
use Rattle.tree_model.specs.declared.command.Command.{Command}
use Rattle.tree_model.specs.declared.reply.Refusal.{Refusal}
use Rattle.tree_model.specs.declared.reply.Reply.TheVariants.{Refused}
use Rattle.image_reading.specs.Residue.{Residue}
use Rattle.image_counts.specs.Laws.{supply_beside}
use Rattle.volume.specs.Volume.{VolumeView}
use Rattle.volume.specs.Beside.{StandsBeside, IsStandingBeside, MayPrepare, IsAsked as MayBePrepared}
use Rattle.volume.specs.Named.{AreNamedBy, refusal_of_walks}
use Rattle.volume.specs.Planned.{IsPlannedWith}
use Rattle.volume.specs.Prepared.{IsRefusal, Prepares}
use Rattle.volume.specs.declared.named.NamedNodes.{NamedNodes}
use Rattle.volume.specs.declared.plan.Action.{Action}
use Rattle.volume.proofs.Reserved.{stands_still}
use Rattle.session_laws.specs.Calls.{Calls, call_at, left_of_all, ranges_of_all}
use Rattle.session_laws.specs.Going.{AreFree}
use Rattle.session_laws.specs.Histories.{AnswersAlike}
use Rattle.session_laws.proofs.HistoryAlike.{answers_alike_law}
use Rattle.session_laws.proofs.Lists.{without_idle}
use Rattle.sessions.specs.Advanced.{HasAnsweredAtOnce, entry_of}
use Rattle.sessions.specs.Busy.{AreNoneInTheWay, IsLeastInTheWay}
use Rattle.sessions.specs.Interleave.{InterleaveView, IsWeaving, AllWait, unbegun}
use Rattle.sessions.specs.Laws.{AnswersLaw, WeavesOn, WeavesOnLaw, OthersHoldLaw}
use Rattle.sessions.specs.Planned.{IsPlannedAmong}
use Rattle.sessions.specs.Steps.{IsAsked, MayStep, Steps}
use Rattle.sessions.specs.Tasks.{task_in, HoldFew}
use Rattle.sessions.specs.declared.entry.StepReply.{StepReply}
use Rattle.sessions.specs.declared.entry.WeaveReply.TheVariants.{Plain, Busy}
use Rattle.sessions.specs.declared.going.InTheWay.{InTheWay}
use Rattle.sessions.proofs.CommandAnswers.{AllHeld, MayAnswer, all_held, held_supply, none_at_zero, walks_legal, prepared_legal, answer_steps}
use Rattle.sessions.proofs.CommandAsked.{each_names, may_prepare, wait_behind}
use Rattle.sessions.proofs.CommandLeft.{left_behind}
use Rattle.sessions.proofs.CommandSteps.{steps_back}
use Rattle.sessions.proofs.FencesOthers.{others_fences}
use Rattle.sessions.proofs.ReplyReasons.{walks_reason, other_reason, prepared_reason}
use Rattle.sessions.proofs.StepEvents.{same_room}
use Rattle.sessions.proofs.CommandTasks.{call_of_task, none_in_the_way, free_of_others, in_the_way}

no_plan_refused : (changes : Bool) → (not changes || true) ≡ true
no_plan_refused true = refl
no_plan_refused false = refl

-- Its walks end, and this is what it names, whatever calls run.
abbrev pub IsNamed : VolumeView → DeviceView → Command → NamedNodes → Type 0
IsNamed volume device command named =
    (state : State) (residue : Residue) → StandsBeside volume device state residue → (refusal_of_walks state.tree command ≡ None) × AreNamedBy state.tree command named

-- They refuse.
abbrev pub WalksRefuse : VolumeView → DeviceView → Command → Refusal → Type 0
WalksRefuse volume device command refusal =
    (state : State) (residue : Residue) → StandsBeside volume device state residue → refusal_of_walks state.tree command ≡ Some refusal

-- It is prepared, with this plan, or refused.
abbrev pub Plans : VolumeView → VolumeView → DeviceView → DeviceView → Command → Action → Type 0
Plans old new before between command action =
    (state : State) (residue : Residue) → MayPrepare old before state residue command → IsPlannedWith (supply_beside new.size residue) between.words state command action

abbrev pub Refuses : VolumeView → DeviceView → DeviceView → Command → Refusal → Type 0
Refuses old before between command refusal =
    (state : State) (residue : Residue) → MayPrepare old before state residue command → IsRefusal (supply_beside old.size residue) state command refusal before between

module _ (weaves_on : WeavesOnLaw) (others_hold : OthersHoldLaw) (weave : InterleaveView) (device : DeviceView) (session : ℕ) (command : Command)
    (empty : task_in weave.tasks session ≡ None) where
  -- ---- of calls that wait

  module _ (calls : Calls) (history : State) (may : MayStep (unbegun weave) device calls history session (Ok command)) where
    abbrev weaving : IsWeaving (unbegun weave) device calls history
    weaving = may.weaving

    abbrev words : State
    words = weaving.words

    on : WeavesOn (unbegun weave) device calls words
    on = weaves_on (unbegun weave) device calls history weaving

    pub runs_none : call_at calls session ≡ None
    runs_none = call_of_task weave.tasks calls weaving.tasks session None empty

    pub held : AllHeld weave.tasks (left_of_all weave.volume calls)
    held = all_held (unbegun weave) calls session (others_hold (unbegun weave) device calls history session weaving) runs_none weaving.tasks

    alike : AnswersAlike (supply_beside weave.volume.size (left_of_all weave.volume calls)) history words command
    alike = answers_alike_law (supply_beside weave.volume.size (left_of_all weave.volume calls)) (ranges_of_all calls) history words command weaving.history_is

    -- ---- none is in its way

    module _ (named : NamedNodes) (names : IsNamed weave.volume device command named) where
      found : (refusal_of_walks words.tree command ≡ None) × AreNamedBy words.tree command named
      found = names words (left_of_all weave.volume calls) on.stands

      module _ (none : AreNoneInTheWay weave.tasks named) where
        free : AreFree named calls
        free = none_in_the_way weave.tasks calls weaving.tasks named none (each_names weave.volume device words calls weaving.waits on.stands)

        pub prepares_beside : MayPrepare weave.volume device words (left_of_all weave.volume calls) command
        prepares_beside = may_prepare weave.volume device words calls weaving.waits on.stands command named found.1 free

        -- ---- behind its preparing

        module _ (volume : VolumeView) (between : DeviceView) where
          same_left : (result : Result Action Refusal) → Prepares weave.volume volume device between command result → left_of_all volume calls ≡ left_of_all weave.volume calls
          same_left result prepares = left_behind weave.volume volume prepares.view calls

          pub wait : (result : Result Action Refusal) → Prepares weave.volume volume device between command result → AllWait volume between words calls
          wait result prepares = wait_behind weave.volume device words calls weaving.waits on.stands command named found.1 free volume between result prepares found.0

          abbrev pub weaving_behind : (result : Result Action Refusal) → Prepares weave.volume volume device between command result
              → IsWeaving (record (unbegun weave) { volume = volume }) between calls history
          weaving_behind result prepares = record {
            tasks = weaving.tasks;
            few = weaving.few;
            words = words;
            waits = wait result prepares;
            history_is = weaving.history_is;
            numbered = weaving.numbered;
            entered = weaving.entered;
          }

          -- its plan is one among the calls
          pub plans_among : (action : Action) → Prepares weave.volume volume device between command (Ok action)
              → Plans weave.volume volume device between command action
              → IsPlannedAmong (record (unbegun weave) { volume = volume }) between calls history session command named action
          plans_among action prepares planned =
              let left = same_left (Ok action) prepares in
              let still = stands_still weave.volume volume device between words (left_of_all weave.volume calls) prepares.view prepares.device on.stands in
              record {
                weaving = weaving_behind (Ok action) prepares;
                idle = runs_none;
                change = unmarked (is_changing command) refl;
                named_is = found.1;
                free = free;
                may = may_prepare volume between words calls (wait (Ok action) prepares)
                    (subst (λ (left : Residue). StandsBeside volume between words left) (sym left) still) command named found.1 free;
                planned = subst (λ (left : Residue). IsPlannedWith (supply_beside volume.size left) between.words words command action) (sym left)
                    (planned words (left_of_all weave.volume calls) prepares_beside);
                reserved = prepares.accepted.0;
              }
            where
              unmarked : (changes : Bool) → is_changing command ≡ changes → changes ≡ false ⊎ (volume.marked ≡ false)
              unmarked true changing = inr (prepares.view.same_mark ∙ may.change changing)
              unmarked false reads = inl refl

          -- and its step from there is one from before
          pub carried_on : (action : Action) → Prepares weave.volume volume device between command (Ok action) → (new : InterleaveView) (after : DeviceView) (reply : StepReply)
              → Steps (record (unbegun weave) { volume = volume }) new between after calls history session (Ok command) reply
              → Steps (unbegun weave) new device after calls history session (Ok command) reply
          carried_on action prepares new after reply steps =
              let none = without_idle calls session runs_none in
              let left = subst (λ (calls : Calls). left_of_all volume calls ≡ left_of_all weave.volume calls) (sym none) (same_left (Ok action) prepares) in
              steps_back (unbegun weave) new volume device between after calls history session (Ok command) reply runs_none prepares.view.same_size prepares.view.same_mark left
              prepares.device
              (others_fences (unbegun weave) (record (unbegun weave) { volume = volume }) device between calls calls history history session weaving
              (weaving_behind (Ok action) prepares) (λ s other. refl)) steps

    -- ---- it is answered at once

    module _ (answers : AnswersLaw) (from_one : 1 ≤ weave.begun) (new : InterleaveView) (after : DeviceView) (reply : StepReply) where
      pub walks_refused : (refusal : Refusal) → WalksRefuse weave.volume device command refusal
          → HasAnsweredAtOnce weave new device after session weave.begun (Plain (Refused refusal)) reply
          → Steps (unbegun weave) new device after calls history session (Ok command) reply
      walks_refused refusal refused at_once =
          let here = alike.walks ∙ refused words (left_of_all weave.volume calls) on.stands in
          let may_answer : MayAnswer weave device device calls history session command (Plain (Refused refusal)) = record {
            idle = runs_none;
            legal = walks_legal weave.volume.size (entry_of weave.tasks session weave.begun (Plain (Refused refusal))) history command refusal
                (none_at_zero (unbegun weave) device calls history weaving on.stands) here refl;
            busy = inl (λ none. cc);
            no_bytes = λ count is. cc;
            no_plan = no_plan_refused (is_changing command);
            reason = walks_reason device device history command refusal weave.begun here;
          } in
          answer_steps answers weave from_one weave.volume device device calls history session command (Plain (Refused refusal)) may_answer new after reply
          weaving weaving refl refl refl (same_room device) at_once

      pub is_in_the_way : (named : NamedNodes) → IsNamed weave.volume device command named → (way : InTheWay) → IsLeastInTheWay weave.tasks named way
          → HasAnsweredAtOnce weave new device after session weave.begun (Busy way.inode way.holder) reply
          → Steps (unbegun weave) new device after calls history session (Ok command) reply
      is_in_the_way named names way least at_once =
          let is = found named names in
          let may_answer : MayAnswer weave device device calls history session command (Busy way.inode way.holder) = record {
            idle = runs_none;
            legal = inr (inr (record { inode = way.inode; holder = way.holder; reply_is = refl; same = refl }));
            busy = (alike.walks ∙ is.0, in_the_way weave.tasks calls weaving.tasks named way least history command (alike.named named is.1));
            no_bytes = λ count is. cc;
            no_plan = refl;
            reason = other_reason device device history (Ok command) weave.begun (Busy way.inode way.holder) (λ told. cc);
          } in
          answer_steps answers weave from_one weave.volume device device calls history session command (Busy way.inode way.holder) may_answer new after reply
          weaving weaving refl refl refl (same_room device) at_once

      pub prepare_refused : (named : NamedNodes) → IsNamed weave.volume device command named → AreNoneInTheWay weave.tasks named
          → (volume : VolumeView) (between : DeviceView) (refusal : Refusal) → Prepares weave.volume volume device between command (Err refusal)
          → Refuses weave.volume device between command refusal
          → HasAnsweredAtOnce (record weave { volume = volume }) new between after session weave.begun (Plain (Refused refusal)) reply
          → Steps (unbegun weave) new device after calls history session (Ok command) reply
      prepare_refused named names none volume between refusal prepares refused at_once =
          let left = left_of_all weave.volume calls in
          let is = found named names in
          let answer = Plain (Refused refusal) in
          let may_answer : MayAnswer weave device between calls history session command (Plain (Refused refusal)) = record {
            idle = runs_none;
            legal = prepared_legal weave.volume.size (entry_of weave.tasks session weave.begun answer) left history words command refusal device between
                (none_at_zero (unbegun weave) device calls history weaving on.stands) (held_supply weave.volume.size weave.tasks left session weave.begun answer held) alike.refusal
                (refused words left (prepares_beside named names none)) refl;
            busy = inr (free_of_others weave.tasks calls weaving.tasks named none history command (alike.named named is.1));
            no_bytes = λ count is. cc;
            no_plan = no_plan_refused (is_changing command);
            reason = prepared_reason (supply_beside weave.volume.size left) (ranges_of_all calls) device between between history words command refusal weave.begun weaving.history_is
                (refused words left (prepares_beside named names none)) refl;
          } in
          answer_steps answers weave from_one volume device between calls history session command answer may_answer new after reply
          weaving (weaving_behind named names none volume between (Err refusal) prepares)
          prepares.view.same_size prepares.view.same_mark (same_left named names none volume between (Err refusal) prepares) prepares.device at_once

  -- ---- what is asked on the way

  module _ (asked : IsAsked (unbegun weave) device session (Ok command)) where
    pub is_standing : IsStandingBeside weave.volume device
    is_standing = let (calls, history, may) = asked in (may.weaving.words, left_of_all weave.volume calls, (on calls history may).stands)

    pub hold_few : HoldFew weave.tasks
    hold_few = let (calls, history, may) = asked in (held calls history may).few

    pub kept_few : weave.volume.kept ≤ 2 ^ 62
    kept_few = let (calls, history, may) = asked in let few = (on calls history may).few in omega (arith, few)

    pub may_be_prepared : (named : NamedNodes) → IsNamed weave.volume device command named → AreNoneInTheWay weave.tasks named → MayBePrepared weave.volume device command
    may_be_prepared named names none =
        let (calls, history, may) = asked in (may.weaving.words, left_of_all weave.volume calls, prepares_beside calls history may named names none)
