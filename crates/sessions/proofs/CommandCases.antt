-- The cases of a command that begins, as the code has them: it knows its volume and its count of calls by its own fields (`seen`).
use Rattle.std.proofs.Common.{◌≡◌, ℕ, ◌^◌, ◌≤◌, None, Ok, Err, sym, subst}
use Rattle.pm_trait.specs.DeviceView.{DeviceView}
use Rattle.tree_model.specs.Run.{State}
use Rattle.tree_model.specs.declared.command.Command.{Command}
use Rattle.tree_model.specs.declared.reply.Refusal.{Refusal}
use Rattle.tree_model.specs.declared.reply.Reply.TheVariants.{Refused}
use Rattle.volume.specs.Volume.{VolumeView}
use Rattle.volume.specs.Beside.{IsStandingBeside, IsAsked as MayBePrepared}
use Rattle.volume.specs.Prepared.{Prepares}
use Rattle.volume.specs.declared.named.NamedNodes.{NamedNodes}
use Rattle.volume.specs.declared.plan.Action.{Action}
use Rattle.session_laws.specs.Calls.{Calls}
use Rattle.sessions.specs.Advanced.{HasAnsweredAtOnce}
use Rattle.sessions.specs.Busy.{AreNoneInTheWay, IsLeastInTheWay}
use Rattle.sessions.specs.Interleave.{InterleaveView, unbegun}
use Rattle.sessions.specs.Laws.{AnswersLaw, WeavesOnLaw, OthersHoldLaw}
use Rattle.sessions.specs.Planned.{IsPlannedAmong}
use Rattle.sessions.specs.Steps.{IsAsked, MayStep, Steps}
use Rattle.sessions.specs.Tasks.{task_in, HoldFew}
use Rattle.sessions.specs.declared.entry.StepReply.{StepReply}
use Rattle.sessions.specs.declared.entry.WeaveReply.{WeaveReply}
use Rattle.sessions.specs.declared.entry.WeaveReply.TheVariants.{Plain, Busy}
use Rattle.sessions.specs.declared.going.InTheWay.{InTheWay}
use Rattle.sessions.proofs.CommandBegins.{IsNamed, WalksRefuse, Plans, Refuses, is_standing, hold_few, kept_few, may_be_prepared}
use Rattle.sessions.proofs.CommandBegins.{walks_refused, is_in_the_way, prepare_refused, plans_among, carried_on}

module _ (weaves_on : WeavesOnLaw) (others_hold : OthersHoldLaw) (seen weave : InterleaveView) (same : seen ≡ weave) (device : DeviceView) (session : ℕ) (command : Command)
    (empty : task_in weave.tasks session ≡ None) where
  -- ---- what is asked on the way

  module _ (asked : IsAsked (unbegun weave) device session (Ok command)) where
    pub stands_seen : IsStandingBeside seen.volume device
    stands_seen = subst (λ (weave : InterleaveView). IsStandingBeside weave.volume device) (sym same) (is_standing weaves_on others_hold weave device session command empty asked)

    pub few_held : HoldFew weave.tasks
    few_held = hold_few weaves_on others_hold weave device session command empty asked

    pub few_seen : HoldFew seen.tasks
    few_seen = subst (λ (weave : InterleaveView). HoldFew weave.tasks) (sym same) few_held

    pub kept_seen : seen.volume.kept ≤ 2 ^ 62
    kept_seen = subst (λ (weave : InterleaveView). weave.volume.kept ≤ 2 ^ 62) (sym same) (kept_few weaves_on others_hold weave device session command empty asked)

  -- ---- it is answered at once

  abbrev StepsFrom : InterleaveView → DeviceView → StepReply → Type 0
  StepsFrom new after reply = (calls : Calls) (history : State) → MayStep (unbegun weave) device calls history session (Ok command)
      → Steps (unbegun weave) new device after calls history session (Ok command) reply

  module _ (answers : AnswersLaw) (from_one : 1 ≤ weave.begun) (new : InterleaveView) (after : DeviceView) (reply : StepReply) where
    number_seen : (answer : WeaveReply) → HasAnsweredAtOnce weave new device after session seen.begun answer reply
        → HasAnsweredAtOnce weave new device after session weave.begun answer reply
    number_seen answer at_once = subst (λ (seen : InterleaveView). HasAnsweredAtOnce weave new device after session seen.begun answer reply) same at_once

    pub refused_walks : (refusal : Refusal) → WalksRefuse seen.volume device command refusal
        → HasAnsweredAtOnce weave new device after session seen.begun (Plain (Refused refusal)) reply → StepsFrom new after reply
    refused_walks refusal refused at_once calls history may =
        walks_refused weaves_on others_hold weave device session command empty calls history may answers from_one new after reply refusal
        (subst (λ (weave : InterleaveView). WalksRefuse weave.volume device command refusal) same refused) (number_seen (Plain (Refused refusal)) at_once)

    module _ (named : NamedNodes) (names : IsNamed seen.volume device command named) where
      names_here : IsNamed weave.volume device command named
      names_here = subst (λ (weave : InterleaveView). IsNamed weave.volume device command named) same names

      pub busy : (way : InTheWay) → IsLeastInTheWay weave.tasks named way → HasAnsweredAtOnce weave new device after session seen.begun (Busy way.inode way.holder) reply
          → StepsFrom new after reply
      busy way least at_once calls history may =
          is_in_the_way weaves_on others_hold weave device session command empty calls history may answers from_one new after reply named names_here way least
          (number_seen (Busy way.inode way.holder) at_once)

      pub refused_prepared : AreNoneInTheWay weave.tasks named → (volume : VolumeView) (between : DeviceView) (refusal : Refusal)
          → Refuses seen.volume device between command refusal
          → Prepares seen.volume volume device between command (Err refusal)
          → HasAnsweredAtOnce (record seen { volume = volume }) new between after session seen.begun (Plain (Refused refusal)) reply → StepsFrom new after reply
      refused_prepared none volume between refusal refused prepares at_once calls history may =
          prepare_refused weaves_on others_hold weave device session command empty calls history may answers from_one new after reply
          named names_here none volume between refusal
          (subst (λ (weave : InterleaveView). Prepares weave.volume volume device between command (Err refusal)) same prepares)
          (subst (λ (weave : InterleaveView). Refuses weave.volume device between command refusal) same refused)
          (subst (λ (weave : InterleaveView). HasAnsweredAtOnce (record weave { volume = volume }) new between after session weave.begun (Plain (Refused refusal)) reply)
          same at_once)

  -- ---- it is prepared

  module _ (named : NamedNodes) (names : IsNamed seen.volume device command named) (none : AreNoneInTheWay weave.tasks named) where
    named_here : IsNamed weave.volume device command named
    named_here = subst (λ (weave : InterleaveView). IsNamed weave.volume device command named) same names

    pub asked_seen : IsAsked (unbegun weave) device session (Ok command) → MayBePrepared seen.volume device command
    asked_seen asked =
        subst (λ (weave : InterleaveView). MayBePrepared weave.volume device command) (sym same)
        (may_be_prepared weaves_on others_hold weave device session command empty asked named named_here none)

    module _ (volume : VolumeView) (between : DeviceView) (action : Action) (prepares : Prepares seen.volume volume device between command (Ok action)) where
      prepares_here : Prepares weave.volume volume device between command (Ok action)
      prepares_here = subst (λ (weave : InterleaveView). Prepares weave.volume volume device between command (Ok action)) same prepares

      module _ (planned : Plans seen.volume volume device between command action) where
        plan_here : (calls : Calls) (history : State) → MayStep (unbegun weave) device calls history session (Ok command)
            → IsPlannedAmong (record (unbegun seen) { volume = volume }) between calls history session command named action
        plan_here calls history may =
            subst (λ (weave : InterleaveView). IsPlannedAmong (record (unbegun weave) { volume = volume }) between calls history session command named action) (sym same)
            (plans_among weaves_on others_hold weave device session command empty calls history may named named_here none volume between action prepares_here
            (subst (λ (weave : InterleaveView). Plans weave.volume volume device between command action) same planned))

        pub planned_seen : IsAsked (unbegun weave) device session (Ok command)
            → (calls : Calls) × (history : State) × IsPlannedAmong (record (unbegun seen) { volume = volume }) between calls history session command named action
        planned_seen asked = let (calls, history, may) = asked in (calls, history, plan_here calls history may)

        pub carried : (new : InterleaveView) (after : DeviceView) (reply : StepReply)
            → ((calls : Calls) (history : State) → IsPlannedAmong (record (unbegun seen) { volume = volume }) between calls history session command named action
            → Steps (record (unbegun seen) { volume = volume }) new between after calls history session (Ok command) reply) → StepsFrom new after reply
        carried new after reply steps calls history may =
            carried_on weaves_on others_hold weave device session command empty calls history may named named_here none volume between action prepares_here new after reply
            (subst (λ (weave : InterleaveView). Steps (record (unbegun weave) { volume = volume }) new between after calls history session (Ok command) reply) same
            (steps calls history (plan_here calls history may)))
