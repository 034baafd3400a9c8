-- The fences and events of a line's plan are those that it takes with some answer and state that it might have had.
use Rattle.std.proofs.Common.{inl, ℕ, List, refl, sym, subst}
use Rattle.std.specs.Prelude.{Option, Ok}
use Rattle.tree_model.specs.Capacity.{untaken}
use Rattle.tree_model.specs.Run.{State}
use Rattle.tree_model.specs.Step.{least_free_id, outcome_of, resolved, room_after, step, RoomAfterWith}
use Rattle.tree_model.specs.Tree.{IsRoom}
use Rattle.tree_model.specs.declared.command.Command.{Command}
use Rattle.tree_model.specs.declared.reply.Refusal.{Refusal}
use Rattle.image_reading.specs.Reading.{ReadsAs}
use Rattle.image_reading.specs.Tidy.{IsTidied}
use Rattle.volume.specs.Costs.{events_of, fences_of_plan}
use Rattle.volume.specs.Planned.{IsPlanned}
use Rattle.volume.specs.declared.plan.Action.{Action}
use Rattle.plan_laws.specs.Laws.{gives_back, IsLeftBy}
use Rattle.plan_laws.proofs.PlanEvents.{plan_events_law}
use Rattle.plan_laws.proofs.PlanFences.{plan_fences_law}
use Rattle.plan_laws.proofs.PlanRooms.{plan_room_law}
use Rattle.engine.specs.Exec.{MightTake}

pub might_take : (P : ℕ) (I : List ℕ) (state : State) (c : Command) (action : Action) → IsTidied P I → ReadsAs P I state → IsPlanned P I state c action → MightTake P state (Ok c) (fences_of_plan action) (events_of action)
might_take P I state c action tidy reads planned = record {
  answer = (step P state.tree state.room c).answer;
  new = later;
  step = inl (record {
    answered = refl;
    tree = refl;
    room = subst (λ (o : Option Refusal). RoomAfterWith o (least_free_id state.tree) state.tree state.room c later.room) (sym planned.accepted)
        (gives_back action, refl, subst (λ (o : Option Refusal). IsRoom (outcome_of o (untaken P) (least_free_id state.tree) state.tree state.room (resolved state.tree c)).tree later.room) planned.accepted fits);
  });
  fences_are = plan_fences_law P I state later c action tidy reads planned left;
  events_are = plan_events_law P I state later c action tidy reads planned left;
}
  where
    later : State
    later = record {
      tree = (step P state.tree state.room c).tree;
      room = room_after (least_free_id state.tree) state.tree state.room (resolved state.tree c) (gives_back action);
    }

    fits : IsRoom later.tree later.room
    fits = plan_room_law P I state c action tidy reads planned

    left : IsLeftBy P state c action later
    left = record { tree = refl; room = refl; fits = fits }
