-- A rename whose two names are one node's: nothing is to be done.
use Rattle.std.proofs.Common.{◌≡◌, ◌≢◌, ℕ, Bool, true, false, ◌&&◌, ◌==◌, if◌then◌else◌, inl, List, length, None, refl, sym, ap, subst, ◌∙◌, arith}
use Rattle.std.specs.Prelude.{Option, Some, Ok}
use Rattle.pm_trait.specs.DeviceView.{DeviceView, IsSettledView}
use Rattle.pm_trait.specs.Unfolds.{Quietly}
use Rattle.pm_trait.proofs.DeviceLaws.{leaves_here}
use Rattle.pm_trait.proofs.DeviceViewLaws.{intervals_none}
use Rattle.tree_model.specs.Capacity.{untaken}
use Rattle.tree_model.specs.PathText.{Route}
use Rattle.tree_model.specs.Run.{State}
use Rattle.tree_model.specs.Fences.{fences_of}
use Rattle.tree_model.specs.Step.{Answer, Done, step, id_of, is_same_node, is_there, gaining, losing, least_free_id, tree_after, room_after, RoomAfter, outcome_of}
use Rattle.tree_model.specs.Tree.{Tree, IsRoom, is_directory, is_number, id_at, parent}
use Rattle.tree_model.specs.declared.command.Command.{Command}
use Rattle.tree_model.specs.declared.command.Command.TheVariants.{Create, Mkdir, Link, Unlink, Rmdir, Rename, Write, Truncate, Read, Stat as Tell, List as Show, Df}
use Rattle.tree_model.specs.declared.reply.Refusal.{Refusal}
use Rattle.tree_model.specs.declared.reply.Reply.TheVariants.{Done as Told}
use Rattle.tree_model.proofs.RoomLaws.{room_after-same}
use Rattle.image_reading.specs.Reading.{Reads}
use Rattle.image_reading.specs.Soundness.{IsCoherent}
use Rattle.image_reading.proofs.Tidied.{tidied}
use Rattle.image_counts.proofs.States.{state_law}
use Rattle.rename_laws.specs.End.{renamed}
use Rattle.volume.specs.Carried.{IsPlanFor, IsAtomic, LeavesState, Follows, Carries}
use Rattle.volume.specs.Costs.{fences_of_plan}
use Rattle.volume.specs.Crashes.{MayReadAs}
use Rattle.volume.specs.declared.plan.Action.{Action}
use Rattle.volume.specs.declared.plan.Action.TheVariants.{Make, Name, Remove, Move, Write as WriteBytes, WriteNothing, Resize, KeepSize, KeepNames, Read as ReadBytes, Status, Names, Space}
use Rattle.volume.specs.declared.plan.Moving.{Moving}
use Rattle.volume.specs.Planned.{IsMovingFor, IsNothingOr, IsPlanOf, is_size_of}
use Rattle.volume.specs.Stands.{StandsFor}
use Rattle.volume.specs.Volume.{VolumeView}
use Rattle.plan_laws.proofs.PlanFences.{plan_fences_law}
use Rattle.entry_steps.proofs.Answered.{follows_as}

pub no_move : (moving : Moving) → KeepNames ≢ Move moving
no_move moving e = cc

-- ---- whose plan it is

-- the same route twice, or two names of one node
abbrev pub IsOfNothing : State → Command → Type 0
IsOfNothing state command = (from : Route) × (to : Route) × (command ≡ Rename from to) × (is_same_node state.tree from to ≡ true)

by_test : (X : Type 0) (same : Bool) (nothing : Action) (For : Action → Type 0) → IsNothingOr same nothing For KeepNames → (same ≡ true → KeepNames ≡ nothing → X) → (For KeepNames → X) → X
by_test X true nothing For plan left right = left refl plan
by_test X false nothing For plan left right = right plan

pub planned_keeping : (P : ℕ) (I : List ℕ) (state : State) (command : Command) → IsPlanOf P I state command KeepNames → IsOfNothing state command
planned_keeping P I state (Create path) (entry, is, made) = let clash : ◌≡◌ {A = Action} KeepNames (Make entry) = is in absurd cc
planned_keeping P I state (Mkdir path) (entry, is, made) = let clash : ◌≡◌ {A = Action} KeepNames (Make entry) = is in absurd cc
planned_keeping P I state (Link from to) (link, is, for) = let clash : ◌≡◌ {A = Action} KeepNames (Name link) = is in absurd cc
planned_keeping P I state (Unlink path) (removal, is, for) = let clash : ◌≡◌ {A = Action} KeepNames (Remove removal) = is in absurd cc
planned_keeping P I state (Rmdir path) (removal, is, for) = let clash : ◌≡◌ {A = Action} KeepNames (Remove removal) = is in absurd cc
planned_keeping P I state (Rename from to) plan =
    by_test (IsOfNothing state (Rename from to)) (is_same_node state.tree from to) KeepNames (λ action. (moving : Moving) × (action ≡ Move moving) × IsMovingFor P I state from to moving) plan
    (λ same is. (from, to, refl, same)) (λ (moving, is, for). let clash : ◌≡◌ {A = Action} KeepNames (Move moving) = is in absurd cc)
planned_keeping P I state (Write path offset bytes) plan =
    by_test (IsOfNothing state (Write path offset bytes)) (length bytes == 0) WriteNothing _ plan
    (λ same is. let clash : ◌≡◌ {A = Action} KeepNames WriteNothing = is in absurd cc) (λ (writing, is, for). let clash : ◌≡◌ {A = Action} KeepNames (WriteBytes writing) = is in absurd cc)
planned_keeping P I state (Truncate path size) plan =
    by_test (IsOfNothing state (Truncate path size)) (is_size_of state path size) KeepSize _ plan
    (λ same is. let clash : ◌≡◌ {A = Action} KeepNames KeepSize = is in absurd cc) (λ (resizing, is, for). let clash : ◌≡◌ {A = Action} KeepNames (Resize resizing) = is in absurd cc)
planned_keeping P I state (Read path offset count) (reading, is, for) = let clash : ◌≡◌ {A = Action} KeepNames (ReadBytes reading) = is in absurd cc
planned_keeping P I state (Tell path) is = let clash : ◌≡◌ {A = Action} KeepNames (Status (id_of state.tree path)) = is in absurd cc
planned_keeping P I state (Show path) is = let clash : ◌≡◌ {A = Action} KeepNames (Names (id_of state.tree path)) = is in absurd cc
planned_keeping P I state Df is = let clash : ◌≡◌ {A = Action} KeepNames Space = is in absurd cc

-- the plan of a rename that isn't one of a move has nothing to do
kept_by : (same : Bool) (For : Moving → Type 0) (action : Action) → IsNothingOr same KeepNames (λ action. (moving : Moving) × (action ≡ Move moving) × For moving) action
    → ((moving : Moving) → action ≡ Move moving → ⊥) → action ≡ KeepNames
kept_by true For action plan none = plan
kept_by false For action (moving, is, for) none = absurd (none moving is)

pub keeping : (volume : VolumeView) (device : DeviceView) (state : State) (from to : Route) (action : Action) → IsPlanFor volume device state (Rename from to) action
    → ((moving : Moving) → action ≡ Move moving → ⊥) → action ≡ KeepNames
keeping volume device state from to action plan none =
    kept_by (is_same_node state.tree from to) (IsMovingFor volume.size device.words state from to) action plan.planned.plan_is none

both : (a b : Bool) → a && b ≡ true → b ≡ true
both true b is = is
both false b is = let clash : false ≡ true = is in cc

-- ---- what it leaves

module _ (volume : VolumeView) (device : DeviceView) (state : State) (from to : Route) (plan : IsPlanFor volume device state (Rename from to) KeepNames) (same : is_same_node state.tree from to ≡ true) where
  stands : StandsFor volume device state
  stands = plan.stands

  coherent : IsCoherent volume.size device.words
  coherent = (tidied stands.tidy).coherent

  fits : IsRoom state.tree state.room
  fits = (state_law volume.size device.words state coherent stands.reads).room

  -- the tree is as it was
  same_tree : tree_after (least_free_id state.tree) state.tree (Rename from to) ≡ state.tree
  same_tree = ap (λ (test : Bool). if test then state.tree else renamed state.tree from to) same

  no_losing : losing state.tree (Rename from to) ≡ None
  no_losing = ap (λ (test : Bool). if test then None else Some (id_of state.tree (parent from))) same

  no_gaining : gaining state.tree (Rename from to) ≡ None
  no_gaining = ap (λ (test : Bool). if test then None else Some (id_of state.tree (parent to))) (both (is_number (id_at state.tree from) (id_of state.tree to)) (is_there state.tree to) same)

  same_room : room_after (least_free_id state.tree) state.tree state.room (Rename from to) false ≡ state.room
  same_room = room_after-same (least_free_id state.tree) state.tree state.room (Rename from to) false fits no_gaining no_losing (λ x. ap (λ (tree : Tree). is_directory tree x) same_tree)

  step_tree : (step volume.size state.tree state.room (Rename from to)).tree ≡ state.tree
  step_tree = ap (λ (o : Option Refusal). (outcome_of o (untaken volume.size) (least_free_id state.tree) state.tree state.room (Rename from to)).tree) plan.planned.accepted ∙ same_tree

  answer_is : (step volume.size state.tree state.room (Rename from to)).answer ≡ Done
  answer_is = ap (λ (o : Option Refusal). (outcome_of o (untaken volume.size) (least_free_id state.tree) state.tree state.room (Rename from to)).answer) plan.planned.accepted

  room_follows : RoomAfter None state.tree state.room (Rename from to) state.room
  room_follows = (false, sym same_room, subst (λ (tree : Tree). IsRoom tree state.room) (sym same_tree) fits)

  fences : fences_of_plan KeepNames ≡ fences_of state (Ok (Rename from to)) Done state
  fences =
      plan_fences_law volume.size device.words state state (Rename from to) KeepNames (tidied stands.tidy) stands.reads plan.planned (record { tree = sym step_tree; room = sym same_room; fits = fits })
      ∙ ap (λ (answer : Answer). fences_of state (Ok (Rename from to)) answer state) answer_is

  made : LeavesState volume volume device device state (Rename from to) Done
  made = record {
    later = state;
    stands = stands;
    steps = record {
      answered = sym answer_is;
      tree = sym step_tree;
      room = subst (λ (o : Option Refusal). RoomAfter o state.tree state.room (Rename from to) state.room) (sym plan.planned.accepted) room_follows;
    };
    fences = let none = fences in omega (arith, none);
    events = omega arith;
  }

  reads_after : Reads volume.size device.words (step volume.size state.tree state.room (Rename from to)).tree
  reads_after = subst (λ (tree : Tree). Reads volume.size device.words tree) (sym step_tree) stands.reads.tree

  abbrev IsAfter : List ℕ → Type 0
  IsAfter image = Reads volume.size image (step volume.size state.tree state.room (Rename from to)).tree

  atomic : IsAtomic volume.size device device state (Rename from to)
  atomic =
      let here = leaves_here (Quietly IsAfter) stands.settled (refl, reads_after) in
      record {
        any_moment = leaves_here (Quietly (MayReadAs volume.size state (Some (Rename from to)))) stands.settled
            (refl, record { sound = stands.tidy.sound; tree = state.tree; reads = stands.reads.tree; allowed = inl refl });
        stays = record { continues = here.continues; each = λ first second begun order upto all image may. (here.each second image (omega (arith, begun, order)) upto may).1 };
      }

  follows : {E : Type 0} → Follows {E = E} volume volume device device state (Rename from to) Done (Ok Told)
  follows = record { made = made; atomic = atomic }

-- the plan of a rename that has nothing to do
pub carried_nothing : {E : Type 0} (volume : VolumeView) (device : DeviceView) → IsSettledView device → volume.stopped ≡ false
    → Carries {E = E} volume volume device device KeepNames Done (λ (command : Command). Unit {0}) (Ok Told)
carried_nothing {E} volume device settled going = record {
  meaning = λ state command ours plan.
      let (from, to, is, same) = planned_keeping volume.size device.words state command plan.planned.plan_is in
      follows_as (Rename from to) command is (follows volume device state from to (subst (λ (c : Command). IsPlanFor volume device state c KeepNames) is plan) same {E = E});
  answered = record { reply = refl; going = going; knows = refl; stopped = tt; size = refl; marked = refl };
  device = intervals_none device Told settled;
  idle = λ none. (refl, refl);
  beside = λ word k. refl;
}
