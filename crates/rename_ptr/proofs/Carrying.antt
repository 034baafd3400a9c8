-- The plan of a move is carried out, once the name has its new place on the device and in the volume.
use Rattle.std.proofs.Common.{◌≡◌, ℕ, ◌+◌, ◌*◌, ◌<◌, ◌≤◌, List, [], true, false, cond, length, Contains, refl, Some, None, sym, ap, subst, ◌∙◌, arith}
use Rattle.std.specs.Prelude.{Option, Result, Ok, Err}
use Rattle.pm_trait.specs.DeviceView.{DeviceView, MakesIntervals}
use Rattle.pm_trait.specs.Unfolds.{KeepsWords, MayFence, events_in, Unfolds}
use Rattle.pm_trait.proofs.DeviceViewLaws.{intervals_as}
use Rattle.pm_trait.proofs.Unfolding.{words_kept}
use Rattle.layout.specs.Name.{IsName, IsBytes}
use Rattle.layout.specs.Superblock.{IsSuperblockWord, has_mark}
use Rattle.tree_model.specs.PathText.{Route}
use Rattle.tree_model.specs.Run.{State}
use Rattle.tree_model.specs.Step.{Done}
use Rattle.tree_model.specs.declared.command.Command.{Command}
use Rattle.tree_model.specs.declared.command.Command.TheVariants.{Rename}
use Rattle.tree_model.specs.declared.reply.Reply.TheVariants.{Done as Told}
use Rattle.image_reading.specs.Reading.{Reached}
use Rattle.volatile_index.specs.Index.{pages_of}
use Rattle.volume.specs.Carried.{IsPlanFor, MayCarry, IsAtomic, Follows, Carries}
use Rattle.volume.specs.Costs.{kept_events, events_of, fences_of_plan}
use Rattle.volume.specs.Entered.{HasMoved, HasMovePlace, TakesName}
use Rattle.volume.specs.Volume.{VolumeView}
use Rattle.volume.specs.declared.plan.Action.{Action}
use Rattle.volume.specs.declared.plan.Action.TheVariants.{Move}
use Rattle.volume.specs.declared.plan.Loss.{Loss}
use Rattle.volume.specs.declared.plan.Moving.{Moving}
use Rattle.volume.proofs.PlanActions.{planned_moving}
use Rattle.volume.proofs.Unmarked.{moments_read}
use Rattle.volume.proofs.PlannedMoves
use Rattle.volume.proofs.KeptEvents.{bounded, events_few}
use Rattle.volume.specs.Stages.{keeping}
use Rattle.plan_laws.proofs.Left.{KeepsMark, kept_room}
use Rattle.entry_steps.proofs.Answered.{failed_as, follows_as}
use Rattle.entry_steps.proofs.Facts.{enters_mark, leaves_page_mark, leaves_inode_mark}
use Rattle.entry_steps.proofs.Reserved.{enough}
use Rattle.removal_steps.specs.Steps.{AreGonePages, gone_pages}
use Rattle.removal_steps.proofs.NodePages
use Rattle.removal_steps.proofs.NodePages.{gone_counted}
use Rattle.volume.specs.Planned.{IsTargetOf}
use Rattle.volume.proofs.Walked.{reached_at}
use Rattle.volume.specs.Costs.{pages_of_loss}
use Rattle.rename_ptr.specs.Steps.{steps_of}
use Rattle.rename_ptr.specs.Renaming.{IsMovingAt, IsRenamed, HasRenamed}
use Rattle.rename_ptr.specs.Stages.{HasPlaceFor, MayLose, KnowsMove, StandsStage}
use Rattle.rename_ptr.specs.declared.rename.Progress.TheVariants.{Begun}
use Rattle.rename_ptr.specs.declared.rename.Stage.TheVariants.{Moving as Moves}
use Rattle.rename_ptr.proofs.Beside.{keeps}
use Rattle.rename_ptr.proofs.Costs.{costs}
use Rattle.rename_ptr.proofs.Given.{no_pages}
use Rattle.rename_ptr.proofs.Known.{knows_kept}
use Rattle.rename_ptr.proofs.MovedState
use Rattle.rename_ptr.proofs.MovedVolume
use Rattle.rename_ptr.proofs.Turned

some_events : (moving : Moving) → events_of (Move moving) ≡ 0 → ⊥
some_events moving none = omega (arith, none)

more_events : (moving : Moving) → 0 < events_of (Move moving)
more_events moving = omega arith

-- the move of a plan
same_moving : (moving other : Moving) → ◌≡◌ {A = Action} (Move moving) (Move other) → moving ≡ other
same_moving moving other e = cc

no_loss : (loss : Loss) → ◌≡◌ {A = Option Loss} None (Some loss) → ⊥
no_loss loss e = cc

same_loss : (one other : Loss) → ◌≡◌ {A = Option Loss} (Some one) (Some other) → one ≡ other
same_loss one other e = cc

-- the volume knows the mark as before
named_marked : (volume new : VolumeView) (moving : Moving) (replaced : Option Loss) → TakesName volume new moving replaced → new.marked ≡ volume.marked
named_marked volume new moving None enters = enters_mark volume new moving.to_directory moving.to_name moving.to_slot moving.new_page enters
named_marked volume new moving (Some loss) leaves = leaves_inode_mark volume new loss.goes loss.inode leaves

moved_marked : (volume new : VolumeView) (moving : Moving) → HasMoved volume new moving → new.marked ≡ volume.marked
moved_marked volume new moving moved =
    leaves_page_mark moved.named new moving.from_directory moving.given_back moved.page
    ∙ named_marked moved.unnamed moved.named moving moving.replaced moved.target
    ∙ ap (λ (v : VolumeView). v.marked) moved.source.rest

-- The plan of a move, whose action this is, with a name of bytes.
module _ {volume : VolumeView} {old : DeviceView} {action : Action} {moving : Moving} (planned : (state : State) × (from : Route) × (to : Route) × IsPlanFor volume old state (Rename from to) action) (is : action ≡ Move moving) where
  pub plan : IsPlanFor volume old planned.0 (Rename planned.1 planned.2) (Move moving)
  plan = subst (IsPlanFor volume old planned.0 (Rename planned.1 planned.2)) is planned.3

  abbrev gone : List ℕ
  gone = gone_pages volume moving.replaced

  -- the device has no mark
  no_mark : MayCarry volume old (Move moving) → has_mark old.words ≡ false
  no_mark ready = sym plan.stands.mark ∙ ready.unmarked (more_events moving)

  -- the command of its plan
  found : (state : State) (command : Command) → IsPlanFor volume old state command (Move moving) → (from : Route) × (to : Route) × (command ≡ Rename from to)
  found state command plan = let (from, to, is, for) = planned_moving volume.size old.words state command moving plan.planned.plan_is in (from, to, is)

  by_command : (state : State) (command : Command) (from to : Route) → command ≡ Rename from to → IsPlanFor volume old state command (Move moving) → IsPlanFor volume old state (Rename from to) (Move moving)
  by_command state command from to same plan = subst (λ (c : Command). IsPlanFor volume old state c (Move moving)) same plan

  -- ---- at its begin

  abbrev command : Command
  command = Rename planned.1 planned.2

  replaced_by : (replaced : Option Loss) → moving.replaced ≡ replaced → ((loss : Loss) → replaced ≡ Some loss → Reached volume.size old.words loss.inode) × (AreGonePages volume.size old.words replaced gone → length gone ≡ pages_of_loss replaced)
  replaced_by None same = ((λ loss is. absurd (no_loss loss is)), no_pages volume.size old.words gone)
  replaced_by (Some lost) same =
      let (from, to, is, for) = planned_moving volume.size old.words planned.0 command moving plan.planned.plan_is in
      let (named, loss_is, page) = subst (IsTargetOf volume.size old.words planned.0 from to moving) same for.target in (
        (λ loss is. subst (λ (l : Loss). Reached volume.size old.words l.inode) (same_loss lost loss is) (reached_at volume old planned.0 to lost.inode plan.stands named.inode_is)),
        gone_counted volume.size old.words planned.0 (Rename from to) lost gone loss_is,
      )

  are : AreGonePages volume.size old.words moving.replaced gone
  are = NodePages.gone_pages_are volume old planned.0 plan.stands moving.replaced (replaced_by moving.replaced refl).0

  counted : length gone ≡ pages_of_loss moving.replaced
  counted = (replaced_by moving.replaced refl).1 are

  pub costs_all : events_of (Move moving) ≡ events_in (steps_of volume.size moving gone)
  costs_all = costs volume.size moving gone counted

  -- what was reserved is enough for all steps
  enough_room : MayCarry volume old (Move moving) → events_of (Move moving) ≤ old.spare
  enough_room ready = enough (events_of (Move moving)) (kept_events volume.marked + volume.kept) old.spare ready.reserved.room

  pub may_fence : MayCarry volume old (Move moving) → MayFence old (512 * volume.size) (events_in (steps_of volume.size moving gone)) 8
  may_fence ready = record {
    whole = plan.stands.knows.whole;
    settled = plan.stands.settled;
    room = subst (λ (n : ℕ). n ≤ old.spare) costs_all (enough_room ready);
    countable = let few = ready.countable in omega (arith, few);
  }

  lose_by : (replaced : Option Loss) → moving.replaced ≡ replaced → MayLose volume moving replaced
  lose_by None is = tt
  lose_by (Some loss) is =
      let may = PlannedMoves.may_go volume old planned.0 command moving plan loss is in
      (may.least, may.most, (λ goes. (may, PlannedMoves.apart_from_loss volume old planned.0 command moving plan loss is)))

  no_page : (page : ℕ) → Contains [] page → ⊥
  no_page page (k, inside, is) = omega (arith, inside)

  apart_by : (replaced : Option Loss) → moving.replaced ≡ replaced → (page : ℕ) → moving.given_back ≡ Some page → Contains (gone_pages volume replaced) page → ⊥
  apart_by None is page given among = no_page page among
  apart_by (Some loss) is page given among =
      elim loss.goes as (λ goes. Contains (cond goes (pages_of volume.index loss.inode) []) page → ⊥) [
        | true ↦ λ among. PlannedMoves.page_apart volume old planned.0 command moving plan loss is page given among
        | false ↦ λ among. no_page page among
      ] among

  target_by : (replaced : Option Loss) → moving.replaced ≡ replaced → HasMovePlace volume moving replaced → HasPlaceFor volume moving replaced
  target_by None is place = (PlannedMoves.may_put volume old planned.0 command moving plan is, place)
  target_by (Some loss) is place = tt

  knows : MayCarry volume old (Move moving) → KnowsMove volume moving Begun
  knows ready =
      let remove = PlannedMoves.may_remove volume old planned.0 command moving plan in
      record {
        numbers = PlannedMoves.may_take volume old planned.0 command moving plan;
        names = record { source = remove; target = target_by moving.replaced refl ready.reserved.places };
        losses = record {
          directory = (remove.least, remove.most);
          count = counted;
          few = bounded volume old planned.0 command (Move moving) plan;
          page = PlannedMoves.may_give_back volume old planned.0 command moving plan;
          inode = lose_by moving.replaced refl;
          apart = λ page given among. apart_by moving.replaced refl page given among;
        };
      }

  pub stands_first : MayCarry volume old (Move moving) → StandsStage (keeping volume (Move moving)) old (Moves moving Begun)
  stands_first ready = record {
    going = ready.going;
    whole = plan.stands.knows.whole;
    at = (
      record { first = old.words; planned = (planned.0, planned.1, planned.2, record { tidy = plan.stands.tidy; reads = plan.stands.reads; planned = plan.planned }); pages_are = are; made = refl; store = tt },
      knows_kept volume (volume.kept + events_of (Move moving)) moving Begun (knows ready),
    );
    kept =
        let none = plan.stands.no_call in
        let few = events_few (Move moving) (bounded volume old planned.0 command (Move moving) plan) in
        let room = enough_room ready in
        let same = costs_all in
        record { among = omega (arith, same); countable = omega (arith, none, few); room = omega (arith, none, room) };
  }

  -- a node that is replaced has its name's page already
  pub no_new_page : (loss : Loss) → moving.replaced ≡ Some loss → moving.new_page ≡ None
  no_new_page = PlannedMoves.no_new_page volume old planned.0 command moving plan

  -- ---- at its end, with a name of bytes

  module _ (is_name : IsName moving.to_name) (of_bytes : IsBytes moving.to_name) where
    -- the plan of a volume that stands is one at its words
    moving_at : (state : State) (from to : Route) → IsPlanFor volume old state (Rename from to) (Move moving) → IsMovingAt volume.size old.words state from to moving
    moving_at state from to plan = record { tidy = plan.stands.tidy; reads = plan.stands.reads; planned = plan.planned; is_name = is_name; of_bytes = of_bytes }

    at : IsMovingAt volume.size old.words planned.0 planned.1 planned.2 moving
    at = moving_at planned.0 planned.1 planned.2 plan

    module _ {T E : Type 0} {new : DeviceView} {result : Result T E} (made : Unfolds (steps_of volume.size moving gone) old new result) where
      has_renamed : HasRenamed volume.size old new moving gone result
      has_renamed = Turned.has_renamed old planned.1 planned.2 at gone are new result plan.stands.settled made

      pub stored : (other : Moving) → action ≡ Move other → HasRenamed volume.size old new other (gone_pages volume other.replaced) result
      stored other same = subst (λ (m : Moving). HasRenamed volume.size old new m (gone_pages volume m.replaced) result) (same_moving moving other (sym is ∙ same)) has_renamed

      device : MakesIntervals old new (events_of (Move moving)) (fences_of_plan (Move moving)) result
      device = Turned.all_intervals old planned.1 planned.2 at gone are new result plan.stands.settled made

      beside : KeepsWords IsSuperblockWord old.words new.words
      beside = words_kept IsSuperblockWord (keeps volume.size moving gone) made

      atomic : MayCarry volume old (Move moving) → (state : State) (from to : Route) → IsMovingAt volume.size old.words state from to moving → IsAtomic volume.size old new state (Rename from to)
      atomic ready state from to at =
          let under = Turned.underway old from to at gone are new result plan.stands.settled made in
          let reads = moments_read volume.size state (Some (Rename from to)) plan.stands.settled (no_mark ready) (keeps volume.size moving gone) made under.any_moment in
          record { any_moment = reads; stays = under.stays }

    module _ {E T : Type 0} {done : T} {new : DeviceView} {after : VolumeView} (unfolds : Unfolds {E = E} (steps_of volume.size moving gone) old new (Ok done)) (has : HasMoved volume after moving) (kept : after.kept ≡ volume.kept)
        (ready : MayCarry volume old (Move moving)) where
      renamed : IsRenamed volume.size old.words new.words moving
      renamed = (has_renamed unfolds).made

      keeps_mark : KeepsMark volume after old.words new.words new
      keeps_mark = record {
        known = plan.stands.mark;
        same = moved_marked volume after moving has;
        beside = beside unfolds;
        room = kept_room volume.marked volume.kept (Move moving) old new (more_events moving) ready.reserved.room (device unfolds).room;
        no_call = kept ∙ plan.stands.no_call;
      }

      follows : (state : State) (from to : Route) → IsPlanFor volume old state (Rename from to) (Move moving) → Follows {E = E} volume after old new state (Rename from to) Done (Ok Told)
      follows state from to plan =
          let all = device unfolds in
          let at = moving_at state from to plan in
          record {
            made = MovedState.leaves_state from to at new.words renamed volume after refl plan.stands.knows has old new refl all.settled (all.counted, all.grown) keeps_mark;
            atomic = atomic unfolds ready state from to at;
          }

      carried_all : Carries {E = E} volume after old new action Done (λ (command : Command). Unit {0}) (Ok Told)
      carried_all = subst (λ (a : Action). Carries {E = E} volume after old new a Done (λ (command : Command). Unit {0}) (Ok Told)) (sym is) (record {
        meaning = λ state command ours plan.
            let (from, to, same) = found state command plan in
            follows_as (Rename from to) command same (follows state from to (by_command state command from to same plan));
        answered = record {
          reply = refl;
          going = MovedVolume.same_state planned.1 planned.2 at new.words renamed volume after refl plan.stands.knows has ∙ ready.going;
          knows = has;
          stopped = tt;
          size = MovedVolume.same_size planned.1 planned.2 at new.words renamed volume after refl plan.stands.knows has;
          marked = moved_marked volume after moving has;
        };
        device = intervals_as Told (device unfolds);
        idle = λ none. absurd (some_events moving none);
        beside = beside unfolds;
      })

    pub carried : {E T : Type 0} {done : T} {new : DeviceView} {after : VolumeView} → Unfolds {E = E} (steps_of volume.size moving gone) old new (Ok done) → HasMoved volume after moving → after.kept ≡ volume.kept → MayCarry volume old action
        → Carries {E = E} volume after old new action Done (λ (command : Command). Unit {0}) (Ok Told)
    carried unfolds has kept carry = carried_all unfolds has kept (subst (MayCarry volume old) is carry)

    -- a fence failed, and the volume is stopped
    pub carried_no_further : {E F T : Type 0} {new : DeviceView} {after : VolumeView} {failed : F} (fault : E) → Unfolds {T = T} (steps_of volume.size moving gone) old new (Err failed)
        → MayCarry volume old action → after.stopped ≡ true → after.size ≡ volume.size → after.marked ≡ volume.marked → Carries {E = E} volume after old new action Done (λ (command : Command). Unit {0}) (Err fault)
    carried_no_further {E = E} {new = new} {after} fault unfolds carry stopped size marked =
        let ready = subst (MayCarry volume old) is carry in
        subst (λ (a : Action). Carries {E = E} volume after old new a Done (λ (command : Command). Unit {0}) (Err fault)) (sym is) (record {
          meaning = λ state command ours plan.
              let (from, to, same) = found state command plan in
              follows_as (Rename from to) command same
              (record { made = tt; atomic = atomic unfolds ready state from to (moving_at state from to (by_command state command from to same plan)) });
          answered = record { reply = tt; going = tt; knows = tt; stopped = stopped; size = size; marked = marked };
          device = failed_as fault (device unfolds);
          idle = λ none. absurd (some_events moving none);
          beside = beside unfolds;
        })
