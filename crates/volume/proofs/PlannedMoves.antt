-- What a planned move takes away is there, and what it adds is new.
use Rattle.std.proofs.Common.{◌≡◌, ◌≢◌, inl, inr, ℕ, ◌&&◌, ◌==◌, true, true≢false, Contains, Option, Some, None, is_some, unwrap_or, sym, ap, subst, ◌∙◌, arith}
use Rattle.std.proofs.lemmas.Bool.Decides.{nat_tests}
use Rattle.pm_trait.specs.DeviceView.{DeviceView}
use Rattle.tree_model.specs.PathText.{Route}
use Rattle.tree_model.specs.Tree.{IsTree, root_id, parent, id_at, is_directory, is_number}
use Rattle.tree_model.specs.Capacity.{untaken}
use Rattle.tree_model.specs.Accepted.{MayRename}
use Rattle.tree_model.specs.Step.{refusal_of}
use Rattle.tree_model.specs.Run.{State}
use Rattle.tree_model.specs.declared.command.Command.{Command}
use Rattle.tree_model.specs.declared.command.Command.TheVariants.{Rename}
use Rattle.tree_model.proofs.AcceptedLaws.{Accepted-from_row}
use Rattle.tree_model.proofs.TreeLess.{HasNoNames-empty}
use Rattle.image_reading.specs.Reading.{Reached}
use Rattle.volatile_index.specs.Index.{pages_of}
use Rattle.volume.specs.Volume.{VolumeView}
use Rattle.volume.specs.Stands.{StandsFor}
use Rattle.volume.specs.Planned.{IsEmptiedBy, IsTargetOf, IsMovingFor}
use Rattle.volume.specs.Carried.{IsPlanFor}
use Rattle.volume.specs.Entered.{pages_of_option, MayTakePages, MayPutName, MayRemoveName, MayGiveBack, MayGo}
use Rattle.volume.specs.declared.plan.Loss.{Loss}
use Rattle.volume.specs.declared.plan.Moving.{Moving}
use Rattle.volume.specs.declared.plan.Action.TheVariants.{Move}
use Rattle.volume.proofs.PlanActions.{IsOfMove, planned_moving}
use Rattle.volume.proofs.Walked.{stands_tree}
use Rattle.volume.proofs.PlannedRemovals.{may_go_reached, inode_reached, may_remove_named, differ, gives_back, of_no_other}
use Rattle.volume.proofs.PlannedNames.{may_take_none, may_take_new, may_put_new}

same_some : (x y : ℕ) → ◌≡◌ {A = Option ℕ} (Some x) (Some y) → x ≡ y
same_some x y e = cc

same_number : (a b : ℕ) → (a == b) && true ≡ true → a ≡ b
same_number a b e = grind (arith, nat_tests)

module _ (volume : VolumeView) (device : DeviceView) (state : State) (command : Command) (moving : Moving) (plan : IsPlanFor volume device state command (Move moving)) where
  abbrev stands : StandsFor volume device state
  stands = plan.stands

  tree : IsTree state.tree
  tree = stands_tree volume device state stands

  abbrev found : IsOfMove volume.size device.words state command moving
  found = planned_moving volume.size device.words state command moving plan.planned.plan_is

  abbrev from : Route
  from = found.0

  abbrev to : Route
  to = found.1

  abbrev for : IsMovingFor volume.size device.words state from to moving
  for = found.3

  accepted : MayRename (untaken volume.size) state.tree state.room from to
  accepted = Accepted-from_row (untaken volume.size) state.tree state.room (Rename from to) tree (subst (λ (c : Command). refusal_of volume.size state.tree state.room c ≡ None) found.2 plan.planned.accepted)

  pub may_remove : MayRemoveName volume moving.from_directory moving.from_name
  may_remove = may_remove_named volume device state stands from moving.from_directory moving.from_name moving.from_slot moving.inode for.source

  pub may_give_back : MayGiveBack volume moving.from_directory moving.given_back
  may_give_back =
      gives_back volume device state stands from moving.from_directory moving.from_name moving.from_slot moving.inode for.source (IsEmptiedBy volume.size device.words moving) moving.given_back for.given_back

  -- ---- the new name

  -- a replaced node isn't the directory of the source, which has a name
  apart : (loss : Loss) → id_at state.tree to ≡ Some loss.inode → moving.from_directory ≢ loss.inode
  apart loss named same = elim accepted.moves [
    | inl one ↦
        differ volume device state stands from moving.from_directory moving.from_name moving.from_slot moving.inode for.source accepted.old_holder
        (same ∙ sym (same_number moving.inode loss.inode (sym (λ i. is_number (for.source.inode_is i) (unwrap_or (named i) root_id) && is_some (named i)) ∙ one)))
    | inr move ↦ elim move.target [
      | inl name ↦ true≢false (sym (ap is_some named) ∙ ap is_some name.absent)
      | inr replace ↦
          let holder = accepted.old_holder in
          let held = for.source.directory_is in
          let holds = ap (is_directory state.tree) (same_some moving.from_directory holder.directory (sym held ∙ holder.held)) ∙ holder.holds in
          HasNoNames-empty state.tree to replace.target.id replace.target.named replace.empty from (ap is_some for.source.inode_is) holder.below
          (tree.one_path moving.from_directory holds (parent from) to held (named ∙ ap Some (sym same)))
    ]
  ]

  -- it isn't there, and its page is free
  puts : (replaced : Option Loss) → IsTargetOf volume.size device.words state from to moving replaced → replaced ≡ None → MayPutName volume moving.to_directory moving.to_name
  puts None (none, new) is = may_put_new volume device state stands to moving.to_directory moving.to_name moving.to_slot moving.new_page new none accepted.new_holder.below
  puts (Some loss) target is = absurd (cc)

  pub may_put : moving.replaced ≡ None → MayPutName volume moving.to_directory moving.to_name
  may_put is = puts moving.replaced for.target is

  takes : (replaced : Option Loss) → IsTargetOf volume.size device.words state from to moving replaced → MayTakePages volume (pages_of_option moving.new_page)
  takes None (none, new) = may_take_new volume device state stands to moving.to_directory moving.to_name moving.to_slot moving.new_page new
  takes (Some loss) (named, is_loss, no_page) = subst (λ (page : Option ℕ). MayTakePages volume (pages_of_option page)) (sym no_page) (may_take_none volume)

  pub may_take : MayTakePages volume (pages_of_option moving.new_page)
  may_take = takes moving.replaced for.target

  -- ---- the replaced node

  module _ (loss : Loss) (is : moving.replaced ≡ Some loss) where
    target : IsTargetOf volume.size device.words state from to moving (Some loss)
    target = subst (IsTargetOf volume.size device.words state from to moving) is for.target

    -- it needs no new page
    pub no_new_page : moving.new_page ≡ None
    no_new_page = target.2

    loss_reached : Reached volume.size device.words loss.inode
    loss_reached = inode_reached volume device state stands to moving.to_directory moving.to_name moving.to_slot loss.inode target.0

    pub may_go : MayGo volume loss.inode
    may_go = may_go_reached volume device state stands loss.inode loss_reached

    -- it isn't the directory of the source, and has no page of it
    pub apart_from_loss : moving.from_directory ≢ loss.inode
    apart_from_loss = apart loss target.0.inode_is

    pub page_apart : (page : ℕ) → moving.given_back ≡ Some page → ¬ Contains (pages_of volume.index loss.inode) page
    page_apart =
        of_no_other volume device state stands from moving.from_directory moving.from_name moving.from_slot moving.inode for.source loss.inode loss_reached apart_from_loss
        (IsEmptiedBy volume.size device.words moving) moving.given_back for.given_back
