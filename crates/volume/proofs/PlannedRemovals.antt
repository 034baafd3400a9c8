-- What a planned removal takes away is there: the name, the page that is given back, and the node with its pages.
use Rattle.std.proofs.Common.{◌≡◌, ◌≢◌, ◌⊎◌, inl, inr, ℕ, ◌-◌, ◌≤◌, List, Contains, Option, Some, None, sym, ap, subst, ◌∙◌, arith}
use Rattle.pm_trait.specs.DeviceView.{DeviceView}
use Rattle.layout.specs.Geometry.{inodes_of, page_of_slot}
use Rattle.layout.proofs.GeometryLaws.{page_of_slot_below}
use Rattle.tree_model.specs.PathText.{Route}
use Rattle.tree_model.specs.Tree.{parent, is_directory}
use Rattle.tree_model.specs.Capacity.{untaken}
use Rattle.tree_model.specs.Accepted.{HasHolder}
use Rattle.tree_model.specs.Step.{refusal_of}
use Rattle.tree_model.specs.Run.{State}
use Rattle.tree_model.specs.declared.command.Command.{Command}
use Rattle.tree_model.specs.declared.command.Command.TheVariants.{Unlink, Rmdir}
use Rattle.tree_model.proofs.AcceptedLaws.{Accepted-from_row}
use Rattle.image_reading.specs.Reading.{Reached}
use Rattle.image_reading.proofs.Tidied.{tidied}
use Rattle.image_counts.specs.Entries.{IsPageIn}
use Rattle.image_counts.proofs.Inodes.{free_inode_law}
use Rattle.volatile_index.specs.Index.{inodes_of_index, pages_of}
use Rattle.volume.specs.Volume.{VolumeView}
use Rattle.volume.specs.Stands.{StandsFor}
use Rattle.volume.specs.Planned.{IsNameAt, IsAlone, IsGivenBack, IsRemovalFor}
use Rattle.volume.specs.Carried.{IsPlanFor}
use Rattle.volume.specs.Entered.{IsTaken, MayRemoveName, MayGiveBack, MayGo}
use Rattle.volume.specs.declared.plan.Removal.{Removal}
use Rattle.volume.specs.declared.plan.Action.TheVariants.{Remove}
use Rattle.volume.proofs.PlanActions.{IsOfRemoval, planned_removing}
use Rattle.volume.proofs.Staying.{other_path}
use Rattle.volume.proofs.Places.{owner_is}
use Rattle.volume.proofs.Walked.{stands_tree, reached_at, in_table, in_index}

not_none : {X : Type 0} (page : ℕ) → ◌≡◌ {A = Option ℕ} None (Some page) → X
not_none page is = absurd (cc)

same_some : (x y : ℕ) → ◌≡◌ {A = Option ℕ} (Some x) (Some y) → x ≡ y
same_some x y e = cc

module _ (volume : VolumeView) (device : DeviceView) (state : State) (stands : StandsFor volume device state) where
  pub page_taken : (i page : ℕ) → 1 ≤ i → IsPageIn volume.size device.words i page → IsTaken volume.data_pages page
  page_taken i page least inside = (
    (let below = inside.in_range in omega (arith, below, stands.knows.each_page)),
    (λ free. let none = ((stands.knows.data_pages page inside.in_range).0 free).0 in let own = inside.owner in omega (arith, none, own, least)),
  )

  inode_taken : (i : ℕ) → Reached volume.size device.words i → IsTaken volume.inodes (i - 1)
  inode_taken i reached =
      let (least, most) = in_table volume device i (state, stands) reached in (
        omega (arith, least, most, stands.knows.each_inode),
        (λ free. ((free_inode_law volume.size device.words state (tidied stands.tidy) stands.reads).used i least most).0 reached ((stands.knows.inodes i least most).0 free)),
      )

  -- a node that is reached may go
  pub may_go_reached : (i : ℕ) → Reached volume.size device.words i → MayGo volume i
  may_go_reached i reached =
      let (least, most) = in_index volume device i (state, stands) reached in
      let within = (in_table volume device i (state, stands) reached).1 in
      record {
        least = least;
        most = most;
        inode_taken = inode_taken i reached;
        once = stands.knows.nodes.once i least within;
        pages_taken = λ page there. page_taken i page least ((stands.knows.nodes.pages i page least within).0 there);
      }

  -- ---- of a name that is there

  module _ (path : Route) (directory : ℕ) (name : List ℕ) (slot inode : ℕ) (named : IsNameAt volume.size device.words state path directory name slot inode) where
    directory_reached : Reached volume.size device.words directory
    directory_reached = reached_at volume device state (parent path) directory stands named.directory_is

    pub inode_reached : Reached volume.size device.words inode
    inode_reached = reached_at volume device state path inode stands named.inode_is

    pub holder_in_index : (1 ≤ directory) × (directory ≤ inodes_of_index volume.index)
    holder_in_index = in_index volume device directory (state, stands) directory_reached

    in_inodes : (1 ≤ directory) × (directory ≤ inodes_of volume.size)
    in_inodes = in_table volume device directory (state, stands) directory_reached

    pub may_remove_named : MayRemoveName volume directory name
    may_remove_named = record {
      least = holder_in_index.0;
      most = holder_in_index.1;
      present = (slot, (stands.knows.nodes.entries directory slot name in_inodes.0 in_inodes.1).1 named.slot_is);
    }

    -- the node isn't its directory
    pub differ : HasHolder state.tree path → directory ≢ inode
    differ holder same =
        let held = named.directory_is in
        let holds = ap (is_directory state.tree) (same_some directory holder.directory (sym held ∙ holder.held)) ∙ holder.holds in
        other_path path holder.below ((stands_tree volume device state stands).one_path directory holds (parent path) path held (named.inode_is ∙ ap Some (sym same)))

    -- the page that is given back is the directory's
    pub page_is_in : (page : ℕ) → page ≡ page_of_slot slot → IsPageIn volume.size device.words directory page
    page_is_in page same =
        let entry = named.slot_is in
        subst (IsPageIn volume.size device.words directory) (sym same)
        (record { in_range = page_of_slot_below volume.size slot entry.slot.live.held.in_range; owner = sym (owner_is volume.size device.words slot) ∙ entry.owner })

    -- and may be given back
    pub gives_back : (Emptied : Type 0) (given : Option ℕ) → IsGivenBack Emptied slot given → MayGiveBack volume directory given
    gives_back Emptied None kept = tt
    gives_back Emptied (Some page) (emptied, same) =
        let inside = page_is_in page same in
        ((stands.knows.nodes.pages directory page in_inodes.0 in_inodes.1).1 inside, page_taken directory page in_inodes.0 inside)

    -- and no other node's
    pub of_no_other : (i : ℕ) → Reached volume.size device.words i → directory ≢ i → (Emptied : Type 0) (given : Option ℕ) → IsGivenBack Emptied slot given → (page : ℕ) → given ≡ Some page → ¬ Contains (pages_of volume.index i) page
    of_no_other i reached apart Emptied None kept page is there = absurd (not_none page is)
    of_no_other i reached apart Emptied (Some own) (emptied, same) page is there =
        let (least, within) = in_table volume device i (state, stands) reached in
        let inside = page_is_in page (same_some page own (sym is) ∙ same) in
        apart (sym inside.owner ∙ ((stands.knows.nodes.pages i page least within).0 there).owner)

  holder_of : (command : Command) (path : Route) → refusal_of volume.size state.tree state.room command ≡ None → (command ≡ Unlink path) ⊎ (command ≡ Rmdir path) → HasHolder state.tree path
  holder_of command path accepted is =
      let tree = stands_tree volume device state stands in
      elim is [
        | inl unlink ↦ (Accepted-from_row (untaken volume.size) state.tree state.room (Unlink path) tree (subst (λ (c : Command). refusal_of volume.size state.tree state.room c ≡ None) unlink accepted)).holder
        | inr rmdir ↦ (Accepted-from_row (untaken volume.size) state.tree state.room (Rmdir path) tree (subst (λ (c : Command). refusal_of volume.size state.tree state.room c ≡ None) rmdir accepted)).holder
      ]

-- ---- of a removal

module _ (volume : VolumeView) (device : DeviceView) (state : State) (command : Command) (removal : Removal) (plan : IsPlanFor volume device state command (Remove removal)) where
  abbrev stands : StandsFor volume device state
  stands = plan.stands

  abbrev found : IsOfRemoval volume.size device.words state command removal
  found = planned_removing volume.size device.words state command removal plan.planned.plan_is

  abbrev path : Route
  path = found.0

  abbrev for : IsRemovalFor volume.size device.words state command path removal
  for = found.2

  -- the directory isn't the node
  pub apart : removal.directory ≢ removal.loss.inode
  apart = differ volume device state stands path removal.directory removal.name removal.slot removal.loss.inode for.named (holder_of volume device state stands command path plan.planned.accepted found.1)

  reached : Reached volume.size device.words removal.loss.inode
  reached = inode_reached volume device state stands path removal.directory removal.name removal.slot removal.loss.inode for.named

  pub may_remove : MayRemoveName volume removal.directory removal.name
  may_remove = may_remove_named volume device state stands path removal.directory removal.name removal.slot removal.loss.inode for.named

  pub may_give_back : MayGiveBack volume removal.directory removal.given_back
  may_give_back =
      gives_back volume device state stands path removal.directory removal.name removal.slot removal.loss.inode for.named (IsAlone volume.size device.words removal.slot) removal.given_back for.given_back

  pub may_go : MayGo volume removal.loss.inode
  may_go = may_go_reached volume device state stands removal.loss.inode reached

  -- the page that is given back is none of the node's
  pub page_apart : (page : ℕ) → removal.given_back ≡ Some page → ¬ Contains (pages_of volume.index removal.loss.inode) page
  page_apart =
      of_no_other volume device state stands path removal.directory removal.name removal.slot removal.loss.inode for.named removal.loss.inode reached apart
      (IsAlone volume.size device.words removal.slot) removal.given_back for.given_back
