-- What a planned entry and a planned name take is free, and the name isn't there.
use Rattle.std.proofs.Common.{◌≡◌, ℕ, ◌-◌, ◌≤◌, false, List, [], ◌∷◌, ◌++◌, Contains, Option, Some, None, is_some, sym, ap, subst, ◌∙◌, arith, true≢false}
use Rattle.pm_trait.specs.DeviceView.{DeviceView}
use Rattle.layout.specs.declared.kinds.NodeKind.{NodeKind}
use Rattle.layout.specs.declared.kinds.NodeKind.TheVariants.{File, Directory}
use Rattle.tree_model.specs.PathText.{Route}
use Rattle.tree_model.specs.Tree.{IsTree, is_root, parent, id_at}
use Rattle.tree_model.specs.Capacity.{untaken}
use Rattle.tree_model.specs.Accepted.{MayName, MayMake}
use Rattle.tree_model.specs.Step.{making, refusal_of}
use Rattle.tree_model.specs.Run.{State}
use Rattle.tree_model.specs.declared.command.Command.{Command}
use Rattle.tree_model.specs.declared.command.Command.TheVariants.{Create, Mkdir, Link}
use Rattle.tree_model.proofs.AcceptedLaws.{Accepted-from_row}
use Rattle.allocators.specs.Numbers.{IsFree}
use Rattle.volatile_index.specs.Index.{entries_of}
use Rattle.volume.specs.Volume.{VolumeView}
use Rattle.volume.specs.Stands.{StandsFor}
use Rattle.volume.specs.Planned.{IsPlace, IsNewNameAt, IsEntryFor, IsPlanOf}
use Rattle.volume.specs.Carried.{IsPlanFor}
use Rattle.volume.specs.Entered.{pages_of_option, MayTakePages, MayPutName}
use Rattle.volume.specs.declared.plan.NewEntry.{NewEntry}
use Rattle.volume.specs.declared.plan.NewName.{NewName}
use Rattle.volume.specs.declared.plan.Action.TheVariants.{Make, Name}
use Rattle.volume.proofs.Beside.{standing_beside}
use Rattle.volume.proofs.Frees.{inode_free}
use Rattle.volume.proofs.PlanActions.{IsOfLink, planned_linking}
use Rattle.volume.proofs.Plans.{same_entry, planned_making}
use Rattle.volume.proofs.Walked.{stands_tree, reached_at, in_index, below_there}
use Rattle.volume.proofs.Ways.{whole_path}
use Rattle.volume.proofs.Places.{page_free, in_one}

-- ---- of a new name

pub may_take_none : (volume : VolumeView) → MayTakePages volume []
may_take_none volume = record { once = tt; free = λ page (place, within, is). absurd (omega (arith, within)) }

module _ (volume : VolumeView) (device : DeviceView) (state : State) (stands : StandsFor volume device state) (path : Route) (directory : ℕ) (name : List ℕ) (slot : ℕ) (new_page : Option ℕ)
    (new : IsNewNameAt volume.size device.words state path directory name slot new_page) where
  takes : (page : Option ℕ) → IsPlace volume.size device.words directory slot page → MayTakePages volume (pages_of_option page)
  takes None place = may_take_none volume
  takes (Some page) place = record {
    once = ((λ none. none), tt);
    free = λ other there. subst (IsFree volume.data_pages) (sym (in_one page other there)) (page_free volume device (standing_beside volume device (state, stands)) page place.page_is.free);
  }

  pub may_take_new : MayTakePages volume (pages_of_option new_page)
  may_take_new = takes new_page new.place

  pub may_put_new : id_at state.tree path ≡ None → is_root path ≡ false → MayPutName volume directory name
  may_put_new none below =
      let (least, most) = in_index volume device directory (state, stands) (reached_at volume device state (parent path) directory stands new.directory_is) in
      record {
        least = least;
        most = most;
        absent = λ entry there same.
            let named = below_there volume device state (parent path) directory entry.slot name stands new.directory_is
            (subst (λ (n : List ℕ). Contains (entries_of volume.index directory) (record { name = n; slot = entry.slot })) same there) in
            let whole = whole_path path below ∙ ap (λ (n : List ℕ). parent path ++ n ∷ []) (sym new.name_is) in
            true≢false (sym (ap is_some named) ∙ ap (λ (p : Route). is_some (id_at state.tree p)) (sym whole) ∙ ap is_some none);
      }

-- ---- of a link

module _ (volume : VolumeView) (device : DeviceView) (state : State) (command : Command) (link : NewName) (plan : IsPlanFor volume device state command (Name link)) where
  abbrev of_link : IsOfLink volume.size device.words state command link
  of_link = planned_linking volume.size device.words state command link plan.planned.plan_is

  place_of_link : MayName (untaken volume.size) state.tree state.room of_link.1
  place_of_link =
      (Accepted-from_row (untaken volume.size) state.tree state.room (Link of_link.0 of_link.1) (stands_tree volume device state plan.stands)
      (subst (λ (c : Command). refusal_of volume.size state.tree state.room c ≡ None) of_link.2 plan.planned.accepted)).place

  pub may_take_linked : MayTakePages volume (pages_of_option link.new_page)
  may_take_linked = may_take_new volume device state plan.stands of_link.1 link.directory link.name link.slot link.new_page of_link.3.new_name

  pub may_put_linked : MayPutName volume link.directory link.name
  may_put_linked = may_put_new volume device state plan.stands of_link.1 link.directory link.name link.slot link.new_page of_link.3.new_name place_of_link.absent place_of_link.holder.below

-- ---- of an entry

entry_by : (P : ℕ) (I : List ℕ) (state : State) (path : Route) (kind : NodeKind) (entry : NewEntry) → IsPlanOf P I state (making kind path) (Make entry) → IsEntryFor P I state path kind entry
entry_by P I state path File entry (other, is, for) = subst (λ (e : NewEntry). IsEntryFor P I state path File e) (sym (same_entry entry other is)) for
entry_by P I state path Directory entry (other, is, for) = subst (λ (e : NewEntry). IsEntryFor P I state path Directory e) (sym (same_entry entry other is)) for

may_by : (P : ℕ) (state : State) (path : Route) (kind : NodeKind) → IsTree state.tree → refusal_of P state.tree state.room (making kind path) ≡ None → MayMake (untaken P) state.tree state.room path
may_by P state path File tree accepted = Accepted-from_row (untaken P) state.tree state.room (Create path) tree accepted
may_by P state path Directory tree accepted = Accepted-from_row (untaken P) state.tree state.room (Mkdir path) tree accepted

module _ (volume : VolumeView) (device : DeviceView) (state : State) (command : Command) (entry : NewEntry) (plan : IsPlanFor volume device state command (Make entry)) where
  tree : IsTree state.tree
  tree = stands_tree volume device state plan.stands

  abbrev of_making : (path : Route) × (command ≡ making entry.kind path)
  of_making = planned_making volume.size device.words state command entry plan.planned.plan_is

  for_entry : IsEntryFor volume.size device.words state of_making.0 entry.kind entry
  for_entry = entry_by volume.size device.words state of_making.0 entry.kind entry (subst (λ (c : Command). IsPlanOf volume.size device.words state c (Make entry)) of_making.1 plan.planned.plan_is)

  may : MayMake (untaken volume.size) state.tree state.room of_making.0
  may = may_by volume.size state of_making.0 entry.kind tree (subst (λ (c : Command). refusal_of volume.size state.tree state.room c ≡ None) of_making.1 plan.planned.accepted)

  pub may_take_made : MayTakePages volume (pages_of_option entry.new_page)
  may_take_made = may_take_new volume device state plan.stands of_making.0 entry.directory entry.name entry.slot entry.new_page for_entry.new_name

  pub may_put_made : MayPutName volume entry.directory entry.name
  may_put_made = may_put_new volume device state plan.stands of_making.0 entry.directory entry.name entry.slot entry.new_page for_entry.new_name may.place.absent may.place.holder.below

  -- ---- its inode

  pub inode_from_one : 1 ≤ entry.inode
  inode_from_one = for_entry.inode_is.free.0

  pub may_take_inode : IsFree volume.inodes (entry.inode - 1)
  may_take_inode = inode_free volume device state plan.stands entry.inode for_entry.inode_is.free
