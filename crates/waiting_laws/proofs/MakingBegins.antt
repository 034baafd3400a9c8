-- The making of an entry begins beside other calls: what its plan says, and that its first stage stands.
use Rattle.std.proofs.Common.{◌≡◌, ◌≢◌, ℕ, List, refl, sym, subst, arith}
use Rattle.std.specs.Prelude.{None}
use Rattle.pm_trait.specs.DeviceView.{DeviceView}
use Rattle.pm_trait.specs.Unfolds.{events_in}
use Rattle.layout.specs.declared.kinds.NodeKind.{NodeKind}
use Rattle.layout.specs.declared.kinds.NodeKind.TheVariants.{File as AFile, Directory as ADirectory}
use Rattle.tree_model.specs.PathText.{Route}
use Rattle.tree_model.specs.Tree.{IsTree}
use Rattle.tree_model.specs.Accepted.{MayMake}
use Rattle.tree_model.specs.Capacity.{Supply}
use Rattle.tree_model.specs.Step.{making as of_kind, refusal_with}
use Rattle.tree_model.specs.Run.{State}
use Rattle.tree_model.specs.declared.command.Command.TheVariants.{Create, Mkdir}
use Rattle.tree_model.proofs.AcceptedLaws.{Accepted-from_row}
use Rattle.image_reading.specs.Reading.{Reached}
use Rattle.image_reading.specs.Residue.{Residue}
use Rattle.image_counts.specs.Laws.{supply_beside}
use Rattle.weave_laws.proofs.FreeBeside.{kindless_unreached}
use Rattle.volume.specs.Volume.{VolumeView}
use Rattle.volume.specs.Planned.{IsEntryFor, IsPlanOf}
use Rattle.volume.specs.Stages.{HasKept, keeping}
use Rattle.volume.specs.declared.plan.NewEntry.{NewEntry}
use Rattle.volume.specs.declared.plan.Action.TheVariants.{Make}
use Rattle.volume.proofs.Frees.{inode_free_beside}
use Rattle.volume.proofs.KeptEvents.{has_kept}
use Rattle.volume.proofs.MayStill.{may_put_alike, name_place_alike}
use Rattle.volume.proofs.Naming.{parent_untouched}
use Rattle.volume.proofs.Plans.{same_entry}
use Rattle.volume.proofs.WalkedBeside.{stands_tree}
use Rattle.create_ops.specs.Making.{steps_of, IsReady as IsAtFirst}
use Rattle.create_ops.specs.Stages.{begun, StandsStage}
use Rattle.create_ops.proofs.Course as course
use Rattle.waiting_laws.specs.Beside.{IsReady}
use Rattle.waiting_laws.specs.Making.{MakingBeginsLaw}
use Rattle.waiting_laws.proofs.NamingPlaced as placed
use Rattle.waiting_laws.proofs.NamingPlaced.{IsComingName}

entry_by : (P : ℕ) (I : List ℕ) (state : State) (path : Route) (kind : NodeKind) (entry : NewEntry) → IsPlanOf P I state (of_kind kind path) (Make entry) → IsEntryFor P I state path kind entry
entry_by P I state path AFile entry (other, is, for) = subst (λ (e : NewEntry). IsEntryFor P I state path AFile e) (sym (same_entry entry other is)) for
entry_by P I state path ADirectory entry (other, is, for) = subst (λ (e : NewEntry). IsEntryFor P I state path ADirectory e) (sym (same_entry entry other is)) for

may_by : (supply : Supply) (state : State) (path : Route) (kind : NodeKind) → IsTree state.tree → refusal_with supply state.tree state.room (of_kind kind path) ≡ None → MayMake supply state.tree state.room path
may_by supply state path AFile tree accepted = Accepted-from_row supply state.tree state.room (Create path) tree accepted
may_by supply state path ADirectory tree accepted = Accepted-from_row supply state.tree state.room (Mkdir path) tree accepted

module _ (volume : VolumeView) (device : DeviceView) (state : State) (path : Route) (entry : NewEntry) (others : Residue) (ready : IsReady volume device state (of_kind entry.kind path) (Make entry) others) where
  pub for_entry : IsEntryFor volume.size device.words state path entry.kind entry
  for_entry = entry_by volume.size device.words state path entry.kind entry ready.planned.plan_is

  pub coming : IsComingName volume device state others path entry.directory entry.name entry.slot entry.new_page
  coming = record {
    stands = ready.prepared.stands;
    new = for_entry.new_name;
    may = (may_by (supply_beside volume.size others) state path entry.kind (stands_tree volume device state others ready.prepared.stands) ready.planned.accepted).place;
    apart = (parent_untouched volume device state others entry.kind path ready.prepared entry.directory for_entry.new_name.directory_is).apart;
  }

  other : entry.directory ≢ entry.inode
  other same = kindless_unreached volume.size device.words entry.inode (placed.holds coming).coherent for_entry.inode_is.free.2 (subst (Reached volume.size device.words) same (placed.reached_d coming).0)

  at_first : IsAtFirst volume.size device.words entry
  at_first = record {
    whole = ready.prepared.stands.knows.whole;
    least = for_entry.inode_is.free.0;
    most = for_entry.inode_is.free.1;
    inode = placed.inode_free (placed.holds coming) entry.inode for_entry.inode_is.free;
    place = placed.may_place coming;
    parent = placed.linkable_d coming;
    other = other;
  }

  kept : HasKept (keeping volume (Make entry)) device (events_in (steps_of volume.size entry))
  kept = subst (λ (n : ℕ). HasKept (keeping volume (Make entry)) device n) (course.costs volume.size entry)
      (has_kept volume device (Make entry) tt ready.few (let room = ready.prepared.stands.room in omega (arith, room)) ready.reserved)

  stands_first : StandsStage (keeping volume (Make entry)) device (begun entry)
  stands_first = record {
    going = ready.going;
    whole = ready.prepared.stands.knows.whole;
    words = at_first;
    kept = kept;
    name = may_put_alike volume (keeping volume (Make entry)) refl entry.directory entry.name (placed.may_put_last coming);
    place = name_place_alike volume (keeping volume (Make entry)) refl entry.directory entry.new_page ready.reserved.places;
    numbers = (inode_free_beside volume device state others ready.prepared.stands entry.inode for_entry.inode_is.free, record { once = (placed.may_take coming).once; free = (placed.may_take coming).free });
  }

pub making_begins : MakingBeginsLaw
making_begins volume device state path entry others ready = (entry, refl, ready.unmarked, stands_first volume device state path entry others ready)
