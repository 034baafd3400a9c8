-- One more name for a file begins beside other calls: what its plan says, and that its first stage stands.
use Rattle.std.proofs.Common.{◌≡◌, ℕ, true, Option, Some, refl, sym, ap, subst, ◌∙◌, arith}
use Rattle.pm_trait.specs.DeviceView.{DeviceView}
use Rattle.pm_trait.specs.Unfolds.{events_in}
use Rattle.tree_model.specs.PathText.{Route}
use Rattle.tree_model.specs.Tree.{is_file, is_file_node}
use Rattle.tree_model.specs.Accepted.{MayLink}
use Rattle.tree_model.specs.Run.{State}
use Rattle.tree_model.specs.declared.command.Command.TheVariants.{Link}
use Rattle.tree_model.proofs.AcceptedLaws.{Accepted-from_row}
use Rattle.image_reading.specs.Residue.{Residue}
use Rattle.image_counts.specs.Laws.{IsApart, ReadsBeside, supply_beside}
use Rattle.image_counts.proofs.Nodes.{size_law}
use Rattle.image_laws.specs.Add.{IsOldFile}
use Rattle.naming_laws.proofs.Named.{names_at}
use Rattle.volume.specs.Volume.{VolumeView}
use Rattle.volume.specs.Planned.{IsLinkFor}
use Rattle.volume.specs.Stages.{HasKept, keeping}
use Rattle.volume.specs.declared.plan.Action.{Action}
use Rattle.volume.specs.declared.plan.NewName.{NewName}
use Rattle.volume.specs.declared.plan.Action.TheVariants.{Name}
use Rattle.volume.proofs.Frees.{reads_beside}
use Rattle.volume.proofs.KeptEvents.{has_kept}
use Rattle.volume.proofs.MayStill.{may_put_alike, name_place_alike}
use Rattle.volume.proofs.Naming.{linked_untouched}
use Rattle.volume.proofs.WalkedBeside.{stands_tree}
use Rattle.unlink_ops.specs.Linking.{linking_steps, IsReady as IsAtFirst}
use Rattle.unlink_ops.specs.LinkStages.{begun, StandsStage}
use Rattle.unlink_ops.proofs.LinkCourse as course
use Rattle.waiting_laws.specs.Beside.{IsReady}
use Rattle.waiting_laws.specs.Linking.{LinkingBeginsLaw}
use Rattle.waiting_laws.proofs.NamingPlaced as placed
use Rattle.waiting_laws.proofs.NamingPlaced.{IsComingName}

same_link : (one other : NewName) → ◌≡◌ {A = Action} (Name one) (Name other) → other ≡ one
same_link one other e = cc

one_number : (x y : ℕ) → ◌≡◌ {A = Option ℕ} (Some x) (Some y) → x ≡ y
one_number x y e = cc

module _ (volume : VolumeView) (device : DeviceView) (state : State) (from path : Route) (link : NewName) (others : Residue) (ready : IsReady volume device state (Link from path) (Name link) others) where
  holds : ReadsBeside volume.size device.words others state
  holds = reads_beside volume device state others ready.prepared.stands

  pub for_link : IsLinkFor volume.size device.words state from path link
  for_link = let (other, is, for) = ready.planned.plan_is in subst (λ (l : NewName). IsLinkFor volume.size device.words state from path l) (same_link link other is) for

  may : MayLink (supply_beside volume.size others) state.tree state.room from path
  may = Accepted-from_row (supply_beside volume.size others) state.tree state.room (Link from path) (stands_tree volume device state others ready.prepared.stands) ready.planned.accepted

  pub coming : IsComingName volume device state others path link.directory link.name link.slot link.new_page
  coming = record {
    stands = ready.prepared.stands;
    new = for_link.new_name;
    may = may.place;
    apart = (linked_untouched volume device state others from path ready.prepared link.directory for_link.new_name.directory_is).apart;
  }

  -- the others have left nothing of its file
  pub file_apart : IsApart volume.size device.words others link.inode
  file_apart = (ready.prepared.untouched.each link.inode (names_at state.tree (stands_tree volume device state others ready.prepared.stands) (Link from path) from link.inode (0, omega arith, refl) for_link.inode_is)).apart

  pub file_is : is_file state.tree link.inode ≡ true
  file_is = subst (λ x. is_file state.tree x ≡ true) (one_number may.source.id link.inode (sym may.source.named ∙ for_link.inode_is)) (ap is_file_node may.source.file)

  pub old_file : IsOldFile volume.size device.words link.inode
  old_file = let (reached, file) = ((size_law volume.size device.words state holds.coherent holds.reads).files link.inode).0 file_is in record { reached = reached; file = file }

  at_first : IsAtFirst volume.size device.words link
  at_first = record {
    whole = ready.prepared.stands.knows.whole;
    file = placed.linkable holds link.inode old_file.reached file_apart;
    place = placed.may_place coming;
  }

  kept : HasKept (keeping volume (Name link)) device (events_in (linking_steps volume.size link))
  kept = subst (λ (n : ℕ). HasKept (keeping volume (Name link)) device n) (course.costs volume.size link)
      (has_kept volume device (Name link) tt ready.few (let room = ready.prepared.stands.room in omega (arith, room)) ready.reserved)

  stands_first : StandsStage (keeping volume (Name link)) device (begun link)
  stands_first = record {
    going = ready.going;
    whole = ready.prepared.stands.knows.whole;
    words = at_first;
    kept = kept;
    name = may_put_alike volume (keeping volume (Name link)) refl link.directory link.name (placed.may_put_last coming);
    place = name_place_alike volume (keeping volume (Name link)) refl link.directory link.new_page ready.reserved.places;
    numbers = record { once = (placed.may_take coming).once; free = (placed.may_take coming).free };
  }

pub linking_begins : LinkingBeginsLaw
linking_begins volume device state from path link others ready = (link, refl, ready.unmarked, stands_first volume device state from path link others ready)
