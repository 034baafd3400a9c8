-- The row of a link, by what the volume knows.
use Rattle.std.proofs.Common.{◌≡◌, ℕ, Bool, true, false, nat_lt, List, [], ◌∷◌, Option, Some, unwrap_or, Ok, Err, refl, ap, ◌∙◌}
use Rattle.pm_trait.specs.DeviceView.{DeviceView}
use Rattle.tree_model.specs.PathText.{Route}
use Rattle.tree_model.specs.Tree.{root_id, is_root, parent, id_at, is_directory}
use Rattle.tree_model.specs.Walk.{root_place, walk, walk_to_parent}
use Rattle.tree_model.proofs.WalkLaws.{id_at-from_walk}
use Rattle.tree_model.specs.Capacity.{Supply, free_pages}
use Rattle.tree_model.specs.Step.{first, at, fault_of, id_of, is_there, page_for_name, refusal_with}
use Rattle.tree_model.specs.Run.{State}
use Rattle.tree_model.specs.declared.command.Command.TheVariants.{Link}
use Rattle.tree_model.specs.declared.reply.Refusal.{Refusal}
use Rattle.tree_model.specs.declared.reply.Refusal.TheVariants.{Root, Exists, IsDir, NoPages}
use Rattle.image_reading.specs.Residue.{Residue}
use Rattle.image_counts.specs.Entries.{IsUnusedDataPage}
use Rattle.image_counts.specs.Laws.{supply_beside}
use Rattle.volatile_index.specs.Entries.{IsAbsent, IsPresent}
use Rattle.volatile_index.specs.Index.{entries_of}
use Rattle.volume.specs.Volume.{VolumeView}
use Rattle.volume.specs.Beside.{StandsBeside, IsUntouched, MayPrepare}
use Rattle.volume.specs.Planned.{IsVacantSlot, IsPlace, IsPlannedWith}
use Rattle.volume.specs.declared.plan.Action.TheVariants.{Name}
use Rattle.volume.proofs.WalkedBeside.{stands_tree}
use Rattle.volume.proofs.Naming.{linked_untouched}
use Rattle.volume.specs.Walks.{WouldHold}
use Rattle.volume.proofs.Holders.{held, present, absent, lacks_page, has_page}

abbrev row : Option Refusal → Option Refusal → Bool → Bool → Bool → Bool → Option Refusal
row walked held is_the_root there directory pages = first (walked ∷ held ∷ at Root is_the_root ∷ at Exists there ∷ at IsDir directory ∷ at NoPages pages ∷ [])

module _ (volume : VolumeView) (device : DeviceView) (state : State) (residue : Residue) (from to : Route) (asked : MayPrepare volume device state residue (Link from to)) where
  stands : StandsBeside volume device state residue
  stands = asked.stands

  abbrev supply : Supply
  supply = supply_beside volume.size residue

  abbrev lacks : Bool
  lacks = nat_lt (free_pages supply state.tree state.room) (page_for_name state.tree state.room (Some (id_of state.tree (parent to))))

  pub link_source_fails : (fault : Refusal) → walk state.tree from ≡ Err fault → refusal_with supply state.tree state.room (Link from to) ≡ Some fault
  link_source_fails fault e = ap (λ w. row (fault_of w) (fault_of (walk_to_parent state.tree to)) (is_root to) (is_there state.tree to) (is_directory state.tree (id_of state.tree from)) lacks) e

  module _ (inode : ℕ) (walked : walk state.tree from ≡ Ok (record { path = from; id = inode })) where
    named : id_at state.tree from ≡ Some inode
    named = id_at-from_walk state.tree from (record { path = from; id = inode }) (stands_tree volume device state residue stands) walked

    its_kind : is_directory state.tree (id_of state.tree from) ≡ is_directory state.tree inode
    its_kind = ap (λ o. is_directory state.tree (unwrap_or o root_id)) named

    pub link_walk_fails : (fault : Refusal) → walk_to_parent state.tree to ≡ Err fault → refusal_with supply state.tree state.room (Link from to) ≡ Some fault
    link_walk_fails fault e = λ i. row (fault_of (walked i)) (fault_of (e i)) (is_root to) (is_there state.tree to) (is_directory state.tree (id_of state.tree from)) lacks

    pub link_root : to ≡ [] → walk_to_parent state.tree to ≡ Ok root_place → refusal_with supply state.tree state.room (Link from to) ≡ Some Root
    link_root is e = λ i. row (fault_of (walked i)) (fault_of (e i)) (is_root (is i)) (is_there state.tree to) (is_directory state.tree (id_of state.tree from)) lacks

    module _ (d : ℕ) (name : List ℕ) (holder : WouldHold state.tree to d name) where
      untouched : IsUntouched volume device.words residue d
      untouched = linked_untouched volume device state residue from to asked d (held volume device state residue stands to d name holder).0

      pub link_exists : IsPresent (entries_of volume.index d) name → refusal_with supply state.tree state.room (Link from to) ≡ Some Exists
      link_exists there =
          let found = present volume device state residue stands to d name holder there in
          λ i. row (fault_of (walked i)) (fault_of (holder.walked i)) (holder.below i) (found i) (is_directory state.tree (id_of state.tree from)) lacks

      module _ (none : IsAbsent (entries_of volume.index d) name) where
        missing : is_there state.tree to ≡ false
        missing = absent volume device state residue stands to d name holder none

        pub link_directory : is_directory state.tree inode ≡ true → refusal_with supply state.tree state.room (Link from to) ≡ Some IsDir
        link_directory is =
            let kind = its_kind ∙ is in
            λ i. row (fault_of (walked i)) (fault_of (holder.walked i)) (holder.below i) (missing i) (kind i) lacks

        pub link_no_page : is_directory state.tree inode ≡ false → ((slot : ℕ) → ¬ IsVacantSlot volume.size device.words d slot) → ((page : ℕ) → ¬ IsUnusedDataPage volume.size device.words page)
            → refusal_with supply state.tree state.room (Link from to) ≡ Some NoPages
        link_no_page is all_named all_used =
            let kind = its_kind ∙ is in
            let short = lacks_page volume device state residue stands to d name holder untouched all_named all_used in
            λ i. row (fault_of (walked i)) (fault_of (holder.walked i)) (holder.below i) (missing i) (kind i) (short i)

        pub link_planned : (slot : ℕ) (new_page : Option ℕ) → is_directory state.tree inode ≡ false → IsPlace volume.size device.words d slot new_page
            → IsPlannedWith supply device.words state (Link from to) (Name (record { directory = d; name = name; inode = inode; slot = slot; new_page = new_page }))
        link_planned slot new_page is place =
            let kind = its_kind ∙ is in
            let enough = has_page volume device state residue stands to d name holder untouched slot new_page place in
            record {
              accepted = λ i. row (fault_of (walked i)) (fault_of (holder.walked i)) (holder.below i) (missing i) (kind i) (enough i);
              plan_is = (
                record { directory = d; name = name; inode = inode; slot = slot; new_page = new_page },
                refl,
                record { new_name = record { directory_is = (held volume device state residue stands to d name holder).0; name_is = holder.named; place = place }; inode_is = named },
              );
            }
