-- The rows of refusals, by what the volume knows.
use Rattle.std.proofs.Common.{◌≡◌, ◌≢◌, ℕ, ◌+◌, ◌==◌, Bool, true, false, nat_lt, List, [], ◌∷◌, Option, Some, None, Ok, Err, refl, sym, ap, ◌∙◌, eq-eqb, eqb-true}
use Rattle.std.proofs.lemmas.Bool.{false_from_ne_true}
use Rattle.pm_trait.specs.DeviceView.{DeviceView}
use Rattle.tree_model.specs.PathText.{Route}
use Rattle.tree_model.specs.Tree.{is_root, parent}
use Rattle.tree_model.specs.Walk.{root_place, walk_to_parent}
use Rattle.tree_model.specs.Capacity.{Supply, free_inodes, free_pages}
use Rattle.tree_model.specs.Step.{making, first, at, fault_of, id_of, is_there, page_for_name, lacks_inodes, refusal_with}
use Rattle.tree_model.specs.Run.{State}
use Rattle.tree_model.specs.declared.reply.Refusal.{Refusal}
use Rattle.tree_model.specs.declared.reply.Refusal.TheVariants.{Root, Exists, NoInodes, NoPages}
use Rattle.image_reading.specs.Residue.{Residue}
use Rattle.image_counts.specs.Entries.{IsUnusedDataPage}
use Rattle.image_counts.specs.Laws.{supply_beside}
use Rattle.allocators.specs.Numbers.{IsFree, IsLowest}
use Rattle.allocators.proofs.NumbersLaws.{none_is_free}
use Rattle.volatile_index.specs.Entries.{IsAbsent, IsPresent}
use Rattle.volatile_index.specs.Index.{entries_of}
use Rattle.volume.specs.Volume.{VolumeView}
use Rattle.volume.specs.Beside.{StandsBeside, IsUntouched, MayPrepare}
use Rattle.volume.specs.Planned.{IsVacantSlot, IsPlace, IsEntryFor, IsPlannedWith}
use Rattle.layout.specs.declared.kinds.NodeKind.{NodeKind}
use Rattle.layout.specs.declared.kinds.NodeKind.TheVariants.{File, Directory}
use Rattle.volume.specs.declared.plan.NewEntry.{NewEntry}
use Rattle.volume.specs.declared.plan.Action.TheVariants.{Make}
use Rattle.volume.specs.Walks.{WouldHold}
use Rattle.volume.proofs.Naming.{parent_untouched}
use Rattle.volume.proofs.Frees.{free_inodes_beside, least_inode}
use Rattle.volume.proofs.Holders.{no_free, held, present, absent, lacks_page, has_page}

-- the row of a new node
abbrev row : Option Refusal → Bool → Bool → Bool → Bool → Option Refusal
row walked is_the_root there inodes pages = first (walked ∷ at Root is_the_root ∷ at Exists there ∷ at NoInodes inodes ∷ at NoPages pages ∷ [])

is_none : (n : ℕ) → n ≡ 0 → n == 0 ≡ true
is_none n none = eq-eqb n 0 none

is_not_none : (n : ℕ) → (n ≢ 0) → n == 0 ≡ false
is_not_none n some = false_from_ne_true (n == 0) (λ is. some (eqb-true n 0 is))

module _ (volume : VolumeView) (device : DeviceView) (state : State) (residue : Residue) (kind : NodeKind) (path : Route) (asked : MayPrepare volume device state residue (making kind path)) where
  stands : StandsBeside volume device state residue
  stands = asked.stands

  abbrev supply : Supply
  supply = supply_beside volume.size residue

  abbrev lacks_inode : Bool
  lacks_inode = lacks_inodes supply state.tree

  abbrev lacks : Bool
  lacks = nat_lt (free_pages supply state.tree state.room) (page_for_name state.tree state.room (Some (id_of state.tree (parent path))))

  refusal_is : (k : NodeKind) → refusal_with supply state.tree state.room (making k path)
      ≡ row (fault_of (walk_to_parent state.tree path)) (is_root path) (is_there state.tree path) lacks_inode lacks
  refusal_is File = refl
  refusal_is Directory = refl

  pub new_walk_fails : (fault : Refusal) → walk_to_parent state.tree path ≡ Err fault → refusal_with supply state.tree state.room (making kind path) ≡ Some fault
  new_walk_fails fault e = refusal_is kind ∙ ap (λ w. row (fault_of w) (is_root path) (is_there state.tree path) lacks_inode lacks) e

  pub new_root : path ≡ [] → walk_to_parent state.tree path ≡ Ok root_place → refusal_with supply state.tree state.room (making kind path) ≡ Some Root
  new_root is e = refusal_is kind ∙ (λ i. row (fault_of (e i)) (is_root (is i)) (is_there state.tree path) lacks_inode lacks)

  -- the directory that would hold the last name
  module _ (d : ℕ) (name : List ℕ) (holder : WouldHold state.tree path d name) where
    untouched : IsUntouched volume device.words residue d
    untouched = parent_untouched volume device state residue kind path asked d (held volume device state residue stands path d name holder).0

    pub new_exists : IsPresent (entries_of volume.index d) name → refusal_with supply state.tree state.room (making kind path) ≡ Some Exists
    new_exists there =
        let found = present volume device state residue stands path d name holder there in
        refusal_is kind ∙ (λ i. row (fault_of (holder.walked i)) (holder.below i) (found i) lacks_inode lacks)

    module _ (none : IsAbsent (entries_of volume.index d) name) where
      missing : is_there state.tree path ≡ false
      missing = absent volume device state residue stands path d name holder none

      pub new_no_inode : ((k : ℕ) → ¬ IsFree volume.inodes k) → refusal_with supply state.tree state.room (making kind path) ≡ Some NoInodes
      new_no_inode used =
          let short = is_none (free_inodes supply state.tree) (free_inodes_beside volume device state residue stands ∙ no_free volume.inodes used) in
          refusal_is kind ∙ (λ i. row (fault_of (holder.walked i)) (holder.below i) (missing i) (short i) lacks)

      some_inode : (k : ℕ) → IsFree volume.inodes k → lacks_inode ≡ false
      some_inode k free = is_not_none (free_inodes supply state.tree)
          (λ zero. none_is_free volume.inodes (sym (free_inodes_beside volume device state residue stands) ∙ zero) k free)

      pub new_no_page : (k : ℕ) → IsFree volume.inodes k → ((slot : ℕ) → ¬ IsVacantSlot volume.size device.words d slot) → ((page : ℕ) → ¬ IsUnusedDataPage volume.size device.words page)
          → refusal_with supply state.tree state.room (making kind path) ≡ Some NoPages
      new_no_page k free all_named all_used =
          let inode = some_inode k free in
          let short = lacks_page volume device state residue stands path d name holder untouched all_named all_used in
          refusal_is kind ∙ (λ i. row (fault_of (holder.walked i)) (holder.below i) (missing i) (inode i) (short i))

      new_accepted : (k slot : ℕ) (new_page : Option ℕ) → IsFree volume.inodes k → IsPlace volume.size device.words d slot new_page
          → refusal_with supply state.tree state.room (making kind path) ≡ None
      new_accepted k slot new_page free place =
          let inode = some_inode k free in
          let page = has_page volume device state residue stands path d name holder untouched slot new_page place in
          refusal_is kind ∙ (λ i. row (fault_of (holder.walked i)) (holder.below i) (missing i) (inode i) (page i))

      pub new_planned : (k slot : ℕ) (new_page : Option ℕ) → IsLowest volume.inodes k → IsPlace volume.size device.words d slot new_page
          → IsPlannedWith supply device.words state (making kind path) (Make (record { kind = kind; directory = d; name = name; inode = k + 1; slot = slot; new_page = new_page }))
      new_planned k slot new_page lowest place =
          planned kind (new_accepted k slot new_page lowest.free place)
        where
          entry : NodeKind → NewEntry
          entry node = record { kind = node; directory = d; name = name; inode = k + 1; slot = slot; new_page = new_page }

          entry_is : (node : NodeKind) → IsEntryFor volume.size device.words state path node (entry node)
          entry_is node = record {
            kind_is = refl;
            new_name = record { directory_is = (held volume device state residue stands path d name holder).0; name_is = holder.named; place = place };
            inode_is = least_inode volume device state residue stands k lowest;
          }

          planned : (node : NodeKind) → refusal_with supply state.tree state.room (making node path) ≡ None → IsPlannedWith supply device.words state (making node path) (Make (entry node))
          planned File accepted = record { accepted = accepted; plan_is = (entry File, refl, entry_is File) }
          planned Directory accepted = record { accepted = accepted; plan_is = (entry Directory, refl, entry_is Directory) }
