-- No slot of a page that a removal has left names anything; and where that is so of all pages that are left, a held slot with a number is
-- reached.
use Rattle.std.proofs.Common.{◌≡◌, ◌≢◌, inl, inr, ℕ, List, Option, None, refl, sym, ap, subst, ◌∙◌, arith}
use Rattle.std.specs.Prelude.{slice_index}
use Rattle.std.proofs.lemmas.List.{get_or_default}
use Rattle.pm_trait.specs.DeviceView.{DeviceView}
use Rattle.layout.specs.Geometry.{page_of_slot}
use Rattle.layout.proofs.GeometryLaws.{page_of_slot_below}
use Rattle.layout.specs.Fields.{page_owner, page_kind, slot_inode}
use Rattle.layout.specs.declared.fields.DescriptorFields.{DescriptorFields}
use Rattle.tree_model.specs.Run.{State}
use Rattle.inode_state.specs.Unused.{IsHeldSlot}
use Rattle.image_reading.specs.Counts.{IsIn}
use Rattle.image_reading.specs.Reading.{slot_owner, IsHeld, IsReachedSlot}
use Rattle.image_reading.specs.Residue.{Residue}
use Rattle.image_reading.specs.Soundness.{Rule}
use Rattle.image_counts.specs.Laws.{ReadsBeside}
use Rattle.image_counts.proofs.Beside.{has_pages_beside}
use Rattle.image_counts.proofs.Distinct.{in_either}
use Rattle.removal_steps.specs.Steps.{AreFilePages, WereFilePages, MayEmpty, IsEmptied, MayBeEmptied, WasEmptied}
use Rattle.weave_laws.specs.Naming.{pages_left}
use Rattle.weave_laws.proofs.Contained.{in_contained}
use Rattle.weave_laws.proofs.WaitingPlaces.{live}
use Rattle.volume.specs.Volume.{VolumeView}
use Rattle.volume.specs.declared.plan.Removal.{Removal}
use Rattle.unlink_ops.specs.declared.removal.Stage.{Stage}
use Rattle.unlink_ops.specs.declared.removal.Stage.TheVariants.{Begun, Unnamed, Cleared, Disowned}
use Rattle.unlink_ops.specs.RemovalStages.{pages_gone, IsAt}
use Rattle.waiting_laws.specs.Beside.{NamesNothing}
use Rattle.waiting_laws.specs.Removing.{HasFalling, left_at, WaitsToRemove}
use Rattle.waiting_laws.proofs.RemovingWaits.{at, all_left, left_given, pages_at}

-- ---- the pages that a removal has left

module _ (P : ℕ) (I : List ℕ) (removal : Removal) (pages : List ℕ) (t : ℕ) (held : IsHeld P I t) where
  owned : page_owner P I (page_of_slot t) ≢ 0
  unfolding slot_owner
  owned = held.owned

  file_not : AreFilePages P I removal.loss.inode pages → ¬ IsIn (page_of_slot t) pages
  file_not file among =
      let (k, inside, same) = in_contained (page_of_slot t) pages among in
      let here : slice_index pages k ≡ page_of_slot t = get_or_default pages k 0 (page_of_slot t) inside ∙ same in
      let one = ap (λ (d : DescriptorFields). d.kind) (file.each k inside) in
      let two = ap (page_kind P I) here ∙ held.kind in
      omega (arith, one, two)

  were_not : WereFilePages P I pages → ¬ IsIn (page_of_slot t) pages
  were_not file among =
      let (k, inside, same) = in_contained (page_of_slot t) pages among in
      let here : slice_index pages k ≡ page_of_slot t = get_or_default pages k 0 (page_of_slot t) inside ∙ same in
      owned (ap (page_owner P I) (sym here) ∙ ap (λ (d : DescriptorFields). d.owner) (file.each k inside))

  emptied_none : (given : Option ℕ) → MayEmpty P I given → IsIn (page_of_slot t) (pages_left given) → slot_inode P I t ≡ 0
  emptied_none given may among =
      let emptied : IsEmptied P I (page_of_slot t) = subst (MayEmpty P I) (left_given given (page_of_slot t) among) may in emptied.slots t refl

  were_emptied_not : (given : Option ℕ) → MayBeEmptied P I given → ¬ IsIn (page_of_slot t) (pages_left given)
  were_emptied_not given may among =
      let emptied : WasEmptied P I (page_of_slot t) = subst (MayBeEmptied P I) (left_given given (page_of_slot t) among) may in owned emptied.owner

  bare_at : (state : State) (stage : Stage) → HasFalling I state removal stage → IsAt P I removal pages stage → IsIn (page_of_slot t) (all_left pages removal.given_back) → slot_inode P I t ≡ 0
  bare_at state Begun none is among = absurd none
  bare_at state Unnamed falling is among = elim (in_either (page_of_slot t) pages (pages_left removal.given_back) among) [
    | inl node ↦ absurd (file_not is.file node)
    | inr back ↦ emptied_none removal.given_back is.emptied back
  ]
  bare_at state Cleared falling is among = elim (in_either (page_of_slot t) pages (pages_left removal.given_back) among) [
    | inl node ↦ absurd (file_not is.disown.file node)
    | inr back ↦ emptied_none removal.given_back is.disown.emptied_is back
  ]
  bare_at state Disowned falling is among = elim (in_either (page_of_slot t) pages (pages_left removal.given_back) among) [
    | inl node ↦ absurd (were_not is.rest.pages_are node)
    | inr back ↦ absurd (were_emptied_not removal.given_back is.rest.emptied_is back)
  ]

pub removing_bare : (volume : VolumeView) (device : DeviceView) (state : State) (removal : Removal) (stage : Stage) (others : Residue) → WaitsToRemove volume device state (at removal stage) others
    → NamesNothing volume.size device.words (left_at volume removal stage)
removing_bare volume device state removal stage others waits t among held =
    bare_at volume.size device.words removal (pages_gone volume removal) t held state stage waits.falling waits.words (pages_at volume removal stage (page_of_slot t) among)

-- ---- all that is left

-- No slot points: a held slot with a number is reached, since its page is a directory's.
pub named_reached : (P : ℕ) (I : List ℕ) (residue : Residue) (state : State) → ReadsBeside P I residue state → residue.pointer ≡ None → NamesNothing P I residue
    → (t : ℕ) → IsHeldSlot P I t → slot_inode P I t ≢ 0 → IsReachedSlot P I t
unfolding slot_owner
named_reached P I residue state holds none bare t held names =
    let page = page_of_slot t in
    let low = page_of_slot_below P t held.in_range in
    let is : IsHeld P I t = record { in_range = held.in_range; kind = held.kind; owned = held.owned } in
    elim (((has_pages_beside P I residue state holds).used page low).1 (λ unused. held.owned unused.0)) [
      | inl kept ↦ elim kept [
        | inl file ↦ (let one = (holds.coherent Rule.page_kinds page).file low file.owner file.file in let two = held.kind in absurd (omega (arith, one, two)))
        | inr room ↦ record { owner = room.reached; directory = room.directory; live = live P I residue holds.beside none t is names }
      ]
      | inr left ↦ absurd (names (bare t left is))
    ]
