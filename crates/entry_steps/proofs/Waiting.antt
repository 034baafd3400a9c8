-- A name that is written waits for its number: what stands of it once it is written, over the claim of its new page, and of the volume that holds this page.
use Rattle.std.proofs.Common.{◌≡◌, inl, ℕ, ◌*◌, ◌≤◌, Bool, false, List, [], ◌∷◌, ◌++◌, length, refl, sym, ap, subst, ◌∙◌, arith}
use Rattle.std.specs.Prelude.{Option, Some, None, Ok}
use Rattle.std.proofs.lemmas.List.{length-set}
use Rattle.std.proofs.lemmas.Option.{slice_get_within}
use Rattle.pm_trait.specs.DeviceView.{DeviceView}
use Rattle.pm_trait.specs.Unfolds.{Step, Takes, step_events}
use Rattle.pm_trait.proofs.Unfolding.{last}
use Rattle.layout.specs.Geometry.{IsVolumeSize, inodes_of}
use Rattle.layout.specs.Name.{words_of_name, IsNameWords}
use Rattle.fence_token.specs.declared.states.Clean.{Clean}
use Rattle.inode_state.specs.Inode.{InodeView, InodeIsClean}
use Rattle.dentry_state.specs.declared.dentry.Touched.TheVariants.{FirstLine}
use Rattle.dentry_state.specs.Dentry.{DentryView, DentryIsClean, slot_fields_at}
use Rattle.allocators.proofs.NumbersLaws.{taken_after_take}
use Rattle.volume.specs.Volume.{VolumeView}
use Rattle.volume.specs.Entered.{pages_of_option, with_taken, IsTaken, MayTakePages}
use Rattle.volume.proofs.PageLists.{in_contained}
use Rattle.entry_steps.specs.declared.place.NamePlace.{NamePlace}
use Rattle.entry_steps.specs.declared.place.NamePlace.TheVariants.{Slot, Page}
use Rattle.entry_steps.specs.Steps.{claim_steps, first_slot, naming, owning}
use Rattle.entry_steps.specs.Placing.{MayPlace, PlaceIsClean, clean_place}
use Rattle.entry_steps.specs.Waiting.{IsSlotAt, IsPageAt, IsPlaceAt, HasTakenPage, left_of_place, step_of_place}
use Rattle.entry_steps.proofs.Claiming.{inode_stays}
use Rattle.entry_steps.proofs.Lists.{one_page}
use Rattle.entry_steps.proofs.Placing.{IsFilledPlace, can_open}

-- ---- the steps that are left

module _ (P d slot inode : ℕ) where
  abbrev pub rest_of_place : NamePlace Clean → List Step
  rest_of_place (Slot dentry) = []
  rest_of_place (Page page) = naming P slot inode ∷ []

  pub place_left : (place : NamePlace Clean) → left_of_place P d slot inode place ≡ step_of_place P d slot inode place ∷ rest_of_place place
  place_left (Slot dentry) = refl
  place_left (Page page) = refl

  -- each has a store
  pub place_events : (place : NamePlace Clean) → step_events (step_of_place P d slot inode place) ≡ (step_of_place P d slot inode place).events
  place_events (Slot dentry) = refl
  place_events (Page page) = refl

  -- they are those of the plan
  pub claims : (new_page : Option ℕ) (place : NamePlace Clean) (device : DeviceView) → IsPlaceAt P d slot new_page place device → left_of_place P d slot inode place ≡ claim_steps P d new_page ++ naming P slot inode ∷ []
  claims new_page (Slot dentry) device (at, none) = ap (λ (page : Option ℕ). claim_steps P d page ++ naming P slot inode ∷ []) (sym none)
  claims new_page (Page page) device at = ap (λ (page : Option ℕ). claim_steps P d page ++ naming P slot inode ∷ []) (sym at.page_is)

-- ---- the name is written

module _ (P : ℕ) (W : List ℕ) (slot d : ℕ) (name : List ℕ) (some : 1 ≤ d) (valid : IsNameWords (words_of_name name)) (device : DeviceView) where
  waits : (new_page : Option ℕ) (place : NamePlace Clean) → place ≡ clean_place P slot name new_page → PlaceIsClean place device → MayPlace P W slot new_page → IsFilledPlace P W device.words slot (words_of_name name) new_page
      → IsPlaceAt P d slot new_page (clean_place P slot name new_page) device
  waits None place is clean may filled = (record { pages_is = refl; slot_is = refl; clean = subst (λ (p : NamePlace Clean). PlaceIsClean p device) is clean }, refl)
  waits (Some page) place is clean may filled =
      let (claim, named) = can_open P W device.words slot d name (Some page) some valid may filled in
      record { ready = claim; named = named; slot_is = sym may.1; page_is = refl }

  pub place_waits_at : (new_page : Option ℕ) (place : NamePlace Clean) → place ≡ clean_place P slot name new_page → PlaceIsClean place device → MayPlace P W slot new_page → IsFilledPlace P W device.words slot (words_of_name name) new_page
      → IsPlaceAt P d slot new_page place device
  place_waits_at new_page place is clean may filled = subst (λ (p : NamePlace Clean). IsPlaceAt P d slot new_page p device) (sym is) (waits new_page place is clean may filled)

-- ---- its new page is claimed

-- an inode is as clean as before
pub inode_over_claim : {T E : Type 0} {value : T} (P d page : ℕ) (inode : InodeView) → IsVolumeSize P → 1 ≤ inode.number → inode.number ≤ inodes_of P → (a b : DeviceView) → length a.words ≡ 512 * P → InodeIsClean inode a
    → Takes {E = E} (owning P page d) a b (Ok value) → InodeIsClean inode b
inode_over_claim {T} {E} {value} P d page inode size least most a b whole clean takes = inode_stays {T = T} {E = E} {value = value} P d inode size least most a b whole clean (Some page) (last (Ok value) takes)

-- and the page's first slot is the name's
pub slot_claimed : (P d slot : ℕ) (new_page : Option ℕ) (page : ℕ) (words : List ℕ) (a b : DeviceView) (dentry : DentryView) → IsPageAt P d slot new_page page a
    → dentry ≡ record { pages = P; slot = first_slot page; fields = slot_fields_at P words (first_slot page); touched = FirstLine; ticket = None } → DentryIsClean dentry b → IsSlotAt P slot dentry b
slot_claimed P d slot new_page page words a b dentry at is clean = record {
  pages_is = ap (λ (s : DentryView). s.pages) is;
  slot_is = ap (λ (s : DentryView). s.slot) is ∙ at.slot_is;
  clean = clean;
}

-- ---- the volume holds the new page

pub page_taken : (volume taken : VolumeView) (new_page : Option ℕ) → MayTakePages volume (pages_of_option new_page) → taken.data_pages ≡ with_taken volume.data_pages (pages_of_option new_page) → HasTakenPage taken new_page
page_taken volume taken None may takes page is = let clash : ◌≡◌ {A = Option ℕ} None (Some page) = is in cc
page_taken volume taken (Some first) may takes page is =
    let free = may.free first (in_contained first (first ∷ []) (inl refl)) in
    let low = slice_get_within volume.data_pages first _ free in
    subst (IsTaken taken.data_pages) (one_page first page is) (subst (λ (numbers : List Bool). IsTaken numbers first) (sym takes)
    (let long = length-set volume.data_pages first false in omega (arith, low, long), taken_after_take volume.data_pages first low))
