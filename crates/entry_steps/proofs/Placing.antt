-- The place of a name: how it goes on while other words are stored, over a fence, and as a token settles it.
use Rattle.std.proofs.Common.{◌≡◌, inl, inr, ℕ, ◌+◌, ◌*◌, ◌<◌, ◌≤◌, List, slice_index, refl, sym, ap, subst, ◌∙◌, arith}
use Rattle.std.specs.Prelude.{Option, Some, None, Result}
use Rattle.pm_trait.specs.declared.event.Event.TheVariants.{Fence}
use Rattle.pm_trait.specs.Device.{IsInterval, with_event}
use Rattle.pm_trait.specs.DeviceView.{DeviceView}
use Rattle.pm_trait.specs.Unfolds.{Unfolds}
use Rattle.layout.specs.declared.fields.DescriptorFields.{DescriptorFields}
use Rattle.layout.specs.Geometry.{IsVolumeSize, inodes_of, page_of_slot, descriptor_word_of, page_word_of}
use Rattle.layout.specs.Fields.{word, page_owner}
use Rattle.layout.specs.Name.{words_of_name, IsNameWords}
use Rattle.layout.proofs.GeometryLaws.{page_of_entry}
use Rattle.fence_token.specs.declared.states.Clean.{Clean}
use Rattle.fence_token.specs.declared.states.InFlight.{InFlight}
use Rattle.fence_token.proofs.ObjectLaws.{stands_in_flight_stays, stands_in_flight_fence}
use Rattle.inode_state.specs.Inode.{IsInodeWord}
use Rattle.dentry_state.specs.States.{IsNamed, named_fields}
use Rattle.dentry_state.specs.declared.dentry.Touched.TheVariants.{BothLines}
use Rattle.dentry_state.specs.Dentry.{DentryView, slot_fields_at}
use Rattle.dentry_state.proofs.DentryLaws.{same_fields_at, dentry_is_local, name_word_is_slot_word, slot_word_is_no_inode_word, slot_word_in_volume}
use Rattle.page_state.specs.Page.{IsFilledWord}
use Rattle.page_state.proofs.Releases.{released_is_own}
use Rattle.page_state.proofs.PageLaws.{own_word_within, same_descriptor_of, own_word_not_inode_word}
use Rattle.image_laws.specs.Create.{MakesNamedPage}
use Rattle.image_laws.specs.Taking.{IsNamedPage}
use Rattle.image_laws.proofs.Paged.{named_page, named_page_same}
use Rattle.entry_steps.specs.declared.place.NamePlace.{NamePlace}
use Rattle.entry_steps.specs.declared.place.NamePlace.TheVariants.{Slot, Page}
use Rattle.entry_steps.specs.Steps.{first_slot, claim_steps}
use Rattle.entry_steps.specs.Placing.{MayPlace, IsPlaceWord, IsWrittenWord, flying_place, clean_place, page_of, slot_of, PlaceIsInFlight, CanOpen}

-- ---- words

pub written_is_place : (P slot : ℕ) (new_page : Option ℕ) (x : ℕ) → IsWrittenWord P slot new_page x → IsPlaceWord P slot new_page x
written_is_place P slot None x is = name_word_is_slot_word P slot x is
written_is_place P slot (Some page) x (inl content) = inl content
written_is_place P slot (Some page) x (inr rest) = released_is_own P page x rest

pub place_within : (P : ℕ) (I : List ℕ) (slot : ℕ) (new_page : Option ℕ) (x : ℕ) → IsVolumeSize P → MayPlace P I slot new_page → IsPlaceWord P slot new_page x → x < 512 * P
place_within P I slot None x size may is = slot_word_in_volume P slot x may.0 is
place_within P I slot (Some page) x size may is = own_word_within P page x size may.0.0 is

pub place_off_inode : (P : ℕ) (I : List ℕ) (slot : ℕ) (new_page : Option ℕ) (inode x : ℕ) → 1 ≤ inode → inode ≤ inodes_of P → MayPlace P I slot new_page → IsPlaceWord P slot new_page x → ¬ IsInodeWord inode x
place_off_inode P I slot None inode x least most may is = slot_word_is_no_inode_word P slot inode x least most is
place_off_inode P I slot (Some page) inode x least most may is = λ own.
    let few = own.is_field in
    own_word_not_inode_word P page x inode own.field may.0.0 least most (omega (arith, few)) is own.at

-- where its words are the same
pub may_still : (P slot : ℕ) (new_page : Option ℕ) (a b : List ℕ) → ((x : ℕ) → IsPlaceWord P slot new_page x → slice_index b x ≡ slice_index a x) → MayPlace P a slot new_page → MayPlace P b slot new_page
may_still P slot None a b same may = (may.0, same_fields_at P slot a b same ∙ may.1)
may_still P slot (Some page) a b same may = ((may.0.0, same_descriptor_of P page a b (λ x is. same x (inr is)) ∙ may.0.1), may.1)

-- ---- the place

-- it goes on while no word of it is stored, and over a fence
pub place_waits : {W : ℕ → Type 0} (P slot : ℕ) (name : List ℕ) (fences : ℕ) (new_page : Option ℕ) (place : NamePlace InFlight) (a b : DeviceView) → place ≡ flying_place P slot name fences new_page
    → IsInterval W a.words a.trail b.words b.trail → ((x : ℕ) → IsPlaceWord P slot new_page x → ¬ W x) → PlaceIsInFlight place a → PlaceIsInFlight place b
place_waits P slot name fences None place a b is run apart flight =
    let flying : DentryView = record { pages = P; slot = slot; fields = named_fields name; touched = BothLines; ticket = Some fences } in
    subst (λ (p : NamePlace InFlight). PlaceIsInFlight p b) (sym is) (stands_in_flight_stays (dentry_is_local flying) run apart (subst (λ (p : NamePlace InFlight). PlaceIsInFlight p a) is flight))
place_waits P slot name fences (Some page) place a b is run apart flight = subst (λ (p : NamePlace InFlight). PlaceIsInFlight p b) (sym is) tt

pub place_fenced : (place : NamePlace InFlight) (a b : DeviceView) → b.words ≡ a.words → b.trail ≡ with_event a.trail Fence → PlaceIsInFlight place a → PlaceIsInFlight place b
place_fenced (Slot dentry) a b words trail flight = stands_in_flight_fence words trail flight
place_fenced (Page page) a b words trail flight = tt

-- ---- its page and its slot

pub page_is : (P slot : ℕ) (name : List ℕ) (new_page : Option ℕ) → page_of (clean_place P slot name new_page) ≡ new_page
page_is P slot name None = refl
page_is P slot name (Some page) = refl

-- what `open` did, by the new page
pub opened_as : {T E : Type 0} {old new : DeviceView} {result : Result T E} (P d slot : ℕ) (name : List ℕ) (new_page : Option ℕ) (place : NamePlace Clean) → place ≡ clean_place P slot name new_page → Unfolds (claim_steps P d (page_of place)) old new result
    → Unfolds (claim_steps P d new_page) old new result
opened_as {old = old} {new} {result} P d slot name new_page place is opened = subst (λ (page : Option ℕ). Unfolds (claim_steps P d page) old new result) (ap page_of is ∙ page_is P slot name new_page) opened

pub slot_pages : (P : ℕ) (I : List ℕ) (slot : ℕ) (name : List ℕ) (new_page : Option ℕ) → (slot_of P I (clean_place P slot name new_page)).pages ≡ P
slot_pages P I slot name None = refl
slot_pages P I slot name (Some page) = refl

pub slot_is : (P : ℕ) (W I : List ℕ) (slot : ℕ) (name : List ℕ) (new_page : Option ℕ) → MayPlace P W slot new_page → (slot_of P I (clean_place P slot name new_page)).slot ≡ slot
slot_is P W I slot name None may = refl
slot_is P W I slot name (Some page) may = sym may.1

-- and the slot that it answers
module _ (P : ℕ) (W I : List ℕ) (slot : ℕ) (name : List ℕ) (new_page : Option ℕ) (place : NamePlace Clean) (is : place ≡ clean_place P slot name new_page) (dentry : DentryView) (answered : dentry ≡ slot_of P I place) where
  pub opened_pages : dentry.pages ≡ P
  opened_pages = ap (λ (d : DentryView). d.pages) answered ∙ ap (λ (p : NamePlace Clean). (slot_of P I p).pages) is ∙ slot_pages P I slot name new_page

  pub opened_slot : MayPlace P W slot new_page → dentry.slot ≡ slot
  opened_slot may = ap (λ (d : DentryView). d.slot) answered ∙ ap (λ (p : NamePlace Clean). (slot_of P I p).slot) is ∙ slot_is P W I slot name new_page may

-- ---- the page that was filled

first_stands : (slot page : ℕ) → slot ≡ first_slot page → page_of_slot slot ≡ page
first_stands slot page is = let plain : slot ≡ 32 * page + 0 = omega (arith, is) in ap page_of_slot plain ∙ page_of_entry page 0 (omega arith)

-- in words where those that were stored are the same
pub named_there : (P : ℕ) (I J K : List ℕ) (page slot : ℕ) (name : List ℕ) → slot ≡ first_slot page → MakesNamedPage P I J page (first_slot page) name
    → ((x : ℕ) → IsFilledWord P page x → slice_index K x ≡ slice_index J x) → IsNamedPage P K page slot name
unfolding word
named_there P I J K page slot name is made same =
    subst (λ (s : ℕ). IsNamedPage P K page s name) (sym is)
    (named_page_same P J K page (first_slot page) name (first_stands (first_slot page) page refl)
    (λ w low. same (page_word_of P page w) (inl (record { place = w; in_page = low; at = refl })))
    (λ f which. same (descriptor_word_of P page f) (inr (elim which [ inl kind ↦ inl (ap (descriptor_word_of P page) kind) | inr offset ↦ inr (ap (descriptor_word_of P page) offset) ])))
    (named_page P I J page (first_slot page) name made))

-- so it can get its owner
abbrev pub IsFilledPlace : ℕ → List ℕ → List ℕ → ℕ → List ℕ → Option ℕ → Type 0
IsFilledPlace P W I slot name None = Unit {0}
IsFilledPlace P W I slot name (Some page) = IsNamedPage P I page slot name × (page_owner P I page ≡ page_owner P W page)

pub can_open : (P : ℕ) (W I : List ℕ) (slot d : ℕ) (name : List ℕ) (new_page : Option ℕ) → 1 ≤ d → IsNameWords (words_of_name name) → MayPlace P W slot new_page → IsFilledPlace P W I slot (words_of_name name) new_page
    → CanOpen P I d (clean_place P slot name new_page)
can_open P W I slot d name None some valid may filled = tt
can_open P W I slot d name (Some page) some valid may (named, owner) = (
  record { in_range = may.0.0; filled = (owner ∙ ap (λ (f : DescriptorFields). f.owner) may.0.1, inr (named.kind, named.offset)); some_directory = some },
  subst (λ (s : ℕ). IsNamed (slot_fields_at P I s)) may.1
      (named.numbers slot here, named.pointers slot here, subst IsNameWords (sym named.name_is) valid),
)
  where
    here : page_of_slot slot ≡ page
    here = first_stands slot page may.1
