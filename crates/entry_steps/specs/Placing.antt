-- The place of a new name: a slot of its directory, or a new page, of which it gets the first slot. P is the number of pages; I and J
-- are words.
use Rattle.std.specs.Prelude.{◌≡◌, ℕ, ◌<◌, List, Option, Some, None}
use Rattle.pm_trait.specs.DeviceView.{DeviceView}
use Rattle.fence_token.specs.declared.states.Clean.{Clean}
use Rattle.fence_token.specs.declared.states.InFlight.{InFlight}
use Rattle.layout.specs.Geometry.{slots_of}
use Rattle.layout.specs.Fields.{slot_words}
use Rattle.dentry_state.specs.States.{free_fields, named_fields, IsNamed}
use Rattle.dentry_state.specs.declared.dentry.Touched.TheVariants.{FirstLine, BothLines}
use Rattle.dentry_state.specs.Dentry.{DentryView, IsSlotWord, IsNameWord, slot_fields_at, DentryIsClean, DentryIsInFlight}
use Rattle.page_state.specs.Page.{IsOwnWord, IsFilledWord}
use Rattle.image_laws.specs.Create.{MakesNamedPage}
use Rattle.entry_steps.specs.declared.place.NamePlace.{NamePlace}
use Rattle.entry_steps.specs.declared.place.NamePlace.TheVariants.{Slot, Page}
use Rattle.entry_steps.specs.Steps.{MayTake, CanClaim, first_slot}

-- The slot is free, or the page is free and the slot is its first one.
abbrev pub MayPlace : ℕ → List ℕ → ℕ → Option ℕ → Type 0
MayPlace P I slot None = (slot < slots_of P) × (slot_fields_at P I slot ≡ free_fields)
MayPlace P I slot (Some page) = MayTake P I (Some page) × (slot ≡ first_slot page)

-- a word of the slot, or one of the page and of its descriptor
abbrev pub IsPlaceWord : ℕ → ℕ → Option ℕ → ℕ → Type 0
IsPlaceWord P slot None word = IsSlotWord P slot word
IsPlaceWord P slot (Some page) word = IsOwnWord P page word

-- those that are stored with the name: of a slot the name's, of a page all but the owner
abbrev pub IsWrittenWord : ℕ → ℕ → Option ℕ → ℕ → Type 0
IsWrittenWord P slot None word = IsNameWord P slot word
IsWrittenWord P slot (Some page) word = IsFilledWord P page word

-- From I to J the slot gets these name words, or the page is filled with slots of which the first has them.
abbrev pub WritesPlace : ℕ → List ℕ → List ℕ → ℕ → List ℕ → Option ℕ → Type 0
WritesPlace P I J slot name None = slot_words P J slot ≡ name
WritesPlace P I J slot name (Some page) = MakesNamedPage P I J page (first_slot page) name

-- ---- the place as a value

-- as it is written, by the number of fences at its flush; as a token settles it; and so by what was written
abbrev pub flying_place : ℕ → ℕ → List ℕ → ℕ → Option ℕ → NamePlace InFlight
flying_place P slot name fences None = Slot (record { pages = P; slot = slot; fields = named_fields name; touched = BothLines; ticket = Some fences })
flying_place P slot name fences (Some page) = Page page

abbrev pub settled_place : NamePlace InFlight → NamePlace Clean
settled_place (Slot dentry) = Slot (record dentry { touched = FirstLine; ticket = None })
settled_place (Page page) = Page page

abbrev pub clean_place : ℕ → ℕ → List ℕ → Option ℕ → NamePlace Clean
clean_place P slot name None = Slot (record { pages = P; slot = slot; fields = named_fields name; touched = FirstLine; ticket = None })
clean_place P slot name (Some page) = Page page

abbrev pub ticket_of : NamePlace InFlight → Option ℕ
ticket_of (Slot dentry) = dentry.ticket
ticket_of (Page page) = None

abbrev pub page_of : NamePlace Clean → Option ℕ
page_of (Slot dentry) = None
page_of (Page page) = Some page

-- the slot that has the name, in these words
abbrev pub slot_of : ℕ → List ℕ → NamePlace Clean → DentryView
slot_of P I (Slot dentry) = dentry
slot_of P I (Page page) = record { pages = P; slot = first_slot page; fields = slot_fields_at P I (first_slot page); touched = FirstLine; ticket = None }

-- The slot is in flight, or clean. Of a page, which is a number, nothing is said: a settled device has its words settled.
abbrev pub PlaceIsInFlight : NamePlace InFlight → DeviceView → Type 0
PlaceIsInFlight (Slot dentry) device = DentryIsInFlight dentry device
PlaceIsInFlight (Page page) device = Unit {0}

abbrev pub PlaceIsClean : NamePlace Clean → DeviceView → Type 0
PlaceIsClean (Slot dentry) device = DentryIsClean dentry device
PlaceIsClean (Page page) device = Unit {0}

-- The page is filled, with the name in its first slot, and there is a directory to get it. A slot is its directory's already.
abbrev pub CanOpen : ℕ → List ℕ → ℕ → NamePlace Clean → Type 0
CanOpen P I directory (Slot dentry) = Unit {0}
CanOpen P I directory (Page page) = CanClaim P I page directory × IsNamed (slot_fields_at P I (first_slot page))
