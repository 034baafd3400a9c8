-- A name that is written and waits for its number, between two steps of its call. P is the number of pages.
use Rattle.std.specs.Prelude.{◌≡◌, ℕ, false, List, [], ◌∷◌, Option, Some, None}
use Rattle.pm_trait.specs.DeviceView.{DeviceView}
use Rattle.pm_trait.specs.Unfolds.{Step}
use Rattle.fence_token.specs.declared.states.Clean.{Clean}
use Rattle.dentry_state.specs.States.{IsNamed}
use Rattle.dentry_state.specs.Dentry.{DentryView, DentryIsClean, slot_fields_at}
use Rattle.volume.specs.Volume.{VolumeView}
use Rattle.volume.specs.Entered.{IsTaken}
use Rattle.entry_steps.specs.declared.place.NamePlace.{NamePlace}
use Rattle.entry_steps.specs.declared.place.NamePlace.TheVariants.{Slot, Page}
use Rattle.entry_steps.specs.Steps.{CanClaim, first_slot, naming, owning}

-- the step of a plan without a fence: nothing is stored
abbrev pub idle_step : Step
idle_step = record { Makes = λ I J. J ≡ I; stores = false; events = 0 }

-- ---- the steps that are left

-- the owner of the new page, where the name stands in one, and the slot's number
abbrev pub left_of_place : ℕ → ℕ → ℕ → ℕ → NamePlace Clean → List Step
left_of_place P directory slot inode (Slot dentry) = naming P slot inode ∷ []
left_of_place P directory slot inode (Page page) = owning P page directory ∷ naming P slot inode ∷ []

-- and the first of them
abbrev pub step_of_place : ℕ → ℕ → ℕ → ℕ → NamePlace Clean → Step
step_of_place P directory slot inode (Slot dentry) = naming P slot inode
step_of_place P directory slot inode (Page page) = owning P page directory

-- ---- what stands before it

-- it is this slot, and clean
pub record IsSlotAt (P slot : ℕ) (dentry : DentryView) (device : DeviceView) : Type 0 where
  pub pages_is : dentry.pages ≡ P
  pub slot_is : dentry.slot ≡ slot
  pub clean : DentryIsClean dentry device

-- the new page can be claimed for the directory, and its first slot is this one and has its name
pub record IsPageAt (P directory slot : ℕ) (new_page : Option ℕ) (page : ℕ) (device : DeviceView) : Type 0 where
  pub ready : CanClaim P device.words page directory
  pub named : IsNamed (slot_fields_at P device.words (first_slot page))
  pub slot_is : first_slot page ≡ slot
  pub page_is : new_page ≡ Some page

abbrev pub IsPlaceAt : ℕ → ℕ → ℕ → Option ℕ → NamePlace Clean → DeviceView → Type 0
IsPlaceAt P directory slot new_page (Slot dentry) device = IsSlotAt P slot dentry device × (new_page ≡ None)
IsPlaceAt P directory slot new_page (Page page) device = IsPageAt P directory slot new_page page device

-- the new page is taken, where there is one
abbrev pub HasTakenPage : VolumeView → Option ℕ → Type 0
HasTakenPage volume new_page = (page : ℕ) → new_page ≡ Some page → IsTaken volume.data_pages page
