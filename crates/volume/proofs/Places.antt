-- The lowest slot of a directory that names nothing, and the lowest free page.
use Rattle.std.proofs.Common.{◌≡◌, ℕ, zero, suc, ◌+◌, ◌*◌, ◌<◌, ◌≤◌, true, List, [], ◌∷◌, Contains, Option, Some, None, refl, sym, subst, arith}
use Rattle.std.proofs.lemmas.Option.{slice_get_within}
use Rattle.pm_trait.specs.DeviceView.{DeviceView}
use Rattle.layout.specs.Geometry.{data_pages_of, slots_of, page_of_slot}
use Rattle.layout.proofs.GeometryLaws.{slot_below}
use Rattle.layout.specs.Fields.{page_owner}
use Rattle.image_reading.specs.Reading.{slot_owner}
use Rattle.image_counts.specs.Entries.{IsUnusedDataPage}
use Rattle.allocators.specs.Numbers.{IsFree, IsLowest}
use Rattle.volume.specs.Volume.{VolumeView}
use Rattle.volume.specs.Beside.{IsStandingBeside}
use Rattle.volume.specs.Planned.{IsLowestPage, IsPlace}

-- ---- a slot's page

pub page_is : (page slot : ℕ) → 32 * page ≤ slot → slot < 32 * page + 32 → page_of_slot slot ≡ page
unfolding page_of_slot
page_is page slot low high = omega arith

pub place_within : (P : ℕ) (I : List ℕ) (d slot : ℕ) (new_page : Option ℕ) → IsPlace P I d slot new_page → slot < slots_of P
unfolding page_of_slot
place_within P I d slot None place = place.vacant.page.in_range
place_within P I d slot (Some page) place =
    let same : page_of_slot slot ≡ page = omega (arith, place.slot_is) in
    slot_below P slot (subst (λ (j : ℕ). j < data_pages_of P) (sym same) place.page_is.free.0)

pub slots_of_page : (page slot : ℕ) → page_of_slot slot ≡ page → (32 * page ≤ slot) × (slot < 32 * page + 32)
unfolding page_of_slot
slots_of_page page slot is = (omega (arith, is), omega (arith, is))

pub owner_is : (P : ℕ) (I : List ℕ) (slot : ℕ) → slot_owner P I slot ≡ page_owner P I (page_of_slot slot)
unfolding slot_owner
owner_is P I slot = refl

-- ---- lists of pages

pub contains_one : (page other : ℕ) → other ≡ page → Contains (page ∷ []) other
contains_one page other is = (0, omega arith, sym is)

pub in_one : (page other : ℕ) → Contains (page ∷ []) other → other ≡ page
in_one page other (zero, lt, is) = sym is
in_one page other (suc k, lt, is) = absurd (omega arith)

module _ (volume : VolumeView) (device : DeviceView) (standing : IsStandingBeside volume device) where
  -- ---- free pages

  pub free_page : (page : ℕ) → IsFree volume.data_pages page → IsUnusedDataPage volume.size device.words page
  free_page page free =
      let inside = slice_get_within volume.data_pages page true free in
      let below : page < data_pages_of volume.size = omega (arith, inside, standing.2.knows.each_page) in
      (below, (standing.2.knows.data_pages page below).0 free)

  pub page_free : (page : ℕ) → IsUnusedDataPage volume.size device.words page → IsFree volume.data_pages page
  page_free page (below, unused) = (standing.2.knows.data_pages page below).1 unused

  pub lowest_page : (page : ℕ) → IsLowest volume.data_pages page → IsLowestPage volume.size device.words page
  lowest_page page lowest = record {
    free = free_page page lowest.free;
    lowest = λ other lt free. let least = lowest.least other (page_free other free) in omega (arith, least, lt);
  }
