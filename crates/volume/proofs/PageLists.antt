-- The pages that the index holds of an inode, counted.
use Rattle.std.proofs.Common.{◌≡◌, inl, inr, ℕ, zero, suc, ◌+◌, ◌<◌, ◌≤◌, true, false, List, [], ◌∷◌, length, Contains, refl, sym, arith}
use Rattle.pm_trait.specs.DeviceView.{DeviceView}
use Rattle.layout.specs.Geometry.{inodes_of, data_pages_of, most_data_pages}
use Rattle.layout.proofs.GeometryLaws.{data_pages_below}
use Rattle.tree_model.specs.Run.{State}
use Rattle.tree_model.specs.declared.command.Command.{Command}
use Rattle.image_reading.specs.Counts.{IsIn, Count}
use Rattle.image_reading.specs.Residue.{Residue, no_residue}
use Rattle.image_reading.specs.Soundness.{Rule}
use Rattle.image_counts.specs.Entries.{IsPageIn}
use Rattle.image_counts.proofs.Counting.{count_fewer, count_run}
use Rattle.volatile_index.specs.Index.{pages_of}
use Rattle.volume.specs.Volume.{VolumeView}
use Rattle.volume.specs.Stands.{IsStanding}
use Rattle.volume.specs.Beside.{StandsBeside, IsUntouched}
use Rattle.volume.specs.Planned.{IsLossOf}
use Rattle.volume.specs.declared.plan.Loss.{Loss}
use Rattle.volume.proofs.Beside.{stands_beside, untouched_nothing}

pub in_contained : (x : ℕ) (xs : List ℕ) → IsIn x xs → Contains xs x
in_contained x [] among = absurd among
in_contained x (y ∷ xs) among = elim among [
  | inl same ↦ (0, omega arith, sym same)
  | inr later ↦ let (k, lt, is) = in_contained x xs later in (suc k, omega arith, is)
]

pub contained_in : (x : ℕ) (xs : List ℕ) → Contains xs x → IsIn x xs
contained_in x [] (k, lt, is) = absurd (omega (arith, lt))
contained_in x (y ∷ xs) (zero, lt, is) = inl (sym is)
contained_in x (y ∷ xs) (suc k, lt, is) = inr (contained_in x xs (k, omega (arith, lt), is))

-- ---- of an inode that no running call touches

module _ (volume : VolumeView) (device : DeviceView) (state : State) (residue : Residue) (stands : StandsBeside volume device state residue) (i : ℕ)
    (untouched : IsUntouched volume device.words residue i) (least : 1 ≤ i) (most : i ≤ inodes_of volume.size) where
  pub listed_is_in : (page : ℕ) → Contains (pages_of volume.index i) page → IsPageIn volume.size device.words i page
  listed_is_in page there = (stands.knows.nodes.pages i page least most (λ left. untouched.listed page left there)).0 there

  pub in_is_listed : (page : ℕ) → IsPageIn volume.size device.words i page → Contains (pages_of volume.index i) page
  in_is_listed page inside = (stands.knows.nodes.pages i page least most (λ left. untouched.apart.pages page left inside.owner)).1 inside

  pub pages_counted_beside : Count (IsPageIn volume.size device.words i) (length (pages_of volume.index i))
  pages_counted_beside = (
    pages_of volume.index i,
    stands.knows.nodes.once i least most,
    (λ page. (
      (λ among. listed_is_in page (in_contained page (pages_of volume.index i) among)),
      (λ inside. contained_in page (pages_of volume.index i) (in_is_listed page inside)),
    )),
    refl,
  )

pub pages_counted : (volume : VolumeView) (device : DeviceView) (i : ℕ) → IsStanding volume device → 1 ≤ i → i ≤ inodes_of volume.size → Count (IsPageIn volume.size device.words i) (length (pages_of volume.index i))
pages_counted volume device i (state, stands) least most = pages_counted_beside volume device state no_residue (stands_beside stands) i (untouched_nothing volume device.words i) least most

-- ---- no more than a volume may have

few : (P : ℕ) (I : List ℕ) (i pages : ℕ) → Count (IsPageIn P I i) pages → pages ≤ data_pages_of P
few P I i pages count = count_fewer (IsPageIn P I i) (λ page. (0 ≤ page) × (page < 0 + data_pages_of P)) pages (data_pages_of P) (λ page inside. (omega arith, omega (arith, inside.in_range))) count (count_run 0 (data_pages_of P))

pub few_lost : (volume : VolumeView) (device : DeviceView) (state : State) (residue : Residue) (command : Command) (loss : Loss) → StandsBeside volume device state residue → IsLossOf volume.size device.words state command loss → loss.pages ≤ most_data_pages
few_lost volume device state residue command loss stands is =
    let size = (stands.sound.coherent Rule.head 0).size refl in
    let below = data_pages_below volume.size size in
    elim loss.goes as (λ goes. loss.goes ≡ goes → loss.pages ≤ most_data_pages) [
      | true ↦ λ goes. let most = few volume.size device.words loss.inode loss.pages (is.pages goes) in omega (arith, most, below, size)
      | false ↦ λ stays. let none = is.no_pages stays in omega (arith, none)
    ] refl
