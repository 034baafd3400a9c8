-- How many inodes and pages are free.
use Rattle.std.proofs.Common.{◌≡◌, inl, inr, ℕ, zero, suc, ◌+◌, ◌-◌, ◌<◌, ◌≤◌, Bool, true, false, cond, List, [], ◌∷◌, length, map, Some, refl, sym, ap, subst, ◌∙◌, arith}
use Rattle.std.proofs.lemmas.Option.{slice_get_within}
use Rattle.std.proofs.lemmas.List.Sums.{sum_by-cons}
use Rattle.pm_trait.specs.DeviceView.{DeviceView}
use Rattle.layout.specs.Geometry.{inodes_of, data_pages_of}
use Rattle.layout.specs.Fields.{inode_kind}
use Rattle.tree_model.specs.Capacity.{free_inodes, free_pages, untaken}
use Rattle.tree_model.specs.Run.{State}
use Rattle.image_reading.specs.Counts.{IsIn, IsDistinct, Count}
use Rattle.image_reading.specs.Residue.{Residue, no_residue}
use Rattle.image_reading.specs.Soundness.{root}
use Rattle.image_reading.proofs.Counts.{count_none}
use Rattle.image_counts.specs.Entries.{IsUnusedDataPage, IsFreeInode}
use Rattle.image_counts.specs.Laws.{ReadsBeside, supply_beside}
use Rattle.image_counts.proofs.Beside.{page_count_beside_law}
use Rattle.image_counts.proofs.Counting.{count_alike}
use Rattle.image_counts.proofs.Inodes.{free_inode_beside_law}
use Rattle.allocators.specs.Numbers.{IsFree, IsLowest, free_in}
use Rattle.volume.specs.Volume.{VolumeView}
use Rattle.volume.specs.Stands.{StandsFor}
use Rattle.volume.specs.Beside.{StandsBeside}
use Rattle.volume.specs.Planned.{IsLeastInode}
use Rattle.volume.proofs.Beside.{stands_beside}

abbrev counted : Bool → ℕ
counted is_free = cond is_free 1 0

-- ---- numbers that are one more

abbrev IsOneMore : (ℕ → Type 0) → ℕ → Type 0
IsOneMore Q x = (k : ℕ) × (x ≡ suc k) × Q k

same_before : (k l : ℕ) → suc k ≡ suc l → k ≡ l
same_before k l e = omega (arith, e)

in_more : (x : ℕ) (xs : List ℕ) → IsIn x xs → IsIn (suc x) (map suc xs)
in_more x [] among = absurd among
in_more x (y ∷ ys) among = elim among [ inl is ↦ inl (ap suc is) | inr later ↦ inr (in_more x ys later) ]

of_more : (x : ℕ) (xs : List ℕ) → IsIn x (map suc xs) → (k : ℕ) × (x ≡ suc k) × IsIn k xs
of_more x [] among = absurd among
of_more x (y ∷ ys) among = elim among [
  | inl is ↦ (y, is, inl refl)
  | inr later ↦ let (k, is, there) = of_more x ys later in (k, is, inr there)
]

distinct_more : (xs : List ℕ) → IsDistinct xs → IsDistinct (map suc xs)
distinct_more [] distinct = tt
distinct_more (x ∷ xs) distinct = (
  (λ among. let (k, is, there) = of_more (suc x) xs among in distinct.0 (subst (λ y. IsIn y xs) (sym (same_before x k is)) there)),
  distinct_more xs distinct.1,
)

length_more : (xs : List ℕ) → length (map suc xs) ≡ length xs
length_more [] = refl
length_more (x ∷ xs) = ap suc (length_more xs)

count_more : (Q : ℕ → Type 0) (n : ℕ) → Count Q n → Count (IsOneMore Q) n
count_more Q n (xs, distinct, is, long) = (
  map suc xs,
  distinct_more xs distinct,
  (λ x. (
    (λ among. let (k, same, there) = of_more x xs among in (k, same, (is k).0 there)),
    (λ (k, same, q). subst (λ y. IsIn y (map suc xs)) (sym same) (in_more k xs ((is k).1 q))),
  )),
  length_more xs ∙ long,
)

-- and nought where it has the property
count_nought : (Q R : ℕ → Type 0) (n : ℕ) (b : Bool) → Count Q n → ((k : ℕ) → R (suc k) → Q k) → ((k : ℕ) → Q k → R (suc k)) → (R 0 → b ≡ true) → (b ≡ true → R 0) → Count R (counted b + n)
count_nought Q R n true count to from here has =
    let (xs, distinct, is, long) = count_more Q n count in (
      0 ∷ xs,
      ((λ among. let (k, same, q) = (is 0).0 among in absurd (omega (arith, same))), distinct),
      (λ x. (
        (λ among. elim among [
          | inl same ↦ subst R (sym same) (has refl)
          | inr later ↦ let (k, same, q) = (is x).0 later in subst R (sym same) (from k q)
        ]),
        back x xs is,
      )),
      omega (arith, long),
    )
  where
    back : (x : ℕ) (xs : List ℕ) → ((x : ℕ) → (IsIn x xs → IsOneMore Q x) × (IsOneMore Q x → IsIn x xs)) → R x → IsIn x (0 ∷ xs)
    back zero xs is r = inl refl
    back (suc k) xs is r = inr ((is (suc k)).1 (k, refl, to k r))
count_nought Q R n false count to from here has =
    let all : n ≡ 0 + n = omega arith in
    subst (Count R) all (count_alike (IsOneMore Q) R n (λ x (k, same, q). subst R (sym same) (from k q)) back (count_more Q n count))
  where
    no : false ≡ true → ⊥
    no e = cc

    back : (x : ℕ) → R x → IsOneMore Q x
    back zero r = absurd (no (here r))
    back (suc k) r = (k, refl, to k r)

some_true : (b : Bool) → Some b ≡ Some true → b ≡ true
some_true b e = cc

-- ---- the numbers of a list that are free

pub count_free : (numbers : List Bool) → Count (IsFree numbers) (free_in numbers)
count_free [] = count_none (IsFree []) (λ k free. cc)
count_free (b ∷ numbers) =
    subst (Count (IsFree (b ∷ numbers))) (sym (sum_by-cons counted b numbers))
    (count_nought (IsFree numbers) (IsFree (b ∷ numbers)) (free_in numbers) b (count_free numbers) (λ k free. free) (λ k free. free) (some_true b) (ap Some))

-- ---- what is free on a volume

one_back : (k : ℕ) → k ≡ suc k - 1
one_back k = omega arith

one_on : (k : ℕ) → suc k ≡ k + 1
one_on k = omega arith

-- a directory is no free inode
not_both : (kind : ℕ) → kind ≡ 2 → kind ≡ 0 → ⊥
not_both kind two none = omega (arith, two, none)

module _ (volume : VolumeView) (device : DeviceView) (state : State) (residue : Residue) (stands : StandsBeside volume device state residue) where
  pub reads_beside : ReadsBeside volume.size device.words residue state
  reads_beside = record { coherent = stands.sound.coherent; beside = stands.beside; reads = stands.reads }

  free_inode_beside : (k : ℕ) → IsFree volume.inodes k → IsFreeInode volume.size device.words (suc k)
  free_inode_beside k free =
      let inside = slice_get_within volume.inodes k true free in
      let most : suc k ≤ inodes_of volume.size = omega (arith, inside, stands.knows.each_inode) in
      (omega arith, most, (stands.knows.inodes (suc k) (omega arith) most).0 (subst (IsFree volume.inodes) (one_back k) free))

  pub inode_free_beside : (i : ℕ) → IsFreeInode volume.size device.words i → IsFree volume.inodes (i - 1)
  inode_free_beside i (least, most, unused) = (stands.knows.inodes i least most).1 unused

  inodes_counted : Count (IsFreeInode volume.size device.words) (free_in volume.inodes)
  inodes_counted =
      count_alike (IsOneMore (IsFree volume.inodes)) (IsFreeInode volume.size device.words) (free_in volume.inodes)
      (λ i (k, same, free). subst (IsFreeInode volume.size device.words) (sym same) (free_inode_beside k free))
      (λ i unused. (i - 1, omega (arith, unused.0), inode_free_beside i unused))
      (count_more (IsFree volume.inodes) (free_in volume.inodes) (count_free volume.inodes))

  pub free_inodes_beside : free_inodes (supply_beside volume.size residue) state.tree ≡ free_in volume.inodes
  free_inodes_beside = (free_inode_beside_law volume.size device.words residue state reads_beside).free (free_in volume.inodes) inodes_counted

  unused_page : (j : ℕ) → IsFree volume.data_pages j → IsUnusedDataPage volume.size device.words j
  unused_page j free =
      let inside = slice_get_within volume.data_pages j true free in
      let below : j < data_pages_of volume.size = omega (arith, inside, stands.knows.each_page) in
      (below, (stands.knows.data_pages j below).0 free)

  page_unused : (j : ℕ) → IsUnusedDataPage volume.size device.words j → IsFree volume.data_pages j
  page_unused j (below, unused) = (stands.knows.data_pages j below).1 unused

  pub free_pages_beside : free_pages (supply_beside volume.size residue) state.tree state.room ≡ free_in volume.data_pages
  free_pages_beside =
      (page_count_beside_law volume.size device.words residue state reads_beside).free (free_in volume.data_pages)
      (count_alike (IsFree volume.data_pages) (IsUnusedDataPage volume.size device.words) (free_in volume.data_pages) unused_page page_unused (count_free volume.data_pages))

  -- the root's inode isn't free
  root_taken : IsFree volume.inodes 0 → ⊥
  root_taken free = not_both (inode_kind device.words 1) ((stands.sound.coherent root 1).directory refl) (free_inode_beside 0 free).2

  pub least_inode : (k : ℕ) → IsLowest volume.inodes k → IsLeastInode volume.size device.words (k + 1)
  least_inode zero lowest = absurd (root_taken lowest.free)
  least_inode (suc k) lowest = record {
    free = subst (IsFreeInode volume.size device.words) (one_on (suc k)) (free_inode_beside (suc k) lowest.free);
    from_two = omega arith;
    least = λ j low high unused. let least = lowest.least (j - 1) (inode_free_beside j unused) in omega (arith, least, low, high);
  }

-- ---- and where no call runs

module _ (volume : VolumeView) (device : DeviceView) (state : State) (stands : StandsFor volume device state) where
  pub inode_free : (i : ℕ) → IsFreeInode volume.size device.words i → IsFree volume.inodes (i - 1)
  inode_free = inode_free_beside volume device state no_residue (stands_beside stands)

  pub free_inodes_are : free_inodes (untaken volume.size) state.tree ≡ free_in volume.inodes
  free_inodes_are = free_inodes_beside volume device state no_residue (stands_beside stands)

  pub free_pages_are : free_pages (untaken volume.size) state.tree state.room ≡ free_in volume.data_pages
  free_pages_are = free_pages_beside volume device state no_residue (stands_beside stands)
