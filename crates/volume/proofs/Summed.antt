-- What is counted and summed inode by inode is what the whole tree has.
use Rattle.std.proofs.Common.{◌≡◌, ◌≢◌, ◌⊎◌, inl, inr, ℕ, zero, suc, ◌+◌, ◌*◌, ◌^◌, ◌<◌, ◌≤◌, true, false, not, cond, T, List, [], ◌∷◌, length, filter, reverse, sum_by, Some, is_some, nat_cmp, refl, sym, ap, subst, ◌∙◌, add-one, arith}
use Rattle.std.specs.Cmp.{nat_cmp_total}
use Rattle.std.specs.FinMap.Entries.{find, below_all, is_sorted}
use Rattle.std.proofs.lemmas.Bool.{cases_eq}
use Rattle.std.proofs.lemmas.List.{reverse-reverse}
use Rattle.std.proofs.lemmas.List.Sums.{length-filter, sum_by-cons}
use Rattle.pm_trait.specs.DeviceView.{DeviceView}
use Rattle.layout.specs.Geometry.{IsVolumeSize, inodes_of, slots_of}
use Rattle.layout.specs.Fields.{inode_size}
use Rattle.layout.proofs.GeometryLaws.{data_pages_below, inodes_below, slots_in_pages}
use Rattle.tree_model.specs.PathText.{Route}
use Rattle.tree_model.specs.Tree.{Tree, Node, File, node_at, is_root, bytes_of, bytes_of_node}
use Rattle.tree_model.specs.Capacity.{Fits, file_limit}
use Rattle.tree_model.specs.Run.{State}
use Rattle.tree_model.proofs.NodeLaws.{bytes_bounded}
use Rattle.tree_model.proofs.EntryLaws.{front, back, find-first, find-below}
use Rattle.tree_model.proofs.TreeLaws.{other_id}
use Rattle.image_reading.specs.Counts.{Count}
use Rattle.image_reading.specs.Reading.{IsFile, slot_owner, IsReachedSlot, Reads}
use Rattle.image_reading.specs.Residue.{no_residue}
use Rattle.image_reading.specs.Soundness.{IsCoherent}
use Rattle.image_reading.proofs.Counts.{count_none, count_one}
use Rattle.image_reading.proofs.Tidied.{tidied}
use Rattle.image_counts.specs.Entries.{IsSlotOf}
use Rattle.image_counts.proofs.Counting.{Among, count_alike, count_fewer, count_either, count_run}
use Rattle.image_counts.proofs.Entries.{find_among}
use Rattle.image_counts.proofs.Inodes.{free_inode_law}
use Rattle.image_counts.proofs.Nodes.{has_sizes, file_node}
use Rattle.image_counts.proofs.Paths.{reached_slot, in_range}
use Rattle.image_counts.proofs.Slots.{all_names, some_names, count_slots, owner_of}
use Rattle.image_counts.proofs.States.{state_law}
use Rattle.volatile_index.specs.Entries.{IsSorted}
use Rattle.volatile_index.specs.Index.{entries_of}
use Rattle.volume.specs.Volume.{VolumeView}
use Rattle.volume.specs.Stands.{StandsFor, IsStanding}
use Rattle.volume.specs.Totals.{below_root, node_size, bytes_in_files, totals_of}
use Rattle.volume.specs.declared.totals.Totals.{Totals}
use Rattle.volume.proofs.Beside.{stands_beside}
use Rattle.volume.proofs.Statuses.{slots_counted}

-- ---- names

module _ (P : ℕ) (I : List ℕ) (T : Tree) (coherent : IsCoherent P I) (reads : Reads P I T) where
  abbrev IsBelowRoot : Route × ℕ → Type 0
  IsBelowRoot e = Unit {0} × (not (is_root e.0) ≡ true)

  -- there are as many reached slots as names
  pub count_names : Count (IsReachedSlot P I) (below_root T)
  count_names = subst (Count (IsReachedSlot P I)) (length-filter (λ e. not (is_root e.0)) T.names.entries)
      (count_slots P I T coherent reads IsBelowRoot (IsReachedSlot P I) (filter (λ e. not (is_root e.0)) T.names.entries)
      (some_names T (λ e. Unit {0}) T.names.entries (λ e. not (is_root e.0)) (all_names T))
      (λ i is below. (let clash : false ≡ true = below.1 in cc))
      (λ p i s last below. reached_slot P I (reverse p) i s last)
      (λ s slot. slot)
      (λ p i s last slot. (tt, ap (λ b. not b) (ap is_root (sym (reverse-reverse p)) ∙ (owner_of P I T coherent reads (reverse p) i s last).1))))

-- a reached slot of one of the inodes from 1 to n
abbrev pub IsSlotTo : ℕ → List ℕ → ℕ → ℕ → Type 0
IsSlotTo P I n s = IsReachedSlot P I s × (slot_owner P I s ≤ n)

module _ (P : ℕ) (I : List ℕ) (coherent : IsCoherent P I) where
  pub slots_begun : Count (IsSlotTo P I 0) 0
  slots_begun = count_none (IsSlotTo P I 0) (λ s has. (let least = (in_range P I coherent (slot_owner P I s) has.0.owner).0 in omega (arith, least, has.1)))

  -- those of the next inode come to them
  pub slots_more : (n k m : ℕ) → Count (IsSlotTo P I n) k → Count (IsSlotOf P I (n + 1)) m → Count (IsSlotTo P I (n + 1)) (k + m)
  slots_more n k m before here =
      count_alike (λ s. IsSlotTo P I n s ⊎ IsSlotOf P I (n + 1) s) (IsSlotTo P I (n + 1)) (k + m) to from
      (count_either (IsSlotTo P I n) (IsSlotOf P I (n + 1)) k m (λ s low next. omega (arith, low.1, next.1)) before here)
    where
      to : (s : ℕ) → IsSlotTo P I n s ⊎ IsSlotOf P I (n + 1) s → IsSlotTo P I (n + 1) s
      to s has = elim has [ inl low ↦ (low.0, omega (arith, low.1)) | inr next ↦ (next.0, omega (arith, next.1)) ]

      from : (s : ℕ) → IsSlotTo P I (n + 1) s → IsSlotTo P I n s ⊎ IsSlotOf P I (n + 1) s
      from s has = elim (cases_eq (slot_owner P I s) (n + 1)) [
        | inl same ↦ inr (has.0, same)
        | inr other ↦ inl (has.0, omega (arith, has.1, other))
      ]

  -- there are no more of them than slots
  pub slots_few : (n k : ℕ) → IsVolumeSize P → Count (IsSlotTo P I n) k → k ≤ 2 ^ 21
  slots_few n k size count =
      let few = count_fewer (IsSlotTo P I n) (λ s. (0 ≤ s) × (s < 0 + slots_of P)) k (slots_of P)
      (λ s has. (omega arith, let lt = has.0.live.held.in_range in omega (arith, lt))) count (count_run 0 (slots_of P)) in
      let pages = data_pages_below P size in
      let slots = slots_in_pages P in
      omega (arith, few, pages, slots, size.1)

  pub slots_all : (T : Tree) (k : ℕ) → Reads P I T → Count (IsSlotTo P I (inodes_of P)) k → k ≡ below_root T
  slots_all T k reads count =
      count_one (IsReachedSlot P I) k (below_root T)
      (count_alike (IsSlotTo P I (inodes_of P)) (IsReachedSlot P I) k (λ s has. has.0) (λ s slot. (slot, (in_range P I coherent (slot_owner P I s) slot.owner).1)) count)
      (count_names P I T coherent reads)

-- ---- sums over the numbers from 1 to n

pub sum_to : (ℕ → ℕ) → ℕ → ℕ
sum_to f zero = 0
sum_to f (suc n) = sum_to f n + f (suc n)

pub sum_to-none : (f : ℕ → ℕ) → sum_to f 0 ≡ 0
unfolding sum_to
sum_to-none f = refl

pub sum_to-more : (f : ℕ → ℕ) (n : ℕ) → sum_to f (n + 1) ≡ sum_to f n + f (n + 1)
unfolding sum_to
sum_to-more f n = rw add-one refl

pub sum_to-le : (f : ℕ → ℕ) (most n : ℕ) → ((i : ℕ) → f i ≤ most) → sum_to f n ≤ n * most
unfolding sum_to
sum_to-le f most zero each = omega arith
sum_to-le f most (suc n) each =
    let before = sum_to-le f most n each in
    let here = each (suc n) in
    omega (arith, before, here)

sum_to-alike : (f g : ℕ → ℕ) (n : ℕ) → ((i : ℕ) → i ≤ n → f i ≡ g i) → sum_to f n ≡ sum_to g n
unfolding sum_to
sum_to-alike f g zero same = refl
sum_to-alike f g (suc n) same =
    let before = sum_to-alike f g n (λ i most. same i (omega (arith, most))) in
    let here = same (suc n) (omega arith) in
    omega (arith, before, here)

sum_to-zeros : (n : ℕ) → sum_to (λ i. 0) n ≡ 0
unfolding sum_to
sum_to-zeros zero = refl
sum_to-zeros (suc n) = let before = sum_to-zeros n in omega (arith, before)

-- a sum where one number has v more
sum_to-one : (f g : ℕ → ℕ) (k v n : ℕ) → 1 ≤ k → k ≤ n → f k ≡ g k + v → ((i : ℕ) → i ≢ k → f i ≡ g i) → sum_to f n ≡ sum_to g n + v
unfolding sum_to
sum_to-one f g k v zero least most here others = absurd (omega (arith, least, most))
sum_to-one f g k v (suc n) least most here others = elim (cases_eq k (suc n)) [
  | inl same ↦
      let before = sum_to-alike f g n (λ i low. others i (λ is. omega (arith, low, is, same))) in
      let last : f (suc n) ≡ g (suc n) + v = subst (λ z. f z ≡ g z + v) same here in
      omega (arith, before, last)
  | inr other ↦
      let before = sum_to-one f g k v n least (omega (arith, most, other)) here others in
      let last : f (suc n) ≡ g (suc n) = others (suc n) (λ is. other (sym is)) in
      omega (arith, before, last)
]

-- ---- the sizes of nodes

-- the bytes of the file of an inode, and none where it is no file's
abbrev pub size_at : Tree → ℕ → ℕ
size_at T i = length (bytes_of T i)

abbrev size_found : List (ℕ × Node) → ℕ → ℕ
size_found es i = length (bytes_of_node (find nat_cmp i es))

-- the sizes of entries are those that are found at the numbers of their inodes
sum_of_entries : (n : ℕ) (es : List (ℕ × Node)) → T (is_sorted nat_cmp es) → ((e : ℕ × Node) → Among e es → (1 ≤ e.0) × (e.0 ≤ n))
    → sum_to (size_found es) n ≡ sum_by (λ e. node_size e.1) es
sum_of_entries n [] sorted within = sum_to-zeros n
sum_of_entries n (e ∷ es) sorted within =
    let range = within e (inl refl) in
    let rest = sum_of_entries n es (back (below_all nat_cmp e.0 es) (is_sorted nat_cmp es) sorted) (λ f among. within f (inr among)) in
    let here : size_found (e ∷ es) e.0 ≡ node_size e.1 = ap (λ o. length (bytes_of_node o)) (find-first nat_cmp nat_cmp_total e es) in
    let none : size_found es e.0 ≡ 0 = ap (λ o. length (bytes_of_node o)) (find-below nat_cmp e.0 es (front (below_all nat_cmp e.0 es) (is_sorted nat_cmp es) sorted)) in
    let others : (i : ℕ) → i ≢ e.0 → size_found (e ∷ es) i ≡ size_found es i = λ i other. ap (λ b. length (bytes_of_node (cond b (Some e.1) (find nat_cmp i es)))) (other_id i e.0 other) in
    let one = sum_to-one (size_found (e ∷ es)) (size_found es) e.0 (node_size e.1) n range.0 range.1 (omega (arith, here, none)) others in
    let all = sum_by-cons (λ (f : ℕ × Node). node_size f.1) e es in
    omega (arith, rest, one, all)

module _ (volume : VolumeView) (device : DeviceView) (state : State) (stands : StandsFor volume device state) where
  coherent : IsCoherent volume.size device.words
  coherent = (tidied stands.tidy).coherent

  fits : Fits volume.size state.tree state.room
  fits = (state_law volume.size device.words state coherent stands.reads).fits

  pub bytes_few : (n : ℕ) → sum_to (size_at state.tree) n ≤ n * 2 ^ 40
  bytes_few n = sum_to-le (size_at state.tree) (2 ^ 40) n (λ i. bytes_bounded (node_at state.tree i) file_limit (fits.sizes i))

  pub bytes_all : sum_to (size_at state.tree) (inodes_of volume.size) ≡ bytes_in_files state.tree
  bytes_all = sum_of_entries (inodes_of volume.size) state.tree.nodes.entries state.tree.nodes.sorted
      (λ e among. fits.ids e.0 (ap is_some (find_among nat_cmp nat_cmp_total state.tree.nodes.entries e state.tree.nodes.sorted among)))

  -- the size word of a file
  pub file_size : (i : ℕ) → 1 ≤ i → i ≤ inodes_of volume.size → IsFile device.words i → size_at state.tree i ≡ inode_size device.words i
  file_size i least most file =
      let reached = ((free_inode_law volume.size device.words state (tidied stands.tidy) stands.reads).used i least most).1 (λ free. omega (arith, file, free)) in
      let (bytes, is) = file_node volume.size device.words state.tree coherent stands.reads.tree i reached file in
      ap (λ o. length (bytes_of_node o)) is ∙ (has_sizes volume.size device.words state.tree coherent stands.reads.tree).sizes i bytes is

  pub no_file_size : (i : ℕ) → (IsFile device.words i → ⊥) → 0 ≡ size_at state.tree i
  no_file_size i other =
      let none = bytes_bounded (node_at state.tree i) 0 (λ bytes is. absurd (other ((stands.reads.tree.nodes i (File bytes)).0 is).1.0)) in
      omega (arith, none)

-- ---- the totals of the inodes from 1 to n

pub record AreTotalsTo (volume : VolumeView) (device : DeviceView) (n : ℕ) (totals : Totals) : Type 0 where
  pub names : Count (IsSlotTo volume.size device.words n) totals.names
  pub bytes : (state : State) → StandsFor volume device state → totals.bytes ≡ sum_to (size_at state.tree) n

module _ (volume : VolumeView) (device : DeviceView) (standing : IsStanding volume device) where
  all_fit : IsCoherent volume.size device.words
  all_fit = (tidied standing.1.tidy).coherent

  pub totals_begun : AreTotalsTo volume device 0 (record { names = 0; bytes = 0 })
  totals_begun = record {
    names = slots_begun volume.size device.words all_fit;
    bytes = λ state stands. sym (sum_to-none (size_at state.tree));
  }

  -- the next inode's names and bytes come to them, and both stay small
  module _ (n : ℕ) (totals : Totals) (before : AreTotalsTo volume device n totals) (most : n + 1 ≤ inodes_of volume.size) where
    names_more : (names : ℕ) → IsSorted (entries_of volume.index (n + 1)) → names ≡ length (entries_of volume.index (n + 1)) → Count (IsSlotTo volume.size device.words (n + 1)) (totals.names + names)
    names_more names sorted counted =
        let here = slots_counted volume device standing.0 no_residue (stands_beside standing.1) (n + 1) (omega arith) most sorted in
        slots_more volume.size device.words all_fit n totals.names names before.names (subst (Count (IsSlotOf volume.size device.words (n + 1))) (sym counted) here)

    bytes_more : (bytes : ℕ) → ((state : State) → StandsFor volume device state → bytes ≡ size_at state.tree (n + 1)) → (state : State) → StandsFor volume device state → totals.bytes + bytes ≡ sum_to (size_at state.tree) (n + 1)
    bytes_more bytes sized state stands = omega (arith, before.bytes state stands, sized state stands, sum_to-more (size_at state.tree) n)

    pub totals_more : (names bytes : ℕ) → IsSorted (entries_of volume.index (n + 1)) → names ≡ length (entries_of volume.index (n + 1))
        → ((state : State) → StandsFor volume device state → bytes ≡ size_at state.tree (n + 1))
        → AreTotalsTo volume device (n + 1) (record { names = totals.names + names; bytes = totals.bytes + bytes })
    totals_more names bytes sorted counted sized = record { names = names_more names sorted counted; bytes = bytes_more bytes sized }

    pub names_fit : (names : ℕ) → IsVolumeSize volume.size → IsSorted (entries_of volume.index (n + 1)) → names ≡ length (entries_of volume.index (n + 1)) → totals.names + names ≤ 2 ^ 21
    names_fit names size sorted counted = slots_few volume.size device.words all_fit (n + 1) (totals.names + names) size (names_more names sorted counted)

    pub bytes_fit : (bytes : ℕ) → IsVolumeSize volume.size → ((state : State) → StandsFor volume device state → bytes ≡ size_at state.tree (n + 1)) → totals.bytes + bytes ≤ 2 ^ 56
    bytes_fit bytes size sized =
        let few = bytes_few volume device standing.0 standing.1 (n + 1) in
        let inodes = inodes_below volume.size size in
        omega (arith, few, inodes, most, size.1, bytes_more bytes sized standing.0 standing.1)

  pub totals_all : (totals : Totals) → AreTotalsTo volume device (inodes_of volume.size) totals → (state : State) → StandsFor volume device state → totals ≡ totals_of state.tree
  totals_all totals are state stands =
      let names = slots_all volume.size device.words all_fit state.tree totals.names stands.reads.tree are.names in
      let bytes = are.bytes state stands ∙ bytes_all volume device state stands in
      λ i. record { names = names i; bytes = bytes i }
