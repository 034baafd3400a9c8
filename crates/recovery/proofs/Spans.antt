-- The words of a part stand in order, in lines of their own, and no other object has them.
use Rattle.std.proofs.Common.{◌≡◌, ◌⊎◌, inl, inr, ℕ, ◌+◌, ◌-◌, ◌*◌, ◌<◌, ◌≤◌, List, length, slice_index, arith, subst}
use Rattle.std.proofs.Math.Nat.{mul-le-mul_left}
use Rattle.std.proofs.lemmas.Bool.{cases_eq}
use Rattle.layout.specs.Geometry.{data_pages_of, slots_of, inode_word_of, descriptor_word_of, slot_word_of, first_data_word_of, inode_pages_of}
use Rattle.layout.proofs.GeometryLaws.{in_range}
use Rattle.recovery.specs.declared.repairs.Repairs.{Repairs}
use Rattle.recovery.specs.Repairs.{HasObjects}
use Rattle.recovery.specs.declared.part.Part.{Part}
use Rattle.recovery.specs.declared.part.Part.TheVariants.{Number, Pointer, Owner, Name, Links, Descriptor, Inode}
use Rattle.recovery.specs.Parts.{IsNumber, AreNumbers, IsRising, first_of, last_of, events_of_part}
use Rattle.recovery.specs.Changes.{IsInPart, IsAmong, IsCleared, IsLinked, span_events}

pub in_order : (P : ℕ) (part : Part) (number : ℕ) → IsNumber P part number → first_of P part number ≤ last_of P part number
unfolding slot_word_of descriptor_word_of inode_word_of
in_order P Number s there = omega arith
in_order P Pointer s there = omega arith
in_order P Owner j there = omega arith
in_order P Name s there = omega arith
in_order P Links i there = omega arith
in_order P (Descriptor words) j there = omega (arith, there.0.0)
in_order P (Inode words) i there = omega arith

pub events_exact : (P : ℕ) (part : Part) (number : ℕ) → IsNumber P part number → span_events (first_of P part number) (last_of P part number) ≡ events_of_part part
unfolding slot_word_of first_data_word_of descriptor_word_of inode_word_of
events_exact P Number s there = omega arith
events_exact P Pointer s there = omega arith
events_exact P Owner j there = omega arith
events_exact P Name s there = omega arith
events_exact P Links i there = omega arith
events_exact P (Descriptor words) j there = omega (arith, there.0.0, there.0.1)
events_exact P (Inode words) i there = omega (arith, there.0.0, there.0.1)

-- a word of two objects' parts is one object's
pub one_object : (P : ℕ) (part : Part) (m n x y a v w : ℕ) → IsNumber P part m → IsNumber P part n → IsInPart P part m x a v → IsInPart P part n y a w → m ≡ n
unfolding slot_word_of descriptor_word_of inode_word_of
one_object P Number m n x y a v w om on one two = omega (arith, one.low, one.high, two.low, two.high)
one_object P Pointer m n x y a v w om on one two = omega (arith, one.low, one.high, two.low, two.high)
one_object P Owner m n x y a v w om on one two = omega (arith, one.low, one.high, two.low, two.high)
one_object P Name m n x y a v w om on one two = omega (arith, one.low, one.high, two.low, two.high)
one_object P Links m n x y a v w om on one two = omega (arith, om.0, on.0, one.low, one.high, two.low, two.high)
one_object P (Descriptor words) m n x y a v w om on one two = omega (arith, om.0.0, om.0.1, one.low, one.high, two.low, two.high)
one_object P (Inode words) m n x y a v w om on one two = omega (arith, om.0.0, om.0.1, om.1.0, on.1.0, one.low, one.high, two.low, two.high)

pub events_more : (part : Part) (k : ℕ) → events_of_part part * k + events_of_part part ≡ events_of_part part * (k + 1)
events_more part k = omega arith

pub room_for : (part : Part) (k n old now : ℕ) → k < n → events_of_part part * n ≤ old → old ≤ now + events_of_part part * k → events_of_part part ≤ now
room_for part k n old now lt room had = omega (arith, mul-le-mul_left (events_of_part part) lt)

pub events_none : (part : Part) → 0 ≤ events_of_part part * 0
events_none part = omega arith

module _ (P : ℕ) (part : Part) (numbers : List ℕ) (values : ℕ → ℕ) where
  pub among_none : (a v : ℕ) → IsAmong P part numbers values 0 a v → ⊥
  among_none a v is = omega (arith, is.before)

  pub among_more : (k : ℕ) (a v : ℕ) → IsAmong P part numbers values k a v ⊎ IsInPart P part (slice_index numbers k) (values k) a v → IsAmong P part numbers values (k + 1) a v
  among_more k a v (inl is) = record { place = is.place; before = omega (arith, is.before); is = is.is }
  among_more k a v (inr is) = record { place = k; before = omega arith; is = is }

  pub among_fewer : (k : ℕ) (a v : ℕ) → IsAmong P part numbers values (k + 1) a v → IsAmong P part numbers values k a v ⊎ IsInPart P part (slice_index numbers k) (values k) a v
  among_fewer k a v is = elim (cases_eq is.place k) [
    | inl here ↦ inr (subst (λ z. IsInPart P part (slice_index numbers z) (values z) a v) here is.is)
    | inr other ↦ inl (record { place = is.place; before = omega (arith, is.before, other); is = is.is })
  ]

  pub among_apart : IsRising numbers → AreNumbers P part numbers → (k : ℕ) → k < length numbers → (a v w : ℕ) → IsAmong P part numbers values k a v → IsInPart P part (slice_index numbers k) (values k) a w → ⊥
  among_apart rising each k lt a v w is here =
      let same = one_object P part (slice_index numbers is.place) (slice_index numbers k) (values is.place) (values k) a v w (each is.place (omega (arith, is.before, lt))) (each k lt) is.is here in
      let less = rising is.place k is.before lt in
      omega (arith, same, less)

  pub among_to : {k n : ℕ} → k ≡ n → (a v : ℕ) → IsAmong P part numbers values k a v → IsAmong P part numbers values n a v
  among_to is a v among = subst (λ (z : ℕ). IsAmong P part numbers values z a v) is among

-- no word is cleared where there are no objects
pub cleared_none : (P : ℕ) (part : Part) (numbers : List ℕ) (values : ℕ → ℕ) → length numbers ≡ 0 → (a v : ℕ) → IsAmong P part numbers values (length numbers) a v → ⊥
cleared_none P part numbers values none a v is = let before = is.before in omega (arith, none, before)

-- ---- parts of several objects stand apart

-- descriptors stand behind the inodes and before the slots
pub owner_place : (P j x a v : ℕ) → j < data_pages_of P → IsInPart P Owner j x a v → (512 * (1 + inode_pages_of P) ≤ a) × (a < first_data_word_of P)
owner_place P j x a v within is =
    let (low, high) = (in_range P).descriptors j 0 (within, omega arith) in
    let l = is.low in let h = is.high in (omega (arith, l, low), omega (arith, h, high))

pub descriptor_place : (P words j x a v : ℕ) → j < data_pages_of P → IsInPart P (Descriptor words) j x a v → 512 * (1 + inode_pages_of P) ≤ a
descriptor_place P words j x a v within is =
    let (low, high) = (in_range P).descriptors j 1 (within, omega arith) in
    let l = is.low in omega (arith, l, low)

pub name_place : (P s x a v : ℕ) → s < slots_of P → IsInPart P Name s x a v → first_data_word_of P ≤ a
name_place P s x a v within is =
    let (low, high) = (in_range P).slots s 1 (within, omega arith) in
    let l = is.low in omega (arith, l, low)

pub links_place : (P i x a v : ℕ) → IsNumber P Links i → IsInPart P Links i x a v → a < 512 * (1 + inode_pages_of P)
links_place P i x a v within is =
    let (low, high) = (in_range P).inodes i 1 (within.0, within.1, omega arith) in
    let h = is.high in omega (arith, h, high)

pub inode_place : (P words i x a v : ℕ) → IsNumber P (Inode words) i → IsInPart P (Inode words) i x a v → a < 512 * (1 + inode_pages_of P)
inode_place P words i x a v within is =
    let (low, high) = (in_range P).inodes i (words - 1) (within.1.0, within.1.1, omega (arith, within.0.0, within.0.1)) in
    let h = is.high in omega (arith, h, high)

pub data_behind : (P : ℕ) → 512 * (1 + inode_pages_of P) ≤ first_data_word_of P
unfolding first_data_word_of
data_behind P = omega arith

module _ (r : Repairs) (has : HasObjects r) where
  pub owners_slots : (a v w : ℕ) → IsCleared r.geometry.pages Owner r.owners.items a v → IsCleared r.geometry.pages Name r.slots.items a w → ⊥
  owners_slots a v w one two =
      let (low, high) = owner_place r.geometry.pages _ _ a v (has.owners.each one.place one.before) one.is in
      let above = name_place r.geometry.pages _ _ a w (has.slots.each two.place two.before) two.is in
      omega (arith, high, above)

  pub cleared_links : (a v w : ℕ) → IsCleared r.geometry.pages Owner r.owners.items a v ⊎ IsCleared r.geometry.pages Name r.slots.items a v → IsLinked r.geometry.pages r.links.items r.counts.items a w → ⊥
  cleared_links a v w (inl one) two =
      let (low, high) = owner_place r.geometry.pages _ _ a v (has.owners.each one.place one.before) one.is in
      let below = links_place r.geometry.pages _ _ a w (has.links.each two.place two.before) two.is in
      omega (arith, low, below)
  cleared_links a v w (inr one) two =
      let low = name_place r.geometry.pages _ _ a v (has.slots.each one.place one.before) one.is in
      let below = links_place r.geometry.pages _ _ a w (has.links.each two.place two.before) two.is in
      let behind = data_behind r.geometry.pages in
      omega (arith, low, below, behind)

  pub descriptors_inodes : (a v w : ℕ) → IsCleared r.geometry.pages (Descriptor r.descriptor_width) r.descriptors.items a v → IsCleared r.geometry.pages (Inode r.inode_width) r.inodes.items a w → ⊥
  descriptors_inodes a v w one two =
      let low = descriptor_place r.geometry.pages _ _ _ a v (has.descriptors.each one.place one.before).1 one.is in
      let below = inode_place r.geometry.pages _ _ _ a w (has.inodes.each two.place two.before) two.is in
      omega (arith, low, below)
