-- What tells that an object of an image needs a repair.
use Rattle.std.proofs.Common.{◌≡◌, ◌≢◌, inl, inr, ℕ, ◌+◌, ◌*◌, ◌<◌, ◌≤◌, List, length, slice_index, ap, subst, ◌∙◌, sym, arith}
use Rattle.layout.proofs.GeometryLaws.{data_pages_below, inodes_below, slots_in_pages}
use Rattle.layout.specs.Geometry.{IsVolumeSize, data_pages_of, page_of_slot, inode_word_of, descriptor_word_of}
use Rattle.layout.specs.Fields.{word, inode_words, descriptor_words, page_kind}
use Rattle.image_reading.specs.Litter.{IsZeroInode, IsZeroDescriptorFrom}
use Rattle.image_reading.specs.Reading.{Reached, IsLinkCount}
use Rattle.image_reading.specs.Repairs.{IsKept, IsKeptDirectoryPage, IsLitterCount, IsLitterInode}
use Rattle.image_reading.specs.Soundness.{Rule, IsCoherent}
use Rattle.image_counts.proofs.Paths.{in_range}
use Rattle.repair_laws.proofs.Kept.{kept_held}
use Rattle.repair_laws.proofs.Storing.{some_or_zero}
use Rattle.repair_laws.proofs.Telling.{one_count}
use Rattle.repair_laws.specs.Stored.{HasNeedlessOwner, HasNeedlessKind, HasDeadName}
use Rattle.recovery.specs.Parts.{IsInode}
use Rattle.recovery.specs.Plans.{IsListOf}

-- ---- where not all words are zero, one isn't

pub some_of_page : (P : ℕ) (W : List ℕ) (j : ℕ) → ¬ IsZeroDescriptorFrom P W 1 j → (f : ℕ) × (1 ≤ f) × (f < descriptor_words W) × (word W (descriptor_word_of P j f) ≢ 0)
some_of_page P W j other = elim (some_or_zero W (descriptor_word_of P j) 1 (descriptor_words W)) [
  | inl has ↦ (has.0, has.1.above, has.1.below, has.1.nonzero)
  | inr none ↦ absurd (other none)
]

pub some_of_inode : (W : List ℕ) (i : ℕ) → ¬ IsZeroInode W i → (f : ℕ) × (f < inode_words W) × (word W (inode_word_of i f) ≢ 0)
some_of_inode W i other = elim (some_or_zero W (inode_word_of i) 0 (inode_words W)) [
  | inl has ↦ (has.0, has.1.below, has.1.nonzero)
  | inr none ↦ absurd (other (λ f small. none f (omega arith) small))
]

module _ (P : ℕ) (W : List ℕ) where
  -- ---- a directory's page has kind 2, and no other kept one has

  module _ (j : ℕ) where
    pub room_kind : IsKeptDirectoryPage P W j → page_kind P W j ≡ 2
    room_kind room = let (s, at, owner, live) = room.slot in sym (ap (page_kind P W) at) ∙ live.held.kind

    pub room_of_kind : IsCoherent P W → IsKept P W j → page_kind P W j ≡ 2 → IsKeptDirectoryPage P W j
    room_of_kind coherent kept slots = elim kept [
      | inl page ↦ absurd (let bytes = (coherent Rule.page_kinds j).file page.in_range page.owner page.file in omega (arith, bytes, slots))
      | inr room ↦ room
    ]

  -- ---- a reached inode's links

  module _ (i n m : ℕ) (coherent : IsCoherent P W) (reached : Reached P W i) (count : IsLinkCount P W i n) where
    pub other_count : m ≢ n → IsLinkCount P W i m → ⊥
    other_count other linked = other (one_count P W coherent i n m reached count linked)

    pub same_count : (IsLinkCount P W i m → ⊥) → m ≢ n
    same_count other same = other (subst (IsLinkCount P W i) (sym same) count)

  -- ---- where there are such objects

  module _ (size : IsVolumeSize P) where
    pub owner_below : (j : ℕ) → HasNeedlessOwner P W j → j < P
    owner_below j needless = let few = data_pages_below P size in let within = needless.page.in_range in omega (arith, few, within)

    pub kind_below : (j : ℕ) → HasNeedlessKind P W j → j < P
    kind_below j needless = let few = data_pages_below P size in let within = needless.page.in_range in omega (arith, few, within)

    pub litter_below : (i : ℕ) → IsLitterInode P W i → i < P
    litter_below i litter = let few = inodes_below P size in let most = litter.most in omega (arith, few, most)

  module _ (coherent : IsCoherent P W) where
    pub linked_inode : (i : ℕ) → IsLitterCount P W i → IsInode P i
    linked_inode i litter = in_range P W coherent i litter.reached

    pub links_below : IsVolumeSize P → (i : ℕ) → IsLitterCount P W i → i < P
    links_below size i litter = let few = inodes_below P size in let most = (linked_inode i litter).1 in omega (arith, few, most)

    pub dead_within : (s : ℕ) → HasDeadName P W s → s < 32 * data_pages_of P
    dead_within s dead = let within = (kept_held P W coherent s dead.slot.page).in_range in let slots = slots_in_pages P in omega (arith, within, slots)

    pub dead_below : IsVolumeSize P → (s : ℕ) → HasDeadName P W s → s < 32 * P
    dead_below size s dead = let few = data_pages_below P size in let within = dead_within s dead in omega (arith, few, within)

  -- ---- a page that isn't a directory's kept one has no dead slot

  pub none_of_page : (j : ℕ) → ¬ IsKeptDirectoryPage P W j → (s : ℕ) → 32 * j ≤ s → s < 32 * (j + 1) → ¬ HasDeadName P W s
  unfolding page_of_slot
  none_of_page j other s low high dead =
      let at : page_of_slot s ≡ j = omega (arith, low, high) in
      other (subst (IsKeptDirectoryPage P W) at dead.slot.page)

-- the inodes of the list are reached
pub all_reached : (P : ℕ) (W links slice : List ℕ) → slice ≡ links → IsListOf (IsLitterCount P W) links → (place : ℕ) → place < length slice → Reached P W (slice_index slice place)
all_reached P W links slice same list = subst (λ (l : List ℕ). (place : ℕ) → place < length l → Reached P W (slice_index l place)) (sym same) (λ place within. (list.each place within).reached)
