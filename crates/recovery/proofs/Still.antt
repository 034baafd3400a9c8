-- A plan has at most four fences, and nothing in it where nothing is to be repaired.
use Rattle.std.proofs.Common.{◌≡◌, inl, inr, ℕ, ◌*◌, ◌≤◌, List, length, slice_index, Option, Some, None, refl, sym, ◌∙◌, ap, arith}
use Rattle.std.proofs.lemmas.Bool.{cases_eq}
use Rattle.layout.specs.Fields.{inode_words, descriptor_words, page_owner}
use Rattle.layout.proofs.Widths.{descriptor_field_read}
use Rattle.image_reading.specs.Repairs.{IsPointer, IsLitterSlot, IsLitterPage, IsLitterInode, IsLitterCount, WasLeft}
use Rattle.image_reading.specs.Tidy.{IsTidied}
use Rattle.image_reading.proofs.Counts.{none_counted}
use Rattle.repair_laws.specs.Stored.{HasNeedlessOwner, HasDeadName, HasNeedlessKind}
use Rattle.recovery.specs.declared.repairs.Repairs.{Repairs}
use Rattle.recovery.specs.declared.part.Part.TheVariants.{Descriptor, Inode}
use Rattle.recovery.specs.Parts.{events_of_part}
use Rattle.recovery.specs.Changes.{fences_for, one_changes}
use Rattle.recovery.specs.Plans.{IsListOf, IsPlanOf}
use Rattle.recovery.specs.Repairs.{clear_changes, free_changes, fences_of_repairs}
use Rattle.recovery.proofs.Stepping.{one_fence}

pub few_fences : (r : Repairs) → fences_of_repairs r ≤ 4
few_fences r = omega (arith, one_fence (one_changes r.left), one_fence (one_changes r.pointer), one_fence (clear_changes r), one_fence (free_changes r))

-- ---- a plan of words in which nothing is to be repaired

no_option : (o : Option ℕ) → ((s : ℕ) → o ≡ Some s → ⊥) → one_changes o ≡ 0
no_option None none = refl
no_option (Some s) none = absurd (none s refl)

no_list : (Q : ℕ → Type 0) (numbers : List ℕ) → ((n : ℕ) → Q n → ⊥) → IsListOf Q numbers → length numbers ≡ 0
no_list Q numbers none list = elim (cases_eq (length numbers) 0) [
  | inl is ↦ is
  | inr some ↦ absurd (none (slice_index numbers 0) (list.each 0 (omega (arith, some))))
]

module _ (P : ℕ) (W : List ℕ) (tidy : IsTidied P W) where
  no_pointer : (d : ℕ) → IsPointer P W d → ⊥
  no_pointer d pointer = none_counted (IsPointer P W) tidy.repaired.of_pointers d pointer

  no_left : (s d : ℕ) → WasLeft P W s d → ⊥
  no_left s d left = no_pointer d (record { held = left.held; nonzero = λ none. let points = left.points in omega (arith, points, none) })

  no_page : (j : ℕ) → IsLitterPage P W j → ⊥
  no_page j page = none_counted (IsLitterPage P W) tidy.repaired.of_pages j page

  no_owner : (j : ℕ) → HasNeedlessOwner P W j → ⊥
  unfolding page_owner
  no_owner j needless = no_page j (record { in_range = needless.page.in_range; free = needless.page.free; nonzero = (0, descriptor_field_read W 0 (omega arith), needless.owned) })

  no_kind : (j : ℕ) → HasNeedlessKind P W j → ⊥
  no_kind j needless =
      let (f, low, small, some) = needless.nonzero in
      no_page j (record { in_range = needless.page.in_range; free = needless.page.free; nonzero = (f, small, some) })

  no_name : (s : ℕ) → HasDeadName P W s → ⊥
  no_name s dead =
      let (f, low, small, some) = dead.nonzero in
      none_counted (IsLitterSlot P W) tidy.repaired.of_slots s (record { page = dead.slot.page; dead = dead.slot.dead; nonzero = (f, small, some) })

-- no event for no object
pub nothing_freed : (r : Repairs) → length r.descriptors.items ≡ 0 → length r.inodes.items ≡ 0 → free_changes r ≡ 0
nothing_freed r descriptors inodes =
    let one = ap (λ n. events_of_part (Descriptor r.descriptor_width) * n) descriptors in
    let two = ap (λ n. events_of_part (Inode r.inode_width) * n) inodes in
    omega (arith, one, two)

pub no_fences : (W : List ℕ) (r : Repairs) → IsTidied r.geometry.pages W → IsPlanOf W r → fences_of_repairs r ≡ 0
no_fences W r tidy plan =
    let P = r.geometry.pages in
    let left = no_option r.left (λ s is. let (d, was) = (plan.left s).0 is in no_left P W tidy s d was) in
    let pointer = no_option r.pointer (λ d is. no_pointer P W tidy d ((plan.pointer d).0 is)) in
    let owners = no_list (HasNeedlessOwner P W) r.owners.items (no_owner P W tidy) plan.owners in
    let slots = no_list (HasDeadName P W) r.slots.items (no_name P W tidy) plan.slots in
    let links = no_list (IsLitterCount P W) r.links.items (none_counted (IsLitterCount P W) tidy.repaired.of_counts) plan.links in
    let descriptors = no_list (HasNeedlessKind P W) r.descriptors.items (no_kind P W tidy) plan.descriptors in
    let inodes = no_list (IsLitterInode P W) r.inodes.items (none_counted (IsLitterInode P W) tidy.repaired.of_inodes) plan.inodes in
    let clears : clear_changes r ≡ 0 = omega (arith, owners, slots, links) in
    let frees : free_changes r ≡ 0 = nothing_freed r descriptors inodes in
    let one = ap fences_for left in
    let two = ap fences_for pointer in
    let three = ap fences_for clears in
    let four = ap fences_for frees in
    omega (arith, one, two, three, four)

-- ---- the plan of nothing

-- a plan for these words with no object in it
pub record IsEmpty (W : List ℕ) (r : Repairs) : Type 0 where
  pub left : r.left ≡ None
  pub pointer : r.pointer ≡ None
  pub owners : length r.owners.items ≡ 0
  pub slots : length r.slots.items ≡ 0
  pub links : length r.links.items ≡ 0
  pub descriptors : length r.descriptors.items ≡ 0
  pub inodes : length r.inodes.items ≡ 0
  pub descriptor_width : r.descriptor_width ≡ descriptor_words W
  pub inode_width : r.inode_width ≡ inode_words W

empty_list : (Q : ℕ → Type 0) (numbers : List ℕ) → length numbers ≡ 0 → ((n : ℕ) → Q n → ⊥) → IsListOf Q numbers
empty_list Q numbers short none = record {
  rising = λ i k lower lt. absurd (omega (arith, short, lt));
  each = λ place lt. absurd (omega (arith, short, lt));
  all = λ n has. absurd (none n has);
}

pub empty_plan : (W : List ℕ) (r : Repairs) → IsEmpty W r → IsTidied r.geometry.pages W → IsPlanOf W r
empty_plan W r empty tidy =
    let P = r.geometry.pages in
    record {
      left = λ s. ((λ is. let none : ⊥ = cc (sym empty.left ∙ is) in absurd none), λ (d, was). absurd (no_left P W tidy s d was));
      pointer = λ d. ((λ is. let none : ⊥ = cc (sym empty.pointer ∙ is) in absurd none), λ has. absurd (no_pointer P W tidy d has));
      owners = empty_list (HasNeedlessOwner P W) r.owners.items empty.owners (no_owner P W tidy);
      slots = empty_list (HasDeadName P W) r.slots.items empty.slots (no_name P W tidy);
      links = empty_list (IsLitterCount P W) r.links.items empty.links (none_counted (IsLitterCount P W) tidy.repaired.of_counts);
      counts = λ place lt. absurd (let links = empty.links in omega (arith, links, lt));
      descriptors = empty_list (HasNeedlessKind P W) r.descriptors.items empty.descriptors (no_kind P W tidy);
      descriptor_width = empty.descriptor_width;
      inodes = empty_list (IsLitterInode P W) r.inodes.items empty.inodes (none_counted (IsLitterInode P W) tidy.repaired.of_inodes);
      inode_width = empty.inode_width;
    }
