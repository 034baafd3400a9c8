-- Images that the residue of the running calls refuses: what is to be repaired in them lies in what these calls hold, and yet isn't what they left.
use Rattle.std.proofs.Common.{◌≡◌, ◌≢◌, inl, inr, ℕ, ◌<◌, List, [], ◌∷◌, set, replicate, max, true, Some, None, refl, sym, subst, ◌∙◌, arith, below_none, below_more}
use Rattle.std.proofs.Math.Nat.{le-max_left, le-max_right}
use Rattle.std.proofs.lemmas.Bool.{cases_eq}
use Rattle.std.proofs.lemmas.List.{get_or-set_other, get_or-replicate}
use Rattle.layout.specs.Geometry.{inodes_of, data_pages_of, inode_pages_of, descriptor_pages_of, slots_of, page_of_slot, first_data_word_of, inode_word_of, descriptor_word_of, slot_word_of}
use Rattle.layout.specs.Fields.{word, inode_words, descriptor_words, inode_kind, inode_links, page_owner, page_kind, slot_inode, slot_pointer, slot_name}
use Rattle.layout.specs.Superblock.{magic}
use Rattle.layout.specs.declared.kinds.NodeKind.TheVariants.{File}
use Rattle.image_reading.specs.Counts.{IsIn, Count}
use Rattle.image_reading.specs.Reading.{slot_owner, IsHeld, IsLive, HasBytes, Reached, IsNameOf}
use Rattle.image_reading.specs.Repairs.{IsPointer, IsLitterInode}
use Rattle.image_reading.specs.Residue.{Residue, no_residue, IsTidyBeside}
use Rattle.image_reading.proofs.Counts.{count_one}
use Rattle.weave_laws.specs.Naming.{node_left}
use Rattle.weave_laws.specs.Removing.{cleared_left}

-- ---- in any image

module _ (P : ℕ) (I : List ℕ) (residue : Residue) where
  -- A held slot points, though no call has left one that does.
  pub pointer_refused : (s : ℕ) → residue.pointer ≡ None → IsPointer P I s → ¬ IsTidyBeside P I residue
  pointer_refused s none pointer beside = let some = (beside.of_pointer s).1 pointer in cc

  -- A file with one name has other links, though no call has left its links.
  pub links_refused : (i : ℕ) → ¬ IsIn i residue.counts → Reached P I i → HasBytes I i → Count (IsNameOf P I i) 1 → inode_links I i ≢ 1 → ¬ IsTidyBeside P I residue
  links_refused i out reached file one other beside = out ((beside.of_counts.each i).1 (record { reached = reached; other = λ links. other (count_one (IsNameOf P I i) _ 1 (links.file file) one) }))

  -- Litter that has no kind is refused where the residue has it,
  pub kindless_refused_in : (i : ℕ) → inode_kind I i ≡ 0 → IsIn i residue.inodes → ¬ IsTidyBeside P I residue
  kindless_refused_in i none listed beside = beside.kinds i listed none

  -- and where it hasn't:
  pub kindless_refused_out : (i : ℕ) → IsLitterInode P I i → ¬ IsIn i residue.inodes → ¬ IsTidyBeside P I residue
  kindless_refused_out i litter out beside = out ((beside.of_inodes.each i).1 litter)

  -- by each residue.
  pub kindless_refused : (i : ℕ) → inode_kind I i ≡ 0 → IsLitterInode P I i → ¬ IsTidyBeside P I residue
  kindless_refused i none litter beside = beside.kinds i ((beside.of_inodes.each i).1 litter) none

  -- What a residue has isn't zero, so no free place is counted as held: no inode,
  pub zero_inode_refused : (i : ℕ) → ((f : ℕ) → f < inode_words I → word I (inode_word_of i f) ≡ 0) → IsIn i residue.inodes → ¬ IsTidyBeside P I residue
  zero_inode_refused i zero listed beside = let (f, small, nonzero) = ((beside.of_inodes.each i).0 listed).nonzero in nonzero (zero f small)

  -- and no page.
  pub zero_page_refused : (j : ℕ) → ((f : ℕ) → f < descriptor_words I → word I (descriptor_word_of P j f) ≡ 0) → IsIn j residue.pages → ¬ IsTidyBeside P I residue
  zero_page_refused j zero listed beside = let (f, small, nonzero) = ((beside.of_pages.each j).0 listed).nonzero in nonzero (zero f small)

-- ---- images of 16 pages

-- 16 pages of zeros, but for these addresses and the words that are stored there
stored : List (ℕ × ℕ) → List ℕ
stored [] = replicate 8192 0
stored ((at, value) ∷ more) = set (stored more) at value

last_of : List (ℕ × ℕ) → ℕ
last_of [] = 0
last_of ((at, value) ∷ more) = max at (last_of more)

-- behind the last store the words are zero
zero_behind : (stores : List (ℕ × ℕ)) (a : ℕ) → last_of stores < a → a < 8192 → word (stored stores) a ≡ 0
unfolding word stored last_of
zero_behind [] a past below = get_or-replicate 8192 a 0 0 below
zero_behind ((at, value) ∷ more) a past below =
    let left = le-max_left at (last_of more) in
    let right = le-max_right at (last_of more) in
    get_or-set_other (stored more) at a value 0 (λ e. omega (arith, e, past, left)) ∙ zero_behind more a (omega (arith, past, right)) below

-- A volume with one name in its root, `a`: slot 0, in page 0, names inode 2, an empty file with this link word. The word 6356993 is that of
-- the name `a`, and 6422529 that of `b`.
with_file : ℕ → List (ℕ × ℕ)
with_file links =
    (0, magic) ∷ (1, 1) ∷ (2, 16) ∷ (3, 4) ∷ (4, 13) ∷ (512, 2) ∷ (513, 2) ∷ (515, 1) ∷ (528, 1) ∷ (529, links) ∷ (531, 2) ∷ (1024, 1) ∷ (1025, 2) ∷ (1536, 2) ∷ (1538, 6356993) ∷ []

-- A create of `b` with inode 3 waits in slot 1, and this slot points at slot 0.
pub pointed : List ℕ
pointed = stored ((544, 1) ∷ (545, 1) ∷ (547, 3) ∷ (1553, 1) ∷ (1554, 6422529) ∷ with_file 1)

-- The file has the link word 7.
pub linked : List ℕ
linked = stored (with_file 7)

-- Inode 3 has a link word, and no kind.
pub kindless : List ℕ
kindless = stored ((545, 1) ∷ with_file 1)

-- A create of `b` waits in slot 1, and its inode 3 is zero.
pub unwritten : List ℕ
unwritten = stored ((1554, 6422529) ∷ with_file 1)

-- A create waits with inode 3 and a new page 1, which is zero.
pub unpaged : List ℕ
unpaged = stored ((544, 1) ∷ (545, 1) ∷ (547, 3) ∷ with_file 1)

-- ---- 1: a pointer beside a create

pub pointed_refused : ¬ IsTidyBeside 16 pointed (node_left File 1 1 None 3)
unfolding pointed stored with_file word slot_owner page_owner page_kind slot_pointer page_of_slot slots_of data_pages_of inode_pages_of descriptor_pages_of descriptor_word_of slot_word_of first_data_word_of
pointed_refused = pointer_refused 16 pointed _ 1 refl (record { held = record { in_range = omega arith; kind = refl; owned = λ e. omega (arith, e) }; nonzero = λ e. omega (arith, e) })

-- ---- 2: a link word beside a write

-- slots but the first one are zero in these images
slot_zero : (stores : List (ℕ × ℕ)) → last_of stores < 1552 → (s f : ℕ) → s < slots_of 16 → f < 16 → s ≢ 0 → word (stored stores) (slot_word_of 16 s f) ≡ 0
unfolding slots_of data_pages_of inode_pages_of descriptor_pages_of slot_word_of first_data_word_of
slot_zero stores low s f within small ne = zero_behind stores (slot_word_of 16 s f) (omega (arith, low, ne)) (omega (arith, within, small))

linked_slot : IsHeld 16 linked 0
unfolding linked stored with_file word slot_owner page_owner page_kind page_of_slot slots_of data_pages_of inode_pages_of descriptor_pages_of descriptor_word_of
linked_slot = record { in_range = omega arith; kind = refl; owned = λ e. omega (arith, e) }

linked_first : (s : ℕ) → IsHeld 16 linked s → slot_inode 16 linked s ≡ 2 → s ≡ 0
unfolding linked last_of with_file slot_inode
linked_first s held named = elim (cases_eq s 0) [ inl e ↦ e | inr ne ↦ (let zero = slot_zero (with_file 7) (omega arith) s 0 held.in_range (omega arith) ne in absurd (omega (arith, zero, named))) ]

linked_pointer : (d : ℕ) → IsHeld 16 linked d → slot_pointer 16 linked d ≡ 0
unfolding linked stored last_of with_file word slot_pointer slot_word_of first_data_word_of inode_pages_of descriptor_pages_of
linked_pointer d held = elim (cases_eq d 0) [ inl e ↦ subst (λ z. slot_pointer 16 linked z ≡ 0) (sym e) refl | inr ne ↦ slot_zero (with_file 7) (omega arith) d 1 held.in_range (omega arith) ne ]

linked_live : IsLive 16 linked 0
unfolding linked stored with_file word slot_inode slot_word_of first_data_word_of inode_pages_of descriptor_pages_of
linked_live = record { held = linked_slot; names = λ e. omega (arith, e); stays = λ d held points same. (let none = linked_pointer d held in omega (arith, none, points)) }

linked_reached : Reached 16 linked 2
unfolding linked stored with_file word inode_kind inode_word_of slot_owner page_owner page_of_slot descriptor_word_of slot_inode slot_word_of first_data_word_of inode_pages_of descriptor_pages_of inodes_of
linked_reached = (slot_name 16 linked 0 ∷ [], (0, refl, record { directory = refl; live = linked_live; name = refl; inode = refl; in_range = omega arith }))

linked_name : IsNameOf 16 linked 2 0
unfolding linked stored with_file word inode_kind inode_word_of slot_owner page_owner page_of_slot descriptor_word_of slot_inode slot_word_of first_data_word_of inode_pages_of descriptor_pages_of
linked_name = record { slot = record { owner = ([], refl); directory = refl; live = linked_live }; inode = refl }

linked_names : Count (IsNameOf 16 linked 2) 1
linked_names = (
  0 ∷ [],
  ((λ none. none), tt),
  (λ s. (
    (λ among. elim among [ inl e ↦ subst (IsNameOf 16 linked 2) (sym e) linked_name | inr none ↦ absurd none ]),
    (λ name. inl (linked_first s name.slot.live.held name.inode)),
  )),
  refl,
)

pub linked_refused : ¬ IsTidyBeside 16 linked no_residue
unfolding linked stored with_file word inode_kind inode_links inode_word_of
linked_refused = links_refused 16 linked no_residue 2 (λ none. none) linked_reached refl linked_names (λ e. omega (arith, e))

-- ---- 3: litter without a kind

kindless_unreached : Reached 16 kindless 3 → ⊥
unfolding kindless stored last_of with_file word slot_inode slot_word_of first_data_word_of inode_pages_of descriptor_pages_of
kindless_unreached ([], e) = omega (arith, e)
kindless_unreached (n ∷ p, (s, path, leads)) =
    let named = leads.inode in
    elim (cases_eq s 0) [
      | inl e ↦ (let two : slot_inode 16 kindless s ≡ 2 = subst (λ z. slot_inode 16 kindless z ≡ 2) (sym e) refl in omega (arith, two, named))
      | inr ne ↦ (let zero = slot_zero ((545, 1) ∷ with_file 1) (omega arith) s 0 leads.live.held.in_range (omega arith) ne in omega (arith, zero, named))
    ]

kindless_litter : IsLitterInode 16 kindless 3
unfolding kindless stored with_file word inode_words inode_word_of inodes_of
kindless_litter = record { least = omega arith; most = omega arith; unreached = kindless_unreached; nonzero = (1, omega arith, λ e. omega (arith, e)) }

-- what is left of the inode of an unlink whose slot is cleared
pub kindless_refused_beside_unlink : ¬ IsTidyBeside 16 kindless (cleared_left [] true 3)
unfolding kindless stored with_file word inode_kind inode_word_of
kindless_refused_beside_unlink = kindless_refused_in 16 kindless _ 3 refl (inl refl)

pub kindless_refused_beside_none : ¬ IsTidyBeside 16 kindless no_residue
kindless_refused_beside_none = kindless_refused_out 16 kindless no_residue 3 kindless_litter (λ none. none)

pub kindless_refused_beside_any : (residue : Residue) → ¬ IsTidyBeside 16 kindless residue
unfolding kindless stored with_file word inode_kind inode_word_of
kindless_refused_beside_any residue = kindless_refused 16 kindless residue 3 refl kindless_litter

-- ---- 4: what a call holds is zero

below_three : (Q : ℕ → Type 0) → Q 0 → Q 1 → Q 2 → (f : ℕ) → f < 3 → Q f
below_three Q zero one two = below_more Q 2 (below_more Q 1 (below_more Q 0 (below_none Q) zero) one) two

pub unwritten_refused : ¬ IsTidyBeside 16 unwritten (node_left File 1 1 None 3)
unfolding unwritten stored with_file word inode_words inode_word_of
unwritten_refused = zero_inode_refused 16 unwritten _ 3 (let Q = λ (f : ℕ). word unwritten (inode_word_of 3 f) ≡ 0 in below_more Q 3 (below_three Q refl refl refl) refl) (inl refl)

pub unpaged_refused : ¬ IsTidyBeside 16 unpaged (node_left File 1 32 (Some 1) 3)
unfolding unpaged stored with_file word descriptor_words descriptor_word_of inode_pages_of
unpaged_refused = zero_page_refused 16 unpaged _ 1 (below_three (λ f. word unpaged (descriptor_word_of 16 1 f) ≡ 0) refl refl refl) (inl refl)
