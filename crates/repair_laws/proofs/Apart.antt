-- Which words a step doesn't change, by their address.
use Rattle.std.proofs.Common.{◌≡◌, ℕ, ◌<◌, ◌≤◌, List, refl, sym, subst, arith}
use Rattle.layout.specs.Geometry.{inodes_of, data_pages_of, inode_word_of, descriptor_word_of, slot_word_of}
use Rattle.layout.proofs.Widths.{in_inode, in_descriptor}
use Rattle.image_reading.specs.Reading.{IsHeld, Reached, IsLinkCount}
use Rattle.image_reading.specs.Soundness.{IsCoherent}
use Rattle.image_counts.proofs.Paths.{in_range}
use Rattle.image_laws.proofs.Addresses.{head-ne_inode, head-ne_slot, head-ne_descriptor, descriptor-ne_inode, descriptor-ne_slot, inode-ne_slot, inode_word-one, descriptor_word-one, slot_word-one}
use Rattle.image_reading.specs.Repairs.{WasLeft}
use Rattle.repair_laws.specs.Mended.{GivesUp, Unpoints, Clears, Frees, Mends, IsDead, IsUnkept}

module _ (P : ℕ) (W : List ℕ) where
  -- ---- the first step

  pub gives_descriptor : {a v : ℕ} (j f : ℕ) → j < data_pages_of P → f < 8 → GivesUp P W a v → a ≡ descriptor_word_of P j f → ⊥
  gives_descriptor j f lt small (GivesUp.number s d left) e = descriptor-ne_slot P j f s 0 lt small (sym e)

  pub gives_inode : {a v : ℕ} (i f : ℕ) → 1 ≤ i → i ≤ inodes_of P → f < 16 → GivesUp P W a v → a ≡ inode_word_of i f → ⊥
  gives_inode i f least most small (GivesUp.number s d left) e = inode-ne_slot P i f s 0 least most small (sym e)

  pub gives_slot : {a v : ℕ} (t f : ℕ) → f < 16 → GivesUp P W a v → a ≡ slot_word_of P t f → (f ≡ 0) × (d : ℕ) × WasLeft P W t d
  gives_slot t f small (GivesUp.number s d left) e =
      let (slots, fields) = slot_word-one P s 0 t f (omega arith) small e in (sym fields, d, subst (λ z. WasLeft P W z d) slots left)

  -- ---- the second

  pub unpoints_descriptor : {a v : ℕ} (j f : ℕ) → j < data_pages_of P → f < 8 → Unpoints P W a v → a ≡ descriptor_word_of P j f → ⊥
  unpoints_descriptor j f lt small (Unpoints.pointer d held) e = descriptor-ne_slot P j f d 1 lt small (sym e)

  pub unpoints_inode : {a v : ℕ} (i f : ℕ) → 1 ≤ i → i ≤ inodes_of P → f < 16 → Unpoints P W a v → a ≡ inode_word_of i f → ⊥
  unpoints_inode i f least most small (Unpoints.pointer d held) e = inode-ne_slot P i f d 1 least most small (sym e)

  pub unpoints_slot : {a v : ℕ} (t f : ℕ) → f < 16 → Unpoints P W a v → a ≡ slot_word_of P t f → (f ≡ 1) × IsHeld P W t
  unpoints_slot t f small (Unpoints.pointer d held) e =
      let (slots, fields) = slot_word-one P d 1 t f (omega arith) small e in (sym fields, subst (IsHeld P W) slots held)

  -- ---- the third

  pub clears_slot : {a v : ℕ} (t f : ℕ) → IsCoherent P W → f < 16 → Clears P W a v → a ≡ slot_word_of P t f → (1 ≤ f) × IsDead P W t × (v ≡ 0)
  clears_slot t f coherent small (Clears.owner j unkept) e = absurd (descriptor-ne_slot P j 0 t f unkept.in_range (omega arith) e)
  clears_slot t f coherent small (Clears.slot s g dead low lt) e =
      let (slots, fields) = slot_word-one P s g t f lt small e in
      (subst (λ z. 1 ≤ z) fields low, subst (IsDead P W) slots dead, refl)
  clears_slot t f coherent small (Clears.links i n reached count) e =
      let (least, most) = in_range P W coherent i reached in absurd (inode-ne_slot P i 1 t f least most (omega arith) e)

  pub clears_descriptor : {a v : ℕ} (j f : ℕ) → IsCoherent P W → j < data_pages_of P → f < 8 → Clears P W a v → a ≡ descriptor_word_of P j f → (f ≡ 0) × IsUnkept P W j × (v ≡ 0)
  clears_descriptor j f coherent lt small (Clears.owner k unkept) e =
      let (pages, fields) = descriptor_word-one P k 0 j f (omega arith) small e in (sym fields, subst (IsUnkept P W) pages unkept, refl)
  clears_descriptor j f coherent lt small (Clears.slot s g dead low high) e = absurd (descriptor-ne_slot P j f s g lt small (sym e))
  clears_descriptor j f coherent lt small (Clears.links i n reached count) e =
      let (least, most) = in_range P W coherent i reached in absurd (descriptor-ne_inode P j f i 1 least most (omega arith) (sym e))

  pub clears_inode : {a v : ℕ} (i f : ℕ) → 1 ≤ i → i ≤ inodes_of P → IsCoherent P W → f < 16 → Clears P W a v → a ≡ inode_word_of i f → (f ≡ 1) × Reached P W i × IsLinkCount P W i v
  clears_inode i f least most coherent small (Clears.owner k unkept) e = absurd (descriptor-ne_inode P k 0 i f least most small e)
  clears_inode i f least most coherent small (Clears.slot s g dead low high) e = absurd (inode-ne_slot P i f s g least most small (sym e))
  clears_inode i f least most coherent small (Clears.links k n reached count) e =
      let (inodes, fields) = inode_word-one k 1 i f (in_range P W coherent k reached).0 least (omega arith) small e in
      (sym fields, subst (Reached P W) inodes reached, subst (λ z. IsLinkCount P W z n) inodes count)

  -- ---- the fourth

  pub frees_slot : {a v : ℕ} (t f : ℕ) → f < 16 → Frees P W a v → a ≡ slot_word_of P t f → ⊥
  frees_slot t f small (Frees.descriptor j g unkept low lt) e = descriptor-ne_slot P j g t f unkept.in_range (in_descriptor W g lt) e
  frees_slot t f small (Frees.inode i g unreached lt) e = inode-ne_slot P i g t f unreached.least unreached.most (in_inode W g lt) e

  pub frees_descriptor : {a v : ℕ} (j f : ℕ) → j < data_pages_of P → f < 8 → Frees P W a v → a ≡ descriptor_word_of P j f → (1 ≤ f) × IsUnkept P W j
  frees_descriptor j f lt small (Frees.descriptor k g unkept low high) e =
      let (pages, fields) = descriptor_word-one P k g j f (in_descriptor W g high) small e in
      (subst (λ z. 1 ≤ z) fields low, subst (IsUnkept P W) pages unkept)
  frees_descriptor j f lt small (Frees.inode i g unreached high) e = absurd (descriptor-ne_inode P j f i g unreached.least unreached.most (in_inode W g high) (sym e))

  pub frees_inode : {a v : ℕ} (i f : ℕ) → 1 ≤ i → i ≤ inodes_of P → f < 16 → Frees P W a v → a ≡ inode_word_of i f → ¬ Reached P W i
  frees_inode i f least most small (Frees.descriptor k g unkept low high) e = absurd (descriptor-ne_inode P k g i f least most small e)
  frees_inode i f least most small (Frees.inode k g unreached high) e =
      let (inodes, fields) = inode_word-one k g i f unreached.least least (in_inode W g high) small e in subst (λ z. ¬ Reached P W z) inodes unreached.unreached

  -- ---- none of them

  -- no word of the superblock becomes another
  pub mends_head : {a v : ℕ} (x : ℕ) → x < 512 → Mends P W a v → a ≡ x → ⊥
  mends_head x low (Mends.gives_up (GivesUp.number s d left)) e = head-ne_slot P s 0 x low (sym e)
  mends_head x low (Mends.unpoints (Unpoints.pointer d held)) e = head-ne_slot P d 1 x low (sym e)
  mends_head x low (Mends.clears (Clears.owner j unkept)) e = head-ne_descriptor P j 0 x low (sym e)
  mends_head x low (Mends.clears (Clears.slot s f dead some small)) e = head-ne_slot P s f x low (sym e)
  mends_head x low (Mends.clears (Clears.links i n reached count)) e = head-ne_inode i 1 x low (sym e)
  mends_head x low (Mends.frees (Frees.descriptor j f unkept some small)) e = head-ne_descriptor P j f x low (sym e)
  mends_head x low (Mends.frees (Frees.inode i f unreached small)) e = head-ne_inode i f x low (sym e)
