-- An interval that stores to words of contents changes no used word.
use Rattle.std.proofs.Common.{◌≡◌, ◌≢◌, ◌⊎◌, inl, inr, ℕ, ◌+◌, ◌<◌, ◌≤◌, List, refl, sym, ap, ◌∙◌, arith}
use Rattle.layout.specs.Fields.{word, inode_links, page_owner, page_kind}
use Rattle.layout.specs.Geometry.{inodes_of, data_pages_of, page_of_slot, inode_word_of, descriptor_word_of, slot_word_of}
use Rattle.layout.proofs.Widths.{in_descriptor}
use Rattle.image_reading.specs.Reading.{slot_owner, IsHeld, Reached}
use Rattle.image_reading.specs.Soundness.{IsCoherent}
use Rattle.image_laws.specs.Quiet.{IsQuiet}
use Rattle.image_laws.specs.Words.{IsUsed}
use Rattle.image_laws.proofs.Addresses.{head-ne_page, head-ne_descriptor, page-ne_inode, descriptor-ne_inode, descriptor-ne_page, descriptor-ne_slot, descriptor_word-one, slot_in_page}
use Rattle.image_laws.proofs.NewPage.{links_kept}
use Rattle.image_laws.proofs.Paths.{reached_pos, reached-le}
use Rattle.image_laws.proofs.Quiet.{mix_law}
use Rattle.content_laws.specs.Mix.{IsBytesWord, StoresContent, ContentQuietLaw, ByteMixLaw}

module _ (P : ℕ) (I : List ℕ) where
  not_head : (a : ℕ) → a < 512 → {b : ℕ} → IsBytesWord P I b → b ≡ a → ⊥
  not_head a lt (IsBytesWord.bytes j w l m k) e = head-ne_page P j w a lt (sym e)
  not_head a lt (IsBytesWord.free j w l m z) e = head-ne_page P j w a lt (sym e)
  not_head a lt (IsBytesWord.descriptor j f l m n z) e = head-ne_descriptor P j f a lt (sym e)

  not_inode : (i f : ℕ) → 1 ≤ i → i ≤ inodes_of P → f < 16 → {b : ℕ} → IsBytesWord P I b → b ≡ inode_word_of i f → ⊥
  not_inode i f p m lt (IsBytesWord.bytes j w l n k) e = page-ne_inode P j w i f p m lt e
  not_inode i f p m lt (IsBytesWord.free j w l n z) e = page-ne_inode P j w i f p m lt e
  not_inode i f p m lt (IsBytesWord.descriptor j g l n o z) e = descriptor-ne_inode P j g i f p m lt e

  not_descriptor : (j f : ℕ) → j < data_pages_of P → f < 8 → (page_owner P I j ≢ 0) ⊎ (f ≡ 0) → {b : ℕ} → IsBytesWord P I b → b ≡ descriptor_word_of P j f → ⊥
  not_descriptor j f lt l8 why (IsBytesWord.bytes h w l n k) e = descriptor-ne_page P j f h w lt l8 (sym e)
  not_descriptor j f lt l8 why (IsBytesWord.free h w l n z) e = descriptor-ne_page P j f h w lt l8 (sym e)
  not_descriptor j f lt l8 why (IsBytesWord.descriptor h g l n o z) e =
      let (x, y) = descriptor_word-one P h g j f (in_descriptor I g o) l8 e in
      elim why [ inl owned ↦ owned (ap (page_owner P I) (sym x) ∙ z) | inr first ↦ omega (arith, y, first, n) ]

  not_slot : (s f : ℕ) → f < 16 → page_kind P I (page_of_slot s) ≢ 1 → page_owner P I (page_of_slot s) ≢ 0 → {b : ℕ} → IsBytesWord P I b → b ≡ slot_word_of P s f → ⊥
  not_slot s f lt kind owned (IsBytesWord.bytes j w l n k) e = kind (ap (page_kind P I) (slot_in_page P s f j w lt n (sym e)) ∙ k)
  not_slot s f lt kind owned (IsBytesWord.free j w l n z) e = owned (ap (page_owner P I) (slot_in_page P s f j w lt n (sym e)) ∙ z)
  not_slot s f lt kind owned (IsBytesWord.descriptor h g l n o z) e = descriptor-ne_slot P h g s f l (in_descriptor I g o) e

module _ (P : ℕ) (I J : List ℕ) (stores : StoresContent P I J) where
  pub head_same : (a : ℕ) → a < 512 → word J a ≡ word I a
  head_same a lt = stores.others a (λ c. not_head P I a lt c refl)

  pub inode_same : (i f : ℕ) → 1 ≤ i → i ≤ inodes_of P → f < 16 → word J (inode_word_of i f) ≡ word I (inode_word_of i f)
  inode_same i f p m lt = stores.others (inode_word_of i f) (λ c. not_inode P I i f p m lt c refl)

  pub descriptor_same : (j f : ℕ) → j < data_pages_of P → f < 8 → (page_owner P I j ≢ 0) ⊎ (f ≡ 0) → word J (descriptor_word_of P j f) ≡ word I (descriptor_word_of P j f)
  descriptor_same j f lt l8 why = stores.others (descriptor_word_of P j f) (λ c. not_descriptor P I j f lt l8 why c refl)

  pub slot_same : (s f : ℕ) → f < 16 → IsHeld P I s → word J (slot_word_of P s f) ≡ word I (slot_word_of P s f)
  unfolding slot_owner
  slot_same s f lt held = stores.others (slot_word_of P s f) (λ c. not_slot P I s f lt (let two = held.kind in λ one. omega (arith, two, one)) held.owned c refl)

  module _ (coherent : IsCoherent P I) where
    pos : (i : ℕ) → Reached P I i → 1 ≤ i
    pos i r = let some = reached_pos P I i r in omega (arith, some)

    used : (a : ℕ) → IsUsed P I a → word J a ≡ word I a
    used _ (IsUsed.head a lt) = head_same a (omega (arith, lt))
    used _ (IsUsed.kind j lt owned) = descriptor_same j 1 lt (omega arith) (inl owned)
    used _ (IsUsed.offset j lt owned) = descriptor_same j 2 lt (omega arith) (inl owned)
    used _ (IsUsed.slot_inode s held) = slot_same s 0 (omega arith) held
    used _ (IsUsed.pointer s held) = slot_same s 1 (omega arith) held
    used _ (IsUsed.name s f lt r) = slot_same s (2 + f) (omega (arith, lt)) r.live.held
    used _ (IsUsed.node_kind i r) = inode_same i 0 (pos i r) (reached-le P I coherent i r) (omega arith)
    used _ (IsUsed.size i r) = inode_same i 2 (pos i r) (reached-le P I coherent i r) (omega arith)
    used _ (IsUsed.own i r) = inode_same i 3 (pos i r) (reached-le P I coherent i r) (omega arith)

    pub quiet : IsQuiet P I J
    unfolding page_owner inode_links
    quiet = record {
      size = stores.size;
      words = used;
      owners = λ j lt. inl (descriptor_same j 0 lt (omega arith) (inr refl));
      links = links_kept P I J coherent (λ i r. inode_same i 1 (pos i r) (reached-le P I coherent i r) (omega arith));
    }

pub content_quiet_law : ContentQuietLaw
content_quiet_law P I J coherent stores = quiet P I J stores coherent

pub byte_mix_law : ByteMixLaw
byte_mix_law P I J M coherent stores same mix = mix_law P I J M coherent (quiet P I J stores coherent) same mix
