-- Growth's first interval: the bytes, and the new pages' kinds and offsets.
use Rattle.std.proofs.Common.{◌≡◌, ◌≢◌, inl, inr, ℕ, ◌/◌, ◌%◌, ◌^◌, ◌<◌, ◌≤◌, List, refl, sym, ap, subst, ◌∙◌, arith}
use Rattle.std.specs.Prelude.{Contains}
use Rattle.std.proofs.lemmas.Bool.{cases_eq}
use Rattle.layout.specs.Fields.{word, inode_size, page_owner, page_byte}
use Rattle.layout.specs.Geometry.{inodes_of, data_pages_of, inode_word_of, descriptor_word_of, page_word_of, slot_word_of}
use Rattle.layout.proofs.Widths.{descriptor_field_read}
use Rattle.image_reading.specs.Reading.{HasBytes, IsHeld, Reached, IsPageOf}
use Rattle.image_reading.specs.Soundness.{IsCoherent}
use Rattle.image_laws.specs.Frame.{SameBytes, SameMeaning}
use Rattle.image_laws.specs.Quiet.{IsMix, MixesBytes}
use Rattle.image_laws.proofs.Addresses.{descriptor-ne_page, descriptor_word-one, page_word-one}
use Rattle.image_laws.proofs.Free.{mix_itself}
use Rattle.image_laws.proofs.Paths.{reached_pos}
use Rattle.image_laws.proofs.Quiet.{write_law}
use Rattle.content_laws.specs.Growth.{CanGrow, IsFillWord, FillsFile}
use Rattle.content_laws.specs.Mix.{IsBytesWord, StoresContent}
use Rattle.content_laws.specs.Range.{IsInRange}
use Rattle.content_laws.specs.Torn.{ReadsTorn}
use Rattle.content_laws.proofs.Inside.{byte_word}
use Rattle.content_laws.proofs.Quiet.{inode_same, descriptor_same, slot_same, quiet, byte_mix_law}
use Rattle.content_laws.proofs.Ranges.{in_or_beside}
use Rattle.content_laws.proofs.Torn.{torn_law}

module _ (P : ℕ) (W A : List ℕ) (i z offset : ℕ) (bytes pages : List ℕ) (can : CanGrow P W i z offset bytes pages) (fills : FillsFile P W A i offset bytes pages) where
  coherent : IsCoherent P W
  coherent = can.tidy.coherent

  content : {a : ℕ} → IsFillWord P W i pages a → IsBytesWord P W a
  content (IsFillWord.old k j w g lt) = IsBytesWord.bytes j w g.in_range lt g.kind
  content (IsFillWord.new j w c lt) = IsBytesWord.free j w (can.free j c).0 lt (can.free j c).1
  content (IsFillWord.descriptor j f c which) = IsBytesWord.descriptor j f (can.free j c).0 (omega (arith, which)) (descriptor_field_read W f (omega (arith, which))) (can.free j c).1

  pub fill_stores : StoresContent P W A
  fill_stores = record { size = fills.size; others = λ a none. fills.others a (λ c. none (content c)) }

  -- the bytes of another file
  foreign : (k n j w : ℕ) → w < 512 → Reached P W k → k ≢ i → IsPageOf P W k n j → {a : ℕ} → IsFillWord P W i pages a → a ≡ page_word_of P j w → ⊥
  foreign k n j w lt r ne g (IsFillWord.old m h v f l) e =
      let (same, x) = page_word-one P h v j w l lt e in ne (sym g.owner ∙ ap (page_owner P W) (sym same) ∙ f.owner)
  foreign k n j w lt r ne g (IsFillWord.new h v c l) e =
      let (same, x) = page_word-one P h v j w l lt e in reached_pos P W k r (sym g.owner ∙ ap (page_owner P W) (sym same) ∙ (can.free h c).1)
  foreign k n j w lt r ne g (IsFillWord.descriptor h f c which) e = descriptor-ne_page P h f j w (can.free h c).0 (omega (arith, which)) e

  other_bytes : (k : ℕ) → Reached P W k → HasBytes W k → k ≢ i → SameBytes P W A k
  unfolding page_byte
  other_bytes k r file ne = record {
    bytes = λ o j lt g. ap (λ x. x / 256 ^ (o % 4096 % 8) % 256)
        (fills.others (page_word_of P j (o % 4096 / 8)) (λ c. foreign k (o / 4096) j (o % 4096 / 8) (byte_word o) r ne g c refl));
  }

  pub fill_mixes : (M : List ℕ) → IsMix W A M → MixesBytes P W A M i
  fill_mixes M mix = write_law P W A M i coherent (quiet P W A fill_stores coherent) other_bytes mix

  pub filled : MixesBytes P W A A i
  filled = fill_mixes A (mix_itself W A fills.size)

  pub fill_torn : (M : List ℕ) → IsMix W A M → ReadsTorn P W M i offset bytes
  fill_torn M mix = torn_law P W A M i offset bytes coherent can.reached can.file fills.below (fill_mixes M mix)

  same_below : ((o : ℕ) → IsInRange offset bytes o → inode_size W i ≤ o) → SameBytes P W A i
  same_below past = record {
    bytes = λ o j lt g. elim (in_or_beside offset bytes o) [
      | inl range ↦ (let behind = past o range in absurd (omega (arith, lt, behind)))
      | inr beside ↦ (fills.below o j lt g).kept beside
    ];
  }

  pub fill_quiet : (M : List ℕ) → IsMix W A M → ((o : ℕ) → IsInRange offset bytes o → inode_size W i ≤ o) → SameMeaning P W M
  fill_quiet M mix past = byte_mix_law P W A M coherent fill_stores
      (λ k r file. elim (cases_eq k i) [ inl e ↦ subst (SameBytes P W A) (sym e) (same_below past) | inr ne ↦ other_bytes k r file ne ])
      mix

  -- ---- the words of A

  pub fill_inode : (x f : ℕ) → 1 ≤ x → x ≤ inodes_of P → f < 16 → word A (inode_word_of x f) ≡ word W (inode_word_of x f)
  fill_inode = inode_same P W A fill_stores

  pub fill_slot : (s f : ℕ) → f < 16 → IsHeld P W s → word A (slot_word_of P s f) ≡ word W (slot_word_of P s f)
  fill_slot = slot_same P W A fill_stores

  pub fill_owner : (j : ℕ) → j < data_pages_of P → page_owner P A j ≡ page_owner P W j
  unfolding page_owner
  fill_owner j lt = descriptor_same P W A fill_stores j 0 lt (omega arith) (inr refl)

  not_filled : (j f : ℕ) → j < data_pages_of P → f < 8 → ¬ Contains pages j → {a : ℕ} → IsFillWord P W i pages a → a ≡ descriptor_word_of P j f → ⊥
  not_filled j f lt l8 none (IsFillWord.old k h w g l) e = descriptor-ne_page P j f h w lt l8 (sym e)
  not_filled j f lt l8 none (IsFillWord.new h w c l) e = descriptor-ne_page P j f h w lt l8 (sym e)
  not_filled j f lt l8 none (IsFillWord.descriptor h g c which) e = none (subst (Contains pages) (descriptor_word-one P h g j f (omega (arith, which)) l8 e).0 c)

  pub fill_descriptor : (j f : ℕ) → j < data_pages_of P → f < 8 → ¬ Contains pages j → word A (descriptor_word_of P j f) ≡ word W (descriptor_word_of P j f)
  fill_descriptor j f lt l8 none = fills.others (descriptor_word_of P j f) (λ c. not_filled j f lt l8 none c refl)
