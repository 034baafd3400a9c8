-- New pages of a file are filled, and its own bytes may change: a crash leaves the part of the range below the size torn.
use Rattle.std.proofs.Common.{◌≡◌, ◌≢◌, inl, inr, ℕ, ◌/◌, ◌%◌, ◌^◌, ◌<◌, ◌≤◌, List, refl, sym, ap, subst, ◌∙◌, arith}
use Rattle.std.proofs.lemmas.Bool.{cases_eq}
use Rattle.layout.specs.Fields.{inode_size, page_owner, page_byte}
use Rattle.layout.specs.Geometry.{page_word_of}
use Rattle.layout.proofs.Widths.{descriptor_field_read}
use Rattle.image_reading.specs.Reading.{HasBytes, Reached, IsPageOf}
use Rattle.image_laws.specs.Frame.{SameBytes, SameMeaning, SameShape}
use Rattle.image_laws.specs.Quiet.{IsMix, MixesBytes}
use Rattle.image_laws.proofs.Addresses.{descriptor-ne_page, page_word-one}
use Rattle.image_laws.proofs.Free.{mix_itself}
use Rattle.image_laws.proofs.Paths.{reached_pos}
use Rattle.image_laws.proofs.Quiet.{write_law}
use Rattle.content_laws.specs.Growth.{IsFillWord, FillsFile, LeavesFilled}
use Rattle.content_laws.specs.Mix.{IsBytesWord, StoresContent}
use Rattle.content_laws.specs.Range.{IsInRange}
use Rattle.content_laws.proofs.Inside.{byte_word}
use Rattle.content_laws.proofs.Quiet.{quiet, byte_mix_law}
use Rattle.content_laws.proofs.Ranges.{in_or_beside}
use Rattle.content_laws.proofs.Torn.{torn_law, same_torn_law}
use Rattle.weave_laws.specs.Bytes.{MayFill, FilledMeaningLaw}

module _ (P : ℕ) (I J : List ℕ) (i offset : ℕ) (bytes pages : List ℕ) (may : MayFill P I i pages) (fills : FillsFile P I J i offset bytes pages) where
  content : {a : ℕ} → IsFillWord P I i pages a → IsBytesWord P I a
  content (IsFillWord.old k j w page lt) = IsBytesWord.bytes j w page.in_range lt page.kind
  content (IsFillWord.new j w is lt) = IsBytesWord.free j w (may.unused j is).0 lt (may.unused j is).1.0
  content (IsFillWord.descriptor j f is which) = IsBytesWord.descriptor j f (may.unused j is).0 (omega (arith, which)) (descriptor_field_read I f (omega (arith, which))) (may.unused j is).1.0

  pub stores : StoresContent P I J
  stores = record { size = fills.size; others = λ a none. fills.others a (λ is. none (content is)) }

  -- another file keeps its bytes
  foreign : (k n j w : ℕ) → w < 512 → Reached P I k → k ≢ i → IsPageOf P I k n j → {a : ℕ} → IsFillWord P I i pages a → a ≡ page_word_of P j w → ⊥
  foreign k n j w lt r ne page (IsFillWord.old m h v own l) e =
      let (same, x) = page_word-one P h v j w l lt e in ne (sym page.owner ∙ ap (page_owner P I) (sym same) ∙ own.owner)
  foreign k n j w lt r ne page (IsFillWord.new h v is l) e =
      let (same, x) = page_word-one P h v j w l lt e in reached_pos P I k r (sym page.owner ∙ ap (page_owner P I) (sym same) ∙ (may.unused h is).1.0)
  foreign k n j w lt r ne page (IsFillWord.descriptor h f is which) e = descriptor-ne_page P h f j w (may.unused h is).0 (omega (arith, which)) e

  other_bytes : (k : ℕ) → Reached P I k → HasBytes I k → k ≢ i → SameBytes P I J k
  unfolding page_byte
  other_bytes k r file ne = record {
    bytes = λ o j lt page. ap (λ x. x / 256 ^ (o % 4096 % 8) % 256)
        (fills.others (page_word_of P j (o % 4096 / 8)) (λ is. foreign k (o / 4096) j (o % 4096 / 8) (byte_word o) r ne page is refl));
  }

  mixes : (M : List ℕ) → IsMix I J M → MixesBytes P I J M i
  mixes M mix = write_law P I J M i may.coherent (quiet P I J stores may.coherent) other_bytes mix

  pub shape : SameShape P I J
  shape = (mixes J (mix_itself I J fills.size)).shape

  -- where no byte of the range lies below the size
  module _ (past : (o : ℕ) → IsInRange offset bytes o → inode_size I i ≤ o) where
    own_bytes : SameBytes P I J i
    own_bytes = record {
      bytes = λ o j lt page. elim (in_or_beside offset bytes o) [
        | inl range ↦ (let behind = past o range in absurd (omega (arith, lt, behind)))
        | inr beside ↦ (fills.below o j lt page).kept beside
      ];
    }

    each_bytes : (k : ℕ) → Reached P I k → HasBytes I k → SameBytes P I J k
    each_bytes k r file = elim (cases_eq k i) [ inl e ↦ subst (SameBytes P I J) (sym e) own_bytes | inr ne ↦ other_bytes k r file ne ]

    same : (M : List ℕ) → IsMix I J M → SameMeaning P I M
    same M mix = byte_mix_law P I J M may.coherent stores each_bytes mix

  pub leaves_filled : LeavesFilled P I J i offset bytes
  leaves_filled = record {
    torn = λ M mix. torn_law P I J M i offset bytes may.coherent may.reached may.file fills.below (mixes M mix);
    hangs = λ M N m n range. same_torn_law P I J M N i offset bytes fills.below (mixes M m) (mixes N n) range;
    filling = λ M mix past. same past M mix;
  }

pub filled_meaning_law : FilledMeaningLaw
filled_meaning_law P I J i offset bytes pages may fills = leaves_filled P I J i offset bytes pages may fills
