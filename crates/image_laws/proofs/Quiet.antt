-- A mix of two images between which no used word changes.
use Rattle.std.proofs.Common.{◌≡◌, ◌⊎◌, inl, inr, ℕ, ◌/◌, ◌%◌, ◌^◌, List, refl, sym, ap, subst, ◌∙◌}
use Rattle.layout.specs.Fields.{word, inode_links, page_owner, page_kind, page_offset, slot_inode, slot_pointer, page_byte}
use Rattle.layout.specs.Geometry.{inode_word_of, descriptor_word_of, page_word_of, slot_word_of}
use Rattle.image_reading.specs.Soundness.{Rule, IsCoherent, HasLinks}
use Rattle.image_laws.specs.Exempt.{IsExempt}
use Rattle.image_laws.specs.Frame.{SameBytes}
use Rattle.image_laws.specs.Quiet.{IsMix, IsQuiet, MixLaw, WriteLaw}
use Rattle.image_laws.specs.Words.{WordsAgree}
use Rattle.image_laws.proofs.Exempt.{exempt_law}
use Rattle.image_laws.proofs.Meaning.{node}
use Rattle.image_laws.proofs.Words.{word_law, shape_from_words}

pub quiet_agrees : (P : ℕ) (I J : List ℕ) → IsCoherent P I → IsQuiet P I J → WordsAgree P I J
quiet_agrees P I J coherent q = record {
  size = q.size;
  words = q.words;
  owners = λ j lt. elim (q.owners j lt) [ inl e ↦ inl e | inr (g, x) ↦ inr (exempt_law P I J j g coherent x) ];
  links = q.links;
}

-- what holds of both holds of a mix
both : (I J M : List ℕ) → IsMix I J M → (Q : ℕ → Type 0) (a : ℕ) → Q (word I a) → Q (word J a) → Q (word M a)
both I J M m Q a h k = elim (m.words a) [ inl e ↦ subst Q (sym e) h | inr e ↦ subst Q (sym e) k ]

mix_exempt : (P : ℕ) (I J M : List ℕ) (j g : ℕ) → IsMix I J M → IsExempt P I J j g → IsExempt P I M j g
unfolding page_owner page_kind page_offset slot_inode slot_pointer
mix_exempt P I J M j g m x = record {
  before = x.before;
  after = both I J M m (λ z. (z ≡ 0) ⊎ (z ≡ g)) (descriptor_word_of P j 0) x.before x.after;
  same_kind = both I J M m (λ z. z ≡ word I (descriptor_word_of P j 1)) (descriptor_word_of P j 1) refl x.same_kind;
  same_offset = both I J M m (λ z. z ≡ word I (descriptor_word_of P j 2)) (descriptor_word_of P j 2) refl x.same_offset;
  file = x.file;
  pointers = λ k s at. let (before, after) = x.pointers k s at in (before, both I J M m (λ z. z ≡ 0) (slot_word_of P s 1) before after);
  target = x.target;
  directory = x.directory;
  empty = λ k r s at. let (before, after) = x.empty k r s at in (before, both I J M m (λ z. z ≡ 0) (slot_word_of P s 0) before after);
}

pub mix_quiet : (P : ℕ) (I J M : List ℕ) → IsCoherent P I → IsQuiet P I J → IsMix I J M → IsQuiet P I M
unfolding page_owner inode_links
mix_quiet P I J M coherent q m = record {
  size = m.size;
  words = λ a u. both I J M m (λ z. z ≡ word I a) a refl (q.words a u);
  owners = λ j lt. elim (q.owners j lt) [
    | inl e ↦ inl (both I J M m (λ z. z ≡ word I (descriptor_word_of P j 0)) (descriptor_word_of P j 0) refl e)
    | inr (g, x) ↦ inr (g, mix_exempt P I J M j g m x)
  ];
  links = λ i r. both I J M m (HasLinks P I i) (inode_word_of i 1) (coherent Rule.links i r) (q.links i r);
}

-- a byte that is the same in both is the same in a mix
mix_bytes : (P : ℕ) (I J M : List ℕ) (i : ℕ) → IsMix I J M → SameBytes P I J i → SameBytes P I M i
unfolding page_byte
mix_bytes P I J M i m b = record {
  bytes = λ o j lt g. elim (m.words (page_word_of P j (o % 4096 / 8))) [
    | inl e ↦ ap (λ x. x / 256 ^ (o % 4096 % 8) % 256) e
    | inr e ↦ ap (λ x. x / 256 ^ (o % 4096 % 8) % 256) e ∙ b.bytes o j lt g
  ];
}

pub mix_law : MixLaw
mix_law P I J M coherent q b m = word_law P I M coherent (quiet_agrees P I M coherent (mix_quiet P I J M coherent q m)) (λ i r k. mix_bytes P I J M i m (b i r k))

pub write_law : WriteLaw
unfolding page_byte
write_law P I J M i coherent q b m =
    let h = shape_from_words P I M coherent (quiet_agrees P I M coherent (mix_quiet P I J M coherent q m)) in
    record {
      shape = h;
      others = λ k x r ne. node P I M h k x r (λ file. mix_bytes P I J M k m (b k r file ne));
      bytes = λ j o. elim (m.words (page_word_of P j (o / 8))) [
        | inl e ↦ inl (ap (λ x. x / 256 ^ (o % 8) % 256) e)
        | inr e ↦ inr (ap (λ x. x / 256 ^ (o % 8) % 256) e)
      ];
    }
