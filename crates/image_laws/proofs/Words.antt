-- From words to fields.
use Rattle.std.proofs.Common.{◌≡◌, ◌≢◌, inl, inr, ℕ, zero, suc, ◌+◌, ◌*◌, ◌/◌, ◌%◌, ◌^◌, ◌<◌, List, set, refl, ap, subst, arith, add-zero}
use Rattle.std.proofs.lemmas.List.{get_or-set_other}
use Rattle.layout.specs.Fields.{word, words_from, inode_kind, inode_size, inode_own, page_owner, page_kind, page_offset, slot_inode, slot_pointer, slot_words, page_byte}
use Rattle.layout.specs.Geometry.{inode_word_of, descriptor_word_of, page_word_of, slot_word_of}
use Rattle.image_reading.specs.Soundness.{Rule, IsCoherent}
use Rattle.image_laws.specs.Agrees.{Agrees}
use Rattle.image_laws.specs.Frame.{SameBytes, SameShape}
use Rattle.image_laws.specs.Words.{IsUsed, IsByteOf, BytesAgree, WordsAgree, WordLaw}
use Rattle.image_laws.proofs.Frame.{alike, frame}
use Rattle.image_laws.proofs.Meaning.{same_head, shape}

pub other_word : (I : List ℕ) (x v a : ℕ) → a ≢ x → word (set I x v) a ≡ word I a
unfolding word
other_word I x v a ne = get_or-set_other I x a v 0 ne

pub words_from-same : (I J : List ℕ) (a n : ℕ) → ((k : ℕ) → k < n → word J (a + k) ≡ word I (a + k)) → words_from J a n ≡ words_from I a n
unfolding words_from
words_from-same I J a zero h = refl
words_from-same I J a (suc n) h =
    let first : word J a ≡ word I a = subst (λ x. word J x ≡ word I x) (add-zero a) (h 0 (omega arith)) in
    let rest : words_from J (a + 1) n ≡ words_from I (a + 1) n = words_from-same I J (a + 1) n
    (λ k lt. let e : a + (k + 1) ≡ a + 1 + k = omega arith in subst (λ x. word J x ≡ word I x) e (h (k + 1) (omega arith))) in
    cc

slot_word_at : (P s k : ℕ) → slot_word_of P s (2 + k) ≡ slot_word_of P s 2 + k
unfolding slot_word_of
slot_word_at P s k = omega arith

pub slot_words-same : (P : ℕ) (I J : List ℕ) (s : ℕ) → ((f : ℕ) → f < 14 → word J (slot_word_of P s (2 + f)) ≡ word I (slot_word_of P s (2 + f))) → slot_words P J s ≡ slot_words P I s
unfolding slot_words
slot_words-same P I J s h = words_from-same I J (slot_word_of P s 2) 14 (λ k lt. subst (λ x. word J x ≡ word I x) (slot_word_at P s k) (h k lt))

byte_in_page : (o : ℕ) → o % 4096 / 8 < 512
byte_in_page o = omega arith

byte_below : (o size : ℕ) → o < size → 4096 * (o / 4096) + 8 * (o % 4096 / 8) < size
byte_below o size h = omega arith

pub agrees_from_words : (P : ℕ) (I J : List ℕ) → IsCoherent P I → WordsAgree P I J → Agrees P I J
unfolding inode_kind inode_size inode_own page_owner page_kind page_offset slot_inode slot_pointer page_byte
agrees_from_words P I J coherent w = record {
  size = w.size;
  head = λ x. same_head P I J x w.size (λ a lt. w.words a (IsUsed.head a lt)) (coherent Rule.head x);
  pages = λ j lt. elim (w.owners j lt) [
    | inl e ↦ inl (record {
      owner = e;
      kind = λ owned. w.words (descriptor_word_of P j 1) (IsUsed.kind j lt owned);
      offset = λ owned. w.words (descriptor_word_of P j 2) (IsUsed.offset j lt owned);
      inode = λ s e held. w.words (slot_word_of P s 0) (IsUsed.slot_inode s held);
      pointer = λ s e held. w.words (slot_word_of P s 1) (IsUsed.pointer s held);
    })
    | inr k ↦ inr k
  ];
  inodes = λ i r. record {
    kind = w.words (inode_word_of i 0) (IsUsed.node_kind i r);
    size = w.words (inode_word_of i 2) (IsUsed.size i r);
    own = w.words (inode_word_of i 3) (IsUsed.own i r);
  };
  links = w.links;
  names = λ s r. slot_words-same P I J s (λ f lt. w.words (slot_word_of P s (2 + f)) (IsUsed.name s f lt r));
}

pub bytes_from_words : (P : ℕ) (I J : List ℕ) (i : ℕ) → BytesAgree P I J i → SameBytes P I J i
unfolding page_byte
bytes_from_words P I J i b = record {
  bytes = λ o j lt g. ap (λ x. x / 256 ^ (o % 4096 % 8) % 256)
      (b (page_word_of P j (o % 4096 / 8)) (IsByteOf.byte (o / 4096) j (o % 4096 / 8) g (byte_in_page o) (byte_below o (inode_size I i) lt)));
}

pub shape_from_words : (P : ℕ) (I J : List ℕ) → IsCoherent P I → WordsAgree P I J → SameShape P I J
shape_from_words P I J coherent w = shape P I J coherent (alike P I J (agrees_from_words P I J coherent w) coherent)

pub word_law : WordLaw
word_law P I J coherent w b = frame P I J coherent (agrees_from_words P I J coherent w) b
