-- To which words each step stores.
use Rattle.std.proofs.Common.{◌≡◌, inl, inr, ℕ, ◌+◌, ◌<◌, List, [], ◌∷◌, ◌++◌, set, refl, sym, ap, subst, ◌∙◌, arith}
use Rattle.std.proofs.lemmas.List.{length-set}
use Rattle.layout.specs.Geometry.{page_of_slot, inode_word_of, descriptor_word_of, slot_word_of, page_word_of}
use Rattle.layout.specs.Fields.{inode_words}
use Rattle.layout.specs.declared.kinds.NodeKind.{NodeKind}
use Rattle.layout.specs.declared.kinds.NodeKind.TheVariants.{File, Directory}
use Rattle.layout.proofs.Widths.{inode_field_read, descriptor_field_read}
use Rattle.image_reading.specs.Counts.{IsIn}
use Rattle.image_counts.proofs.Distinct.{in_front, in_back}
use Rattle.image_laws.specs.Create.{IsAmong, IsMadeWord, IsPageMadeWord}
use Rattle.image_laws.specs.Link.{IsLinkedWord}
use Rattle.image_laws.proofs.Words.{other_word}
use Rattle.content_laws.specs.Growth.{IsFillWord}
use Rattle.weave_laws.specs.Beside.{IsWordOf, StoresIn, AreAmong, NodeWordsLaw, LinkWordsLaw, PagedNodeWordsLaw, PagedLinkWordsLaw, OwnedWordsLaw, CommittedWordsLaw, DroppedWordsLaw, ClearedWordsLaw, GivenWordsLaw, FreedWordsLaw, HasPagesOf, InsideWordsLaw, FilledWordsLaw, TakenWordsLaw, SizedWordsLaw}
use Rattle.weave_laws.specs.Naming.{counts_left}
use Rattle.weave_laws.specs.Removing.{inodes_left}
use Rattle.weave_laws.proofs.Contained.{contained_in}
use Rattle.weave_laws.proofs.Disjoint.{wider}

-- ---- one word

stores_one : (P : ℕ) (I slots pages inodes : List ℕ) (at v : ℕ) → IsWordOf P I slots pages inodes at → StoresIn P I (set I at v) slots pages inodes
stores_one P I slots pages inodes at v is = record {
  size = length-set I at v;
  others = λ a none. other_word I at v a (λ e. none (subst (IsWordOf P I slots pages inodes) (sym e) is));
}

pub committed_words_law : CommittedWordsLaw
committed_words_law P I s i = stores_one P I (s ∷ []) [] [] (slot_word_of P s 0) i (IsWordOf.slot s 0 (inl refl) (omega arith))

pub dropped_words_law : DroppedWordsLaw
dropped_words_law P I s = committed_words_law P I s 0

pub owned_words_law : OwnedWordsLaw
owned_words_law P I j d = stores_one P I [] (j ∷ []) [] (descriptor_word_of P j 0) d (IsWordOf.descriptor j 0 (inl refl) (descriptor_field_read I 0 (omega arith)))

pub sized_words_law : SizedWordsLaw
sized_words_law P I i z = stores_one P I [] [] (i ∷ []) (inode_word_of i 2) z (IsWordOf.inode i 2 (inl refl) (inode_field_read I 2 (omega arith)))

-- ---- a name is written

module _ {P : ℕ} {I slots pages inodes : List ℕ} where
  among : (f : ℕ → ℕ) (n a : ℕ) → ((k : ℕ) → k < n → IsWordOf P I slots pages inodes (f k)) → IsAmong f n a → IsWordOf P I slots pages inodes a
  among f n a each (k, lt, e) = subst (IsWordOf P I slots pages inodes) (sym e) (each k lt)

  name_word : (s a : ℕ) → IsIn s slots → IsAmong (λ k. slot_word_of P s (2 + k)) 14 a → IsWordOf P I slots pages inodes a
  name_word s a here = among (λ k. slot_word_of P s (2 + k)) 14 a (λ k few. IsWordOf.slot s (2 + k) here (omega (arith, few)))

  inode_word : (i a : ℕ) → IsIn i inodes → IsAmong (inode_word_of i) (inode_words I) a → IsWordOf P I slots pages inodes a
  inode_word i a here = among (inode_word_of i) (inode_words I) a (λ f few. IsWordOf.inode i f here few)

  link_word : (i a : ℕ) → IsIn i inodes → a ≡ inode_word_of i 1 → IsWordOf P I slots pages inodes a
  link_word i a here e = subst (IsWordOf P I slots pages inodes) (sym e) (IsWordOf.inode i 1 here (inode_field_read I 1 (omega arith)))

  page_word : (j a : ℕ) → IsIn j pages → IsPageMadeWord P j a → IsWordOf P I slots pages inodes a
  page_word j a here is = elim is [
    | inl w ↦ among (page_word_of P j) 512 a (λ k few. IsWordOf.page j k here few) w
    | inr rest ↦ elim rest [
      | inl e ↦ subst (IsWordOf P I slots pages inodes) (sym e) (IsWordOf.descriptor j 1 here (descriptor_field_read I 1 (omega arith)))
      | inr e ↦ subst (IsWordOf P I slots pages inodes) (sym e) (IsWordOf.descriptor j 2 here (descriptor_field_read I 2 (omega arith)))
    ]
  ]

made_word : (P : ℕ) (I : List ℕ) (kind : NodeKind) (d s i a : ℕ) → IsMadeWord P I kind d s i a → IsWordOf P I (s ∷ []) [] (i ∷ counts_left kind d) a
made_word P I Directory d s i a is = elim is [
  | inl w ↦ inode_word i a (inl refl) w
  | inr rest ↦ elim rest [ inl w ↦ name_word s a (inl refl) w | inr e ↦ link_word d a (inr (inl refl)) e ]
]
made_word P I File d s i a is = elim is [ inl w ↦ inode_word i a (inl refl) w | inr w ↦ name_word s a (inl refl) w ]

linked_word : (P : ℕ) (I : List ℕ) (s i a : ℕ) → IsLinkedWord P s i a → IsWordOf P I (s ∷ []) [] (i ∷ []) a
linked_word P I s i a is = elim is [ inl w ↦ name_word s a (inl refl) w | inr e ↦ link_word i a (inl refl) e ]

-- a slot is there with its page
with_page : (s j : ℕ) (inodes : List ℕ) → page_of_slot s ≡ j → AreAmong (s ∷ []) [] inodes [] (j ∷ []) inodes
with_page s j inodes at = record {
  of_slots = λ t here. elim here [ inl e ↦ inr (inl (ap page_of_slot e ∙ at)) | inr none ↦ absurd none ];
  of_pages = λ k none. absurd none;
  of_inodes = λ i here. here;
}

pub node_words_law : NodeWordsLaw
node_words_law P I J kind d s i name makes = record { size = makes.size; others = λ a none. makes.others a (λ is. none (made_word P I kind d s i a is)) }

pub link_words_law : LinkWordsLaw
link_words_law P I J s i name makes = record { size = makes.size; others = λ a none. makes.others a (λ is. none (linked_word P I s i a is)) }

pub paged_node_words_law : PagedNodeWordsLaw
paged_node_words_law P I J kind d j s i name at makes = record {
  size = makes.size;
  others = λ a none. makes.others a (λ is. none (page_word j a (inl refl) is)) (λ is. none (wider (with_page s j (i ∷ counts_left kind d) at) a (made_word P I kind d s i a is)));
}

pub paged_link_words_law : PagedLinkWordsLaw
paged_link_words_law P I J j s i name at makes = record {
  size = makes.size;
  others = λ a none. makes.others a (λ is. none (page_word j a (inl refl) is)) (λ is. none (wider (with_page s j (i ∷ []) at) a (linked_word P I s i a is)));
}

-- ---- a name is cleared, and pages and an inode are given back

pub cleared_words_law : ClearedWordsLaw
cleared_words_law P I J s y clears = record {
  size = clears.size;
  others = λ a none. clears.others a
      (λ f least few e. none (subst (IsWordOf P I (s ∷ []) [] (y ∷ [])) (sym e) (IsWordOf.slot s f (inl refl) few)))
      (λ e. none (link_word y a (inl refl) e));
}

pub given_words_law : GivenWordsLaw
given_words_law P I J pages gives = record {
  size = gives.size;
  others = λ a none. gives.others a (λ j is e. none (subst (IsWordOf P I [] pages []) (sym e) (IsWordOf.descriptor j 0 (contained_in j pages is) (descriptor_field_read I 0 (omega arith)))));
}

pub freed_words_law : FreedWordsLaw
freed_words_law P I J pages goes i clears = record {
  size = clears.size;
  others = λ a none. clears.others a
      (λ j f is least few e. none (subst (IsWordOf P I [] pages (inodes_left goes i)) (sym e) (IsWordOf.descriptor j f (contained_in j pages is) few)))
      (λ gone f few e. none (subst (IsWordOf P I [] pages (inodes_left goes i)) (sym e) (IsWordOf.inode i f (subst (λ b. IsIn i (inodes_left b i)) (sym gone) (inl refl)) few)));
}

-- ---- a file is written, grows or shrinks

pub inside_words_law : InsideWordsLaw
inside_words_law P I J i offset bytes own all writes = record {
  size = writes.size;
  others = λ a none. writes.others a (λ k j w page few e. none (subst (IsWordOf P I [] own []) (sym e) (IsWordOf.page j w (all k j page) few)));
}

fill_word : (P : ℕ) (I : List ℕ) (i : ℕ) (pages own : List ℕ) → HasPagesOf P I i own → (a : ℕ) → IsFillWord P I i pages a → IsWordOf P I [] (own ++ pages) [] a
fill_word P I i pages own all _ (IsFillWord.old k j w page few) = IsWordOf.page j w (in_front j own pages (all k j page)) few
fill_word P I i pages own all _ (IsFillWord.new j w is few) = IsWordOf.page j w (in_back j own pages (contained_in j pages is)) few
fill_word P I i pages own all _ (IsFillWord.descriptor j f is which) = IsWordOf.descriptor j f (in_back j own pages (contained_in j pages is)) (descriptor_field_read I f (omega (arith, which)))

pub filled_words_law : FilledWordsLaw
filled_words_law P I J i offset bytes pages own all fills = record { size = fills.size; others = λ a none. fills.others a (λ is. none (fill_word P I i pages own all a is)) }

pub taken_words_law : TakenWordsLaw
taken_words_law P I J i pages takes = record {
  size = takes.size;
  others = λ a none. takes.others a (λ j is e. none (subst (IsWordOf P I [] pages []) (sym e) (IsWordOf.descriptor j 0 (contained_in j pages is) (descriptor_field_read I 0 (omega arith)))));
}
