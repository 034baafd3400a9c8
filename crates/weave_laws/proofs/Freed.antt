-- What is left of pages and of an inode is cleared: nothing of them is to be repaired any more.
use Rattle.std.proofs.Common.{◌≡◌, ◌≢◌, ◌↔◌, ◌⊎◌, inl, inr, ℕ, ◌<◌, Bool, true, false, List, [], ◌++◌, refl, sym, ap, subst, ◌∙◌, arith}
use Rattle.std.specs.Prelude.{Contains}
use Rattle.std.proofs.lemmas.Bool.{cases_eq}
use Rattle.layout.specs.Fields.{word, descriptor_words, inode_kind, page_owner, page_kind}
use Rattle.layout.specs.Geometry.{page_of_slot, descriptor_word_of}
use Rattle.layout.proofs.Widths.{in_inode, in_descriptor, same_inode_words, same_descriptor_words}
use Rattle.image_reading.specs.Counts.{IsIn, IsDistinct, IsListOf}
use Rattle.image_reading.specs.Reading.{slot_owner, Reached}
use Rattle.image_reading.specs.Repairs.{IsLitterSlot, IsLitterPage, IsLitterInode, IsLitterCount}
use Rattle.image_counts.proofs.Distinct.{in_front, in_back}
use Rattle.image_laws.specs.Drop.{ClearsRest}
use Rattle.image_laws.specs.Stages.{MayFree}
use Rattle.image_laws.proofs.Free.{version_stores, same_stores}
use Rattle.image_laws.proofs.Stages.{rest_descriptor, rest_inode, rest_slot, rest_stores}
use Rattle.image_reading.specs.Residue.{Residue, IsTidyBeside}
use Rattle.weave_laws.specs.Joined.{joined}
use Rattle.weave_laws.specs.Removing.{FreedLaw, inodes_left, cleared_left}
use Rattle.weave_laws.proofs.Contained.{in_contained, contained_in}
use Rattle.weave_laws.proofs.Listed.{distinct_apart, listed_after, listed_same, listed_less}
use Rattle.weave_laws.proofs.Lost as lost
use Rattle.weave_laws.proofs.Lost.{LosesPages}
use Rattle.weave_laws.proofs.Same as same

clash : false ≡ true → ⊥
clash is = cc

-- an inode that goes is in no other call's list
apart : (goes : Bool) (i : ℕ) (rest : List ℕ) → IsDistinct (inodes_left goes i ++ rest) → (x : ℕ) → IsIn x rest → goes ≡ true → x ≢ i
apart true i rest distinct x among is e = distinct.0 (subst (λ z. IsIn z rest) e among)
apart false i rest distinct x among is e = clash is

module _ (P : ℕ) (I J pages : List ℕ) (goes : Bool) (i : ℕ) (others : Residue) (may : MayFree P I (Contains pages) (goes ≡ true) i) (rest : ClearsRest P I J (Contains pages) (goes ≡ true) i)
    (tidy : IsTidyBeside P I (joined (cleared_left pages goes i) others)) where
  version : word J 1 ≡ word I 1
  version = version_stores P I J may.coherent (rest_stores P I J (Contains pages) (goes ≡ true) i may rest)

  loses : LosesPages P I J (Contains pages)
  unfolding page_owner slot_owner
  loses = record {
    meaning = same_stores P I J may.coherent (rest_stores P I J (Contains pages) (goes ≡ true) i may rest);
    version = version;
    decided = may.decided;
    left = λ j is. (tidy.of_pages.each j).0 (in_front j pages others.pages (contained_in j pages is));
    pointers = λ t is held. absurd (held.owned (may.unowned (page_of_slot t) is));
    unowned = λ j is. rest_descriptor P I J (Contains pages) (goes ≡ true) i may rest j 0 (may.in_range j is) (omega arith) (inl refl) ∙ may.unowned j is;
    descriptors = λ j f lt read other. rest_descriptor P I J (Contains pages) (goes ≡ true) i may rest j f lt (in_descriptor I f read) (inr other);
    slots = rest_slot P I J (Contains pages) (goes ≡ true) i may rest;
    inodes = λ x f r some most lt. rest_inode P I J (Contains pages) (goes ≡ true) i may rest x f some most (in_inode I f lt) (λ is e. may.unreached is (subst (Reached P I) e r));
  }

  -- ---- pages

  zero_word : (j f : ℕ) → Contains pages j → f < descriptor_words I → word J (descriptor_word_of P j f) ≡ 0
  unfolding page_owner
  zero_word j f is lt = elim (cases_eq f 0) [
    | inl e ↦ ap (λ k. word J (descriptor_word_of P j k)) e ∙ loses.unowned j is
    | inr ne ↦ rest.rests j f is (omega (arith, ne)) lt
  ]

  no_page : (j : ℕ) → Contains pages j → ¬ IsLitterPage P J j
  no_page j is l = let (f, lt, nonzero) = l.nonzero in nonzero (zero_word j f is (subst (λ n. f < n) (same_descriptor_words I J version) lt))

  pages_after : IsListOf (IsLitterPage P J) others.pages
  pages_after = listed_after (IsLitterPage P I) (IsLitterPage P J) pages [] others.pages tt (λ j none. absurd none) (λ j. (
    (λ l.
        let other : ¬ IsIn j pages = λ among. no_page j (in_contained j pages among) l in
        inr ((lost.page_same loses j (λ is. other (contained_in j pages is))).1 l, other)),
    (λ either. elim either [ inl none ↦ absurd none | inr had ↦ (lost.page_same loses j (λ is. had.1 (contained_in j pages is))).0 had.0 ]),
  )) tidy.of_pages

  mark_after : (j : ℕ) → IsIn j others.pages → (page_owner P J j ≢ 0) ⊎ (page_kind P J j ≢ 0)
  mark_after j among =
      let before = in_back j pages others.pages among in
      lost.mark_kept loses j (λ is. distinct_apart pages others.pages tidy.of_pages.distinct j (contained_in j pages is) among) ((tidy.of_pages.each j).0 before).in_range (tidy.marks j before)

  -- ---- inodes

  inode_beside : (x : ℕ) → (goes ≡ true → x ≢ i) → IsLitterInode P I x ↔ IsLitterInode P J x
  inode_beside x other = same.inode_same P I J x version (lost.reached loses x) (λ f least most lt unreached. rest_inode P I J (Contains pages) (goes ≡ true) i may rest x f least most (in_inode I f lt) other)

  inodes_after : (gone : Bool) → (gone ≡ true → goes ≡ true) → (goes ≡ true → gone ≡ true) → IsListOf (IsLitterInode P I) (inodes_left gone i ++ others.inodes) → IsListOf (IsLitterInode P J) others.inodes
  inodes_after true to from = listed_less (IsLitterInode P I) (IsLitterInode P J) i others.inodes
      (λ l. let (f, lt, nonzero) = l.nonzero in nonzero (rest.inode (to refl) f (subst (λ n. f < n) (same_inode_words I J version) lt)))
      (λ x ne. inode_beside x (λ is. ne))
  inodes_after false to from = listed_same (IsLitterInode P I) (IsLitterInode P J) others.inodes (λ x. inode_beside x (λ is e. clash (from is)))

  kind_after : (x : ℕ) → IsIn x others.inodes → inode_kind J x ≢ 0
  unfolding inode_kind
  kind_after x among z =
      let before = in_back x (inodes_left goes i) others.inodes among in
      let l = (tidy.of_inodes.each x).0 before in
      let other = apart goes i others.inodes tidy.of_inodes.distinct x among in
      tidy.kinds x before (sym (rest_inode P I J (Contains pages) (goes ≡ true) i may rest x 0 l.least l.most (omega arith) other) ∙ z)

pub freed_law : FreedLaw
freed_law P I J pages goes i others may rest tidy =
    let loses = loses P I J pages goes i others may rest tidy in
    record {
      of_pointer = λ t. ((λ e. (lost.pointer_same loses t).0 ((tidy.of_pointer t).0 e)), (λ l. (tidy.of_pointer t).1 ((lost.pointer_same loses t).1 l)));
      of_slots = listed_same (IsLitterSlot P I) (IsLitterSlot P J) others.slots (lost.slot_same loses) tidy.of_slots;
      of_pages = pages_after P I J pages goes i others may rest tidy;
      of_inodes = inodes_after P I J pages goes i others may rest tidy goes (λ is. is) (λ is. is) tidy.of_inodes;
      of_counts = listed_same (IsLitterCount P I) (IsLitterCount P J) others.counts (lost.count_same loses) tidy.of_counts;
      kinds = kind_after P I J pages goes i others may rest tidy;
      marks = mark_after P I J pages goes i others may rest tidy;
    }
