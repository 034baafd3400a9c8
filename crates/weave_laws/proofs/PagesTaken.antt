-- Pages that are filled become a file's, behind its end: they mean nothing.
use Rattle.std.proofs.Common.{◌≡◌, ◌≢◌, ◌⊎◌, inl, inr, ℕ, ◌<◌, List, sym, subst, arith}
use Rattle.std.specs.Prelude.{Contains}
use Rattle.layout.specs.Fields.{word, inode_links, page_owner, page_kind, page_offset}
use Rattle.layout.specs.Geometry.{data_pages_of, descriptor_word_of, inode_word_of}
use Rattle.image_reading.specs.Reading.{Reached}
use Rattle.image_laws.specs.Exempt.{IsExempt}
use Rattle.image_laws.specs.Frame.{SameShape}
use Rattle.image_laws.specs.Free.{IsFree, Stores}
use Rattle.image_laws.proofs.Addresses.{descriptor-ne_inode, descriptor_word-one}
use Rattle.image_laws.proofs.Decide.{dec_eq}
use Rattle.image_laws.proofs.Free.{stores_law, alike_stores}
use Rattle.image_laws.proofs.Meaning as meaning
use Rattle.image_laws.proofs.NewPage.{links_kept}
use Rattle.image_laws.proofs.Paths.{reached_pos, reached-le}
use Rattle.image_laws.proofs.Rooms.{dec_some}
use Rattle.content_laws.specs.Growth.{TakesPages}
use Rattle.weave_laws.specs.Bytes.{MayOwn, TakenMeaningLaw}
use Rattle.weave_laws.proofs.Contained.{contained_or_not}

module _ (P : ℕ) (I J : List ℕ) (i : ℕ) (pages : List ℕ) (may : MayOwn P I i pages) (takes : TakesPages P I J i pages) where
  in_range : (j : ℕ) → Contains pages j → j < data_pages_of P
  in_range j is = (may.filled j is).free.0

  pub descriptor_same : (j f : ℕ) → f < 8 → (f ≢ 0) ⊎ ¬ Contains pages j → word J (descriptor_word_of P j f) ≡ word I (descriptor_word_of P j f)
  descriptor_same j f l8 why = takes.others (descriptor_word_of P j f) (λ h is e.
      let (x, y) = descriptor_word-one P j f h 0 l8 (omega arith) e in
      elim why [ inl field ↦ field y | inr none ↦ none (subst (Contains pages) (sym x) is) ])

  pub kind_same : (j : ℕ) → page_kind P J j ≡ page_kind P I j
  unfolding page_kind
  kind_same j = descriptor_same j 1 (omega arith) (inl (λ e. omega (arith, e)))

  pub offset_same : (j : ℕ) → page_offset P J j ≡ page_offset P I j
  unfolding page_offset
  offset_same j = descriptor_same j 2 (omega arith) (inl (λ e. omega (arith, e)))

  exempt : (j : ℕ) → Contains pages j → IsExempt P I J j i
  exempt j is =
      let page = may.filled j is in
      let one = page.kind in
      record {
        before = inl page.free.1;
        after = inr (takes.owners j is);
        same_kind = kind_same j;
        same_offset = offset_same j;
        file = λ other r. (may.file, page.behind, one);
        pointers = λ two. absurd (omega (arith, one, two));
        target = λ two. absurd (omega (arith, one, two));
        directory = λ two. absurd (omega (arith, one, two));
        empty = λ two. absurd (omega (arith, one, two));
      }

  links_same : (x : ℕ) → Reached P I x → inode_links J x ≡ inode_links I x
  unfolding inode_links
  links_same x r = takes.others (inode_word_of x 1) (λ j is e.
      let some = reached_pos P I x r in
      descriptor-ne_inode P j 0 x 1 (omega (arith, some)) (reached-le P I may.coherent x r) (omega arith) (sym e))

  -- the owner word of a page that is taken
  record IsTaken (a j : ℕ) : Type 0 where
    is_new : Contains pages j
    is : a ≡ descriptor_word_of P j 0

  dec_taken : (a j : ℕ) → Dec (IsTaken a j)
  dec_taken a j = elim (contained_or_not pages j) [
    | inr n ↦ no (λ t. n t.is_new)
    | inl c ↦ elim (dec_eq a (descriptor_word_of P j 0)) [ no n ↦ no (λ t. n t.is) | yes e ↦ yes (record { is_new = c; is = e }) ]
  ]

  stores : Stores P I J
  unfolding page_owner
  stores = record {
    size = takes.size;
    words = λ a. elim (dec_some (IsTaken a) (dec_taken a) (data_pages_of P) (λ j t. in_range j t.is_new)) [
      | yes (j, t) ↦ inr (subst (IsFree P I) (sym t.is) (IsFree.owner j (in_range j t.is_new)))
      | no n ↦ inl (takes.others a (λ j c e. n (j, record { is_new = c; is = e })))
    ];
    owners = λ j lt. elim (contained_or_not pages j) [ inl is ↦ inr (i, exempt j is) | inr none ↦ inl (descriptor_same j 0 (omega arith) (inr none)) ];
    links = links_kept P I J may.coherent links_same;
  }

  pub shape : SameShape P I J
  shape = meaning.shape P I J may.coherent (alike_stores P I J may.coherent stores)

pub taken_meaning_law : TakenMeaningLaw
taken_meaning_law P I J M i pages may takes mix = stores_law P I J M may.coherent (stores P I J i pages may takes) mix
