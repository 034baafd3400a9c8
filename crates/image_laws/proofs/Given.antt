-- Pages lose their owner: which words stay, and that the others are free wherever each page may lose it.
use Rattle.std.proofs.Common.{◌≡◌, ◌≢◌, ◌⊎◌, inl, inr, ℕ, ◌<◌, ◌≤◌, List, sym, subst, arith}
use Rattle.layout.specs.Fields.{word, inode_links, page_owner}
use Rattle.layout.specs.Geometry.{inodes_of, data_pages_of, inode_word_of, descriptor_word_of, slot_word_of}
use Rattle.image_reading.specs.Reading.{Reached}
use Rattle.image_reading.specs.Soundness.{IsCoherent}
use Rattle.image_laws.specs.Drop.{GivesPages}
use Rattle.image_laws.specs.Exempt.{IsExempt}
use Rattle.image_laws.specs.Free.{IsFree, Stores}
use Rattle.image_laws.proofs.Addresses.{descriptor-ne_inode, descriptor-ne_slot, descriptor_word-one}
use Rattle.image_laws.proofs.Decide.{dec_eq}
use Rattle.image_laws.proofs.NewPage.{links_kept}
use Rattle.image_laws.proofs.Paths.{reached_pos, reached-le}
use Rattle.image_laws.proofs.Rooms.{dec_some}

module _ (P : ℕ) (I J : List ℕ) (given : ℕ → Type 0) (gives : GivesPages P I J given) where
  pub give_descriptor : (x f : ℕ) → f < 8 → (f ≢ 0) ⊎ (given x → ⊥) → word J (descriptor_word_of P x f) ≡ word I (descriptor_word_of P x f)
  give_descriptor x f l8 other = gives.others (descriptor_word_of P x f) (λ j is e.
      let (same_page, same_field) = descriptor_word-one P x f j 0 l8 (omega arith) e in
      elim other [ inl ne ↦ ne same_field | inr none ↦ none (subst given (sym same_page) is) ])

  pub give_inode : (x f : ℕ) → 1 ≤ x → x ≤ inodes_of P → f < 16 → word J (inode_word_of x f) ≡ word I (inode_word_of x f)
  give_inode x f some most lt = gives.others (inode_word_of x f) (λ j is e. descriptor-ne_inode P j 0 x f some most lt (sym e))

  module _ (in_range : (j : ℕ) → given j → j < data_pages_of P) where
    pub give_slot : (t f : ℕ) → word J (slot_word_of P t f) ≡ word I (slot_word_of P t f)
    give_slot t f = gives.others (slot_word_of P t f) (λ j is e. descriptor-ne_slot P j 0 t f (in_range j is) (omega arith) (sym e))

    module _ (coherent : IsCoherent P I) (decided : (j : ℕ) → given j ⊎ (given j → ⊥)) (exempt : (j : ℕ) → given j → (g : ℕ) × IsExempt P I J j g) where
      give_links : (x : ℕ) → Reached P I x → inode_links J x ≡ inode_links I x
      unfolding inode_links
      give_links x r = let some = reached_pos P I x r in give_inode x 1 (omega (arith, some)) (reached-le P I coherent x r) (omega arith)

      -- an owner word that is taken away
      record IsTaken (a j : ℕ) : Type 0 where
        is_given : given j
        is : a ≡ descriptor_word_of P j 0

      dec_taken : (a j : ℕ) → Dec (IsTaken a j)
      dec_taken a j = elim (decided j) [
        | inr n ↦ no (λ t. n t.is_given)
        | inl g ↦ elim (dec_eq a (descriptor_word_of P j 0)) [ no n ↦ no (λ t. n t.is) | yes e ↦ yes (record { is_given = g; is = e }) ]
      ]

      pub give_stores : Stores P I J
      unfolding page_owner
      give_stores = record {
        size = gives.size;
        words = λ a. elim (dec_some (IsTaken a) (dec_taken a) (data_pages_of P) (λ j t. in_range j t.is_given)) [
          | yes (j, t) ↦ inr (subst (IsFree P I) (sym t.is) (IsFree.owner j (in_range j t.is_given)))
          | no n ↦ inl (gives.others a (λ j g e. n (j, record { is_given = g; is = e })))
        ];
        owners = λ x lt. elim (decided x) [
          | inl g ↦ inr (exempt x g)
          | inr n ↦ inl (give_descriptor x 0 (omega arith) (inr n))
        ];
        links = links_kept P I J coherent give_links;
      }
