-- An exempt owner's page is idle.
use Rattle.std.proofs.Common.{◌≡◌, ◌⊎◌, inl, inr, ℕ, ◌-◌, List, refl, sym, ap, subst, ◌∙◌, arith}
use Rattle.std.proofs.lemmas.Bool.{cases_eq}
use Rattle.layout.specs.Fields.{inode_kind, inode_size, page_owner, page_kind, page_offset, slot_inode, slot_pointer}
use Rattle.layout.specs.Geometry.{page_of_slot}
use Rattle.image_reading.specs.Reading.{Reached, pages_of_size}
use Rattle.image_reading.specs.Soundness.{IsCoherent, Rule}
use Rattle.image_laws.specs.Exempt.{IsExempt, ExemptLaw}
use Rattle.image_laws.specs.Agrees.{IsIdle, AreIdle}

module _ (P : ℕ) (I J : List ℕ) (j g : ℕ) (coherent : IsCoherent P I) (e : IsExempt P I J j g) where
  idle : (X : List ℕ) → (page_owner P X j ≡ 0) ⊎ (page_owner P X j ≡ g) → page_kind P X j ≡ page_kind P I j → page_offset P X j ≡ page_offset P I j →
      (page_kind P I j ≡ 2 → (s : ℕ) → page_of_slot s ≡ j → slot_pointer P X s ≡ 0) →
      (page_kind P I j ≡ 2 → Reached P I g → (s : ℕ) → page_of_slot s ≡ j → slot_inode P X s ≡ 0) → IsIdle P I X j
  idle X owner kind offset pointers empty = record {
    tree = λ owned r. elim owner [
      | inl z ↦ absurd (owned z)
      | inr o ↦ let r' : Reached P I g = subst (Reached P I) o r in elim (cases_eq (page_kind P I j) 2) [
        | inr k ↦ inl (record {
          file = ap (inode_kind I) o ∙ (e.file k r').0;
          kind = kind ∙ (e.file k r').2;
          past = let h = (e.file k r').1 in let o' = ap (λ x. pages_of_size (inode_size I x)) o in omega (arith, h, o', offset);
        })
        | inl k ↦ inr (record { directory = ap (inode_kind I) o ∙ e.directory k r'; kind = kind ∙ k; empty = empty k r' })
      ]
    ];
    pointers = λ s at held. pointers (sym kind ∙ ap (page_kind P X) (sym at) ∙ held.kind) s at;
  }

  are_idle : AreIdle P I J j
  are_idle = record {
    before = idle I e.before refl refl (λ k s at. (e.pointers k s at).0) (λ k r s at. (e.empty k r s at).0);
    after = idle J e.after e.same_kind e.same_offset (λ k s at. (e.pointers k s at).1) (λ k r s at. (e.empty k r s at).1);
    target = λ s d at held points. elim (cases_eq (page_kind P I j) 2) [
      | inr k ↦
          let target = (coherent Rule.pointers d).held held (λ z. omega (arith, z, points)) in
          let t : slot_pointer P I d - 1 ≡ s = omega (arith, points) in
          let kind : page_kind P I j ≡ 2 = ap (page_kind P I) (sym at ∙ ap page_of_slot (sym t)) ∙ target.kind in
          k kind
      | inl k ↦ e.target k s d at held points
    ];
  }

pub exempt_law : ExemptLaw
exempt_law P I J j g coherent e = are_idle P I J j g coherent e
