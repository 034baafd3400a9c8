-- Pages that a call on a file has left have no slots: they are the file's, or nobody's.
use Rattle.std.proofs.Common.{◌≡◌, ◌⊎◌, inl, inr, ℕ, List, sym, subst, arith}
use Rattle.layout.specs.Geometry.{page_of_slot}
use Rattle.layout.specs.Fields.{page_owner}
use Rattle.layout.proofs.GeometryLaws.{page_of_slot_below}
use Rattle.image_reading.specs.Counts.{IsIn}
use Rattle.image_reading.specs.Reading.{HasBytes, Reached, slot_owner}
use Rattle.image_reading.specs.Soundness.{Rule, IsCoherent}
use Rattle.waiting_laws.specs.Beside.{NamesNothing}
use Rattle.waiting_laws.specs.Growing.{pages_left_by}

pub left_bare : (P : ℕ) (I : List ℕ) (i : ℕ) (pages : List ℕ) → IsCoherent P I → Reached P I i → HasBytes I i
    → ((j : ℕ) → IsIn j pages → (page_owner P I j ≡ i) ⊎ (page_owner P I j ≡ 0)) → NamesNothing P I (pages_left_by i pages)
unfolding slot_owner
left_bare P I i pages coherent reached file owners t among held = elim (owners (page_of_slot t) among) [
  | inl own ↦
      let within = page_of_slot_below P t held.in_range in
      let one = (coherent Rule.page_kinds (page_of_slot t)).file within (subst (Reached P I) (sym own) reached) (subst (HasBytes I) (sym own) file) in
      let two = held.kind in
      absurd (omega (arith, one, two))
  | inr none ↦ absurd (held.owned none)
]
