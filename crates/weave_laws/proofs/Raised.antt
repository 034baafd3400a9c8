-- No name and no child changes, and no link word but y's: the other links are to be repaired where they were before.
use Rattle.std.proofs.Common.{◌≡◌, ◌↔◌, inl, inr, ℕ, ◌+◌, List, ◌∷◌, sym, ap, ◌∙◌, arith}
use Rattle.std.proofs.lemmas.Bool.{cases_eq}
use Rattle.layout.specs.Fields.{inode_links}
use Rattle.image_reading.specs.Reading.{Reached, IsNameOf, IsChildOf, IsLinkCount}
use Rattle.image_reading.specs.Repairs.{IsLitterCount}
use Rattle.image_reading.specs.Counts.{IsListOf}
use Rattle.image_reading.specs.Soundness.{Rule}
use Rattle.image_laws.proofs.KeptInodes.{KeepsInodes}
use Rattle.image_laws.proofs.KeptSlots as slot_laws
use Rattle.image_laws.proofs.KeptSlots.{KeepsSlots}
use Rattle.weave_laws.proofs.Listed.{listed_same, listed_more}
use Rattle.weave_laws.proofs.Same as same

pub record Raises (P : ℕ) (I J : List ℕ) (y : ℕ) : Type 0 where
  pub kept : KeepsSlots P I J (λ t. ⊥)
  pub nodes : KeepsInodes I J (Reached P I) (λ x. x ≡ y)
  pub reached : (x : ℕ) → Reached P I x ↔ Reached P J x
  pub linked : Reached P I y

module _ {P : ℕ} {I J : List ℕ} {y : ℕ} (raises : Raises P I J y) where
  names : (x t : ℕ) → IsNameOf P I x t ↔ IsNameOf P J x t
  names x t = slot_laws.names raises.kept x t (λ none. none)

  children : (x t : ℕ) → IsChildOf P I x t ↔ IsChildOf P J x t
  children x t = slot_laws.children raises.kept x t (λ none. none)

  count_same : (x : ℕ) → (Reached P I x → inode_links J x ≡ inode_links I x) → IsLitterCount P I x ↔ IsLitterCount P J x
  count_same x links = same.count_kept_at P I J x (names x) (children x) (raises.reached x) (raises.nodes.kind x) links

  -- the link word that rose
  new_count : inode_links J y ≡ inode_links I y + 1 → IsLinkCount P I y (inode_links I y) → IsLitterCount P J y
  new_count links counted = record {
    reached = (raises.reached y).0 raises.linked;
    other = λ now.
        let more = (same.links_same P I J y (names y) (children y) (raises.nodes.kind y raises.linked) (inode_links J y)).1 now in
        let equal = same.one_number P I y (inode_links J y) (inode_links I y) ((raises.kept.before Rule.kinds y).kind raises.linked) more counted in
        omega (arith, links, equal);
  }

  pub counts_more : inode_links J y ≡ inode_links I y + 1 → IsLinkCount P I y (inode_links I y) → (rest : List ℕ) → IsListOf (IsLitterCount P I) rest → IsListOf (IsLitterCount P J) (y ∷ rest)
  counts_more links counted rest = listed_more (IsLitterCount P I) (IsLitterCount P J) y rest (λ l. l.other counted) (new_count links counted)
      (λ x ne. count_same x (λ r. raises.nodes.links x r ne))

  pub counts_same : inode_links J y ≡ inode_links I y → (rest : List ℕ) → IsListOf (IsLitterCount P I) rest → IsListOf (IsLitterCount P J) rest
  counts_same links rest = listed_same (IsLitterCount P I) (IsLitterCount P J) rest (λ x. count_same x (λ r. elim (cases_eq x y) [
    | inl e ↦ ap (inode_links J) e ∙ links ∙ ap (inode_links I) (sym e)
    | inr ne ↦ raises.nodes.links x r ne
  ]))
