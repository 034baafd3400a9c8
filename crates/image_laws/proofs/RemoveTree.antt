-- The tree after a slot gave up its inode number.
use Rattle.std.proofs.Common.{◌≡◌, ◌↔◌, ℕ, Bool, true, false, cond, List, ◌∷◌, reverse, Some, None, refl, sym, ap, ◌∙◌, set}
use Rattle.layout.specs.Fields.{slot_name}
use Rattle.layout.specs.Geometry.{slot_word_of}
use Rattle.tree_model.specs.PathText.{Route}
use Rattle.tree_model.specs.Step.{without_path, without_unnamed}
use Rattle.tree_model.specs.Tree.{Tree, id_at}
use Rattle.tree_model.proofs.TreeKept.{none_some}
use Rattle.tree_model.proofs.TreeLaws.{is_same, same_route, is_same_itself, id_at-without_path}
use Rattle.image_reading.specs.Reading.{Names, Reached, Reads}
use Rattle.image_reading.specs.Soundness.{IsCoherent}
use Rattle.image_counts.proofs.Slots.{same_reverse}
use Rattle.image_laws.specs.Remove.{HasRemoved, RemoveTreeLaw}
use Rattle.image_laws.proofs.Pruned.{reads_pruned}
use Rattle.image_laws.proofs.Removes.{remove_law}

module _ (P : ℕ) (I J : List ℕ) (p path : Route) (s : ℕ) (tree : Tree) (coherent : IsCoherent P I) (removed : HasRemoved P I J (slot_name P I s ∷ p)) (is : reverse path ≡ slot_name P I s ∷ p) (reads : Reads P I tree) where
  names_left : (q : Route) (x : ℕ) → (id_at (without_path tree path) q ≡ Some x) ↔ Names P J (reverse q) x
  names_left q x = elim (is_same q path) as (λ t. is_same q path ≡ t → (id_at (without_path tree path) q ≡ Some x) ↔ Names P J (reverse q) x) [
    | true ↦ λ tie.
        let gone : reverse q ≡ slot_name P I s ∷ p = ap reverse (same_route q path tie) ∙ is in (
          (λ e. none_some x (sym (at true tie) ∙ e)),
          (λ b. absurd (((removed.names (reverse q) x).0 b).1 gone)),
        )
    | false ↦ λ other. (
      (λ e. (removed.names (reverse q) x).1 ((reads.names q x).0 (sym (at false other) ∙ e), λ gone. clash (sym other ∙ is_same_itself q path (same_reverse q path (gone ∙ sym is))))),
      (λ b. at false other ∙ (reads.names q x).1 ((removed.names (reverse q) x).0 b).0),
    )
  ] refl
    where
      at : (t : Bool) → is_same q path ≡ t → id_at (without_path tree path) q ≡ cond t None (id_at tree q)
      at t e = id_at-without_path tree path q ∙ ap (λ b. cond b None (id_at tree q)) e

      clash : false ≡ true → ⊥
      clash e = cc

  before : (x : ℕ) → Reached P J x → Reached P I x
  before x (q, b) = (q, ((removed.names q x).0 b).0)

  pub reads_left : Reads P J (without_unnamed (without_path tree path))
  reads_left = reads_pruned P I J tree (without_path tree path) coherent reads (λ x. refl) names_left before removed.nodes

pub remove_tree_law : RemoveTreeLaw
remove_tree_law P I p path s tree can is reads = reads_left P I (set I (slot_word_of P s 0) 0) p path s tree can.coherent (remove_law P I p s can) is reads
