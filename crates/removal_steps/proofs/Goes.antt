-- A node goes with a name exactly where nothing leads to it any more.
use Rattle.std.proofs.Common.{◌≡◌, ◌↔◌, ℕ, Bool, true, List, Option, Some, None, is_some, is_none, refl, sym, ◌∙◌}
use Rattle.std.proofs.lemmas.Bool.{false≢true}
use Rattle.tree_model.specs.Tree.{Node, Tree, node_at}
use Rattle.image_reading.specs.Reading.{Reached, Reads}
use Rattle.image_reading.specs.Soundness.{IsCoherent}
use Rattle.image_counts.proofs.Nodes as nodes

pub no_node : (o : Option Node) → is_none o ≡ true → is_some o ≡ true → ⊥
no_node None none some = false≢true some
no_node (Some x) none some = false≢true none

pub some_node : (o : Option Node) → (is_some o ≡ true → ⊥) → is_none o ≡ true
some_node None none = refl
some_node (Some x) none = absurd (none refl)

-- I are words that read as the tree after it
pub goes_when : (P : ℕ) (I : List ℕ) (tree : Tree) → IsCoherent P I → Reads P I tree → (inode : ℕ) (goes : Bool) → goes ≡ is_none (node_at tree inode) → (goes ≡ true) ↔ (Reached P I inode → ⊥)
goes_when P I tree coherent reads inode goes is = (
  (λ gone reached. no_node (node_at tree inode) (sym is ∙ gone) (nodes.reached_node P I tree coherent reads inode reached)),
  (λ gone. is ∙ some_node (node_at tree inode) (λ there. gone (nodes.node_reached P I tree coherent reads inode there))),
)
