-- What the list of the nodes holds of an inode.
use Rattle.std.proofs.Common.{◌≡◌, ◌≢◌, ℕ, zero, suc, ◌+◌, ◌<◌, ◌≤◌, List, length, get_or, set, All, inl, inr, refl, sym, ap, subst, ◌∙◌, arith}
use Rattle.std.proofs.lemmas.Bool.{cases_lt}
use Rattle.std.proofs.lemmas.List.{get_or_past, get_or_default, get_or-set_same, get_or-set_other, length-set}
use Rattle.volatile_index.specs.Index.{NodeView, empty_node, node_of, IsEmpty, IsSameElsewhere, ChangesNode}

-- the node of an inode stands at this place of the nodes
pub record Stands (index nodes : List NodeView) (inode place : ℕ) (node : NodeView) : Type 0 where
  pub same : nodes ≡ index
  pub place_is : place + 1 ≡ inode
  pub within : inode ≤ length index
  pub node_is : node ≡ get_or nodes place node

pub stands : {index nodes : List NodeView} {inode place : ℕ} {node : NodeView} → nodes ≡ index → place + 1 ≡ inode → inode ≤ length index → node ≡ get_or nodes place node
    → Stands index nodes inode place node
stands same place_is within node_is = record { same = same; place_is = place_is; within = within; node_is = node_is }

held_at : (nodes : List NodeView) (inode place : ℕ) → place + 1 ≡ inode → node_of nodes inode ≡ get_or nodes place empty_node
unfolding node_of
held_at nodes zero place is = absurd (omega arith)
held_at nodes (suc k) place is = let same : k ≡ place = omega arith in ap (λ n. get_or nodes n empty_node) same

module _ {index nodes : List NodeView} {inode place : ℕ} {node : NodeView} (stands : Stands index nodes inode place node) where
  inside : place < length nodes
  inside = let same = ap length stands.same in let within = stands.within in let is = stands.place_is in omega (arith, same, within, is)

  pub held_is : node_of index inode ≡ node
  held_is =
      held_at index inode place stands.place_is ∙ ap (λ list. get_or list place empty_node) (sym stands.same)
      ∙ get_or_default nodes place empty_node node inside ∙ sym stands.node_is

  pub at_inode : (P : NodeView → Type 0) → P node → P (node_of index inode)
  at_inode P h = subst P (sym held_is) h

  pub at_node : (P : NodeView → Type 0) → P (node_of index inode) → P node
  at_node P h = subst P held_is h

  pub set_is : (after : NodeView) → node_of (set nodes place after) inode ≡ after
  set_is after = held_at (set nodes place after) inode place stands.place_is ∙ get_or-set_same nodes place after empty_node inside

  changed : (after : NodeView) (P : NodeView → NodeView → Type 0) → P node after → P (node_of index inode) (node_of (set nodes place after) inode)
  changed after P h = subst (λ held. P held (node_of (set nodes place after) inode)) (sym held_is) (subst (P node) (sym (set_is after)) h)

  kept : (after : NodeView) (other : ℕ) → other ≢ inode → node_of (set nodes place after) other ≡ node_of index other
  unfolding node_of
  kept after zero apart = refl
  kept after (suc k) apart =
      get_or-set_other nodes place k after empty_node (λ same. apart (let is = stands.place_is in omega (arith, is, same))) ∙ ap (λ list. get_or list k empty_node) stands.same

  elsewhere : (after : NodeView) → IsSameElsewhere inode index (set nodes place after)
  elsewhere after = record { inodes = length-set nodes place after ∙ ap length stands.same; others = kept after }

  pub changes : (after : NodeView) (Change : NodeView → NodeView → Type 0) → Change node after → ChangesNode inode index (set nodes place after) Change
  changes after Change h = record { node = changed after Change h; elsewhere = elsewhere after }

-- ---- nodes of which nothing is held

pub empty_everywhere : (nodes : List NodeView) (inode : ℕ) → All IsEmpty nodes → IsEmpty (node_of nodes inode)
unfolding node_of
empty_everywhere nodes zero empty = record { entries = refl; pages = refl }
empty_everywhere nodes (suc k) empty = elim (cases_lt k (length nodes)) [
  | inl inside ↦ empty k empty_node inside
  | inr past ↦ subst IsEmpty (sym (get_or_past nodes k empty_node past)) (record { entries = refl; pages = refl })
]
