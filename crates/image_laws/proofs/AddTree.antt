-- The tree after a free slot took an inode number.
use Rattle.std.proofs.Common.{◌≡◌, ◌≢◌, ◌↔◌, inl, inr, ℕ, true, false, cond, List, ◌∷◌, reverse, Some, refl, sym, ap, subst, ◌∙◌}
use Rattle.std.proofs.lemmas.Bool.{cases_eq}
use Rattle.layout.specs.Fields.{slot_name}
use Rattle.tree_model.specs.PathText.{Route}
use Rattle.tree_model.specs.Tree.{Node, Tree, id_at, node_at}
use Rattle.tree_model.specs.Step.{with_new, with_path}
use Rattle.tree_model.proofs.TreeLaws.{is_same, same_route, is_same_itself, id_at-with_new, id_at-with_path, node_at-with_new_here, node_at-with_new_other}
use Rattle.tree_model.proofs.TreeKept.{same_some}
use Rattle.image_reading.specs.Reading.{slot_owner, Names, Reached, IsNode, Reads}
use Rattle.image_counts.proofs.Paths.{one_inode}
use Rattle.image_counts.proofs.Slots.{same_reverse}
use Rattle.image_laws.specs.Add.{CanAdd, HasAdded, IsOldFile, ReadsAdded}
use Rattle.image_laws.proofs.Contents.{one_node}
use Rattle.image_laws.proofs.Paths.{slot_of, reached-le}

module _ (P : ℕ) (I J : List ℕ) (p path : Route) (d s i : ℕ) (can : CanAdd P I p d s i) (added : HasAdded P I J p s i) (is : reverse path ≡ slot_name P I s ∷ p) where
  -- the path is new
  absent : (x : ℕ) → Names P I (slot_name P I s ∷ p) x → ⊥
  absent x (t, above, leads) =
      can.new t (slot_of P I t p (slot_name P I s) x above leads) (one_inode P I can.coherent p (slot_owner P I t) d above can.slot.path) leads.name

  -- which number a path names after
  names_after : (T : Tree) (q : Route) (x : ℕ) → Reads P I T → (cond (is_same q path) (Some i) (id_at T q) ≡ Some x) ↔ Names P J (reverse q) x
  names_after T q x reads = elim (is_same q path) as (λ t. is_same q path ≡ t → (cond t (Some i) (id_at T q) ≡ Some x) ↔ Names P J (reverse q) x) [
    | true ↦ λ tie.
        let there : reverse q ≡ slot_name P I s ∷ p = ap reverse (same_route q path tie) ∙ is in (
          (λ e. (added.names (reverse q) x).1 (inr (there, sym (same_some i x e)))),
          (λ b. elim ((added.names (reverse q) x).0 b) [
            | inl old ↦ absurd (absent x (subst (λ z. Names P I z x) there old))
            | inr new ↦ ap Some (sym new.1)
          ]),
        )
    | false ↦ λ other. (
      (λ e. (added.names (reverse q) x).1 (inl ((reads.names q x).0 e))),
      (λ b. elim ((added.names (reverse q) x).0 b) [
        | inl old ↦ (reads.names q x).1 old
        | inr new ↦ absurd (clash (sym other ∙ is_same_itself q path (same_reverse q path (new.0 ∙ sym is))))
      ]),
    )
  ] refl
    where
      clash : false ≡ true → ⊥
      clash e = cc

  reached_after : (x : ℕ) → Reached P J x → x ≢ i → Reached P I x
  reached_after x (q, b) other = elim ((added.names q x).0 b) [ inl old ↦ (q, old) | inr new ↦ absurd (other new.1) ]

  reached_before : (x : ℕ) → Reached P I x → Reached P J x
  reached_before x (q, b) = (q, (added.names q x).1 (inl b))

  reached_new : Reached P J i
  reached_new = (slot_name P I s ∷ p, (added.names (slot_name P I s ∷ p) i).1 (inr (refl, refl)))

  -- the node of any other number
  other_node : (T : Tree) (x : ℕ) (z : Node) → Reads P I T → x ≢ i → (node_at T x ≡ Some z) ↔ (Reached P J x × IsNode P J x z)
  other_node T x z reads other = (
    (λ e. let (r, k) = (reads.nodes x z).0 e in (reached_before x r, (added.nodes x z (reached-le P I can.coherent x r)).0 k)),
    (λ (r, k). let old = reached_after x r other in (reads.nodes x z).1 (old, (added.nodes x z (reached-le P I can.coherent x old)).1 k)),
  )

  new_node_here : (T : Tree) (node z : Node) → IsNode P I i node → (node_at (with_new T path i node) i ≡ Some z) ↔ (Reached P J i × IsNode P J i z)
  new_node_here T node z is_node =
      let here : IsNode P J i node = (added.nodes i node can.most).0 is_node in (
        (λ e. (reached_new, subst (IsNode P J i) (same_some node z (sym (node_at-with_new_here T path i node) ∙ e)) here)),
        (λ (r, k). node_at-with_new_here T path i node ∙ ap Some (one_node P J added.coherent i node z r here k)),
      )

  new_node_reads : (T : Tree) (node : Node) → Reads P I T → IsNode P I i node → Reads P J (with_new T path i node)
  new_node_reads T node reads is_node = record {
    names = λ q x.
        let e = id_at-with_new T path i node q in
        let after = names_after T q x reads in
        ((λ h. after.0 (sym e ∙ h)), (λ b. e ∙ after.1 b));
    nodes = λ x z. elim (cases_eq x i) [
      | inl same ↦ subst (λ y. (node_at (with_new T path i node) y ≡ Some z) ↔ (Reached P J y × IsNode P J y z)) (sym same) (new_node_here T node z is_node)
      | inr other ↦
          let e = node_at-with_new_other T path i node x other in
          let after = other_node T x z reads other in
          ((λ h. after.0 (sym e ∙ h)), (λ b. e ∙ after.1 b))
    ];
  }

  old_file_node : (T : Tree) (x : ℕ) (z : Node) → Reads P I T → IsOldFile P I i → (node_at T x ≡ Some z) ↔ (Reached P J x × IsNode P J x z)
  old_file_node T x z reads file = (
    (λ e. let (r, k) = (reads.nodes x z).0 e in (reached_before x r, (added.nodes x z (reached-le P I can.coherent x r)).0 k)),
    (λ (r, k).
        let old : Reached P I x = elim (cases_eq x i) [ inl same ↦ subst (Reached P I) (sym same) file.reached | inr other ↦ reached_after x r other ] in
        (reads.nodes x z).1 (old, (added.nodes x z (reached-le P I can.coherent x old)).1 k)),
  )

  old_file_reads : (T : Tree) → Reads P I T → IsOldFile P I i → Reads P J (with_path T path i)
  old_file_reads T reads file = record {
    names = λ q x.
        let e = id_at-with_path T path i q in
        let after = names_after T q x reads in
        ((λ h. after.0 (sym e ∙ h)), (λ b. e ∙ after.1 b));
    nodes = λ x z. old_file_node T x z reads file;
  }

  pub reads_added : ReadsAdded P I J path i
  reads_added = record {
    new_node = λ T node reads _ is_node. new_node_reads T node reads is_node;
    old_file = old_file_reads;
  }
