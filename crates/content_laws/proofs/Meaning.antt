-- What images with one shape mean, by their nodes.
use Rattle.std.proofs.Common.{◌≡◌, ◌≢◌, ◌↔◌, inl, inr, ℕ, ◌<◌, List, Some, reverse, sym, ap, subst, ◌∙◌}
use Rattle.std.proofs.lemmas.Bool.{cases_eq}
use Rattle.layout.specs.Fields.{inode_size}
use Rattle.tree_model.specs.PathText.{Route}
use Rattle.tree_model.specs.Step.{with_bytes}
use Rattle.tree_model.specs.Tree.{Node, File, Tree, Room, node_at}
use Rattle.tree_model.proofs.TreeLaws.{node_at-with_bytes_here, node_at-with_bytes_other}
use Rattle.tree_model.proofs.TreeKept.{same_some}
use Rattle.image_reading.specs.Reading.{HasBytes, Names, Reached, IsPageOf, IsNode, IsRoomOf, Reads, HasRoom, pages_of_size}
use Rattle.image_reading.specs.Soundness.{IsCoherent}
use Rattle.image_reading.proofs.Credits.{count_same}
use Rattle.image_laws.specs.Frame.{SameInode, SameShape, SameMeaning}
use Rattle.image_laws.proofs.Contents.{one_node}

module _ (P : ℕ) (I J : List ℕ) (names : (q : Route) (x : ℕ) → Names P I q x ↔ Names P J q x) where
  pub forth : (x : ℕ) → Reached P I x → Reached P J x
  forth x (q, b) = (q, (names q x).0 b)

  pub back : (x : ℕ) → Reached P J x → Reached P I x
  back x (q, b) = (q, (names q x).1 b)

  -- a file has other bytes, and each other node is as it was
  module _ (T : Tree) (i : ℕ) (bytes : List ℕ) (coherent : IsCoherent P J) (reached : Reached P I i) (is : IsNode P J i (File bytes))
      (others : (x : ℕ) (y : Node) → Reached P I x → x ≢ i → IsNode P I x y ↔ IsNode P J x y) (reads : Reads P I T) where
    here : (y : Node) → (node_at (with_bytes T i bytes) i ≡ Some y) ↔ (Reached P J i × IsNode P J i y)
    here y = (
      (λ e. (forth i reached, subst (IsNode P J i) (same_some (File bytes) y (sym (node_at-with_bytes_here T i bytes) ∙ e)) is)),
      (λ (r, k). node_at-with_bytes_here T i bytes ∙ ap Some (one_node P J coherent i (File bytes) y r is k)),
    )

    other : (x : ℕ) (y : Node) → x ≢ i → (node_at (with_bytes T i bytes) x ≡ Some y) ↔ (Reached P J x × IsNode P J x y)
    other x y ne =
        let e = node_at-with_bytes_other T i bytes x ne in (
          (λ found. let (r, k) = (reads.nodes x y).0 (sym e ∙ found) in (forth x r, (others x y r ne).0 k)),
          (λ (r, k). let old = back x r in e ∙ (reads.nodes x y).1 (old, (others x y old ne).1 k)),
        )

    pub reads_with : Reads P J (with_bytes T i bytes)
    reads_with = record {
      names = λ path x. let old = reads.names path x in let same = names (reverse path) x in ((λ e. same.0 (old.0 e)), (λ b. old.1 (same.1 b)));
      nodes = λ x y. elim (cases_eq x i) [
        | inl e ↦ subst (λ w. (node_at (with_bytes T i bytes) w ≡ Some y) ↔ (Reached P J w × IsNode P J w y)) (sym e) (here y)
        | inr ne ↦ other x y ne
      ];
    }

module _ (P : ℕ) (I J : List ℕ) (h : SameShape P I J) where
  pub shape_room : (room : Room) → HasRoom P I room → HasRoom P J room
  shape_room room g d k = (
    (λ e. let (r, dir, count) = (g d k).0 e in (forth P I J h.names d r, (h.inodes d r).kind ∙ dir, count_same (IsRoomOf P I d) (IsRoomOf P J d) k (h.directories d) count)),
    (λ (r, dir, count).
        let m = back P I J h.names d r in
        (g d k).1 (m, sym (h.inodes d m).kind ∙ dir, count_same (IsRoomOf P J d) (IsRoomOf P I d) k (λ j. ((h.directories d j).1, (h.directories d j).0)) count)),
  )

  -- one shape, and one node each
  pub meaning_by_nodes : ((i : ℕ) (x : Node) → Reached P I i → IsNode P I i x ↔ IsNode P J i x) → SameMeaning P I J
  meaning_by_nodes nodes = record {
    coherent = h.coherent;
    names = h.names;
    nodes = nodes;
    room = shape_room;
    reads = λ t g. record {
      names = λ p i. (λ e. (h.names (reverse p) i).0 ((g.names p i).0 e), λ q. (g.names p i).1 ((h.names (reverse p) i).1 q));
      nodes = λ i x. (
        λ e. let (r, k) = (g.nodes i x).0 e in (forth P I J h.names i r, (nodes i x r).0 k),
        λ (r, k). let m = back P I J h.names i r in (g.nodes i x).1 (m, (nodes i x m).1 k),
      );
    };
  }

-- two that have the shape of one have one shape
module _ (P : ℕ) (I M N : List ℕ) (f : SameShape P I M) (g : SameShape P I N) where
  inode : (i : ℕ) → Reached P M i → SameInode M N i
  inode i r = let m = back P I M f.names i r in let x = f.inodes i m in let y = g.inodes i m in
      record { kind = y.kind ∙ sym x.kind; size = y.size ∙ sym x.size; own = y.own ∙ sym x.own }

  page : (i k j : ℕ) → Reached P M i → HasBytes M i → k < pages_of_size (inode_size M i) → IsPageOf P M i k j ↔ IsPageOf P N i k j
  page i k j r file lt =
      let m = back P I M f.names i r in
      let file' = sym (f.inodes i m).kind ∙ file in
      let lt' = subst (λ z. k < pages_of_size z) (f.inodes i m).size lt in
      let x = f.pages i k j m file' lt' in
      let y = g.pages i k j m file' lt' in
      ((λ p. y.0 (x.1 p)), (λ p. x.0 (y.1 p)))

  pub shape_between : SameShape P M N
  shape_between = record {
    coherent = g.coherent;
    names = λ q x. ((λ b. (g.names q x).0 ((f.names q x).1 b)), (λ b. (f.names q x).0 ((g.names q x).1 b)));
    inodes = inode;
    pages = page;
    directories = λ d j. ((λ b. (g.directories d j).0 ((f.directories d j).1 b)), (λ b. (f.directories d j).0 ((g.directories d j).1 b)));
  }
