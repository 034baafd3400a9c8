-- The laws of the word that commits a write past the size and a truncation.
use Rattle.std.proofs.Common.{◌≡◌, ◌≢◌, ◌↔◌, inl, inr, ℕ, ◌<◌, ◌≤◌, List, length, set, Some, refl, sym, ap, subst, ◌∙◌, arith}
use Rattle.std.proofs.lemmas.Bool.{cases_eq}
use Rattle.std.proofs.lemmas.List.{get_or-set_same}
use Rattle.layout.specs.Fields.{word, inode_size}
use Rattle.layout.specs.Geometry.{inodes_of, inode_word_of}
use Rattle.layout.proofs.GeometryLaws.{inode_word_within}
use Rattle.tree_model.specs.Step.{with_bytes}
use Rattle.tree_model.specs.Tree.{Node, File, Tree, node_at}
use Rattle.tree_model.proofs.TreeLaws.{node_at-with_bytes_here, node_at-with_bytes_other}
use Rattle.tree_model.proofs.TreeKept.{same_some}
use Rattle.image_reading.specs.Reading.{Reached, IsNode, Reads}
use Rattle.image_reading.specs.Soundness.{Rule}
use Rattle.image_laws.specs.Resize.{CanResize, IsStored, HasResized, ResizeLaw, ResizeTreeLaw, ResizeRoomLaw}
use Rattle.image_laws.proofs.Contents.{one_node}
use Rattle.image_laws.proofs.Paths.{reached_pos, reached-le}
use Rattle.image_laws.proofs.Resize.{only_size, Resizes, resized_coherent, resized_names, resized_node, resized_content, resized_room}

module _ (P : ℕ) (I : List ℕ) (i z : ℕ) (c : CanResize P I i z) where
  pos : 1 ≤ i
  pos = let h = reached_pos P I i c.reached in omega arith

  most : i ≤ inodes_of P
  most = reached-le P I c.coherent i c.reached

  inside : inode_word_of i 2 < length I
  inside = let h = inode_word_within P i 2 ((c.coherent Rule.head 0).size refl) pos most (omega arith) in let e = (c.coherent Rule.head 0).whole refl in omega (arith, h, e)

  resizes : Resizes P I (set I (inode_word_of i 2) z) i z
  unfolding inode_size word
  resizes = record {
    only = only_size P I i z pos most;
    reached = c.reached;
    file = c.file;
    size = get_or-set_same I (inode_word_of i 2) z 0 inside;
    small = c.small;
    full = c.full;
    one = c.one;
  }

  pub resized : HasResized P I (set I (inode_word_of i 2) z) i z
  resized = record {
    coherent = resized_coherent P I (set I (inode_word_of i 2) z) i z c.coherent resizes;
    names = resized_names P I (set I (inode_word_of i 2) z) i z c.coherent resizes;
    others = resized_node P I (set I (inode_word_of i 2) z) i z c.coherent resizes;
    content = λ bytes stored. (resizes.only.node_kind i ∙ c.file, resized_content P I (set I (inode_word_of i 2) z) i z c.coherent resizes bytes stored);
  }

-- ---- as a tree

module _ (P : ℕ) (I J : List ℕ) (i z : ℕ) (can : CanResize P I i z) (after : HasResized P I J i z) (T : Tree) (bytes : List ℕ) (stored : IsStored P I i z bytes) (reads : Reads P I T) where
  forth : (x : ℕ) → Reached P I x → Reached P J x
  forth x (q, b) = (q, (after.names q x).0 b)

  back : (x : ℕ) → Reached P J x → Reached P I x
  back x (q, b) = (q, (after.names q x).1 b)

  here : (y : Node) → (node_at (with_bytes T i bytes) i ≡ Some y) ↔ (Reached P J i × IsNode P J i y)
  here y =
      let is = after.content bytes stored in (
        (λ e. (forth i can.reached, subst (IsNode P J i) (same_some (File bytes) y (sym (node_at-with_bytes_here T i bytes) ∙ e)) is)),
        (λ (r, k). node_at-with_bytes_here T i bytes ∙ ap Some (one_node P J after.coherent i (File bytes) y r is k)),
      )

  other : (x : ℕ) (y : Node) → x ≢ i → (node_at (with_bytes T i bytes) x ≡ Some y) ↔ (Reached P J x × IsNode P J x y)
  other x y ne =
      let e = node_at-with_bytes_other T i bytes x ne in (
        (λ found. let (r, k) = (reads.nodes x y).0 (sym e ∙ found) in (forth x r, (after.others x y (let h = reached_pos P I x r in omega (arith, h)) ne).0 k)),
        (λ (r, k). let old = back x r in e ∙ (reads.nodes x y).1 (old, (after.others x y (let h = reached_pos P I x old in omega (arith, h)) ne).1 k)),
      )

  reads_resized : Reads P J (with_bytes T i bytes)
  reads_resized = record {
    names = λ path x. let old = reads.names path x in let same = after.names _ x in ((λ e. same.0 (old.0 e)), (λ b. old.1 (same.1 b)));
    nodes = λ x y. elim (cases_eq x i) [
      | inl e ↦ subst (λ w. (node_at (with_bytes T i bytes) w ≡ Some y) ↔ (Reached P J w × IsNode P J w y)) (sym e) (here y)
      | inr ne ↦ other x y ne
    ];
  }

pub resize_law : ResizeLaw
resize_law P I i z c = resized P I i z c

pub resize_tree_law : ResizeTreeLaw
resize_tree_law P I i z T bytes c stored reads = reads_resized P I (set I (inode_word_of i 2) z) i z c (resized P I i z c) T bytes stored reads

pub resize_room_law : ResizeRoomLaw
resize_room_law P I i z room c has = resized_room P I (set I (inode_word_of i 2) z) i z c.coherent (resizes P I i z c) room has
