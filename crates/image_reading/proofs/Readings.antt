-- An image reads as one tree, and has one room.
use Rattle.std.proofs.Common.{◌≡◌, ℕ, ◌≤◌, Bool, IsTrue, List, [], ◌∷◌, subst, Option, Some, None, refl, sym}
use Rattle.std.specs.Cmp.{nat_cmp_total}
use Rattle.std.specs.FinMap.{nat_cmp-IsAntisymmetric}
use Rattle.tree_model.specs.Table.{get}
use Rattle.tree_model.specs.Tree.{route_cmp_total, id_at, node_at}
use Rattle.tree_model.proofs.TableLaws.{route_cmp-IsAntisymmetric, same_table}
use Rattle.tree_model.specs.PathText.{Route}
use Rattle.layout.specs.Geometry.{inodes_of}
use Rattle.layout.specs.Fields.{slot_inode, slot_name}
use Rattle.image_reading.specs.Reading.{IsDirectory, slot_owner, IsLive, Names}
use Rattle.image_reading.specs.Laws.{ReachedLaw, OneTree, OneRoom}

-- two options that give the same values are one
same_option : {X : Type 0} (m n : Option X) → ((x : X) → m ≡ Some x → n ≡ Some x) → ((x : X) → n ≡ Some x → m ≡ Some x) → m ≡ n
same_option None None f g = refl
same_option None (Some y) f g = g y refl
same_option (Some x) n f g = sym (f x refl)

pub one_tree : OneTree
one_tree P I T U a b =
    let names : T.names ≡ U.names = same_table route_cmp_total route_cmp-IsAntisymmetric T.names U.names
    (λ q. same_option (id_at T q) (id_at U q) (λ i e. (b.names q i).1 ((a.names q i).0 e)) (λ i e. (a.names q i).1 ((b.names q i).0 e))) in
    let nodes : T.nodes ≡ U.nodes = same_table nat_cmp_total nat_cmp-IsAntisymmetric T.nodes U.nodes
    (λ i. same_option (node_at T i) (node_at U i) (λ x e. (b.nodes i x).1 ((a.nodes i x).0 e)) (λ x e. (a.nodes i x).1 ((b.nodes i x).0 e))) in
    λ t. record { names = names t; nodes = nodes t }

pub one_room : OneRoom
one_room P I r s a b = same_table nat_cmp_total nat_cmp-IsAntisymmetric r s
    (λ d. same_option (get r d) (get s d) (λ k e. (b d k).1 ((a d k).0 e)) (λ k e. (a d k).1 ((b d k).0 e)))

within : (P : ℕ) (I : List ℕ) (set : ℕ → Bool) → IsTrue (set 1)
    → ((s : ℕ) → IsTrue (set (slot_owner P I s)) → IsDirectory I (slot_owner P I s) → IsLive P I s → slot_inode P I s ≤ inodes_of P → IsTrue (set (slot_inode P I s)))
    → (p : Route) (i : ℕ) → Names P I p i → IsTrue (set i)
within P I set root step [] i e = subst (λ z. IsTrue (set z)) (sym e) root
within P I set root step (n ∷ p) i (s, before, leads) = subst (λ z. IsTrue (set z)) leads.inode
    (step s (within P I set root step p (slot_owner P I s) before) leads.directory leads.live (subst (λ z. z ≤ inodes_of P) (sym leads.inode) leads.in_range))

pub reached_law : ReachedLaw
reached_law P I = record {
  root = ([], refl);
  named = λ s r in_range. let (p, names) = r.owner in
      (slot_name P I s ∷ p, (s, names, record { directory = r.directory; live = r.live; name = refl; inode = refl; in_range = in_range }));
  least = λ set root step i (p, names). within P I set root step p i names;
}
