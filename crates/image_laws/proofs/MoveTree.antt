-- The tree after a slot took the inode number of another.
use Rattle.std.proofs.Common.{◌≡◌, ◌≢◌, inl, inr, ℕ, true, false, List, [], ◌∷◌, ◌++◌, reverse, Some, None, refl, sym, ap, subst, ◌∙◌}
use Rattle.std.proofs.lemmas.List.{reverse-append, reverse-reverse}
use Rattle.layout.specs.Fields.{slot_inode, slot_name}
use Rattle.tree_model.specs.PathText.{Route}
use Rattle.tree_model.specs.Step.{without_path, with_moved, without_unnamed}
use Rattle.tree_model.specs.Tree.{Tree, IsTree, is_root, parent, last_name, rest_after, id_at, is_directory}
use Rattle.tree_model.proofs.Lookups.{rest_after-append, rest_after-some}
use Rattle.tree_model.proofs.TreeKept.{none_some, some_is, is_some_at}
use Rattle.tree_model.proofs.TreeLess.{HasNoNames, less_was, less_kept}
use Rattle.tree_model.proofs.TreeMoved.{not_some, came_from, at_to, at_self, clear}
use Rattle.image_reading.specs.Reading.{slot_owner, Names, Reached, Reads}
use Rattle.image_counts.proofs.Slots.{same_reverse}
use Rattle.image_laws.specs.Move.{CanMove, HasMoved, MoveTreeLaw, moved}
use Rattle.image_laws.proofs.CreateSteps.{parent_is}
use Rattle.image_laws.proofs.MoveSlot as slots
use Rattle.image_laws.proofs.OnlySlot.{GetsNumber}
use Rattle.image_laws.proofs.Pruned.{reads_pruned}
use Rattle.image_laws.proofs.Removes.{moves, move_law}
use Rattle.image_laws.proofs.Trees.{form_law, is_directory-reached, reverse_path}

-- a path that has a last name isn't the root
pub below_root : (path p : Route) (n : List ℕ) → reverse path ≡ n ∷ p → is_root path ≡ false
below_root [] p n e = cc
below_root (name ∷ names) p n e = refl

pub reverse_below : (p : Route) → is_root p ≡ false → reverse p ≡ last_name p ∷ reverse (parent p)
reverse_below [] e = cc
reverse_below (name ∷ names) e = reverse_path name names

module _ (P : ℕ) (I J : List ℕ) (pa pb : Route) (s d : ℕ) (c : CanMove P I pa pb s d) (a : GetsNumber P I J d (slot_inode P I s)) (after : HasMoved P I J (slot_name P I s ∷ pa) (slot_name P I d ∷ pb))
    (from to : Route) (from_is : reverse from ≡ slot_name P I s ∷ pa) (to_is : reverse to ≡ slot_name P I d ∷ pb) (T : Tree) (reads : Reads P I T) where
  form : IsTree T
  form = form_law P I T c.coherent reads

  from_below : is_root from ≡ false
  from_below = below_root from pa (slot_name P I s) from_is

  to_below : is_root to ≡ false
  to_below = below_root to pb (slot_name P I d) to_is

  held : id_at T (parent to) ≡ Some (slot_owner P I d)
  held = (reads.names (parent to) (slot_owner P I d)).1 (subst (λ q. Names P I q (slot_owner P I d)) (sym (parent_is to pb (slot_name P I d) to_is)) c.target_path)

  holds : is_directory T (slot_owner P I d) ≡ true
  holds = is_directory-reached P I T c.coherent reads (slot_owner P I d) (pb, c.target_path) c.target_directory

  -- no path goes on from the second
  empty : HasNoNames T to
  empty p there below same =
      let (x, found) = some_is (id_at T p) there in
      let named = subst (λ q. Names P I q x) (reverse_below p below) ((reads.names p x).0 found) in
      let (t, above, leads) = named in
      slots.none_below P I J pa pb s d c a t (reverse (parent p)) (ap reverse same ∙ to_is) above leads

  front : (p r : Route) → p ≡ from ++ r → reverse p ≡ reverse r ++ slot_name P I s ∷ pa
  front p r e = ap reverse e ∙ reverse-append from r ∙ ap (λ q. reverse r ++ q) from_is

  front_to : (p r : Route) → p ≡ to ++ r → reverse p ≡ reverse r ++ slot_name P I d ∷ pb
  front_to p r e = ap reverse e ∙ reverse-append to r ∙ ap (λ q. reverse r ++ q) to_is

  -- and the other way round
  from_front : (p r : Route) → reverse p ≡ r ++ slot_name P I s ∷ pa → p ≡ from ++ reverse r
  from_front p r e = same_reverse p (from ++ reverse r) (e ∙ sym (front (from ++ reverse r) (reverse r) refl ∙ ap (λ q. q ++ slot_name P I s ∷ pa) (reverse-reverse r)))

  to_front : (p r : Route) → reverse p ≡ r ++ slot_name P I d ∷ pb → p ≡ to ++ reverse r
  to_front p r e = same_reverse p (to ++ reverse r) (e ∙ sym (front_to (to ++ reverse r) (reverse r) refl ∙ ap (λ q. q ++ slot_name P I d ∷ pb) (reverse-reverse r)))

  outside : rest_after from to ≡ None
  outside = not_some (rest_after from to) (λ r e. slots.not_under P I J pa pb s d c a (reverse r) (sym to_is ∙ front to r (rest_after-some from to r e)))

  -- ---- the paths

  names_forth : (q : Route) (x : ℕ) → id_at (with_moved (without_path T to) from to) q ≡ Some x → Names P J (reverse q) x
  names_forth q x e = elim (came_from T form from to (slot_owner P I d) from_below to_below held holds empty outside q x e) [
    | inl (r, rest, old) ↦
        let was = (less_was T form to to_below empty (from ++ r) x old).1 in
        (after.names (reverse q) x).1 (inr (
          reverse r,
          front_to q r (rest_after-some to q r rest),
          subst (λ p. Names P I p x) (front (from ++ r) r refl) ((reads.names (from ++ r) x).0 was),
        ))
    | inr (none_to, none_from, old) ↦
        let was = (less_was T form to to_below empty q x old).1 in
        (after.names (reverse q) x).1 (inl (
          (reads.names q x).0 was,
          (λ (r, under). none_some (reverse r) (sym none_from ∙ ap (rest_after from) (from_front q r under) ∙ rest_after-append from (reverse r))),
          (λ same. none_some [] (sym none_to ∙ ap (rest_after to) (to_front q [] same) ∙ rest_after-append to [])),
        ))
  ]

  names_back : (q : Route) (x : ℕ) → Names P J (reverse q) x → id_at (with_moved (without_path T to) from to) q ≡ Some x
  names_back q x named = elim ((after.names (reverse q) x).0 named) [
    | inl (old, stays, other) ↦
        let differs : q ≢ to = λ same. other (ap reverse same ∙ to_is) in
        let kept = less_kept T form to to_below empty q differs ∙ (reads.names q x).1 old in
        let none_to = clear T form from to (slot_owner P I d) from_below to_below held holds empty outside q (is_some_at (id_at (without_path T to) q) x kept) in
        let none_from = not_some (rest_after from q) (λ r e. stays (reverse r, front q r (rest_after-some from q r e))) in
        at_self T form from to (slot_owner P I d) from_below to_below held holds empty outside q x none_to none_from kept
    | inr (r, is, old) ↦
        let differs : from ++ reverse r ≢ to = λ same. none_some (reverse r) (sym outside ∙ ap (rest_after from) (sym same) ∙ rest_after-append from (reverse r)) in
        let path = front (from ++ reverse r) (reverse r) refl ∙ ap (λ p. p ++ slot_name P I s ∷ pa) (reverse-reverse r) in
        let was = (reads.names (from ++ reverse r) x).1 (subst (λ p. Names P I p x) (sym path) old) in
        ap (id_at (with_moved (without_path T to) from to)) (to_front q r is)
        ∙ at_to T form from to (slot_owner P I d) from_below to_below held holds empty outside (reverse r) x (less_kept T form to to_below empty (from ++ reverse r) differs ∙ was)
  ]

  before : (x : ℕ) → Reached P J x → Reached P I x
  before x (q, named) = elim ((after.names q x).0 named) [
    | inl (old, stays, other) ↦ (q, old)
    | inr (r, is, old) ↦ (r ++ slot_name P I s ∷ pa, old)
  ]

  pub reads_moved : Reads P J (without_unnamed (with_moved (without_path T to) from to))
  reads_moved = reads_pruned P I J T (with_moved (without_path T to) from to) c.coherent reads (λ x. refl) (λ q x. (names_forth q x, names_back q x)) before after.nodes

pub move_tree_law : MoveTreeLaw
move_tree_law P I pa pb from to s d T c from_is to_is reads =
    reads_moved P I (moved P I s d) pa pb s d c (moves P I pa pb s d c) (move_law P I pa pb s d c) from to from_is to_is T reads
