-- What a coherent image reads as is a state of a volume.
use Rattle.std.proofs.Common.{◌≡◌, ◌≢◌, ◌⊎◌, inl, inr, ℕ, ◌+◌, ◌*◌, ◌<◌, ◌≤◌, true, List, [], ◌∷◌, map, reverse, Option, Some, None, is_some, refl, sym, ap, subst, arith}
use Rattle.std.proofs.lemmas.List.{reverse-reverse, length-map}
use Rattle.layout.specs.Geometry.{inodes_of, data_pages_of, page_of_slot}
use Rattle.layout.specs.Fields.{page_owner}
use Rattle.tree_model.specs.PathText.{Route}
use Rattle.tree_model.specs.Tree.{Tree, File, Room, IsTree, IsRoom, id_at, is_root, parent, is_directory, name_count}
use Rattle.tree_model.specs.Capacity.{Fits, file_limit, inodes_in_use, pages_in_use}
use Rattle.tree_model.proofs.RoomLaws.{IsPageCount, IsRoom-from}
use Rattle.image_reading.specs.Counts.{IsIn, Count}
use Rattle.image_reading.specs.Reading.{IsDirectory, slot_owner, Names, Reached, IsRoomOf, Reads, HasRoom}
use Rattle.image_reading.specs.Repairs.{IsKept}
use Rattle.image_reading.specs.Soundness.{Rule, IsCoherent}
use Rattle.image_counts.specs.Entries.{IsSlotOf}
use Rattle.image_counts.specs.Laws.{StateLaw}
use Rattle.image_counts.proofs.Paths.{root_reached, one_path, in_range, reached_slot}
use Rattle.image_counts.proofs.Nodes.{node_reached, reached_node, has_sizes}
use Rattle.image_counts.proofs.Distinct.{fewer}
use Rattle.image_counts.proofs.Counting.{count_fewer, count_run}
use Rattle.image_counts.proofs.Inodes.{count_reached}
use Rattle.image_counts.proofs.Slots.{same_reverse, last_slot, above_name, count_names}
use Rattle.image_counts.proofs.Decided.{room_below}
use Rattle.image_counts.proofs.Pages.{room_at, count_kept}
use Rattle.image_counts.proofs.PageSlots.{count_slots_of}

in_map : (f : ℕ → ℕ) (x : ℕ) (xs : List ℕ) → IsIn x xs → IsIn (f x) (map f xs)
in_map f x [] here = here
in_map f x (y ∷ ys) here = elim here [ inl same ↦ inl (ap f same) | inr later ↦ inr (in_map f x ys later) ]

-- no more have R than have Q, where each of those is told by one of these
count_onto : (f : ℕ → ℕ) (Q R : ℕ → Type 0) (m n : ℕ) → ((x : ℕ) → R x → (s : ℕ) × Q s × (f s ≡ x)) → Count Q m → Count R n → n ≤ m
count_onto f Q R m n told (xs, dx, is, long) (ys, dy, are, longer) =
    let h = fewer ys (map f xs) dy each in
    let same = length-map xs f in
    omega (arith, h, same, long, longer)
  where
    each : (y : ℕ) → IsIn y ys → IsIn y (map f xs)
    each y here = let (s, q, at) = told y ((are y).0 here) in subst (λ z. IsIn z (map f xs)) at (in_map f s xs ((is s).1 q))

some_id : (o : Option ℕ) → is_some o ≡ true → (i : ℕ) × (o ≡ Some i)
some_id None e = cc
some_id (Some i) e = (i, refl)

below_root : (n : List ℕ) (p : Route) → reverse (n ∷ p) ≢ []
below_root n p empty = let clash : n ∷ p ≡ [] = same_reverse (n ∷ p) [] empty in cc

module _ (P : ℕ) (I : List ℕ) (T : Tree) (coherent : IsCoherent P I) (reads : Reads P I T) where
  -- ---- the tree

  directory_is : (d : ℕ) → Reached P I d → IsDirectory I d → is_directory T d ≡ true
  directory_is d reached directory = ((has_sizes P I T coherent reads).directories d).1 (reached, directory)

  is_directory_is : (d : ℕ) → is_directory T d ≡ true → Reached P I d × IsDirectory I d
  is_directory_is d is = ((has_sizes P I T coherent reads).directories d).0 is

  parents : (path : Route) → is_some (id_at T path) ≡ true → (is_root path ≡ true) ⊎ ((id : ℕ) × (id_at T (parent path) ≡ Some id) × (is_directory T id ≡ true))
  parents [] there = inl refl
  parents (n ∷ p) there =
      let (i, is) = some_id (id_at T (n ∷ p)) there in
      let (s, last) = last_slot P I T coherent reads (reverse (n ∷ p)) i ((reads.names (n ∷ p) i).0 is) (below_root n p) in
      let slot = reached_slot P I (reverse (n ∷ p)) i s last in
      inr (slot_owner P I s, above_name P I T coherent reads (n ∷ p) i s last, directory_is (slot_owner P I s) slot.owner slot.directory)

  pub is_tree : IsTree T
  is_tree = record {
    root = (reads.names [] 1).1 refl;
    root_directory = directory_is 1 (root_reached P I coherent) ((coherent Rule.root 1).directory refl);
    parents = parents;
    one_path = λ d is p q a b. same_reverse p q (one_path P I coherent (reverse p) (reverse q) d (is_directory_is d is).1 ((reads.names p d).0 a) ((reads.names q d).0 b));
    named = λ i there. (
        let (r, names) = node_reached P I T coherent reads i there in
        (reverse r, (reads.names (reverse r) i).1 (subst (λ z. Names P I z i) (sym (reverse-reverse r)) names)));
    present = λ p i is. reached_node P I T coherent reads i (reverse p, (reads.names p i).0 is);
  }

  -- ---- the room

  module _ (room : Room) (rooms : HasRoom P I room) where
    slot_room : (d s : ℕ) → Reached P I d → IsDirectory I d → IsSlotOf P I d s → IsRoomOf P I d (page_of_slot s)
    slot_room d s reached directory named = record { reached = reached; directory = directory; slot = (s, refl, named.1, named.0.live) }

    room_slot : (d j : ℕ) → IsRoomOf P I d j → (s : ℕ) × IsSlotOf P I d s × (page_of_slot s ≡ j)
    room_slot d j kept =
        let (s, at, owner, live) = kept.slot in
        (s, (record { owner = subst (Reached P I) (sym owner) kept.reached; directory = subst (IsDirectory I) (sym owner) kept.directory; live = live }, owner), at)

    page_count : (d k : ℕ) → Reached P I d → IsDirectory I d → Count (IsRoomOf P I d) k → IsPageCount (name_count T d) k
    page_count d k reached directory count =
        let names = count_names P I T coherent reads d in
        record {
          most = count_onto page_of_slot (IsSlotOf P I d) (IsRoomOf P I d) (name_count T d) k (room_slot d) names count;
          least = count_fewer (IsSlotOf P I d) (λ s. IsRoomOf P I d (page_of_slot s)) (name_count T d) (32 * k) (λ s named. slot_room d s reached directory named)
              names (count_slots_of (IsRoomOf P I d) k count);
        }

    pub is_room : IsRoom T room
    is_room = IsRoom-from T room
        (λ d k is. let (reached, directory, count) = (rooms d k).0 is in (directory_is d reached directory, page_count d k reached directory count))
        (λ d is. let (reached, directory) = is_directory_is d is in ap is_some (room_at P I room rooms d reached directory).1)

    -- ---- what the volume has

    kept_below : (j : ℕ) → IsKept P I j → (0 ≤ j) × (j < 0 + data_pages_of P)
    kept_below j kept = elim kept [
      | inl page ↦ let lt = page.in_range in (omega arith, omega (arith, lt))
      | inr page ↦ let lt = room_below P I (page_owner P I j) j page in (omega arith, omega (arith, lt))
    ]

    reached_below : (i : ℕ) → Reached P I i → (1 ≤ i) × (i < 1 + inodes_of P)
    reached_below i reached = let range = in_range P I coherent i reached in (range.0, omega (arith, range.1))

    pub fits : Fits P T room
    fits = record {
      ids = λ i there. in_range P I coherent i (node_reached P I T coherent reads i there);
      inodes = count_fewer (Reached P I) (λ i. (1 ≤ i) × (i < 1 + inodes_of P)) (inodes_in_use T) (inodes_of P) reached_below (count_reached P I T coherent reads) (count_run 1 (inodes_of P));
      pages = count_fewer (IsKept P I) (λ j. (0 ≤ j) × (j < 0 + data_pages_of P)) (pages_in_use T room) (data_pages_of P) kept_below (count_kept P I T room coherent reads rooms) (count_run 0 (data_pages_of P));
      sizes = λ i bytes is. (
          let (reached, node) = (reads.nodes i (File bytes)).0 is in
          let small = coherent Rule.sizes i reached node.0 in
          let size = node.1.size in
          subst (λ n. n ≤ file_limit) (sym size) small);
    }

pub state_law : StateLaw
state_law P I state coherent reads = record {
  tree = is_tree P I state.tree coherent reads.tree;
  room = is_room P I state.tree coherent reads.tree state.room reads.room;
  fits = fits P I state.tree coherent reads.tree state.room reads.room;
}
