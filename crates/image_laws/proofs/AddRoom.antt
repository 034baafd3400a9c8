-- The room after a free slot took an inode number.
use Rattle.std.proofs.Common.{◌≡◌, ◌≢◌, ◌↔◌, ◌⊎◌, inl, inr, ℕ, ◌+◌, List, ◌∷◌, Some, cond, unwrap_or, refl, sym, ap, subst, ◌∙◌, arith}
use Rattle.std.proofs.lemmas.Bool.{cases_eq}
use Rattle.std.specs.Cmp.{nat_cmp_total}
use Rattle.layout.specs.Fields.{inode_kind, slot_inode, slot_name}
use Rattle.layout.specs.Geometry.{page_of_slot}
use Rattle.layout.specs.Kinds.{node_code}
use Rattle.layout.specs.declared.kinds.NodeKind.{NodeKind}
use Rattle.layout.specs.declared.kinds.NodeKind.TheVariants.{File, Directory}
use Rattle.tree_model.specs.PathText.{Route}
use Rattle.tree_model.specs.Table.{get, insert}
use Rattle.tree_model.specs.Tree.{Room, pages_in}
use Rattle.tree_model.proofs.TableLaws.{get-insert}
use Rattle.tree_model.proofs.TreeLaws.{same_id_itself, other_id}
use Rattle.tree_model.proofs.TreeKept.{same_some}
use Rattle.image_reading.specs.Counts.{Count}
use Rattle.image_reading.specs.Reading.{IsFile, IsDirectory, slot_owner, Reached, IsRoomOf, HasRoom}
use Rattle.image_reading.proofs.Counts.{count_none, count_one}
use Rattle.image_reading.proofs.Credits.{count_same, count_more}
use Rattle.image_counts.proofs.Decided.{room_counted}
use Rattle.image_laws.specs.Add.{CanAdd, HasRoomAdded, with_page, with_node}
use Rattle.image_laws.proofs.AddSlot.{live_forward, live_new, live_cases, leaf, reached_forward, reached_cases, names_new}
use Rattle.image_laws.proofs.OnlySlot.{OnlySlot, same_owner, kind_reached}
use Rattle.image_laws.proofs.Rooms.{IsEntry}

-- ---- a room after an insertion

pub get-here : (room : Room) (k v : ℕ) → get (insert nat_cmp_total room k v) k ≡ Some v
get-here room k v = get-insert nat_cmp_total room k v k ∙ ap (λ b. cond b (Some v) (get room k)) (same_id_itself k)

pub get-other : (room : Room) (k v x : ℕ) → x ≢ k → get (insert nat_cmp_total room k v) x ≡ get room x
get-other room k v x other = get-insert nat_cmp_total room k v x ∙ ap (λ b. cond b (Some v) (get room x)) (other_id x k other)

pub inserted : (P : ℕ) (J : List ℕ) (room : Room) (k v x n : ℕ) → (x ≢ k → (get room x ≡ Some n) ↔ IsEntry P J x n) → IsEntry P J k v
    → (get (insert nat_cmp_total room k v) x ≡ Some n) ↔ IsEntry P J x n
inserted P J room k v x n others here = elim (cases_eq x k) [
  | inl e ↦ subst (λ y. (get (insert nat_cmp_total room k v) y ≡ Some n) ↔ IsEntry P J y n) (sym e) (
    (λ h. subst (IsEntry P J k) (same_some v n (sym (get-here room k v) ∙ h)) here),
    (λ r. get-here room k v ∙ ap Some (count_one (IsRoomOf P J k) v n here.2 r.2)),
  )
  | inr other ↦ let old = others other in ((λ h. old.0 (sym (get-other room k v x other) ∙ h)), (λ r. get-other room k v x other ∙ old.1 r))
]

module _ (P : ℕ) (I J : List ℕ) (p : Route) (d s i : ℕ) (c : CanAdd P I p d s i) (only : OnlySlot P I J s) (stored : slot_inode P J s ≡ i) where
  -- ---- the pages of directories

  pub room_forward : (x j : ℕ) → IsRoomOf P I x j → IsRoomOf P J x j
  room_forward x j room =
      let (t, at, o, l) = room.slot in
      record {
        reached = reached_forward P I J p d s i c only stored x room.reached;
        directory = kind_reached only c.coherent x room.reached ∙ room.directory;
        slot = (t, at, same_owner only t l.held.in_range ∙ o, live_forward P I J p d s i c only stored t l);
      }

  pub room_cases : (x j : ℕ) → IsRoomOf P J x j → ((x ≡ d) × (j ≡ page_of_slot s)) ⊎ IsRoomOf P I x j
  room_cases x j room =
      let (t, at, o, l) = room.slot in
      let owner : slot_owner P I t ≡ x = sym (same_owner only t l.held.in_range) ∙ o in
      elim (live_cases P I J p d s i c only stored t l) [
        | inl e ↦ inl (sym owner ∙ ap (slot_owner P I) e ∙ c.slot.owner, sym at ∙ ap page_of_slot e)
        | inr live ↦ elim (reached_cases P I J p d s i c only stored x room.reached) [
          | inl old ↦ inr (record { reached = old; directory = sym (kind_reached only c.coherent x old) ∙ room.directory; slot = (t, at, owner, live) })
          | inr new ↦ absurd (leaf P I J p d s i c only stored t live.held (owner ∙ new) (sym (only.node_kind i c.most) ∙ ap (inode_kind J) (sym new) ∙ room.directory))
        ]
      ]

  pub room_here : IsRoomOf P J d (page_of_slot s)
  room_here = record {
    reached = reached_forward P I J p d s i c only stored d (p, c.slot.path);
    directory = kind_reached only c.coherent d (p, c.slot.path) ∙ c.slot.directory;
    slot = (s, refl, same_owner only s c.slot.held.in_range ∙ c.slot.owner, live_new P I J p d s i c only stored);
  }

  -- a directory with the same pages
  entry_same : (x n : ℕ) → (x ≡ i → IsFile I i) → (x ≡ d → IsRoomOf P I d (page_of_slot s)) → IsEntry P I x n ↔ IsEntry P J x n
  entry_same x n file there = (
    (λ (r, k, count). (reached_forward P I J p d s i c only stored x r, kind_reached only c.coherent x r ∙ k, count_same (IsRoomOf P I x) (IsRoomOf P J x) n pages count)),
    (λ (r, k, count).
        let old : Reached P I x = elim (reached_cases P I J p d s i c only stored x r) [
          | inl old ↦ old
          | inr new ↦ (let one = file new in let two = sym (only.node_kind i c.most) ∙ ap (inode_kind J) (sym new) ∙ k in absurd (omega (arith, one, two)))
        ] in
        (old, sym (kind_reached only c.coherent x old) ∙ k, count_same (IsRoomOf P J x) (IsRoomOf P I x) n (λ j. ((pages j).1, (pages j).0)) count)),
  )
    where
      pages : (j : ℕ) → IsRoomOf P I x j ↔ IsRoomOf P J x j
      pages j = (
        room_forward x j,
        (λ room. elim (room_cases x j room) [
          | inl new ↦ subst (λ y. IsRoomOf P I y j) (sym new.0) (subst (IsRoomOf P I d) (sym new.1) (there new.0))
          | inr old ↦ old
        ]),
      )

  -- the directory that gained a page
  entry_more : (n : ℕ) → (IsRoomOf P I d (page_of_slot s) → ⊥) → IsEntry P I d n → IsEntry P J d (n + 1)
  entry_more n none (r, k, count) = (
    reached_forward P I J p d s i c only stored d r,
    kind_reached only c.coherent d r ∙ k,
    count_more (IsRoomOf P I d) (IsRoomOf P J d) n (page_of_slot s) none (λ j. (
      (λ room. elim (room_cases d j room) [ inl new ↦ inl new.1 | inr old ↦ inr old ]),
      (λ h. elim h [ inl e ↦ subst (IsRoomOf P J d) (sym e) room_here | inr old ↦ room_forward d j old ]),
    )) count,
  )

  -- a new directory
  entry_new : IsDirectory I i → IsEntry P J i 0
  entry_new two = (
    (slot_name P I s ∷ p, names_new P I J p d s i c only stored),
    only.node_kind i c.most ∙ two,
    count_none (IsRoomOf P J i) (λ j room. elim (room_cases i j room) [
      | inl new ↦ no_parent new.0
      | inr old ↦ (let (t, at, o, l) = old.slot in leaf P I J p d s i c only stored t l.held o two)
    ]),
  )
    where
      no_parent : i ≡ d → ⊥
      no_parent e = elim c.node [
        | inl f ↦ f.unreached (subst (Reached P I) (sym e) (p, c.slot.path))
        | inr q ↦ let one = q.file in omega (arith, one, two)
      ]

  -- ---- the rooms

  with_node_has : (room : Room) (kind : NodeKind) → inode_kind I i ≡ node_code kind → ((x n : ℕ) → (x ≡ i → IsFile I i) → (get room x ≡ Some n) ↔ IsEntry P J x n) → HasRoom P J (with_node room i kind)
  with_node_has room Directory two others x n = inserted P J room i 0 x n (λ other. others x n (λ e. absurd (other e))) (entry_new two)
  with_node_has room File one others x n = others x n (λ _. one)

  old_page_room : (room : Room) (kind : NodeKind) → HasRoom P I room → inode_kind I i ≡ node_code kind → IsRoomOf P I d (page_of_slot s) → HasRoom P J (with_node room i kind)
  old_page_room room kind has is there = with_node_has room kind is (λ x n file.
      let same = entry_same x n file (λ _. there) in ((λ e. same.0 ((has x n).0 e)), (λ r. (has x n).1 (same.1 r))))

  directory_entry : (room : Room) → HasRoom P I room → IsEntry P I d (pages_in room d)
  directory_entry room has =
      let (n, count) = room_counted P I d (p, c.slot.path) c.slot.directory in
      let e = (has d n).1 ((p, c.slot.path), c.slot.directory, count) in
      ((p, c.slot.path), c.slot.directory, subst (Count (IsRoomOf P I d)) (sym (ap (λ o. unwrap_or o 0) e)) count)

  new_page_room : (room : Room) (kind : NodeKind) → HasRoom P I room → inode_kind I i ≡ node_code kind → (IsRoomOf P I d (page_of_slot s) → ⊥) → HasRoom P J (with_node (with_page room d) i kind)
  new_page_room room kind has is none = with_node_has (with_page room d) kind is (λ x n file.
      inserted P J room d (pages_in room d + 1) x n
      (λ other. let same = entry_same x n file (λ e. absurd (other e)) in ((λ e. same.0 ((has x n).0 e)), (λ r. (has x n).1 (same.1 r))))
      (entry_more (pages_in room d) none (directory_entry room has)))

  pub room_added : HasRoomAdded P I J d s i
  room_added = record { old_page = old_page_room; new_page = new_page_room }
