-- The paths along the slots of a coherent image.
use Rattle.std.proofs.Common.{◌≡◌, ◌⊎◌, inl, inr, ℕ, ◌<◌, ◌≤◌, List, [], ◌∷◌, ◌++◌, reverse, refl, sym, ap, subst, ◌∙◌, arith}
use Rattle.std.proofs.lemmas.List.{reverse-append}
use Rattle.layout.specs.Geometry.{inodes_of}
use Rattle.layout.proofs.GeometryLaws.{some_inodes}
use Rattle.layout.specs.Fields.{slot_inode, slot_name}
use Rattle.tree_model.specs.PathText.{Route}
use Rattle.tree_model.specs.Tree.{Tree}
use Rattle.image_reading.specs.Reading.{IsDirectory, slot_owner, Leads, Names, Reached, IsReachedSlot, Reads}
use Rattle.image_reading.specs.Soundness.{Rule, IsCoherent}
use Rattle.image_counts.specs.Laws.{HasEntries, EntryLaw}

pub three_cases : (a b : ℕ) → (a ≡ b) ⊎ ((a < b) ⊎ (b < a))
three_cases a b = grind arith

-- slot s is the last of the path, whose last name stands first, and names inode i
abbrev pub IsLastSlot : ℕ → List ℕ → Route → ℕ → ℕ → Type 0
IsLastSlot P I [] i s = ⊥
IsLastSlot P I (n ∷ p) i s = Names P I p (slot_owner P I s) × Leads P I s n i

pub reached_slot : (P : ℕ) (I : List ℕ) (r : Route) (i s : ℕ) → IsLastSlot P I r i s → IsReachedSlot P I s
reached_slot P I [] i s last = absurd last
reached_slot P I (n ∷ p) i s (names, leads) = record { owner = (p, names); directory = leads.directory; live = leads.live }

module _ (P : ℕ) (I : List ℕ) (coherent : IsCoherent P I) where
  -- ---- slots

  -- a name in a directory is one slot's
  pub same_slot : (s t : ℕ) → IsReachedSlot P I s → IsReachedSlot P I t → slot_owner P I s ≡ slot_owner P I t → slot_name P I s ≡ slot_name P I t → s ≡ t
  same_slot s t a b owners names = elim (three_cases s t) [
    | inl e ↦ e
    | inr h ↦ elim h [
      | inl lt ↦ absurd (coherent Rule.own_names t s lt a b owners names)
      | inr lt ↦ absurd (coherent Rule.own_names s t lt b a (sym owners) (sym names))
    ]
  ]

  -- a directory is named by one slot
  pub same_directory : (s t : ℕ) → IsReachedSlot P I s → IsReachedSlot P I t → IsDirectory I (slot_inode P I s) → slot_inode P I s ≡ slot_inode P I t → s ≡ t
  same_directory s t a b directory inodes = elim (three_cases s t) [
    | inl e ↦ e
    | inr h ↦ elim h [
      | inl lt ↦ absurd (coherent Rule.own_directories t s lt a b (subst (IsDirectory I) inodes directory) inodes)
      | inr lt ↦ absurd (coherent Rule.own_directories s t lt b a directory (sym inodes))
    ]
  ]

  pub slot_leads : (s : ℕ) → IsReachedSlot P I s → Leads P I s (slot_name P I s) (slot_inode P I s)
  slot_leads s r = record { directory = r.directory; live = r.live; name = refl; inode = refl; in_range = (coherent Rule.inodes s).most r }

  -- ---- paths

  pub one_inode : (p : Route) (i j : ℕ) → Names P I p i → Names P I p j → i ≡ j
  one_inode [] i j a b = a ∙ sym b
  one_inode (n ∷ p) i j (s, a, leads) (t, b, others) =
      let owners = one_inode p (slot_owner P I s) (slot_owner P I t) a b in
      let same = same_slot s t (reached_slot P I (n ∷ p) i s (a, leads)) (reached_slot P I (n ∷ p) j t (b, others)) owners (leads.name ∙ sym others.name) in
      sym leads.inode ∙ ap (slot_inode P I) same ∙ others.inode

  -- a path has one last slot
  pub one_slot : (r : Route) (i j s t : ℕ) → IsLastSlot P I r i s → IsLastSlot P I r j t → s ≡ t
  one_slot [] i j s t a b = absurd a
  one_slot (n ∷ p) i j s t (a, leads) (b, others) =
      let owners = one_inode p (slot_owner P I s) (slot_owner P I t) a b in
      same_slot s t (reached_slot P I (n ∷ p) i s (a, leads)) (reached_slot P I (n ∷ p) j t (b, others)) owners (leads.name ∙ sym others.name)

  pub not_root : (s : ℕ) → IsReachedSlot P I s → slot_inode P I s ≡ 1 → ⊥
  not_root s r e = let least = (coherent Rule.inodes s).least r in omega (arith, least, e)

  -- a directory has one path
  pub one_path : (p q : Route) (d : ℕ) → IsDirectory I d → Names P I p d → Names P I q d → p ≡ q
  one_path [] [] d directory a b = refl
  one_path [] (m ∷ q) d directory a (t, b, others) = absurd (not_root t (reached_slot P I (m ∷ q) d t (b, others)) (others.inode ∙ a))
  one_path (n ∷ p) [] d directory (s, a, leads) b = absurd (not_root s (reached_slot P I (n ∷ p) d s (a, leads)) (leads.inode ∙ b))
  one_path (n ∷ p) (m ∷ q) d directory (s, a, leads) (t, b, others) =
      let rs = reached_slot P I (n ∷ p) d s (a, leads) in
      let rt = reached_slot P I (m ∷ q) d t (b, others) in
      let same = same_directory s t rs rt (subst (IsDirectory I) (sym leads.inode) directory) (leads.inode ∙ sym others.inode) in
      let names : n ≡ m = sym leads.name ∙ ap (slot_name P I) same ∙ others.name in
      let above = one_path p q (slot_owner P I s) leads.directory a (subst (λ z. Names P I q (slot_owner P I z)) (sym same) b) in
      ap (λ z. z ∷ p) names ∙ ap (λ z. m ∷ z) above

  -- a slot is the last of one path, and names one inode
  pub one_last : (p q : Route) (i j s : ℕ) → IsLastSlot P I p i s → IsLastSlot P I q j s → (p ≡ q) × (i ≡ j)
  one_last [] q i j s a b = absurd a
  one_last (n ∷ p) [] i j s a b = absurd b
  one_last (n ∷ p) (m ∷ q) i j s (a, leads) (b, others) =
      let above = one_path p q (slot_owner P I s) leads.directory a b in
      let names : n ≡ m = sym leads.name ∙ others.name in
      (ap (λ z. z ∷ p) names ∙ ap (λ z. m ∷ z) above, sym leads.inode ∙ others.inode)

  -- ---- what is reached

  pub root_reached : Reached P I 1
  root_reached = ([], refl)

  pub inode_reached : (s : ℕ) → IsReachedSlot P I s → Reached P I (slot_inode P I s)
  inode_reached s r = let (p, names) = r.owner in (slot_name P I s ∷ p, (s, names, slot_leads s r))

  pub in_range : (i : ℕ) → Reached P I i → (1 ≤ i) × (i ≤ inodes_of P)
  in_range i ([], e) = let some = some_inodes P ((coherent Rule.head 0).size refl) in (omega (arith, e), omega (arith, e, some))
  in_range i (n ∷ p, (s, names, leads)) =
      let least = (coherent Rule.inodes s).least (reached_slot P I (n ∷ p) i s (names, leads)) in
      let same = leads.inode in
      (omega (arith, least, same), leads.in_range)

-- ---- the names of a tree

pub reverse_below : (p : Route) (name : List ℕ) → reverse (p ++ name ∷ []) ≡ name ∷ reverse p
reverse_below p name = reverse-append p (name ∷ [])

module _ (P : ℕ) (I : List ℕ) (T : Tree) (coherent : IsCoherent P I) (reads : Reads P I T) where
  pub has_entries : HasEntries P I T
  has_entries p d i name at = (
    (λ below.
        let (s, names, leads) = subst (λ r. Names P I r i) (reverse_below p name) ((reads.names (p ++ name ∷ []) i).0 below) in
        let owner = one_inode P I coherent (reverse p) (slot_owner P I s) d names ((reads.names p d).0 at) in
        (s, record { slot = reached_slot P I (name ∷ reverse p) i s (names, leads); owner = owner; name = leads.name }, leads.inode)),
    (λ (s, entry, inode).
        let names = subst (Names P I (reverse p)) (sym entry.owner) ((reads.names p d).0 at) in
        let leads : Leads P I s name i = record {
          directory = entry.slot.directory;
          live = entry.slot.live;
          name = entry.name;
          inode = inode;
          in_range = subst (λ z. z ≤ inodes_of P) inode ((coherent Rule.inodes s).most entry.slot);
        } in
        (reads.names (p ++ name ∷ []) i).1 (subst (λ r. Names P I r i) (sym (reverse_below p name)) (s, names, leads))),
  )

pub entry_law : EntryLaw
entry_law P I state coherent reads = has_entries P I state.tree coherent reads.tree
