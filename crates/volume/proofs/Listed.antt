-- The names of a directory, in the tree and in the index, beside calls that run.
use Rattle.std.proofs.Common.{◌≡◌, inl, inr, ℕ, zero, suc, ◌≤◌, Bool, true, false, cond, T, List, [], ◌∷◌, ◌++◌, length, map, filter, Option, Some, None, is_some, refl, sym, ap, subst, ◌∙◌, Ordering, Less, Equal, Greater, eq-eqb, eqb-true}
use Rattle.std.specs.Prelude.{slice_get}
use Rattle.std.proofs.lemmas.List.{length-map}
use Rattle.std.specs.Ordering.{ordering_then}
use Rattle.std.specs.Cmp.{tied_itself}
use Rattle.std.specs.Cmp.Lexicographic.{nat_list_cmp_total}
use Rattle.std.specs.FinMap.Entries.{where_key, below_all, is_sorted, is_sorted-where_key}
use Rattle.pm_trait.specs.DeviceView.{DeviceView}
use Rattle.layout.specs.Geometry.{inodes_of}
use Rattle.layout.specs.Fields.{slot_inode}
use Rattle.tree_model.specs.PathText.{Route}
use Rattle.tree_model.specs.Tree.{Tree, IsTree, route_cmp, is_root, parent, last_name, id_at, node_at, is_directory, is_in, is_number, entries_in}
use Rattle.tree_model.proofs.EntryLaws as laws
use Rattle.tree_model.proofs.NodeLaws.{directory_is}
use Rattle.tree_model.proofs.TreeLaws.{parent-below, not_root-below, is_in-at}
use Rattle.tree_model.specs.Step.{names_in}
use Rattle.tree_model.specs.Run.{State}
use Rattle.image_counts.proofs.Counting.{Among}
use Rattle.image_counts.proofs.Entries.{is_less}
use Rattle.image_counts.proofs.Nodes.{size_law}
use Rattle.image_counts.proofs.Paths.{entry_law}
use Rattle.image_counts.proofs.Slots.{all_names, some_names}
use Rattle.layout.specs.Name.{name_cmp}
use Rattle.volatile_index.specs.Entries.{IsSorted}
use Rattle.volatile_index.proofs.EntryLaws.{differs, turned, sorted_tail, less_than_contained}
use Rattle.volatile_index.specs.Index.{entries_of}
use Rattle.volatile_index.specs.declared.entry.Entry.{Entry}
use Rattle.image_reading.specs.Residue.{Residue}
use Rattle.volume.specs.Volume.{VolumeView}
use Rattle.volume.specs.Beside.{StandsBeside}
use Rattle.volume.proofs.WalkedBeside.{stands_tree, in_table}
use Rattle.volume.proofs.Statuses.{among_contained, contained_among}
use Rattle.volume.proofs.Ways.{whole_path}

-- ---- names in order

abbrev pub Ascends : List (List ℕ) → Type 0
Ascends [] = Unit {0}
Ascends (name ∷ names) = ((later : List ℕ) → Among later names → name_cmp name later ≡ Less) × Ascends names

not_itself : (name : List ℕ) → name_cmp name name ≡ Less → ⊥
not_itself name less = differs name name Less less (λ e. (cc)) refl

not_both_ways : (a b : List ℕ) → name_cmp a b ≡ Less → name_cmp b a ≡ Less → ⊥
not_both_ways a b less back = let greater = turned a b less in cc

first_name : (a b : List ℕ) (others others_too : List (List ℕ)) → Ascends (a ∷ others) → Ascends (b ∷ others_too) → Among a (b ∷ others_too) → Among b (a ∷ others) → a ≡ b
first_name a b others others_too ascends ascends_too here there = elim here [
  | inl is ↦ is
  | inr among ↦ elim there [
    | inl is ↦ sym is
    | inr too ↦ absurd (not_both_ways b a (ascends_too.0 a among) (ascends.0 b too))
  ]
]

other_names : (a b : List ℕ) (others others_too : List (List ℕ)) → Ascends (a ∷ others) → a ≡ b → ((name : List ℕ) → Among name (a ∷ others) → Among name (b ∷ others_too)) → (name : List ℕ) → Among name others → Among name others_too
other_names a b others others_too ascends same to name there = elim (to name (inr there)) [
  | inl is ↦ absurd (not_itself a (subst (λ (n : List ℕ). name_cmp a n ≡ Less) (is ∙ sym same) (ascends.0 name there)))
  | inr among ↦ among
]

same_names : (others others_too : List (List ℕ)) → Ascends others → Ascends others_too → ((name : List ℕ) → Among name others → Among name others_too) → ((name : List ℕ) → Among name others_too → Among name others) → others ≡ others_too
same_names [] [] ascends ascends_too to back = refl
same_names [] (b ∷ others_too) ascends ascends_too to back = absurd (back b (inl refl))
same_names (a ∷ others) [] ascends ascends_too to back = absurd (to a (inl refl))
same_names (a ∷ others) (b ∷ others_too) ascends ascends_too to back =
    let same = first_name a b others others_too ascends ascends_too (to a (inl refl)) (back b (inl refl)) in
    let rest = same_names others others_too ascends.1 ascends_too.1 (other_names a b others others_too ascends same to) (other_names b a others_too others ascends_too (sym same) back) in
    λ i. same i ∷ rest i

-- ---- a list of what is read of each element

pub among_map : {E : Type 0} (f : E → List ℕ) (es : List E) (e : E) → Among e es → Among (f e) (map f es)
among_map f [] e among = absurd among
among_map f (first ∷ es) e among = elim among [ inl is ↦ inl (ap f is) | inr later ↦ inr (among_map f es e later) ]

pub of_map : {E : Type 0} (f : E → List ℕ) (es : List E) (name : List ℕ) → Among name (map f es) → (e : E) × Among e es × (name ≡ f e)
of_map f [] name among = absurd among
of_map f (first ∷ es) name among = elim among [
  | inl is ↦ (first, inl refl, is)
  | inr later ↦ let (e, there, same) = of_map f es name later in (e, inr there, same)
]

-- ---- the names in the index ascend

abbrev name_of : Entry → List ℕ
name_of entry = entry.name

index_ascends : (entries : List Entry) → IsSorted entries → Ascends (map name_of entries)
index_ascends [] sorted = tt
index_ascends (first ∷ entries) sorted = (
  (λ later among.
      let (entry, there, same) = of_map name_of entries later among in
      subst (λ (n : List ℕ). name_cmp first.name n ≡ Less) (sym same) (less_than_contained first entries entry sorted (among_contained entry entries there))),
  index_ascends entries (sorted_tail first entries sorted),
)

-- ---- and those in the tree

abbrev pub last_of : Route × ℕ → List ℕ
last_of e = last_name e.0

then_equal : (r : Ordering) → ordering_then r Equal ≡ r
then_equal Less = refl
then_equal Equal = refl
then_equal Greater = refl

-- paths with one parent stand as their last names
same_front : (front : Route) (a b : List ℕ) → route_cmp (front ++ a ∷ []) (front ++ b ∷ []) ≡ name_cmp a b
same_front [] a b = then_equal (name_cmp a b)
same_front (name ∷ front) a b = ap (λ r. ordering_then r (route_cmp (front ++ a ∷ []) (front ++ b ∷ []))) (tied_itself nat_list_cmp_total name) ∙ same_front front a b

pub below_each : (path : Route) (es : List (Route × ℕ)) (e : Route × ℕ) → T (below_all route_cmp path es) → Among e es → route_cmp path e.0 ≡ Less
below_each path [] e below among = absurd among
below_each path (first ∷ es) e below among = elim among [
  | inl is ↦ ap (λ (f : Route × ℕ). route_cmp path f.0) is ∙ is_less (route_cmp path first.0) (laws.front _ _ below)
  | inr later ↦ below_each path es e (laws.back _ _ below) later
]

pub tree_ascends : (front : Route) (es : List (Route × ℕ)) → T (is_sorted route_cmp es) → ((e : Route × ℕ) → Among e es → e.0 ≡ front ++ last_name e.0 ∷ []) → Ascends (map last_of es)
tree_ascends front [] sorted inside = tt
tree_ascends front (first ∷ es) sorted inside = (
  (λ later among.
      let (e, there, same) = of_map last_of es later among in
      let less = below_each first.0 es e (laws.front _ _ sorted) there in
      let at_front = (λ i. route_cmp (sym (inside first (inl refl)) i) (sym (inside e (inr there)) i)) ∙ less in
      ap (name_cmp (last_name first.0)) same ∙ sym (same_front front (last_name first.0) (last_name e.0)) ∙ at_front),
  tree_ascends front es (laws.back _ _ sorted) (λ e there. inside e (inr there)),
)

-- ---- the entries of the tree in a directory

filter_is : (p : Route → Bool) (es : List (Route × ℕ)) → filter (λ e. p e.0) es ≡ where_key route_cmp p es
filter_is p [] = refl
filter_is p (e ∷ es) = ap (λ rest. cond (p e.0) (e ∷ rest) rest) (filter_is p es)

pub is_this : (o : Option ℕ) (d : ℕ) → is_number o d ≡ true → o ≡ Some d
is_this None d e = cc
is_this (Some other) d e = ap Some (eqb-true other d e)

pub last-below : (front : Route) (name : List ℕ) → last_name (front ++ name ∷ []) ≡ name
last-below [] name = refl
last-below (first ∷ []) name = refl
last-below (first ∷ next ∷ front) name = last-below (next ∷ front) name

pub below_root : (T : Tree) (d : ℕ) (path : Route) → is_in T d path ≡ true → is_root path ≡ false
below_root T d [] e = cc
below_root T d (name ∷ names) e = refl

directory_path : (T : Tree) → IsTree T → (d : ℕ) → is_directory T d ≡ true → (path : Route) × (id_at T path ≡ Some d)
directory_path T tree d directory = tree.named d (ap is_some (directory_is (node_at T d) directory))

module _ (volume : VolumeView) (device : DeviceView) (state : State) (residue : Residue) (stands : StandsBeside volume device state residue)
    (d : ℕ) (directory : is_directory state.tree d ≡ true) (sorted : IsSorted (entries_of volume.index d)) where
  tree : IsTree state.tree
  tree = stands_tree volume device state residue stands

  within : (1 ≤ d) × (d ≤ inodes_of volume.size)
  within = in_table volume device d (state, residue, stands) (((size_law volume.size device.words state stands.sound.coherent stands.reads).directories d).0 directory).0

  -- each entry of the tree in the directory stands below its path
  inside : (front : Route) → id_at state.tree front ≡ Some d → (e : Route × ℕ) → Among e (entries_in state.tree d) → e.0 ≡ front ++ last_name e.0 ∷ []
  inside front at_front e among =
      let is = (some_names state.tree (λ e. Unit {0}) state.tree.names.entries (λ e. is_in state.tree d e.0) (all_names state.tree)).are e among in
      let below = below_root state.tree d e.0 is.1.1 in
      let above = is_this (id_at state.tree (parent e.0)) d (sym (is_in-at state.tree d e.0 below) ∙ is.1.1) in
      let same = tree.one_path d directory (parent e.0) front above at_front in
      whole_path e.0 below ∙ ap (λ (q : Route). q ++ last_name e.0 ∷ []) same

  to_index : (front : Route) → id_at state.tree front ≡ Some d → (name : List ℕ) → Among name (names_in state.tree d) → Among name (map name_of (entries_of volume.index d))
  to_index front at_front name among =
      let (e, there, same) = of_map last_of (entries_in state.tree d) name among in
      let is = (some_names state.tree (λ e. Unit {0}) state.tree.names.entries (λ e. is_in state.tree d e.0) (all_names state.tree)).are e there in
      let path = inside front at_front e there ∙ ap (λ (n : List ℕ). front ++ n ∷ []) (sym same) in
      let (slot, entry, inode) = (entry_law volume.size device.words state stands.sound.coherent stands.reads front d e.1 name at_front).0 (ap (id_at state.tree) (sym path) ∙ is.0) in
      let known = (stands.knows.nodes.entries d slot name within.0 within.1).1 entry in
      among_map name_of (entries_of volume.index d) (record { name = name; slot = slot }) (contained_among (record { name = name; slot = slot }) (entries_of volume.index d) known)

  to_tree : (front : Route) → id_at state.tree front ≡ Some d → (name : List ℕ) → Among name (map name_of (entries_of volume.index d)) → Among name (names_in state.tree d)
  to_tree front at_front name among =
      let (entry, there, same) = of_map name_of (entries_of volume.index d) name among in
      let entered = (stands.knows.nodes.entries d entry.slot entry.name within.0 within.1).0 (among_contained entry (entries_of volume.index d) there) in
      let named = (entry_law volume.size device.words state stands.sound.coherent stands.reads front d (slot_inode volume.size device.words entry.slot) entry.name at_front).1 (entry.slot, entered, refl) in
      let in_it = is_in-at state.tree d (front ++ entry.name ∷ []) (not_root-below front entry.name []) ∙ ap (λ (q : Route). is_number (id_at state.tree q) d) (parent-below front entry.name) ∙ ap (λ o. is_number o d) at_front ∙ eq-eqb d d refl in
      let listed = (some_names state.tree (λ e. Unit {0}) state.tree.names.entries (λ e. is_in state.tree d e.0) (all_names state.tree)).all (front ++ entry.name ∷ []) (slot_inode volume.size device.words entry.slot) named (tt, in_it) in
      subst (λ (n : List ℕ). Among n (names_in state.tree d)) (last-below front entry.name ∙ sym same) (among_map last_of (entries_in state.tree d) (front ++ entry.name ∷ [], slot_inode volume.size device.words entry.slot) listed)

  pub names_are : map name_of (entries_of volume.index d) ≡ names_in state.tree d
  names_are =
      let (front, at_front) = directory_path state.tree tree d directory in
      let in_order = subst (λ (es : List (Route × ℕ)). T (is_sorted route_cmp es)) (sym (filter_is (is_in state.tree d) state.tree.names.entries))
      (is_sorted-where_key route_cmp (is_in state.tree d) state.tree.names.entries state.tree.names.sorted) in
      same_names (map name_of (entries_of volume.index d)) (names_in state.tree d) (index_ascends (entries_of volume.index d) sorted)
      (tree_ascends front (entries_in state.tree d) in_order (inside front at_front)) (to_tree front at_front) (to_index front at_front)

  pub name_count_is : length (entries_of volume.index d) ≡ length (names_in state.tree d)
  name_count_is = sym (length-map (entries_of volume.index d) name_of) ∙ ap length names_are

  pub nth_name : (k : ℕ) (entry : Entry) → slice_get (entries_of volume.index d) k ≡ Some entry → slice_get (names_in state.tree d) k ≡ Some entry.name
  nth_name k entry e = ap (λ (names : List (List ℕ)). slice_get names k) (sym names_are) ∙ get_map (entries_of volume.index d) k entry e
    where
      get_map : (entries : List Entry) (k : ℕ) (entry : Entry) → slice_get entries k ≡ Some entry → slice_get (map name_of entries) k ≡ Some entry.name
      get_map [] k entry e = cc
      get_map (first ∷ entries) zero entry e = let same : first ≡ entry = cc in ap (λ (f : Entry). Some f.name) same
      get_map (first ∷ entries) (suc k) entry e = get_map entries k entry e
