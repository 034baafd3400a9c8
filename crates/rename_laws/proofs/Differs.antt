-- The words before a rename don't read as those after it.
use Rattle.std.proofs.Common.{◌≡◌, ◌≢◌, inl, inr, ℕ, Bool, true, false, ◌&&◌, List, [], ◌∷◌, ◌++◌, reverse, Some, None, is_some, unwrap_or, refl, sym, ap, subst, ◌∙◌, append_assoc, append-nil}
use Rattle.std.proofs.lemmas.List.{reverse-append}
use Rattle.layout.specs.Fields.{slot_inode, slot_name}
use Rattle.layout.specs.Name.{name_in_words}
use Rattle.tree_model.specs.PathText.{Route}
use Rattle.tree_model.specs.Step.{is_same_node, with_moved, without_path}
use Rattle.tree_model.specs.Tree.{Tree, IsTree, root_id, is_root, parent, rest_after, id_at, is_directory, is_number}
use Rattle.tree_model.proofs.Lookups.{rest_after-append, rest_after-some}
use Rattle.tree_model.proofs.TreeKept.{none_some, some_is, same_some, is_some_at}
use Rattle.tree_model.proofs.TreeLaws.{above, parent-below, not_root-below, there-front}
use Rattle.tree_model.proofs.TreeLess.{HasNoNames, HasNoNames-absent, less_kept}
use Rattle.tree_model.proofs.TreeMoved.{not_some, parent-append, came_from, clear}
use Rattle.image_reading.specs.Reading.{IsDirectory, slot_owner, Leads, Names, Reads}
use Rattle.image_reading.specs.Soundness.{IsCoherent}
use Rattle.image_counts.proofs.Paths.{one_inode, slot_leads, reached_slot}
use Rattle.image_laws.specs.Create.{CanName}
use Rattle.image_laws.proofs.CreateSteps.{parent_is, none_if}
use Rattle.image_laws.proofs.MoveTree.{below_root, reverse_below}
use Rattle.image_laws.proofs.RoomAfter.{not_same}
use Rattle.image_laws.proofs.Trees.{form_law, directory_is, is_directory-reached}
use Rattle.rename_laws.specs.Target.{Target, Vacant, Opened, Taken, CanReplace, CanTake, CanRename, name_of}
use Rattle.rename_laws.specs.End.{ArePaths, renamed, DifferenceLaw}

-- what the two paths name before
pub data TargetAt (T : Tree) (to : Route) (i : ℕ) : Type 0 where
  absent : id_at T to ≡ None → TargetAt T to i
  other : (r : ℕ) → id_at T to ≡ Some r → i ≢ r → TargetAt T to i

module _ (P : ℕ) (W : List ℕ) (pa pb from to : Route) (s x d : ℕ) (target : Target) (T : Tree)
    (can : CanRename P W pa pb s x d target) (paths : ArePaths P W pa pb from to s d target)
    (reads : Reads P W T) where
  coherent : IsCoherent P W
  coherent = can.tidy.coherent

  form : IsTree T
  form = form_law P W T coherent reads

  pub from_at : id_at T from ≡ Some (slot_inode P W s)
  from_at = (reads.names from (slot_inode P W s)).1 (subst (λ q. Names P W q (slot_inode P W s)) (sym paths.from_is)
      (s, can.source_path, slot_leads P W coherent s can.source))

  pub from_above : id_at T (parent from) ≡ Some (slot_owner P W s)
  from_above = (reads.names (parent from) (slot_owner P W s)).1
      (subst (λ q. Names P W q (slot_owner P W s)) (sym (parent_is from pa (slot_name P W s) paths.from_is)) can.source_path)

  pub to_above : id_at T (parent to) ≡ Some x
  to_above = (reads.names (parent to) x).1 (subst (λ q. Names P W q x) (sym (parent_is to pb (name_of P W d target) paths.to_is)) can.target_path)

  pub holds : is_directory T x ≡ true
  holds = is_directory-reached P W T coherent reads x (pb, can.target_path) can.target_directory

  to_names : (y : ℕ) → id_at T to ≡ Some y → Names P W (name_of P W d target ∷ pb) y
  to_names y there = subst (λ q. Names P W q y) paths.to_is ((reads.names to y).0 there)

  -- a new name names nothing before
  pub new_at : (name : List ℕ) → CanName P W pb x name → name_of P W d target ≡ name_in_words name → id_at T to ≡ None
  new_at name place is = none_if (id_at T to) (λ y there.
      let (t, b, leads) = to_names y there in
      place.new t (reached_slot P W (name_of P W d target ∷ pb) y t (b, leads))
      (one_inode P W coherent pb (slot_owner P W t) x b can.target_path) (leads.name ∙ is))

  -- one that is taken names what is replaced
  taken_names : (r : ℕ) → CanReplace P W s x d r → name_of P W d target ≡ slot_name P W d → Names P W (name_of P W d target ∷ pb) r
  taken_names r take is = subst (λ n. Names P W (n ∷ pb) r) (sym is) (
    d,
    subst (Names P W pb) (sym take.entry.1) can.target_path,
    subst (Leads P W d (slot_name P W d)) take.number (slot_leads P W coherent d take.entry.0),
  )

  pub taken_at : (r : ℕ) → CanReplace P W s x d r → name_of P W d target ≡ slot_name P W d → id_at T to ≡ Some r
  taken_at r take is = (reads.names to r).1 (subst (λ q. Names P W q r) (sym paths.to_is) (taken_names r take is))

  to_at_by : (now : Target) → CanTake P W pb s x d now → name_of P W d target ≡ name_of P W d now → TargetAt T to (slot_inode P W s)
  to_at_by (Vacant name) take is = TargetAt.absent (new_at name take.0 is)
  to_at_by (Opened j name) take is = TargetAt.absent (new_at name take.0 is)
  to_at_by (Taken r) take is = TargetAt.other r (taken_at r take is) (λ e. take.other (sym e))

  pub to_at : TargetAt T to (slot_inode P W s)
  to_at = to_at_by target can.target_slot refl

  -- ---- two nodes

  differ_by : TargetAt T to (slot_inode P W s) → is_same_node T from to ≡ false
  differ_by (TargetAt.absent none) = ap (λ o. is_number (id_at T from) (unwrap_or o root_id) && is_some o) none
      ∙ and_false (is_number (id_at T from) root_id)
    where
      and_false : (b : Bool) → b && false ≡ false
      and_false true = refl
      and_false false = refl
  differ_by (TargetAt.other r there ne) =
      ap (λ o. is_number (id_at T from) (unwrap_or o root_id) && is_some o) there ∙ ap (λ o. is_number o r && true) from_at
      ∙ ap (λ b. b && true) (not_same (slot_inode P W s) r ne)

  pub differ : is_same_node T from to ≡ false
  differ = differ_by to_at

  paths_differ : from ≢ to
  paths_differ same = by to_at
    where
      by : TargetAt T to (slot_inode P W s) → ⊥
      by (TargetAt.absent none) = none_some (slot_inode P W s) (sym none ∙ ap (id_at T) (sym same) ∙ from_at)
      by (TargetAt.other r there ne) = ne (same_some (slot_inode P W s) r (sym from_at ∙ ap (id_at T) same ∙ there))

  -- ---- no path goes on from the second

  empty_by : (now : Target) → CanTake P W pb s x d now → name_of P W d target ≡ name_of P W d now → HasNoNames T to
  empty_by (Vacant name) take is p there below same = HasNoNames-absent T form to (new_at name take.0 is) p there below same
  empty_by (Opened j name) take is p there below same = HasNoNames-absent T form to (new_at name take.0 is) p there below same
  empty_by (Taken r) take is p there below same =
      let (y, found) = some_is (id_at T p) there in
      let (t, b, leads) = subst (λ q. Names P W q y) (reverse_below p below) ((reads.names p y).0 found) in
      let here : Names P W (name_of P W d target ∷ pb) (slot_owner P W t) =
      subst (λ q. Names P W q (slot_owner P W t)) (ap reverse same ∙ paths.to_is) b in
      let owner : slot_owner P W t ≡ r = one_inode P W coherent (name_of P W d target ∷ pb) (slot_owner P W t) r here (taken_names r take is) in
      take.empty (subst (IsDirectory W) owner leads.directory) t
      (record { owner = (reverse (parent p), b); directory = leads.directory; live = leads.live }, owner)

  empty : HasNoNames T to
  empty = empty_by target can.target_slot refl

  from_below : is_root from ≡ false
  from_below = below_root from pa (slot_name P W s) paths.from_is

  to_below : is_root to ≡ false
  to_below = below_root to pb (name_of P W d target) paths.to_is

  -- ---- the second isn't below the first

  -- what has a path below it is a directory
  goes_on : (r : Route) → id_at T (from ++ r) ≡ Some x → is_directory T (slot_inode P W s) ≡ true
  goes_on [] there = ap (is_directory T) (same_some (slot_inode P W s) x (sym from_at ∙ ap (id_at T) (sym (append-nil from)) ∙ there)) ∙ holds
  goes_on (name ∷ rest) there =
      let child = there-front T form rest (from ++ name ∷ []) (ap (λ q. is_some (id_at T q)) (append_assoc from (name ∷ []) rest)
      ∙ is_some_at (id_at T (from ++ name ∷ rest)) x there) in
      let (y, found) = some_is (id_at T (from ++ name ∷ [])) child in
      let (directory, held, is) = above T form (from ++ name ∷ []) y found (not_root-below from name []) in
      ap (is_directory T) (same_some (slot_inode P W s) directory (sym from_at ∙ ap (id_at T) (sym (parent-below from name)) ∙ held)) ∙ is

  outside_at : (r : Route) → to ≡ from ++ r → ⊥
  outside_at [] e = paths_differ (sym (e ∙ append-nil from))
  outside_at (name ∷ rest) e =
      let up : parent to ≡ from ++ parent (name ∷ rest) = ap parent e ∙ parent-append from name rest in
      let directory = (directory_is P W T coherent reads (slot_inode P W s) (goes_on (parent (name ∷ rest)) (ap (id_at T) (sym up) ∙ to_above))).1 in
      can.outside directory (reverse (parent (name ∷ rest))) (
      sym (parent_is to pb (name_of P W d target) paths.to_is) ∙ ap reverse up ∙ reverse-append from (parent (name ∷ rest))
      ∙ ap (λ q. reverse (parent (name ∷ rest)) ++ q) paths.from_is)

  outside : rest_after from to ≡ None
  outside = not_some (rest_after from to) (λ r e. outside_at r (rest_after-some from to r e))

  -- ---- the first names nothing after

  pub differs : Reads P W (renamed T from to) → ⊥
  differs after =
      let kept = less_kept T form to to_below empty from paths_differ ∙ from_at in
      let clear_from = clear T form from to x from_below to_below to_above holds empty outside from
      (is_some_at (id_at (without_path T to) from) (slot_inode P W s) kept) in
      let now : id_at (with_moved (without_path T to) from to) from ≡ Some (slot_inode P W s) =
      (after.names from (slot_inode P W s)).1 ((reads.names from (slot_inode P W s)).0 from_at) in
      elim (came_from T form from to x from_below to_below to_above holds empty outside from (slot_inode P W s) now) [
        | inl (r, rest, old) ↦ none_some r (sym clear_from ∙ rest)
        | inr (none_to, none_from, old) ↦ none_some [] (sym none_from ∙ ap (rest_after from) (sym (append-nil from)) ∙ rest_after-append from [])
      ]

pub difference_law : DifferenceLaw
difference_law P W pa pb from to s x d target T can paths reads after = differs P W pa pb from to s x d target T can paths reads after
