-- What the plan of a rename says of the words: it is a move of the laws, with the counts that rise and fall.
use Rattle.std.proofs.Common.{◌≡◌, ◌≢◌, inl, inr, ℕ, ◌+◌, ◌*◌, Bool, true, false, not, ◌&&◌, ◌||◌, ◌==◌, if◌then◌else◌, List, [], ◌∷◌, ◌++◌, length, reverse, Option, Some, None, is_some, is_none, refl, sym, ap, subst, ◌∙◌, arith, append_assoc}
use Rattle.std.proofs.lemmas.Bool.{false≢true}
use Rattle.std.proofs.lemmas.Bool.Decides.{nat_tests}
use Rattle.std.proofs.lemmas.List.{reverse-append, reverse-reverse}
use Rattle.layout.specs.Geometry.{page_of_slot}
use Rattle.layout.proofs.GeometryLaws.{page_of_entry}
use Rattle.layout.specs.Fields.{inode_kind, slot_inode, slot_name}
use Rattle.tree_model.specs.PathText.{Route}
use Rattle.tree_model.specs.Tree.{id_at, is_directory, parent, last_name, rest_after}
use Rattle.tree_model.specs.Capacity.{untaken}
use Rattle.tree_model.specs.Step.{is_same_node, least_free_id, tree_after, outcome_of, step}
use Rattle.tree_model.specs.Run.{State}
use Rattle.tree_model.specs.Accepted.{MayReplace, MayMove, MayRename}
use Rattle.tree_model.specs.declared.command.Command.TheVariants.{Rename}
use Rattle.tree_model.specs.declared.reply.Refusal.{Refusal}
use Rattle.tree_model.proofs.AcceptedLaws.{Accepted-from_row}
use Rattle.tree_model.proofs.Lookups.{rest_after-append}
use Rattle.image_reading.specs.Reading.{HasBytes, IsDirectory, slot_owner, Leads, Names, Reached}
use Rattle.image_reading.specs.Soundness.{Rule, IsCoherent}
use Rattle.image_reading.proofs.Tidied.{tidied}
use Rattle.image_counts.specs.Entries.{IsSlotOf}
use Rattle.image_counts.proofs.Nodes.{size_law}
use Rattle.image_counts.proofs.Paths as paths
use Rattle.image_counts.proofs.Slots.{absence_law}
use Rattle.image_counts.proofs.States.{state_law}
use Rattle.rename_laws.specs.Target.{CanReplace, CanTake, CanRename, Holds, IsDirectoryMoved, IsRising, IsFalling, name_of}
use Rattle.rename_laws.specs.End.{ArePaths, FillsItsPages, renamed}
use Rattle.volume.specs.Moves.{is_directory_kind, inode_of_loss, rising_of, falling_of}
use Rattle.volume.specs.Planned.{IsMovingFor, IsTargetOf, IsPlace, IsNothingOr}
use Rattle.volume.specs.declared.plan.Action.{Action}
use Rattle.volume.specs.declared.plan.Action.TheVariants.{Move, KeepNames}
use Rattle.volume.specs.declared.plan.Loss.{Loss}
use Rattle.volume.specs.declared.plan.Moving.{Moving}
use Rattle.volume.proofs.PlanActions.{IsOfMove, planned_moving}
use Rattle.volume.proofs.Ways.{whole_path}
use Rattle.entry_steps.proofs.Places
use Rattle.entry_steps.proofs.Places.{IsNamingAt}
use Rattle.rename_ptr.specs.Steps.{target_by, target_of}
use Rattle.rename_ptr.specs.Renaming.{IsMovingAt}

some_one : (x y : ℕ) → ◌≡◌ {A = Option ℕ} (Some x) (Some y) → x ≡ y
some_one x y e = cc

none_some : (x : ℕ) (o : Option ℕ) → o ≡ None → o ≡ Some x → ⊥
none_some x o none some = let clash : ◌≡◌ {A = Option ℕ} None (Some x) = sym none ∙ some in cc

same_route : (a b c d : Route) → Rename a b ≡ Rename c d → (a ≡ c) × (b ≡ d)
same_route a b c d e = (cc, cc)

equal_from : (n m : ℕ) → n == m ≡ true → n ≡ m
equal_from n m e = grind (arith, nat_tests)

apart_from : (n m : ℕ) → n == m ≡ false → n ≢ m
apart_from n m e = grind (arith, nat_tests)

module _ {P : ℕ} {W : List ℕ} {state : State} (from to : Route) {moving : Moving} (at : IsMovingAt P W state from to moving) where
  pub coherent : IsCoherent P W
  coherent = (tidied at.tidy).coherent

  pub whole : length W ≡ 512 * P
  whole = (coherent Rule.head 0).whole refl

  pub row : MayRename (untaken P) state.tree state.room from to
  row = Accepted-from_row (untaken P) state.tree state.room (Rename from to) (state_law P W state coherent at.reads).tree at.planned.accepted

  of_move : IsOfMove P W state (Rename from to) moving
  of_move = planned_moving P W state (Rename from to) moving at.planned.plan_is

  pub for_move : IsMovingFor P W state from to moving
  for_move =
      let (a, b, is, for) = of_move in
      let (same_from, same_to) = same_route from to a b is in
      subst (λ (r : Route). IsMovingFor P W state r to moving) (sym same_from) (subst (λ (r : Route). IsMovingFor P W state a r moving) (sym same_to) for)

  pub two_nodes : is_same_node state.tree from to ≡ true → ⊥
  two_nodes same =
      let is : IsNothingOr true KeepNames (λ action. (m : Moving) × (action ≡ Move m) × IsMovingFor P W state from to m) (Move moving)
      = subst (λ (b : Bool). IsNothingOr b KeepNames (λ action. (m : Moving) × (action ≡ Move m) × IsMovingFor P W state from to m) (Move moving)) same at.planned.plan_is in
      let clash : ◌≡◌ {A = Action} (Move moving) KeepNames = is in
      cc

  pub moves : MayMove (untaken P) state.tree state.room from to row.source.id
  moves = elim row.moves [ inl same ↦ absurd (two_nodes same) | inr may ↦ may ]

  -- the tree after it
  pub tree_after_is : tree_after (least_free_id state.tree) state.tree (Rename from to) ≡ renamed state.tree from to
  tree_after_is = ap (λ (same : Bool). if same then state.tree else renamed state.tree from to) moves.differ

  pub tree_is : (step P state.tree state.room (Rename from to)).tree ≡ renamed state.tree from to
  tree_is =
      ap (λ (o : Option Refusal). (outcome_of o (untaken P) (least_free_id state.tree) state.tree state.room (Rename from to)).tree) at.planned.accepted
      ∙ tree_after_is

  -- ---- the source

  abbrev pub from_way : Route
  from_way = reverse (parent from)

  abbrev pub to_way : Route
  to_way = reverse (parent to)

  pub from_named : Names P W from_way moving.from_directory
  from_named = (at.reads.tree.names (parent from) moving.from_directory).0 for_move.source.directory_is

  pub source_owner : slot_owner P W moving.from_slot ≡ moving.from_directory
  source_owner = for_move.source.slot_is.owner

  source_path : Names P W from_way (slot_owner P W moving.from_slot)
  source_path = subst (λ (x : ℕ). Names P W from_way x) (sym source_owner) from_named

  pub from_reversed : reverse from ≡ slot_name P W moving.from_slot ∷ from_way
  from_reversed =
      ap reverse (whole_path from row.old_holder.below) ∙ reverse-append (parent from) (last_name from ∷ [])
      ∙ ap (λ (n : List ℕ). n ∷ from_way) (sym (for_move.source.slot_is.name ∙ for_move.source.name_is))

  to_reversed : reverse to ≡ last_name to ∷ to_way
  to_reversed = ap reverse (whole_path to row.new_holder.below) ∙ reverse-append (parent to) (last_name to ∷ [])

  pub source_inode : slot_inode P W moving.from_slot ≡ moving.inode
  source_inode =
      let names : Names P W (slot_name P W moving.from_slot ∷ from_way) (slot_inode P W moving.from_slot)
      = (moving.from_slot, source_path, paths.slot_leads P W coherent moving.from_slot for_move.source.slot_is.slot) in
      let there = (at.reads.tree.names from (slot_inode P W moving.from_slot)).1 (subst (λ (r : Route). Names P W r (slot_inode P W moving.from_slot)) (sym from_reversed) names) in
      some_one (slot_inode P W moving.from_slot) moving.inode (sym there ∙ for_move.source.inode_is)

  pub moved_is : row.source.id ≡ moving.inode
  moved_is = some_one row.source.id moving.inode (sym row.source.named ∙ for_move.source.inode_is)

  -- ---- the directory of the new name

  new_directory : (replaced : Option Loss) → IsTargetOf P W state from to moving replaced → id_at state.tree (parent to) ≡ Some moving.to_directory
  new_directory None target = target.1.directory_is
  new_directory (Some loss) target = target.0.directory_is

  pub to_directory_is : id_at state.tree (parent to) ≡ Some moving.to_directory
  to_directory_is = new_directory moving.replaced for_move.target

  pub to_named : Names P W to_way moving.to_directory
  to_named = (at.reads.tree.names (parent to) moving.to_directory).0 to_directory_is

  pub to_holds : Reached P W moving.to_directory × IsDirectory W moving.to_directory
  to_holds =
      let same = some_one row.new_holder.directory moving.to_directory (sym row.new_holder.held ∙ to_directory_is) in
      ((size_law P W state coherent at.reads).directories moving.to_directory).0 (subst (λ (x : ℕ). is_directory state.tree x ≡ true) same row.new_holder.holds)

  -- a path below the first would begin with it
  pub outside : (r : Route) → to_way ≢ r ++ slot_name P W moving.from_slot ∷ from_way
  outside r same =
      let up : parent to ≡ from ++ reverse r
      = sym (reverse-reverse (parent to)) ∙ ap reverse (same ∙ ap (λ (q : Route). r ++ q) (sym from_reversed)) ∙ reverse-append r (reverse from) ∙ ap (λ (q : Route). q ++ reverse r) (reverse-reverse from) in
      let down : to ≡ from ++ (reverse r ++ last_name to ∷ [])
      = whole_path to row.new_holder.below ∙ ap (λ (q : Route). q ++ last_name to ∷ []) up ∙ append_assoc from (reverse r) (last_name to ∷ []) in
      let found = ap (λ (q : Route). rest_after from q) down ∙ rest_after-append from (reverse r ++ last_name to ∷ []) in
      let clash : ◌≡◌ {A = Option Route} None (Some (reverse r ++ last_name to ∷ [])) = sym moves.outside ∙ found in
      cc

  -- ---- a new name

  pub naming : moving.replaced ≡ None → IsNamingAt P W state to moving.to_directory moving.to_name moving.to_slot moving.new_page
  naming none = at_place (subst (IsTargetOf P W state from to moving) none for_move.target)
    where
      at_place : IsTargetOf P W state from to moving None → IsNamingAt P W state to moving.to_directory moving.to_name moving.to_slot moving.new_page
      at_place target = record {
        tidy = at.tidy;
        reads = at.reads;
        may = elim moves.target [ inl may ↦ may | inr replaces ↦ absurd (none_some replaces.target.id (id_at state.tree to) target.0 replaces.target.named) ];
        new_name = target.1;
      }

  pub page_here : (page : ℕ) → IsPlace P W moving.to_directory moving.to_slot (Some page) → page_of_slot moving.to_slot ≡ page
  page_here page place =
      let plain : moving.to_slot ≡ 32 * page + 0 = (let is = place.slot_is in omega (arith, is)) in
      ap (λ (s : ℕ). page_of_slot s) plain ∙ page_of_entry page 0 (omega arith)

  -- ---- kinds

  pub source_reached : Reached P W moving.inode
  source_reached = (
    slot_name P W moving.from_slot ∷ from_way,
    (
      moving.from_slot,
      source_path,
      subst (λ (i : ℕ). Leads P W moving.from_slot (slot_name P W moving.from_slot) i) source_inode (paths.slot_leads P W coherent moving.from_slot for_move.source.slot_is.slot),
    ),
  )

  pub is_dir : (i : ℕ) → Reached P W i → IsDirectory W i → is_directory state.tree i ≡ true
  is_dir i reached two = ((size_law P W state coherent at.reads).directories i).1 (reached, two)

  pub dir_is : (i : ℕ) → is_directory state.tree i ≡ true → IsDirectory W i
  dir_is i is = (((size_law P W state coherent at.reads).directories i).0 is).1

  pub file_is : (i : ℕ) → Reached P W i → is_directory state.tree i ≡ false → HasBytes W i
  file_is i reached isnt = elim ((coherent Rule.kinds i).kind reached) [ inl bytes ↦ bytes | inr two ↦ absurd (false≢true (sym isnt ∙ is_dir i reached two)) ]

  source_dir : is_directory_kind moving.kind ≡ true → IsDirectory W (slot_inode P W moving.from_slot)
  source_dir is = subst (λ (i : ℕ). IsDirectory W i) (sym source_inode) (dir_is moving.inode (for_move.kind_is ∙ is))

  not_dir : is_directory_kind moving.kind ≡ false → IsDirectory W (slot_inode P W moving.from_slot) → ⊥
  not_dir isnt two = false≢true (sym isnt ∙ sym for_move.kind_is ∙ is_dir moving.inode source_reached (subst (λ (i : ℕ). IsDirectory W i) source_inode two))

  -- ---- a name that is replaced

  module _ (loss : Loss) (target : IsTargetOf P W state from to moving (Some loss)) where
    replaces : MayReplace state.tree from to row.source.id
    replaces = elim moves.target [ inl may ↦ absurd (none_some loss.inode (id_at state.tree to) may.absent target.0.inode_is) | inr may ↦ may ]

    replaced_is : replaces.target.id ≡ loss.inode
    replaced_is = some_one replaces.target.id loss.inode (sym replaces.target.named ∙ target.0.inode_is)

    target_owner : slot_owner P W moving.to_slot ≡ moving.to_directory
    target_owner = target.0.slot_is.owner

    pub target_inode : slot_inode P W moving.to_slot ≡ loss.inode
    target_inode =
        let name : slot_name P W moving.to_slot ≡ last_name to = target.0.slot_is.name ∙ target.0.name_is in
        let names : Names P W (slot_name P W moving.to_slot ∷ to_way) (slot_inode P W moving.to_slot)
        = (moving.to_slot, subst (λ (x : ℕ). Names P W to_way x) (sym target_owner) to_named, paths.slot_leads P W coherent moving.to_slot target.0.slot_is.slot) in
        let way : reverse to ≡ slot_name P W moving.to_slot ∷ to_way = to_reversed ∙ ap (λ (n : List ℕ). n ∷ to_way) (sym name) in
        let there = (at.reads.tree.names to (slot_inode P W moving.to_slot)).1 (subst (λ (r : Route). Names P W r (slot_inode P W moving.to_slot)) (sym way) names) in
        some_one (slot_inode P W moving.to_slot) loss.inode (sym there ∙ target.0.inode_is)

    pub replaced_reached : Reached P W loss.inode
    replaced_reached = (
      slot_name P W moving.to_slot ∷ to_way,
      (
        moving.to_slot,
        subst (λ (x : ℕ). Names P W to_way x) (sym target_owner) to_named,
        subst (λ (i : ℕ). Leads P W moving.to_slot (slot_name P W moving.to_slot) i) target_inode (paths.slot_leads P W coherent moving.to_slot target.0.slot_is.slot),
      ),
    )

    pub other_inode : loss.inode ≢ slot_inode P W moving.from_slot
    other_inode same = replaces.other (replaced_is ∙ same ∙ source_inode ∙ sym moved_is)

    kinds_agree : is_directory state.tree loss.inode ≡ is_directory state.tree moving.inode
    kinds_agree = ap (λ (i : ℕ). is_directory state.tree i) (sym replaced_is) ∙ replaces.kind ∙ ap (λ (i : ℕ). is_directory state.tree i) moved_is

    pub no_names : (t : ℕ) → IsSlotOf P W loss.inode t → ⊥
    no_names t slot = ((absence_law P W state coherent at.reads).empty replaces.target.id).0 replaces.empty t (subst (λ (i : ℕ). IsSlotOf P W i t) (sym replaced_is) slot)

    same_kind : inode_kind W loss.inode ≡ inode_kind W (slot_inode P W moving.from_slot)
    same_kind = by_kind (is_directory state.tree moving.inode) refl ∙ ap (λ (i : ℕ). inode_kind W i) (sym source_inode)
      where
        by_kind : (b : Bool) → is_directory state.tree moving.inode ≡ b → inode_kind W loss.inode ≡ inode_kind W moving.inode
        by_kind true is = dir_is loss.inode (kinds_agree ∙ is) ∙ sym (dir_is moving.inode is)
        by_kind false is = file_is loss.inode replaced_reached (kinds_agree ∙ is) ∙ sym (file_is moving.inode source_reached is)

    pub can_replace : CanReplace P W moving.from_slot moving.to_directory moving.to_slot loss.inode
    can_replace = record {
      entry = (target.0.slot_is.slot, target_owner);
      number = target_inode;
      other = other_inode;
      same_kind = same_kind;
      empty = λ two t slot. no_names t slot;
    }

    -- it has the kind of the moved node
    replaced_dir : is_directory_kind moving.kind ≡ true → IsDirectory W loss.inode
    replaced_dir is = dir_is loss.inode (kinds_agree ∙ for_move.kind_is ∙ is)

    replaced_file : is_directory_kind moving.kind ≡ false → HasBytes W loss.inode
    replaced_file isnt = file_is loss.inode replaced_reached (kinds_agree ∙ for_move.kind_is ∙ isnt)

  pub target_at : (loss : Loss) → moving.replaced ≡ Some loss → IsTargetOf P W state from to moving (Some loss)
  target_at loss is = subst (IsTargetOf P W state from to moving) is for_move.target

  pub place_at : (none : moving.replaced ≡ None) (page : Option ℕ) → moving.new_page ≡ page → IsPlace P W moving.to_directory moving.to_slot page
  place_at none page is = subst (IsPlace P W moving.to_directory moving.to_slot) is (naming none).new_name.place

  -- ---- the move

  take_by : (replaced : Option Loss) (page : Option ℕ) → moving.replaced ≡ replaced → moving.new_page ≡ page → CanTake P W to_way moving.from_slot moving.to_directory moving.to_slot (target_by moving replaced page)
  take_by None None none no_page = (Places.can_name (naming none) at.is_name at.of_bytes, Places.vacant (naming none) (place_at none None no_page).vacant)
  take_by None (Some page) none is =
      let place = place_at none (Some page) is in
      (Places.can_name (naming none) at.is_name at.of_bytes, (place.page_is.free.0, place.page_is.free.1.0), page_here page place)
  take_by (Some loss) page is same = can_replace loss (target_at loss is)

  pub can_rename : CanRename P W from_way to_way moving.from_slot moving.to_directory moving.to_slot (target_of moving)
  can_rename = record {
    tidy = tidied at.tidy;
    source_path = source_path;
    source = for_move.source.slot_is.slot;
    target_path = to_named;
    target_directory = to_holds.1;
    outside = λ two. outside;
    target_slot = take_by moving.replaced moving.new_page refl refl;
  }

  to_path_by : (replaced : Option Loss) (page : Option ℕ) → moving.replaced ≡ replaced → reverse to ≡ name_of P W moving.to_slot (target_by moving replaced page) ∷ to_way
  to_path_by None None none = Places.path_reversed (naming none) at.is_name at.of_bytes
  to_path_by None (Some page) none = Places.path_reversed (naming none) at.is_name at.of_bytes
  to_path_by (Some loss) page is =
      let target = target_at loss is in
      to_reversed ∙ ap (λ (n : List ℕ). n ∷ to_way) (sym (target.0.slot_is.name ∙ target.0.name_is))

  pub are_paths : ArePaths P W from_way to_way from to moving.from_slot moving.to_slot (target_of moving)
  are_paths = record { from_is = from_reversed; to_is = to_path_by moving.replaced moving.new_page refl }

  -- ---- the counts

  -- where nothing is replaced, a count rises or falls for a directory that moves from another one
  rising_moved : (page : Option ℕ) (y : ℕ) → IsRising P W moving.from_slot moving.to_directory (target_by moving None page) y → IsDirectoryMoved P W moving.from_slot moving.to_directory
  rising_moved None y rising = rising.0
  rising_moved (Some page) y rising = rising.0

  falling_moved : (page : Option ℕ) (y : ℕ) → IsFalling P W moving.from_slot moving.to_directory (target_by moving None page) y → IsDirectoryMoved P W moving.from_slot moving.to_directory
  falling_moved None y falling = falling.0
  falling_moved (Some page) y falling = falling.0

  directory_moved : is_directory_kind moving.kind ≡ true → (moving.from_directory == moving.to_directory) ≡ false → IsDirectoryMoved P W moving.from_slot moving.to_directory
  directory_moved is differ = record { directory = source_dir is; leaves = λ same. apart_from moving.from_directory moving.to_directory differ (sym source_owner ∙ same) }

  stays_there : (moving.from_directory == moving.to_directory) ≡ true → IsDirectoryMoved P W moving.from_slot moving.to_directory → ⊥
  stays_there same leaves = leaves.leaves (source_owner ∙ equal_from moving.from_directory moving.to_directory same)

  rises_by : (kind : Bool) (same : Bool) (replaced : Option Loss) (page : Option ℕ) → is_directory_kind moving.kind ≡ kind → (moving.from_directory == moving.to_directory) ≡ same
      → Holds (IsRising P W moving.from_slot moving.to_directory (target_by moving replaced page)) (if kind && not same && is_none replaced then Some moving.to_directory else None)
  rises_by false false None page kind_is same_is = λ y rising. not_dir kind_is (rising_moved page y rising).directory
  rises_by false true None page kind_is same_is = λ y rising. not_dir kind_is (rising_moved page y rising).directory
  rises_by true true None page kind_is same_is = λ y rising. stays_there same_is (rising_moved page y rising)
  rises_by true false None None kind_is same_is = (directory_moved kind_is same_is, refl)
  rises_by true false None (Some page) kind_is same_is = (directory_moved kind_is same_is, refl)
  rises_by false false (Some loss) page kind_is same_is = λ y rising. rising
  rises_by false true (Some loss) page kind_is same_is = λ y rising. rising
  rises_by true false (Some loss) page kind_is same_is = λ y rising. rising
  rises_by true true (Some loss) page kind_is same_is = λ y rising. rising

  pub rises : Holds (IsRising P W moving.from_slot moving.to_directory (target_of moving)) (rising_of moving)
  rises = rises_by (is_directory_kind moving.kind) (moving.from_directory == moving.to_directory) moving.replaced moving.new_page refl refl

  falls_by : (kind : Bool) (same : Bool) (replaced : Option Loss) (page : Option ℕ) → is_directory_kind moving.kind ≡ kind → (moving.from_directory == moving.to_directory) ≡ same → moving.replaced ≡ replaced
      → Holds (IsFalling P W moving.from_slot moving.to_directory (target_by moving replaced page)) (if kind then (if not same || is_some replaced then Some moving.from_directory else None) else inode_of_loss replaced)
  falls_by false same None page kind_is same_is is = λ y falling. not_dir kind_is (falling_moved page y falling).directory
  falls_by false same (Some loss) page kind_is same_is is = inr (replaced_file loss (target_at loss is) kind_is, refl)
  falls_by true true None page kind_is same_is is = λ y falling. stays_there same_is (falling_moved page y falling)
  falls_by true false None None kind_is same_is is = (directory_moved kind_is same_is, sym source_owner)
  falls_by true false None (Some page) kind_is same_is is = (directory_moved kind_is same_is, sym source_owner)
  falls_by true false (Some loss) page kind_is same_is is = inl (replaced_dir loss (target_at loss is) kind_is, sym source_owner)
  falls_by true true (Some loss) page kind_is same_is is = inl (replaced_dir loss (target_at loss is) kind_is, sym source_owner)

  pub falls : Holds (IsFalling P W moving.from_slot moving.to_directory (target_of moving)) (falling_of moving)
  falls = falls_by (is_directory_kind moving.kind) (moving.from_directory == moving.to_directory) moving.replaced moving.new_page refl refl refl

  -- ---- the pages of the directory

  fills_by : (replaced : Option Loss) (page : Option ℕ) → moving.replaced ≡ replaced → moving.new_page ≡ page → FillsItsPages state moving.to_directory (target_by moving replaced page)
  fills_by None None none no_page = tt
  fills_by None (Some page) none is = Places.full_by (naming none) (Some page) (place_at none (Some page) is)
  fills_by (Some loss) page is same = tt

  pub fills : FillsItsPages state moving.to_directory (target_of moving)
  fills = fills_by moving.replaced moving.new_page refl refl
