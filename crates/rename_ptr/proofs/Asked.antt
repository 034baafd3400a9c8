-- What the steps of a move ask for, by what those before them made: B are the words with a new page, I those from which the slot may
-- take the number.
use Rattle.std.proofs.Common.{◌≡◌, ◌≢◌, inl, inr, ℕ, ◌≤◌, List, [], ◌∷◌, slice_index, Some, None, refl, sym, ap, subst, ◌∙◌, arith}
use Rattle.std.specs.Prelude.{Option}
use Rattle.layout.specs.declared.fields.InodeFields.{InodeFields}
use Rattle.layout.specs.Geometry.{inodes_of}
use Rattle.layout.specs.Fields.{word, inode_kind, inode_links, slot_inode, slot_pointer}
use Rattle.layout.specs.Name.{IsNameWords}
use Rattle.layout.proofs.NameLaws.{IsNameWords-words_of_name}
use Rattle.tree_model.specs.PathText.{Route}
use Rattle.tree_model.specs.Run.{State}
use Rattle.inode_state.specs.States as inodes
use Rattle.inode_state.specs.Inode.{fields_at}
use Rattle.inode_state.proofs.InodeLaws.{same_fields_at}
use Rattle.dentry_state.specs.States as slots
use Rattle.dentry_state.specs.Dentry.{slot_fields_at}
use Rattle.image_reading.specs.Reading.{HasBytes, IsDirectory, Reached, IsReachedSlot, IsNameOf}
use Rattle.image_reading.specs.Soundness.{Rule}
use Rattle.image_laws.specs.Drop.{dropped}
use Rattle.image_laws.specs.Move.{CanMove, moved}
use Rattle.image_laws.proofs.Adds.{only}
use Rattle.image_laws.proofs.OnlySlot.{OnlySlot}
use Rattle.rename_laws.specs.Target.{Target, Vacant, Opened, Taken, Holds, IsRising, IsFalling}
use Rattle.rename_laws.specs.Ready.{IsTargetOpened, IsMoveReady}
use Rattle.rename_laws.proofs.MovedCounts.{IsLowered}
use Rattle.rename_laws.proofs.MovedNames
use Rattle.rename_laws.proofs.MovedWords
use Rattle.rename_laws.proofs.MoveNear
use Rattle.rename_laws.proofs.Opened as opening
use Rattle.rename_laws.proofs.Opened.{IsOpen}
use Rattle.volume.specs.Moves.{rising_of, falling_of}
use Rattle.volume.specs.declared.plan.Loss.{Loss}
use Rattle.volume.specs.declared.plan.Moving.{Moving}
use Rattle.entry_steps.specs.Steps.{IsLinkable}
use Rattle.entry_steps.specs.Placing.{MayPlace}
use Rattle.entry_steps.proofs.Places
use Rattle.removal_steps.specs.Steps.{HasLink, MayFall}
use Rattle.rename_ptr.specs.Steps.{target_by, target_of, MayRise, MayPoint, CanPointSlot, CanTakeOver, CanLeave, CanClearSource}
use Rattle.rename_ptr.specs.Renaming.{IsMovingAt}
use Rattle.rename_ptr.proofs.Moves

-- ---- the pointer

module _ {P : ℕ} {W : List ℕ} {state : State} (from to : Route) {moving : Moving} (at : IsMovingAt P W state from to moving) (B : List ℕ) where
  abbrev s : ℕ
  s = moving.from_slot

  abbrev d : ℕ
  d = moving.to_slot

  abbrev x : ℕ
  x = moving.to_directory

  -- an entry that was there
  entry : (target : Target) → IsOpen P W B x d target → (t : ℕ) → IsReachedSlot P W t → slots.IsLive (slot_fields_at P B t)
  entry target stands t reached = let here = stands.kept t reached in (here.live.names, stands.no_pointer t here.live.held, stands.means.coherent Rule.names t here)

  node_same : (target : Target) → IsOpen P W B x d target → (i : ℕ) → 1 ≤ i → i ≤ inodes_of P → fields_at B i ≡ fields_at W i
  unfolding word
  node_same target stands i least most = same_fields_at i W B (λ a is.
      let lt = is.is_field in
      ap (λ (k : ℕ). slice_index B k) is.at ∙ stands.inodes i is.field least most (omega (arith, lt)) ∙ ap (λ (k : ℕ). slice_index W k) (sym is.at))

  point_by : (replaced : Option Loss) (page : Option ℕ) → moving.replaced ≡ replaced → moving.new_page ≡ page → IsOpen P W B x d (target_by moving replaced page)
      → IsTargetOpened P W B x d (target_by moving replaced page) → MayPoint P B d (target_by moving replaced page)
  point_by None None none no_page stands is =
      subst (λ (l : List ℕ). slot_fields_at P l d ≡ slots.free_fields) (sym is) (subst (MayPlace P W d) no_page (Places.may_place (Moves.naming from to at none))).1
  point_by None (Some page) none here stands is =
      (stands.number, stands.no_pointer d stands.held, subst IsNameWords (sym stands.name_words) (IsNameWords-words_of_name moving.to_name at.is_name at.of_bytes))
  point_by (Some loss) page is same stands opened = entry (target_by moving (Some loss) page) stands d (Moves.target_at from to at loss is).0.slot_is.slot

  other_by : (replaced : Option Loss) (page : Option ℕ) → moving.replaced ≡ replaced → IsOpen P W B x d (target_by moving replaced page) → slot_inode P B s ≢ slot_inode P B d
  other_by None None none stands = λ same. (stands.kept s (Moves.for_move from to at).source.slot_is.slot).live.names (same ∙ stands.number)
  other_by None (Some page) none stands = λ same. (stands.kept s (Moves.for_move from to at).source.slot_is.slot).live.names (same ∙ stands.number)
  other_by (Some loss) page is stands = λ same.
      Moves.other_inode from to at loss (Moves.target_at from to at loss is) (sym stands.number ∙ sym same ∙ stands.numbers s (Moves.for_move from to at).source.slot_is.slot)

  risen : (target : Target) (y : ℕ) → IsRising P W s x target y → y ≡ x
  risen (Vacant name) y rising = rising.1
  risen (Opened page name) y rising = rising.1
  risen (Taken r) y rising = absurd rising

  linkable : (target : Target) → IsOpen P W B x d target → IsLinkable P B x
  linkable target stands =
      let before = Places.linkable at.tidy at.reads x (Moves.to_holds from to at).0 in
      let same = node_same target stands x before.least before.most in
      let links = ap (λ (f : InodeFields). f.links) same in
      let few = before.countable in
      record { least = before.least; most = before.most; live = subst (inodes.IsLive x) (sym same) before.live; countable = omega (arith, links, few) }

  rise_by : (target : Target) → IsOpen P W B x d target → (o : Option ℕ) → Holds (IsRising P W s x target) o → MayRise P B o
  rise_by target stands None none = tt
  rise_by target stands (Some y) rising = subst (λ (i : ℕ). IsLinkable P B i) (sym (risen target y rising)) (linkable target stands)

  pub can_point : IsTargetOpened P W B x d (target_of moving) → CanPointSlot P B moving
  can_point opened =
      let stands = opening.opened P W B (Moves.from_way from to at) (Moves.to_way from to at) s x d (target_of moving) (Moves.can_rename from to at) opened in
      let source = (Moves.for_move from to at).source.slot_is.slot in
      record {
        from_in_range = (stands.kept s source).live.held.in_range;
        to_in_range = stands.held.in_range;
        source = entry (target_of moving) stands s source;
        target = point_by moving.replaced moving.new_page refl refl stands opened;
        other_inode = other_by moving.replaced moving.new_page refl stands;
        rising = rise_by (target_of moving) stands (rising_of moving) (Moves.rises from to at);
      }

-- ---- the number, and what is left of the source

module _ (P : ℕ) (W I : List ℕ) (pa pb : Route) (moving : Moving) (rising : Option ℕ) (ready : IsMoveReady P W I pa pb moving.from_slot moving.to_directory moving.to_slot (target_of moving) rising) where
  abbrev from : ℕ
  from = moving.from_slot

  abbrev dest : ℕ
  dest = moving.to_slot

  c : CanMove P I pa pb from dest
  c = ready.can_move

  apart : from ≢ dest
  apart = MovedNames.apart P I pa pb from dest c

  source_slot : IsReachedSlot P I from
  source_slot = MovedNames.source_slot P I pa pb from dest c

  source_live : slots.IsLive (slot_fields_at P I from)
  source_live = (c.source.names, c.alone from c.source.held apart, c.coherent Rule.names from source_slot)

  points : slot_pointer P I dest ≢ 0
  points none = let is = c.pointer in omega (arith, is, none)

  number_same : slot_inode P I from ≡ slot_inode P W from
  number_same = MoveNear.source_number P W I pa pb from moving.to_directory dest (target_of moving) rising ready

  pub can_take_over : slot_inode P W from ≡ moving.inode → CanTakeOver P I moving
  can_take_over is = record {
    from_in_range = c.source.held.in_range;
    to_in_range = c.held.in_range;
    source = source_live;
    number = number_same ∙ is;
    pointing = (points, c.name);
    pointer = c.pointer;
  }

  -- once the slot has the number
  abbrev C : List ℕ
  C = moved P I from dest

  committed_only : OnlySlot P I C dest
  committed_only = MovedNames.only P I pa pb from dest c

  number_new : slot_inode P C dest ≡ slot_inode P I from
  number_new = MovedNames.number_new P I pa pb from dest c

  dest_moved : slots.IsMoved (slot_fields_at P C dest)
  dest_moved = (
    (λ none. c.source.names (sym number_new ∙ none)),
    ((λ none. points (sym (committed_only.pointer dest) ∙ none)), subst IsNameWords (sym (committed_only.words dest)) c.name),
  )

  pub can_leave : CanLeave P C moving
  can_leave = record {
    from_in_range = c.source.held.in_range;
    to_in_range = c.held.in_range;
    source = (
      (λ none. c.source.names (sym (committed_only.inode from apart) ∙ none)),
      committed_only.pointer from ∙ c.alone from c.source.held apart,
      subst IsNameWords (sym (committed_only.words from)) (c.coherent Rule.names from source_slot),
    );
    moved = dest_moved;
    pointer = committed_only.pointer dest ∙ c.pointer;
    same_inode = number_new ∙ sym (committed_only.inode from apart);
  }

  -- and the source has none
  abbrev D : List ℕ
  D = dropped P C from

  left_only : OnlySlot P C D from
  left_only = only P C from 0 (MovedNames.after P I pa pb from dest c).coherent

  -- the count that falls isn't 0
  linked : (y : ℕ) → IsLowered P I from dest y → Reached P I y × (1 ≤ inode_links I y)
  linked y lowered = elim lowered [
    | inl file ↦
        let reached = subst (Reached P I) (sym file.2) (MovedNames.replaced_reached P I pa pb from dest c file.1) in
        let bytes : HasBytes I y = ap (λ (i : ℕ). inode_kind I i) file.2 ∙ (MoveNear.near P W I pa pb from moving.to_directory dest (target_of moving) rising ready).kinds file.1 ∙ file.0 in
        let one = (c.coherent Rule.links y reached).file bytes (dest ∷ []) ((λ none. none), tt)
        (λ t here. elim here [ inl same ↦ subst (λ (k : ℕ). IsNameOf P I y k) (sym same) (record { slot = MovedNames.replaced_slot P I pa pb from dest c file.1; inode = sym file.2 }) | inr none ↦ absurd none ]) in
        (reached, omega (arith, one))
    | inr parent ↦
        let reached = subst (Reached P I) (sym parent.2) source_slot.owner in
        let two = (c.coherent Rule.links y reached).directory (subst (λ (i : ℕ). IsDirectory I i) (sym parent.2) c.source_directory) [] tt (λ t none. absurd none) in
        (reached, omega (arith, two))
  ]

  link_left : (y : ℕ) → IsLowered P I from dest y → HasLink P D y
  link_left y lowered =
      let (reached, some) = linked y lowered in
      let (least, most) = MovedWords.falls_range P I pa pb from dest c y lowered in
      let kind = left_only.node_kind y most ∙ committed_only.node_kind y most in
      let own = left_only.own y most ∙ committed_only.own y most in
      let links = left_only.links y most ∙ committed_only.links y most in
      record {
        least = least;
        most = most;
        node = (elim ((c.coherent Rule.kinds y).kind reached) [ inl file ↦ inl (kind ∙ file) | inr directory ↦ inr (kind ∙ directory) ], own ∙ (c.coherent Rule.kinds y).own reached);
        some_link = omega (arith, links, some);
      }

  falls_left : (o : Option ℕ) → Holds (IsFalling P W from moving.to_directory (target_of moving)) o → MayFall P D o
  falls_left None none = tt
  falls_left (Some y) falls = link_left y ((MoveNear.lowered P W I pa pb from moving.to_directory dest (target_of moving) rising ready y).0 falls)

  pub can_clear_source : Holds (IsFalling P W from moving.to_directory (target_of moving)) (falling_of moving) → CanClearSource P D moving
  can_clear_source falls = record {
    from_in_range = c.source.held.in_range;
    to_in_range = c.held.in_range;
    left = (
      MovedWords.left_number P I pa pb from dest c,
      left_only.pointer from ∙ committed_only.pointer from ∙ c.alone from c.source.held apart,
      subst IsNameWords (sym (left_only.words from ∙ committed_only.words from)) (c.coherent Rule.names from source_slot),
    );
    moved = (
      (λ none. dest_moved.0 (sym (left_only.inode dest (λ same. apart (sym same))) ∙ none)),
      ((λ none. dest_moved.1.0 (sym (left_only.pointer dest) ∙ none)), subst IsNameWords (sym (left_only.words dest)) dest_moved.1.1),
    );
    pointer = left_only.pointer dest ∙ committed_only.pointer dest ∙ c.pointer;
    other_slot = λ same. apart (sym same);
    falling = falls_left (falling_of moving) falls;
  }
