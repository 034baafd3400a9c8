-- What a rename leaves is a state that the step allows: the last words, and all others that mean what the commit leaves.
use Rattle.std.proofs.Common.{◌≡◌, ◌⊎◌, inl, inr, ℕ, Bool, true, false, cond, List, Option, Some, None, is_some, unwrap_or, refl, sym, ap, subst, ◌∙◌}
use Rattle.layout.specs.Fields.{inode_kind, slot_inode}
use Rattle.layout.specs.Geometry.{page_of_slot}
use Rattle.layout.specs.Name.{name_in_words}
use Rattle.tree_model.specs.PathText.{Route}
use Rattle.tree_model.specs.Run.{State}
use Rattle.tree_model.specs.Step.{gaining, losing, id_of, is_same_node, pages_after, room_after, tree_after}
use Rattle.tree_model.specs.Table.{get, remove}
use Rattle.tree_model.specs.Tree.{Room, IsRoom, root_id, parent, id_at, is_directory}
use Rattle.tree_model.specs.declared.command.Command.TheVariants.{Rename}
use Rattle.tree_model.proofs.RoomLaws.{get-room_after}
use Rattle.image_reading.specs.Reading.{IsDirectory, slot_owner, Reached, IsRoomOf, Reads, HasRoom, ReadsAs}
use Rattle.image_reading.specs.Soundness.{IsCoherent}
use Rattle.image_counts.proofs.States.{is_room}
use Rattle.image_laws.specs.Add.{with_page}
use Rattle.image_laws.specs.Create.{CanName}
use Rattle.image_laws.specs.CreateStep.{IsStepped}
use Rattle.image_laws.specs.Frame.{SameMeaning}
use Rattle.image_laws.specs.Move.{HasRoomMoved, moved}
use Rattle.image_laws.specs.Remove.{without_page}
use Rattle.image_laws.proofs.CreateSteps.{not_full}
use Rattle.image_laws.proofs.Ready.{held_room}
use Rattle.image_laws.proofs.RoomLeft.{HasPages, room_left}
use Rattle.image_laws.proofs.Rooms.{dec_room}
use Rattle.image_laws.proofs.Trees.{directory_is, is_directory-reached}
use Rattle.rename_laws.specs.Target.{Target, Vacant, Opened, Taken, CanTake, name_of}
use Rattle.rename_laws.specs.Ready.{IsMoveReady}
use Rattle.rename_laws.specs.Intervals.{Finishes}
use Rattle.rename_laws.specs.End.{ArePaths, renamed, FillsItsPages, MoveStepLaw, HasStepRoom, MoveGivesLaw}
use Rattle.rename_laws.proofs.Differs as paths_of
use Rattle.rename_laws.proofs.MovedNames as here
use Rattle.rename_laws.proofs.MovedRoom as rooms
use Rattle.rename_laws.proofs.MovedRoom.{HasPagesThen, moved_room_law}
use Rattle.rename_laws.proofs.MoveNear as before
use Rattle.rename_laws.proofs.MoveNear.{IsOpenedPage}
use Rattle.rename_laws.proofs.MoveReads.{ended, committed_law}
use Rattle.rename_laws.proofs.MoveTidy as ends

-- the directory that gains a name
abbrev pub gains_of : Target → ℕ → Option ℕ
gains_of (Vacant name) x = Some x
gains_of (Opened page name) x = Some x
gains_of (Taken r) x = None

-- the room once the new name is there
abbrev pub room_then : Room → ℕ → Target → Room
room_then room x (Vacant name) = room
room_then room x (Opened page name) = with_page room x
room_then room x (Taken r) = room

-- K means what the commit leaves, with the kinds of what is reached and the room of a move.
pub record MeansMoved (P : ℕ) (I K : List ℕ) (s d : ℕ) : Type 0 where
  pub means : SameMeaning P (moved P I s d) K
  pub kinds : (y : ℕ) → Reached P (moved P I s d) y → inode_kind K y ≡ inode_kind (moved P I s d) y
  pub room : HasRoomMoved P I K s d

module _ (P : ℕ) (W I K : List ℕ) (old : State) (pa pb from to : Route) (s x d n : ℕ) (target : Target)
    (rising : Option ℕ) (ready : IsMoveReady P W I pa pb s x d target rising)
    (means : MeansMoved P I K s d) (paths : ArePaths P W pa pb from to s d target)
    (reads : ReadsAs P W old) (fills : FillsItsPages old x target) where
  read : Reads P K (renamed old.tree from to)
  read = means.means.reads (renamed old.tree from to) (committed_law P W I pa pb from to s x d target rising old.tree ready paths reads.tree)

  coherent : IsCoherent P K
  coherent = means.means.coherent

  w_coherent : IsCoherent P W
  w_coherent = ready.can.tidy.coherent

  fits : IsRoom old.tree old.room
  fits = is_room P W old.tree w_coherent reads.tree old.room reads.room

  x_reached : Reached P W x
  x_reached = (pb, ready.can.target_path)

  -- ---- the tree

  differ : is_same_node old.tree from to ≡ false
  differ = paths_of.differ P W pa pb from to s x d target old.tree ready.can paths reads.tree

  tree_is : tree_after n old.tree (Rename from to) ≡ renamed old.tree from to
  tree_is = ap (λ b. cond b old.tree (renamed old.tree from to)) differ

  loses_is : losing old.tree (Rename from to) ≡ Some (slot_owner P I s)
  loses_is =
      ap (λ b. cond b None (Some (id_of old.tree (parent from)))) differ
      ∙ ap (λ o. Some (unwrap_or o root_id)) (paths_of.from_above P W pa pb from to s x d target old.tree ready.can paths reads.tree)
      ∙ ap Some (sym (before.source_owner P W I pa pb s x d target rising ready))

  gains_by : (o g : Option ℕ) → id_at old.tree to ≡ o → cond (is_some o) None (Some x) ≡ g → gaining old.tree (Rename from to) ≡ g
  gains_by o g there e =
      ap (λ z. cond (is_some z) None (Some (id_of old.tree (parent to)))) there
      ∙ ap (λ z. cond (is_some o) None (Some (unwrap_or z root_id)))
      (paths_of.to_above P W pa pb from to s x d target old.tree ready.can paths reads.tree)
      ∙ e

  new_at : (name : List ℕ) → CanName P W pb x name → name_of P W d target ≡ name_in_words name → id_at old.tree to ≡ None
  new_at = paths_of.new_at P W pa pb from to s x d target old.tree ready.can paths reads.tree

  gains_is : (now : Target) → CanTake P W pb s x d now → name_of P W d target ≡ name_of P W d now
      → gaining old.tree (Rename from to) ≡ gains_of now x
  gains_is (Vacant name) take is = gains_by None (Some x) (new_at name take.0 is) refl
  gains_is (Opened page name) take is = gains_by None (Some x) (new_at name take.0 is) refl
  gains_is (Taken r) take is =
      gains_by (Some r) None (paths_of.taken_at P W pa pb from to s x d target old.tree ready.can paths reads.tree r take is) refl

  -- ---- the pages of the new directory

  pages_then_is : (now : Target) → CanTake P W pb s x d now → FillsItsPages old x now
      → HasPagesThen old.tree old.room (gains_of now x) (room_then old.room x now)
  pages_then_is (Vacant name) take full = rooms.then_same old.tree old.room x fits (not_full P W old pb x d name take.0 take.1 reads)
  pages_then_is (Opened page name) take full = rooms.then_more old.tree old.room x fits full
  pages_then_is (Taken r) take full = rooms.then_none old.tree old.room fits

  page_there : (now : Target) → CanTake P W pb s x d now → IsRoomOf P W x (page_of_slot d) ⊎ IsOpenedPage now (page_of_slot d)
  page_there (Vacant name) take = inl (held_room P W x d ready.can.tidy x_reached ready.can.target_directory take.1.held take.1.owner)
  page_there (Opened page name) take = inr take.2
  page_there (Taken r) take =
      inl (record { reached = x_reached; directory = ready.can.target_directory; slot = (d, refl, take.entry.1, take.entry.0.live) })

  HadPage : Type 0
  HadPage = IsRoomOf P I (slot_owner P I d) (page_of_slot d)

  had_page : IsRoomOf P W x (page_of_slot d) → HadPage
  unfolding HadPage
  had_page there = subst (λ y. IsRoomOf P I y (page_of_slot d)) (sym ready.owner)
      (before.room_forth P W I pa pb s x d target rising ready x (page_of_slot d) there)

  new_page : IsOpenedPage target (page_of_slot d) → HadPage → ⊥
  unfolding HadPage
  new_page opened room =
      let (t, at, owner, live) = room.slot in
      before.live_old P W I pa pb s x d target rising ready t live (subst (IsOpenedPage target) (sym at) opened)

  HasPage : Type 0
  HasPage = IsRoomOf P K (slot_owner P I s) (page_of_slot s)

  -- the room then, without the replaced and with or without the page of slot s
  record IsLeftRoom (after : Room) : Type 0 where
    kept : HasPage → HasRoom P K (remove after (slot_inode P I d))
    given : (HasPage → ⊥) → HasRoom P K (remove (without_page after (slot_owner P I s)) (slot_inode P I d))

  room_before : HasRoom P I old.room
  room_before = ready.means.room old.room reads.room

  same_left : HadPage → IsLeftRoom old.room
  unfolding HadPage HasPage
  same_left had = record { kept = means.room.kept old.room room_before had; given = means.room.given old.room room_before had }

  more_left : (HadPage → ⊥) → IsLeftRoom (with_page old.room (slot_owner P I d))
  unfolding HadPage HasPage
  more_left none = record { kept = means.room.gained old.room room_before none; given = means.room.both old.room room_before none }

  left_room : (now : Target) → CanTake P W pb s x d now → (IsOpenedPage now (page_of_slot d) → IsOpenedPage target (page_of_slot d))
      → IsLeftRoom (room_then old.room x now)
  left_room (Vacant name) take same = same_left (elim (page_there (Vacant name) take) [ inl there ↦ had_page there | inr new ↦ absurd new ])
  left_room (Opened page name) take same = subst (λ y. IsLeftRoom (with_page old.room y)) ready.owner (more_left (new_page (same take.2)))
  left_room (Taken r) take same = same_left (elim (page_there (Taken r) take) [ inl there ↦ had_page there | inr new ↦ absurd new ])

  then_room : Room
  then_room = room_then old.room x target

  pages_there : HasPagesThen old.tree old.room (gains_of target x) then_room
  unfolding then_room
  pages_there = pages_then_is target ready.can.target_slot fills

  rooms_there : IsLeftRoom then_room
  unfolding then_room
  rooms_there = left_room target ready.can.target_slot (λ h. h)

  gains_there : gaining old.tree (Rename from to) ≡ gains_of target x
  gains_there = gains_is target ready.can.target_slot refl

  -- ---- the room after

  after_at : (gives : Bool) (y : ℕ) → get (room_after n old.tree old.room (Rename from to) gives) y
      ≡ cond (is_directory (renamed old.tree from to) y) (Some (pages_after old.tree old.room (Rename from to) gives y)) None
  after_at gives y =
      get-room_after n old.tree old.room (Rename from to) gives y
      ∙ ap (λ U. cond (is_directory U y) (Some (pages_after old.tree old.room (Rename from to) gives y)) None) tree_is

  -- a directory after was one before
  was_directory : (y : ℕ) → is_directory (renamed old.tree from to) y ≡ true → is_directory old.tree y ≡ true
  was_directory y dir =
      let (r, two) = directory_is P K (renamed old.tree from to) coherent read y dir in
      let there : Reached P (moved P I s d) y = (r.0, (means.means.names r.0 y).1 r.1) in
      let then = here.reached_back P I pa pb s d ready.can_move y there in
      let first = before.back P W I pa pb s x d target rising ready y then in
      is_directory-reached P W old.tree w_coherent reads.tree y first (
      sym (before.kind_same P W I pa pb s x d target rising ready y first) ∙ sym (here.kind_same P I pa pb s d ready.can_move y then)
      ∙ sym (means.kinds y there) ∙ two)

  -- a room that has the pages after
  same_after : (gives : Bool) (room : Room) → HasRoom P K (remove room (slot_inode P I d)) → HasPages old.tree (pages_after old.tree old.room (Rename from to) gives) room
      → remove room (slot_inode P I d) ≡ room_after n old.tree old.room (Rename from to) gives
  same_after gives room has each =
      room_left P K (renamed old.tree from to) room (room_after n old.tree old.room (Rename from to) gives) (pages_after old.tree old.room (Rename from to) gives)
      (slot_inode P I d) coherent read has (after_at gives) (λ y dir. each y (was_directory y dir))

  source_directory : is_directory old.tree (slot_owner P I s) ≡ true
  source_directory = is_directory-reached P W old.tree w_coherent reads.tree (slot_owner P I s)
      (subst (Reached P W) (sym (before.source_owner P W I pa pb s x d target rising ready)) (pa, ready.can.source_path))
      (subst (IsDirectory W) (sym (before.source_owner P W I pa pb s x d target rising ready)) ready.can.source.directory)

  -- where the page of slot s keeps a name
  move_room_kept : IsRoomOf P K (slot_owner P I s) (page_of_slot s)
      → remove (room_then old.room x target) (slot_inode P I d) ≡ room_after n old.tree old.room (Rename from to) false
  unfolding then_room HasPage
  move_room_kept there = same_after false then_room (rooms_there.kept there)
      (rooms.kept_entry old.tree old.room from to (slot_owner P I s) (gains_of target x) gains_there loses_is then_room pages_there)

  -- and where it is given back
  move_room_given : (IsRoomOf P K (slot_owner P I s) (page_of_slot s) → ⊥)
      → remove (without_page (room_then old.room x target) (slot_owner P I s)) (slot_inode P I d) ≡ room_after n old.tree old.room (Rename from to) true
  unfolding then_room HasPage
  move_room_given none = same_after true (without_page then_room (slot_owner P I s)) (rooms_there.given none)
      (rooms.given_entry old.tree old.room from to (slot_owner P I s) (gains_of target x) gains_there loses_is then_room pages_there source_directory)

  stepped : (gives : Bool) (room : Room) → HasRoom P K room → room ≡ room_after n old.tree old.room (Rename from to) gives
      → IsStepped P K old (Rename from to) n
  stepped gives room has follows = record {
    new = record { tree = renamed old.tree from to; room = room };
    reads = record { tree = read; room = has };
    tree = sym tree_is;
    room = (gives, follows, subst (λ T. IsRoom T room) (sym tree_is) (is_room P K (renamed old.tree from to) coherent read room has));
  }

  source_there : Reached P K (slot_owner P I s) × IsDirectory K (slot_owner P I s)
  source_there =
      let there = here.source_owner_reached P I pa pb s d ready.can_move in (
        (there.0, (means.means.names there.0 (slot_owner P I s)).0 there.1),
        means.kinds (slot_owner P I s) there
            ∙ here.kind_same P I pa pb s d ready.can_move (slot_owner P I s) (pa, ready.can_move.source_path) ∙ ready.can_move.source_directory,
      )

  step_room : HasStepRoom P W K old from to s n
  unfolding then_room HasPage
  step_room =
      let owner : slot_owner P I s ≡ slot_owner P W s = before.source_owner P W I pa pb s x d target rising ready in
      record {
        kept = λ there. (let page = subst (λ o. IsRoomOf P K o (page_of_slot s)) (sym owner) there in
            subst (HasRoom P K) (move_room_kept page) (rooms_there.kept page));
        given = λ none. (let gone = subst (λ o. IsRoomOf P K o (page_of_slot s) → ⊥) (sym owner) none in
            subst (HasRoom P K) (move_room_given gone) (rooms_there.given gone));
      }

  pub move_stepped : IsStepped P K old (Rename from to) n
  unfolding then_room HasPage
  move_stepped = elim (dec_room P K (slot_owner P I s) source_there.0 source_there.1 (page_of_slot s)) [
    | yes there ↦ stepped false (remove then_room (slot_inode P I d)) (rooms_there.kept there) (move_room_kept there)
    | no none ↦ stepped true (remove (without_page then_room (slot_owner P I s)) (slot_inode P I d)) (rooms_there.given none) (move_room_given none)
  ]

-- the last words do
means_last : (P : ℕ) (W I J G K : List ℕ) (pa pb : Route) (s x d : ℕ) (target : Target) (rising falling : Option ℕ) → IsMoveReady P W I pa pb s x d target rising
    → Finishes P W I J G K s x d target falling → MeansMoved P I K s d
means_last P W I J G K pa pb s x d target rising falling ready finishes =
    let end = ended P W I J G K pa pb s x d target rising falling ready finishes in
    record {
      means = end.means;
      kinds = ends.kind_after P I K pa pb s d ready.can_move (before.near P W I pa pb s x d target rising ready) end;
      room = moved_room_law P W I J G K pa pb s x d target rising falling ready finishes;
    }

pub move_step_law : MoveStepLaw
move_step_law P W I J G K old pa pb from to s x d n target rising falling ready finishes paths reads fills =
    move_stepped P W I K old pa pb from to s x d n target rising ready (means_last P W I J G K pa pb s x d target rising falling ready finishes) paths reads fills

pub move_gives_law : MoveGivesLaw
move_gives_law P W I J G K old pa pb from to s x d n target rising falling ready finishes paths reads fills =
    step_room P W I K old pa pb from to s x d n target rising ready (means_last P W I J G K pa pb s x d target rising falling ready finishes) paths reads fills
