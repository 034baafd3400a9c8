-- The room where a page is given back as the plan does fits the tree that its command leaves.
use Rattle.std.proofs.Common.{◌≡◌, ◌≢◌, ℕ, ◌+◌, ◌-◌, ◌*◌, ◌≤◌, inl, inr, Bool, true, false, cond, ◌&&◌, ◌==◌, List, [], ◌∷◌, ◌++◌, Option, Some, None, is_some, refl, sym, ap, subst, ◌∙◌, arith, add-zero, eq-eqb, eqb-true, true≢false}
use Rattle.std.proofs.lemmas.Bool.{cases_eq, cases_lt}
use Rattle.layout.specs.Geometry.{page_of_slot}
use Rattle.layout.specs.Fields.{page_owner, slot_inode}
use Rattle.tree_model.specs.PathText.{Route}
use Rattle.tree_model.specs.Table.{get}
use Rattle.tree_model.specs.Tree.{Tree, Room, IsRoom, is_root, parent, is_number, id_at, is_directory, name_count, pages_in}
use Rattle.tree_model.specs.Capacity.{untaken}
use Rattle.tree_model.specs.Accepted.{HasHolder}
use Rattle.tree_model.specs.Step.{outcome_of, refusal_of, least_free_id, tree_after, room_after, pages_after, page_for_name, id_of, is_full, is_same_node, gaining, losing}
use Rattle.tree_model.specs.Run.{State}
use Rattle.tree_model.specs.declared.command.Command.{Command}
use Rattle.tree_model.specs.declared.command.Command.TheVariants.{Create, Mkdir, Link, Unlink, Rmdir, Rename, Write, Truncate, Read, Stat as Tell, List as Show, Df}
use Rattle.tree_model.proofs.AcceptedLaws.{Accepted-from_row}
use Rattle.tree_model.proofs.NamesMoves.{NamesMove-unlink, NamesMove-rmdir}
use Rattle.tree_model.proofs.PlainRuns.{room_after-is_there}
use Rattle.tree_model.proofs.RenameMoves.{NamesMove-rename}
use Rattle.tree_model.proofs.RoomLaws.{IsPageCount, IsPageCount-from_room, IsRoom-from, get-room_after}
use Rattle.tree_model.proofs.RoomsKept.{NamesMove, one_if}
use Rattle.tree_model.proofs.TreeKept.{chosen, none_some, same_some}
use Rattle.image_reading.specs.Reading.{slot_owner, ReadsAs}
use Rattle.image_reading.specs.Residue.{no_residue}
use Rattle.image_reading.specs.Tidy.{IsTidied}
use Rattle.image_counts.specs.Laws.{HasRoomWords, ReadsBeside}
use Rattle.image_counts.proofs.Apart.{reads_tidied, apart_nothing}
use Rattle.image_counts.proofs.Nodes.{size_law}
use Rattle.image_counts.proofs.Paths.{entry_law, in_range}
use Rattle.image_counts.proofs.States.{state_law}
use Rattle.volume.specs.declared.plan.Moving.{Moving}
use Rattle.volume.specs.declared.plan.Action.{Action}
use Rattle.volume.specs.declared.plan.Action.TheVariants.{Move, KeepNames}
use Rattle.volume.specs.declared.plan.Loss.{Loss}
use Rattle.volume.specs.declared.plan.Removal.{Removal}
use Rattle.volume.specs.Planned.{IsNameAt, IsVacantSlot, IsAlone, IsGivenBack, IsEmptiedBy, IsTargetOf, IsRemovalFor, IsMovingFor, IsPlace, IsNothingOr, IsPlanOf}
use Rattle.volume.proofs.Places.{page_is, owner_is}
use Rattle.volume.proofs.Ways.{whole_path}
use Rattle.plan_laws.specs.Laws.{gives_back, PlanRoomLaw}
use Rattle.plan_laws.proofs.PageBounds.{page_count, alone_bound, alone_and_vacant, alone_where}
use Rattle.plan_laws.proofs.PlanFacts.{FoundMove, tree, id_is, holds, room_words, full_by, some_page, found_move}

-- ---- another choice

module _ (T : Tree) (room : Room) (c : Command) (id : ℕ) (other gives : Bool) (fits : IsRoom (tree_after id T c) (room_after id T room c other)) where
  -- no other directory has other pages by another choice
  pages_alike : (d : ℕ) → is_number (losing T c) d ≡ false → pages_after T room c other d ≡ pages_after T room c gives d
  pages_alike d stays =
      let gained = pages_in room d + cond (is_number (gaining T c) d) (page_for_name T room (Some d)) 0 in
      ap (λ b. cond (b && other) (gained - 1) gained) stays ∙ sym (ap (λ b. cond (b && gives) (gained - 1) gained) stays)

  -- so a room fits where the directory that loses a name may have its pages
  module _ (lost : (d : ℕ) → is_number (losing T c) d ≡ true → is_directory (tree_after id T c) d ≡ true → IsPageCount (name_count (tree_after id T c) d) (pages_after T room c gives d)) where
    bounds : (d : ℕ) → is_directory (tree_after id T c) d ≡ true → IsPageCount (name_count (tree_after id T c) d) (pages_after T room c gives d)
    bounds d dir =
        elim (is_number (losing T c) d) as (λ t. is_number (losing T c) d ≡ t → IsPageCount (name_count (tree_after id T c) d) (pages_after T room c gives d)) [
          | true ↦ λ is. lost d is dir
          | false ↦ λ stays. subst (IsPageCount (name_count (tree_after id T c) d)) (pages_alike d stays)
              (IsPageCount-from_room (tree_after id T c) (room_after id T room c other) fits d (pages_after T room c other d)
              (get-room_after id T room c other d ∙ ap (λ b. cond b (Some (pages_after T room c other d)) None) dir))
        ] refl

    chosen_room : IsRoom (tree_after id T c) (room_after id T room c gives)
    chosen_room =
        IsRoom-from (tree_after id T c) (room_after id T room c gives)
        (λ d pages e. elim (chosen (is_directory (tree_after id T c) d) (Some (pages_after T room c gives d)) None (get (room_after id T room c gives) d) (get-room_after id T room c gives d)) [
          | inl h ↦ (h.0, subst (IsPageCount (name_count (tree_after id T c) d)) (same_some (pages_after T room c gives d) pages (sym h.1 ∙ e)) (bounds d h.0))
          | inr h ↦ none_some pages (sym h.1 ∙ e)
        ])
        (λ d dir. ap is_some (get-room_after id T room c gives d) ∙ ap (λ b. is_some (cond b (Some (pages_after T room c gives d)) None)) dir)

none_loses : (d : ℕ) (loses : Option ℕ) → loses ≡ None → is_number loses d ≡ true → ⊥
none_loses d loses none is = true≢false (sym is ∙ ap (λ o. is_number o d) none)

-- ---- the pages of a directory that loses a name

lost_bounds : (n n' p : ℕ) → n' + 1 ≡ n → IsPageCount n p → (gives : Bool) → (gives ≡ true → n + 31 ≤ 32 * p) → (gives ≡ false → p + 1 ≤ n) → IsPageCount n' (cond gives (p - 1) p)
lost_bounds n n' p less old true alone beside =
    let most = old.most in let few = alone refl in record { most = omega (arith, most, less); least = omega (arith, few, less) }
lost_bounds n n' p less old false alone beside =
    let least = old.least in let more = beside refl in record { most = omega (arith, more, less); least = omega (arith, least, less) }

exchanged_bounds : (n n' p : ℕ) → n' ≡ n → 1 ≤ p → IsPageCount n p → (full gives : Bool) → (full ≡ true → n ≡ 32 * p) → (full ≡ false → gives ≡ true → n + 32 ≤ 32 * p)
    → IsPageCount n' (cond gives (p + cond full 1 0 - 1) (p + cond full 1 0))
exchanged_bounds n n' p same some old true true all alone =
    let most = old.most in let is = all refl in record { most = omega (arith, most, same); least = omega (arith, is, same) }
exchanged_bounds n n' p same some old true false all alone =
    let most = old.most in let is = all refl in record { most = omega (arith, is, same, some); least = omega (arith, is, same) }
exchanged_bounds n n' p same some old false true all alone =
    let most = old.most in let few = alone refl refl in record { most = omega (arith, most, same); least = omega (arith, few, same) }
exchanged_bounds n n' p same some old false false all alone =
    let most = old.most in let least = old.least in record { most = omega (arith, most, same); least = omega (arith, least, same) }

given_where : (Emptied : Type 0) (slot : ℕ) (given : Option ℕ) → IsGivenBack Emptied slot given → is_some given ≡ true → Emptied
given_where Emptied slot None kept is = absurd (true≢false (sym is))
given_where Emptied slot (Some page) (emptied, at) is = emptied

kept_where : (Emptied : Type 0) (slot : ℕ) (given : Option ℕ) → IsGivenBack Emptied slot given → is_some given ≡ false → ¬ Emptied
kept_where Emptied slot None kept is = kept
kept_where Emptied slot (Some page) given is = absurd (true≢false is)

-- not few names, or what would follow
more_names : (n p : ℕ) (Emptied : Type 0) → ¬ Emptied → (n ≤ p → Emptied) → p + 1 ≤ n
more_names n p Emptied kept few = elim (cases_lt p n) [ inl more ↦ omega (arith, more) | inr less ↦ absurd (kept (few less)) ]

module _ (T : Tree) (room : Room) (c : Command) (after : Tree) (moves : NamesMove T c after) (d : ℕ) (loses : is_number (losing T c) d ≡ true) (stays : is_directory after d ≡ true) (gives : Bool)
    (old : IsPageCount (name_count T d) (pages_in room d)) where
  -- the pages by which of the two happens
  pages_by : Bool → Bool → ℕ
  pages_by loses gains =
      let gained = pages_in room d + cond gains (page_for_name T room (Some d)) 0 in
      cond (loses && gives) (gained - 1) gained

  loses_only : is_number (gaining T c) d ≡ false → (gives ≡ true → name_count T d + 31 ≤ 32 * pages_in room d) → (gives ≡ false → pages_in room d + 1 ≤ name_count T d)
      → IsPageCount (name_count after d) (pages_after T room c gives d)
  unfolding pages_by
  loses_only gains alone beside =
      let moved = moves.names d stays in
      let lost = ap one_if loses in
      let none = ap one_if gains in
      let pages : pages_after T room c gives d ≡ cond gives (pages_in room d - 1) (pages_in room d) =
      (λ i. pages_by (loses i) (gains i)) ∙ ap (λ n. cond gives (n - 1) n) (add-zero (pages_in room d)) in
      subst (IsPageCount (name_count after d)) (sym pages)
      (lost_bounds (name_count T d) (name_count after d) (pages_in room d) (omega (arith, moved, lost, none)) old gives alone beside)

  exchanges : is_number (gaining T c) d ≡ true → 1 ≤ pages_in room d → (is_full T room d ≡ false → gives ≡ true → name_count T d + 32 ≤ 32 * pages_in room d)
      → IsPageCount (name_count after d) (pages_after T room c gives d)
  unfolding pages_by
  exchanges gains some alone =
      let moved = moves.names d stays in
      let lost = ap one_if loses in
      let one = ap one_if gains in
      let pages : pages_after T room c gives d ≡ cond gives (pages_in room d + cond (is_full T room d) 1 0 - 1) (pages_in room d + cond (is_full T room d) 1 0) = λ i. pages_by (loses i) (gains i) in
      subst (IsPageCount (name_count after d)) (sym pages)
      (exchanged_bounds (name_count T d) (name_count after d) (pages_in room d) (omega (arith, moved, lost, one)) some old (is_full T room d) gives
      (λ full. eqb-true (name_count T d) (32 * pages_in room d) full) alone)

module _ (P : ℕ) (I : List ℕ) (state : State) (tidy : IsTidied P I) (reads : ReadsAs P I state) where
  -- nothing is left of what runs
  beside : ReadsBeside P I no_residue state
  beside = reads_tidied P I state tidy reads

  abbrev after : Command → Tree
  after c = tree_after (least_free_id state.tree) state.tree c

  abbrev room_by : Command → Bool → Room
  room_by c gives = room_after (least_free_id state.tree) state.tree state.room c gives

  some_choice : (c : Command) → refusal_of P state.tree state.room c ≡ None → (other : Bool) × IsRoom (after c) (room_by c other)
  some_choice c accepted =
      let (new, left) = room_after-is_there (untaken P) (least_free_id state.tree) state.tree state.room c None accepted (tree (untaken P) I no_residue state beside) (state_law P I state tidy.coherent reads).room in
      let (other, is, fits) = left in
      (other, subst (IsRoom (after c)) is fits)

  nothing_lost : (c : Command) (gives : Bool) → refusal_of P state.tree state.room c ≡ None → losing state.tree c ≡ None → IsRoom (after c) (room_by c gives)
  nothing_lost c gives accepted none =
      let (other, fits) = some_choice c accepted in
      chosen_room state.tree state.room c (least_free_id state.tree) other gives fits (λ d is dir. absurd (none_loses d (losing state.tree c) none is))

  name_lost : (c : Command) (gives : Bool) (d : ℕ) → refusal_of P state.tree state.room c ≡ None → losing state.tree c ≡ Some d
      → (is_number (losing state.tree c) d ≡ true → is_directory (after c) d ≡ true → IsPageCount (name_count (after c) d) (pages_after state.tree state.room c gives d)) → IsRoom (after c) (room_by c gives)
  name_lost c gives d accepted loses bound =
      let (other, fits) = some_choice c accepted in
      chosen_room state.tree state.room c (least_free_id state.tree) other gives fits (λ l is.
      subst (λ x. is_number (losing state.tree c) x ≡ true → is_directory (after c) x ≡ true → IsPageCount (name_count (after c) x) (pages_after state.tree state.room c gives x))
      (eqb-true d l (sym (ap (λ o. is_number o l) loses) ∙ is)) bound is)

  -- ---- a name is taken away

  module _ (c : Command) (path : Route) (removal : Removal) (for : IsRemovalFor P I state c path removal) (accepted : refusal_of P state.tree state.room c ≡ None) (holder : HasHolder state.tree path)
      (loses : losing state.tree c ≡ Some (id_of state.tree (parent path))) (gains : gaining state.tree c ≡ None) (moves : NamesMove state.tree c (after c)) where
    words : HasRoomWords P I state removal.directory
    words = room_words (untaken P) I no_residue state beside path holder removal.directory for.named.directory_is (apart_nothing P I removal.directory)

    is_held : is_directory state.tree removal.directory ≡ true
    is_held = holds (untaken P) I no_residue state beside path holder removal.directory for.named.directory_is

    removal_room : IsRoom (after c) (room_by c (is_some removal.given_back))
    removal_room =
        name_lost c (is_some removal.given_back) removal.directory accepted (loses ∙ ap Some (id_is (untaken P) I no_residue state beside (parent path) removal.directory for.named.directory_is)) (λ lost stays.
        loses_only state.tree state.room c (after c) moves removal.directory lost stays (is_some removal.given_back) (page_count P I state tidy reads removal.directory words is_held)
        (ap (λ o. is_number o removal.directory) gains)
        (λ is. alone_bound P I state tidy reads removal.directory words is_held removal.name removal.slot for.named.slot_is (given_where (IsAlone P I removal.slot) removal.slot removal.given_back for.given_back is))
        (λ is. more_names (name_count state.tree removal.directory) (pages_in state.room removal.directory) (IsAlone P I removal.slot)
        (kept_where (IsAlone P I removal.slot) removal.slot removal.given_back for.given_back is)
        (alone_where P I state tidy reads removal.directory words is_held removal.name removal.slot for.named.slot_is)))

  unlink_room : (path : Route) (removal : Removal) → IsRemovalFor P I state (Unlink path) path removal → refusal_of P state.tree state.room (Unlink path) ≡ None → IsRoom (after (Unlink path)) (room_by (Unlink path) (is_some removal.given_back))
  unlink_room path removal for accepted =
      let found = Accepted-from_row (untaken P) state.tree state.room (Unlink path) (tree (untaken P) I no_residue state beside) accepted in
      removal_room (Unlink path) path removal for accepted found.holder refl refl
      (NamesMove-unlink (untaken P) state.tree state.room (least_free_id state.tree) path (tree (untaken P) I no_residue state beside) accepted)

  rmdir_room : (path : Route) (removal : Removal) → IsRemovalFor P I state (Rmdir path) path removal → refusal_of P state.tree state.room (Rmdir path) ≡ None → IsRoom (after (Rmdir path)) (room_by (Rmdir path) (is_some removal.given_back))
  rmdir_room path removal for accepted =
      let found = Accepted-from_row (untaken P) state.tree state.room (Rmdir path) (tree (untaken P) I no_residue state beside) accepted in
      removal_room (Rmdir path) path removal for accepted found.holder refl refl
      (NamesMove-rmdir (untaken P) state.tree state.room (least_free_id state.tree) path (tree (untaken P) I no_residue state beside) accepted)

  -- ---- a name moves

  -- a name's slot has the number of its node
  slot_names : (path : Route) (d : ℕ) (name : List ℕ) (slot inode : ℕ) → is_root path ≡ false → IsNameAt P I state path d name slot inode → slot_inode P I slot ≡ inode
  slot_names path d name slot inode below at =
      let entry = (entry_law P I state tidy.coherent reads (parent path) d (slot_inode P I slot) name at.directory_is).1 (slot, at.slot_is, refl) in
      let whole = whole_path path below ∙ ap (λ n. parent path ++ n ∷ []) (sym at.name_is) in
      same_some (slot_inode P I slot) inode (sym entry ∙ ap (id_at state.tree) (sym whole) ∙ at.inode_is)

  module _ (from to : Route) (moving : Moving) (for : IsMovingFor P I state from to moving) (found : FoundMove (untaken P) state from to moving) where
    -- the directory that loses the old name gets the new one
    gains_is : (replaced : Option Loss) → IsTargetOf P I state from to moving replaced
        → is_number (gaining state.tree (Rename from to)) moving.from_directory ≡ cond (is_some replaced) false (moving.to_directory == moving.from_directory)
    gains_is None (absent, new) =
        ap (λ o. is_number (cond (is_some o) None (Some (id_of state.tree (parent to)))) moving.from_directory) absent
        ∙ ap (λ x. x == moving.from_directory) (id_is (untaken P) I no_residue state beside (parent to) moving.to_directory new.directory_is)
    gains_is (Some loss) (there, is_loss, no_page) = ap (λ o. is_number (cond (is_some o) None (Some (id_of state.tree (parent to)))) moving.from_directory) there.inode_is

    from_owner : slot_owner P I moving.from_slot ≡ moving.from_directory
    from_owner = for.source.slot_is.owner

    owners_alike : page_of_slot moving.to_slot ≡ page_of_slot moving.from_slot → slot_owner P I moving.to_slot ≡ moving.from_directory
    owners_alike same = owner_is P I moving.to_slot ∙ ap (page_owner P I) same ∙ sym (owner_is P I moving.from_slot) ∙ from_owner

    -- no free page is the source's
    not_free : (page : ℕ) → page_owner P I page ≡ 0 → moving.to_slot ≡ 32 * page → slot_owner P I moving.to_slot ≡ moving.from_directory → ⊥
    not_free page free at owner =
        let (reached, directory) = ((size_law P I state tidy.coherent reads).directories moving.from_directory).0 (holds (untaken P) I no_residue state beside from found.old_holder moving.from_directory for.source.directory_is) in
        let least = (in_range P I tidy.coherent moving.from_directory reached).0 in
        let is = page_is page moving.to_slot (omega (arith, at)) (omega (arith, at)) in
        let none : moving.from_directory ≡ 0 = sym owner ∙ owner_is P I moving.to_slot ∙ ap (page_owner P I) is ∙ free in
        omega (arith, least, none)

    new_elsewhere : (new_page : Option ℕ) → IsPlace P I moving.to_directory moving.to_slot new_page → moving.to_directory ≢ moving.from_directory → slot_owner P I moving.to_slot ≡ moving.from_directory → ⊥
    new_elsewhere None place other owner = other (sym place.vacant.page.owner ∙ owner)
    new_elsewhere (Some page) place other owner = not_free page place.page_is.free.1.0 place.slot_is owner

    -- where the source is alone and its directory gains no name, the target stands in another page
    elsewhere : (replaced : Option Loss) → IsTargetOf P I state from to moving replaced → IsAlone P I moving.from_slot → cond (is_some replaced) false (moving.to_directory == moving.from_directory) ≡ false
        → page_of_slot moving.to_slot ≢ page_of_slot moving.from_slot
    elsewhere None (absent, new) alone gains same =
        new_elsewhere moving.new_page new.place (λ one. true≢false (sym (eq-eqb moving.to_directory moving.from_directory one) ∙ gains)) (owners_alike same)
    elsewhere (Some loss) (there, is_loss, no_page) alone gains same =
        elim (cases_eq moving.to_slot moving.from_slot) [
          | inr other ↦ there.slot_is.slot.live.names (alone moving.to_slot same other)
          | inl one ↦
              let moved = slot_names from moving.from_directory moving.from_name moving.from_slot moving.inode found.old_holder.below for.source in
              let replaced = slot_names to moving.to_directory moving.to_name moving.to_slot loss.inode found.new_holder.below there in
              elim found.move.target [
                | inl name ↦ true≢false (sym (ap is_some there.inode_is) ∙ ap is_some name.absent)
                | inr replace ↦ replace.other (same_some replace.target.id loss.inode (sym replace.target.named ∙ there.inode_is) ∙ sym replaced ∙ ap (slot_inode P I) one ∙ moved)
              ]
        ]

    -- where it isn't full and gains one, the target is vacant in it
    vacant : (replaced : Option Loss) → IsTargetOf P I state from to moving replaced → cond (is_some replaced) false (moving.to_directory == moving.from_directory) ≡ true
        → is_full state.tree state.room moving.from_directory ≡ false → IsVacantSlot P I moving.from_directory moving.to_slot
    vacant None (absent, new) gains room =
        let same = eqb-true moving.to_directory moving.from_directory gains in
        let none = sym (full_by (untaken P) I no_residue state beside to found.new_holder moving.to_directory new.directory_is (apart_nothing P I moving.to_directory) moving.to_slot moving.new_page new.place) ∙ ap (is_full state.tree state.room) same ∙ room in
        subst (λ x. IsVacantSlot P I x moving.to_slot) same (by_page moving.new_page new.place none)
      where
        by_page : (new_page : Option ℕ) → IsPlace P I moving.to_directory moving.to_slot new_page → is_some new_page ≡ false → IsVacantSlot P I moving.to_directory moving.to_slot
        by_page None place none = place.vacant
        by_page (Some page) place none = absurd (true≢false none)
    vacant (Some loss) there gains room = absurd (true≢false (sym gains))

    move_room : refusal_of P state.tree state.room (Rename from to) ≡ None → IsRoom (after (Rename from to)) (room_by (Rename from to) (is_some moving.given_back))
    move_room accepted =
        let d = moving.from_directory in
        let gives = is_some moving.given_back in
        let Emptied = IsEmptiedBy P I moving in
        let words = room_words (untaken P) I no_residue state beside from found.old_holder d for.source.directory_is (apart_nothing P I d) in
        let is_held = holds (untaken P) I no_residue state beside from found.old_holder d for.source.directory_is in
        let old = page_count P I state tidy reads d words is_held in
        let moves = NamesMove-rename (untaken P) state.tree state.room (least_free_id state.tree) from to (tree (untaken P) I no_residue state beside) accepted in
        let loses = ap (λ b. cond b None (Some (id_of state.tree (parent from)))) found.move.differ ∙ ap Some (id_is (untaken P) I no_residue state beside (parent from) d for.source.directory_is) in
        let gains = gains_is moving.replaced for.target in
        name_lost (Rename from to) gives d accepted loses (λ lost stays.
        elim (cond (is_some moving.replaced) false (moving.to_directory == d)) as (λ t. cond (is_some moving.replaced) false (moving.to_directory == d) ≡ t
        → IsPageCount (name_count (after (Rename from to)) d) (pages_after state.tree state.room (Rename from to) gives d)) [
          | true ↦ λ is.
              exchanges state.tree state.room (Rename from to) (after (Rename from to)) moves d lost stays gives old (gains ∙ is)
              (some_page (untaken P) I no_residue state beside from found.old_holder d for.source.directory_is (apart_nothing P I d) moving.from_name moving.from_slot for.source.slot_is)
              (λ room given. let emptied = given_where Emptied moving.from_slot moving.given_back for.given_back given in
              alone_and_vacant P I state tidy reads d words is_held moving.from_name moving.from_slot for.source.slot_is emptied.0 moving.to_slot (vacant moving.replaced for.target is room) emptied.1)
          | false ↦ λ is.
              loses_only state.tree state.room (Rename from to) (after (Rename from to)) moves d lost stays gives old (gains ∙ is)
              (λ given. alone_bound P I state tidy reads d words is_held moving.from_name moving.from_slot for.source.slot_is (given_where Emptied moving.from_slot moving.given_back for.given_back given).0)
              (λ kept. more_names (name_count state.tree d) (pages_in state.room d) Emptied (kept_where Emptied moving.from_slot moving.given_back for.given_back kept) (λ few.
              let alone = alone_where P I state tidy reads d words is_held moving.from_name moving.from_slot for.source.slot_is few in
              (alone, elsewhere moving.replaced for.target alone is)))
        ] refl)

  rename_room : (from to : Route) (action : Action) → refusal_of P state.tree state.room (Rename from to) ≡ None → (same : Bool) → is_same_node state.tree from to ≡ same
      → IsNothingOr same KeepNames (λ action. (moving : Moving) × (action ≡ Move moving) × IsMovingFor P I state from to moving) action → IsRoom (after (Rename from to)) (room_by (Rename from to) (gives_back action))
  rename_room from to action accepted true one plan =
      nothing_lost (Rename from to) (gives_back action) accepted (ap (λ b. cond b None (Some (id_of state.tree (parent from)))) one)
  rename_room from to action accepted false differ (moving, is, for) =
      subst (λ (a : Action). IsRoom (after (Rename from to)) (room_by (Rename from to) (gives_back a))) (sym is)
      (move_room from to moving for (found_move (untaken P) I no_residue state beside from to moving for accepted differ) accepted)

  -- ---- every command

  by_command : (c : Command) (action : Action) → refusal_of P state.tree state.room c ≡ None → IsPlanOf P I state c action → IsRoom (after c) (room_by c (gives_back action))
  by_command (Create path) action accepted plan = nothing_lost (Create path) (gives_back action) accepted refl
  by_command (Mkdir path) action accepted plan = nothing_lost (Mkdir path) (gives_back action) accepted refl
  by_command (Link from to) action accepted plan = nothing_lost (Link from to) (gives_back action) accepted refl
  by_command (Unlink path) action accepted (removal, is, for) =
      subst (λ (a : Action). IsRoom (after (Unlink path)) (room_by (Unlink path) (gives_back a))) (sym is) (unlink_room path removal for accepted)
  by_command (Rmdir path) action accepted (removal, is, for) =
      subst (λ (a : Action). IsRoom (after (Rmdir path)) (room_by (Rmdir path) (gives_back a))) (sym is) (rmdir_room path removal for accepted)
  by_command (Rename from to) action accepted plan = rename_room from to action accepted (is_same_node state.tree from to) refl plan
  by_command (Write path offset bytes) action accepted plan = nothing_lost (Write path offset bytes) (gives_back action) accepted refl
  by_command (Truncate path size) action accepted plan = nothing_lost (Truncate path size) (gives_back action) accepted refl
  by_command (Read path offset count) action accepted plan = nothing_lost (Read path offset count) (gives_back action) accepted refl
  by_command (Tell path) action accepted plan = nothing_lost (Tell path) (gives_back action) accepted refl
  by_command (Show path) action accepted plan = nothing_lost (Show path) (gives_back action) accepted refl
  by_command Df action accepted plan = nothing_lost Df (gives_back action) accepted refl

pub plan_room_law : PlanRoomLaw
plan_room_law P I state c action tidy reads planned =
    subst (λ (U : Tree). IsRoom U (room_after (least_free_id state.tree) state.tree state.room c (gives_back action)))
    (sym (ap (λ o. (outcome_of o (untaken P) (least_free_id state.tree) state.tree state.room c).tree) planned.accepted))
    (by_command P I state tidy reads c action planned.accepted planned.plan_is)
