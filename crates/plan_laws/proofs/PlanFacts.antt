-- What the action of a plan tells of the state before and of the one that it leaves, where running calls have left nothing of what its
-- command names.
use Rattle.std.proofs.Common.{◌≡◌, ◌≢◌, ℕ, zero, suc, ◌+◌, ◌-◌, ◌*◌, ◌≤◌, inl, inr, Bool, true, false, cond, ◌&&◌, List, [], ◌∷◌, reverse, Option, Some, None, is_some, is_none, unwrap_or, refl, sym, ap, subst, ◌∙◌, arith, eq-eqb, eqb-true, true≢false}
use Rattle.std.specs.List.{Contains}
use Rattle.std.proofs.lemmas.Bool.{false_from_ne_true}
use Rattle.layout.specs.Geometry.{pieces, page_of_slot}
use Rattle.layout.proofs.GeometryLaws.{page_of_slot_below}
use Rattle.layout.specs.Fields.{inode_size}
use Rattle.tree_model.specs.PathText.{Route}
use Rattle.tree_model.specs.Table.{get}
use Rattle.tree_model.specs.Tree.{Tree, IsTree, IsRoom, root_id, parent, is_number, id_at, node_at, is_directory, is_directory_node, bytes_of, bytes_of_node, name_count, pages_in, file_pages}
use Rattle.tree_model.specs.Capacity.{Supply, untaken}
use Rattle.tree_model.specs.Accepted.{HasHolder, MayMove}
use Rattle.tree_model.specs.Step.{outcome_of, refusal_of, refusal_with, least_free_id, tree_after, room_after, id_of, is_full, is_same_node, gaining, losing, page_for_name, need, without_path, without_unnamed, with_moved}
use Rattle.tree_model.specs.Run.{State}
use Rattle.tree_model.specs.Fences.{one_where, gave, gone, pages_before, is_gone}
use Rattle.tree_model.specs.declared.command.Command.{Command}
use Rattle.tree_model.specs.declared.command.Command.TheVariants.{Unlink, Rmdir, Rename}
use Rattle.tree_model.proofs.AcceptedLaws.{Accepted-from_row}
use Rattle.tree_model.proofs.NodeLaws.{file_is, no_bytes}
use Rattle.tree_model.proofs.RoomChanges.{gave-chosen}
use Rattle.tree_model.proofs.RoomLaws.{IsPageCount-from_room}
use Rattle.tree_model.proofs.TreeLess.{HasNoNames, HasNoNames-file, HasNoNames-empty, HasNoNames-absent}
use Rattle.naming_laws.specs.Naming.{paths_of}
use Rattle.naming_laws.proofs.Named.{at_first, at_second, at_third, at_fourth, names_at}
use Rattle.image_reading.specs.Counts.{Count}
use Rattle.image_reading.specs.Reading.{IsDirectory, IsFile, slot_owner, Reached, pages_of_size}
use Rattle.image_reading.specs.Residue.{Residue, no_residue}
use Rattle.image_reading.specs.Soundness.{Rule}
use Rattle.image_reading.proofs.Counts.{count_one}
use Rattle.image_counts.specs.Entries.{IsEntryOf, IsPageIn}
use Rattle.image_counts.specs.Laws.{HasRoomWords, IsApart, ReadsBeside}
use Rattle.image_counts.proofs.Apart.{apart_nothing}
use Rattle.image_counts.proofs.Beside.{room_beside_law, file_pages_beside_law}
use Rattle.image_counts.proofs.Counting.{none_counted}
use Rattle.image_counts.proofs.Nodes.{size_law}
use Rattle.image_counts.proofs.States.{state_law}
use Rattle.volume.specs.declared.plan.Moving.{Moving}
use Rattle.volume.specs.declared.plan.Action.{Action}
use Rattle.volume.specs.declared.plan.Action.TheVariants.{Remove, Move}
use Rattle.volume.specs.declared.plan.Loss.{Loss}
use Rattle.volume.specs.declared.plan.Removal.{Removal}
use Rattle.volume.specs.Planned.{IsPlace, IsLossOf, IsTargetOf, IsRemovalFor, IsMovingFor, IsNothingOr}
use Rattle.volume.specs.Costs.{where_true, goes_of, pages_of_loss, fences_for_claim}
use Rattle.volume.proofs.Staying.{removal_stays, move_stays}
use Rattle.plan_laws.specs.Laws.{NamesApart, IsLeftBy, IsLeftBeside}

-- What is counted of actions: nothing is to be done, of which there is none, or the plan is made of some x.
module _ {A : Type 0} (count : Action → ℕ) (make : A → Action) (For : A → Type 0) (nothing : Action) (idle : count nothing ≡ 0) (action : Action) where
  pub nothing_or : (b : Bool) (n : ℕ) → IsNothingOr b nothing (λ action. (x : A) × (action ≡ make x) × For x) action → (b ≡ false → (x : A) → action ≡ make x → For x → count (make x) ≡ n)
      → count action ≡ cond b 0 n
  nothing_or true n plan some = ap count plan ∙ idle
  nothing_or false n (x, is, for) some = ap count is ∙ some refl x is for

-- what the path's node, and the directory that loses its name, lose by a command
pub record HasLost (state : State) (c : Command) (path : Route) (later : State) (pages : ℕ) (goes : Bool) (given : Option ℕ) : Type 0 where
  pub given_is : gave state c later ≡ is_some given
  pub gone_is : gone state path later ≡ goes
  pub pages_are : pages ≡ where_true goes (pages_before state path)

-- what an accepted rename of two nodes found
pub record FoundMove (supply : Supply) (state : State) (from to : Route) (moving : Moving) : Type 0 where
  pub old_holder : HasHolder state.tree from
  pub new_holder : HasHolder state.tree to
  pub move : MayMove supply state.tree state.room from to moving.inode

by_going : (goes : Bool) (pages before : ℕ) → (goes ≡ true → pages ≡ before) → (goes ≡ false → pages ≡ 0) → pages ≡ where_true goes before
by_going true pages before gone stays = gone refl
by_going false pages before gone stays = stays refl

pub same_some : (x y : ℕ) → ◌≡◌ {A = Option ℕ} (Some x) (Some y) → x ≡ y
same_some x y e = cc

no_pages : (names : ℕ) (o : Option ℕ) → ((k : ℕ) → o ≡ Some k → k ≤ names) → names ≡ 0 → unwrap_or o 0 ≡ 0
no_pages names None most none = refl
no_pages names (Some k) most none = let few = most k refl in omega (arith, few, none)

at_least_one : (n : ℕ) → n ≢ 0 → 1 ≤ n
at_least_one zero some = absurd (some refl)
at_least_one (suc n) some = omega arith

kept_some : (loses : Bool) (n : ℕ) → 1 ≤ n → 1 ≤ cond (loses && false) (n - 1) n
kept_some true n some = some
kept_some false n some = some

-- nothing is left of any node where nothing is left at all
pub nothing_left : (P : ℕ) (I : List ℕ) (T : Tree) (c : Command) → NamesApart P I no_residue T c
nothing_left P I T c i named = apart_nothing P I i

-- what an accepted command leaves where others hold nothing
pub left_alone : (P : ℕ) (state : State) (c : Command) (action : Action) (later : State) → refusal_of P state.tree state.room c ≡ None → IsLeftBy P state c action later → IsLeftBeside (least_free_id state.tree) state c action later
left_alone P state c action later accepted left = record {
  tree = left.tree ∙ ap (λ o. (outcome_of o (untaken P) (least_free_id state.tree) state.tree state.room c).tree) accepted;
  room = left.room;
  fits = left.fits;
}

module _ (supply : Supply) (I : List ℕ) (residue : Residue) (state : State) (beside : ReadsBeside supply.pages I residue state) where
  pub tree : IsTree state.tree
  tree = (state_law supply.pages I state beside.coherent beside.reads).tree

  pub id_is : (path : Route) (id : ℕ) → id_at state.tree path ≡ Some id → id_of state.tree path ≡ id
  id_is path id named = ap (λ o. unwrap_or o root_id) named

  -- nothing is left of what stands at a path of the command
  pub apart_at : (c : Command) → NamesApart supply.pages I residue state.tree c → (path : Route) (id : ℕ) → Contains (paths_of c) path → id_at state.tree path ≡ Some id → IsApart supply.pages I residue id
  apart_at c apart path id among named = apart id (names_at state.tree tree c path id among named)

  -- ---- a name's directory

  pub holds : (path : Route) → HasHolder state.tree path → (d : ℕ) → id_at state.tree (parent path) ≡ Some d → is_directory state.tree d ≡ true
  holds path holder d held = ap (is_directory state.tree) (same_some d holder.directory (sym held ∙ holder.held)) ∙ holder.holds

  module _ (path : Route) (holder : HasHolder state.tree path) (d : ℕ) (held : id_at state.tree (parent path) ≡ Some d) (apart : IsApart supply.pages I residue d) where
    pub room_words : HasRoomWords supply.pages I state d
    room_words =
        let (reached, is) = ((size_law supply.pages I state beside.coherent beside.reads).directories d).0 (holds path holder d held) in
        room_beside_law supply.pages I residue state beside d reached is apart

    pub full_by : (slot : ℕ) (new_page : Option ℕ) → IsPlace supply.pages I d slot new_page → is_full state.tree state.room d ≡ is_some new_page
    full_by slot None place = false_from_ne_true (is_full state.tree state.room d) (λ full.
        room_words.full.0 (eqb-true (name_count state.tree d) (32 * pages_in state.room d) full) slot place.vacant.page place.vacant.vacant)
    full_by slot (Some page) place =
        eq-eqb (name_count state.tree d) (32 * pages_in state.room d) (room_words.full.1 (λ s inside vacant. place.full s (record { page = inside; vacant = vacant })))

    -- a fence where it needs a page
    pub claim_steps : (slot : ℕ) (new_page : Option ℕ) → IsPlace supply.pages I d slot new_page → fences_for_claim new_page ≡ page_for_name state.tree state.room (Some (id_of state.tree (parent path)))
    claim_steps slot new_page place =
        ap one_where (sym (full_by slot new_page place))
        ∙ ap (λ id. page_for_name state.tree state.room (Some id)) (sym (id_is (parent path) d held))

    -- a directory with a name has a page
    pub some_page : (name : List ℕ) (slot : ℕ) → IsEntryOf supply.pages I d name slot → 1 ≤ pages_in state.room d
    unfolding slot_owner
    some_page name slot entry = at_least_one (pages_in state.room d) (λ none.
        none_counted (IsPageIn supply.pages I d) (subst (Count (IsPageIn supply.pages I d)) none room_words.pages) (page_of_slot slot)
        (record { in_range = page_of_slot_below supply.pages slot entry.slot.live.held.in_range; owner = entry.owner }))

    -- what it gave back is what the action gives back
    gave_is : (n : ℕ) (c : Command) (later : State) (gives : Bool) (name : List ℕ) (slot : ℕ) → IsEntryOf supply.pages I d name slot → losing state.tree c ≡ Some d → is_directory (tree_after n state.tree c) d ≡ true
        → later.room ≡ room_after n state.tree state.room c gives → IsRoom (tree_after n state.tree c) later.room → gave state c later ≡ gives
    gave_is n c later gives name slot entry loses stays room fits =
        let some = some_page name slot entry in
        gave-chosen n state c later d loses stays
        (kept_some (is_number (losing state.tree c) d) (pages_in state.room d + cond (is_number (gaining state.tree c) d) (page_for_name state.tree state.room (Some d)) 0) (omega (arith, some)))
        (gives, room, fits)

  -- ---- the pages of a node that goes

  module _ (c : Command) (loss : Loss) (path : Route) (named : id_at state.tree path ≡ Some loss.inode) (apart : IsApart supply.pages I residue loss.inode) (is_loss : IsLossOf supply.pages I state c loss) (empty : is_directory state.tree loss.inode ≡ true → name_count state.tree loss.inode ≡ 0) where
    reached : Reached supply.pages I loss.inode
    reached = (reverse path, (beside.reads.tree.names path loss.inode).0 named)

    before_is : pages_before state path ≡ file_pages (bytes_of state.tree loss.inode)
    before_is = ap (λ id. file_pages (bytes_of state.tree id)) (id_is path loss.inode named)

    pages_of_file : IsFile I loss.inode → loss.goes ≡ true → loss.pages ≡ pages_before state path
    unfolding pages_of_size
    pages_of_file file goes =
        let (bytes, is) = file_is (node_at state.tree loss.inode) (((size_law supply.pages I state beside.coherent beside.reads).files loss.inode).1 (reached, file)) in
        let long = (size_law supply.pages I state beside.coherent beside.reads).sizes loss.inode bytes is in
        count_one (IsPageIn supply.pages I loss.inode) loss.pages (pages_of_size (inode_size I loss.inode)) (is_loss.pages goes) (file_pages_beside_law supply.pages I residue state beside loss.inode reached file apart)
        ∙ ap (λ n. pieces n 4096) (sym long) ∙ ap (λ o. file_pages (bytes_of_node o)) (sym is) ∙ sym before_is

    pages_of_directory : IsDirectory I loss.inode → loss.goes ≡ true → loss.pages ≡ pages_before state path
    pages_of_directory is goes =
        let directory = ((size_law supply.pages I state beside.coherent beside.reads).directories loss.inode).1 (reached, is) in
        let none = no_pages (name_count state.tree loss.inode) (get state.room loss.inode)
        (λ k stands. (IsPageCount-from_room state.tree state.room (state_law supply.pages I state beside.coherent beside.reads).room loss.inode k stands).most) (empty directory) in
        count_one (IsPageIn supply.pages I loss.inode) loss.pages (pages_in state.room loss.inode) (is_loss.pages goes) (room_beside_law supply.pages I residue state beside loss.inode reached is apart).pages
        ∙ none ∙ ap file_pages (sym (no_bytes (node_at state.tree loss.inode) directory)) ∙ sym before_is

    pages_are : loss.goes ≡ true → loss.pages ≡ pages_before state path
    pages_are goes = elim ((beside.coherent Rule.kinds loss.inode).kind reached) [ inl file ↦ pages_of_file file goes | inr is ↦ pages_of_directory is goes ]

    has_lost : (later : State) (given : Option ℕ) → later.tree ≡ tree_after (least_free_id state.tree) state.tree c → gave state c later ≡ is_some given → HasLost state c path later loss.pages loss.goes given
    has_lost later given after gives = record {
      given_is = gives;
      gone_is = ap (λ o. is_gone o later) named ∙ ap (λ (T : Tree). is_none (node_at T loss.inode)) after ∙ sym is_loss.goes_is;
      pages_are = by_going loss.goes loss.pages (pages_before state path) pages_are is_loss.no_pages;
    }

  -- ---- what a command leaves

  fits_after : (n : ℕ) (later : State) (c : Command) (action : Action) → IsLeftBeside n state c action later → IsRoom (tree_after n state.tree c) later.room
  fits_after n later c action left = subst (λ (T : Tree). IsRoom T later.room) left.tree left.fits

  -- ---- a name is taken away, by a command that makes no node: it leaves the same tree whatever id a new one would get

  module _ (n : ℕ) (later : State) (c : Command) (path : Route) (removal : Removal) (for : IsRemovalFor supply.pages I state c path removal) (left : IsLeftBeside n state c (Remove removal) later)
      (after : later.tree ≡ tree_after (least_free_id state.tree) state.tree c) (holder : HasHolder state.tree path) (loses : losing state.tree c ≡ Some (id_of state.tree (parent path)))
      (stays : is_directory (tree_after n state.tree c) removal.directory ≡ true) (empty : is_directory state.tree removal.loss.inode ≡ true → name_count state.tree removal.loss.inode ≡ 0)
      (directory_apart : IsApart supply.pages I residue removal.directory) (node_apart : IsApart supply.pages I residue removal.loss.inode) where
    removal_lost : HasLost state c path later removal.loss.pages removal.loss.goes removal.given_back
    removal_lost =
        has_lost c removal.loss path for.named.inode_is node_apart for.loss empty later removal.given_back after
        (gave_is path holder removal.directory for.named.directory_is directory_apart n c later (is_some removal.given_back) removal.name removal.slot for.named.slot_is
        (loses ∙ ap Some (id_is (parent path) removal.directory for.named.directory_is)) stays left.room (fits_after n later c (Remove removal) left))

  pub unlink_lost : (n : ℕ) (later : State) (path : Route) (removal : Removal) → NamesApart supply.pages I residue state.tree (Unlink path) → IsRemovalFor supply.pages I state (Unlink path) path removal
      → refusal_with supply state.tree state.room (Unlink path) ≡ None → IsLeftBeside n state (Unlink path) (Remove removal) later → HasLost state (Unlink path) path later removal.loss.pages removal.loss.goes removal.given_back
  unlink_lost n later path removal apart for accepted left =
      let found = Accepted-from_row supply state.tree state.room (Unlink path) tree accepted in
      let file = ap is_directory_node found.source.file in
      let same = same_some removal.loss.inode found.source.id (sym for.named.inode_is ∙ found.source.named) in
      removal_lost n later (Unlink path) path removal for left left.tree found.holder refl
      (removal_stays state.tree tree path removal.directory found.holder.below (HasNoNames-file state.tree tree path found.source.id found.source.named file) for.named.directory_is
      (holds path found.holder removal.directory for.named.directory_is))
      (λ directory. absurd (true≢false (sym directory ∙ ap (is_directory state.tree) same ∙ file)))
      (apart_at (Unlink path) apart (parent path) removal.directory (at_second path (parent path) []) for.named.directory_is)
      (apart_at (Unlink path) apart path removal.loss.inode (at_first path (parent path ∷ [])) for.named.inode_is)

  pub rmdir_lost : (n : ℕ) (later : State) (path : Route) (removal : Removal) → NamesApart supply.pages I residue state.tree (Rmdir path) → IsRemovalFor supply.pages I state (Rmdir path) path removal
      → refusal_with supply state.tree state.room (Rmdir path) ≡ None → IsLeftBeside n state (Rmdir path) (Remove removal) later → HasLost state (Rmdir path) path later removal.loss.pages removal.loss.goes removal.given_back
  rmdir_lost n later path removal apart for accepted left =
      let found = Accepted-from_row supply state.tree state.room (Rmdir path) tree accepted in
      let same = same_some removal.loss.inode found.source.id (sym for.named.inode_is ∙ found.source.named) in
      removal_lost n later (Rmdir path) path removal for left left.tree found.holder refl
      (removal_stays state.tree tree path removal.directory found.holder.below (HasNoNames-empty state.tree path found.source.id found.source.named found.empty) for.named.directory_is
      (holds path found.holder removal.directory for.named.directory_is))
      (λ directory. ap (name_count state.tree) same ∙ found.empty)
      (apart_at (Rmdir path) apart (parent path) removal.directory (at_second path (parent path) []) for.named.directory_is)
      (apart_at (Rmdir path) apart path removal.loss.inode (at_first path (parent path ∷ [])) for.named.inode_is)

  -- ---- a name moves

  pub found_move : (from to : Route) (moving : Moving) → IsMovingFor supply.pages I state from to moving → refusal_with supply state.tree state.room (Rename from to) ≡ None → is_same_node state.tree from to ≡ false → FoundMove supply state from to moving
  found_move from to moving for accepted differ =
      let found = Accepted-from_row supply state.tree state.room (Rename from to) tree accepted in
      let same = same_some found.source.id moving.inode (sym found.source.named ∙ for.source.inode_is) in
      elim found.moves [
        | inl one ↦ absurd (true≢false (sym one ∙ differ))
        | inr move ↦ record { old_holder = found.old_holder; new_holder = found.new_holder; move = subst (λ (id : ℕ). MayMove supply state.tree state.room from to id) same move }
      ]

  module _ (from to : Route) (moving : Moving) (for : IsMovingFor supply.pages I state from to moving) (found : FoundMove supply state from to moving) where
    nothing_below : HasNoNames state.tree to
    nothing_below = elim found.move.target [
      | inl name ↦ HasNoNames-absent state.tree tree to name.absent
      | inr replace ↦ HasNoNames-empty state.tree to replace.target.id replace.target.named replace.empty
    ]

    pub source_stays : is_directory (tree_after (least_free_id state.tree) state.tree (Rename from to)) moving.from_directory ≡ true
    source_stays =
        ap (λ b. is_directory (cond b state.tree (without_unnamed (with_moved (without_path state.tree to) from to))) moving.from_directory) found.move.differ
        ∙ move_stays state.tree tree from to found.new_holder.directory moving.from_directory found.old_holder.below found.new_holder.below found.new_holder.held found.new_holder.holds nothing_below found.move.outside
        (ap is_some for.source.inode_is) for.source.directory_is (holds from found.old_holder moving.from_directory for.source.directory_is)

    target_empty : (loss : Loss) → id_at state.tree to ≡ Some loss.inode → name_count state.tree loss.inode ≡ 0
    target_empty loss named = elim found.move.target [
      | inl name ↦ absurd (true≢false (sym (ap is_some named) ∙ ap is_some name.absent))
      | inr replace ↦ ap (name_count state.tree) (same_some loss.inode replace.target.id (sym named ∙ replace.target.named)) ∙ replace.empty
    ]

    -- the target's directory, and whether a node stands there
    pub to_directory_is : (replaced : Option Loss) → IsTargetOf supply.pages I state from to moving replaced → id_at state.tree (parent to) ≡ Some moving.to_directory
    to_directory_is None (absent, new) = new.directory_is
    to_directory_is (Some loss) (there, is_loss, no_page) = there.directory_is

    pub target_is : (replaced : Option Loss) → IsTargetOf supply.pages I state from to moving replaced → is_some replaced ≡ is_some (id_at state.tree to)
    target_is None (absent, new) = ap is_some (sym absent)
    target_is (Some loss) (there, is_loss, no_page) = ap is_some (sym there.inode_is)

    pub move_claims : NamesApart supply.pages I residue state.tree (Rename from to) → (replaced : Option Loss) → IsTargetOf supply.pages I state from to moving replaced
        → fences_for_claim moving.new_page ≡ need state.tree state.room (Rename from to)
    move_claims apart None (absent, new) =
        claim_steps to found.new_holder moving.to_directory new.directory_is
        (apart_at (Rename from to) apart (parent to) moving.to_directory (at_fourth from (parent from) to (parent to) []) new.directory_is) moving.to_slot moving.new_page new.place
        ∙ ap (λ o. page_for_name state.tree state.room (cond (is_some o) None (Some (id_of state.tree (parent to))))) (sym absent)
    move_claims apart (Some loss) (there, is_loss, no_page) =
        ap fences_for_claim no_page ∙ ap (λ o. page_for_name state.tree state.room (cond (is_some o) None (Some (id_of state.tree (parent to))))) (sym there.inode_is)

    module _ (n : ℕ) (later : State) (apart : NamesApart supply.pages I residue state.tree (Rename from to)) (left : IsLeftBeside n state (Rename from to) (Move moving) later) where
      source_gave : gave state (Rename from to) later ≡ is_some moving.given_back
      source_gave =
          gave_is from found.old_holder moving.from_directory for.source.directory_is
          (apart_at (Rename from to) apart (parent from) moving.from_directory (at_second from (parent from) (to ∷ parent to ∷ [])) for.source.directory_is)
          n (Rename from to) later (is_some moving.given_back) moving.from_name moving.from_slot for.source.slot_is
          (ap (λ b. cond b None (Some (id_of state.tree (parent from)))) found.move.differ ∙ ap Some (id_is (parent from) moving.from_directory for.source.directory_is))
          source_stays left.room (fits_after n later (Rename from to) (Move moving) left)

      pub move_lost : (replaced : Option Loss) → IsTargetOf supply.pages I state from to moving replaced
          → HasLost state (Rename from to) to later (pages_of_loss replaced) (goes_of replaced) moving.given_back
      move_lost None (absent, new) = record { given_is = source_gave; gone_is = ap (λ o. is_gone o later) absent; pages_are = refl }
      move_lost (Some loss) (there, is_loss, no_page) =
          has_lost (Rename from to) loss to there.inode_is (apart_at (Rename from to) apart to loss.inode (at_third from (parent from) to (parent to ∷ [])) there.inode_is) is_loss
          (λ directory. target_empty loss there.inode_is) later moving.given_back left.tree source_gave
