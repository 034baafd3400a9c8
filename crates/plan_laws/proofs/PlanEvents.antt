-- The events of a plan are those that its command takes.
use Rattle.std.proofs.Common.{◌≡◌, ℕ, ◌+◌, ◌-◌, ◌*◌, Bool, true, false, not, cond, ◌&&◌, ◌||◌, ◌==◌, nat_lt, nat_le, List, length, Option, Some, None, is_some, is_none, Ok, refl, sym, ap, subst, ◌∙◌, arith}
use Rattle.layout.specs.Geometry.{pieces}
use Rattle.layout.specs.declared.kinds.NodeKind.{NodeKind}
use Rattle.layout.specs.declared.kinds.NodeKind.TheVariants.{File, Directory}
use Rattle.tree_model.specs.PathText.{Route}
use Rattle.tree_model.specs.Tree.{parent, is_directory, bytes_of, page_bytes}
use Rattle.tree_model.specs.Capacity.{untaken}
use Rattle.tree_model.specs.Step.{answer_of, outcome_of, refusal_of, least_free_id, id_of, is_there, is_same_node, need}
use Rattle.tree_model.specs.Run.{State}
use Rattle.tree_model.specs.Fences.{one_where, needs_pages, pages_before, size_before}
use Rattle.tree_model.specs.declared.command.Command.{Command}
use Rattle.tree_model.specs.declared.command.Command.TheVariants.{Create, Mkdir, Link, Unlink, Rmdir, Rename, Write, Truncate, Read, Stat as Tell, List as Show, Df}
use Rattle.tree_model.proofs.AcceptedLaws.{Accepted-from_row}
use Rattle.image_reading.specs.Residue.{no_residue}
use Rattle.image_counts.specs.Laws.{ReadsBeside}
use Rattle.image_counts.proofs.Apart.{reads_tidied, apart_nothing}
use Rattle.volume.specs.Moves.{is_directory_kind, inode_of_loss}
use Rattle.volume.specs.declared.plan.Moving.{Moving}
use Rattle.volume.specs.declared.plan.Action.{Action}
use Rattle.volume.specs.declared.plan.Action.TheVariants.{Make, Name, Move, Write as WriteBytes, WriteNothing, Resize, KeepSize, KeepNames}
use Rattle.volume.specs.declared.plan.Loss.{Loss}
use Rattle.volume.specs.declared.plan.NewEntry.{NewEntry}
use Rattle.volume.specs.declared.plan.NewName.{NewName}
use Rattle.volume.specs.Planned.{IsEntryFor, IsMovingFor, IsWritingFor, IsResizingFor, IsPlanOf}
use Rattle.volume.specs.Costs.{count_of, where_true, goes_of, pages_of_loss, fences_for_claim, fence_events, word_events, inode_events, name_events, slot_rest_events, page_events, commit_events, clearing_events, loss_events, span_events, growth_events, place_events, claim_events, new_page_events, links_events, events_of}
use Rattle.volume.specs.LineEvents.{events_for_loss, changes_parent, events_of_new_name, events_of_rename, events_of_line}
use Rattle.plan_laws.specs.Laws.{IsLeftBeside, PlanEventsLaw}
use Rattle.plan_laws.proofs.PlanFacts.{HasLost, nothing_or, nothing_left, left_alone, tree, id_is, claim_steps, unlink_lost, rmdir_lost, found_move, to_directory_is, target_is, move_claims, move_lost}

-- ---- numbers

-- a page is there where one is needed
page_needed : (page : Option ℕ) (needed : ℕ) → fences_for_claim page ≡ needed → is_some page ≡ nat_lt 0 needed
page_needed page needed is = by_page (is_some page) ∙ ap (nat_lt 0) is
  where
    by_page : (b : Bool) → b ≡ nat_lt 0 (where_true b 1)
    by_page true = refl
    by_page false = refl

one_given : (given : Option ℕ) → count_of given ≡ one_where (is_some given)
one_given None = refl
one_given (Some page) = refl

-- the events behind what is lost
loss_is : (state : State) (c : Command) (path : Route) (later : State) (pages : ℕ) (goes : Bool) (given : Option ℕ) → HasLost state c path later pages goes given
    → loss_events (pages + count_of given) goes ≡ events_for_loss state c path later
loss_is state c path later pages goes given lost =
    (λ i. loss_events (lost.pages_are i + one_given given i) goes)
    ∙ (λ i. loss_events (where_true (sym lost.gone_is i) (pages_before state path) + one_where (sym lost.given_is i)) (sym lost.gone_is i))

entry_sum : (place inode links beside claim commit : ℕ) → inode + links ≡ beside → (place + inode + links + fence_events) + claim + commit ≡ (place + beside + fence_events) + claim + commit
entry_sum place inode links beside claim commit is = omega (arith, is)

-- ---- links of a move

rises : (directory leaves : Bool) (replaced : Option Loss) (d : ℕ) → count_of (cond (directory && leaves && is_none replaced) (Some d) None) ≡ one_where (directory && leaves && not (is_some replaced))
rises true true None d = refl
rises true true (Some loss) d = refl
rises true false replaced d = refl
rises false leaves replaced d = refl

falls : (directory leaves : Bool) (replaced : Option Loss) (d : ℕ) → count_of (cond directory (cond (leaves || is_some replaced) (Some d) None) (inode_of_loss replaced)) ≡ one_where ((directory && leaves) || is_some replaced)
falls true true replaced d = refl
falls true false None d = refl
falls true false (Some loss) d = refl
falls false leaves None d = refl
falls false leaves (Some loss) d = refl

-- the events of a move: by its new page, whether a directory moves, and to another parent, whether a node is replaced, and what is lost
abbrev moving_events : Bool → Bool → Bool → Bool → ℕ → ℕ
moving_events new_page directory leaves replaced lost =
    where_true new_page (page_events + fence_events + commit_events)
    + (cond (replaced || new_page) word_events slot_rest_events + one_where (directory && leaves && not replaced) * word_events + fence_events)
    + 2 * commit_events
    + (word_events + clearing_events (one_where ((directory && leaves) || replaced)))
    + lost

moving_is : (moving : Moving) → events_of (Move moving)
    ≡ moving_events (is_some moving.new_page) (is_directory_kind moving.kind) (not (moving.from_directory == moving.to_directory)) (is_some moving.replaced)
    (loss_events (pages_of_loss moving.replaced + count_of moving.given_back) (goes_of moving.replaced))
moving_is moving =
    let directory = is_directory_kind moving.kind in
    let leaves = not (moving.from_directory == moving.to_directory) in
    λ i. new_page_events moving.new_page
    + (cond (is_some moving.replaced || is_some moving.new_page) word_events slot_rest_events + rises directory leaves moving.replaced moving.to_directory i * word_events + fence_events)
    + 2 * commit_events
    + (word_events + clearing_events (falls directory leaves moving.replaced moving.from_directory i))
    + loss_events (pages_of_loss moving.replaced + count_of moving.given_back) (goes_of moving.replaced)

-- nothing is left of what runs
module _ (P : ℕ) (I : List ℕ) (state : State) (beside : ReadsBeside P I no_residue state) where
  -- ---- a new name

  entry_events : (c : Command) (path : Route) (kind : NodeKind) (entry : NewEntry) (more : ℕ) → IsEntryFor P I state path kind entry → inode_events + links_events kind ≡ more
      → fences_for_claim entry.new_page ≡ need state.tree state.room c → events_of (Make entry) ≡ events_of_new_name state c more
  entry_events c path kind entry more for sum claims =
      let page = page_needed entry.new_page (need state.tree state.room c) claims in
      ap (λ k. (place_events entry.new_page + inode_events + links_events k + fence_events) + claim_events entry.new_page + commit_events) for.kind_is
      ∙ entry_sum (place_events entry.new_page) inode_events (links_events kind) more (claim_events entry.new_page) commit_events sum
      ∙ (λ i. (cond (page i) page_events name_events + more + fence_events) + where_true (page i) commit_events + commit_events)

  link_events : (c : Command) (link : NewName) → fences_for_claim link.new_page ≡ need state.tree state.room c → events_of (Name link) ≡ events_of_new_name state c word_events
  link_events c link claims =
      let page = page_needed link.new_page (need state.tree state.room c) claims in
      λ i. (cond (page i) page_events name_events + word_events + fence_events) + where_true (page i) commit_events + commit_events

  -- ---- a name moves

  move_events : (later : State) (from to : Route) (moving : Moving) → IsMovingFor P I state from to moving → is_same_node state.tree from to ≡ false → refusal_of P state.tree state.room (Rename from to) ≡ None
      → IsLeftBeside (least_free_id state.tree) state (Rename from to) (Move moving) later
      → events_of (Move moving) ≡ moving_events (needs_pages state (Rename from to)) (is_directory state.tree (id_of state.tree from)) (changes_parent state from to) (is_there state.tree to)
      (events_for_loss state (Rename from to) to later)
  move_events later from to moving for differ accepted left =
      let found = found_move (untaken P) I no_residue state beside from to moving for accepted differ in
      let page = page_needed moving.new_page (need state.tree state.room (Rename from to)) (move_claims (untaken P) I no_residue state beside from to moving for found (nothing_left P I state.tree (Rename from to)) moving.replaced for.target) in
      let directory = sym for.kind_is ∙ ap (is_directory state.tree) (sym (id_is (untaken P) I no_residue state beside from moving.inode for.source.inode_is)) in
      let old = sym (id_is (untaken P) I no_residue state beside (parent from) moving.from_directory for.source.directory_is) in
      let new = sym (id_is (untaken P) I no_residue state beside (parent to) moving.to_directory (to_directory_is (untaken P) I no_residue state beside from to moving for found moving.replaced for.target)) in
      let replaced = target_is (untaken P) I no_residue state beside from to moving for found moving.replaced for.target in
      let lost = loss_is state (Rename from to) to later (pages_of_loss moving.replaced) (goes_of moving.replaced) moving.given_back
      (move_lost (untaken P) I no_residue state beside from to moving for found (least_free_id state.tree) later (nothing_left P I state.tree (Rename from to)) left moving.replaced for.target) in
      moving_is moving ∙ (λ i. moving_events (page i) (directory i) (not (old i == new i)) (replaced i) (lost i))

  rename_events : (later : State) (from to : Route) (action : Action) → refusal_of P state.tree state.room (Rename from to) ≡ None → IsPlanOf P I state (Rename from to) action → IsLeftBeside (least_free_id state.tree) state (Rename from to) action later
      → events_of action ≡ events_of_rename state from to later
  rename_events later from to action accepted plan left =
      nothing_or events_of Move (IsMovingFor P I state from to) KeepNames refl action (is_same_node state.tree from to) _ plan (λ differ moving is for.
      move_events later from to moving for differ accepted (subst (λ (d : Action). IsLeftBeside (least_free_id state.tree) state (Rename from to) d later) is left))

  -- ---- a file's bytes

  write_events : (later : State) (path : Route) (offset : ℕ) (bytes : List ℕ) (action : Action) → IsPlanOf P I state (Write path offset bytes) action
      → events_of action ≡ events_of_line state (Ok (Write path offset bytes)) (answer_of (untaken P) state.tree state.room (Write path offset bytes)) later
  write_events later path offset bytes action plan =
      nothing_or events_of WriteBytes (IsWritingFor P I state path offset bytes) WriteNothing refl action (length bytes == 0) _ plan (λ some writing is for.
      let old = for.size_is ∙ ap (λ id. length (bytes_of state.tree id)) (sym (id_is (untaken P) I no_residue state beside path writing.inode for.inode_is)) in
      λ i. cond (nat_le (for.offset_is i + for.count_is i) (old i)) (span_events (for.offset_is i) (for.offset_is i + for.count_is i) + fence_events)
      (growth_events (old i) (for.offset_is i) (for.new_pages.count_is i)))

  truncate_events : (later : State) (path : Route) (size : ℕ) (action : Action) → IsPlanOf P I state (Truncate path size) action
      → events_of action ≡ events_of_line state (Ok (Truncate path size)) (answer_of (untaken P) state.tree state.room (Truncate path size)) later
  truncate_events later path size action plan =
      nothing_or events_of Resize (IsResizingFor P I state path size) KeepSize refl action (size == size_before state path) _ plan (λ some resizing is for.
      let old = for.old_is ∙ ap (λ id. length (bytes_of state.tree id)) (sym (id_is (untaken P) I no_residue state beside path resizing.inode for.inode_is)) in
      let cut = for.cut_is ∙ ap (λ n. pieces n page_bytes - pieces size page_bytes) old in
      λ i. cond (nat_lt (old i) (for.new_is i)) (growth_events (old i) (old i) (for.new_pages.count_is i)) (commit_events + loss_events (cut i) false))

  -- ---- every command

  by_command : (later : State) (c : Command) (action : Action) → refusal_of P state.tree state.room c ≡ None → IsPlanOf P I state c action → IsLeftBeside (least_free_id state.tree) state c action later
      → events_of action ≡ events_of_line state (Ok c) (answer_of (untaken P) state.tree state.room c) later
  by_command later (Create path) action accepted (entry, is, for) left =
      let found = Accepted-from_row (untaken P) state.tree state.room (Create path) (tree (untaken P) I no_residue state beside) accepted in
      ap events_of is ∙ entry_events (Create path) path File entry inode_events for refl (claim_steps (untaken P) I no_residue state beside path found.place.holder entry.directory for.directory_is (apart_nothing P I entry.directory) entry.slot entry.new_page for.place)
  by_command later (Mkdir path) action accepted (entry, is, for) left =
      let found = Accepted-from_row (untaken P) state.tree state.room (Mkdir path) (tree (untaken P) I no_residue state beside) accepted in
      ap events_of is
      ∙ entry_events (Mkdir path) path Directory entry (inode_events + word_events) for refl (claim_steps (untaken P) I no_residue state beside path found.place.holder entry.directory for.directory_is (apart_nothing P I entry.directory) entry.slot entry.new_page for.place)
  by_command later (Link from to) action accepted (link, is, for) left =
      let found = Accepted-from_row (untaken P) state.tree state.room (Link from to) (tree (untaken P) I no_residue state beside) accepted in
      ap events_of is ∙ link_events (Link from to) link (claim_steps (untaken P) I no_residue state beside to found.place.holder link.directory for.new_name.directory_is (apart_nothing P I link.directory) link.slot link.new_page for.new_name.place)
  by_command later (Unlink path) action accepted (removal, is, for) left =
      ap events_of is ∙ ap (λ n. commit_events + clearing_events 1 + n) (loss_is state (Unlink path) path later removal.loss.pages removal.loss.goes removal.given_back
      (unlink_lost (untaken P) I no_residue state beside (least_free_id state.tree) later path removal (nothing_left P I state.tree (Unlink path)) for accepted (subst (λ (d : Action). IsLeftBeside (least_free_id state.tree) state (Unlink path) d later) is left)))
  by_command later (Rmdir path) action accepted (removal, is, for) left =
      ap events_of is ∙ ap (λ n. commit_events + clearing_events 1 + n) (loss_is state (Rmdir path) path later removal.loss.pages removal.loss.goes removal.given_back
      (rmdir_lost (untaken P) I no_residue state beside (least_free_id state.tree) later path removal (nothing_left P I state.tree (Rmdir path)) for accepted (subst (λ (d : Action). IsLeftBeside (least_free_id state.tree) state (Rmdir path) d later) is left)))
  by_command later (Rename from to) action accepted plan left = rename_events later from to action accepted plan left
  by_command later (Write path offset bytes) action accepted plan left = write_events later path offset bytes action plan
  by_command later (Truncate path size) action accepted plan left = truncate_events later path size action plan
  by_command later (Read path offset count) action accepted (reading, is, for) left = ap events_of is
  by_command later (Tell path) action accepted is left = ap events_of is
  by_command later (Show path) action accepted is left = ap events_of is
  by_command later Df action accepted is left = ap events_of is

pub plan_events_law : PlanEventsLaw
plan_events_law P I state later c action tidy reads planned left =
    by_command P I state (reads_tidied P I state tidy reads) later c action planned.accepted planned.plan_is (left_alone P state c action later planned.accepted left)
    ∙ ap (λ a. events_of_line state (Ok c) a later) (sym (ap (λ o. (outcome_of o (untaken P) (least_free_id state.tree) state.tree state.room c).answer) planned.accepted))
