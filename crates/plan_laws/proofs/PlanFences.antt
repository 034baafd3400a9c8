-- The fences of a plan are those that its command takes, beside calls that have left nothing of what it names.
use Rattle.std.proofs.Common.{◌≡◌, ℕ, suc, ◌+◌, ◌-◌, ◌*◌, Bool, true, false, cond, ◌&&◌, ◌||◌, ◌==◌, nat_lt, nat_le, List, [], ◌∷◌, length, Option, Some, None, is_some, is_none, Ok, add-zero, refl, sym, ap, subst, ◌∙◌, arith}
use Rattle.std.specs.List.{Contains}
use Rattle.std.proofs.lemmas.Bool.Decides.{nat_tests}
use Rattle.layout.specs.Geometry.{pieces}
use Rattle.tree_model.specs.PathText.{Route}
use Rattle.tree_model.specs.Tree.{Tree, parent, id_at, node_at, bytes_of, page_bytes, file_pages}
use Rattle.tree_model.specs.Capacity.{Supply, untaken}
use Rattle.tree_model.specs.Accepted.{HasHolder}
use Rattle.tree_model.specs.Step.{answer_of, outcome_of, refusal_with, least_free_id, id_of, is_same_node, page_for_name, need}
use Rattle.tree_model.specs.Run.{State}
use Rattle.tree_model.specs.Fences.{fences_of, fences_of_accepted, one_where, gave, gone, pages_before, size_before, is_gone, fences_for_loss as fences_of_lost}
use Rattle.tree_model.specs.declared.command.Command.{Command}
use Rattle.tree_model.specs.declared.command.Command.TheVariants.{Create, Mkdir, Link, Unlink, Rmdir, Rename, Write, Truncate, Read, Stat as Tell, List as Show, Df}
use Rattle.tree_model.proofs.AcceptedLaws.{Accepted-from_row}
use Rattle.tree_model.proofs.NodeLaws.{no_bytes}
use Rattle.naming_laws.specs.Naming.{paths_of}
use Rattle.naming_laws.proofs.Named.{at_second, at_third}
use Rattle.image_reading.specs.Residue.{Residue, no_residue}
use Rattle.image_counts.specs.Laws.{ReadsBeside}
use Rattle.image_counts.proofs.Apart.{reads_tidied}
use Rattle.volume.specs.declared.plan.Moving.{Moving}
use Rattle.volume.specs.declared.plan.Action.{Action}
use Rattle.volume.specs.declared.plan.Action.TheVariants.{Remove, Move, Write as WriteBytes, WriteNothing, Resize, KeepSize, KeepNames}
use Rattle.volume.specs.declared.plan.Removal.{Removal}
use Rattle.volume.specs.Planned.{IsPlace, IsRemovalFor, IsMovingFor, IsWritingFor, IsResizingFor, IsPlanOf}
use Rattle.volume.specs.Costs.{count_of, where_true, goes_of, pages_of_loss, fences_of_plan, fences_for_claim, fences_for_page, fences_for_loss, fences_for_growth}
use Rattle.plan_laws.specs.Laws.{NamesApart, IsLeftBeside, PlanFencesLaw, PlanFencesBesideLaw}
use Rattle.plan_laws.proofs.PlanFacts.{HasLost, nothing_or, nothing_left, left_alone, tree, id_is, apart_at, claim_steps, unlink_lost, rmdir_lost, found_move, move_claims, move_lost}

-- ---- numbers

-- some page loses its owner: a directory's, or one of a node that goes
some_lost : (before : ℕ) (given : Option ℕ) (goes : Bool) → nat_lt 0 (where_true goes before + count_of given) ≡ is_some given || (goes && nat_lt 0 before)
some_lost before (Some page) goes = some (where_true goes before)
  where
    some : (n : ℕ) → nat_lt 0 (n + 1) ≡ true
    some n = grind (arith, nat_tests)
some_lost before None true = ap (nat_lt 0) (add-zero before)
some_lost before None false = refl

-- so the steps of what is lost are those of the tree
lost_steps : (some given goes owned : Bool) → some ≡ given || (goes && owned) → where_true some 1 + where_true (some || goes) 1 ≡ one_where (given || (goes && owned)) + one_where (given || goes)
lost_steps some given goes owned is = ap (λ b. where_true b 1 + where_true (b || goes) 1) is ∙ by_cases given goes owned
  where
    by_cases : (given goes owned : Bool) → where_true (given || (goes && owned)) 1 + where_true ((given || (goes && owned)) || goes) 1 ≡ one_where (given || (goes && owned)) + one_where (given || goes)
    by_cases true goes owned = refl
    by_cases false true true = refl
    by_cases false true false = refl
    by_cases false false owned = refl

growth_steps : (pages : List ℕ) (n : ℕ) → length pages ≡ n → fences_for_growth pages ≡ cond (nat_lt 0 n) 3 2
growth_steps [] n is = ap (λ m. cond (nat_lt 0 m) 3 2) is
growth_steps (page ∷ pages) n is = ap (λ b. cond b 3 2) (sym (more (length pages)) ∙ ap (nat_lt 0) is)
  where
    more : (m : ℕ) → nat_lt 0 (suc m) ≡ true
    more m = grind (arith, nat_tests)

cut_steps : (a b cut : ℕ) → cut ≡ a - b → 1 + (where_true (nat_lt 0 cut) 1 + where_true (nat_lt 0 cut || false) 1) ≡ cond (nat_lt b a) 3 1
cut_steps a b cut is =
    elim (nat_lt b a) as (λ t. nat_lt b a ≡ t → 1 + (where_true (nat_lt 0 cut) 1 + where_true (nat_lt 0 cut || false) 1) ≡ cond t 3 1) [
      | true ↦ λ less. ap (λ t. 1 + (where_true t 1 + where_true (t || false) 1)) (some less)
      | false ↦ λ not. ap (λ t. 1 + (where_true t 1 + where_true (t || false) 1)) (none not)
    ] refl
  where
    some : nat_lt b a ≡ true → nat_lt 0 cut ≡ true
    some less = grind (arith, nat_tests)

    none : nat_lt b a ≡ false → nat_lt 0 cut ≡ false
    none not = grind (arith, nat_tests)

-- the fences of what is lost
loss_steps : (state : State) (c : Command) (path : Route) (later : State) (pages : ℕ) (goes : Bool) (given : Option ℕ) → HasLost state c path later pages goes given
    → fences_for_loss (pages + count_of given) goes ≡ fences_of_lost state c path later
loss_steps state c path later pages goes given lost =
    let before = pages_before state path in
    (λ i. fences_for_loss (lost.pages_are i + count_of given) goes)
    ∙ lost_steps (nat_lt 0 (where_true goes before + count_of given)) (is_some given) goes (nat_lt 0 before) (some_lost before given goes)
    ∙ (λ i. one_where (sym lost.given_is i || (sym lost.gone_is i && nat_lt 0 before)) + one_where (sym lost.given_is i || sym lost.gone_is i))

-- a new page in a move takes a fence more
page_steps : (page : Option ℕ) → fences_for_page page ≡ 2 * fences_for_claim page
page_steps page = twice (is_some page)
  where
    twice : (b : Bool) → where_true b 2 ≡ 2 * where_true b 1
    twice true = refl
    twice false = refl

rmdir_sum : (given gone owned : Bool) → gone ≡ true → owned ≡ false → 2 + (one_where (given || (gone && owned)) + one_where (given || gone)) ≡ 3 + one_where given
rmdir_sum given gone owned goes none = (λ i. 2 + (one_where (given || (goes i && none i)) + one_where (given || goes i))) ∙ by_given given
  where
    by_given : (given : Bool) → 2 + (one_where (given || false) + one_where (given || true)) ≡ 3 + one_where given
    by_given true = refl
    by_given false = refl

move_sum : (page pages lost same : ℕ) → page ≡ 2 * pages → lost ≡ same → page + 4 + lost ≡ 4 + 2 * pages + same
move_sum page pages lost same two is = omega (arith, two, is)

-- the answer to an accepted command is that of a change, or of a command that takes none
accepted_fences : (supply : Supply) (state : State) (c : Command) (later : State) → fences_of_accepted state c later ≡ fences_of state (Ok c) (answer_of supply state.tree state.room c) later
accepted_fences supply state (Create path) later = refl
accepted_fences supply state (Mkdir path) later = refl
accepted_fences supply state (Link from to) later = refl
accepted_fences supply state (Unlink path) later = refl
accepted_fences supply state (Rmdir path) later = refl
accepted_fences supply state (Rename from to) later = refl
accepted_fences supply state (Write path offset bytes) later = refl
accepted_fences supply state (Truncate path size) later = refl
accepted_fences supply state (Read path offset count) later = refl
accepted_fences supply state (Tell path) later = refl
accepted_fences supply state (Show path) later = refl
accepted_fences supply state Df later = refl

module _ (supply : Supply) (I : List ℕ) (residue : Residue) (state : State) (beside : ReadsBeside supply.pages I residue state) where
  -- a place for a new name takes a fence more where its directory needs a page
  name_steps : (c : Command) (path : Route) (d slot : ℕ) (new_page : Option ℕ) → NamesApart supply.pages I residue state.tree c → Contains (paths_of c) (parent path) → HasHolder state.tree path
      → id_at state.tree (parent path) ≡ Some d → IsPlace supply.pages I d slot new_page → 2 + fences_for_claim new_page ≡ 2 + page_for_name state.tree state.room (Some (id_of state.tree (parent path)))
  name_steps c path d slot new_page apart among holder held place =
      ap (λ n. 2 + n) (claim_steps supply I residue state beside path holder d held (apart_at supply I residue state beside c apart (parent path) d among held) slot new_page place)

  -- ---- a name is taken away

  module _ (n : ℕ) (later : State) (path : Route) (removal : Removal) where
    unlink_steps : NamesApart supply.pages I residue state.tree (Unlink path) → IsRemovalFor supply.pages I state (Unlink path) path removal → refusal_with supply state.tree state.room (Unlink path) ≡ None
        → IsLeftBeside n state (Unlink path) (Remove removal) later → fences_of_plan (Remove removal) ≡ 2 + fences_of_lost state (Unlink path) path later
    unlink_steps apart for accepted left =
        ap (λ n. 2 + n) (loss_steps state (Unlink path) path later removal.loss.pages removal.loss.goes removal.given_back
        (unlink_lost supply I residue state beside n later path removal apart for accepted left))

    rmdir_steps : NamesApart supply.pages I residue state.tree (Rmdir path) → IsRemovalFor supply.pages I state (Rmdir path) path removal → refusal_with supply state.tree state.room (Rmdir path) ≡ None
        → IsLeftBeside n state (Rmdir path) (Remove removal) later → fences_of_plan (Remove removal) ≡ 3 + one_where (gave state (Rmdir path) later)
    rmdir_steps apart for accepted left =
        let found = Accepted-from_row supply state.tree state.room (Rmdir path) (tree supply I residue state beside) accepted in
        let lost = rmdir_lost supply I residue state beside n later path removal apart for accepted left in
        ap (λ n. 2 + n) (loss_steps state (Rmdir path) path later removal.loss.pages removal.loss.goes removal.given_back lost)
        ∙ rmdir_sum (gave state (Rmdir path) later) (gone state path later) (nat_lt 0 (pages_before state path))
        (ap (λ o. is_gone o later) found.source.named ∙ ap (λ (T : Tree). is_none (node_at T found.source.id)) left.tree ∙ ap is_none (found.goes n))
        (ap (λ id. nat_lt 0 (file_pages (bytes_of state.tree id))) found.source.is ∙ ap (λ bytes. nat_lt 0 (file_pages bytes)) (no_bytes (node_at state.tree found.source.id) found.source.directory))

  -- ---- a name moves

  move_steps : (n : ℕ) (later : State) (from to : Route) (moving : Moving) → NamesApart supply.pages I residue state.tree (Rename from to) → IsMovingFor supply.pages I state from to moving → is_same_node state.tree from to ≡ false
      → refusal_with supply state.tree state.room (Rename from to) ≡ None → IsLeftBeside n state (Rename from to) (Move moving) later
      → fences_of_plan (Move moving) ≡ 4 + 2 * need state.tree state.room (Rename from to) + fences_of_lost state (Rename from to) to later
  move_steps n later from to moving apart for differ accepted left =
      let found = found_move supply I residue state beside from to moving for accepted differ in
      move_sum (fences_for_page moving.new_page) (need state.tree state.room (Rename from to)) (fences_for_loss (pages_of_loss moving.replaced + count_of moving.given_back) (goes_of moving.replaced))
      (fences_of_lost state (Rename from to) to later)
      (page_steps moving.new_page ∙ ap (λ n. 2 * n) (move_claims supply I residue state beside from to moving for found apart moving.replaced for.target))
      (loss_steps state (Rename from to) to later (pages_of_loss moving.replaced) (goes_of moving.replaced) moving.given_back
      (move_lost supply I residue state beside from to moving for found n later apart left moving.replaced for.target))

  rename_steps : (n : ℕ) (later : State) (from to : Route) (action : Action) → NamesApart supply.pages I residue state.tree (Rename from to) → refusal_with supply state.tree state.room (Rename from to) ≡ None
      → IsPlanOf supply.pages I state (Rename from to) action → IsLeftBeside n state (Rename from to) action later → fences_of_plan action ≡ fences_of_accepted state (Rename from to) later
  rename_steps n later from to action apart accepted plan left =
      nothing_or fences_of_plan Move (IsMovingFor supply.pages I state from to) KeepNames refl action (is_same_node state.tree from to) _ plan (λ differ moving is for.
      move_steps n later from to moving apart for differ accepted (subst (λ (d : Action). IsLeftBeside n state (Rename from to) d later) is left))

  -- ---- a file's bytes

  write_steps : (later : State) (path : Route) (offset : ℕ) (bytes : List ℕ) (action : Action) → IsPlanOf supply.pages I state (Write path offset bytes) action
      → fences_of_plan action ≡ fences_of_accepted state (Write path offset bytes) later
  write_steps later path offset bytes action plan =
      nothing_or fences_of_plan WriteBytes (IsWritingFor supply.pages I state path offset bytes) WriteNothing refl action (length bytes == 0) _ plan (λ some writing is for.
      let size = for.size_is ∙ ap (λ id. length (bytes_of state.tree id)) (sym (id_is supply I residue state beside path writing.inode for.inode_is)) in
      let growth = growth_steps writing.new_pages (need state.tree state.room (Write path offset bytes)) for.new_pages.count_is in
      λ i. cond (nat_le (for.offset_is i + for.count_is i) (size i)) 1 (growth i))

  truncate_steps : (later : State) (path : Route) (size : ℕ) (action : Action) → IsPlanOf supply.pages I state (Truncate path size) action → fences_of_plan action ≡ fences_of_accepted state (Truncate path size) later
  truncate_steps later path size action plan =
      nothing_or fences_of_plan Resize (IsResizingFor supply.pages I state path size) KeepSize refl action (size == size_before state path) _ plan (λ some resizing is for.
      let old = for.old_is ∙ ap (λ id. length (bytes_of state.tree id)) (sym (id_is supply I residue state beside path resizing.inode for.inode_is)) in
      let growth = growth_steps resizing.new_pages (need state.tree state.room (Truncate path size)) for.new_pages.count_is in
      let cut = cut_steps (pages_before state path) (pieces size page_bytes) resizing.cut (for.cut_is ∙ ap (λ n. pieces n page_bytes - pieces size page_bytes) old) in
      λ i. cond (nat_lt (old i) (for.new_is i)) (growth i) (cut i))

  -- ---- every command

  by_command : (n : ℕ) (later : State) (c : Command) (action : Action) → NamesApart supply.pages I residue state.tree c → refusal_with supply state.tree state.room c ≡ None → IsPlanOf supply.pages I state c action
      → IsLeftBeside n state c action later → fences_of_plan action ≡ fences_of_accepted state c later
  by_command n later (Create path) action apart accepted (entry, is, for) left =
      let found = Accepted-from_row supply state.tree state.room (Create path) (tree supply I residue state beside) accepted in
      ap fences_of_plan is ∙ name_steps (Create path) path entry.directory entry.slot entry.new_page apart (at_second path (parent path) []) found.place.holder for.directory_is for.place
  by_command n later (Mkdir path) action apart accepted (entry, is, for) left =
      let found = Accepted-from_row supply state.tree state.room (Mkdir path) (tree supply I residue state beside) accepted in
      ap fences_of_plan is ∙ name_steps (Mkdir path) path entry.directory entry.slot entry.new_page apart (at_second path (parent path) []) found.place.holder for.directory_is for.place
  by_command n later (Link from to) action apart accepted (link, is, for) left =
      let found = Accepted-from_row supply state.tree state.room (Link from to) (tree supply I residue state beside) accepted in
      ap fences_of_plan is ∙ name_steps (Link from to) to link.directory link.slot link.new_page apart (at_third from to (parent to) []) found.place.holder for.new_name.directory_is for.new_name.place
  by_command n later (Unlink path) action apart accepted (removal, is, for) left =
      ap fences_of_plan is ∙ unlink_steps n later path removal apart for accepted (subst (λ (d : Action). IsLeftBeside n state (Unlink path) d later) is left)
  by_command n later (Rmdir path) action apart accepted (removal, is, for) left =
      ap fences_of_plan is ∙ rmdir_steps n later path removal apart for accepted (subst (λ (d : Action). IsLeftBeside n state (Rmdir path) d later) is left)
  by_command n later (Rename from to) action apart accepted plan left = rename_steps n later from to action apart accepted plan left
  by_command n later (Write path offset bytes) action apart accepted plan left = write_steps later path offset bytes action plan
  by_command n later (Truncate path size) action apart accepted plan left = truncate_steps later path size action plan
  by_command n later (Read path offset count) action apart accepted (reading, is, for) left = ap fences_of_plan is
  by_command n later (Tell path) action apart accepted is left = ap fences_of_plan is
  by_command n later (Show path) action apart accepted is left = ap fences_of_plan is
  by_command n later Df action apart accepted is left = ap fences_of_plan is

pub plan_fences_beside_law : PlanFencesBesideLaw
plan_fences_beside_law I supply residue state later c action n beside apart planned left = by_command supply I residue state beside n later c action apart planned.accepted planned.plan_is left

-- beside the empty residue, where the new node has the least free id
pub plan_fences_law : PlanFencesLaw
plan_fences_law P I state later c action tidy reads planned left =
    plan_fences_beside_law I (untaken P) no_residue state later c action (least_free_id state.tree) (reads_tidied P I state tidy reads) (nothing_left P I state.tree c) planned
    (left_alone P state c action later planned.accepted left)
    ∙ accepted_fences (untaken P) state c later
    ∙ ap (λ a. fences_of state (Ok c) a later) (sym (ap (λ o. (outcome_of o (untaken P) (least_free_id state.tree) state.tree state.room c).answer) planned.accepted))
