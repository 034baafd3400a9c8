-- A plan begins with its commit only where the first step of its command may be one.
use Rattle.std.proofs.Common.{◌≡◌, ℕ, ◌+◌, Bool, true, false, if◌then◌else◌, ◌==◌, nat_le, nat_lt, List, length, Option, None, Some, unwrap_or, refl, sym, ap, ◌∙◌, arith}
use Rattle.std.proofs.lemmas.Bool.{true≢false}
use Rattle.std.proofs.lemmas.Bool.Decides.{nat_tests}
use Rattle.tree_model.specs.PathText.{Route}
use Rattle.tree_model.specs.Run.{State}
use Rattle.tree_model.specs.Tree.{id_at, root_id, bytes_of}
use Rattle.tree_model.specs.Step.{is_same_node}
use Rattle.tree_model.specs.Fences.{size_before}
use Rattle.tree_model.specs.declared.command.Command.{Command}
use Rattle.tree_model.specs.declared.command.Command.TheVariants.{Create, Mkdir, Link, Unlink, Rmdir, Rename, Write, Truncate, Read, Stat as Tell, List as Show, Df}
use Rattle.mixing_laws.specs.Mixed.{Range}
use Rattle.volume.specs.Planned.{IsPlanOf, IsMovingFor, IsWritingFor, IsResizingFor, IsNothingOr, is_size_of}
use Rattle.volume.specs.declared.plan.Action.{Action}
use Rattle.volume.specs.declared.plan.Action.TheVariants.{Move, KeepNames, Write as WriteBytes, WriteNothing, Resize, KeepSize}
use Rattle.volume.specs.declared.plan.Resizing.{Resizing}
use Rattle.volume.specs.declared.plan.Writing.{Writing}
use Rattle.volume.proofs.Plans.{nothing_or}
use Rattle.data_ops.specs.declared.grow.Progress.TheVariants.{Begun}
use Rattle.data_ops.specs.declared.truncate.CutProgress.TheVariants.{Begun as CutBegun}
use Rattle.data_ops.specs.declared.truncate.Stage.TheVariants.{Growing as GrowsBySize, Cutting}
use Rattle.data_ops.specs.declared.write.Stage.TheVariants.{Inside, Growing as GrowsByWrite}
use Rattle.running_calls.specs.declared.running.Running.{Running}
use Rattle.running_calls.specs.Stages.{begun}
use Rattle.running_laws.specs.Steps.{commits, commits_write, commits_resize}
use Rattle.session_laws.specs.Histories.{IsHistory}
use Rattle.sessions.specs.Steps.{may_commit_first}
use Rattle.sessions.proofs.FencesAlike.{size_alike}

abbrev commits_begun : Option Running → Bool
commits_begun None = false
commits_begun (Some running) = commits running

-- another plan doesn't
later_so : {X : Type 0} (action plan : Action) → action ≡ plan → commits_begun (begun plan) ≡ false → commits_begun (begun action) ≡ true → X
later_so action plan is later commit = absurd (true≢false (sym commit ∙ ap (λ (a : Action). commits_begun (begun a)) is ∙ later))

-- a write commits first where it begins inside the size
write_inside : (writing : Writing) (inside : Bool) → commits_write (if inside then Inside writing else GrowsByWrite writing Begun) ≡ true → inside ≡ true
write_inside writing true commit = refl
write_inside writing false commit = commit

-- and another size where it doesn't begin with a growth
resize_cuts : (resizing : Resizing) (grows : Bool) → commits_resize (if grows then GrowsBySize resizing Begun else Cutting resizing CutBegun) ≡ true → grows ≡ false
resize_cuts resizing true commit = sym commit
resize_cuts resizing false commit = refl

less : (size old : ℕ) → size == old ≡ false → nat_lt old size ≡ false → nat_lt size old ≡ true
less size old other grows = grind (arith, nat_tests)

module _ (P : ℕ) (I : List ℕ) (state : State) where
  size_at : (path : Route) (inode : ℕ) → id_at state.tree path ≡ Some inode → length (bytes_of state.tree inode) ≡ size_before state path
  size_at path inode is = ap (λ (o : Option ℕ). length (bytes_of state.tree (unwrap_or o root_id))) (sym is)

  commits_write_by : (path : Route) (offset : ℕ) (bytes : List ℕ) (writing : Writing) → IsWritingFor P I state path offset bytes writing
      → commits_begun (begun (WriteBytes writing)) ≡ true → nat_le (offset + length bytes) (size_before state path) ≡ true
  commits_write_by path offset bytes writing for commit =
      let old : writing.old_size ≡ size_before state path = for.size_is ∙ size_at path writing.inode for.inode_is in
      let offset_is = for.offset_is in
      let count_is = for.count_is in
      sym (λ k. nat_le (offset_is k + count_is k) (old k)) ∙ write_inside writing (nat_le (writing.offset + writing.count) writing.old_size) commit

  commits_resize_by : (path : Route) (size : ℕ) (resizing : Resizing) → IsResizingFor P I state path size resizing → is_size_of state path size ≡ false
      → commits_begun (begun (Resize resizing)) ≡ true → nat_lt size (size_before state path) ≡ true
  commits_resize_by path size resizing for other commit =
      let old : resizing.old_size ≡ size_before state path = for.old_is ∙ size_at path resizing.inode for.inode_is in
      let new_is = for.new_is in
      less size (size_before state path) other
      (sym (λ k. nat_lt (old k) (new_is k)) ∙ resize_cuts resizing (nat_lt resizing.old_size resizing.new_size) commit)

  resize_by : (path : Route) (size : ℕ) (action : Action) (same : Bool) → is_size_of state path size ≡ same
      → IsNothingOr same KeepSize (λ action. (resizing : Resizing) × (action ≡ Resize resizing) × IsResizingFor P I state path size resizing) action
      → commits_begun (begun action) ≡ true → nat_lt size (size_before state path) ≡ true
  resize_by path size action true same plan commit = later_so action KeepSize plan refl commit
  resize_by path size action false other (resizing, is, for) commit =
      commits_resize_by path size resizing for other (sym (ap (λ (a : Action). commits_begun (begun a)) is) ∙ commit)

  commits_by : (command : Command) (action : Action) → IsPlanOf P I state command action → commits_begun (begun action) ≡ true → may_commit_first state command ≡ true
  commits_by (Create path) action (entry, is, for) = later_so action _ is refl
  commits_by (Mkdir path) action (entry, is, for) = later_so action _ is refl
  commits_by (Link from to) action (link, is, for) = later_so action _ is refl
  commits_by (Unlink path) action plan = λ commit. refl
  commits_by (Rmdir path) action plan = λ commit. refl
  commits_by (Rename from to) action plan =
      nothing_or (commits_begun (begun action) ≡ true → false ≡ true) Move (IsMovingFor P I state from to) KeepNames action (is_same_node state.tree from to) plan
      (λ is. later_so action KeepNames is refl) (λ moving is for. later_so action (Move moving) is refl)
  commits_by (Write path offset bytes) action plan = λ commit.
      nothing_or (nat_le (offset + length bytes) (size_before state path) ≡ true) WriteBytes (IsWritingFor P I state path offset bytes) WriteNothing action (length bytes == 0) plan
      (λ is. later_so action WriteNothing is refl commit)
      (λ writing is for. commits_write_by path offset bytes writing for (sym (ap (λ (a : Action). commits_begun (begun a)) is) ∙ commit))
  commits_by (Truncate path size) action plan = resize_by path size action (is_size_of state path size) refl plan
  commits_by (Read path offset count) action (reading, is, for) = later_so action _ is refl
  commits_by (Tell path) action is = later_so action _ is refl
  commits_by (Show path) action is = later_so action _ is refl
  commits_by Df action is = later_so action _ is refl

  -- the sizes are those of the history
  module _ (ranges : List Range) (history : State) where
    may_alike : (command : Command) → IsHistory ranges history state → may_commit_first state command ≡ may_commit_first history command
    may_alike (Create path) is = refl
    may_alike (Mkdir path) is = refl
    may_alike (Link from to) is = refl
    may_alike (Unlink path) is = refl
    may_alike (Rmdir path) is = refl
    may_alike (Rename from to) is = refl
    may_alike (Write path offset bytes) is = ap (nat_le (offset + length bytes)) (size_alike ranges history state path is)
    may_alike (Truncate path size) is = ap (nat_lt size) (size_alike ranges history state path is)
    may_alike (Read path offset count) is = refl
    may_alike (Tell path) is = refl
    may_alike (Show path) is = refl
    may_alike Df is = refl

    pub plan_may_commit : (command : Command) (action : Action) (running : Running) → IsHistory ranges history state → IsPlanOf P I state command action
        → begun action ≡ Some running → commits running ≡ true → may_commit_first history command ≡ true
    plan_may_commit command action running is plan begins commit = sym (may_alike command is) ∙ commits_by command action plan (ap commits_begun begins ∙ commit)
