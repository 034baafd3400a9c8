-- The range that a call writes by its plan is one of its command.
use Rattle.std.proofs.Common.{◌≡◌, inl, inr, ℕ, zero, suc, ◌+◌, Bool, true, false, if◌then◌else◌, nat_le, nat_lt, List, [], ◌++◌, Option, None, Some, Ok, sym, ap, subst}
use Rattle.std.proofs.Common.{◌∙◌, arith}
use Rattle.std.specs.List.{Contains}
use Rattle.std.proofs.lemmas.List.Elements.{Contains-append_cases}
use Rattle.tree_model.specs.PathText.{Route}
use Rattle.tree_model.specs.Run.{State}
use Rattle.tree_model.specs.Tree.{id_at}
use Rattle.tree_model.specs.declared.command.Command.{Command}
use Rattle.tree_model.specs.declared.command.Command.TheVariants.{Write}
use Rattle.tree_model.proofs.TreeKept.{same_some}
use Rattle.mixing_laws.specs.Mixed.{Range}
use Rattle.volume.specs.Planned.{IsPlanOf}
use Rattle.volume.specs.declared.plan.Action.{Action}
use Rattle.volume.specs.declared.plan.Action.TheVariants.{Make, Name, Remove, Move, Write as WriteBytes, WriteNothing, Resize, KeepSize, KeepNames}
use Rattle.volume.specs.declared.plan.Action.TheVariants.{Read as ReadBytes, Status, Names, Space}
use Rattle.volume.specs.declared.plan.Resizing.{Resizing}
use Rattle.volume.specs.declared.plan.Writing.{Writing}
use Rattle.volume.proofs.ContentPlans.{planned_writing, planned_resizing}
use Rattle.data_ops.specs.declared.grow.Progress.TheVariants.{Begun}
use Rattle.data_ops.specs.declared.truncate.CutProgress.TheVariants.{Begun as CutBegun}
use Rattle.data_ops.specs.declared.truncate.Stage.TheVariants.{Growing as GrowsBySize, Cutting}
use Rattle.data_ops.specs.declared.write.Stage.TheVariants.{Inside, Growing as GrowsByWrite}
use Rattle.running_calls.specs.declared.running.Running.{Running}
use Rattle.running_calls.specs.Stages.{begun}
use Rattle.running_laws.specs.Waits.{bytes_of_command}
use Rattle.running_laws.specs.Steps.{range_of, range_of_write, range_of_resize}
use Rattle.session_laws.specs.Calls.{Call, Calls, listed_range, range_of_call, ranges_of_all}
use Rattle.session_laws.proofs.HistoryApart.{none_is}
use Rattle.sessions.specs.Steps.{IsRangeOf, AreRunning}

abbrev range_begun : List ℕ → Option Running → Option Range
range_begun bytes None = None
range_begun bytes (Some running) = range_of bytes running

write_range : (bytes : List ℕ) (writing : Writing) (range : Range) (inside : Bool)
    → range_of_write bytes (if inside then Inside writing else GrowsByWrite writing Begun) ≡ Some range
    → record { file = writing.inode; offset = writing.offset; bytes = bytes } ≡ range
write_range bytes writing range true is = same_some (record { file = writing.inode; offset = writing.offset; bytes = bytes }) range is
write_range bytes writing range false is = same_some (record { file = writing.inode; offset = writing.offset; bytes = bytes }) range is

resize_range : (resizing : Resizing) (range : Range) (grows : Bool) → range_of_resize (if grows then GrowsBySize resizing Begun else Cutting resizing CutBegun) ≡ Some range
    → range.bytes ≡ []
resize_range resizing range true is = sym (ap (λ (r : Range). r.bytes) (same_some (record { file = resizing.inode; offset = resizing.old_size; bytes = [] }) range is))
resize_range resizing range false is = none_is range is

module _ (P : ℕ) (I : List ℕ) (history state : State) (same_paths : (path : Route) → id_at history.tree path ≡ id_at state.tree path) (command : Command) (range : Range) where
  range_by : (action : Action) → IsPlanOf P I state command action → range_begun (bytes_of_command command) (begun action) ≡ Some range → IsRangeOf history (Ok command) range
  range_by (Make entry) plan begins = none_is range begins
  range_by (Name link) plan begins = none_is range begins
  range_by (Remove removal) plan begins = none_is range begins
  range_by (Move moving) plan begins = none_is range begins
  range_by (WriteBytes writing) plan begins =
      let (path, offset, bytes, is, for) = planned_writing P I state command writing plan in
      let here = ap (λ (c : Command). range_begun (bytes_of_command c) (begun (WriteBytes writing))) (sym is) ∙ begins in
      let same = write_range bytes writing range (nat_le (writing.offset + writing.count) writing.old_size) here in
      let at : command ≡ Write path range.offset range.bytes = is ∙ ap (λ (o : ℕ). Write path o bytes) (sym for.offset_is) ∙ ap (λ (r : Range). Write path r.offset r.bytes) same in
      let file : id_at history.tree path ≡ Some range.file = same_paths path ∙ for.inode_is ∙ ap (λ (r : Range). Some r.file) same in
      subst (λ (c : Command). IsRangeOf history (Ok c) range) (sym at) (IsRangeOf.write path range file)
  range_by WriteNothing plan begins = none_is range begins
  range_by (Resize resizing) plan begins =
      let (path, size, is, for) = planned_resizing P I state command resizing plan in
      let none = resize_range resizing range (nat_lt resizing.old_size resizing.new_size) begins in
      subst (λ (c : Command). IsRangeOf history (Ok c) range) (sym is) (IsRangeOf.truncate path size range none)
  range_by KeepSize plan begins = none_is range begins
  range_by KeepNames plan begins = none_is range begins
  range_by (ReadBytes reading) plan begins = none_is range begins
  range_by (Status inode) plan begins = none_is range begins
  range_by (Names inode) plan begins = none_is range begins
  range_by Space plan begins = none_is range begins

  pub plan_range : (action : Action) (running : Running) → IsPlanOf P I state command action → begun action ≡ Some running
      → range_of (bytes_of_command command) running ≡ Some range
      → IsRangeOf history (Ok command) range
  plan_range action running plan begins is = range_by action plan (ap (range_begun (bytes_of_command command)) begins ∙ is)

in_listed : (o : Option Range) (range : Range) → Contains (listed_range o) range → o ≡ Some range
in_listed None range (k, below, is) = absurd (omega arith)
in_listed (Some first) range (zero, below, is) = ap Some is
in_listed (Some first) range (suc k, below, is) = absurd (omega arith)

-- So are all that run while its first step is made.
pub ranges_running : (P : ℕ) (I : List ℕ) (history state : State) (calls : Calls) (call : Call) (action : Action)
    → ((path : Route) → id_at history.tree path ≡ id_at state.tree path) → IsPlanOf P I state call.command action → begun action ≡ Some call.running
    → AreRunning calls history (Ok call.command) (range_of_call call ++ ranges_of_all calls)
ranges_running P I history state calls call action same_paths plan begins range held = elim (Contains-append_cases (range_of_call call) (ranges_of_all calls) range held) [
  | inl here ↦
      let is = in_listed (range_of (bytes_of_command call.command) call.running) range here in
      inr (plan_range P I history state same_paths call.command range action call.running plan begins is)
  | inr there ↦ inl there
]
