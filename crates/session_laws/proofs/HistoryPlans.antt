-- A call by its plan: the file of the range that it writes is one, which its command names; and a first step that commits makes no node.
use Rattle.std.proofs.Common.{◌≡◌, ◌⊎◌, inl, inr, ℕ, ◌+◌, Bool, true, false, cond, nat_le, nat_lt, ◌==◌, List, [], length, Option, Some, None, refl, sym, ap, subst, ◌∙◌}
use Rattle.tree_model.specs.PathText.{Route}
use Rattle.tree_model.specs.Tree.{Tree, id_at, is_file, is_file_node}
use Rattle.tree_model.specs.Capacity.{Supply}
use Rattle.tree_model.specs.Accepted.{IsFileAt, Accepted}
use Rattle.tree_model.specs.Step.{refusal_with, is_same_node}
use Rattle.tree_model.specs.Run.{State, IsVolumeState}
use Rattle.tree_model.specs.declared.command.Command.{Command}
use Rattle.tree_model.specs.declared.command.Command.TheVariants.{Create, Mkdir, Link, Unlink, Rmdir, Rename, Write, Truncate, Read, Stat as Tell, List as Show, Df}
use Rattle.tree_model.proofs.AcceptedLaws.{Accepted-from_row}
use Rattle.tree_model.proofs.TreeKept.{same_some}
use Rattle.naming_laws.specs.Naming.{names_inode}
use Rattle.naming_laws.proofs.Named.{at_first, names_at}
use Rattle.mixing_laws.specs.Mixed.{Range}
use Rattle.volume.specs.Planned.{IsNothingOr, IsPlanOf, is_size_of}
use Rattle.volume.specs.declared.plan.Action.{Action}
use Rattle.volume.specs.declared.plan.Action.TheVariants.{Make, Name, Remove, Move, Write as WriteBytes, WriteNothing, Resize, KeepSize, KeepNames, Read as ReadBytes, Status, Names, Space}
use Rattle.volume.specs.declared.plan.Writing.{Writing}
use Rattle.volume.specs.declared.plan.Resizing.{Resizing}
use Rattle.data_ops.specs.declared.grow.Progress.TheVariants.{Begun}
use Rattle.data_ops.specs.declared.write.Stage.TheVariants.{Inside, Growing as GrowsByWrite}
use Rattle.data_ops.specs.declared.truncate.Stage.TheVariants.{Growing as GrowsBySize, Cutting}
use Rattle.data_ops.specs.declared.truncate.CutProgress.TheVariants.{Begun as CutBegun}
use Rattle.running_calls.specs.declared.running.Running.{Running}
use Rattle.running_calls.specs.Stages.{begun}
use Rattle.running_laws.specs.Waits.{bytes_of_command}
use Rattle.running_laws.specs.Steps.{commits, given_inode, range_of, range_of_write, range_of_resize}
use Rattle.session_laws.proofs.HistoryApart.{none_is}

-- ---- its range

pub record PlansRange (state : State) (command : Command) (range : Range) : Type 0 where
  pub named : names_inode state.tree command range.file ≡ true
  pub file : is_file state.tree range.file ≡ true

abbrev range_begun : List ℕ → Option Running → Option Range
range_begun bytes None = None
range_begun bytes (Some running) = range_of bytes running

nothing_or : (b : Bool) (nothing action : Action) (Q : Action → Type 0) → IsNothingOr b nothing Q action → (action ≡ nothing) ⊎ Q action
nothing_or true nothing action Q plan = inl plan
nothing_or false nothing action Q plan = inr plan

file_at : (T : Tree) (path : Route) (i : ℕ) → IsFileAt T path → id_at T path ≡ Some i → is_file T i ≡ true
file_at T path i source named = ap (is_file T) (same_some i source.id (sym named ∙ source.named)) ∙ ap is_file_node source.file

module _ (P : ℕ) (I : List ℕ) (state : State) (valid : IsVolumeState P state) (supply : Supply) where
  none_by : {X : Type 0} (bytes : List ℕ) (action other : Action) (range : Range) → action ≡ other → range_begun bytes (begun other) ≡ None
      → range_begun bytes (begun action) ≡ Some range → X
  none_by bytes action other range is none begins = none_is range (sym (ap (λ (a : Action). range_begun bytes (begun a)) is ∙ none) ∙ begins)

  of_file : (command : Command) (i : ℕ) (range : Range) → i ≡ range.file → names_inode state.tree command i ≡ true → is_file state.tree i ≡ true
      → PlansRange state command range
  of_file command i range is named file = record {
    named = subst (λ x. names_inode state.tree command x ≡ true) is named;
    file = subst (λ x. is_file state.tree x ≡ true) is file;
  }

  write_file : (bytes : List ℕ) (writing : Writing) (range : Range) (inside : Bool)
      → range_of_write bytes (cond inside (Inside writing) (GrowsByWrite writing Begun)) ≡ Some range → writing.inode ≡ range.file
  write_file bytes writing range true is = ap (λ (r : Range). r.file) (same_some (record { file = writing.inode; offset = writing.offset; bytes = bytes }) range is)
  write_file bytes writing range false is = ap (λ (r : Range). r.file) (same_some (record { file = writing.inode; offset = writing.offset; bytes = bytes }) range is)

  resize_file : (resizing : Resizing) (range : Range) (grows : Bool)
      → range_of_resize (cond grows (GrowsBySize resizing Begun) (Cutting resizing CutBegun)) ≡ Some range → resizing.inode ≡ range.file
  resize_file resizing range true is = ap (λ (r : Range). r.file) (same_some (record { file = resizing.inode; offset = resizing.old_size; bytes = [] }) range is)
  resize_file resizing range false is = none_is range is

  by_plan : (command : Command) (action : Action) → IsPlanOf P I state command action → Accepted supply state.tree state.room command → (range : Range)
      → range_begun (bytes_of_command command) (begun action) ≡ Some range → PlansRange state command range
  by_plan (Create path) action (entry, is, for) a range begins = none_by [] action (Make entry) range is refl begins
  by_plan (Mkdir path) action (entry, is, for) a range begins = none_by [] action (Make entry) range is refl begins
  by_plan (Link from to) action (link, is, for) a range begins = none_by [] action (Name link) range is refl begins
  by_plan (Unlink path) action (removal, is, for) a range begins = none_by [] action (Remove removal) range is refl begins
  by_plan (Rmdir path) action (removal, is, for) a range begins = none_by [] action (Remove removal) range is refl begins
  by_plan (Rename from to) action plan a range begins = elim (nothing_or (is_same_node state.tree from to) KeepNames action _ plan) [
    | inl is ↦ none_by [] action KeepNames range is refl begins
    | inr h ↦ let (moving, is, for) = h in none_by [] action (Move moving) range is refl begins
  ]
  by_plan (Write path offset bytes) action plan a range begins = elim (nothing_or (length bytes == 0) WriteNothing action _ plan) [
    | inl is ↦ none_by bytes action WriteNothing range is refl begins
    | inr h ↦ let (writing, is, for) = h in
        let here = sym (ap (λ (a : Action). range_begun bytes (begun a)) is) ∙ begins in
        of_file (Write path offset bytes) writing.inode range (write_file bytes writing range (nat_le (writing.offset + writing.count) writing.old_size) here)
        (names_at state.tree valid.tree (Write path offset bytes) path writing.inode (at_first path []) for.inode_is) (file_at state.tree path writing.inode a.source for.inode_is)
  ]
  by_plan (Truncate path size) action plan a range begins = elim (nothing_or (is_size_of state path size) KeepSize action _ plan) [
    | inl is ↦ none_by [] action KeepSize range is refl begins
    | inr h ↦ let (resizing, is, for) = h in
        let here = sym (ap (λ (a : Action). range_begun [] (begun a)) is) ∙ begins in
        of_file (Truncate path size) resizing.inode range (resize_file resizing range (nat_lt resizing.old_size resizing.new_size) here)
        (names_at state.tree valid.tree (Truncate path size) path resizing.inode (at_first path []) for.inode_is) (file_at state.tree path resizing.inode a.source for.inode_is)
  ]
  by_plan (Read path offset count) action (reading, is, for) a range begins = none_by [] action (ReadBytes reading) range is refl begins
  by_plan (Tell path) action is a range begins = none_by [] action (Status _) range is refl begins
  by_plan (Show path) action is a range begins = none_by [] action (Names _) range is refl begins
  by_plan Df action is a range begins = none_by [] action Space range is refl begins

  pub planned_range : (command : Command) (action : Action) (running : Running) (range : Range) → refusal_with supply state.tree state.room command ≡ None
      → IsPlanOf P I state command action
      → begun action ≡ Some running → range_of (bytes_of_command command) running ≡ Some range → PlansRange state command range
  planned_range command action running range accepted plan begins is =
      by_plan command action plan (Accepted-from_row supply state.tree state.room command valid.tree accepted) range (ap (range_begun (bytes_of_command command)) begins ∙ is)

-- ---- a first step that commits

abbrev NoneGiven : Option Running → Type 0
NoneGiven None = Unit {0}
NoneGiven (Some running) = commits running ≡ true → given_inode running ≡ 0

none_given : (action : Action) → NoneGiven (begun action)
none_given (Make entry) = λ is. cc
none_given (Name link) = λ is. refl
none_given (Remove removal) = λ is. refl
none_given (Move moving) = λ is. refl
none_given (WriteBytes writing) = λ is. refl
none_given WriteNothing = λ is. refl
none_given (Resize resizing) = λ is. refl
none_given KeepSize = λ is. refl
none_given KeepNames = λ is. refl
none_given (ReadBytes reading) = tt
none_given (Status inode) = tt
none_given (Names inode) = tt
none_given Space = tt

pub begun_given : (action : Action) (running : Running) → begun action ≡ Some running → commits running ≡ true → given_inode running ≡ 0
begun_given action running begins = subst NoneGiven begins (none_given action)
