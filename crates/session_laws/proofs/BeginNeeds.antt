-- A call that has begun and is to come has left as many inodes and pages as its command needs.
use Rattle.std.proofs.Common.{◌≡◌, ℕ, ◌==◌, ◌<◌, ◌≤◌, true, List, [], length, Option, Some, None, refl, sym, ap, subst, ◌∙◌, arith}
use Rattle.std.specs.List.{Contains}
use Rattle.pm_trait.specs.DeviceView.{DeviceView}
use Rattle.tree_model.specs.Accepted.{HasHolder, Accepted}
use Rattle.tree_model.specs.Capacity.{Supply}
use Rattle.tree_model.specs.PathText.{Route}
use Rattle.tree_model.specs.Tree.{IsTree, parent, id_at}
use Rattle.tree_model.specs.Step.{need, id_of, is_same_node, page_for_name}
use Rattle.tree_model.specs.Run.{State}
use Rattle.tree_model.specs.declared.command.Command.{Command}
use Rattle.tree_model.specs.declared.command.Command.TheVariants.{Create, Mkdir, Link, Unlink, Rmdir, Rename, Write, Truncate, Read, Stat as Tell, List as Show, Df}
use Rattle.tree_model.proofs.AcceptedLaws.{Accepted-from_row}
use Rattle.naming_laws.specs.Naming.{paths_of, inode_need}
use Rattle.naming_laws.proofs.Named.{at_second, at_third}
use Rattle.image_reading.specs.Residue.{Residue, no_residue}
use Rattle.image_counts.specs.Laws.{ReadsBeside, supply_beside}
use Rattle.weave_laws.specs.Naming.{pages_left}
use Rattle.plan_laws.specs.Laws.{NamesApart}
use Rattle.plan_laws.proofs.PlanFacts.{apart_at, claim_steps}
use Rattle.volume.specs.Volume.{VolumeView}
use Rattle.volume.specs.Costs.{events_of, fences_for_claim}
use Rattle.volume.specs.Planned.{IsPlace, IsMovingFor, IsWritingFor, IsResizingFor, IsPlanOf, is_size_of}
use Rattle.volume.specs.declared.plan.Action.{Action}
use Rattle.volume.specs.declared.plan.Action.TheVariants.{Make, Name, Remove, Move, Write as WriteBytes, WriteNothing, Resize, KeepSize, KeepNames}
use Rattle.volume.specs.declared.plan.Action.TheVariants.{Read as ReadBytes, Status, Names, Space}
use Rattle.volume.specs.declared.plan.NewEntry.{NewEntry}
use Rattle.volume.proofs.Frees.{reads_beside}
use Rattle.volume.proofs.Plans.{nothing_or}
use Rattle.volume.proofs.WalkedBeside.{stands_tree}
use Rattle.rename_ptr.specs.Stages as moves
use Rattle.running_calls.specs.declared.running.Running.{Running}
use Rattle.running_calls.specs.declared.running.Running.TheVariants.{Moves}
use Rattle.running_calls.specs.Stages.{begun}
use Rattle.waiting_laws.specs.Beside.{IsReady}
use Rattle.waiting_laws.specs.Growing.{pages_left_by}
use Rattle.waiting_laws.specs.Linking as linking
use Rattle.waiting_laws.specs.Making as making
use Rattle.running_laws.specs.Steps.{runs_beside}
use Rattle.session_laws.proofs.BeginKept.{alone}

-- what a call has left until it has committed, by its plan (one that commits first never waits to)
abbrev pub left_of_plan : Action → Residue
left_of_plan (Make entry) = making.left_by entry
left_of_plan (Name link) = linking.left_by link
left_of_plan (Remove removal) = no_residue
left_of_plan (Move moving) = no_residue
left_of_plan (WriteBytes writing) = pages_left_by writing.inode writing.new_pages
left_of_plan WriteNothing = no_residue
left_of_plan (Resize resizing) = pages_left_by resizing.inode resizing.new_pages
left_of_plan KeepSize = no_residue
left_of_plan KeepNames = no_residue
left_of_plan (ReadBytes reading) = no_residue
left_of_plan (Status inode) = no_residue
left_of_plan (Names inode) = no_residue
left_of_plan Space = no_residue

-- what is left is enough for the command
pub record IsEnough (words : State) (command : Command) (own : Residue) : Type 0 where
  pub inodes : inode_need command ≤ length own.inodes
  pub pages : need words.tree words.room command ≤ length own.pages

-- ---- a plan of one kind

no_events : {X : Type 0} (action other : Action) → action ≡ other → events_of other ≡ 0 → 0 < events_of action → X
no_events action other is none some = let events = ap events_of is in absurd (omega (arith, events, none, some))

claimed_pages : (page : Option ℕ) → length (pages_left page) ≡ fences_for_claim page
claimed_pages None = refl
claimed_pages (Some page) = refl

module _ (P : ℕ) (I : List ℕ) (others : Residue) (words : State) (reads : ReadsBeside P I others words) (tree : IsTree words.tree) where
  abbrev supply : Supply
  supply = supply_beside P others

  module _ (command : Command) (apart : NamesApart P I others words.tree command) where
    -- a directory that is full takes a page
    page_needed : (path : Route) (d slot : ℕ) (new_page : Option ℕ) → HasHolder words.tree path → Contains (paths_of command) (parent path)
        → id_at words.tree (parent path) ≡ Some d → IsPlace P I d slot new_page
        → page_for_name words.tree words.room (Some (id_of words.tree (parent path))) ≤ length (pages_left new_page)
    page_needed path d slot new_page holder among held place =
        let unheld = apart_at supply I others words reads command apart (parent path) d among held in
        let claims = claim_steps supply I others words reads path holder d held unheld slot new_page place in
        let long = claimed_pages new_page in
        omega (arith, claims, long)

  entry_enough : (command : Command) (entry : NewEntry) (action : Action) → action ≡ Make entry → inode_need command ≡ 1
      → need words.tree words.room command ≤ length (pages_left entry.new_page) → IsEnough words command (left_of_plan action)
  entry_enough command entry action is one pages =
      subst (λ (plan : Action). IsEnough words command (left_of_plan plan)) (sym is) (record { inodes = omega (arith, one); pages = pages })

  file_enough : (command : Command) (left : Residue) (pages : List ℕ) → inode_need command ≡ 0 → left.pages ≡ pages
      → length pages ≡ need words.tree words.room command → IsEnough words command left
  file_enough command left pages none is count =
      let long = ap length is in record { inodes = omega (arith, none); pages = omega (arith, long, count) }

  none_enough : (command : Command) (left : Residue) → inode_need command ≡ 0 → need words.tree words.room command ≡ 0 → IsEnough words command left
  none_enough command left none no_page = record { inodes = omega (arith, none); pages = omega (arith, no_page) }

  -- ---- by command

  enough : (command : Command) (action : Action) (running : Running) → NamesApart P I others words.tree command → Accepted supply words.tree words.room command
      → IsPlanOf P I words command action → begun action ≡ Some running → runs_beside running ≡ true → 0 < events_of action → IsEnough words command (left_of_plan action)
  enough (Create path) action running apart found (entry, is, for) begins beside some =
      entry_enough (Create path) entry action is refl
      (page_needed (Create path) apart path entry.directory entry.slot entry.new_page found.place.holder (at_second path (parent path) []) for.directory_is for.place)
  enough (Mkdir path) action running apart found (entry, is, for) begins beside some =
      entry_enough (Mkdir path) entry action is refl
      (page_needed (Mkdir path) apart path entry.directory entry.slot entry.new_page found.place.holder (at_second path (parent path) []) for.directory_is for.place)
  enough (Link from to) action running apart found (link, is, for) begins beside some =
      let new = for.new_name in
      let pages = page_needed (Link from to) apart to link.directory link.slot link.new_page found.place.holder (at_third from to (parent to) []) new.directory_is new.place in
      subst (λ (plan : Action). IsEnough words (Link from to) (left_of_plan plan)) (sym is) (record { inodes = omega arith; pages = pages })
  enough (Unlink path) action running apart found plan begins beside some = none_enough (Unlink path) (left_of_plan action) refl refl
  enough (Rmdir path) action running apart found plan begins beside some = none_enough (Rmdir path) (left_of_plan action) refl refl
  enough (Rename from to) action running apart found plan begins beside some =
      nothing_or (IsEnough words (Rename from to) (left_of_plan action)) Move (IsMovingFor P I words from to) KeepNames action (is_same_node words.tree from to) plan
      (λ is. no_events action KeepNames is refl some) (λ moving is for. alone (Moves (moves.begun (Move moving))) running (sym (ap begun is) ∙ begins) refl beside)
  enough (Write path offset bytes) action running apart found plan begins beside some =
      nothing_or (IsEnough words (Write path offset bytes) (left_of_plan action)) WriteBytes (IsWritingFor P I words path offset bytes) WriteNothing action
      (length bytes == 0) plan
      (λ is. no_events action WriteNothing is refl some)
      (λ writing is for.
      file_enough (Write path offset bytes) (left_of_plan action) writing.new_pages refl (ap (λ (plan : Action). (left_of_plan plan).pages) is) for.new_pages.count_is)
  enough (Truncate path size) action running apart found plan begins beside some =
      nothing_or (IsEnough words (Truncate path size) (left_of_plan action)) Resize (IsResizingFor P I words path size) KeepSize action (is_size_of words path size) plan
      (λ is. no_events action KeepSize is refl some)
      (λ resizing is for.
      file_enough (Truncate path size) (left_of_plan action) resizing.new_pages refl (ap (λ (plan : Action). (left_of_plan plan).pages) is) for.new_pages.count_is)
  enough (Read path offset count) action running apart found plan begins beside some = none_enough (Read path offset count) (left_of_plan action) refl refl
  enough (Tell path) action running apart found plan begins beside some = none_enough (Tell path) (left_of_plan action) refl refl
  enough (Show path) action running apart found plan begins beside some = none_enough (Show path) (left_of_plan action) refl refl
  enough Df action running apart found plan begins beside some = none_enough Df (left_of_plan action) refl refl

pub plan_enough : (volume : VolumeView) (device : DeviceView) (words : State) (command : Command) (action : Action) (running : Running) (others : Residue)
    → IsReady volume device words command action others → begun action ≡ Some running → runs_beside running ≡ true → 0 < events_of action
    → IsEnough words command (left_of_plan action)
plan_enough volume device words command action running others ready begins beside some =
    let stands = ready.prepared.stands in
    let tree = stands_tree volume device words others stands in
    let planned = ready.planned in
    enough volume.size device.words others words (reads_beside volume device words others stands) tree command action running
    (λ i named. (ready.prepared.untouched.each i named).apart)
    (Accepted-from_row (supply_beside volume.size others) words.tree words.room command tree planned.accepted) planned.plan_is begins beside some
