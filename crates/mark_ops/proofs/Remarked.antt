-- A plan for some words is one for words that differ from them in the mark alone.
use Rattle.std.proofs.Common.{◌≡◌, ℕ, Bool, true, false, List, Option, Some, None, ◌∙◌}
use Rattle.std.specs.Prelude.{◌==◌, length}
use Rattle.layout.specs.declared.kinds.NodeKind.{NodeKind}
use Rattle.layout.specs.declared.kinds.NodeKind.TheVariants.{File, Directory}
use Rattle.tree_model.specs.PathText.{Route}
use Rattle.tree_model.specs.Run.{State}
use Rattle.tree_model.specs.Step.{is_same_node, resolved}
use Rattle.tree_model.specs.declared.command.Command.{Command}
use Rattle.tree_model.specs.declared.command.Command.TheVariants.{Create, Mkdir, Link, Unlink, Rmdir, Rename, Write, Truncate, Read, Stat as Tell, List as Show, Df}
use Rattle.image_reading.proofs.Credits.{count_same}
use Rattle.image_counts.specs.Entries.{IsPageIn, IsUnusedDataPage, IsFreeInode}
use Rattle.image_laws.specs.Marking.{SameButMark}
use Rattle.image_laws.proofs.Marking.{marked_back, same_inode_kind, same_page_owner, same_page_kind, same_slot_inode, same_slot_owner, entry_marked}
use Rattle.volume.specs.declared.plan.Action.{Action}
use Rattle.volume.specs.declared.plan.Action.TheVariants.{Move, Write as WriteBytes, WriteNothing, Resize, KeepSize, KeepNames}
use Rattle.volume.specs.declared.plan.Loss.{Loss}
use Rattle.volume.specs.declared.plan.Moving.{Moving}
use Rattle.volume.specs.declared.plan.NewEntry.{NewEntry}
use Rattle.volume.specs.declared.plan.Removal.{Removal}
use Rattle.volume.specs.declared.plan.Resizing.{Resizing}
use Rattle.volume.specs.declared.plan.Writing.{Writing}
use Rattle.volume.specs.Planned.{IsVacantSlot, IsPlace, IsNewNameAt, IsNameAt, IsLossOf, IsAlone, IsGivenBack, IsLeastInode, IsEntryFor, IsRemovalFor, IsTargetOf, IsEmptiedBy, IsMovingFor, AreNewPages, IsWritingFor, IsResizingFor, IsNothingOr, IsPlanOf, IsPlanned, is_size_of}

-- ---- slots and pages

module _ (P : ℕ) {I J : List ℕ} (same : SameButMark I J) where
  vacant : (d s : ℕ) → IsVacantSlot P I d s → IsVacantSlot P J d s
  vacant d s is = record { page = record { in_range = is.page.in_range; owner = same_slot_owner P same s ∙ is.page.owner }; vacant = same_slot_inode P same s ∙ is.vacant }

  free : (j : ℕ) → IsUnusedDataPage P I j → IsUnusedDataPage P J j
  free j (lt, none) = (lt, (same_page_owner P same j ∙ none.0, same_page_kind P same j ∙ none.1))

  free_inode : (i : ℕ) → IsFreeInode P I i → IsFreeInode P J i
  free_inode i (least, most, none) = (least, most, same_inode_kind same i ∙ none)

  -- a page of an inode is one of it in the other words too
  pub page_marked : (i j : ℕ) → IsPageIn P I i j → IsPageIn P J i j
  page_marked i j is = record { in_range = is.in_range; owner = same_page_owner P same j ∙ is.owner }

  alone : (s : ℕ) → IsAlone P I s → IsAlone P J s
  alone s is other at ne = same_slot_inode P same other ∙ is other at ne

  emptied : (moving : Moving) → IsEmptiedBy P I moving → IsEmptiedBy P J moving
  emptied moving (none, other) = (alone moving.from_slot none, other)

given_back : (A B : Type 0) → (A → B) → (B → A) → (s : ℕ) (page : Option ℕ) → IsGivenBack A s page → IsGivenBack B s page
given_back A B on back s None is = λ b. is (back b)
given_back A B on back s (Some page) (a, at) = (on a, at)

-- ---- what a plan says

module _ (P : ℕ) {I J : List ℕ} (same : SameButMark I J) (state : State) where
  back : SameButMark J I
  back = marked_back same

  place : (d s : ℕ) (page : Option ℕ) → IsPlace P I d s page → IsPlace P J d s page
  place d s None is = record { vacant = vacant P same d s is.vacant; lowest = λ other lt there. is.lowest other lt (vacant P back d other there) }
  place d s (Some page) is = record {
    full = λ other there. is.full other (vacant P back d other there);
    page_is = record { free = free P same page is.page_is.free; lowest = λ other lt there. is.page_is.lowest other lt (free P back other there) };
    slot_is = is.slot_is;
  }

  new_name : (path : Route) (d : ℕ) (name : List ℕ) (s : ℕ) (page : Option ℕ) → IsNewNameAt P I state path d name s page → IsNewNameAt P J state path d name s page
  new_name path d name s page at = record { directory_is = at.directory_is; name_is = at.name_is; place = place d s page at.place }

  name_at : (path : Route) (d : ℕ) (name : List ℕ) (s i : ℕ) → IsNameAt P I state path d name s i → IsNameAt P J state path d name s i
  name_at path d name s i at = record { directory_is = at.directory_is; name_is = at.name_is; slot_is = entry_marked P same d name s at.slot_is; inode_is = at.inode_is }

  loss_of : (command : Command) (loss : Loss) → IsLossOf P I state command loss → IsLossOf P J state command loss
  loss_of command loss is = record {
    kind_is = is.kind_is;
    goes_is = is.goes_is;
    pages = λ goes. count_same (IsPageIn P I loss.inode) (IsPageIn P J loss.inode) loss.pages (λ j. (page_marked P same loss.inode j, page_marked P back loss.inode j)) (is.pages goes);
    no_pages = is.no_pages;
  }

  target : (from to : Route) (moving : Moving) (replaced : Option Loss) → IsTargetOf P I state from to moving replaced → IsTargetOf P J state from to moving replaced
  target from to moving None (none, at) = (none, new_name to moving.to_directory moving.to_name moving.to_slot moving.new_page at)
  target from to moving (Some loss) (at, is, none) = (name_at to moving.to_directory moving.to_name moving.to_slot loss.inode at, loss_of (Rename from to) loss is, none)

  new_pages : (command : Command) (pages : List ℕ) → AreNewPages P I state command pages → AreNewPages P J state command pages
  new_pages command pages are = record { count_is = are.count_is; rising = are.rising; each = λ k at. free P same k (are.each k at); lowest = λ k other at lt there. are.lowest k other at lt (free P back other there) }

  least_inode : (i : ℕ) → IsLeastInode P I i → IsLeastInode P J i
  least_inode i is = record { free = free_inode P same i is.free; from_two = is.from_two; least = λ other low high there. is.least other low high (free_inode P back other there) }

  entry_for : (path : Route) (kind : NodeKind) (entry : NewEntry) → IsEntryFor P I state path kind entry → IsEntryFor P J state path kind entry
  entry_for path kind entry is = record { kind_is = is.kind_is; new_name = new_name path entry.directory entry.name entry.slot entry.new_page is.new_name; inode_is = least_inode entry.inode is.inode_is }

  removal_for : (command : Command) (path : Route) (removal : Removal) → IsRemovalFor P I state command path removal → IsRemovalFor P J state command path removal
  removal_for command path removal is = record {
    named = name_at path removal.directory removal.name removal.slot removal.loss.inode is.named;
    loss = loss_of command removal.loss is.loss;
    given_back = given_back (IsAlone P I removal.slot) (IsAlone P J removal.slot) (alone P same removal.slot) (alone P back removal.slot) removal.slot removal.given_back is.given_back;
  }

  moving_for : (from to : Route) (moving : Moving) → IsMovingFor P I state from to moving → IsMovingFor P J state from to moving
  moving_for from to moving is = record {
    kind_is = is.kind_is;
    source = name_at from moving.from_directory moving.from_name moving.from_slot moving.inode is.source;
    target = target from to moving moving.replaced is.target;
    given_back = given_back (IsEmptiedBy P I moving) (IsEmptiedBy P J moving) (emptied P same moving) (emptied P back moving) moving.from_slot moving.given_back is.given_back;
  }

  writing_for : (path : Route) (offset : ℕ) (bytes : List ℕ) (writing : Writing) → IsWritingFor P I state path offset bytes writing → IsWritingFor P J state path offset bytes writing
  writing_for path offset bytes writing is = record {
    inode_is = is.inode_is;
    offset_is = is.offset_is;
    count_is = is.count_is;
    size_is = is.size_is;
    new_pages = new_pages (Write path offset bytes) writing.new_pages is.new_pages;
  }

  resizing_for : (path : Route) (size : ℕ) (resizing : Resizing) → IsResizingFor P I state path size resizing → IsResizingFor P J state path size resizing
  resizing_for path size resizing is = record {
    inode_is = is.inode_is;
    old_is = is.old_is;
    new_is = is.new_is;
    new_pages = new_pages (Truncate path size) resizing.new_pages is.new_pages;
    cut_is = is.cut_is;
  }

nothing_or : (holds : Bool) (nothing : Action) (Q R : Action → Type 0) (action : Action) → (Q action → R action) → IsNothingOr holds nothing Q action → IsNothingOr holds nothing R action
nothing_or true nothing Q R action on is = is
nothing_or false nothing Q R action on is = on is

-- ---- plans

abbrev Moves : ℕ → List ℕ → State → Route → Route → Action → Type 0
Moves P I state from to action = (moving : Moving) × (action ≡ Move moving) × IsMovingFor P I state from to moving

abbrev Writes : ℕ → List ℕ → State → Route → ℕ → List ℕ → Action → Type 0
Writes P I state path offset bytes action = (writing : Writing) × (action ≡ WriteBytes writing) × IsWritingFor P I state path offset bytes writing

abbrev Resizes : ℕ → List ℕ → State → Route → ℕ → Action → Type 0
Resizes P I state path size action = (resizing : Resizing) × (action ≡ Resize resizing) × IsResizingFor P I state path size resizing

module _ (P : ℕ) {I J : List ℕ} (same : SameButMark I J) where
  plan_of : (state : State) (command : Command) (action : Action) → IsPlanOf P I state command action → IsPlanOf P J state command action
  plan_of state (Create path) action (entry, is, for_path) = (entry, is, entry_for P same state path File entry for_path)
  plan_of state (Mkdir path) action (entry, is, for_path) = (entry, is, entry_for P same state path Directory entry for_path)
  plan_of state (Link from to) action (link, is, for_path) = (link, is, record { new_name = new_name P same state to link.directory link.name link.slot link.new_page for_path.new_name; inode_is = for_path.inode_is })
  plan_of state (Unlink path) action (removal, is, for_path) = (removal, is, removal_for P same state (Unlink path) path removal for_path)
  plan_of state (Rmdir path) action (removal, is, for_path) = (removal, is, removal_for P same state (Rmdir path) path removal for_path)
  plan_of state (Rename from to) action is =
      nothing_or (is_same_node state.tree from to) KeepNames (Moves P I state from to) (Moves P J state from to) action
      (λ (moving, at, for_paths). (moving, at, moving_for P same state from to moving for_paths)) is
  plan_of state (Write path offset bytes) action is =
      nothing_or (length bytes == 0) WriteNothing (Writes P I state path offset bytes) (Writes P J state path offset bytes) action
      (λ (writing, at, for_path). (writing, at, writing_for P same state path offset bytes writing for_path)) is
  plan_of state (Truncate path size) action is =
      nothing_or (is_size_of state path size) KeepSize (Resizes P I state path size) (Resizes P J state path size) action
      (λ (resizing, at, for_path). (resizing, at, resizing_for P same state path size resizing for_path)) is
  plan_of state (Read path offset count) action is = is
  plan_of state (Tell path) action is = is
  plan_of state (Show path) action is = is
  plan_of state Df action is = is

  pub planned : (state : State) (command : Command) (action : Action) → IsPlanned P I state command action → IsPlanned P J state command action
  planned state command action is = record { accepted = is.accepted; plan_is = plan_of state (resolved state.tree command) action is.plan_is }
