-- The move of a name between two of its steps: what stands then of the device and of the volume, and what the next step makes. P is the
-- number of pages; the pages are those that go with a replaced node. A move runs alone, so that what stands is said by the words at its
-- begin and by the steps that were made since.
use Rattle.std.specs.Prelude.{◌≡◌, ◌≢◌, ◌⊎◌, ℕ, ◌*◌, ◌<◌, ◌≤◌, true, false, nat_lt, if◌then◌else◌, List, [], ◌∷◌, ◌++◌, length, Contains, Option, Some, None}
use Rattle.layout.specs.Geometry.{most_data_pages}
use Rattle.pm_trait.specs.DeviceView.{DeviceView}
use Rattle.pm_trait.specs.Unfolds.{Step, Through, events_in}
use Rattle.layout.specs.Name.{words_of_name}
use Rattle.image_reading.specs.Reading.{ReadsAs}
use Rattle.image_reading.specs.Tidy.{Tidy}
use Rattle.tree_model.specs.PathText.{Route}
use Rattle.tree_model.specs.Run.{State}
use Rattle.tree_model.specs.declared.command.Command.TheVariants.{Rename}
use Rattle.tree_model.specs.declared.reply.Reply.TheVariants.{Done}
use Rattle.volume.specs.Planned.{IsPlanned}
use Rattle.volatile_index.specs.Index.{inodes_of_index}
use Rattle.volume.specs.Volume.{VolumeView}
use Rattle.volume.specs.Costs.{count_of, where_true, goes_of, pages_of_loss, pages_replaced, events_of}
use Rattle.volume.specs.Entered.{pages_of_option, HasNamePlace, MayTakePages, MayPutName, MayRemoveName, MayGiveBack, MayGo, TakesPages, PutsName, LeavesName, LeavesPageOf, LeavesInodeIf}
use Rattle.volume.specs.Stages.{HasKept, keeping}
use Rattle.volume.specs.declared.next.Held.{Held}
use Rattle.volume.specs.declared.next.Next.{Next}
use Rattle.volume.specs.declared.next.Next.TheVariants.{More, Ended}
use Rattle.volume.specs.declared.plan.Loss.{Loss}
use Rattle.volume.specs.declared.plan.Moving.{Moving}
use Rattle.volume.specs.declared.plan.Action.{Action}
use Rattle.volume.specs.declared.plan.Action.TheVariants.{Make, Name, Remove, Move, Write as WriteBytes, WriteNothing, Resize, KeepSize, KeepNames, Read as ReadBytes, Status, Names, Space}
use Rattle.entry_steps.specs.Steps.{claim_steps, filling_named, naming, owning}
use Rattle.entry_steps.specs.Waiting.{HasTakenPage, idle_step}
use Rattle.removal_steps.specs.Steps.{AreGonePages, gone_pages, number_of, unnaming, giving, freeing}
use Rattle.rename_ptr.specs.Steps.{opening, pointing, clearing_source, moving_steps, steps_of}
use Rattle.rename_ptr.specs.declared.rename.Progress.{Progress}
use Rattle.rename_ptr.specs.declared.rename.Progress.TheVariants.{Begun, Filled, Opened, Pointed, Moved, Left, Cleared, Disowned}
use Rattle.rename_ptr.specs.declared.rename.Stage.{Stage}
use Rattle.rename_ptr.specs.declared.rename.Stage.TheVariants.{Nothing, Moving as Moves}

-- where a plan begins: with nothing to do, or with a move
abbrev pub begun : Action → Stage
begun (Move moving) = Moves moving Begun
begun KeepNames = Nothing
begun (Make entry) = Nothing
begun (Name link) = Nothing
begun (Remove removal) = Nothing
begun (WriteBytes writing) = Nothing
begun WriteNothing = Nothing
begun (Resize resizing) = Nothing
begun KeepSize = Nothing
begun (ReadBytes reading) = Nothing
begun (Status inode) = Nothing
begun (Names inode) = Nothing
begun Space = Nothing

-- ---- the steps that are left

abbrev pub freeing_of : ℕ → Moving → List ℕ → Step
freeing_of P moving pages = freeing P pages moving.given_back (goes_of moving.replaced) (number_of moving.replaced)

abbrev pub left_at : ℕ → Moving → List ℕ → Progress → List Step
left_at P moving pages Begun = steps_of P moving pages
left_at P moving pages Filled = claim_steps P moving.to_directory moving.new_page ++ moving_steps P moving pages
left_at P moving pages Opened = moving_steps P moving pages
left_at P moving pages Pointed =
    naming P moving.to_slot moving.inode ∷ unnaming P moving.from_slot ∷ clearing_source P moving ∷ giving P pages moving.given_back ∷ freeing_of P moving pages ∷ []
left_at P moving pages Moved = unnaming P moving.from_slot ∷ clearing_source P moving ∷ giving P pages moving.given_back ∷ freeing_of P moving pages ∷ []
left_at P moving pages Left = clearing_source P moving ∷ giving P pages moving.given_back ∷ freeing_of P moving pages ∷ []
left_at P moving pages Cleared = giving P pages moving.given_back ∷ freeing_of P moving pages ∷ []
left_at P moving pages Disowned = freeing_of P moving pages ∷ []

abbrev pub left_of : VolumeView → Stage → List Step
left_of volume Nothing = []
left_of volume (Moves moving progress) = left_at volume.size moving (gone_pages volume moving.replaced) progress

-- and the first of them
abbrev pub first_step : ℕ → Moving → Option ℕ → Step
first_step P moving None = pointing P moving
first_step P moving (Some page) = filling_named P page (words_of_name moving.to_name)

abbrev pub claiming_step : ℕ → Moving → Option ℕ → Step
claiming_step P moving None = idle_step
claiming_step P moving (Some page) = owning P page moving.to_directory

abbrev pub step_at : ℕ → Moving → List ℕ → Progress → Step
step_at P moving pages Begun = first_step P moving moving.new_page
step_at P moving pages Filled = claiming_step P moving moving.new_page
step_at P moving pages Opened = pointing P moving
step_at P moving pages Pointed = naming P moving.to_slot moving.inode
step_at P moving pages Moved = unnaming P moving.from_slot
step_at P moving pages Left = clearing_source P moving
step_at P moving pages Cleared = giving P pages moving.given_back
step_at P moving pages Disowned = freeing_of P moving pages

abbrev pub step_of : VolumeView → Stage → Step
step_of volume Nothing = idle_step
step_of volume (Moves moving progress) = step_at volume.size moving (gone_pages volume moving.replaced) progress

-- ---- what stands before it, of the device

-- a new page that is filled and has no owner yet
abbrev pub filling_steps : ℕ → Moving → Option ℕ → List Step
filling_steps P moving None = []
filling_steps P moving (Some page) = filling_named P page (words_of_name moving.to_name) ∷ []

-- the steps that were made
abbrev pub made_at : ℕ → Moving → List ℕ → Progress → List Step
made_at P moving pages Begun = []
made_at P moving pages Filled = filling_steps P moving moving.new_page
made_at P moving pages Opened = opening P moving moving.new_page
made_at P moving pages Pointed = opening P moving moving.new_page ++ pointing P moving ∷ []
made_at P moving pages Moved = opening P moving moving.new_page ++ pointing P moving ∷ naming P moving.to_slot moving.inode ∷ []
made_at P moving pages Left = opening P moving moving.new_page ++ pointing P moving ∷ naming P moving.to_slot moving.inode ∷ unnaming P moving.from_slot ∷ []
made_at P moving pages Cleared =
    opening P moving moving.new_page ++ pointing P moving ∷ naming P moving.to_slot moving.inode ∷ unnaming P moving.from_slot ∷ clearing_source P moving ∷ []
made_at P moving pages Disowned =
    opening P moving moving.new_page ++ pointing P moving ∷ naming P moving.to_slot moving.inode ∷ unnaming P moving.from_slot ∷ clearing_source P moving ∷ giving P pages moving.given_back ∷ []

-- The stage has a step with a store: there is a new page to fill and to claim, or something to give back.
abbrev pub HasStore : Moving → Progress → Type 0
HasStore moving Begun = Unit {0}
HasStore moving Filled = (page : ℕ) × (moving.new_page ≡ Some page)
HasStore moving Opened = (page : ℕ) × (moving.new_page ≡ Some page)
HasStore moving Pointed = Unit {0}
HasStore moving Moved = Unit {0}
HasStore moving Left = Unit {0}
HasStore moving Cleared = 0 < pages_replaced moving
HasStore moving Disowned = (0 < pages_replaced moving) ⊎ (goes_of moving.replaced ≡ true)

-- The words are tidy and read as the state, and this is the move of an accepted rename of these paths.
pub record IsPlannedMove (P : ℕ) (I : List ℕ) (state : State) (from to : Route) (moving : Moving) : Type 0 where
  pub tidy : Tidy P I
  pub reads : ReadsAs P I state
  pub planned : IsPlanned P I state (Rename from to) (Move moving)

-- At the words of its begin the move was that of an accepted rename, and from these its steps made the words as they are.
pub record IsAt (P : ℕ) (I : List ℕ) (moving : Moving) (pages : List ℕ) (progress : Progress) : Type 0 where
  pub first : List ℕ
  pub planned : (state : State) × (from : Route) × (to : Route) × IsPlannedMove P first state from to moving
  pub pages_are : AreGonePages P first moving.replaced pages
  pub made : Through (made_at P moving pages progress) first I
  pub store : HasStore moving progress

-- ---- and of the volume

-- the new page, where there is one, is free until it is filled, and then taken
abbrev pub HasNumbers : VolumeView → Moving → Progress → Type 0
HasNumbers volume moving Begun = MayTakePages volume (pages_of_option moving.new_page)
HasNumbers volume moving Filled = HasTakenPage volume moving.new_page
HasNumbers volume moving Opened = HasTakenPage volume moving.new_page
HasNumbers volume moving Pointed = HasTakenPage volume moving.new_page
HasNumbers volume moving Moved = Unit {0}
HasNumbers volume moving Left = Unit {0}
HasNumbers volume moving Cleared = Unit {0}
HasNumbers volume moving Disowned = Unit {0}

-- a new entry has its place; that of a node that is replaced is there
abbrev pub HasPlaceFor : VolumeView → Moving → Option Loss → Type 0
HasPlaceFor volume moving None = MayPutName volume moving.to_directory moving.to_name × HasNamePlace volume moving.to_directory moving.new_page
HasPlaceFor volume moving (Some loss) = Unit {0}

-- The old name is there, and the new one has its place, until the name has moved.
pub record HasNames (volume : VolumeView) (moving : Moving) : Type 0 where
  pub source : MayRemoveName volume moving.from_directory moving.from_name
  pub target : HasPlaceFor volume moving moving.replaced

abbrev pub HasNamesAt : VolumeView → Moving → Progress → Type 0
HasNamesAt volume moving Begun = HasNames volume moving
HasNamesAt volume moving Filled = HasNames volume moving
HasNamesAt volume moving Opened = HasNames volume moving
HasNamesAt volume moving Pointed = HasNames volume moving
HasNamesAt volume moving Moved = Unit {0}
HasNamesAt volume moving Left = Unit {0}
HasNamesAt volume moving Cleared = Unit {0}
HasNamesAt volume moving Disowned = Unit {0}

abbrev pub MayLose : VolumeView → Moving → Option Loss → Type 0
MayLose volume moving None = Unit {0}
MayLose volume moving (Some loss) =
    (1 ≤ loss.inode) × (loss.inode ≤ inodes_of_index volume.index) × (loss.goes ≡ true → MayGo volume loss.inode × (moving.from_directory ≢ loss.inode))

-- What is given back is in the volume: the page of the old slot, and a replaced inode with its pages, no more than a volume may have; they are apart.
pub record HasLosses (volume : VolumeView) (moving : Moving) : Type 0 where
  pub directory : (1 ≤ moving.from_directory) × (moving.from_directory ≤ inodes_of_index volume.index)
  pub count : length (gone_pages volume moving.replaced) ≡ pages_of_loss moving.replaced
  pub few : pages_of_loss moving.replaced ≤ most_data_pages
  pub page : MayGiveBack volume moving.from_directory moving.given_back
  pub inode : MayLose volume moving moving.replaced
  pub apart : (page : ℕ) → moving.given_back ≡ Some page → ¬ Contains (gone_pages volume moving.replaced) page

pub record KnowsMove (volume : VolumeView) (moving : Moving) (progress : Progress) : Type 0 where
  pub numbers : HasNumbers volume moving progress
  pub names : HasNamesAt volume moving progress
  pub losses : HasLosses volume moving

abbrev pub IsStage : VolumeView → List ℕ → Stage → Type 0
IsStage volume words Nothing = Unit {0}
IsStage volume words (Moves moving progress) = IsAt volume.size words moving (gone_pages volume moving.replaced) progress × KnowsMove volume moving progress

-- The move may make its next step: its words stand, its events are kept, and its names and numbers are in the volume.
pub record StandsStage (volume : VolumeView) (device : DeviceView) (running : Stage) : Type 0 where
  pub going : volume.stopped ≡ false
  pub whole : length device.words ≡ 512 * volume.size
  pub at : IsStage volume device.words running
  pub kept : HasKept volume device (events_in (left_of volume running))

abbrev pub StandsNext : VolumeView → DeviceView → Next Stage → Type 0
StandsNext volume device (More running) = StandsStage volume device running
StandsNext volume device (Ended reply) = Unit {0}

-- The plan moves a name, the volume has no mark where the plan has an event, and once its events are kept, its first stage stands.
abbrev pub MayBegin : VolumeView → DeviceView → Action → Type 0
MayBegin volume device plan = (((moving : Moving) × (plan ≡ Move moving)) ⊎ (plan ≡ KeepNames)) × (0 < events_of plan → volume.marked ≡ false) × StandsStage (keeping volume plan) device (begun plan)

-- ---- what comes of it

abbrev pub next_first : Moving → Option ℕ → Next Stage
next_first moving None = More (Moves moving Pointed)
next_first moving (Some page) = More (Moves moving Filled)

-- The next step that has a store: pages lose their owner, then they and a replaced inode are freed.
abbrev pub next_moving : Moving → Progress → Next Stage
next_moving moving Begun = next_first moving moving.new_page
next_moving moving Filled = More (Moves moving Opened)
next_moving moving Opened = More (Moves moving Pointed)
next_moving moving Pointed = More (Moves moving Moved)
next_moving moving Moved = More (Moves moving Left)
next_moving moving Left =
    if nat_lt 0 (pages_replaced moving) then More (Moves moving Cleared)
    else if goes_of moving.replaced then More (Moves moving Disowned) else Ended Done
next_moving moving Cleared = More (Moves moving Disowned)
next_moving moving Disowned = Ended Done

abbrev pub next_of : Stage → Next Stage
next_of Nothing = Ended Done
next_of (Moves moving progress) = next_moving moving progress

-- the new name is in the index, or that of the node that is replaced stays there
abbrev pub PutsTarget : VolumeView → VolumeView → Moving → Option Loss → Type 0
PutsTarget old new moving None = PutsName old new moving.to_directory moving.to_name moving.to_slot moving.new_page
PutsTarget old new moving (Some loss) = new ≡ old

pub record MovesName (old new : VolumeView) (moving : Moving) : Type 0 where
  pub unnamed : VolumeView
  pub source : LeavesName old unnamed moving.from_directory moving.from_name
  pub target : PutsTarget unnamed new moving moving.replaced

-- a replaced inode is given back with its pages where it goes, and the page of the old slot
abbrev pub LosesReplaced : VolumeView → VolumeView → Option Loss → Type 0
LosesReplaced old new None = new ≡ old
LosesReplaced old new (Some loss) = LeavesInodeIf loss.goes old new loss.inode

pub record GivesBack (old new : VolumeView) (moving : Moving) : Type 0 where
  pub lost : VolumeView
  pub inode : LosesReplaced old lost moving.replaced
  pub page : LeavesPageOf lost new moving.from_directory moving.given_back

-- what the volume takes in behind the step: the new page's number behind the first, the names behind the one that commits, and behind the
-- last that the numbers are free
abbrev pub EntersMoving : Moving → Progress → VolumeView → VolumeView → Type 0
EntersMoving moving Begun old new = TakesPages old new (pages_of_option moving.new_page)
EntersMoving moving Filled old new = new ≡ old
EntersMoving moving Opened old new = new ≡ old
EntersMoving moving Pointed old new = MovesName old new moving
EntersMoving moving Moved old new = new ≡ old
EntersMoving moving Left old new = new ≡ old
EntersMoving moving Cleared old new = new ≡ old
EntersMoving moving Disowned old new = GivesBack old new moving

abbrev pub EntersAt : Stage → VolumeView → VolumeView → Type 0
EntersAt Nothing old new = new ≡ old
EntersAt (Moves moving progress) old new = EntersMoving moving progress old new

-- what it holds: until its commit its new page, and behind it what it has to give back
abbrev pub held_before : Moving → Held
held_before moving = record { inodes = 0; pages = count_of moving.new_page }

abbrev pub held_behind : Moving → Held
held_behind moving = record { inodes = where_true (goes_of moving.replaced) 1; pages = pages_replaced moving }

abbrev pub held_moving : Moving → Progress → Held
held_moving moving Begun = held_before moving
held_moving moving Filled = held_before moving
held_moving moving Opened = held_before moving
held_moving moving Pointed = held_before moving
held_moving moving Moved = held_behind moving
held_moving moving Left = held_behind moving
held_moving moving Cleared = held_behind moving
held_moving moving Disowned = held_behind moving

abbrev pub held_of : Stage → Held
held_of Nothing = record { inodes = 0; pages = 0 }
held_of (Moves moving progress) = held_moving moving progress
