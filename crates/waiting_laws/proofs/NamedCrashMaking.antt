-- What a crash in a step of the making of an entry leaves, of the words alone: by where the call waits.
use Rattle.std.proofs.Common.{◌≡◌, ℕ, true, false, List, sym, true≢false}
use Rattle.pm_trait.specs.DeviceView.{DeviceView}
use Rattle.fence_token.specs.declared.states.Clean.{Clean}
use Rattle.tree_model.specs.PathText.{Route}
use Rattle.tree_model.specs.Run.{State}
use Rattle.tree_model.specs.Step.{making as of_kind}
use Rattle.image_reading.specs.Residue.{Residue}
use Rattle.inode_state.specs.Inode.{InodeView}
use Rattle.volume.specs.Volume.{VolumeView}
use Rattle.volume.specs.declared.plan.NewEntry.{NewEntry}
use Rattle.entry_steps.specs.declared.place.NamePlace.{NamePlace}
use Rattle.entry_steps.specs.declared.place.NamePlace.TheVariants.{Slot, Page}
use Rattle.create_ops.specs.declared.run.Stage.{Stage}
use Rattle.create_ops.specs.declared.run.Stage.TheVariants.{Begun, Written, Claimed}
use Rattle.create_ops.specs.Stages.{RunningView, step_at}
use Rattle.waiting_laws.specs.Beside.{KeepsMeaning, Commits}
use Rattle.waiting_laws.specs.Crashes.{is_in_place, commits_entry, MakingFirstCrashLaw, MakingQuietLaw, MakingCommitsLaw}
use Rattle.waiting_laws.specs.Making.{WaitsToMake}
use Rattle.waiting_laws.proofs.NamingClaimed.{crash_claimed}
use Rattle.waiting_laws.proofs.MakingWritten.{crash_written}
use Rattle.waiting_laws.proofs.MakingEnds.{commits}

pub making_first_crash : MakingFirstCrashLaw
making_first_crash volume device state path entry others J ready made = crash_written volume device state path entry others ready J made

module _ (volume : VolumeView) (device : DeviceView) (state : State) (path : Route) (entry : NewEntry) (others : Residue) (J : List ℕ) where
  abbrev at : Stage → RunningView
  at stage = record { entry = entry; stage = stage }

  abbrev at_place : InodeView → NamePlace Clean → Stage
  at_place inode place = Written (record { inode = inode; place = place })

  -- ---- the new page gets its owner

  quiet_by_place : (inode : InodeView) (place : NamePlace Clean) → WaitsToMake volume device state path (at (at_place inode place)) others → is_in_place place ≡ false
      → (step_at volume.size entry (at_place inode place)).Makes device.words J → KeepsMeaning volume.size device.words J
  quiet_by_place inode (Slot dentry) on other made = absurd (true≢false other)
  quiet_by_place inode (Page page) on other made = crash_claimed on.beside on.name on.words.1 on.place J made

  quiet_by : (stage : Stage) → WaitsToMake volume device state path (at stage) others → commits_entry stage ≡ false → (step_at volume.size entry stage).Makes device.words J → KeepsMeaning volume.size device.words J
  quiet_by Begun on other made = absurd on.name
  quiet_by (Written node) on other made = quiet_by_place node.inode node.place on other made
  quiet_by (Claimed node) on other made = absurd (true≢false other)

  -- ---- the slot gets its number

  commits_by_place : (inode : InodeView) (place : NamePlace Clean) → WaitsToMake volume device state path (at (at_place inode place)) others → is_in_place place ≡ true
      → (step_at volume.size entry (at_place inode place)).Makes device.words J → Commits volume.size device.words J state (of_kind entry.kind path) entry.inode
  commits_by_place inode (Slot dentry) on last made = commits volume device state path (at (at_place inode (Slot dentry))) others on on.name J made
  commits_by_place inode (Page page) on last made = absurd (true≢false (sym last))

  commits_by : (stage : Stage) → WaitsToMake volume device state path (at stage) others → commits_entry stage ≡ true → (step_at volume.size entry stage).Makes device.words J
      → Commits volume.size device.words J state (of_kind entry.kind path) entry.inode
  commits_by Begun on last made = absurd on.name
  commits_by (Written node) on last made = commits_by_place node.inode node.place on last made
  commits_by (Claimed node) on last made = commits volume device state path (at (Claimed node)) others on on.name J made

pub making_quiet : MakingQuietLaw
making_quiet volume device state path running others J on other made = quiet_by volume device state path running.entry others J running.stage on other made

pub making_commits : MakingCommitsLaw
making_commits volume device state path running others J on last made = commits_by volume device state path running.entry others J running.stage on last made
