-- What a crash in a step of one more name for a file leaves, of the words alone: by where the call waits.
use Rattle.std.proofs.Common.{◌≡◌, ℕ, true, false, List, sym, true≢false}
use Rattle.pm_trait.specs.DeviceView.{DeviceView}
use Rattle.fence_token.specs.declared.states.Clean.{Clean}
use Rattle.tree_model.specs.PathText.{Route}
use Rattle.tree_model.specs.Run.{State}
use Rattle.tree_model.specs.declared.command.Command.TheVariants.{Link}
use Rattle.image_reading.specs.Residue.{Residue}
use Rattle.inode_state.specs.Inode.{InodeView}
use Rattle.volume.specs.Volume.{VolumeView}
use Rattle.volume.specs.declared.plan.NewName.{NewName}
use Rattle.entry_steps.specs.declared.place.NamePlace.{NamePlace}
use Rattle.entry_steps.specs.declared.place.NamePlace.TheVariants.{Slot, Page}
use Rattle.unlink_ops.specs.declared.link.Stage.{Stage}
use Rattle.unlink_ops.specs.declared.link.Stage.TheVariants.{Begun, Written, Claimed}
use Rattle.unlink_ops.specs.LinkStages.{RunningView, step_at}
use Rattle.waiting_laws.specs.Beside.{KeepsMeaning, Commits}
use Rattle.waiting_laws.specs.Crashes.{is_in_place, commits_name, LinkingFirstCrashLaw, LinkingQuietLaw, LinkingCommitsLaw}
use Rattle.waiting_laws.specs.Linking.{WaitsToLink}
use Rattle.waiting_laws.proofs.NamingClaimed.{crash_claimed}
use Rattle.waiting_laws.proofs.LinkingWritten.{crash_written}
use Rattle.waiting_laws.proofs.LinkingEnds.{commits}

pub linking_first_crash : LinkingFirstCrashLaw
linking_first_crash volume device state from path link others J ready made = crash_written volume device state from path link others ready J made

module _ (volume : VolumeView) (device : DeviceView) (state : State) (from path : Route) (link : NewName) (others : Residue) (J : List ℕ) where
  abbrev at : Stage → RunningView
  at stage = record { link = link; stage = stage }

  abbrev at_place : InodeView → NamePlace Clean → Stage
  at_place inode place = Written (record { inode = inode; place = place })

  -- ---- the new page gets its owner

  quiet_by_place : (inode : InodeView) (place : NamePlace Clean) → WaitsToLink volume device state from path (at (at_place inode place)) others → is_in_place place ≡ false
      → (step_at volume.size link (at_place inode place)).Makes device.words J → KeepsMeaning volume.size device.words J
  quiet_by_place inode (Slot dentry) on other made = absurd (true≢false other)
  quiet_by_place inode (Page page) on other made = crash_claimed on.beside on.name on.words.1 on.place J made

  quiet_by : (stage : Stage) → WaitsToLink volume device state from path (at stage) others → commits_name stage ≡ false → (step_at volume.size link stage).Makes device.words J → KeepsMeaning volume.size device.words J
  quiet_by Begun on other made = absurd on.name
  quiet_by (Written node) on other made = quiet_by_place node.inode node.place on other made
  quiet_by (Claimed node) on other made = absurd (true≢false other)

  -- ---- the slot gets its number

  commits_by_place : (inode : InodeView) (place : NamePlace Clean) → WaitsToLink volume device state from path (at (at_place inode place)) others → is_in_place place ≡ true
      → (step_at volume.size link (at_place inode place)).Makes device.words J → Commits volume.size device.words J state (Link from path) link.inode
  commits_by_place inode (Slot dentry) on last made = commits volume device state from path (at (at_place inode (Slot dentry))) others on on.name J made
  commits_by_place inode (Page page) on last made = absurd (true≢false (sym last))

  commits_by : (stage : Stage) → WaitsToLink volume device state from path (at stage) others → commits_name stage ≡ true → (step_at volume.size link stage).Makes device.words J
      → Commits volume.size device.words J state (Link from path) link.inode
  commits_by Begun on last made = absurd on.name
  commits_by (Written node) on last made = commits_by_place node.inode node.place on last made
  commits_by (Claimed node) on last made = commits volume device state from path (at (Claimed node)) others on on.name J made

pub linking_quiet : LinkingQuietLaw
linking_quiet volume device state from path running others J on other made = quiet_by volume device state from path running.link others J running.stage on other made

pub linking_commits : LinkingCommitsLaw
linking_commits volume device state from path running others J on last made = commits_by volume device state from path running.link others J running.stage on last made
