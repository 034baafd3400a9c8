-- The step in which the slot takes the file's number commits one more name, and is its last.
use Rattle.std.proofs.Common.{◌≡◌, inl, ℕ, ◌-◌, List, reverse, refl, sym, ◌∙◌}
use Rattle.pm_trait.specs.DeviceView.{DeviceView}
use Rattle.fence_token.specs.declared.states.Clean.{Clean}
use Rattle.tree_model.specs.PathText.{Route}
use Rattle.tree_model.specs.Tree.{parent}
use Rattle.tree_model.specs.Run.{State}
use Rattle.tree_model.specs.declared.command.Command.TheVariants.{Link}
use Rattle.tree_model.specs.declared.reply.Reply.TheVariants.{Done}
use Rattle.image_reading.specs.Reading.{IsFile}
use Rattle.image_reading.specs.Residue.{Residue}
use Rattle.image_counts.proofs.Nodes.{size_law}
use Rattle.image_counts.proofs.Paths.{in_range}
use Rattle.image_laws.specs.Add.{IsOldFile, CanAdd}
use Rattle.image_laws.specs.Create.{committed}
use Rattle.image_laws.specs.CreateStep.{IsStepped}
use Rattle.inode_state.specs.Inode.{InodeView}
use Rattle.weave_laws.specs.Joined.{joined}
use Rattle.weave_laws.specs.Waiting.{WaitsBeside, IsWaitingName, MayCommit}
use Rattle.weave_laws.proofs.Entered.{link_entered_law}
use Rattle.weave_laws.proofs.LinkCommitted.{link_committed_law}
use Rattle.weave_laws.proofs.WaitingNames.{waiting_file_law}
use Rattle.weave_laws.proofs.WaitingPlaces.{waiting_link_law}
use Rattle.volume.specs.Volume.{VolumeView}
use Rattle.volume.specs.Costs.{commit_events}
use Rattle.volume.specs.Entered.{PutsName}
use Rattle.volume.specs.declared.next.Next.{Next}
use Rattle.volume.specs.declared.next.Next.TheVariants.{More, Ended}
use Rattle.volume.specs.declared.plan.NewName.{NewName}
use Rattle.entry_steps.specs.declared.place.NamePlace.{NamePlace}
use Rattle.entry_steps.specs.declared.place.NamePlace.TheVariants.{Slot, Page}
use Rattle.entry_steps.specs.Steps.{naming}
use Rattle.unlink_ops.specs.declared.link.Stage.{Stage}
use Rattle.unlink_ops.specs.declared.link.Stage.TheVariants.{Begun, Written, Claimed}
use Rattle.unlink_ops.specs.LinkStages.{RunningView, IsAfter, IsAfterPlace, EntersAtStage, EntersAfterPlace, step_at}
use Rattle.waiting_laws.specs.Beside.{MakesStep, Commits}
use Rattle.waiting_laws.specs.Linking.{held_by, left_by, WaitsToLink, LinkingEndsLaw}
use Rattle.waiting_laws.proofs.Standing.{waits}
use Rattle.waiting_laws.proofs.NamingEnds.{page_of_place, brings, name_commits, HasEnded, ended}

module _ (old : VolumeView) (before : DeviceView) (state : State) (from path : Route) (running : RunningView) (others : Residue) (on : WaitsToLink old before state from path running others)
    (name : IsWaitingName old.size before.words state.tree path running.link.directory running.link.slot) where
  abbrev P : ℕ
  P = old.size

  abbrev I : List ℕ
  I = before.words

  abbrev link : NewName
  link = running.link

  abbrev d : ℕ
  d = link.directory

  abbrev s : ℕ
  s = link.slot

  abbrev i : ℕ
  i = link.inode

  beside : WaitsBeside P I (left_by link) others state
  beside = waits old before state (left_by link) others on.beside

  file : IsFile I i
  file = (((size_law P I state beside.holds.coherent beside.holds.reads).files i).0 on.file).1

  may : MayCommit P I state path d s link.new_page i × IsOldFile P I i
  may = waiting_file_law P I state path d s link.new_page i others beside name (page_of_place P I s link.new_page on.place) on.full file

  can : CanAdd P I (reverse (parent path)) d s i
  can = may.0.can

  stepped : IsStepped P (committed P I s i) state (Link from path) i
  stepped = link_entered_law P I state (reverse (parent path)) from path d s i i can may.1 on.file_is may.0.has_place may.0.path_is beside.holds.reads

  pub commits : (J : List ℕ) → (naming P s i).Makes I J → Commits P I J state (Link from path) i
  commits J made = name_commits on.beside.stands on.beside.unmarked can stepped J made

  pub ends : (new : VolumeView) (after : DeviceView) (Enters : VolumeView → VolumeView → Type 0) → MakesStep (naming P s i) Enters old new before after → PutsName (record old { kept = old.kept - commit_events }) new d link.name s link.new_page
      → HasEnded old new before after state (Link from path) i others (held_by link)
  ends new after Enters makes puts = ended on.beside can stepped
      (link_committed_law P I (reverse (parent path)) d s link.new_page i others can (waiting_link_law P I (joined (left_by link) others) state i beside.holds (inl refl) on.links) on.place beside.holds.beside)
      (brings can link.name (on.name_is ∙ sym name.name_is) (λ reached bytes. let (least, most) = in_range P I beside.holds.coherent i may.1.reached in inl (record { least = least; most = most; reached = may.1.reached; file = may.1.file })))
      refl on.beside.no_pointer on.place on.knows Enters makes puts

-- ---- by its stage

module _ (old new : VolumeView) (before after : DeviceView) (state : State) (from path : Route) (others : Residue) where
  from_place : (named : NewName) (inode : InodeView) (place : NamePlace Clean) → WaitsToLink old before state from path (record { link = named; stage = Written (record { inode = inode; place = place }) }) others
      → MakesStep (step_at old.size named (Written (record { inode = inode; place = place }))) (EntersAfterPlace named place) old new before after → IsAfterPlace named place (Ended Done)
      → HasEnded old new before after state (Link from path) named.inode others (held_by named)
  from_place named inode (Slot dentry) on makes is =
      ends old before state from path (record { link = named; stage = Written (record { inode = inode; place = Slot dentry }) }) others on on.name new after (EntersAfterPlace named (Slot dentry)) makes makes.enters
  from_place named inode (Page page) on makes (node, is) = absurd (let clash : ◌≡◌ {A = Next RunningView} (Ended Done) (More (record { link = named; stage = Claimed node })) = is in cc)

  from_stage : (named : NewName) (stage : Stage) → WaitsToLink old before state from path (record { link = named; stage = stage }) others → MakesStep (step_at old.size named stage) (EntersAtStage named stage) old new before after
      → IsAfter named stage (Ended Done) → HasEnded old new before after state (Link from path) named.inode others (held_by named)
  from_stage named Begun on makes is = absurd on.name
  from_stage named (Written node) on makes is = from_place named node.inode node.place on makes is
  from_stage named (Claimed node) on makes is = ends old before state from path (record { link = named; stage = Claimed node }) others on on.name new after (EntersAtStage named (Claimed node)) makes makes.enters

pub linking_ends : LinkingEndsLaw
linking_ends old new before after state from path running others on makes is = from_stage old new before after state from path others running.link running.stage on makes is
