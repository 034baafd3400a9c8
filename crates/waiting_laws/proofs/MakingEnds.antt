-- The step in which the slot takes its number commits the making of an entry, and is its last.
use Rattle.std.proofs.Common.{◌≡◌, inr, ℕ, ◌-◌, List, reverse, refl, sym, subst, ◌∙◌, arith}
use Rattle.pm_trait.specs.DeviceView.{DeviceView}
use Rattle.layout.specs.declared.kinds.NodeKind.{NodeKind}
use Rattle.fence_token.specs.declared.states.Clean.{Clean}
use Rattle.tree_model.specs.PathText.{Route}
use Rattle.tree_model.specs.Tree.{parent}
use Rattle.tree_model.specs.Run.{State}
use Rattle.tree_model.specs.Step.{making as of_kind}
use Rattle.tree_model.specs.declared.reply.Reply.TheVariants.{Done}
use Rattle.image_reading.specs.Residue.{Residue}
use Rattle.image_laws.specs.Add.{CanAdd}
use Rattle.image_laws.specs.Create.{committed}
use Rattle.image_laws.specs.CreateStep.{IsStepped}
use Rattle.inode_state.specs.Inode.{InodeView}
use Rattle.weave_laws.specs.Waiting.{WaitsBeside, IsWaitingName, MayCommitNode}
use Rattle.weave_laws.proofs.Entered.{node_entered_law}
use Rattle.weave_laws.proofs.NodeCommitted.{node_committed_law}
use Rattle.weave_laws.proofs.WaitingNames.{waiting_node_law, waiting_words_law}
use Rattle.volume.specs.Volume.{VolumeView}
use Rattle.volume.specs.Costs.{commit_events}
use Rattle.volume.specs.Entered.{PutsName}
use Rattle.volume.specs.declared.next.Next.{Next}
use Rattle.volume.specs.declared.next.Next.TheVariants.{More, Ended}
use Rattle.volume.specs.declared.plan.NewEntry.{NewEntry}
use Rattle.entry_steps.specs.declared.place.NamePlace.{NamePlace}
use Rattle.entry_steps.specs.declared.place.NamePlace.TheVariants.{Slot, Page}
use Rattle.entry_steps.specs.Steps.{naming}
use Rattle.create_ops.specs.declared.run.Stage.{Stage}
use Rattle.create_ops.specs.declared.run.Stage.TheVariants.{Begun, Written, Claimed}
use Rattle.create_ops.specs.Stages.{RunningView, IsAfter, IsAfterPlace, EntersAtStage, EntersAfterPlace, step_at}
use Rattle.waiting_laws.specs.Beside.{MakesStep, Commits}
use Rattle.waiting_laws.specs.Making.{held_by, left_by, WaitsToMake, MakingEndsLaw}
use Rattle.waiting_laws.proofs.Standing.{waits}
use Rattle.waiting_laws.proofs.NamingEnds.{page_of_place, brings, same_page, name_commits, HasEnded, ended}

module _ (old : VolumeView) (before : DeviceView) (state : State) (path : Route) (running : RunningView) (others : Residue) (on : WaitsToMake old before state path running others)
    (name : IsWaitingName old.size before.words state.tree path running.entry.directory running.entry.slot) where
  abbrev P : ℕ
  P = old.size

  abbrev I : List ℕ
  I = before.words

  abbrev entry : NewEntry
  entry = running.entry

  abbrev d : ℕ
  d = entry.directory

  abbrev s : ℕ
  s = entry.slot

  abbrev i : ℕ
  i = entry.inode

  abbrev kind : NodeKind
  kind = entry.kind

  beside : WaitsBeside P I (left_by entry) others state
  beside = waits old before state (left_by entry) others on.beside

  may : MayCommitNode P I state path kind d s entry.new_page i
  may = waiting_node_law P I state path kind d s entry.new_page i others beside name (page_of_place P I s entry.new_page on.place) on.full on.node on.alone

  can : CanAdd P I (reverse (parent path)) d s i
  can = may.named.can

  stepped : IsStepped P (committed P I s i) state (of_kind entry.kind path) i
  stepped =
      (node_entered_law P I state (reverse (parent path)) path kind d s i can may.new may.is_node may.named.has_place may.named.path_is beside.holds.reads)

  pub commits : (J : List ℕ) → (naming P s i).Makes I J → Commits P I J state (of_kind entry.kind path) i
  commits J made = name_commits on.beside.stands on.beside.unmarked can stepped J made

  pub ends : (new : VolumeView) (after : DeviceView) (Enters : VolumeView → VolumeView → Type 0) → MakesStep (naming P s i) Enters old new before after → PutsName (record old { kept = old.kept - commit_events }) new d entry.name s entry.new_page
      → HasEnded old new before after state (of_kind entry.kind path) i others (held_by entry)
  ends new after Enters makes puts = ended on.beside can stepped
      (node_committed_law P I (reverse (parent path)) kind d s entry.new_page i others can (waiting_words_law P I state kind d s entry.new_page i others beside on.node on.links) on.place beside.holds.beside)
      (brings can entry.name (on.name_is ∙ sym name.name_is) (λ reached bytes. inr (let some = can.least in omega (arith, some), can.most, λ j page. may.new.no_pages j page.in_range (same_page can i j page).owner)))
      refl on.beside.no_pointer on.place on.knows Enters makes puts

-- ---- by its stage

module _ (old new : VolumeView) (before after : DeviceView) (state : State) (path : Route) (others : Residue) where
  from_place : (named : NewEntry) (inode : InodeView) (place : NamePlace Clean) → WaitsToMake old before state path (record { entry = named; stage = Written (record { inode = inode; place = place }) }) others
      → MakesStep (step_at old.size named (Written (record { inode = inode; place = place }))) (EntersAfterPlace named place) old new before after → IsAfterPlace named place (Ended Done)
      → HasEnded old new before after state (of_kind named.kind path) named.inode others (held_by named)
  from_place named inode (Slot dentry) on makes is =
      ends old before state path (record { entry = named; stage = Written (record { inode = inode; place = Slot dentry }) }) others on on.name new after (EntersAfterPlace named (Slot dentry)) makes makes.enters
  from_place named inode (Page page) on makes (node, is) = absurd (let clash : ◌≡◌ {A = Next RunningView} (Ended Done) (More (record { entry = named; stage = Claimed node })) = is in cc)

  from_stage : (named : NewEntry) (stage : Stage) → WaitsToMake old before state path (record { entry = named; stage = stage }) others → MakesStep (step_at old.size named stage) (EntersAtStage named stage) old new before after
      → IsAfter named stage (Ended Done) → HasEnded old new before after state (of_kind named.kind path) named.inode others (held_by named)
  from_stage named Begun on makes is = absurd on.name
  from_stage named (Written node) on makes is = from_place named node.inode node.place on makes is
  from_stage named (Claimed node) on makes is = ends old before state path (record { entry = named; stage = Claimed node }) others on on.name new after (EntersAtStage named (Claimed node)) makes makes.enters

pub making_ends : MakingEndsLaw
making_ends old new before after state path running others on makes is = from_stage old new before after state path others running.entry running.stage on makes is
