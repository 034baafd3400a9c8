-- The new page of an entry's name gets its owner, and the entry waits again.
use Rattle.std.proofs.Common.{◌≡◌, ℕ, List, Some, refl, sym, ap, subst, ◌∙◌}
use Rattle.pm_trait.specs.DeviceView.{DeviceView}
use Rattle.fence_token.specs.declared.states.Clean.{Clean}
use Rattle.layout.specs.declared.kinds.NodeKind.{NodeKind}
use Rattle.layout.specs.declared.kinds.NodeKind.TheVariants.{File, Directory}
use Rattle.tree_model.specs.PathText.{Route}
use Rattle.tree_model.specs.Run.{State}
use Rattle.tree_model.specs.declared.reply.Reply.TheVariants.{Done}
use Rattle.image_reading.specs.Residue.{Residue}
use Rattle.image_counts.proofs.Nodes.{size_law}
use Rattle.image_counts.proofs.Paths.{in_range}
use Rattle.inode_state.specs.Inode.{InodeView}
use Rattle.weave_laws.specs.Joined.{joined}
use Rattle.weave_laws.specs.Naming.{pages_left}
use Rattle.weave_laws.specs.Waiting.{HasRaisedLinks}
use Rattle.volume.specs.Volume.{VolumeView}
use Rattle.volume.specs.declared.next.Next.{Next}
use Rattle.volume.specs.declared.next.Next.TheVariants.{More, Ended}
use Rattle.volume.specs.declared.plan.NewEntry.{NewEntry}
use Rattle.entry_steps.specs.declared.place.NamePlace.{NamePlace}
use Rattle.entry_steps.specs.declared.place.NamePlace.TheVariants.{Slot, Page}
use Rattle.entry_steps.specs.Steps.{owning}
use Rattle.create_ops.specs.declared.run.NamedNode.{NamedNode}
use Rattle.create_ops.specs.declared.run.Stage.{Stage}
use Rattle.create_ops.specs.declared.run.Stage.TheVariants.{Begun, Written, Claimed}
use Rattle.create_ops.specs.Stages.{RunningView, IsAfter, IsAfterPlace, EntersAtStage, EntersAfterPlace, StandsStage, step_at}
use Rattle.create_ops.proofs.Standing.{paid_commit}
use Rattle.waiting_laws.specs.Beside.{MakesStep}
use Rattle.waiting_laws.specs.Making.{left_by, WaitsOn, WaitsToMake, MakingClaimedLaw}
use Rattle.waiting_laws.proofs.NamingClaimed as claims
use Rattle.waiting_laws.proofs.NamingClaimed.{IsClaimed}
use Rattle.waiting_laws.proofs.NamingWords.{read_before, inode_stays, links_stay}
use Rattle.waiting_laws.proofs.NamingWritten.{none_of_inode}
use Rattle.waiting_laws.proofs.MakingWritten.{next_is}

module _ (old : VolumeView) (before after : DeviceView) (state : State) (path : Route) (entry : NewEntry) (inode : InodeView) (page : ℕ) (others : Residue)
    (on : WaitsToMake old before state path (record { entry = entry; stage = Written (record { inode = inode; place = Page page }) }) others)
    (makes : MakesStep (owning old.size page entry.directory) (EntersAfterPlace entry (Page page)) old (paid_commit old) before after) where
  abbrev P : ℕ
  P = old.size

  abbrev I : List ℕ
  I = before.words

  abbrev J : List ℕ
  J = after.words

  abbrev d : ℕ
  d = entry.directory

  abbrev i : ℕ
  i = entry.inode

  claimed : IsClaimed P I J state path d entry.slot page (joined (left_by entry) others)
  claimed = claims.claimed on.beside on.name on.words.1 on.place after.words makes.takes.makes

  -- other words than the owner stay
  raised : (kind : NodeKind) → HasRaisedLinks I state.tree kind d → HasRaisedLinks J state.tree kind d
  raised Directory links =
      let (least, most) = in_range P I on.beside.stands.sound.coherent d (((size_law P I state on.beside.stands.sound.coherent on.beside.stands.reads).directories d).0 on.name.directory).0 in
      links_stay claimed.step.range claimed.step.stores d least most (λ none. none) ∙ links
  raised File links = tt

  waits_again : (node : NamedNode) → StandsStage (paid_commit old) after (record { entry = entry; stage = Claimed node }) → WaitsOn old (paid_commit old) before after state path (record { entry = entry; stage = Claimed node }) others
  waits_again node stands =
      let leaves = claims.leaves on.beside on.name on.words.1 on.place (EntersAfterPlace entry (Page page)) makes i refl in
      record {
        waits = record {
          beside = leaves.beside;
          words = stands.words;
          name_is = on.name_is;
          name = claimed.name;
          place = claims.place_then on.beside on.name on.words.1 on.place after.words makes.takes.makes;
          full = on.full;
          node = λ f lt. (let low = read_before I J f lt in inode_stays claimed.step.range claimed.step.stores i f on.words.0.least on.words.0.most low (λ none. none) ∙ on.node f low);
          links = raised entry.kind on.links;
          alone = none_of_inode (Some page) claimed.step.stores claimed.step.range (left_by entry) others (ap pages_left on.words.1.page_is) claimed.tidy i on.alone;
          knows = record { place = stands.place; unlisted = on.knows.unlisted };
        };
        leaves = leaves;
      }

-- ---- by its stage

module _ (old new : VolumeView) (before after : DeviceView) (state : State) (path : Route) (others : Residue) (next : RunningView) (stands : StandsStage new after next) where
  from_place : (named : NewEntry) (inode : InodeView) (place : NamePlace Clean) → WaitsToMake old before state path (record { entry = named; stage = Written (record { inode = inode; place = place }) }) others
      → MakesStep (step_at old.size named (Written (record { inode = inode; place = place }))) (EntersAfterPlace named place) old new before after → IsAfterPlace named place (More next)
      → WaitsOn old new before after state path next others
  from_place named inode (Slot dentry) on makes is = absurd (let clash : ◌≡◌ {A = Next RunningView} (More next) (Ended Done) = is in cc)
  from_place named inode (Page page) on makes (node, is) =
      let running : RunningView = record { entry = named; stage = Claimed node } in
      subst (λ (r : RunningView). WaitsOn old new before after state path r others) (sym (next_is next running is))
      (subst (λ (v : VolumeView). MakesStep (owning old.size page named.directory) (EntersAfterPlace named (Page page)) old v before after → StandsStage v after running → WaitsOn old v before after state path running others) (sym makes.enters)
      (λ makes stands. waits_again old before after state path named inode page others on makes node stands)
      makes (subst (λ (r : RunningView). StandsStage new after r) (next_is next running is) stands))

  from_stage : (named : NewEntry) (stage : Stage) → WaitsToMake old before state path (record { entry = named; stage = stage }) others → MakesStep (step_at old.size named stage) (EntersAtStage named stage) old new before after
      → IsAfter named stage (More next) → WaitsOn old new before after state path next others
  from_stage named Begun on makes is = absurd on.name
  from_stage named (Written node) on makes is = from_place named node.inode node.place on makes is
  from_stage named (Claimed node) on makes is = absurd (let clash : ◌≡◌ {A = Next RunningView} (More next) (Ended Done) = is in cc)

pub making_claimed : MakingClaimedLaw
making_claimed old new before after state path running next others on makes is stands = from_stage old new before after state path others next stands running.entry running.stage on makes is
