-- The new page of one more name gets its owner, and the name waits again.
use Rattle.std.proofs.Common.{◌≡◌, ℕ, ◌-◌, refl, sym, subst, ◌∙◌}
use Rattle.pm_trait.specs.DeviceView.{DeviceView}
use Rattle.fence_token.specs.declared.states.Clean.{Clean}
use Rattle.tree_model.specs.PathText.{Route}
use Rattle.tree_model.specs.Run.{State}
use Rattle.tree_model.specs.declared.reply.Reply.TheVariants.{Done}
use Rattle.image_reading.specs.Residue.{Residue}
use Rattle.inode_state.specs.Inode.{InodeView}
use Rattle.weave_laws.specs.Joined.{joined}
use Rattle.volume.specs.Volume.{VolumeView}
use Rattle.volume.specs.Costs.{commit_events}
use Rattle.volume.specs.declared.next.Next.{Next}
use Rattle.volume.specs.declared.next.Next.TheVariants.{More, Ended}
use Rattle.volume.specs.declared.plan.NewName.{NewName}
use Rattle.volume.proofs.Moments.{with_kept}
use Rattle.entry_steps.specs.declared.place.NamePlace.{NamePlace}
use Rattle.entry_steps.specs.declared.place.NamePlace.TheVariants.{Slot, Page}
use Rattle.entry_steps.specs.Steps.{owning}
use Rattle.unlink_ops.specs.declared.link.NamedSlot.{NamedSlot}
use Rattle.unlink_ops.specs.declared.link.Stage.{Stage}
use Rattle.unlink_ops.specs.declared.link.Stage.TheVariants.{Begun, Written, Claimed}
use Rattle.unlink_ops.specs.LinkStages.{RunningView, IsAfter, IsAfterPlace, EntersAtStage, EntersAfterPlace, StandsStage, step_at}
use Rattle.waiting_laws.specs.Beside.{MakesStep}
use Rattle.waiting_laws.specs.Linking.{left_by, WaitsOn, WaitsToLink, LinkingClaimedLaw}
use Rattle.waiting_laws.proofs.NamingClaimed as claims
use Rattle.waiting_laws.proofs.NamingClaimed.{IsClaimed}
use Rattle.waiting_laws.proofs.NamingWords.{links_stay}
use Rattle.waiting_laws.proofs.LinkingWritten.{next_is}

module _ (old : VolumeView) (before after : DeviceView) (state : State) (from path : Route) (link : NewName) (inode : InodeView) (page : ℕ) (others : Residue)
    (on : WaitsToLink old before state from path (record { link = link; stage = Written (record { inode = inode; place = Page page }) }) others)
    (makes : MakesStep (owning old.size page link.directory) (EntersAfterPlace link (Page page)) old (with_kept (old.kept - commit_events) old) before after) where
  claimed : IsClaimed old.size before.words after.words state path link.directory link.slot page (joined (left_by link) others)
  claimed = claims.claimed on.beside on.name on.words.1 on.place after.words makes.takes.makes

  waits_again : (file : NamedSlot) → StandsStage (with_kept (old.kept - commit_events) old) after (record { link = link; stage = Claimed file })
      → WaitsOn old (with_kept (old.kept - commit_events) old) before after state from path (record { link = link; stage = Claimed file }) others
  waits_again file stands =
      let leaves = claims.leaves on.beside on.name on.words.1 on.place (EntersAfterPlace link (Page page)) makes link.inode refl in
      record {
        waits = record {
          beside = leaves.beside;
          words = stands.words;
          file_is = on.file_is;
          name_is = on.name_is;
          name = claimed.name;
          place = claims.place_then on.beside on.name on.words.1 on.place after.words makes.takes.makes;
          full = on.full;
          file = on.file;
          -- other words than the owner stay
          links = links_stay claimed.step.range claimed.step.stores link.inode on.words.0.least on.words.0.most (λ none. none) ∙ on.links;
          knows = record { place = stands.place; unlisted = on.knows.unlisted };
        };
        leaves = leaves;
      }

-- ---- by its stage

module _ (old new : VolumeView) (before after : DeviceView) (state : State) (from path : Route) (others : Residue) (next : RunningView) (stands : StandsStage new after next) where
  from_place : (named : NewName) (inode : InodeView) (place : NamePlace Clean) → WaitsToLink old before state from path (record { link = named; stage = Written (record { inode = inode; place = place }) }) others
      → MakesStep (step_at old.size named (Written (record { inode = inode; place = place }))) (EntersAfterPlace named place) old new before after → IsAfterPlace named place (More next)
      → WaitsOn old new before after state from path next others
  from_place named inode (Slot dentry) on makes is = absurd (let clash : ◌≡◌ {A = Next RunningView} (More next) (Ended Done) = is in cc)
  from_place named inode (Page page) on makes (file, is) =
      let running : RunningView = record { link = named; stage = Claimed file } in
      subst (λ (r : RunningView). WaitsOn old new before after state from path r others) (sym (next_is next running is))
      (subst (λ (v : VolumeView). MakesStep (owning old.size page named.directory) (EntersAfterPlace named (Page page)) old v before after → StandsStage v after running → WaitsOn old v before after state from path running others) (sym makes.enters)
      (λ makes stands. waits_again old before after state from path named inode page others on makes file stands)
      makes (subst (λ (r : RunningView). StandsStage new after r) (next_is next running is) stands))

  from_stage : (named : NewName) (stage : Stage) → WaitsToLink old before state from path (record { link = named; stage = stage }) others → MakesStep (step_at old.size named stage) (EntersAtStage named stage) old new before after
      → IsAfter named stage (More next) → WaitsOn old new before after state from path next others
  from_stage named Begun on makes is = absurd on.name
  from_stage named (Written file) on makes is = from_place named file.inode file.place on makes is
  from_stage named (Claimed file) on makes is = absurd (let clash : ◌≡◌ {A = Next RunningView} (More next) (Ended Done) = is in cc)

pub linking_claimed : LinkingClaimedLaw
linking_claimed old new before after state from path running next others on makes is stands = from_stage old new before after state from path others next stands running.link running.stage on makes is
