-- Behind its first step a call that makes, links or takes away a name waits.
use Rattle.std.proofs.Common.{◌≡◌, [], refl, sym, ap, subst, ◌∙◌}
use Rattle.pm_trait.specs.DeviceView.{DeviceView}
use Rattle.tree_model.specs.PathText.{Route}
use Rattle.tree_model.specs.Run.{State}
use Rattle.tree_model.specs.Step.{making as made_by}
use Rattle.tree_model.specs.declared.command.Command.{Command}
use Rattle.tree_model.specs.declared.command.Command.TheVariants.{Link}
use Rattle.image_reading.specs.Residue.{Residue}
use Rattle.volume.specs.Volume.{VolumeView}
use Rattle.volume.specs.Stages.{keeping}
use Rattle.volume.specs.declared.next.Next.{Next}
use Rattle.volume.specs.declared.next.Next.TheVariants.{More}
use Rattle.volume.specs.declared.plan.Action.{Action}
use Rattle.volume.specs.declared.plan.Action.TheVariants.{Make, Name, Remove}
use Rattle.volume.specs.declared.plan.NewEntry.{NewEntry}
use Rattle.volume.specs.declared.plan.NewName.{NewName}
use Rattle.volume.specs.declared.plan.Removal.{Removal}
use Rattle.create_ops.specs.Stages as entries
use Rattle.create_ops.specs.declared.run.Stage.TheVariants.{Written as EntryWritten}
use Rattle.unlink_ops.specs.LinkStages as links
use Rattle.unlink_ops.specs.declared.link.Stage.TheVariants.{Written as NameWritten}
use Rattle.unlink_ops.specs.RemovalStages as removals
use Rattle.unlink_ops.specs.declared.removal.Stage.TheVariants.{Unnamed}
use Rattle.running_calls.specs.Stages.{StandsNext, IsNext, EntersAt, step_of, as_call}
use Rattle.running_calls.specs.declared.running.Running.{Running}
use Rattle.running_calls.specs.declared.running.Running.TheVariants.{Makes, Links, Removes}
use Rattle.waiting_laws.specs.Beside.{IsReady, MakesStep}
use Rattle.waiting_laws.specs.Removing.{of_kind}
use Rattle.waiting_laws.proofs.MakingWritten.{making_written}
use Rattle.waiting_laws.proofs.LinkingWritten.{linking_written}
use Rattle.waiting_laws.proofs.RemovingCommits.{removing_commits_law}
use Rattle.running_laws.specs.Steps.{BeganBeside}
use Rattle.running_laws.specs.Waits.{bytes_of_command}

-- the call of the plan makes its first step, and behind it has begun
abbrev pub Goes : VolumeView → VolumeView → DeviceView → DeviceView → State → Command → Action → Running → Next Running → Residue → Type 0
Goes volume new before after state command action running next others =
    MakesStep (step_of (keeping volume action) (bytes_of_command command) running) (EntersAt running) (keeping volume action) new before after
    → IsNext running next → StandsNext new after (bytes_of_command command) next → BeganBeside volume new before after state command action running next others

module _ (volume new : VolumeView) (before after : DeviceView) (state : State) (others : Residue) where
  -- ---- an entry is made

  pub entry_goes : (path : Route) (entry : NewEntry) (next : Next Running) → IsReady volume before state (made_by entry.kind path) (Make entry) others
      → Goes volume new before after state (made_by entry.kind path) (Make entry) (Makes (entries.begun entry)) next others
  entry_goes path entry next ready makes (left, (node, is), then) stands =
      let running : entries.RunningView = record { entry = entry; stage = EntryWritten node } in
      let as_more : next ≡ More (Makes running) = then ∙ ap (as_call Makes) is in
      let waits = making_written volume new before after state path entry running others ready makes (node, refl)
      (subst (StandsNext new after (bytes_of_command (made_by entry.kind path))) as_more stands) in
      subst (λ (n : Next Running). BeganBeside volume new before after state (made_by entry.kind path) (Make entry) (Makes (entries.begun entry)) n others) (sym as_more)
      (record { later = state; means = refl; leaves = waits.leaves; waits = (path, refl, waits.waits) })

  -- ---- a file gets one more name

  pub link_goes : (from to : Route) (link : NewName) (next : Next Running) → IsReady volume before state (Link from to) (Name link) others
      → Goes volume new before after state (Link from to) (Name link) (Links (links.begun link)) next others
  link_goes from to link next ready makes (left, (file, is), then) stands =
      let running : links.RunningView = record { link = link; stage = NameWritten file } in
      let as_more : next ≡ More (Links running) = then ∙ ap (as_call Links) is in
      let waits = linking_written volume new before after state from to link running others ready makes (file, refl)
      (subst (StandsNext new after []) as_more stands) in
      subst (λ (n : Next Running). BeganBeside volume new before after state (Link from to) (Name link) (Links (links.begun link)) n others) (sym as_more)
      (record { later = state; means = refl; leaves = waits.leaves; waits = (from, to, refl, waits.waits) })

  -- ---- a name is taken away: the first step commits it

  pub removal_goes : (path : Route) (removal : Removal) (next : Next Running) → IsReady volume before state (of_kind removal.loss.kind path) (Remove removal) others
      → Goes volume new before after state (of_kind removal.loss.kind path) (Remove removal) (Removes (removals.begun removal)) next others
  removal_goes path removal next ready makes is stands =
      let running : removals.RunningView = record { removal = removal; stage = Unnamed } in
      let (commits, waits) = removing_commits_law volume new before after state path removal running 0 others ready makes refl
      (subst (StandsNext new after (bytes_of_command (of_kind removal.loss.kind path))) is stands) in
      subst (λ (n : Next Running). BeganBeside volume new before after state (of_kind removal.loss.kind path) (Remove removal) (Removes (removals.begun removal)) n others) (sym is)
      (record {
        later = commits.stepped.new;
        means = record { tree = commits.stepped.tree; room = commits.stepped.room };
        leaves = waits.leaves;
        waits = (path, refl, waits.waits);
      })
