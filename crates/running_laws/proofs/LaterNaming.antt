-- Behind a later step of a call that makes a name: it waits again, or has ended.
use Rattle.std.proofs.Common.{ℕ, List, refl, sym, subst}
use Rattle.pm_trait.specs.DeviceView.{DeviceView}
use Rattle.fence_token.specs.declared.states.Clean.{Clean}
use Rattle.tree_model.specs.Run.{State}
use Rattle.tree_model.specs.PathText.{Route}
use Rattle.tree_model.specs.Step.{making as made_by}
use Rattle.tree_model.specs.declared.command.Command.{Command}
use Rattle.tree_model.specs.declared.command.Command.TheVariants.{Link}
use Rattle.image_reading.specs.Residue.{Residue}
use Rattle.inode_state.specs.Inode.{InodeView}
use Rattle.volume.specs.Volume.{VolumeView}
use Rattle.volume.specs.declared.next.Next.{Next}
use Rattle.volume.specs.declared.next.Next.TheVariants.{More, Ended}
use Rattle.volume.specs.declared.plan.NewEntry.{NewEntry}
use Rattle.volume.specs.declared.plan.NewName.{NewName}
use Rattle.entry_steps.specs.declared.place.NamePlace.{NamePlace}
use Rattle.entry_steps.specs.declared.place.NamePlace.TheVariants.{Slot, Page}
use Rattle.create_ops.specs.declared.run.Stage as entry_stages
use Rattle.create_ops.specs.Stages as entries
use Rattle.unlink_ops.specs.declared.link.Stage as link_stages
use Rattle.unlink_ops.specs.LinkStages as links
use Rattle.running_calls.specs.declared.running.Running.TheVariants.{Makes, Links}
use Rattle.running_calls.specs.Stages.{StandsNext, EntersAt, as_call, step_of}
use Rattle.waiting_laws.specs.Beside.{MakesStep}
use Rattle.waiting_laws.specs.Linking.{WaitsToLink}
use Rattle.waiting_laws.specs.Making.{WaitsToMake}
use Rattle.waiting_laws.proofs.LinkingClaimed.{linking_claimed}
use Rattle.waiting_laws.proofs.LinkingEnds.{linking_ends}
use Rattle.waiting_laws.proofs.MakingClaimed.{making_claimed}
use Rattle.waiting_laws.proofs.MakingEnds.{making_ends}
use Rattle.running_laws.specs.Steps.{WentOnBeside}
use Rattle.running_laws.specs.Waits.{bytes_of_command, Waits}

module _ (old new : VolumeView) (before after : DeviceView) (state : State) (others : Residue) where
  -- ---- an entry is made

  module _ (path : Route) where
    abbrev EntryWent : entries.RunningView → Next entries.RunningView → Type 0
    EntryWent running left = WentOnBeside old new before after state (made_by running.entry.kind path) (Makes running) (as_call Makes left) others

    abbrev EntryMakes : entries.RunningView → Type 0
    EntryMakes running = MakesStep (entries.step_of old.size running) (entries.EntersAt running) old new before after

    abbrev entry_at : NewEntry → entry_stages.Stage → entries.RunningView
    entry_at entry stage = record { entry = entry; stage = stage }

    abbrev entry_placed : InodeView → NamePlace Clean → entry_stages.Stage
    entry_placed inode place = entry_stages.TheVariants.Written (record { inode = inode; place = place })

    by_entry_place : (entry : NewEntry) (inode : InodeView) (place : NamePlace Clean) (left : Next entries.RunningView)
        → WaitsToMake old before state path (entry_at entry (entry_placed inode place)) others
        → EntryMakes (entry_at entry (entry_placed inode place)) → entries.IsAfterPlace entry place left → entries.StandsNext new after left
        → EntryWent (entry_at entry (entry_placed inode place)) left
    by_entry_place entry inode (Slot dentry) left on makes is stands =
        let (commits, leaves) = making_ends old new before after state path (entry_at entry (entry_placed inode (Slot dentry))) others on makes refl in
        subst (EntryWent (entry_at entry (entry_placed inode (Slot dentry)))) (sym is)
        (record { later = commits.stepped.new; means = record { tree = commits.stepped.tree; room = commits.stepped.room }; leaves = leaves; waits = tt })
    by_entry_place entry inode (Page page) left on makes (node, is) stands =
        let next = entry_at entry (entry_stages.TheVariants.Claimed node) in
        let again = making_claimed old new before after state path (entry_at entry (entry_placed inode (Page page))) next others on makes (node, refl)
        (subst (entries.StandsNext new after) is stands) in
        subst (EntryWent (entry_at entry (entry_placed inode (Page page)))) (sym is)
        (record { later = state; means = refl; leaves = again.leaves; waits = (path, refl, again.waits) })

    by_entry_stage : (entry : NewEntry) (stage : entry_stages.Stage) (left : Next entries.RunningView) → WaitsToMake old before state path (entry_at entry stage) others
        → EntryMakes (entry_at entry stage) → entries.IsAfter entry stage left → entries.StandsNext new after left → EntryWent (entry_at entry stage) left
    by_entry_stage entry entry_stages.TheVariants.Begun left on makes is stands = absurd on.name
    by_entry_stage entry (entry_stages.TheVariants.Written node) left on makes is stands = by_entry_place entry node.inode node.place left on makes is stands
    by_entry_stage entry (entry_stages.TheVariants.Claimed node) left on makes is stands =
        let (commits, leaves) = making_ends old new before after state path (entry_at entry (entry_stages.TheVariants.Claimed node)) others on makes refl in
        subst (EntryWent (entry_at entry (entry_stages.TheVariants.Claimed node))) (sym is)
        (record { later = commits.stepped.new; means = record { tree = commits.stepped.tree; room = commits.stepped.room }; leaves = leaves; waits = tt })

  entry_stands : (bytes : List ℕ) (left : Next entries.RunningView) → StandsNext new after bytes (as_call Makes left) → entries.StandsNext new after left
  entry_stands bytes (More running) stands = stands
  entry_stands bytes (Ended reply) stands = tt

  pub entry_goes : (command : Command) (running : entries.RunningView) (left : Next entries.RunningView) → Waits old before state command (Makes running) others
      → MakesStep (step_of old (bytes_of_command command) (Makes running)) (EntersAt (Makes running)) old new before after → entries.IsNext running left
      → StandsNext new after (bytes_of_command command) (as_call Makes left) → WentOnBeside old new before after state command (Makes running) (as_call Makes left) others
  entry_goes command running left (path, is, on) makes comes stands =
      subst (λ c. WentOnBeside old new before after state c (Makes running) (as_call Makes left) others) (sym is)
      (by_entry_stage path running.entry running.stage left on makes comes (entry_stands (bytes_of_command command) left stands))

  -- ---- a file gets one more name

  module _ (from path : Route) where
    abbrev LinkWent : links.RunningView → Next links.RunningView → Type 0
    LinkWent running left = WentOnBeside old new before after state (Link from path) (Links running) (as_call Links left) others

    abbrev LinkMakes : links.RunningView → Type 0
    LinkMakes running = MakesStep (links.step_of old.size running) (links.EntersAt running) old new before after

    abbrev link_at : NewName → link_stages.Stage → links.RunningView
    link_at link stage = record { link = link; stage = stage }

    abbrev link_placed : InodeView → NamePlace Clean → link_stages.Stage
    link_placed inode place = link_stages.TheVariants.Written (record { inode = inode; place = place })

    by_link_place : (link : NewName) (inode : InodeView) (place : NamePlace Clean) (left : Next links.RunningView)
        → WaitsToLink old before state from path (link_at link (link_placed inode place)) others
        → LinkMakes (link_at link (link_placed inode place)) → links.IsAfterPlace link place left → links.StandsNext new after left
        → LinkWent (link_at link (link_placed inode place)) left
    by_link_place link inode (Slot dentry) left on makes is stands =
        let (commits, leaves) = linking_ends old new before after state from path (link_at link (link_placed inode (Slot dentry))) others on makes refl in
        subst (LinkWent (link_at link (link_placed inode (Slot dentry)))) (sym is)
        (record { later = commits.stepped.new; means = record { tree = commits.stepped.tree; room = commits.stepped.room }; leaves = leaves; waits = tt })
    by_link_place link inode (Page page) left on makes (file, is) stands =
        let next = link_at link (link_stages.TheVariants.Claimed file) in
        let again = linking_claimed old new before after state from path (link_at link (link_placed inode (Page page))) next others on makes (file, refl)
        (subst (links.StandsNext new after) is stands) in
        subst (LinkWent (link_at link (link_placed inode (Page page)))) (sym is)
        (record { later = state; means = refl; leaves = again.leaves; waits = (from, path, refl, again.waits) })

    by_link_stage : (link : NewName) (stage : link_stages.Stage) (left : Next links.RunningView) → WaitsToLink old before state from path (link_at link stage) others
        → LinkMakes (link_at link stage) → links.IsAfter link stage left → links.StandsNext new after left → LinkWent (link_at link stage) left
    by_link_stage link link_stages.TheVariants.Begun left on makes is stands = absurd on.name
    by_link_stage link (link_stages.TheVariants.Written file) left on makes is stands = by_link_place link file.inode file.place left on makes is stands
    by_link_stage link (link_stages.TheVariants.Claimed file) left on makes is stands =
        let (commits, leaves) = linking_ends old new before after state from path (link_at link (link_stages.TheVariants.Claimed file)) others on makes refl in
        subst (LinkWent (link_at link (link_stages.TheVariants.Claimed file))) (sym is)
        (record { later = commits.stepped.new; means = record { tree = commits.stepped.tree; room = commits.stepped.room }; leaves = leaves; waits = tt })

  link_stands : (bytes : List ℕ) (left : Next links.RunningView) → StandsNext new after bytes (as_call Links left) → links.StandsNext new after left
  link_stands bytes (More running) stands = stands
  link_stands bytes (Ended reply) stands = tt

  pub link_goes : (command : Command) (running : links.RunningView) (left : Next links.RunningView) → Waits old before state command (Links running) others
      → MakesStep (step_of old (bytes_of_command command) (Links running)) (EntersAt (Links running)) old new before after → links.IsNext running left
      → StandsNext new after (bytes_of_command command) (as_call Links left) → WentOnBeside old new before after state command (Links running) (as_call Links left) others
  link_goes command running left (from, path, is, on) makes comes stands =
      subst (λ c. WentOnBeside old new before after state c (Links running) (as_call Links left) others) (sym is)
      (by_link_stage from path running.link running.stage left on makes comes (link_stands (bytes_of_command command) left stands))
