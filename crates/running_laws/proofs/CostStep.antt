-- What is left of a call has the events and the fence of its next step, and those of what is left behind it.
use Rattle.std.proofs.Common.{◌≡◌, ℕ, ◌<◌, List, [], length, refl, sym, ap, subst, ◌∙◌, arith}
use Rattle.pm_trait.specs.DeviceView.{DeviceView}
use Rattle.pm_trait.specs.Unfolds.{fences_in}
use Rattle.tree_model.specs.declared.reply.Reply.{Reply}
use Rattle.volatile_index.specs.Index.{pages_of}
use Rattle.volume.specs.Volume.{VolumeView}
use Rattle.volume.specs.Costs.{pages_of_loss}
use Rattle.volume.specs.declared.next.Next.{Next}
use Rattle.volume.specs.declared.next.Next.TheVariants.{More, Ended}
use Rattle.volume.specs.declared.plan.Moving.{Moving}
use Rattle.volume.specs.declared.plan.Removal.{Removal}
use Rattle.create_ops.specs.Stages as entries
use Rattle.unlink_ops.specs.LinkStages as links
use Rattle.unlink_ops.specs.RemovalStages as removals
use Rattle.removal_steps.specs.Steps as removing
use Rattle.rename_ptr.specs.declared.rename.Progress.{Progress as MoveProgress}
use Rattle.rename_ptr.specs.declared.rename.Stage.{Stage as MoveStage}
use Rattle.rename_ptr.specs.declared.rename.Stage.TheVariants.{Nothing as NamesKept, Moving as MovesName}
use Rattle.rename_ptr.specs.Stages as moves
use Rattle.data_ops.specs.declared.truncate.Stage.{Stage as ResizeStage}
use Rattle.data_ops.specs.declared.truncate.Stage.TheVariants.{Nothing as SizeKept, Growing as GrowsBySize, Cutting}
use Rattle.data_ops.specs.declared.write.Stage.{Stage as WriteStage}
use Rattle.data_ops.specs.declared.write.Stage.TheVariants.{Nothing as NothingWritten, Inside, Growing as GrowsByWrite}
use Rattle.data_ops.specs.Cutting.{growth_to}
use Rattle.data_ops.specs.Writing.{growth_of}
use Rattle.data_ops.specs.ResizeStages as resizes
use Rattle.data_ops.specs.WriteStages as writes
use Rattle.running_calls.specs.declared.running.Running.{Running}
use Rattle.running_calls.specs.declared.running.Running.TheVariants.{Makes, Links, Removes, Moves, Writes, Resizes}
use Rattle.running_calls.specs.Stages.{StandsStage, StandsNext, IsNext, EntersAt, as_call, step_of, left_of}
use Rattle.waiting_laws.specs.Costs.{Costs}
use Rattle.waiting_laws.proofs.CostsMoving.{moving_costs}
use Rattle.waiting_laws.proofs.CostsNaming.{making_costs, linking_costs}
use Rattle.waiting_laws.proofs.CostsRemoving.{removing_costs}
use Rattle.waiting_laws.proofs.CostsResizing.{resizing_costs}
use Rattle.waiting_laws.proofs.CostsSteps.{CostsAlike, alike_same, costs_behind}
use Rattle.waiting_laws.proofs.CostsWriting.{writing_goes_on, writing_ends}
use Rattle.waiting_laws.proofs.FileLists.{gone_long}
use Rattle.running_laws.specs.Numbers.{CostsStep, StepCostsLaw}
use Rattle.running_laws.proofs.CostNext.{entry_size, link_size, removal_next, move_next, cut_next}
use Rattle.running_laws.proofs.CostAlike.{growth_alike, cut_alike, removal_alike, move_alike}

-- a call that goes on has stored something, and one that has nothing to do hasn't
none_less : 0 < 0 → ⊥
none_less less = omega arith

module _ (old new : VolumeView) (before after : DeviceView) (bytes : List ℕ) where
  -- ---- a step of either way on

  goes_on : (running next : Running) → Costs (left_of old bytes running) (step_of old bytes running) (left_of old bytes next)
      → CostsAlike (left_of old bytes next) (left_of new bytes next) → CostsStep old new bytes running (More next)
  goes_on running next costs alike =
      let onward = costs_behind (left_of old bytes running) (step_of old bytes running) (left_of old bytes next) (left_of new bytes next) costs alike in
      record { events = onward.events; fences = onward.fences }

  ends : (running : Running) (reply : Reply) → Costs (left_of old bytes running) (step_of old bytes running) [] → CostsStep old new bytes running (Ended reply)
  ends running reply costs = record { events = costs.events; fences = costs.fences }

  -- ---- an entry, and one more name

  makes_costs : (running : entries.RunningView) (next : Next entries.RunningView) → new.size ≡ old.size → entries.IsNext running next
      → StandsNext new after bytes (as_call Makes next) → CostsStep old new bytes (Makes running) (as_call Makes next)
  makes_costs running (More next) size is stands =
      goes_on (Makes running) (Makes next)
      (subst (λ (P : ℕ). Costs (entries.left_of P running) (entries.step_of P running) (entries.left_of P next)) size (making_costs.goes_on new after running next is stands))
      (alike_same (entries.left_of old.size next) (entries.left_of new.size next) (ap (λ (P : ℕ). entries.left_of P next) (sym size)))
  makes_costs running (Ended reply) size is stands = ends (Makes running) reply (making_costs.ends old.size running reply is)

  links_costs : (running : links.RunningView) (next : Next links.RunningView) → new.size ≡ old.size → links.IsNext running next → StandsNext new after bytes (as_call Links next)
      → CostsStep old new bytes (Links running) (as_call Links next)
  links_costs running (More next) size is stands =
      goes_on (Links running) (Links next)
      (subst (λ (P : ℕ). Costs (links.left_of P running) (links.step_of P running) (links.left_of P next)) size (linking_costs.goes_on new after running next is stands))
      (alike_same (links.left_of old.size next) (links.left_of new.size next) (ap (λ (P : ℕ). links.left_of P next) (sym size)))
  links_costs running (Ended reply) size is stands = ends (Links running) reply (linking_costs.ends old.size running reply is)

  -- ---- a name that goes

  removes_costs : (running : removals.RunningView) (next : Next removals.RunningView) → removals.StandsStage old before running
      → removals.next_of running.removal running.stage ≡ next → StandsNext new after bytes (as_call Removes next) → CostsStep old new bytes (Removes running) (as_call Removes next)
  removes_costs running (More next) stands is behind =
      let count = subst (λ (removal : Removal). length (removals.pages_gone old removal) ≡ removal.loss.pages) (removal_next running next is) stands.losses.count in
      goes_on (Removes running) (Removes next) (removing_costs.goes_on old before running next stands is)
      (removal_alike old.size new.size next.removal (removals.pages_gone old next.removal) (removals.pages_gone new next.removal) next.stage (count ∙ sym behind.losses.count))
  removes_costs running (Ended reply) stands is behind = ends (Removes running) reply (removing_costs.ends old before running reply stands is)

  -- ---- a name that moves

  moves_on : (moving : Moving) (progress : MoveProgress) (next : MoveStage) → moves.StandsStage old before (MovesName moving progress)
      → moves.next_moving moving progress ≡ More next → moves.StandsStage new after next → CostsAlike (moves.left_of old next) (moves.left_of new next)
  moves_on moving progress NamesKept stands is behind = alike_same [] [] refl
  moves_on moving progress (MovesName other next) stands is behind =
      let same = move_next moving other progress next is in
      let count = subst (λ (moved : Moving). length (removing.gone_pages old moved.replaced) ≡ pages_of_loss moved.replaced) same stands.at.1.losses.count in
      move_alike old.size new.size other (removing.gone_pages old other.replaced) (removing.gone_pages new other.replaced) (count ∙ sym behind.at.1.losses.count) next

  moves_costs : (running : MoveStage) (next : Next MoveStage) → moves.StandsStage old before running → 0 < fences_in (moves.left_of old running) → moves.next_of running ≡ next
      → StandsNext new after bytes (as_call Moves next) → CostsStep old new bytes (Moves running) (as_call Moves next)
  moves_costs NamesKept next stands some is behind = absurd (none_less some)
  moves_costs (MovesName moving progress) (More next) stands some is behind =
      goes_on (Moves (MovesName moving progress)) (Moves next) (moving_costs.goes_on old before (MovesName moving progress) next stands is)
      (moves_on moving progress next stands is behind)
  moves_costs (MovesName moving progress) (Ended reply) stands some is behind =
      ends (Moves (MovesName moving progress)) reply (moving_costs.ends old before moving progress reply stands is)

  -- ---- a file is written

  write_alike : (P Q : ℕ) (running : WriteStage) → CostsAlike (writes.left_of P bytes running) (writes.left_of Q bytes running)
  write_alike P Q NothingWritten = alike_same [] [] refl
  write_alike P Q (Inside writing) = record { events = refl; fences = refl }
  write_alike P Q (GrowsByWrite writing progress) = growth_alike P Q (growth_of writing) bytes writing.new_pages progress

  writes_some : (running : WriteStage) → 0 < fences_in (writes.left_of old.size bytes running) → running ≡ NothingWritten → ⊥
  writes_some running some none = none_less (subst (λ (stage : WriteStage). 0 < fences_in (writes.left_of old.size bytes stage)) none some)

  writes_costs : (running : WriteStage) (next : Next WriteStage) → writes.StandsStage old before bytes running → 0 < fences_in (writes.left_of old.size bytes running)
      → writes.next_of running ≡ next → CostsStep old new bytes (Writes running) (as_call Writes next)
  writes_costs running (More next) stands some is =
      goes_on (Writes running) (Writes next) (writing_goes_on old before bytes running next stands is) (write_alike old.size new.size next)
  writes_costs running (Ended reply) stands some is = ends (Writes running) reply (writing_ends old.size bytes running reply is (writes_some running some))

  -- ---- or gets another size

  -- as many pages go before the step and behind it
  resizes_on : (running next : ResizeStage) → resizes.StandsStage old before running → resizes.next_of running ≡ More next → resizes.StandsStage new after next
      → CostsAlike (resizes.left_of old next) (resizes.left_of new next)
  resizes_on running SizeKept stands is behind = alike_same [] [] refl
  resizes_on running (GrowsBySize resizing progress) stands is behind = growth_alike old.size new.size (growth_to resizing) [] resizing.new_pages progress
  resizes_on running (Cutting resizing progress) stands is behind =
      let olds = pages_of old.index resizing.inode in
      let news = pages_of new.index resizing.inode in
      let long = gone_long resizing olds (cut_next old before running resizing progress stands is) in
      cut_alike old.size new.size resizing olds news progress (long ∙ sym (gone_long resizing news behind.at.2.enough))

  resizes_some : (running : ResizeStage) → 0 < fences_in (resizes.left_of old running) → running ≡ SizeKept → ⊥
  resizes_some running some none = none_less (subst (λ (stage : ResizeStage). 0 < fences_in (resizes.left_of old stage)) none some)

  resizes_costs : (running : ResizeStage) (next : Next ResizeStage) → resizes.StandsStage old before running → 0 < fences_in (resizes.left_of old running)
      → resizes.next_of running ≡ next → StandsNext new after bytes (as_call Resizes next) → CostsStep old new bytes (Resizes running) (as_call Resizes next)
  resizes_costs running (More next) stands some is behind =
      goes_on (Resizes running) (Resizes next) (resizing_costs.goes_on old before running next stands is) (resizes_on running next stands is behind)
  resizes_costs running (Ended reply) stands some is behind = ends (Resizes running) reply (resizing_costs.ends old before running reply stands is (resizes_some running some))

  -- ---- whatever its command

  -- what stands behind the step, and what it costs, are told of the call that is left
  told : (running : Running) (next left : Next Running) → next ≡ left → StandsNext new after bytes next → (StandsNext new after bytes left → CostsStep old new bytes running left)
      → CostsStep old new bytes running next
  told running next left is behind costs =
      subst (λ (n : Next Running). CostsStep old new bytes running n) (sym is) (costs (subst (λ (n : Next Running). StandsNext new after bytes n) is behind))

  module _ (between : VolumeView) (size : between.size ≡ old.size) (next : Next Running) (behind : StandsNext new after bytes next) where
    step_costs : (running : Running) → StandsStage old before bytes running → 0 < fences_in (left_of old bytes running) → EntersAt running between new → IsNext running next
        → CostsStep old new bytes running next
    step_costs (Makes running) stands some enters (left, is, same) =
        told (Makes running) next (as_call Makes left) same behind (makes_costs running left (entry_size between new running.entry running.stage enters ∙ size) is)
    step_costs (Links running) stands some enters (left, is, same) =
        told (Links running) next (as_call Links left) same behind (links_costs running left (link_size between new running.link running.stage enters ∙ size) is)
    step_costs (Removes running) stands some enters same =
        let left = removals.next_of running.removal running.stage in
        told (Removes running) next (as_call Removes left) same behind (removes_costs running left stands refl)
    step_costs (Moves running) stands some enters same =
        told (Moves running) next (as_call Moves (moves.next_of running)) same behind (moves_costs running (moves.next_of running) stands some refl)
    step_costs (Writes running) stands some enters same =
        told (Writes running) next (as_call Writes (writes.next_of running)) same behind (λ now. writes_costs running (writes.next_of running) stands some refl)
    step_costs (Resizes running) stands some enters same =
        told (Resizes running) next (as_call Resizes (resizes.next_of running)) same behind (resizes_costs running (resizes.next_of running) stands some refl)

pub step_costs_law : StepCostsLaw
step_costs_law old between new before after bytes running next stands some index size enters is behind =
    step_costs old new before after bytes between size next behind running stands some enters is
