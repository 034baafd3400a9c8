-- Behind its last step nothing of a removal is left.
use Rattle.std.proofs.Common.{◌≡◌, ℕ, ◌-◌, Bool, false, cond, nat_lt, List, [], ◌++◌, Option, Some, None, refl, sym, ap, subst, ◌∙◌, arith}
use Rattle.std.proofs.lemmas.Bool.{ltb-false}
use Rattle.pm_trait.specs.DeviceView.{DeviceView}
use Rattle.tree_model.specs.Run.{State}
use Rattle.tree_model.specs.declared.reply.Reply.TheVariants.{Done}
use Rattle.image_reading.specs.Residue.{Residue, no_residue}
use Rattle.weave_laws.specs.Naming.{pages_left}
use Rattle.weave_laws.specs.Removing.{cleared_left}
use Rattle.volatile_index.specs.Index.{pages_of}
use Rattle.volume.specs.Volume.{VolumeView}
use Rattle.volume.specs.Costs.{pages_removed, count_of}
use Rattle.volume.specs.declared.next.Next.TheVariants.{Ended}
use Rattle.volume.specs.declared.plan.Removal.{Removal}
use Rattle.volume.proofs.Moments.{with_kept}
use Rattle.unlink_ops.specs.declared.removal.Stage.{Stage}
use Rattle.unlink_ops.specs.declared.removal.Stage.TheVariants.{Begun, Unnamed, Cleared, Disowned}
use Rattle.unlink_ops.specs.RemovalStages.{pages_gone, step_at, step_of, next_of, EntersAt}
use Rattle.waiting_laws.specs.Beside.{StandsWith, MakesStep, Leaves}
use Rattle.waiting_laws.specs.Removing.{held_by, WaitsToRemove, RemovingEndsLaw}
use Rattle.waiting_laws.proofs.RemovingWaits.{at, all_left, ended_clearing, not_ended, affects_none}
use Rattle.waiting_laws.proofs.RemovingClears as clears
use Rattle.waiting_laws.proofs.RemovingFrees.{frees}

none_given : (given : Option ℕ) → count_of given ≡ 0 → pages_left given ≡ []
none_given None none = refl
none_given (Some page) none = absurd (omega (arith, none))

none_gone : (volume : VolumeView) (removal : Removal) → removal.loss.goes ≡ false → pages_gone volume removal ≡ []
none_gone volume removal stays = ap (λ (t : Bool). cond t (pages_of volume.index removal.loss.inode) []) stays

-- a removal that gives nothing back leaves nothing behind the clearing of its slot
nothing_left : (volume : VolumeView) (removal : Removal) → nat_lt 0 (pages_removed removal) ≡ false → removal.loss.goes ≡ false
    → cleared_left (all_left (pages_gone volume removal) removal.given_back) removal.loss.goes removal.loss.inode ≡ no_residue
nothing_left volume removal none stays =
    let few = ltb-false 0 (pages_removed removal) none in
    ap (λ (l : List ℕ). cleared_left (l ++ pages_left removal.given_back) removal.loss.goes removal.loss.inode) (none_gone volume removal stays)
    ∙ ap (λ (l : List ℕ). cleared_left l removal.loss.goes removal.loss.inode) (none_given removal.given_back (omega (arith, few)))
    ∙ ap (λ (t : Bool). cleared_left [] t removal.loss.inode) stays

module _ (old new : VolumeView) (before after : DeviceView) (state : State) (removal : Removal) (others : Residue) (waits : WaitsToRemove old before state (at removal Unnamed) others)
    (makes : MakesStep (step_at old.size removal (pages_gone old removal) Unnamed) (EntersAt (at removal Unnamed)) old new before after) where
  abbrev K : VolumeView
  K = with_kept (old.kept - (step_at old.size removal (pages_gone old removal) Unnamed).events) old

  ends_cleared : next_of removal Unnamed ≡ Ended Done → Leaves old new before after state no_residue others (held_by old removal)
  ends_cleared is =
      let (none, stays) = ended_clearing removal is in
      let stands : StandsWith K after state no_residue others =
      subst (λ (r : Residue). StandsWith K after state r others) (nothing_left old removal none stays) (clears.beside old before after state removal others waits new makes.enters makes) in
      subst (λ (v : VolumeView). Leaves old v before after state no_residue others (held_by old removal)) (sym makes.enters)
      (record { beside = stands; stores = (clears.kept_place old before after state removal others waits new makes.enters makes).stores; affects = affects_none old K.kept removal })

by_stage : (old new : VolumeView) (before after : DeviceView) (state : State) (removal : Removal) (stage : Stage) (others : Residue) → WaitsToRemove old before state (at removal stage) others
    → MakesStep (step_of old (at removal stage)) (EntersAt (at removal stage)) old new before after → next_of removal stage ≡ Ended Done
    → Leaves old new before after state no_residue others (held_by old removal)
by_stage old new before after state removal Begun others waits makes is = absurd waits.falling
by_stage old new before after state removal Unnamed others waits makes is = ends_cleared old new before after state removal others waits makes is
by_stage old new before after state removal Cleared others waits makes is = absurd (not_ended (at removal Disowned) is)
by_stage old new before after state removal Disowned others waits makes is = frees old new before after state removal others waits makes

pub removing_ends_law : RemovingEndsLaw
removing_ends_law old new before after state running others waits makes is = by_stage old new before after state running.removal running.stage others waits makes is
