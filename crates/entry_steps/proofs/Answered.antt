-- What a call does, by other names of its fault and of its command.
use Rattle.std.proofs.Common.{◌≡◌, ℕ, ◌+◌, true, false, refl, sym, subst, arith}
use Rattle.std.specs.Prelude.{Result, Ok, Err, IsErr}
use Rattle.pm_trait.specs.Device.{IsFlushed}
use Rattle.pm_trait.specs.DeviceView.{DeviceView, IsSettledView, Stores, Fences, StoresAndFences, MakesIntervals}
use Rattle.pm_trait.proofs.DeviceViewLaws.{err_ends, intervals_failed}
use Rattle.tree_model.specs.Step.{Answer}
use Rattle.tree_model.specs.Run.{State}
use Rattle.tree_model.specs.declared.command.Command.{Command}
use Rattle.tree_model.specs.declared.reply.Reply.{Reply}
use Rattle.volume.specs.Carried.{Follows}
use Rattle.volume.specs.Volume.{VolumeView}

-- another fault is told
pub failed_as : {T U E F : Type 0} {a b : DeviceView} {events made : ℕ} {failed : F} (fault : E) → MakesIntervals {T = U} a b events made (Err failed) → MakesIntervals {T = T} a b events made (Err fault)
failed_as {events = events} {made = made} fault intervals = intervals_failed events made (Err fault) refl (omega arith) (omega arith) intervals

-- an interval whose fence failed, where that is told by another fault
pub failed_interval : {T E U F : Type 0} {W : ℕ → Type 0} {a b c : DeviceView} {events : ℕ} {failed : F} (result : Result T E) → IsErr result → IsSettledView a → Stores W a b events → ((word : ℕ) → W word → IsFlushed b.trail word)
    → Fences {T = U} b c (Err failed) → StoresAndFences a c (events + 1) result
failed_interval (Ok value) is settled stores flushed fence = absurd (let clash : false ≡ true = is in cc)
failed_interval (Err fault) is settled stores flushed fence = err_ends fault settled stores flushed fence

-- by another name of the command
pub follows_as : {E : Type 0} {old new : VolumeView} {before after : DeviceView} {state : State} {answer : Answer} {result : Result Reply E} (one other : Command) → other ≡ one → Follows old new before after state one answer result → Follows old new before after state other answer result
follows_as {old = old} {new} {before} {after} {state} {answer} {result} one other is follows = subst (λ (c : Command). Follows old new before after state c answer result) (sym is) follows
