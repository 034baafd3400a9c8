-- What a caller may rest on of every device.
use Rattle.std.specs.Prelude.{◌≡◌, ℕ, ◌<◌, Bool, true, List, length, Option}
use Rattle.pm_trait.specs.declared.event.Event.TheVariants.{Fence, Ack}
use Rattle.pm_trait.specs.Trail.{Trail}
use Rattle.pm_trait.specs.Device.{with_event, moment_of, MayLeave, LeavesOnly, AcksSettled, Mix, IsClean, IsFlushed, IsInFlight, IsSettledAt, IsHonest, IsInterval}

-- a crash leaves a settled device as it reads
abbrev pub SettledLaw : Type 0
SettledLaw = (now image : List ℕ) (trail : Option Trail) → IsSettledAt now trail → MayLeave trail (moment_of trail) image → image ≡ now

-- at each moment of an interval that began with settled words a crash leaves a mix of the old words and the new ones
abbrev pub IntervalLaw : Type 0
IntervalLaw = (is_stored : ℕ → Bool) (a b : List ℕ) (ta tb : Option Trail) → IsSettledAt a ta → IsInterval (λ word. is_stored word ≡ true) a ta b tb →
    LeavesOnly ta tb (λ acks image. (acks ≡ 0) × Mix a b image)

-- a fence that succeeds settles an interval whose stores are all flushed, and what a crash leaves up to its end is a mix
pub record FenceSettles (a c : List ℕ) (ta tc : Option Trail) : Type 0 where
  pub settled : IsSettledAt c tc
  pub leaves : LeavesOnly ta tc (λ acks image. (acks ≡ 0) × Mix a c image)

abbrev pub FenceLaw : Type 0
FenceLaw = (is_stored : ℕ → Bool) (a b : List ℕ) (ta tb : Option Trail) → IsSettledAt a ta → IsInterval (λ word. is_stored word ≡ true) a ta b tb →
    ((word : ℕ) → is_stored word ≡ true → IsFlushed tb word) → FenceSettles a b ta (with_event tb Fence)

-- a word on its way is clean once more fences have succeeded than its ticket counts
abbrev pub TicketLaw : Type 0
TicketLaw = (now : List ℕ) (trail : Option Trail) (fences acks ticket word : ℕ) → IsHonest now trail fences acks → IsInFlight trail ticket word →
    ticket < fences → word < length now → IsClean now trail word

-- an acknowledgement of a settled device leaves the same words, at most one acknowledgement later, and is settled itself
pub record AckLeaves (now : List ℕ) (old new : Option Trail) : Type 0 where
  pub settled : IsSettledAt now new
  pub leaves : LeavesOnly old new (λ acks image. (acks < 2) × (image ≡ now))
  pub acknowledged : AcksSettled old new (λ acks image. (acks ≡ 1) × (image ≡ now))

abbrev pub AckLaw : Type 0
AckLaw = (now : List ℕ) (trail : Option Trail) → IsSettledAt now trail → AckLeaves now trail (with_event trail Ack)
