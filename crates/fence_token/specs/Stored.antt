-- What stores and flushes of an object's words do to a device, event by event.
use Rattle.std.specs.Prelude.{◌≡◌, ℕ, ◌+◌, ◌≤◌, List}
use Rattle.pm_trait.specs.declared.event.Event.{Event}
use Rattle.pm_trait.specs.Trail.{after_stores}
use Rattle.pm_trait.specs.Device.{with_events, IsInterval}
use Rattle.pm_trait.specs.DeviceView.{DeviceView, GrowsBy, SameCounts}

-- It has carried out just these events, an interval over the words that are in W, and taken room for at most so many.
pub record StoresExactly (W : ℕ → Type 0) (old new : DeviceView) (events : List Event) (count : ℕ) : Type 0 where
  pub words : new.words ≡ after_stores old.words events
  pub trail : new.trail ≡ with_events old.trail events
  pub interval : IsInterval W old.words old.trail new.words new.trail
  pub grown : GrowsBy count old new
  pub room : old.spare ≤ new.spare + count
  pub counts : SameCounts old new
  pub open counts use *
