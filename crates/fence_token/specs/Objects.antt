-- Objects: values that stand for words of a device. An object owns some words, and reads some of a device's words as its own say.
use Rattle.std.specs.Prelude.{◌≡◌, ℕ, ◌<◌, Bool, true, List, [], length, slice_index, Option, IsSomeAnd}
use Rattle.std.specs.Option.{ForSome}
use Rattle.pm_trait.specs.declared.event.Event.{Event}
use Rattle.pm_trait.specs.declared.event.Event.TheVariants.{Fence}
use Rattle.pm_trait.specs.Trail.{Trail, stores_to, after_stores}
use Rattle.pm_trait.specs.Device.{with_event, with_events, IsClean, IsInFlight, IsHonest, IsInterval}
use Rattle.fence_token.specs.Ticket.{Settles}

-- what the object says hangs on its own words alone
pub record IsLocal (Owns : ℕ → Type 0) (Reads : List ℕ → Type 0) : Type 0 where
  pub carries : (old new : List ℕ) → ((word : ℕ) → Owns word → slice_index new word ≡ slice_index old word) → Reads old → Reads new

-- its words are the device's, and read as it says
pub record Stands (Owns : ℕ → Type 0) (Reads : List ℕ → Type 0) (now : List ℕ) : Type 0 where
  pub inside : (word : ℕ) → Owns word → word < length now
  pub reads : Reads now

-- and a crash leaves them so
pub record StandsClean (Owns : ℕ → Type 0) (Reads : List ℕ → Type 0) (now : List ℕ) (trail : Option Trail) : Type 0 where
  pub stands : Stands Owns Reads now
  pub clean : (word : ℕ) → Owns word → IsClean now trail word

-- and each was flushed since its last store, at the time that the ticket says
pub record StandsInFlight (Owns : ℕ → Type 0) (Reads : List ℕ → Type 0) (ticket : Option ℕ) (now : List ℕ) (trail : Option Trail) : Type 0 where
  pub stands : Stands Owns Reads now
  pub flight : IsSomeAnd ticket (λ fences. (word : ℕ) → Owns word → IsInFlight trail fences word)

-- The object stands at the new words and trail as it stood at the old ones.
pub record GoesOn (Owns : ℕ → Type 0) (Reads : List ℕ → Type 0) (old_now : List ℕ) (old : Option Trail) (now : List ℕ) (new : Option Trail) : Type 0 where
  pub stands : Stands Owns Reads old_now → Stands Owns Reads now
  pub clean : StandsClean Owns Reads old_now old → StandsClean Owns Reads now new
  pub in_flight : (ticket : Option ℕ) → StandsInFlight Owns Reads ticket old_now old → StandsInFlight Owns Reads ticket now new

-- over stores to words that are not its own
abbrev pub OthersLaw : Type 0
OthersLaw = (is_own is_stored : ℕ → Bool) (reads : List ℕ → Bool) (a b : List ℕ) (ta tb : Option Trail) → IsLocal (λ word. is_own word ≡ true) (λ now. reads now ≡ true) →
    IsInterval (λ word. is_stored word ≡ true) a ta b tb → ((word : ℕ) → is_own word ≡ true → ¬ (is_stored word ≡ true)) →
    GoesOn (λ word. is_own word ≡ true) (λ now. reads now ≡ true) a ta b tb

-- none of the events stores a word that the object owns
pub record StoreNoneOf (Owns : ℕ → Type 0) (events : List Event) : Type 0 where
  pub each : (word : ℕ) → Owns word → stores_to word events ≡ []

-- over any such events: others' stores, flushes, fences that succeed or fail, acknowledgements
abbrev pub EventsLaw : Type 0
EventsLaw = (is_own : ℕ → Bool) (reads : List ℕ → Bool) (now : List ℕ) (trail : Option Trail) (events : List Event) → IsLocal (λ word. is_own word ≡ true) (λ now. reads now ≡ true) →
    StoreNoneOf (λ word. is_own word ≡ true) events →
    GoesOn (λ word. is_own word ≡ true) (λ now. reads now ≡ true) now trail (after_stores now events) (with_events trail events)

-- over a fence
abbrev pub FenceLaw : Type 0
FenceLaw = (is_own : ℕ → Bool) (reads : List ℕ → Bool) (now : List ℕ) (trail : Option Trail) →
    GoesOn (λ word. is_own word ≡ true) (λ now. reads now ≡ true) now trail now (with_event trail Fence)

-- and one on its way is clean once a token settles its ticket
abbrev pub SettleLaw : Type 0
SettleLaw = (is_own : ℕ → Bool) (reads : List ℕ → Bool) (now : List ℕ) (trail : Option Trail) (fences acks token : ℕ) (ticket : Option ℕ) → IsHonest now trail fences acks →
    StandsInFlight (λ word. is_own word ≡ true) (λ now. reads now ≡ true) ticket now trail → ForSome ticket (λ flushed. Settles flushed token fences) →
    StandsClean (λ word. is_own word ≡ true) (λ now. reads now ≡ true) now trail
