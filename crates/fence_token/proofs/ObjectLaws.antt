-- Laws of objects, once for all of them: they go on standing while other words are stored, and a token settles them.
use Rattle.std.proofs.Common.{◌≡◌, ℕ, ◌<◌, List, [], ◌∷◌, length, refl, sym, subst, arith}
use Rattle.std.specs.Prelude.{Option, Some, None, IsSomeAnd, slice_index}
use Rattle.std.specs.Option.{ForSome}
use Rattle.pm_trait.specs.declared.event.Event.{Event}
use Rattle.pm_trait.specs.declared.event.Event.TheVariants.{Fence}
use Rattle.pm_trait.specs.Trail.{Trail, stores_to, settled_value, unsettled_stores, after_stores}
use Rattle.pm_trait.proofs.TrailLaws.{after_stores-none, length-after_stores, settled_value-later, unsettled_stores-later}
use Rattle.pm_trait.specs.Device.{with_event, with_events, IsClean, IsFlushed, IsInFlight, IsHonest, IsInterval}
use Rattle.pm_trait.proofs.DeviceLaws.{clean_after_ticket, interval_keeps, interval_length, clean_stays, in_flight_more, in_flight_stays, in_flight_event, in_flight_now}
use Rattle.pm_trait.proofs.AckLaws.{clean_event}
use Rattle.fence_token.specs.Ticket.{Settles}
use Rattle.pm_trait.specs.DeviceView.{DeviceView, Stores}
use Rattle.fence_token.specs.Flushes.{FlushesLines}
use Rattle.fence_token.specs.Objects.{IsLocal, Stands, StandsClean, StandsInFlight, GoesOn, StoreNoneOf}

-- a word on its way is clean once a token settles its ticket
pub clean_by_token : {now : List ℕ} {fences acks ticket token : ℕ} (trail : Option Trail) (word : ℕ) → IsHonest now trail fences acks → IsInFlight trail ticket word → Settles ticket token fences → word < length now → IsClean now trail word
clean_by_token trail word honest flight settles inside =
    clean_after_ticket trail word honest flight (omega (arith, settles.later, settles.made)) inside

-- a ticket whose words are on their way still has them so where each of them goes on so
flight_goes_on : {Owns : ℕ → Type 0} {old new : Option Trail} (ticket : Option ℕ) → ((fences word : ℕ) → Owns word → IsInFlight old fences word → IsInFlight new fences word) → IsSomeAnd ticket (λ fences. (word : ℕ) → Owns word → IsInFlight old fences word) → IsSomeAnd ticket (λ fences. (word : ℕ) → Owns word → IsInFlight new fences word)
flight_goes_on None goes flight = flight
flight_goes_on (Some fences) goes flight = λ word own. goes fences word own (flight word own)

-- ---- over stores to other words

pub stands_stays : {Owns W : ℕ → Type 0} {Reads : List ℕ → Type 0} {a b : List ℕ} {ta tb : Option Trail} → IsLocal Owns Reads → IsInterval W a ta b tb → ((word : ℕ) → Owns word → ¬ W word) → Stands Owns Reads a → Stands Owns Reads b
stands_stays {a = a} {b = b} local run apart stands = record {
  inside = λ word own. let before = stands.inside word own in omega (arith, before, interval_length run);
  reads = local.carries a b (λ word own. interval_keeps word run (apart word own)) stands.reads;
}

pub stands_clean_stays : {Owns W : ℕ → Type 0} {Reads : List ℕ → Type 0} {a b : List ℕ} {ta tb : Option Trail} → IsLocal Owns Reads → IsInterval W a ta b tb → ((word : ℕ) → Owns word → ¬ W word) → StandsClean Owns Reads a ta → StandsClean Owns Reads b tb
stands_clean_stays local run apart stands = record {
  stands = stands_stays local run apart stands.stands;
  clean = λ word own. clean_stays word run (apart word own) (stands.clean word own);
}

pub stands_in_flight_stays : {Owns W : ℕ → Type 0} {Reads : List ℕ → Type 0} {ticket : Option ℕ} {a b : List ℕ} {ta tb : Option Trail} → IsLocal Owns Reads → IsInterval W a ta b tb → ((word : ℕ) → Owns word → ¬ W word) → StandsInFlight Owns Reads ticket a ta → StandsInFlight Owns Reads ticket b tb
stands_in_flight_stays {Owns} {ticket = ticket} {ta = ta} {tb = tb} local run apart stands = record {
  stands = stands_stays local run apart stands.stands;
  flight = flight_goes_on {Owns = Owns} {old = ta} {new = tb} ticket (λ fences word own flight. in_flight_stays word run (apart word own) flight) stands.flight;
}

-- ---- over one event that stores nothing, with the words as before

pub stands_same : {Owns : ℕ → Type 0} {Reads : List ℕ → Type 0} {a b : List ℕ} → b ≡ a → Stands Owns Reads a → Stands Owns Reads b
stands_same {Owns} {Reads} same stands = subst (λ (now : List ℕ). Stands Owns Reads now) (sym same) stands

stands_clean_event : {Owns : ℕ → Type 0} {Reads : List ℕ → Type 0} {a b : List ℕ} {ta tb : Option Trail} (event : Event) → ((word : ℕ) → stores_to word (event ∷ []) ≡ []) → b ≡ a → tb ≡ with_event ta event → StandsClean Owns Reads a ta → StandsClean Owns Reads b tb
stands_clean_event event none same appended stands = record {
  stands = stands_same same stands.stands;
  clean = λ word own. clean_event event word (none word) same appended (stands.clean word own);
}

stands_in_flight_event : {Owns : ℕ → Type 0} {Reads : List ℕ → Type 0} {ticket : Option ℕ} {a b : List ℕ} {ta tb : Option Trail} (event : Event) → ((word : ℕ) → stores_to word (event ∷ []) ≡ []) → b ≡ a → tb ≡ with_event ta event → StandsInFlight Owns Reads ticket a ta → StandsInFlight Owns Reads ticket b tb
stands_in_flight_event {Owns} {ticket = ticket} {ta = ta} {tb = tb} event none same appended stands = record {
  stands = stands_same same stands.stands;
  flight = flight_goes_on {Owns = Owns} {old = ta} {new = tb} ticket (λ fences word own flight. in_flight_event event ta word (none word) appended flight) stands.flight;
}

pub stands_clean_fence : {Owns : ℕ → Type 0} {Reads : List ℕ → Type 0} {a b : List ℕ} {ta tb : Option Trail} → b ≡ a → tb ≡ with_event ta Fence → StandsClean Owns Reads a ta → StandsClean Owns Reads b tb
stands_clean_fence same appended stands = stands_clean_event Fence (λ word. refl) same appended stands

pub stands_in_flight_fence : {Owns : ℕ → Type 0} {Reads : List ℕ → Type 0} {ticket : Option ℕ} {a b : List ℕ} {ta tb : Option Trail} → b ≡ a → tb ≡ with_event ta Fence → StandsInFlight Owns Reads ticket a ta → StandsInFlight Owns Reads ticket b tb
stands_in_flight_fence same appended stands = stands_in_flight_event Fence (λ word. refl) same appended stands

-- ---- flushed and settled objects

-- an object whose words are flushed is on its way, with the number of fences as its ticket
pub stands_in_flight_now : {Owns : ℕ → Type 0} {Reads : List ℕ → Type 0} {now : List ℕ} {fences acks : ℕ} (trail : Option Trail) → IsHonest now trail fences acks → ((word : ℕ) → Owns word → IsFlushed trail word) → Stands Owns Reads now → StandsInFlight Owns Reads (Some fences) now trail
stands_in_flight_now trail honest flushed stands = record {
  stands = stands;
  flight = λ word own. in_flight_now trail word honest (flushed word own);
}

settled_words : {Owns : ℕ → Type 0} {now : List ℕ} {fences acks token : ℕ} (ticket : Option ℕ) (trail : Option Trail) → IsHonest now trail fences acks → ((word : ℕ) → Owns word → word < length now) → IsSomeAnd ticket (λ flushed. (word : ℕ) → Owns word → IsInFlight trail flushed word) → ForSome ticket (λ flushed. Settles flushed token fences) → (word : ℕ) → Owns word → IsClean now trail word
settled_words None trail honest inside flight settles = absurd flight
settled_words (Some flushed) trail honest inside flight settles = λ word own. clean_by_token trail word honest (flight word own) (settles flushed refl) (inside word own)

-- one on its way is clean once a token settles its ticket
pub stands_clean_by_token : {Owns : ℕ → Type 0} {Reads : List ℕ → Type 0} {ticket : Option ℕ} {now : List ℕ} {fences acks token : ℕ} (trail : Option Trail) → IsHonest now trail fences acks → StandsInFlight Owns Reads ticket now trail → ForSome ticket (λ flushed. Settles flushed token fences) → StandsClean Owns Reads now trail
stands_clean_by_token {Owns} {ticket = ticket} trail honest stands settles = record {
  stands = stands.stands;
  clean = settled_words {Owns = Owns} ticket trail honest stands.stands.inside stands.flight settles;
}

-- ---- as records

pub goes_on_stays : {Owns W : ℕ → Type 0} {Reads : List ℕ → Type 0} {a b : List ℕ} {ta tb : Option Trail} → IsLocal Owns Reads → IsInterval W a ta b tb → ((word : ℕ) → Owns word → ¬ W word) → GoesOn Owns Reads a ta b tb
goes_on_stays local run apart = record {
  stands = stands_stays local run apart;
  clean = stands_clean_stays local run apart;
  in_flight = λ ticket. stands_in_flight_stays local run apart;
}

pub goes_on_fence : {Owns : ℕ → Type 0} {Reads : List ℕ → Type 0} {a b : List ℕ} {ta tb : Option Trail} → b ≡ a → tb ≡ with_event ta Fence → GoesOn Owns Reads a ta b tb
goes_on_fence same appended = record {
  stands = stands_same same;
  clean = stands_clean_fence same appended;
  in_flight = λ ticket. stands_in_flight_fence same appended;
}

-- ---- over any events that store none of its words

pub clean_events : {now : List ℕ} (trail : Option Trail) (events : List Event) (word : ℕ) → stores_to word events ≡ [] → IsClean now trail word → IsClean (after_stores now events) (with_events trail events) word
clean_events None events word none clean = record { told = tt }
clean_events {now} (Some trail) events word none clean =
    let stores : unsettled_stores word trail.events ≡ [] = cc (clean.told) in
    let value : settled_value word (slice_index trail.base word) trail.events ≡ slice_index now word = cc (clean.told) in
    record { told = cc (unsettled_stores-later word trail.events events stores none, settled_value-later word (slice_index trail.base word) trail.events events stores none, value, after_stores-none word now events none) }

pub stands_events : {Owns : ℕ → Type 0} {Reads : List ℕ → Type 0} (now : List ℕ) (events : List Event) → IsLocal Owns Reads → StoreNoneOf Owns events → Stands Owns Reads now → Stands Owns Reads (after_stores now events)
stands_events now events local none stands = record {
  inside = λ word own. let before = stands.inside word own in omega (arith, before, length-after_stores now events);
  reads = local.carries now (after_stores now events) (λ word own. after_stores-none word now events (none.each word own)) stands.reads;
}

pub goes_on_events : {Owns : ℕ → Type 0} {Reads : List ℕ → Type 0} (now : List ℕ) (trail : Option Trail) (events : List Event) → IsLocal Owns Reads → StoreNoneOf Owns events → GoesOn Owns Reads now trail (after_stores now events) (with_events trail events)
goes_on_events {Owns} now trail events local none = record {
  stands = stands_events now events local none;
  clean = λ clean. record {
    stands = stands_events now events local none clean.stands;
    clean = λ word own. clean_events trail events word (none.each word own) (clean.clean word own);
  };
  in_flight = λ ticket flying. record {
    stands = stands_events now events local none flying.stands;
    flight = flight_goes_on {Owns = Owns} {old = trail} {new = with_events trail events} ticket (λ fences word own flight. in_flight_more trail events word flight (none.each word own)) flying.flight;
  };
}

-- flushes of lines are an interval without stores
pub lines_stores : {a b : DeviceView} {line count : ℕ} → FlushesLines a b line count → Stores (λ _. ⊥) a b count
lines_stores flushes = record { stores = flushes.stores_none; grown = flushes.grown; room = flushes.room; counts = flushes.counts }

-- the words and the trail by whatever names
pub goes_on_as : {Owns : ℕ → Type 0} {Reads : List ℕ → Type 0} {a b : List ℕ} {ta tb : Option Trail} (events : List Event) → IsLocal Owns Reads → StoreNoneOf Owns events → b ≡ after_stores a events → tb ≡ with_events ta events → GoesOn Owns Reads a ta b tb
goes_on_as {Owns} {Reads} {a} {b} {ta} {tb} events local none words trail =
    subst (λ (t : Option Trail). GoesOn Owns Reads a ta b t) (sym trail)
    (subst (λ (l : List ℕ). GoesOn Owns Reads a ta l (with_events ta events)) (sym words) (goes_on_events a ta events local none))

pub clean_as_events : {a b : List ℕ} {ta tb : Option Trail} (events : List Event) (word : ℕ) → stores_to word events ≡ [] → b ≡ after_stores a events → tb ≡ with_events ta events → IsClean a ta word → IsClean b tb word
clean_as_events {a} {b} {ta} {tb} events word none words trail clean =
    subst (λ (t : Option Trail). IsClean b t word) (sym trail)
    (subst (λ (l : List ℕ). IsClean l (with_events ta events) word) (sym words) (clean_events ta events word none clean))
