-- Steps of an object's call, one after another.
use Rattle.std.proofs.Common.{◌≡◌, ◌⊎◌, ℕ, ◌+◌, ◌≤◌, List, [], ◌∷◌, ◌++◌, length, refl, sym, ◌∙◌, ap, arith}
use Rattle.pm_trait.specs.declared.event.Event.{Event}
use Rattle.pm_trait.specs.declared.event.Event.TheVariants.{Store}
use Rattle.pm_trait.specs.Trail.{after_stores}
use Rattle.pm_trait.specs.Device.{with_events, IsInterval}
use Rattle.pm_trait.specs.DeviceView.{DeviceView, Performs, Stores}
use Rattle.pm_trait.proofs.TrailLaws.{after_stores-append}
use Rattle.pm_trait.proofs.ContinuesLaws.{with_events-nil, with_events-append, moment_of-grown}
use Rattle.pm_trait.proofs.DeviceLaws.{interval_empty, interval_store, interval_joined, interval_weaker, then_nothing}
use Rattle.pm_trait.proofs.DeviceViewLaws.{same_counts_then}
use Rattle.fence_token.specs.Flushes.{Flushes}
use Rattle.fence_token.specs.Stored.{StoresExactly}

-- ---- stores

pub exactly_nothing : (device : DeviceView) → StoresExactly (λ _. ⊥) device device [] 0
exactly_nothing device = record {
  words = refl;
  trail = with_events-nil device.trail;
  interval = interval_empty device.words device.trail;
  grown = omega arith;
  room = omega arith;
  counts = record { faults = refl; refused = refl; fences = refl; acks = refl };
}

pub exactly_store : {a b : DeviceView} {word value : ℕ} → Performs a b (Store word value ∷ []) → StoresExactly (λ other. other ≡ word) a b (Store word value ∷ []) 1
exactly_store {word = word} {value = value} performed = record {
  words = performed.words;
  trail = performed.trail;
  interval = interval_store word value performed.words performed.trail;
  grown = moment_of-grown _ _ (Store word value ∷ []) performed.trail;
  room = performed.room;
  counts = performed.counts;
}

-- events that were carried out, and are an interval
pub exactly_performed : {W : ℕ → Type 0} {a b : DeviceView} {events : List Event} (count : ℕ) → length events ≤ count → IsInterval W a.words a.trail b.words b.trail → Performs a b events → StoresExactly W a b events count
exactly_performed {events = events} count most interval performed = record {
  words = performed.words;
  trail = performed.trail;
  interval = interval;
  grown = let grown = moment_of-grown _ _ events performed.trail in omega (arith, grown, most);
  room = let room = performed.room in omega (arith, room, most);
  counts = performed.counts;
}

-- stores to words of one set, and then to words of another
pub exactly_then : {V W : ℕ → Type 0} {a b c : DeviceView} {first second : List Event} {m n : ℕ} → StoresExactly V a b first m → StoresExactly W b c second n → ((word : ℕ) → V word → W word → ⊥)
    → StoresExactly (λ word. V word ⊎ W word) a c (first ++ second) (m + n)
exactly_then {a = a} {first = first} {second = second} one two apart = record {
  words = two.words ∙ ap (λ (words : List ℕ). after_stores words second) one.words ∙ sym (after_stores-append a.words first second);
  trail = two.trail ∙ ap (λ trail. with_events trail second) one.trail ∙ with_events-append a.trail first second;
  interval = interval_joined one.interval two.interval apart;
  grown = let before = one.grown in let after = two.grown in omega (arith, before, after);
  room = let before = one.room in let after = two.room in omega (arith, before, after);
  counts = same_counts_then one.counts two.counts;
}

-- the same of a larger set of words, of the same events by another name, and of more room
pub exactly_as : {V W : ℕ → Type 0} {a b : DeviceView} {first : List Event} {fewer : ℕ} (events : List Event) (count : ℕ) → ((word : ℕ) → V word → W word) → first ≡ events → fewer ≤ count
    → StoresExactly V a b first fewer → StoresExactly W a b events count
exactly_as {a = a} events count implies same most one = record {
  words = one.words ∙ ap (λ (told : List Event). after_stores a.words told) same;
  trail = one.trail ∙ ap (λ (told : List Event). with_events a.trail told) same;
  interval = interval_weaker implies one.interval;
  grown = let before = one.grown in omega (arith, before, most);
  room = let before = one.room in omega (arith, before, most);
  counts = one.counts;
}

pub exactly_stores : {W : ℕ → Type 0} {a b : DeviceView} {events : List Event} {count : ℕ} → StoresExactly W a b events count → Stores W a b count
exactly_stores one = record { stores = one.interval; grown = one.grown; room = one.room; counts = one.counts }

-- ---- flushes

pub flushes_nothing : (device : DeviceView) → Flushes device device [] 0
flushes_nothing device = record {
  words = refl;
  trail = with_events-nil device.trail;
  grown = omega arith;
  room = omega arith;
  counts = record { faults = refl; refused = refl; fences = refl; acks = refl };
  stores_none = interval_empty device.words device.trail;
}

pub flushes_then : {a b c : DeviceView} {first second : List Event} {m n : ℕ} → Flushes a b first m → Flushes b c second n → Flushes a c (first ++ second) (m + n)
flushes_then {a} {first = first} {second = second} one two = record {
  words = two.words ∙ one.words;
  trail = two.trail ∙ ap (λ trail. with_events trail second) one.trail ∙ with_events-append a.trail first second;
  grown = let before = one.grown in let after = two.grown in omega (arith, before, after);
  room = let before = one.room in let after = two.room in omega (arith, before, after);
  counts = same_counts_then one.counts two.counts;
  stores_none = then_nothing one.stores_none two.stores_none;
}

-- the same flushes by another name, and of another number
pub flushes_as : {a b : DeviceView} {first : List Event} {fewer : ℕ} (events : List Event) (count : ℕ) → first ≡ events → fewer ≤ count → Flushes a b first fewer → Flushes a b events count
flushes_as {a} events count same most one = record {
  words = one.words;
  trail = one.trail ∙ ap (λ (told : List Event). with_events a.trail told) same;
  grown = let before = one.grown in omega (arith, before, most);
  room = let before = one.room in omega (arith, before, most);
  counts = one.counts;
  stores_none = one.stores_none;
}

pub flushes_stores : {a b : DeviceView} {events : List Event} {count : ℕ} → Flushes a b events count → Stores (λ _. ⊥) a b count
flushes_stores flushes = record { stores = flushes.stores_none; grown = flushes.grown; room = flushes.room; counts = flushes.counts }
