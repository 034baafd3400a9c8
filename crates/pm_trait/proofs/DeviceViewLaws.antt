-- Calls one after another, as a caller joins what they do.
use Rattle.std.proofs.Common.{◌≡◌, ◌⊎◌, ℕ, ◌+◌, ◌≤◌, List, [], ◌∷◌, ◌++◌, length, refl, sym, ◌∙◌, ap, subst, arith, length-append}
use Rattle.std.specs.Prelude.{Result, Ok, Err, IsErr}
use Rattle.pm_trait.specs.declared.event.Event.{Event}
use Rattle.pm_trait.specs.declared.event.Event.TheVariants.{Store, Flush, Fence, BadFence}
use Rattle.pm_trait.specs.Trail.{after_stores}
use Rattle.pm_trait.proofs.TrailLaws.{after_stores-append}
use Rattle.pm_trait.proofs.ContinuesLaws.{with_events-nil, with_events-append, continues_then, moment_of-grown, acks_from-here, acks_from-then}
use Rattle.pm_trait.specs.Device.{with_events, HasRisen, Continues, IsInterval, IsFlushed}
use Rattle.pm_trait.proofs.DeviceLaws.{interval_empty, interval_store, interval_flush, interval_joined, interval_weaker, interval_length, then_nothing, fence_ends}
use Rattle.pm_trait.specs.DeviceView.{DeviceView, SameCounts, Performs, CountsFences, Fences, IsSettledView, Stores, StoresAndFences, MakesIntervals}

pub same_counts_then : {a b c : DeviceView} → SameCounts a b → SameCounts b c → SameCounts a c
same_counts_then one two = record {
  faults = two.faults ∙ one.faults;
  refused = two.refused ∙ one.refused;
  fences = two.fences ∙ one.fences;
  acks = two.acks ∙ one.acks;
}

pub performs_nothing : (device : DeviceView) → Performs device device []
performs_nothing device = record {
  words = refl;
  trail = with_events-nil device.trail;
  room = omega arith;
  counts = record { faults = refl; refused = refl; fences = refl; acks = refl };
}

pub performs_then : {a b c : DeviceView} {first second : List Event} → Performs a b first → Performs b c second → Performs a c (first ++ second)
performs_then {a} {b} {c} {first} {second} one two = record {
  words = two.words ∙ ap (λ (words : List ℕ). after_stores words second) one.words ∙ sym (after_stores-append a.words first second);
  trail = two.trail ∙ ap (λ trail. with_events trail second) one.trail ∙ with_events-append a.trail first second;
  room = let before = one.room in let after = two.room in omega (arith, before, after, length-append first second);
  counts = same_counts_then one.counts two.counts;
}

-- ---- intervals

pub stores_nothing : (device : DeviceView) → Stores (λ _. ⊥) device device 0
stores_nothing device = record {
  stores = interval_empty device.words device.trail;
  grown = omega arith;
  room = omega arith;
  counts = record { faults = refl; refused = refl; fences = refl; acks = refl };
}

-- what was carried out is an interval, of so many events
pub stores_of : {W : ℕ → Type 0} {a b : DeviceView} {events : List Event} → IsInterval W a.words a.trail b.words b.trail → Performs a b events → Stores W a b (length events)
stores_of {events = events} interval performed = record { stores = interval; grown = moment_of-grown _ _ events performed.trail; room = performed.room; counts = performed.counts }

-- so is a flush, and a store
pub flush_stores : {a b : DeviceView} {line : ℕ} → Performs a b (Flush line ∷ []) → Stores (λ _. ⊥) a b 1
flush_stores {line = line} performed = stores_of (interval_flush line performed.words performed.trail) performed

pub store_stores : {a b : DeviceView} {word value : ℕ} → Performs a b (Store word value ∷ []) → Stores (λ other. other ≡ word) a b 1
store_stores {word = word} {value = value} performed = stores_of (interval_store word value performed.words performed.trail) performed

pub stores_weaker : {V W : ℕ → Type 0} {a b : DeviceView} {fewer : ℕ} (events : ℕ) → ((word : ℕ) → V word → W word) → fewer ≤ events → Stores V a b fewer → Stores W a b events
stores_weaker events implies most one = record {
  stores = interval_weaker implies one.stores;
  grown = let before = one.grown in omega (arith, before, most);
  room = let before = one.room in omega (arith, before, most);
  counts = one.counts;
}

-- stores to words of one set, and then to words of another
pub stores_then : {V W : ℕ → Type 0} {a b c : DeviceView} {first second : ℕ} → Stores V a b first → Stores W b c second → ((word : ℕ) → V word → W word → ⊥) → Stores (λ word. V word ⊎ W word) a c (first + second)
stores_then one two apart = record {
  stores = interval_joined one.stores two.stores apart;
  grown = let before = one.grown in let after = two.grown in omega (arith, before, after);
  room = let before = one.room in let after = two.room in omega (arith, before, after);
  counts = same_counts_then one.counts two.counts;
}

-- stores, and then flushes alone
pub stores_flushed : {V : ℕ → Type 0} {a b c : DeviceView} {first second : ℕ} → Stores V a b first → Stores (λ _. ⊥) b c second → Stores V a c (first + second)
stores_flushed one two = record {
  stores = then_nothing one.stores two.stores;
  grown = let before = one.grown in let after = two.grown in omega (arith, before, after);
  room = let before = one.room in let after = two.room in omega (arith, before, after);
  counts = same_counts_then one.counts two.counts;
}

-- ---- an interval whose stores are all flushed, and its fence

pub ok_ends : {T E U F : Type 0} {W : ℕ → Type 0} {a b c : DeviceView} {events : ℕ} {token : U} (value : T) → IsSettledView a → Stores W a b events → ((word : ℕ) → W word → IsFlushed b.trail word) → Fences {E = F} b c (Ok token) → StoresAndFences {E = E} a c (events + 1) (Ok value)
ok_ends value settled one flushed fence = record {
  fenced = fence_ends (Ok value) settled one.stores flushed fence.words fence.ok tt;
  long = ap length fence.words ∙ interval_length one.stores;
  grown = let before = one.grown in let after = moment_of-grown _ _ (Fence ∷ []) fence.ok in omega (arith, before, after);
  counts = record {
    room = let before = one.room in let after = fence.room in omega (arith, before, after);
    faults = let before = one.faults in let after = fence.no_fault in omega (arith, before, after);
    no_fault = fence.no_fault ∙ one.faults;
    cause = tt;
    refused = fence.refused ∙ one.refused;
    counted = let before = one.fences in let after = fence.counted in omega (arith, before, after);
    fewer = tt;
    least_fences = let before = one.fences in let after = fence.counted in omega (arith, before, after);
    most_fences = let before = one.fences in let after = fence.counted in omega (arith, before, after);
    acks = fence.acks ∙ one.acks;
  };
}

pub err_ends : {T E U F : Type 0} {W : ℕ → Type 0} {a b c : DeviceView} {events : ℕ} {failed : F} (fault : E) → IsSettledView a → Stores W a b events → ((word : ℕ) → W word → IsFlushed b.trail word) → Fences {T = U} b c (Err failed) → StoresAndFences {T = T} a c (events + 1) (Err fault)
err_ends {c = c} fault settled one flushed fence = record {
  fenced = fence_ends (Err fault) settled one.stores flushed fence.words tt fence.err;
  long = ap length fence.words ∙ interval_length one.stores;
  grown = let before = one.grown in let after = moment_of-grown _ _ (BadFence ∷ []) fence.err in omega (arith, before, after);
  counts = record {
    room = let before = one.room in let after = fence.room in omega (arith, before, after);
    faults = let before = one.faults in let after = fence.faults in omega (arith, before, after);
    no_fault = tt;
    cause = subst (λ (faults : ℕ). HasRisen faults c.faults) one.faults fence.cause;
    refused = fence.refused ∙ one.refused;
    counted = tt;
    fewer = let before = one.fences in let after = fence.fewer in omega (arith, before, after);
    least_fences = let before = one.fences in let after = fence.least_fences in omega (arith, before, after);
    most_fences = let before = one.fences in let after = fence.most_fences in omega (arith, before, after);
    acks = fence.acks ∙ one.acks;
  };
}

-- ---- calls that make fences, one after another

-- the first went well
pub counts_then : {T E U F : Type 0} {a b c : DeviceView} {first second one two : ℕ} {done : U} (result : Result T E) → CountsFences {E = F} a b first one (Ok done) → CountsFences b c second two result → CountsFences a c (first + second) (one + two) result
counts_then (Ok value) before after = record {
  room = let early = before.room in let late = after.room in omega (arith, early, late);
  faults = let early = before.faults in let late = after.faults in omega (arith, early, late);
  no_fault = after.no_fault ∙ before.no_fault;
  cause = tt;
  refused = after.refused ∙ before.refused;
  counted = let early = before.counted in let late = after.counted in omega (arith, early, late);
  fewer = tt;
  least_fences = let early = before.least_fences in let late = after.least_fences in omega (arith, early, late);
  most_fences = let early = before.counted in let late = after.most_fences in omega (arith, early, late);
  acks = after.acks ∙ before.acks;
}
counts_then {c = c} (Err fault) before after = record {
  room = let early = before.room in let late = after.room in omega (arith, early, late);
  faults = let early = before.faults in let late = after.faults in omega (arith, early, late);
  no_fault = tt;
  cause = subst (λ (faults : ℕ). HasRisen faults c.faults) before.no_fault after.cause;
  refused = after.refused ∙ before.refused;
  counted = tt;
  fewer = let early = before.counted in let late = after.fewer in omega (arith, early, late);
  least_fences = let early = before.least_fences in let late = after.least_fences in omega (arith, early, late);
  most_fences = let early = before.counted in let late = after.most_fences in omega (arith, early, late);
  acks = after.acks ∙ before.acks;
}

-- the first failed, and the rest was left out
pub counts_failed : {T E U F : Type 0} {a b : DeviceView} {first one : ℕ} {failed : F} (events made : ℕ) (fault : E) → first ≤ events → one ≤ made → CountsFences {T = U} a b first one (Err failed) → CountsFences {T = T} a b events made (Err fault)
counts_failed events made fault fits fewer before = record {
  room = let early = before.room in omega (arith, early, fits);
  faults = before.faults;
  no_fault = tt;
  cause = before.cause;
  refused = before.refused;
  counted = tt;
  fewer = let early = before.fewer in omega (arith, early, fewer);
  least_fences = before.least_fences;
  most_fences = let early = before.most_fences in omega (arith, early, fewer);
  acks = before.acks;
}

counts_within : {T E : Type 0} {a b : DeviceView} {fewer made : ℕ} {result : Result T E} (events : ℕ) → fewer ≤ events → CountsFences a b fewer made result → CountsFences a b events made result
counts_within events fits counts = record {
  room = let before = counts.room in omega (arith, before, fits);
  faults = counts.faults;
  no_fault = counts.no_fault;
  cause = counts.cause;
  refused = counts.refused;
  counted = counts.counted;
  fewer = counts.fewer;
  least_fences = counts.least_fences;
  most_fences = counts.most_fences;
  acks = counts.acks;
}

-- ---- calls of several intervals

pub intervals_none : {T E : Type 0} (device : DeviceView) (value : T) → IsSettledView device → MakesIntervals {E = E} device device 0 0 (Ok value)
intervals_none device value settled =
    let continues : Continues device.trail device.trail = record { more = []; appended = with_events-nil device.trail } in
    record {
      continues = continues;
      no_ack = acks_from-here continues;
      long = refl;
      settled = settled;
      halts = tt;
      grown = omega arith;
      counts = record {
        room = omega arith;
        faults = omega arith;
        no_fault = refl;
        cause = tt;
        refused = refl;
        counted = omega arith;
        fewer = tt;
        least_fences = omega arith;
        most_fences = omega arith;
        acks = refl;
      };
    }

pub intervals_one : {T E : Type 0} {a b : DeviceView} {events : ℕ} {result : Result T E} → StoresAndFences a b events result → MakesIntervals a b events 1 result
intervals_one one = record {
  continues = one.fenced.leaves.continues;
  no_ack = one.fenced.no_ack;
  long = one.long;
  settled = one.fenced.settled;
  halts = one.fenced.halts;
  grown = one.grown;
  counts = one.counts;
}

-- the first went well
pub intervals_then : {T E U F : Type 0} {a b c : DeviceView} {first second one two : ℕ} {done : U} (result : Result T E) → MakesIntervals {E = F} a b first one (Ok done) → MakesIntervals b c second two result → MakesIntervals a c (first + second) (one + two) result
intervals_then result before after = record {
  continues = continues_then before.continues after.continues;
  no_ack = let joined = acks_from-then before.continues after.continues in let early = before.no_ack in let late = after.no_ack in omega (arith, joined, early, late);
  long = after.long ∙ before.long;
  settled = after.settled;
  halts = after.halts;
  grown = let early = before.grown in let late = after.grown in omega (arith, early, late);
  counts = counts_then result before.counts after.counts;
}

-- the first failed, and the rest was left out
pub intervals_failed : {T E U F : Type 0} {a b : DeviceView} {first one : ℕ} {failed : F} (events made : ℕ) (result : Result T E) → IsErr result → first ≤ events → one ≤ made → MakesIntervals {T = U} a b first one (Err failed) → MakesIntervals a b events made result
intervals_failed events made (Ok value) wrong fits fewer before = let none : ⊥ = cc wrong in absurd none
intervals_failed events made (Err fault) is fits fewer before = record {
  continues = before.continues;
  no_ack = before.no_ack;
  long = before.long;
  settled = tt;
  halts = before.halts;
  grown = let early = before.grown in omega (arith, early, fits);
  counts = counts_failed events made fault fits fewer before.counts;
}

pub intervals_within : {T E : Type 0} {a b : DeviceView} {fewer made : ℕ} {result : Result T E} (events : ℕ) → fewer ≤ events → MakesIntervals a b fewer made result → MakesIntervals a b events made result
intervals_within events fits before = record {
  continues = before.continues;
  no_ack = before.no_ack;
  long = before.long;
  settled = before.settled;
  halts = before.halts;
  grown = let early = before.grown in omega (arith, early, fits);
  counts = counts_within events fits before.counts;
}

-- another value is answered
pub intervals_as : {T E U F : Type 0} {a b : DeviceView} {events made : ℕ} {done : U} (value : T) → MakesIntervals {E = F} a b events made (Ok done) → MakesIntervals {E = E} a b events made (Ok value)
intervals_as value before = record {
  continues = before.continues;
  no_ack = before.no_ack;
  long = before.long;
  settled = before.settled;
  halts = tt;
  grown = before.grown;
  counts = record {
    room = before.room;
    faults = before.faults;
    no_fault = before.no_fault;
    cause = tt;
    refused = before.refused;
    counted = before.counted;
    fewer = tt;
    least_fences = before.least_fences;
    most_fences = before.most_fences;
    acks = before.acks;
  };
}
