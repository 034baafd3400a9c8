-- Changes one after another, and what they make of the words.
use Rattle.std.proofs.Common.{◌≡◌, ◌⊎◌, inl, inr, ℕ, ◌+◌, ◌<◌, ◌≤◌, List, length, slice_index, ◌∙◌, subst, arith}
use Rattle.std.proofs.lemmas.Bool.{cases_lt}
use Rattle.layout.specs.Fields.{word}
use Rattle.pm_trait.specs.Trail.{stores_to}
use Rattle.pm_trait.specs.Device.{IsInterval}
use Rattle.pm_trait.specs.DeviceView.{DeviceView, Stores}
use Rattle.pm_trait.proofs.DeviceLaws.{interval_keeps, interval_length, flushed_stays}
use Rattle.pm_trait.proofs.DeviceViewLaws.{stores_nothing, stores_then, stores_weaker}
use Rattle.repair_laws.specs.Mended.{IsAfter}
use Rattle.fence_token.specs.Flushes.{FlushesLines}
use Rattle.recovery.specs.Changes.{Changes, IsInSpan, span_events}

pub flushes_stores : {a b : DeviceView} {line count : ℕ} → FlushesLines a b line count → Stores (λ _. ⊥) a b count
flushes_stores flushes = record { stores = flushes.stores_none; grown = flushes.grown; room = flushes.room; counts = flushes.counts }

-- nothing was changed
pub changes_none : (device : DeviceView) {N : ℕ → ℕ → Type 0} → ((x v : ℕ) → N x v → ⊥) → Changes N device device 0
changes_none device none = record {
  device = stores_weaker 0 (λ x absurdity. absurd absurdity) (omega arith) (stores_nothing device);
  new_words = λ x v is. absurd (none x v is);
  flushed = λ x v is. absurd (none x v is);
}

-- the same changes by another name
pub changes_as : {M N : ℕ → ℕ → Type 0} {a b : DeviceView} {few : ℕ} (events : ℕ) → few ≤ events → ((x v : ℕ) → M x v → N x v) → ((x v : ℕ) → N x v → M x v) → Changes M a b few → Changes N a b events
changes_as events most to from one = record {
  device = stores_weaker events (λ x has. (has.0, to x has.0 has.1)) most one.device;
  new_words = λ x v is. one.new_words x v (from x v is);
  flushed = λ x v is. one.flushed x v (from x v is);
}

-- these, and then those of other words
pub changes_then : {M N : ℕ → ℕ → Type 0} {a b c : DeviceView} {first second : ℕ} → Changes M a b first → Changes N b c second → ((x v w : ℕ) → M x v → N x w → ⊥) → Changes (λ x v. M x v ⊎ N x v) a c (first + second)
changes_then {M} {N} {a} {b} {c} {first} {second} one two apart = record {
  device = stores_weaker (first + second) (λ x either. elim either [ inl has ↦ (has.0, inl has.1) | inr has ↦ (has.0, inr has.1) ]) (omega arith)
      (stores_then one.device two.device (λ x has had. apart x has.0 had.0 has.1 had.1));
  new_words = λ x v either. elim either [
    | inl is ↦ interval_keeps x two.device.stores (λ has. apart x v has.0 is has.1) ∙ one.new_words x v is
    | inr is ↦ two.new_words x v is
  ];
  flushed = λ x v either. elim either [
    | inl is ↦ flushed_stays x two.device.stores (λ has. apart x v has.0 is has.1) (one.flushed x v is)
    | inr is ↦ two.flushed x v is
  ];
}

-- a word that was stored is one of the interval's
pub stored_or_not : {W : ℕ → Type 0} {a b : List ℕ} {ta tb : _} (x : ℕ) → IsInterval W a ta b tb → (slice_index b x ≡ slice_index a x) ⊎ W x
stored_or_not {W} {a} {b} {ta} {tb} x one = elim (cases_lt 0 (length (stores_to x one.more))) [
  | inl some ↦ inr (one.within x some)
  | inr none ↦ inl (interval_keeps {W = λ y. 0 < length (stores_to y one.more)} x
      (record { more = one.more; appended = one.appended; words = one.words; no_fence = one.no_fence; no_ack = one.no_ack; once = one.once; within = λ y is. is })
      (λ some. omega (arith, none, some)))
]

-- the words after changes
pub changes_after : {N : ℕ → ℕ → Type 0} {a b : DeviceView} {events : ℕ} → Changes N a b events → IsAfter N a.words b.words
unfolding word
changes_after one = record {
  size = interval_length one.device.stores;
  new = one.new_words;
  words = λ x. stored_or_not x one.device.stores;
}

-- those of a span whose ends have other names
pub changes_at : {first last f l value events : ℕ} {a b : DeviceView} → first ≡ f → last ≡ l → span_events f l ≡ events → Changes (IsInSpan first last value) a b (span_events first last) → Changes (IsInSpan f l value) a b events
changes_at {first} {last} {f} {l} {value} {events} {a} {b} low high exact one =
    subst (λ (n : ℕ). Changes (IsInSpan f l value) a b n) exact
    (subst (λ (z : ℕ). Changes (IsInSpan f z value) a b (span_events f z)) high
    (subst (λ (z : ℕ). Changes (IsInSpan z last value) a b (span_events z last)) low one))
