-- What stores of words that stand for a list of changes do to a device.
use Rattle.std.specs.Prelude.{◌≡◌, ℕ, ◌+◌, ◌-◌, ◌/◌, ◌<◌, ◌≤◌, nat_lt, if◌then◌else◌, List, length, slice_index, Option, Some, None}
use Rattle.pm_trait.specs.Device.{IsFlushed}
use Rattle.pm_trait.specs.DeviceView.{DeviceView, Stores}
use Rattle.pm_trait.specs.Unfolds.{Step}
use Rattle.repair_laws.specs.Mended.{IsAfter}
use Rattle.recovery.specs.declared.part.Part.{Part}
use Rattle.recovery.specs.declared.part.Part.TheVariants.{Links}
use Rattle.recovery.specs.Parts.{first_of, last_of}

-- Each word that becomes something was given that value and flushed, no other word was stored, by at most so many events.
pub record Changes (becomes : ℕ → ℕ → Type 0) (old new : DeviceView) (events : ℕ) : Type 0 where
  pub device : Stores (λ a. (v : ℕ) × becomes a v) old new events
  pub new_words : (a v : ℕ) → becomes a v → slice_index new.words a ≡ v
  pub flushed : (a v : ℕ) → becomes a v → IsFlushed new.trail a

-- a word from first to before end
pub record IsWithin (first end a : ℕ) : Type 0 where
  pub low : first ≤ a
  pub high : a < end

-- a word from first to last, and the value that each of them gets
pub record IsInSpan (first last value a v : ℕ) : Type 0 where
  pub low : first ≤ a
  pub high : a ≤ last
  pub is : v ≡ value

-- their stores, and a flush of each of their lines
abbrev pub span_events : ℕ → ℕ → ℕ
span_events first last = (last + 1 - first) + (last / 8 - first / 8 + 1)

-- a word of a part of the object of this number, and the value that each of them gets
abbrev pub IsInPart : ℕ → Part → ℕ → ℕ → ℕ → ℕ → Type 0
IsInPart P part number value = IsInSpan (first_of P part number) (last_of P part number) value

-- a word of a part of one of the first so many objects of the list, and the value that it gets with the object's place
pub record IsAmong (P : ℕ) (part : Part) (numbers : List ℕ) (values : ℕ → ℕ) (count a v : ℕ) : Type 0 where
  pub place : ℕ
  pub before : place < count
  pub is : IsInPart P part (slice_index numbers place) (values place) a v

-- a word of a part of each object of the list, which becomes zero
abbrev pub IsCleared : ℕ → Part → List ℕ → ℕ → ℕ → Type 0
IsCleared P part numbers = IsAmong P part numbers (λ _. 0) (length numbers)

-- the link word of each inode of the list, which becomes the number in the same place of the other list
abbrev pub IsLinked : ℕ → List ℕ → List ℕ → ℕ → ℕ → Type 0
IsLinked P inodes counts = IsAmong P Links inodes (λ place. slice_index counts place) (length inodes)

-- a word of a part of the object of this number, where there is one, which becomes zero
abbrev pub IsOne : ℕ → Part → Option ℕ → ℕ → ℕ → Type 0
IsOne P part None a v = ⊥
IsOne P part (Some number) a v = IsInPart P part number 0 a v

-- the stores and flushes of a word of one object, where there is one
abbrev pub one_changes : Option ℕ → ℕ
one_changes None = 0
one_changes (Some number) = 2

-- ---- a step

-- A step of so many stores and flushes. The words that become something have become so, and all others are as before; where there are
-- no changes nothing is stored, and no fence made.
abbrev pub changing : (ℕ → ℕ → Type 0) → ℕ → Step
changing becomes changes = record { Makes = λ I J. IsAfter becomes I J; stores = nat_lt 0 changes; events = changes + 1 }

-- its fences
abbrev pub fences_for : ℕ → ℕ
fences_for changes = if nat_lt 0 changes then 1 else 0

-- and its events
abbrev pub events_for : ℕ → ℕ
events_for changes = if nat_lt 0 changes then changes + 1 else 0
