-- Stores of the words of two slots, each with its flush, by the numbers that a plan has.
use Rattle.std.proofs.Common.{◌≡◌, ◌≢◌, ◌⊎◌, inl, inr, ℕ, ◌+◌, List, [], ◌∷◌, sym, ap, subst, ◌∙◌, arith}
use Rattle.std.specs.Prelude.{Result}
use Rattle.pm_trait.specs.Device.{IsFlushed}
use Rattle.pm_trait.specs.declared.event.Event.{Event}
use Rattle.pm_trait.specs.declared.event.Event.TheVariants.{Store}
use Rattle.pm_trait.specs.DeviceView.{DeviceView, Performs, Stores}
use Rattle.pm_trait.specs.Unfolds.{Takes}
use Rattle.pm_trait.proofs.DeviceLaws.{flushed_stays}
use Rattle.pm_trait.proofs.DeviceViewLaws.{store_stores, stores_then, stores_flushed, stores_weaker}
use Rattle.layout.specs.declared.fields.SlotFields.{SlotFields}
use Rattle.layout.specs.Geometry.{slot_word_of}
use Rattle.layout.specs.Fields.{slot_inode}
use Rattle.layout.proofs.GeometryLaws.{same_slot_word}
use Rattle.fence_token.specs.Flushes.{FlushesLines}
use Rattle.fence_token.specs.Stored.{StoresExactly}
use Rattle.fence_token.proofs.ObjectLaws.{lines_stores}
use Rattle.fence_token.proofs.StoredLaws.{exactly_stores}
use Rattle.dentry_state.specs.States.{free_fields, IsLive}
use Rattle.dentry_state.specs.Dentry.{DentryView, IsSlotWord, IsNameWord, IsRestWord, slot_fields_at, DentryIsClean}
use Rattle.dentry_state.proofs.DentryLaws.{dentry_goes_on, slot_words_apart}
use Rattle.entry_steps.proofs.Slots.{slot_stored}
use Rattle.removal_steps.specs.Steps.{unnaming}

-- ---- by other names of the volume and the slot

pub unnaming_as : {T E : Type 0} {P slot pages s : ℕ} {a b : DeviceView} {result : Result T E} → pages ≡ P → s ≡ slot → Takes (unnaming pages s) a b result → Takes (unnaming P slot) a b result
unnaming_as {P = P} {slot} {pages} {s} {a} {b} {result} volume same takes =
    subst (λ (p : ℕ). Takes (unnaming p slot) a b result) volume (subst (λ (t : ℕ). Takes (unnaming pages t) a b result) same takes)

word_as : (Is : ℕ → ℕ → ℕ → Type 0) (P Q s t w : ℕ) → Q ≡ P → t ≡ s → Is Q t w → Is P s w
word_as Is P Q s t w volume slot is = subst (λ (p : ℕ). Is p s w) volume (subst (λ (k : ℕ). Is Q k w) slot is)

abbrev IsPointerWord : ℕ → ℕ → ℕ → Type 0
IsPointerWord P s w = w ≡ slot_word_of P s 1

pub pointer_word : (P s w : ℕ) → w ≡ slot_word_of P s 1 → IsSlotWord P s w
pointer_word P s w is = record { field = 1; is_field = omega arith; at = is }

pub rest_word : (P s w : ℕ) → IsRestWord P s w → IsSlotWord P s w
rest_word P s w is = record { field = is.field; is_field = is.is_field; at = is.at }

name_off_pointer : (P s w : ℕ) → IsNameWord P s w → w ≡ slot_word_of P s 1 → ⊥
name_off_pointer P s w is same =
    let low = is.is_name in
    let (_, field) = same_slot_word P s s is.field 1 is.is_field (omega arith) (sym is.at ∙ same) in
    omega (arith, low, field)

-- ---- a pointer, alone and behind a name

pub pointer_stored : {a b c : DeviceView} {value line lines : ℕ} (P Q s t : ℕ) → Q ≡ P → t ≡ s → lines ≡ 1 → Performs a b (Store (slot_word_of Q t 1) value ∷ []) → FlushesLines b c line lines
    → Stores (λ word. word ≡ slot_word_of P s 1) a c 2
pointer_stored P Q s t volume slot one stored flushes =
    stores_weaker 2 (λ w is. word_as IsPointerWord P Q s t w volume slot is) (omega arith) (slot_stored one stored flushes)

pub named_and_pointed : {a b c d : DeviceView} {line lines value : ℕ} {events : List Event} (P Q R s t u : ℕ) → Q ≡ P → t ≡ s → R ≡ P → u ≡ s → lines ≡ 2
    → StoresExactly (IsNameWord Q t) a b events 14 → Performs b c (Store (slot_word_of R u 1) value ∷ []) → FlushesLines c d line lines → Stores (IsRestWord P s) a d 17
named_and_pointed {a} {b} {c} {d} {lines = lines} P Q R s t u volume slot again same both named pointed flushes =
    let name : Stores (IsNameWord P s) a b 14 = stores_weaker 14 (λ w is. word_as IsNameWord P Q s t w volume slot is) (omega arith) (exactly_stores named) in
    let pointer : Stores (λ word. word ≡ slot_word_of P s 1) b c 1 = stores_weaker 1 (λ w is. word_as IsPointerWord P R s u w again same is) (omega arith) (store_stores pointed) in
    let all : Stores (IsRestWord P s) a c 15 = stores_weaker 15 (rest P s) (omega arith) (stores_then name pointer (name_off_pointer P s)) in
    subst (λ (count : ℕ). Stores (IsRestWord P s) a d (15 + count)) both (stores_flushed all (lines_stores flushes))
  where
    rest : (P s w : ℕ) → IsNameWord P s w ⊎ (w ≡ slot_word_of P s 1) → IsRestWord P s w
    rest P s w (inl is) = let low = is.is_name in record { field = is.field; is_rest = omega (arith, low); is_field = is.is_field; at = is.at }
    rest P s w (inr is) = record { field = 1; is_rest = omega arith; is_field = omega arith; at = is }

-- ---- an entry beside it

-- an entry is another slot than a free one
entry_not_free : (P s t : ℕ) (I : List ℕ) → IsLive (slot_fields_at P I s) → slot_fields_at P I t ≡ free_fields → s ≢ t
entry_not_free P s t I live free same = live.0 (ap (λ (k : ℕ). slot_inode P I k) same ∙ ap (λ (f : SlotFields). f.inode) free)

-- and stays as it was while that one gets its name
pub entry_stays : {a b : DeviceView} {events : List Event} (P Q s t u : ℕ) (entry : DentryView) → entry.pages ≡ P → entry.slot ≡ s → Q ≡ P → u ≡ t
    → IsLive (slot_fields_at P a.words s) → slot_fields_at P a.words t ≡ free_fields
    → StoresExactly (IsNameWord Q u) a b events 14 → DentryIsClean entry a → DentryIsClean entry b
entry_stays {a} {b} P Q s t u entry volume slot again same live free named clean =
    (dentry_goes_on {a = a} {b = b} entry (exactly_stores named).stores (λ w is name.
    let own = word_as IsNameWord P Q t u w again same name in
    slot_words_apart P s t w (entry_not_free P s t a.words live free) (word_as IsSlotWord P entry.pages s entry.slot w volume slot is) (record { field = own.field; is_field = own.is_field; at = own.at }))).clean clean

-- ---- both slots of a move

abbrev pub IsCleared : ℕ → ℕ → ℕ → ℕ → Type 0
IsCleared P s d w = (w ≡ slot_word_of P d 1) ⊎ IsRestWord P s w

module _ (P s d : ℕ) (other : d ≢ s) where
  pub slots_cleared : {a b c e f : DeviceView} {first last one two value : ℕ} {events : List Event} (Q R t u : ℕ) → Q ≡ P → t ≡ d → R ≡ P → u ≡ s → one ≡ 1 → two ≡ 2
      → Performs a b (Store (slot_word_of Q t 1) value ∷ []) → StoresExactly (IsRestWord R u) b c events 15 → FlushesLines c e first one → FlushesLines e f last two → Stores (IsCleared P s d) a f 19
  slots_cleared {a} {b} {c} {e} {f} {one = one} {two = two} Q R t u volume slot again same single both pointed freed flushed settled =
      let pointer : Stores (λ word. word ≡ slot_word_of P d 1) a b 1 = stores_weaker 1 (λ w is. word_as IsPointerWord P Q d t w volume slot is) (omega arith) (store_stores pointed) in
      let rest : Stores (IsRestWord P s) b c 15 = stores_weaker 15 (λ w is. word_as IsRestWord P R s u w again same is) (omega arith) (exactly_stores freed) in
      let all = stores_flushed (stores_flushed (stores_then pointer rest (λ w is own. slot_words_apart P d s w other (pointer_word P d w is) (rest_word P s w own))) (lines_stores flushed)) (lines_stores settled) in
      stores_weaker 19 (λ w is. is) (omega (arith, single, both)) all

  pub cleared_flushed : {e f : DeviceView} {last two : ℕ} (Q R t u : ℕ) → Q ≡ P → t ≡ d → R ≡ P → u ≡ s → ((w : ℕ) → IsSlotWord Q t w → IsFlushed e.trail w) → FlushesLines e f last two
      → ((w : ℕ) → IsSlotWord R u w → IsFlushed f.trail w) → (w : ℕ) → IsCleared P s d w → IsFlushed f.trail w
  cleared_flushed Q R t u volume slot again same first settled last w (inl is) =
      flushed_stays w (lines_stores settled).stores (λ none. none) (first w (word_as IsSlotWord Q P t d w (sym volume) (sym slot) (pointer_word P d w is)))
  cleared_flushed Q R t u volume slot again same first settled last w (inr is) = last w (word_as IsSlotWord R P u s w (sym again) (sym same) (rest_word P s w is))
