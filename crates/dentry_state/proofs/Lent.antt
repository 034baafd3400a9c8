-- A slot that is lent to a call of another one.
use Rattle.std.proofs.Common.{◌≡◌, ◌≢◌, ℕ, ◌+◌, ◌^◌, ◌<◌, List, [], ◌∷◌, sym, ◌∙◌, ap, subst, arith}
use Rattle.pm_trait.specs.declared.event.Event.TheVariants.{Store}
use Rattle.pm_trait.specs.DeviceView.{DeviceView, Performs, StoresOnly}
use Rattle.pm_trait.proofs.DeviceViewLaws.{store_stores}
use Rattle.layout.specs.declared.fields.SlotFields.{SlotFields}
use Rattle.layout.specs.Geometry.{IsVolumeSize, slots_of, slot_word_of}
use Rattle.layout.proofs.GeometryLaws.{slots_in_pages, data_pages_below}
use Rattle.dentry_state.specs.Dentry.{DentryView, IsSlotWord, slot_fields_at, DentryStands}
use Rattle.dentry_state.specs.Laws.{DentryGoesOn}
use Rattle.dentry_state.proofs.DentryLaws.{dentry_goes_on, slot_words_apart, slot_word_is}

-- a rename pointer fits a word
pub pointer_fits : (pages slot : ℕ) → IsVolumeSize pages → slot < slots_of pages → slot + 1 < 2 ^ 64
pointer_fits pages slot size in_range =
    let most = size.1 in
    omega (arith, most, in_range, slots_in_pages pages, data_pages_below pages size)

-- two objects that stand on the same words and say other fields are of other slots
pub slots_differ : {now : List ℕ} (dentry lent : DentryView) → lent.pages ≡ dentry.pages → lent.fields ≢ dentry.fields → DentryStands dentry now → DentryStands lent now → lent.slot ≢ dentry.slot
slots_differ {now} dentry lent volume differ stands lent_stands same =
    differ (sym lent_stands.reads
    ∙ ap (λ (pages : ℕ). slot_fields_at pages now lent.slot) volume
    ∙ ap (λ (slot : ℕ). slot_fields_at dentry.pages now slot) same
    ∙ stands.reads)

-- so where one has a rename pointer and the other has none
pub pointer_tells : (one two : SlotFields) (slot : ℕ) → one.pointer ≡ 0 → two.pointer ≡ slot + 1 → one ≢ two
pointer_tells one two slot none some same =
    let pointers = ap (λ (fields : SlotFields). fields.pointer) same in
    omega (arith, pointers, none, some)

-- it goes on as it was over stores to the other slot's words
pub lent_goes_on : {W : ℕ → Type 0} {a b : DeviceView} (dentry lent : DentryView) → lent.pages ≡ dentry.pages → lent.slot ≢ dentry.slot → StoresOnly W a b → ((word : ℕ) → W word → IsSlotWord dentry.pages dentry.slot word) → DentryGoesOn lent a b
lent_goes_on dentry lent volume differ run within =
    dentry_goes_on lent run (λ word own stored. slot_words_apart dentry.pages lent.slot dentry.slot word differ (subst (λ (pages : ℕ). IsSlotWord pages lent.slot word) volume own) (within word stored))

-- and over a store of one of them
pub lent_over_store : {a b : DeviceView} {value : ℕ} (field : ℕ) (dentry lent : DentryView) → field < 16 → lent.pages ≡ dentry.pages → lent.slot ≢ dentry.slot
    → Performs a b (Store (slot_word_of dentry.pages dentry.slot field) value ∷ []) → DentryGoesOn lent a b
lent_over_store field dentry lent small volume differ stored =
    lent_goes_on dentry lent volume differ (store_stores stored).stores
    (λ word is. subst (λ (w : ℕ). IsSlotWord dentry.pages dentry.slot w) (sym is) (slot_word_is dentry.pages dentry.slot field small))
