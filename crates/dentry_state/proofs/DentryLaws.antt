-- Laws of slots: what one says hangs on its own words, which no other slot and no inode has.
use Rattle.std.proofs.Common.{◌≡◌, ◌≢◌, ℕ, suc, ◌+◌, ◌*◌, ◌<◌, ◌≤◌, List, [], ◌∷◌, length, slice_index, refl, sym, ◌∙◌, ap, arith}
use Rattle.pm_trait.specs.declared.event.Event.{Event}
use Rattle.pm_trait.specs.Trail.{after_stores}
use Rattle.pm_trait.specs.Device.{with_events}
use Rattle.pm_trait.specs.DeviceView.{DeviceView, StoresOnly}
use Rattle.pm_trait.proofs.DeviceLaws.{clean_stays}
use Rattle.layout.specs.declared.fields.SlotFields.{SlotFields}
use Rattle.layout.specs.Geometry.{inodes_of, slots_of, slot_word_of}
use Rattle.layout.proofs.GeometryLaws.{same_slot_word, inode_word_not_slot_word, slot_word_within}
use Rattle.layout.specs.Fields.{word, slot_inode, slot_pointer, slot_words}
use Rattle.layout.proofs.FieldLaws.{same_words_from}
use Rattle.fence_token.specs.Objects.{IsLocal, StoreNoneOf}
use Rattle.fence_token.proofs.ObjectLaws.{stands_stays, goes_on_as, goes_on_stays, clean_as_events}
use Rattle.inode_state.specs.Inode.{IsInodeWord}
use Rattle.dentry_state.specs.Dentry.{DentryView, IsSlotWord, IsNameWord, slot_fields_at, stores_from, DentryIsDirty}
use Rattle.dentry_state.specs.Laws.{DentryGoesOn}

pub same_fields : (one two : SlotFields) → one.inode ≡ two.inode → one.pointer ≡ two.pointer → one.name ≡ two.name → one ≡ two
same_fields one two inode pointer name = rw (inode, pointer, name) refl

-- the word of a field is the slot's
pub slot_word_is : (pages slot field : ℕ) → field < 16 → IsSlotWord pages slot (slot_word_of pages slot field)
slot_word_is pages slot field is_field = record { field = field; is_field = is_field; at = refl }

-- and so is each of its name's
pub name_word_is_slot_word : (pages slot word : ℕ) → IsNameWord pages slot word → IsSlotWord pages slot word
name_word_is_slot_word pages slot word is = record { field = is.field; is_field = is.is_field; at = is.at }

-- the fields follow one another
pub next_fields : (pages slot field more : ℕ) → slot_word_of pages slot field + more ≡ slot_word_of pages slot (field + more)
unfolding slot_word_of
next_fields pages slot field more = omega arith

-- two lists of words with the same sixteen words say the same of the slot
pub same_fields_at : (pages slot : ℕ) (old new : List ℕ) → ((word : ℕ) → IsSlotWord pages slot word → slice_index new word ≡ slice_index old word) → slot_fields_at pages new slot ≡ slot_fields_at pages old slot
unfolding slot_inode slot_pointer slot_words word
same_fields_at pages slot old new same =
    same_fields (slot_fields_at pages new slot) (slot_fields_at pages old slot) (at 0 (omega arith)) (at 1 (omega arith))
    (same_words_from new old (slot_word_of pages slot 2) 14 (λ k below. let is : slot_word_of pages slot 2 + k ≡ slot_word_of pages slot (2 + k) = next_fields pages slot 2 k in
    ap (λ (w : ℕ). slice_index new w) is ∙ at (2 + k) (omega (arith, below)) ∙ ap (λ (w : ℕ). slice_index old w) (sym is)))
  where
    at : (field : ℕ) → field < 16 → slice_index new (slot_word_of pages slot field) ≡ slice_index old (slot_word_of pages slot field)
    at field is_field = same (slot_word_of pages slot field) (slot_word_is pages slot field is_field)

-- what a slot says hangs on its own words alone
pub dentry_is_local : (dentry : DentryView) → IsLocal (IsSlotWord dentry.pages dentry.slot) (λ words. slot_fields_at dentry.pages words dentry.slot ≡ dentry.fields)
dentry_is_local dentry = record {
  carries = λ old new same reads. same_fields_at dentry.pages dentry.slot old new same ∙ reads;
}

-- a slot that was stored to stays so while others are stored
pub dirty_stays : {W : ℕ → Type 0} {a b : DeviceView} (dentry : DentryView) → StoresOnly W a b → ((word : ℕ) → IsSlotWord dentry.pages dentry.slot word → ¬ W word) → DentryIsDirty dentry a → DentryIsDirty dentry b
dirty_stays dentry run apart dirty = record {
  stands = stands_stays (dentry_is_local dentry) run apart dirty.stands;
  untouched = λ field past few. clean_stays (slot_word_of dentry.pages dentry.slot field) run (apart (slot_word_of dentry.pages dentry.slot field) (slot_word_is dentry.pages dentry.slot field few)) (dirty.untouched field past few);
}

-- and a slot goes on as it was
pub dentry_goes_on : {W : ℕ → Type 0} {a b : DeviceView} (dentry : DentryView) → StoresOnly W a b → ((word : ℕ) → IsSlotWord dentry.pages dentry.slot word → ¬ W word) → DentryGoesOn dentry a b
dentry_goes_on dentry run apart =
    let goes = goes_on_stays (dentry_is_local dentry) run apart in
    record { dirty = dirty_stays dentry run apart; clean = goes.clean; in_flight = goes.in_flight dentry.ticket }

-- a slot that was stored to stays so over all events that store none of its words
pub dirty_events : {a b : DeviceView} (dentry : DentryView) (events : List Event) → StoreNoneOf (IsSlotWord dentry.pages dentry.slot) events → b.words ≡ after_stores a.words events → b.trail ≡ with_events a.trail events → DentryIsDirty dentry a → DentryIsDirty dentry b
dirty_events {a} {b} dentry events none words trail dirty = record {
  stands = (goes_on_as events (dentry_is_local dentry) none words trail).stands dirty.stands;
  untouched = λ field past few. clean_as_events events (slot_word_of dentry.pages dentry.slot field) (none.each (slot_word_of dentry.pages dentry.slot field) (slot_word_is dentry.pages dentry.slot field few)) words trail (dirty.untouched field past few);
}

-- so many stores
pub length-stores_from : (word : ℕ) (values : List ℕ) → length (stores_from word values) ≡ length values
length-stores_from word [] = refl
length-stores_from word (value ∷ values) = ap (λ (n : ℕ). suc n) (length-stores_from (word + 1) values)

-- no word is of two slots
pub slot_words_apart : (pages one two word : ℕ) → one ≢ two → IsSlotWord pages one word → ¬ IsSlotWord pages two word
slot_words_apart pages one two word differ is_one is_two =
    differ ((same_slot_word pages one two is_one.field is_two.field is_one.is_field is_two.is_field (sym is_one.at ∙ is_two.at)).0)

-- nor of a slot and of an inode
pub slot_word_is_no_inode_word : (pages slot inode word : ℕ) → 1 ≤ inode → inode ≤ inodes_of pages → IsSlotWord pages slot word → ¬ IsInodeWord inode word
slot_word_is_no_inode_word pages slot inode word some in_range is_slot is_inode =
    let field = is_inode.is_field in
    inode_word_not_slot_word pages inode slot is_inode.field is_slot.field some in_range (omega (arith, field)) (sym is_inode.at ∙ is_slot.at)

-- the sixteen words are words of the volume
pub slot_word_in_volume : (pages slot word : ℕ) → slot < slots_of pages → IsSlotWord pages slot word → word < 512 * pages
slot_word_in_volume pages slot word in_range is =
    let within = slot_word_within pages slot is.field in_range is.is_field in
    omega (arith, within, is.at)
