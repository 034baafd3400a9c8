-- What the pages say after a change of them.
use Rattle.std.proofs.Common.{◌≡◌, ◌≢◌, ◌⊎◌, inl, inr, ⊎_elim, ℕ, ◌+◌, ◌*◌, ◌<◌, true, false, List, length, slice_index, refl, sym, ◌∙◌, ap, arith}
use Rattle.std.proofs.lemmas.Bool.{both_ways}
use Rattle.std.specs.Prelude.{Option}
use Rattle.pm_trait.specs.Trail.{Trail}
use Rattle.pm_trait.specs.Device.{IsInterval, IsFlushed}
use Rattle.pm_trait.specs.DeviceView.{DeviceView}
use Rattle.pm_trait.proofs.DeviceLaws.{interval_keeps, interval_length, clean_stays, flushed_stays, flushed_if_clean}
use Rattle.layout.specs.declared.fields.DescriptorFields.{DescriptorFields}
use Rattle.layout.specs.Geometry.{data_pages_of, descriptor_word_of, page_word_of}
use Rattle.layout.proofs.GeometryLaws.{same_descriptor_word, same_page_word, descriptor_word_not_page_word}
use Rattle.layout.specs.Fields.{word, descriptor_fields, page_owner, page_kind, page_offset}
use Rattle.page_state.specs.declared.page.Touched.{Touched}
use Rattle.page_state.specs.declared.page.Touched.TheVariants.{Descriptors, Whole, Words}
use Rattle.page_state.specs.declared.span.FileSpan.{FileSpan}
use Rattle.page_state.specs.Spans.{has_new, new_words, IsWithinLimits}
use Rattle.page_state.specs.States.{slots_fields, bytes_fields, owned_fields, IsFree, IsFilled, IsLive}
use Rattle.page_state.specs.Page.{PageView, EachPage, AreDataPages, OfSome, IsOwnWord, IsFilledWord, IsOwnerWord, IsNewWordOf, AreTouched, IsSlotPage, IsBytesPage, AreBytesPages, descriptor_of, fields_of_page, HaveMeaning, PageIsDirty, PageIsClean}
use Rattle.page_state.specs.Events.{FillsPages, FillsBytes, WritesSpan, ClaimsPages, FlushesPages}
use Rattle.page_state.proofs.PageLaws.{same_descriptor_fields}
use Rattle.page_state.proofs.Pieces.{some_lines}

-- a fill stores no owner
not_filled : (volume_pages : ℕ) (pages : List ℕ) (index : ℕ) → AreDataPages (data_pages_of volume_pages) pages → index < length pages → ¬ OfSome pages (IsFilledWord volume_pages) (descriptor_word_of volume_pages (slice_index pages index) 0)
not_filled volume_pages pages index valid inside stored =
    let page = slice_index pages index in
    let other = slice_index pages stored.index in
    let field : (f : ℕ) → f < 8 → f ≢ 0 → descriptor_word_of volume_pages page 0 ≢ descriptor_word_of volume_pages other f = λ f few some same. some (sym ((same_descriptor_word volume_pages page other 0 f (omega arith) few same).1)) in
    ⊎_elim
    (λ content. descriptor_word_not_page_word volume_pages page other 0 content.place (valid.in_range.each index inside) (omega arith) content.at)
    (λ either. ⊎_elim (field 1 (omega arith) (λ same. omega (arith, same))) (field 2 (omega arith) (λ same. omega (arith, same))) either)
    stored.is

-- a claim stores owners alone
not_claimed : (volume_pages : ℕ) (pages : List ℕ) (page field : ℕ) → field < 8 → field ≢ 0 → ¬ OfSome pages (IsOwnerWord volume_pages) (descriptor_word_of volume_pages page field)
not_claimed volume_pages pages page field few some stored = some ((same_descriptor_word volume_pages page (slice_index pages stored.index) field 0 few (omega arith) stored.is).1)

-- a fill leaves the owners
pub fill_keeps_owners : {a b : List ℕ} {ta tb : Option Trail} (volume_pages : ℕ) (pages : List ℕ) → AreDataPages (data_pages_of volume_pages) pages → IsInterval (OfSome pages (IsFilledWord volume_pages)) a ta b tb
    → (index : ℕ) → index < length pages → page_owner volume_pages b (slice_index pages index) ≡ page_owner volume_pages a (slice_index pages index)
unfolding page_owner word
fill_keeps_owners volume_pages pages valid run index inside = interval_keeps (descriptor_word_of volume_pages (slice_index pages index) 0) run (not_filled volume_pages pages index valid inside)

-- a claim leaves the rest of the descriptors
pub claim_keeps_kinds : {a b : List ℕ} {ta tb : Option Trail} (volume_pages : ℕ) (pages : List ℕ) → IsInterval (OfSome pages (IsOwnerWord volume_pages)) a ta b tb → (page : ℕ) → page_kind volume_pages b page ≡ page_kind volume_pages a page
unfolding page_kind word
claim_keeps_kinds volume_pages pages run page = interval_keeps (descriptor_word_of volume_pages page 1) run (not_claimed volume_pages pages page 1 (omega arith) (λ same. omega (arith, same)))

pub claim_keeps_offsets : {a b : List ℕ} {ta tb : Option Trail} (volume_pages : ℕ) (pages : List ℕ) → IsInterval (OfSome pages (IsOwnerWord volume_pages)) a ta b tb → (page : ℕ) → page_offset volume_pages b page ≡ page_offset volume_pages a page
unfolding page_offset word
claim_keeps_offsets volume_pages pages run page = interval_keeps (descriptor_word_of volume_pages page 2) run (not_claimed volume_pages pages page 2 (omega arith) (λ same. omega (arith, same)))

-- ---- what the fields mean

-- what was read of a page
pub descriptor_read : (volume_pages page : ℕ) (words now : List ℕ) (fields : DescriptorFields) → fields.owner ≡ page_owner volume_pages words page → fields.kind ≡ page_kind volume_pages words page → fields.offset ≡ page_offset volume_pages words page → words ≡ now
    → fields ≡ descriptor_of volume_pages now page
descriptor_read volume_pages page words now fields owner kind offset same =
    same_descriptor_fields fields (descriptor_of volume_pages words page) owner kind offset ∙ ap (λ (l : List ℕ). descriptor_of volume_pages l page) same

filled_kind : (fields : DescriptorFields) → (fields.kind ≡ 1) ⊎ ((fields.kind ≡ 2) × (fields.offset ≡ 0)) → (fields.kind ≡ 1) ⊎ (fields.kind ≡ 2)
filled_kind fields (inl bytes) = inl bytes
filled_kind fields (inr slots) = inr slots.0

pub owned_means : (owner : ℕ) → owner ≢ 0 → (fields : DescriptorFields) → IsFilled fields → IsLive (owned_fields fields owner)
owned_means owner some fields filled = (some, filled_kind fields filled.1)

-- ---- the objects

-- free pages have no owner once they are filled
filled_owners : {a b : DeviceView} (volume_pages : ℕ) (pages first : List ℕ) (fields : DescriptorFields) (touched : Touched) (ticket : Option ℕ) → AreDataPages (data_pages_of volume_pages) pages → HaveMeaning IsFree pages fields
    → PageIsClean (record { volume_pages = volume_pages; pages = pages; fields = fields; touched = touched; ticket = ticket }) a → FillsPages volume_pages pages first a b → EachPage pages (λ page. page_owner volume_pages b.words page ≡ 0)
filled_owners volume_pages pages first fields touched ticket valid free clean run = record {
  each = λ index inside. fill_keeps_owners volume_pages pages valid run.interval index inside ∙ ap (λ (said : DescriptorFields). said.owner) (clean.stands.reads.each index inside ∙ free.each index inside);
}

-- free pages that were filled
pub filled_dirty : {a b : DeviceView} (volume_pages : ℕ) (pages first : List ℕ) (fields : DescriptorFields) (touched : Touched) (ticket later : Option ℕ) → AreDataPages (data_pages_of volume_pages) pages → HaveMeaning IsFree pages fields
    → PageIsClean (record { volume_pages = volume_pages; pages = pages; fields = fields; touched = touched; ticket = ticket }) a → FillsPages volume_pages pages first a b → EachPage pages (IsSlotPage volume_pages b.words first)
    → PageIsDirty (record { volume_pages = volume_pages; pages = pages; fields = slots_fields; touched = Whole; ticket = later }) b
filled_dirty {b = b} volume_pages pages first fields touched ticket later valid free clean run filled = record {
  stands = record {
    inside = λ word own. let before = clean.stands.inside word own in omega (arith, before, interval_length run.interval);
    reads = record {
      each = λ index inside.
          same_descriptor_fields (descriptor_of volume_pages b.words (slice_index pages index)) (fields_of_page slots_fields index)
          ((filled_owners volume_pages pages first fields touched ticket valid free clean run).each index inside) (filled.each index inside).kind (filled.each index inside).offset;
    };
  };
  touched = tt;
  untouched = λ word own kept. absurd (kept own);
}

-- filled pages that got an owner
pub claimed_dirty : {a b : DeviceView} (volume_pages : ℕ) (pages : List ℕ) (fields : DescriptorFields) (touched : Touched) (ticket later : Option ℕ) (owner : ℕ)
    → PageIsClean (record { volume_pages = volume_pages; pages = pages; fields = fields; touched = touched; ticket = ticket }) a → ClaimsPages volume_pages pages owner a b → EachPage pages (λ page. page_owner volume_pages b.words page ≡ owner)
    → PageIsDirty (record { volume_pages = volume_pages; pages = pages; fields = owned_fields fields owner; touched = Descriptors; ticket = later }) b
claimed_dirty {b = b} volume_pages pages fields touched ticket later owner clean run claimed = record {
  stands = record {
    inside = λ word own. let before = clean.stands.inside word own in omega (arith, before, interval_length run.interval);
    reads = record {
      each = λ index inside.
          let page = slice_index pages index in
          let said = clean.stands.reads.each index inside in
          same_descriptor_fields (descriptor_of volume_pages b.words page) (fields_of_page (owned_fields fields owner) index) (claimed.each index inside)
          (claim_keeps_kinds volume_pages pages run.interval page ∙ ap (λ (said : DescriptorFields). said.kind) said)
          (claim_keeps_offsets volume_pages pages run.interval page ∙ ap (λ (said : DescriptorFields). said.offset) said);
    };
  };
  touched = tt;
  untouched = λ word own kept. clean_stays word run.interval (λ stored. kept (record { index = stored.index; before = stored.before; is = record { field = 0; is_field = omega arith; at = stored.is } })) (clean.clean word own);
}

-- the owner that dirty pages say
pub dirty_owners : {device : DeviceView} (view : PageView) (owner : ℕ) → view.fields.owner ≡ owner → PageIsDirty view device → EachPage view.pages (λ page. page_owner view.volume_pages device.words page ≡ owner)
dirty_owners view owner is dirty = record { each = λ index inside. ap (λ (said : DescriptorFields). said.owner) (dirty.stands.reads.each index inside) ∙ is }

-- a word of the descriptors is none that has new bytes
no_new_field : (span : FileSpan) (volume_pages page field word : ℕ) (pages : List ℕ) → page < data_pages_of volume_pages → field < descriptor_fields → word ≡ descriptor_word_of volume_pages page field → ¬ IsNewWordOf span volume_pages pages word
no_new_field span volume_pages page field word pages in_range few at new =
    descriptor_word_not_page_word volume_pages page (slice_index pages new.index) field new.is.index in_range (omega (arith, few)) (sym at ∙ new.is.is.at)

-- nor is one of a page's own words without a new byte
no_new_place : (span : FileSpan) (volume_pages index place word : ℕ) (pages : List ℕ) → AreDataPages (data_pages_of volume_pages) pages → index < length pages → place < 512 → word ≡ page_word_of volume_pages (slice_index pages index) place
    → has_new span (4096 * (span.first + index) + 8 * place) 8 ≡ false → ¬ IsNewWordOf span volume_pages pages word
no_new_place span volume_pages index place word pages valid inside in_page at none new =
    let same = same_page_word volume_pages (slice_index pages index) (slice_index pages new.index) place new.is.index in_page new.is.below (sym at ∙ new.is.is.at) in
    let here : index ≡ new.index = valid.distinct.each index new.index inside new.below same.0 in
    let has : has_new span (4096 * (span.first + index) + 8 * place) 8 ≡ true =
    ap (λ (k : ℕ). has_new span (4096 * (span.first + k) + 8 * place) 8) here ∙ ap (λ (k : ℕ). has_new span (4096 * (span.first + new.index) + 8 * k) 8) same.1 ∙ new.is.is.has in
    both_ways (has_new span (4096 * (span.first + index) + 8 * place) 8) none has

-- once the lines that were stored to are flushed, all words are
pub all_flushed : {a b : DeviceView} (touched : Touched) (volume_pages : ℕ) (pages : List ℕ) (fields : DescriptorFields) (ticket : Option ℕ) → AreDataPages (data_pages_of volume_pages) pages
    → PageIsDirty (record { volume_pages = volume_pages; pages = pages; fields = fields; touched = touched; ticket = ticket }) a → FlushesPages volume_pages pages touched a b
    → ((word : ℕ) → AreTouched touched volume_pages pages word → IsFlushed b.trail word) → (word : ℕ) → OfSome pages (IsOwnWord volume_pages) word → IsFlushed b.trail word
all_flushed Whole volume_pages pages fields ticket valid dirty flushes flushed word own = flushed word own
all_flushed Descriptors volume_pages pages fields ticket valid dirty flushes flushed word own = elim own.is [
  | inr field ↦ flushed word (record { index = own.index; before = own.before; is = field })
  | inl content ↦
      flushed_stays word flushes.stores_none (λ stored. stored) (flushed_if_clean (dirty.untouched word own (λ touched.
      let few = touched.is.is_field in
      descriptor_word_not_page_word volume_pages (slice_index pages touched.index) (slice_index pages own.index) touched.is.field content.place (valid.in_range.each touched.index touched.before) (omega (arith, few)) (sym touched.is.at ∙ content.at))))
]
all_flushed {a} {b} (Words span) volume_pages pages fields ticket valid dirty flushes flushed word own =
    let kept : ¬ IsNewWordOf span volume_pages pages word → IsFlushed b.trail word = λ untouched. flushed_stays word flushes.stores_none (λ stored. stored) (flushed_if_clean (dirty.untouched word own untouched)) in
    elim own.is [
      | inr field ↦ kept (no_new_field span volume_pages (slice_index pages own.index) field.field word pages (valid.in_range.each own.index own.before) field.is_field field.at)
      | inl content ↦
          let byte = 4096 * (span.first + own.index) + 8 * content.place in
          elim (has_new span byte 8) as (λ t. has_new span byte 8 ≡ t → IsFlushed b.trail word) [
            | true ↦ λ has. flushed word (record { index = own.index; below = own.before; is = record { index = content.place; below = content.in_page; is = record { at = content.at; has = has } } })
            | false ↦ λ none. kept (no_new_place span volume_pages own.index content.place word pages valid own.before content.in_page content.at none)
          ] refl
    ]

-- ---- new bytes

-- stores of new bytes leave the descriptors
new_keeps_field : {a b : List ℕ} {ta tb : Option Trail} (span : FileSpan) (volume_pages page field : ℕ) (pages : List ℕ) → page < data_pages_of volume_pages → field < descriptor_fields → IsInterval (IsNewWordOf span volume_pages pages) a ta b tb
    → slice_index b (descriptor_word_of volume_pages page field) ≡ slice_index a (descriptor_word_of volume_pages page field)
new_keeps_field span volume_pages page field pages in_range few run =
    interval_keeps (descriptor_word_of volume_pages page field) run (no_new_field span volume_pages page field (descriptor_word_of volume_pages page field) pages in_range few refl)

new_keeps_descriptor : {a b : List ℕ} {ta tb : Option Trail} (span : FileSpan) (volume_pages page : ℕ) (pages : List ℕ) → page < data_pages_of volume_pages → IsInterval (IsNewWordOf span volume_pages pages) a ta b tb
    → descriptor_of volume_pages b page ≡ descriptor_of volume_pages a page
unfolding page_owner page_kind page_offset word
new_keeps_descriptor {a} {b} span volume_pages page pages in_range run =
    same_descriptor_fields (descriptor_of volume_pages b page) (descriptor_of volume_pages a page)
    (new_keeps_field span volume_pages page 0 pages in_range (omega arith) run) (new_keeps_field span volume_pages page 1 pages in_range (omega arith) run) (new_keeps_field span volume_pages page 2 pages in_range (omega arith) run)

-- pages that new bytes were written to
pub written_dirty : {a b : DeviceView} (span : FileSpan) (bytes : List ℕ) (volume_pages : ℕ) (pages : List ℕ) (fields : DescriptorFields) (touched : Touched) (ticket later : Option ℕ) → AreDataPages (data_pages_of volume_pages) pages
    → IsWithinLimits span (length pages) → 0 < new_words span (length pages)
    → PageIsClean (record { volume_pages = volume_pages; pages = pages; fields = fields; touched = touched; ticket = ticket }) a → WritesSpan volume_pages pages span bytes a b
    → PageIsDirty (record { volume_pages = volume_pages; pages = pages; fields = fields; touched = Words span; ticket = later }) b
written_dirty span bytes volume_pages pages fields touched ticket later valid limits some clean run = record {
  stands = record {
    inside = λ word own. let before = clean.stands.inside word own in omega (arith, before, interval_length run.interval);
    reads = record { each = λ index inside. new_keeps_descriptor span volume_pages (slice_index pages index) pages (valid.in_range.each index inside) run.interval ∙ clean.stands.reads.each index inside };
  };
  touched = (limits, some_lines span (length pages) some);
  untouched = λ word own kept. clean_stays word run.interval kept (clean.clean word own);
}

-- what the descriptors of pages of bytes say
bytes_page_fields : (volume_pages first index page : ℕ) (words : List ℕ) → page_owner volume_pages words page ≡ 0 → IsBytesPage volume_pages words (first + index) page → descriptor_of volume_pages words page ≡ fields_of_page (bytes_fields first) index
bytes_page_fields volume_pages first index page words owner filled =
    same_descriptor_fields (descriptor_of volume_pages words page) (fields_of_page (bytes_fields first) index) owner filled.kind filled.offset

-- free pages that were filled with bytes
pub bytes_dirty : {a b : DeviceView} (span : FileSpan) (bytes : List ℕ) (volume_pages : ℕ) (pages : List ℕ) (fields : DescriptorFields) (touched : Touched) (ticket later : Option ℕ) → AreDataPages (data_pages_of volume_pages) pages → HaveMeaning IsFree pages fields
    → PageIsClean (record { volume_pages = volume_pages; pages = pages; fields = fields; touched = touched; ticket = ticket }) a → FillsBytes volume_pages pages span bytes a b → AreBytesPages volume_pages b.words span.first pages
    → PageIsDirty (record { volume_pages = volume_pages; pages = pages; fields = bytes_fields span.first; touched = Whole; ticket = later }) b
bytes_dirty {b = b} span bytes volume_pages pages fields touched ticket later valid free clean run filled = record {
  stands = record {
    inside = λ word own. let before = clean.stands.inside word own in omega (arith, before, interval_length run.interval);
    reads = record {
      each = λ index inside.
          bytes_page_fields volume_pages span.first index (slice_index pages index) b.words
          (fill_keeps_owners volume_pages pages valid run.interval index inside ∙ ap (λ (said : DescriptorFields). said.owner) (clean.stands.reads.each index inside ∙ free.each index inside))
          (filled.each index inside);
    };
  };
  touched = tt;
  untouched = λ word own kept. absurd (kept own);
}

pub bytes_mean : (first : ℕ) (pages : List ℕ) → HaveMeaning IsFilled pages (bytes_fields first)
bytes_mean first pages = record { each = λ index inside. (refl, inl refl) }
