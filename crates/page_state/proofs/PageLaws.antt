-- Laws of pages: what they say hangs on their own words alone, which no other page has, and they go on standing while others are stored.
use Rattle.std.proofs.Common.{◌≡◌, ◌≢◌, inl, inr, ℕ, ◌*◌, ◌+◌, ◌<◌, ◌≤◌, Bool, true, false, ◌==◌, cond, List, length, slice_index, refl, sym, ◌∙◌, ap, subst, arith, add-zero, ◌%◌}
use Rattle.pm_trait.specs.declared.event.Event.{Event}
use Rattle.pm_trait.specs.Trail.{after_stores}
use Rattle.pm_trait.specs.Device.{with_events}
use Rattle.pm_trait.specs.DeviceView.{DeviceView, StoresOnly}
use Rattle.pm_trait.proofs.DeviceLaws.{clean_stays}
use Rattle.layout.specs.declared.fields.DescriptorFields.{DescriptorFields}
use Rattle.layout.specs.Geometry.{IsVolumeSize, data_pages_of, descriptor_word_of, inodes_of, inode_word_of, slot_word_of, page_of_slot}
use Rattle.layout.proofs.GeometryLaws.{same_descriptor_word, same_page_word, descriptor_word_within, page_word_within, descriptor_word_not_page_word, slot_word_in_page, descriptor_word_not_slot_word, inode_word_not_descriptor_word, inode_word_not_page_word}
use Rattle.layout.specs.Fields.{word, descriptor_fields, page_owner, page_kind, page_offset}
use Rattle.fence_token.specs.Objects.{IsLocal, StoreNoneOf}
use Rattle.fence_token.proofs.ObjectLaws.{stands_stays, goes_on_as, clean_as_events}
use Rattle.page_state.specs.States.{IsFree}
use Rattle.page_state.specs.Page.{PageView, EachPage, AreDataPages, IsDescriptorWord, IsOwnWord, descriptor_of, fields_of_page, SayFields, IsWordOf, ReadAs, PageIsDirty}

-- the word of a field is the descriptor's
pub descriptor_word_is : (volume_pages page field : ℕ) → field < descriptor_fields → IsDescriptorWord volume_pages page (descriptor_word_of volume_pages page field)
descriptor_word_is volume_pages page field is_field = record { field = field; is_field = is_field; at = refl }

-- a page's words are the volume's
pub own_word_within : (volume_pages page word : ℕ) → IsVolumeSize volume_pages → page < data_pages_of volume_pages → IsOwnWord volume_pages page word → word < 512 * volume_pages
own_word_within volume_pages page word size in_range (inl content) =
    let within = page_word_within volume_pages page content.place in_range content.in_page in
    let at = content.at in
    omega (arith, within, at)
own_word_within volume_pages page word size in_range (inr field) =
    let few = field.is_field in
    let within = descriptor_word_within volume_pages page field.field size in_range (omega (arith, few)) in
    let at = field.at in
    omega (arith, within, at)

-- no word is of two pages
pub own_words_apart : (volume_pages one two word : ℕ) → one < data_pages_of volume_pages → two < data_pages_of volume_pages → one ≢ two → IsOwnWord volume_pages one word → ¬ IsOwnWord volume_pages two word
own_words_apart volume_pages one two word first second differ (inl content) (inl other) =
    differ ((same_page_word volume_pages one two content.place other.place content.in_page other.in_page (sym content.at ∙ other.at)).0)
own_words_apart volume_pages one two word first second differ (inl content) (inr other) =
    let few = other.is_field in
    descriptor_word_not_page_word volume_pages two one other.field content.place second (omega (arith, few)) (sym other.at ∙ content.at)
own_words_apart volume_pages one two word first second differ (inr field) (inl other) =
    let few = field.is_field in
    descriptor_word_not_page_word volume_pages one two field.field other.place first (omega (arith, few)) (sym field.at ∙ other.at)
own_words_apart volume_pages one two word first second differ (inr field) (inr other) =
    let few = field.is_field in
    let others = other.is_field in
    differ ((same_descriptor_word volume_pages one two field.field other.field (omega (arith, few)) (omega (arith, others)) (sym field.at ∙ other.at)).0)

pub same_descriptor_fields : (one two : DescriptorFields) → one.owner ≡ two.owner → one.kind ≡ two.kind → one.offset ≡ two.offset → one ≡ two
same_descriptor_fields one two owner kind offset = rw (owner, kind, offset) refl

-- two lists of words with the same descriptor say the same of the page
pub same_descriptor_of : (volume_pages page : ℕ) (old new : List ℕ) → ((word : ℕ) → IsDescriptorWord volume_pages page word → slice_index new word ≡ slice_index old word) → descriptor_of volume_pages new page ≡ descriptor_of volume_pages old page
unfolding page_owner page_kind page_offset word
same_descriptor_of volume_pages page old new same =
    same_descriptor_fields (descriptor_of volume_pages new page) (descriptor_of volume_pages old page) (at 0 (omega arith)) (at 1 (omega arith)) (at 2 (omega arith))
  where
    at : (field : ℕ) → field < descriptor_fields → slice_index new (descriptor_word_of volume_pages page field) ≡ slice_index old (descriptor_word_of volume_pages page field)
    at field is_field = same (descriptor_word_of volume_pages page field) (descriptor_word_is volume_pages page field is_field)

-- ---- what the descriptors of a list of pages say

same_offset : (of_bytes : Bool) (offset : ℕ) → offset ≡ cond of_bytes (offset + 0) offset
same_offset true offset = sym (add-zero offset)
same_offset false offset = refl

-- the first page's says the fields themselves
pub first_page_fields : (fields : DescriptorFields) → fields ≡ fields_of_page fields 0
first_page_fields fields = same_descriptor_fields fields (fields_of_page fields 0) refl refl (same_offset (fields.kind == 1) fields.offset)

-- a list of one data page
pub one_data_page : {data_pages : ℕ} (pages : List ℕ) → length pages ≡ 1 → slice_index pages 0 < data_pages → AreDataPages data_pages pages
one_data_page {data_pages} pages one within = record {
  some = omega (arith, one);
  in_range = record { each = λ index inside. let here : index ≡ 0 = omega (arith, one, inside) in subst (λ (k : ℕ). slice_index pages k < data_pages) (sym here) within };
  distinct = record { each = λ index other inside inside_too same. omega (arith, one, inside, inside_too) };
}

-- one page is alike
pub one_page_alike : (volume_pages : ℕ) (pages words : List ℕ) → length pages ≡ 1 → SayFields volume_pages pages (descriptor_of volume_pages words (slice_index pages 0)) words
one_page_alike volume_pages pages words one = record {
  each = λ index inside.
      let first = descriptor_of volume_pages words (slice_index pages 0) in
      let here : index ≡ 0 = omega (arith, one, inside) in
      ap (λ (k : ℕ). descriptor_of volume_pages words (slice_index pages k)) here ∙ first_page_fields first ∙ ap (λ (k : ℕ). fields_of_page first k) (sym here);
}

-- and so are free ones
pub free_pages_alike : (volume_pages : ℕ) (pages words : List ℕ) → EachPage pages (λ page. IsFree (descriptor_of volume_pages words page)) → SayFields volume_pages pages (descriptor_of volume_pages words (slice_index pages 0)) words
free_pages_alike volume_pages pages words free = record {
  each = λ index inside. free.each index inside ∙ sym (ap (λ (first : DescriptorFields). fields_of_page first index) (free.each 0 (omega (arith, inside))));
}

-- what the pages say hangs on their own words alone
pub pages_are_local : (view : PageView) → IsLocal (IsWordOf view) (ReadAs view)
pages_are_local view = record {
  carries = λ old new same read. record {
    each = λ index inside. same_descriptor_of view.volume_pages (slice_index view.pages index) old new (λ word is. same word (record { index = index; before = inside; is = inr is })) ∙ read.each index inside;
  };
}

-- pages that were stored to stay so while others are stored
pub dirty_stays : {W : ℕ → Type 0} {a b : DeviceView} (view : PageView) → StoresOnly W a b → ((word : ℕ) → IsWordOf view word → ¬ W word) → PageIsDirty view a → PageIsDirty view b
dirty_stays view run apart dirty = record {
  stands = stands_stays (pages_are_local view) run apart dirty.stands;
  touched = dirty.touched;
  untouched = λ word own kept. clean_stays word run (apart word own) (dirty.untouched word own kept);
}

-- and over all events that store none of their words
pub dirty_events : {a b : DeviceView} (view : PageView) (events : List Event) → StoreNoneOf (IsWordOf view) events → b.words ≡ after_stores a.words events → b.trail ≡ with_events a.trail events → PageIsDirty view a → PageIsDirty view b
dirty_events view events none words trail dirty =
    let goes = goes_on_as events (pages_are_local view) none words trail in
    record {
      stands = goes.stands dirty.stands;
      touched = dirty.touched;
      untouched = λ word own kept. clean_as_events events word (none.each word own) words trail (dirty.untouched word own kept);
    }

-- two objects over lists with no page in common have no word in common
pub objects_apart : (one two : PageView) → one.volume_pages ≡ two.volume_pages → EachPage one.pages (λ page. page < data_pages_of one.volume_pages) → EachPage two.pages (λ page. page < data_pages_of one.volume_pages)
    → EachPage one.pages (λ page. EachPage two.pages (λ other. page ≢ other)) → (word : ℕ) → IsWordOf one word → ¬ IsWordOf two word
objects_apart one two same first second differ word is other =
    own_words_apart one.volume_pages (slice_index one.pages is.index) (slice_index two.pages other.index) word (first.each is.index is.before) (second.each other.index other.before)
    ((differ.each is.index is.before).each other.index other.before) is.is (subst (λ (p : ℕ). IsOwnWord p (slice_index two.pages other.index) word) (sym same) other.is)

-- no word of a page is an inode's
pub own_word_not_inode_word : (volume_pages page word inode field : ℕ) → page < data_pages_of volume_pages → 1 ≤ inode → inode ≤ inodes_of volume_pages → field < 16 → IsOwnWord volume_pages page word → word ≢ inode_word_of inode field
own_word_not_inode_word volume_pages page word inode field in_range some inodes few (inl content) same =
    inode_word_not_page_word volume_pages inode page field content.place some inodes few (sym same ∙ content.at)
own_word_not_inode_word volume_pages page word inode field in_range some inodes few (inr other) same =
    inode_word_not_descriptor_word volume_pages inode page field other.field some inodes few (sym same ∙ other.at)

-- nor a word of a slot in another page
pub own_word_not_slot_word : (volume_pages page word slot field : ℕ) → page < data_pages_of volume_pages → page_of_slot slot ≢ page → field < 16 → IsOwnWord volume_pages page word → word ≢ slot_word_of volume_pages slot field
own_word_not_slot_word volume_pages page word slot field in_range other_page few (inl content) same =
    let place : 16 * (slot % 32) + field < 512 = omega (arith, few) in
    other_page (sym ((same_page_word volume_pages page (page_of_slot slot) content.place (16 * (slot % 32) + field) content.in_page place (sym content.at ∙ same ∙ slot_word_in_page volume_pages slot field)).0))
own_word_not_slot_word volume_pages page word slot field in_range other_page few (inr other) same =
    let fields = other.is_field in
    descriptor_word_not_slot_word volume_pages page slot other.field field in_range (omega (arith, fields)) (sym other.at ∙ same)
