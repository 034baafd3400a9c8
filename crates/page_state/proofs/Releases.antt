-- Pages that lose their owner, and then their kind and offset.
use Rattle.std.proofs.Common.{◌≡◌, ◌≢◌, inl, inr, ⊎_elim, ℕ, ◌<◌, ◌≤◌, List, [], ◌∷◌, length, slice_index, slice_set, refl, sym, ◌∙◌, ap, arith}
use Rattle.std.specs.Prelude.{Option}
use Rattle.pm_trait.specs.declared.event.Event.TheVariants.{Store}
use Rattle.pm_trait.specs.Trail.{Trail}
use Rattle.pm_trait.specs.Device.{IsInterval}
use Rattle.pm_trait.specs.DeviceView.{DeviceView, Performs}
use Rattle.pm_trait.proofs.DeviceLaws.{interval_keeps, interval_length, clean_stays}
use Rattle.layout.specs.declared.fields.DescriptorFields.{DescriptorFields}
use Rattle.layout.specs.Geometry.{descriptor_word_of}
use Rattle.layout.proofs.GeometryLaws.{same_descriptor_word}
use Rattle.layout.specs.Fields.{word, descriptor_words, IsKindOrOffset, page_owner, page_kind, page_offset}
use Rattle.layout.proofs.Widths.{descriptor_field_read, descriptor_words_written, kind_or_offset}
use Rattle.fence_token.specs.Stored.{StoresExactly}
use Rattle.fence_token.proofs.StoredLaws.{exactly_store, exactly_then, exactly_as}
use Rattle.page_state.specs.declared.page.Touched.{Touched}
use Rattle.page_state.specs.declared.page.Touched.TheVariants.{Descriptors}
use Rattle.page_state.specs.States.{free_fields, IsFree, IsReleased}
use Rattle.page_state.specs.Page.{EachPage, OfSome, IsOwnWord, IsReleasedWord, IsWithoutKind, descriptor_of, fields_of_page, HaveMeaning, PageIsDirty, PageIsClean}
use Rattle.page_state.specs.Events.{release_of_page, ReleasesPages}
use Rattle.page_state.proofs.PageLaws.{same_descriptor_fields}
use Rattle.page_state.proofs.Contents.{kept, put, same_length}

-- ---- what the fields mean

pub free_mean : (pages : List ℕ) → HaveMeaning IsFree pages free_fields
free_mean pages = record { each = λ index inside. refl }

-- ---- one page

-- two fields of descriptors have two words
fields_differ : (volume_pages page other one two : ℕ) → one < 8 → two < 8 → one ≢ two → descriptor_word_of volume_pages page one ≢ descriptor_word_of volume_pages other two
fields_differ volume_pages page other one two few small differ same = differ (same_descriptor_word volume_pages page other one two few small same).1

pub released_is_own : (volume_pages page word : ℕ) → IsReleasedWord volume_pages page word → IsOwnWord volume_pages page word
released_is_own volume_pages page word (inl at) = inr (record { field = 1; is_field = omega arith; at = at })
released_is_own volume_pages page word (inr at) = inr (record { field = 2; is_field = omega arith; at = at })

-- ---- by the fields that are read in a volume of these words

module _ (I : List ℕ) (volume_pages page : ℕ) where
  -- a field behind the owner is the kind or the offset
  rest_field : (field : ℕ) → 1 ≤ field → field < descriptor_words I → IsKindOrOffset field
  rest_field field some few = kind_or_offset field some (omega (arith, few, descriptor_words_written I))

  pub released_field : (field : ℕ) → 1 ≤ field → field < descriptor_words I → IsReleasedWord volume_pages page (descriptor_word_of volume_pages page field)
  released_field field some few = elim (rest_field field some few) [
    | inl kind ↦ inl (ap (descriptor_word_of volume_pages page) kind)
    | inr offset ↦ inr (ap (descriptor_word_of volume_pages page) offset)
  ]

  pub zero_field : (words : List ℕ) (field : ℕ) → IsWithoutKind volume_pages words page → 1 ≤ field → field < descriptor_words I → word words (descriptor_word_of volume_pages page field) ≡ 0
  unfolding page_kind page_offset
  zero_field words field without some few = elim (rest_field field some few) [
    | inl kind ↦ ap (λ (f : ℕ). word words (descriptor_word_of volume_pages page f)) kind ∙ without.kind
    | inr offset ↦ ap (λ (f : ℕ). word words (descriptor_word_of volume_pages page f)) offset ∙ without.offset
  ]

  -- and they are all that is released
  pub not_released : (a : ℕ) → ((field : ℕ) → 1 ≤ field → field < descriptor_words I → a ≢ descriptor_word_of volume_pages page field) → ¬ IsReleasedWord volume_pages page a
  not_released a out (inl kind) = out 1 (omega arith) (descriptor_field_read I 1 (omega arith)) kind
  not_released a out (inr offset) = out 2 (omega arith) (descriptor_field_read I 2 (omega arith)) offset

-- ---- the stores of a release

-- the stores of its kind and its offset
pub release_told : {a b c : DeviceView} (volume_pages page w1 w2 : ℕ) → w1 ≡ descriptor_word_of volume_pages page 1 → w2 ≡ descriptor_word_of volume_pages page 2
    → Performs a b (Store w1 0 ∷ []) → Performs b c (Store w2 0 ∷ []) → StoresExactly (IsReleasedWord volume_pages page) a c (release_of_page volume_pages page) 2
release_told volume_pages page w1 w2 at1 at2 kind offset =
    exactly_as (release_of_page volume_pages page) 2
    (λ word either. elim either [ inl is1 ↦ inl (is1 ∙ at1) | inr is2 ↦ inr (is2 ∙ at2) ])
    (ap (λ (word : ℕ). Store word 0 ∷ Store w2 0 ∷ []) at1 ∙ ap (λ (word : ℕ). Store (descriptor_word_of volume_pages page 1) 0 ∷ Store word 0 ∷ []) at2)
    (omega arith)
    (exactly_then (exactly_store kind) (exactly_store offset)
    (λ word is1 is2. fields_differ volume_pages page page 1 2 (omega arith) (omega arith) (λ same. omega (arith, same)) (sym (is1 ∙ at1) ∙ is2 ∙ at2)))

pub release_reads : (b c d : List ℕ) (volume_pages page w1 w2 : ℕ) → w1 ≡ descriptor_word_of volume_pages page 1 → w2 ≡ descriptor_word_of volume_pages page 2
    → w1 < length b → w2 < length b → c ≡ slice_set b w1 0 → d ≡ slice_set c w2 0 → IsWithoutKind volume_pages d page
unfolding page_kind page_offset word
release_reads b c d volume_pages page w1 w2 at1 at2 in1 in2 isc isd =
    let long = same_length b c w1 0 isc in
    record {
      kind = kept c d w2 0 (descriptor_word_of volume_pages page 1) isd (λ same. fields_differ volume_pages page page 1 2 (omega arith) (omega arith) (λ one. omega (arith, one)) (same ∙ at2))
          ∙ put b c w1 0 (descriptor_word_of volume_pages page 1) isc at1 in1;
      offset = put c d w2 0 (descriptor_word_of volume_pages page 2) isd at2 (omega (arith, in2, long));
    }

-- the page's words as before: it has no kind as before
pub without_kind_stays : (volume_pages page : ℕ) (old new : List ℕ) → ((word : ℕ) → IsOwnWord volume_pages page word → slice_index new word ≡ slice_index old word) → IsWithoutKind volume_pages old page → IsWithoutKind volume_pages new page
unfolding page_kind page_offset word
without_kind_stays volume_pages page old new same before = record {
  kind = same (descriptor_word_of volume_pages page 1) (inr (record { field = 1; is_field = omega arith; at = refl })) ∙ before.kind;
  offset = same (descriptor_word_of volume_pages page 2) (inr (record { field = 2; is_field = omega arith; at = refl })) ∙ before.offset;
}

-- ---- all of them

-- a release leaves the owners
release_keeps_owners : {a b : List ℕ} {ta tb : Option Trail} (volume_pages : ℕ) (pages : List ℕ) → IsInterval (OfSome pages (IsReleasedWord volume_pages)) a ta b tb → (page : ℕ) → page_owner volume_pages b page ≡ page_owner volume_pages a page
unfolding page_owner word
release_keeps_owners volume_pages pages run page =
    interval_keeps (descriptor_word_of volume_pages page 0) run
    (λ stored.
    let other = slice_index pages stored.index in
    ⊎_elim
    (fields_differ volume_pages page other 0 1 (omega arith) (omega arith) (λ same. omega (arith, same)))
    (fields_differ volume_pages page other 0 2 (omega arith) (omega arith) (λ same. omega (arith, same))) stored.is)

pub released_dirty : {a b : DeviceView} (volume_pages : ℕ) (pages : List ℕ) (fields : DescriptorFields) (touched : Touched) (ticket later : Option ℕ) → HaveMeaning IsReleased pages fields
    → PageIsClean (record { volume_pages = volume_pages; pages = pages; fields = fields; touched = touched; ticket = ticket }) a → ReleasesPages volume_pages pages a b → EachPage pages (IsWithoutKind volume_pages b.words)
    → PageIsDirty (record { volume_pages = volume_pages; pages = pages; fields = free_fields; touched = Descriptors; ticket = later }) b
released_dirty {b = b} volume_pages pages fields touched ticket later released clean run without = record {
  stands = record {
    inside = λ word own. let before = clean.stands.inside word own in omega (arith, before, interval_length run.interval);
    reads = record {
      each = λ index inside.
          let page = slice_index pages index in
          same_descriptor_fields (descriptor_of volume_pages b.words page) (fields_of_page free_fields index)
          (release_keeps_owners volume_pages pages run.interval page ∙ ap (λ (said : DescriptorFields). said.owner) (clean.stands.reads.each index inside) ∙ (released.each index inside).0)
          (without.each index inside).kind (without.each index inside).offset;
    };
  };
  touched = tt;
  untouched = λ word own kept. clean_stays word run.interval (λ stored. kept (record {
    index = stored.index;
    before = stored.before;
    is = elim stored.is [
      | inl kind ↦ record { field = 1; is_field = omega arith; at = kind }
      | inr offset ↦ record { field = 2; is_field = omega arith; at = offset }
    ];
  })) (clean.clean word own);
}
