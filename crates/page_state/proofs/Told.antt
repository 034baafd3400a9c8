-- What is told of pages, one after another.
use Rattle.std.proofs.Common.{◌≡◌, ◌≢◌, inl, inr, ⊎_elim, ℕ, ◌+◌, ◌-◌, ◌/◌, ◌<◌, ◌≤◌, List, [], ◌∷◌, ◌++◌, length, take, get_or, slice_index, refl, sym, ◌∙◌, ap, arith, take_all, add-zero, append_assoc}
use Rattle.std.specs.Prelude.{map}
use Rattle.std.specs.List.{flat_map, range_with_len}
use Rattle.std.proofs.lemmas.List.{append-nil, take_more}
use Rattle.std.proofs.lemmas.List.Concat.{flat_map-append}
use Rattle.std.proofs.lemmas.List.FromFn.{map-range_with_len_more}
use Rattle.pm_trait.specs.declared.event.Event.{Event}
use Rattle.pm_trait.specs.declared.event.Event.TheVariants.{Store, Flush}
use Rattle.pm_trait.specs.DeviceView.{DeviceView, Performs}
use Rattle.pm_trait.proofs.DeviceLaws.{flushed_stays}
use Rattle.layout.specs.Geometry.{data_pages_of, descriptor_word_of, page_word_of}
use Rattle.layout.specs.Fields.{descriptor_fields}
use Rattle.layout.proofs.GeometryLaws.{same_descriptor_word, descriptor_word_not_page_word}
use Rattle.fence_token.specs.Ticket.{flushes_of}
use Rattle.fence_token.specs.Flushes.{Flushes, FlushesLines}
use Rattle.fence_token.specs.Stored.{StoresExactly}
use Rattle.fence_token.proofs.StoredLaws.{exactly_nothing, exactly_store, exactly_then, exactly_as, flushes_nothing, flushes_then, flushes_as}
use Rattle.page_state.specs.Page.{AreDataPages, OfFirst, OfSome, IsContentWord, IsDescriptorWord, IsOwnWord, IsFilledWord, IsOwnerWord}
use Rattle.page_state.specs.Events.{slot_stores, fill_of_page, claim_of_page, content_flushes, FlushesWords}
use Rattle.page_state.proofs.Contents.{IsEarlierWord, not_earlier}
use Rattle.page_state.proofs.Lines.{descriptor_line, content_lines}
use Rattle.page_state.proofs.Pages.{earlier_apart}

-- ---- one page's words

-- a store to each of so many of a page's words
abbrev pub some_stores : ℕ → List ℕ → ℕ → ℕ → List Event
some_stores volume_pages first page count = map (λ place. Store (page_word_of volume_pages page place) (slice_index first place)) (range_with_len 0 count)

pub no_word_stored : (volume_pages : ℕ) (first : List ℕ) (page : ℕ) (device : DeviceView) → StoresExactly (IsEarlierWord volume_pages page 0) device device (some_stores volume_pages first page 0) 0
no_word_stored volume_pages first page device = exactly_as (some_stores volume_pages first page 0) 0 (λ word none. absurd none) refl (omega arith) (exactly_nothing device)

pub one_more_stored : {a b c : DeviceView} (volume_pages : ℕ) (first : List ℕ) (page place w value : ℕ) → place < 512 → w ≡ page_word_of volume_pages page place → value ≡ slice_index first place
    → StoresExactly (IsEarlierWord volume_pages page place) a b (some_stores volume_pages first page place) place → Performs b c (Store w value ∷ [])
    → StoresExactly (IsEarlierWord volume_pages page (place + 1)) a c (some_stores volume_pages first page (place + 1)) (place + 1)
one_more_stored volume_pages first page place w value inside at said so_far last =
    exactly_as (some_stores volume_pages first page (place + 1)) (place + 1)
    (λ word either. elim either [
      | inl earlier ↦ let before = earlier.before in record { place = earlier.place; before = omega (arith, before); at = earlier.at }
      | inr here ↦ record { place = place; before = omega arith; at = here ∙ at }
    ])
    (ap (λ (word : ℕ). some_stores volume_pages first page place ++ Store word value ∷ []) at
    ∙ ap (λ (v : ℕ). some_stores volume_pages first page place ++ Store (page_word_of volume_pages page place) v ∷ []) said
    ∙ sym (map-range_with_len_more (λ p. Store (page_word_of volume_pages page p) (slice_index first p)) 0 place place (omega arith)))
    (omega arith)
    (exactly_then so_far (exactly_store last) (λ word earlier here. not_earlier volume_pages page place word inside (here ∙ at) earlier))

pub all_stored : {a b : DeviceView} (volume_pages : ℕ) (first : List ℕ) (page count : ℕ) → count ≡ 512 → StoresExactly (IsEarlierWord volume_pages page count) a b (some_stores volume_pages first page count) count
    → StoresExactly (IsContentWord volume_pages page) a b (slot_stores volume_pages first page) 512
unfolding slot_stores
all_stored volume_pages first page count is so_far =
    exactly_as (some_stores volume_pages first page 512) 512
    (λ word earlier. let before = earlier.before in record { place = earlier.place; in_page = omega (arith, before, is); at = earlier.at })
    (ap (λ (n : ℕ). some_stores volume_pages first page n) is) (omega (arith, is)) so_far

-- then its kind and its offset
pub described_told : {a b c d : DeviceView} {events : List Event} (volume_pages page w1 w2 kind offset : ℕ) → page < data_pages_of volume_pages → w1 ≡ descriptor_word_of volume_pages page 1 → w2 ≡ descriptor_word_of volume_pages page 2
    → StoresExactly (IsContentWord volume_pages page) a b events 512 → Performs b c (Store w1 kind ∷ []) → Performs c d (Store w2 offset ∷ [])
    → StoresExactly (IsFilledWord volume_pages page) a d (events ++ Store (descriptor_word_of volume_pages page 1) kind ∷ Store (descriptor_word_of volume_pages page 2) offset ∷ []) 514
described_told {events = events} volume_pages page w1 w2 kind offset in_range at1 at2 contents kind_stored offset_stored =
    let apart : (field w : ℕ) → field < 8 → w ≡ descriptor_word_of volume_pages page field → ¬ IsContentWord volume_pages page w = λ field w few at content. descriptor_word_not_page_word volume_pages page page field content.place in_range few (sym at ∙ content.at) in
    let differ : w1 ≢ w2 = λ same. let fields = (same_descriptor_word volume_pages page page 1 2 (omega arith) (omega arith) (sym at1 ∙ same ∙ at2)).1 in omega (arith, fields) in
    exactly_as (events ++ Store (descriptor_word_of volume_pages page 1) kind ∷ Store (descriptor_word_of volume_pages page 2) offset ∷ []) 514
    (λ word either. elim either [
      | inr is2 ↦ inr (inr (is2 ∙ at2))
      | inl before ↦ elim before [
        | inr is1 ↦ inr (inl (is1 ∙ at1))
        | inl content ↦ inl content
      ]
    ])
    (append_assoc events (Store w1 kind ∷ []) (Store w2 offset ∷ [])
    ∙ ap (λ (word : ℕ). events ++ Store word kind ∷ Store w2 offset ∷ []) at1
    ∙ ap (λ (word : ℕ). events ++ Store (descriptor_word_of volume_pages page 1) kind ∷ Store word offset ∷ []) at2)
    (omega arith)
    (exactly_then (exactly_then contents (exactly_store kind_stored) (λ word content is1. apart 1 word (omega arith) (is1 ∙ at1) content)) (exactly_store offset_stored)
    (λ word either is2. ⊎_elim (λ content. apart 2 word (omega arith) (is2 ∙ at2) content) (λ is1. differ (sym is1 ∙ is2)) either))

pub fill_told : {a b c d : DeviceView} (volume_pages : ℕ) (first : List ℕ) (page w1 w2 : ℕ) → page < data_pages_of volume_pages → w1 ≡ descriptor_word_of volume_pages page 1 → w2 ≡ descriptor_word_of volume_pages page 2
    → StoresExactly (IsContentWord volume_pages page) a b (slot_stores volume_pages first page) 512 → Performs b c (Store w1 2 ∷ []) → Performs c d (Store w2 0 ∷ []) → StoresExactly (IsFilledWord volume_pages page) a d (fill_of_page volume_pages first page) 514
fill_told volume_pages first page w1 w2 in_range at1 at2 contents kind offset = described_told volume_pages page w1 w2 2 0 in_range at1 at2 contents kind offset

-- the store of an owner
pub claim_told : {a b : DeviceView} (volume_pages page owner w : ℕ) → w ≡ descriptor_word_of volume_pages page 0 → Performs a b (Store w owner ∷ []) → StoresExactly (IsOwnerWord volume_pages page) a b (claim_of_page volume_pages owner page) 1
claim_told volume_pages page owner w at stored =
    exactly_as (claim_of_page volume_pages owner page) 1 (λ word here. here ∙ at) (ap (λ (word : ℕ). Store word owner ∷ []) at) (omega arith) (exactly_store stored)

-- ---- one page's lines

pub descriptor_flushed : {a b : DeviceView} (volume_pages page first last : ℕ) → first ≡ descriptor_word_of volume_pages page 0 → last ≡ descriptor_word_of volume_pages page (descriptor_fields - 1)
    → FlushesLines a b (first / 8) (last / 8 - first / 8 + 1) → Flushes a b (Flush (descriptor_word_of volume_pages page 0 / 8) ∷ []) 1
descriptor_flushed volume_pages page first last at_first at_last lines =
    let one = descriptor_line volume_pages page first last at_first at_last in
    flushes_as (Flush (descriptor_word_of volume_pages page 0 / 8) ∷ []) 1
    (ap (λ (n : ℕ). flushes_of (first / 8) n) one
    ∙ ap (λ (line : ℕ). Flush line ∷ []) (add-zero (first / 8))
    ∙ ap (λ (word : ℕ). Flush (word / 8) ∷ []) at_first)
    (omega (arith, one)) lines.flushes

pub contents_flushed : {a b : DeviceView} (volume_pages page first last : ℕ) → first ≡ page_word_of volume_pages page 0 → last ≡ page_word_of volume_pages page 511
    → FlushesLines a b (first / 8) (last / 8 - first / 8 + 1) → Flushes a b (content_flushes volume_pages page) 64
unfolding content_flushes
contents_flushed volume_pages page first last at_first at_last lines =
    let many = content_lines volume_pages page first last at_first at_last in
    flushes_as (flushes_of (page_word_of volume_pages page 0 / 8) 64) 64
    (ap (λ (n : ℕ). flushes_of (first / 8) n) many ∙ ap (λ (word : ℕ). flushes_of (word / 8) 64) at_first)
    (omega (arith, many)) lines.flushes

pub whole_flushed : {a b c : DeviceView} {t u : ℕ} (volume_pages page : ℕ) → FlushesWords (IsContentWord volume_pages page) a b (content_flushes volume_pages page) 64 t
    → FlushesWords (IsDescriptorWord volume_pages page) b c (Flush (descriptor_word_of volume_pages page 0 / 8) ∷ []) 1 u
    → FlushesWords (IsOwnWord volume_pages page) a c (content_flushes volume_pages page ++ Flush (descriptor_word_of volume_pages page 0 / 8) ∷ []) 65 u
whole_flushed volume_pages page contents last = record {
  flushes = flushes_then contents.flushes last.flushes;
  flushed = λ word own. elim own [
    | inl content ↦ flushed_stays word last.stores_none (λ none. none) (contents.flushed word content)
    | inr field ↦ last.flushed word field
  ];
  ticket_is = last.ticket_is;
}

-- ---- page by page

one_more_page : (told : ℕ → List Event) (pages : List ℕ) (index : ℕ) → index < length pages → flat_map told (take (index + 1) pages) ≡ flat_map told (take index pages) ++ told (slice_index pages index)
one_more_page told pages index inside =
    ap (λ (l : List ℕ). flat_map told l) (take_more pages index 0 inside)
    ∙ flat_map-append told (take index pages) (get_or pages index 0 ∷ [])
    ∙ ap (λ (events : List Event). flat_map told (take index pages) ++ events) (append-nil (told (get_or pages index 0)))

-- no page yet
pub no_pages : (Q : ℕ → ℕ → Type 0) (told : ℕ → List Event) (pages : List ℕ) (device : DeviceView) → StoresExactly (OfFirst pages 0 Q) device device (flat_map told (take 0 pages)) 0
no_pages Q told pages device = exactly_as (flat_map told (take 0 pages)) 0 (λ word none. absurd none) refl (omega arith) (exactly_nothing device)

-- one more page is stored
pub pages_more : {a b c : DeviceView} {m n : ℕ} (Q : ℕ → ℕ → Type 0) (told : ℕ → List Event) (volume_pages count events : ℕ) (pages : List ℕ) → ((page word : ℕ) → Q page word → IsOwnWord volume_pages page word) → AreDataPages (data_pages_of volume_pages) pages → count < length pages → m + n ≤ events
    → StoresExactly (OfFirst pages count Q) a b (flat_map told (take count pages)) m → StoresExactly (Q (slice_index pages count)) b c (told (slice_index pages count)) n → StoresExactly (OfFirst pages (count + 1) Q) a c (flat_map told (take (count + 1) pages)) events
pages_more Q told volume_pages count events pages own valid inside most so_far step =
    exactly_as (flat_map told (take (count + 1) pages)) events
    (λ word either. elim either [
      | inl first ↦ let before = first.before in record { index = first.index; before = omega (arith, before); is = first.is }
      | inr here ↦ record { index = count; before = omega arith; is = here }
    ])
    (sym (one_more_page told pages count inside)) most
    (exactly_then so_far step (λ word first here. earlier_apart volume_pages pages first.index count word valid first.before inside (own (slice_index pages first.index) word first.is) (own (slice_index pages count) word here)))

-- all of them
pub pages_done : {a b : DeviceView} {m : ℕ} (Q : ℕ → ℕ → Type 0) (told : ℕ → List Event) (pages : List ℕ) (count events : ℕ) → length pages ≡ count → m ≤ events
    → StoresExactly (OfFirst pages count Q) a b (flat_map told (take count pages)) m → StoresExactly (OfSome pages Q) a b (flat_map told pages) events
pages_done Q told pages count events whole most so_far =
    exactly_as (flat_map told pages) events
    (λ word first. let before = first.before in record { index = first.index; before = omega (arith, before, whole); is = first.is })
    (ap (λ (l : List ℕ). flat_map told l) (take_all count pages (omega (arith, whole)))) most so_far

pub no_flushes : (told : ℕ → List Event) (events : ℕ) (pages : List ℕ) (device : DeviceView) → Flushes device device (flat_map told (take 0 pages)) events
no_flushes told events pages device = flushes_as (flat_map told (take 0 pages)) events refl (omega arith) (flushes_nothing device)

-- one more page is flushed
pub flushes_more : {a b c : DeviceView} {m n : ℕ} (told : ℕ → List Event) (count events : ℕ) (pages : List ℕ) → count < length pages → m + n ≤ events
    → Flushes a b (flat_map told (take count pages)) m → Flushes b c (told (slice_index pages count)) n → Flushes a c (flat_map told (take (count + 1) pages)) events
flushes_more told count events pages inside most so_far step = flushes_as (flat_map told (take (count + 1) pages)) events (sym (one_more_page told pages count inside)) most (flushes_then so_far step)

pub flushes_done : {a b : DeviceView} {m : ℕ} (told : ℕ → List Event) (pages : List ℕ) (count events : ℕ) → length pages ≡ count → m ≤ events → Flushes a b (flat_map told (take count pages)) m → Flushes a b (flat_map told pages) events
flushes_done told pages count events whole most so_far = flushes_as (flat_map told pages) events (ap (λ (l : List ℕ). flat_map told l) (take_all count pages (omega (arith, whole)))) most so_far
