-- Stores of new bytes, word by word and page by page.
use Rattle.std.proofs.Common.{◌≡◌, ◌≢◌, inl, inr, ℕ, ◌+◌, ◌*◌, ◌<◌, ◌≤◌, true, cond, List, [], ◌∷◌, length, slice_index, slice_set, refl, sym, ◌∙◌, ap, subst, arith}
use Rattle.std.specs.Prelude.{Option}
use Rattle.std.specs.List.{flat_map, range_with_len}
use Rattle.std.proofs.lemmas.Bool.{cases_eq, cond-true}
use Rattle.pm_trait.specs.declared.event.Event.{Event}
use Rattle.pm_trait.specs.declared.event.Event.TheVariants.{Store}
use Rattle.pm_trait.specs.Trail.{Trail}
use Rattle.pm_trait.specs.Device.{IsInterval}
use Rattle.pm_trait.specs.DeviceView.{DeviceView}
use Rattle.pm_trait.proofs.DeviceLaws.{interval_keeps, interval_length}
use Rattle.layout.specs.Geometry.{data_pages_of, page_word_of, descriptor_word_of}
use Rattle.layout.specs.Fields.{word, page_kind, page_offset}
use Rattle.layout.proofs.GeometryLaws.{same_page_word, descriptor_word_not_page_word, same_descriptor_word}
use Rattle.fence_token.specs.Stored.{StoresExactly}
use Rattle.fence_token.proofs.StoredLaws.{exactly_as}
use Rattle.page_state.specs.declared.span.FileSpan.{FileSpan}
use Rattle.page_state.specs.Spans.{has_new, new_pieces, word_after, word_now}
use Rattle.page_state.specs.Page.{AreDataPages, OfSomeBelow, IsContentWord, IsOwnWord, IsNewPlace, IsNewWord, IsBytesPage}
use Rattle.page_state.specs.Events.{store_of_word, new_stores, page_stores, HasWords}
use Rattle.page_state.proofs.Contents.{kept, put, same_length, content_word_is}
use Rattle.page_state.proofs.NewBytes.{word_after_any}
use Rattle.page_state.proofs.Pages.{earlier_apart}
use Rattle.page_state.proofs.Pieces.{one_if, pieces_more, pieces_most}
use Rattle.page_state.proofs.SpanLaws.{has_new-zeros}
use Rattle.page_state.proofs.Steps.{no_stores, stores_more, stores_done, flat_map-range_same, flat_map-range_ones}

-- ---- one page

-- the word of a place is none of the earlier ones
pub not_before : (span : FileSpan) (volume_pages offset page place w : ℕ) → place < 512 → w ≡ page_word_of volume_pages page place → ¬ OfSomeBelow place (IsNewPlace span volume_pages offset page) w
not_before span volume_pages offset page place w inside at earlier =
    let below = earlier.below in
    let same = (same_page_word volume_pages page page place earlier.index inside (omega (arith, below, inside)) (sym at ∙ earlier.is.at)).1 in
    omega (arith, below, same)

-- a word's store, told by the words before all of them
word_told : {a b c : DeviceView} {m n : ℕ} {events : List Event} (span : FileSpan) (bytes : List ℕ) (volume_pages offset page place w : ℕ) → place < 512 → w ≡ page_word_of volume_pages page place
    → StoresExactly (OfSomeBelow place (IsNewPlace span volume_pages offset page)) a b events m
    → StoresExactly (λ other. (other ≡ w) × (has_new span (4096 * offset + 8 * place) 8 ≡ true)) b c (cond (has_new span (4096 * offset + 8 * place) 8) (Store w (word_after span bytes (4096 * offset + 8 * place) (slice_index b.words w)) ∷ []) []) n
    → StoresExactly (IsNewPlace span volume_pages offset page place) b c (store_of_word span bytes a.words volume_pages offset page place) n
word_told {a} {b} {n = n} span bytes volume_pages offset page place w inside at so_far stored =
    let byte = 4096 * offset + 8 * place in
    let same : slice_index b.words w ≡ slice_index a.words (page_word_of volume_pages page place) = interval_keeps w so_far.interval (not_before span volume_pages offset page place w inside at) ∙ ap (λ (k : ℕ). slice_index a.words k) at in
    exactly_as (store_of_word span bytes a.words volume_pages offset page place) n
    (λ other is. record { at = is.0 ∙ at; has = is.1 })
    (ap (λ (k : ℕ). cond {A = List Event} (has_new span byte 8) (Store w (word_after span bytes byte k) ∷ []) []) same
    ∙ ap (λ (k : ℕ). cond {A = List Event} (has_new span byte 8) (Store k (word_after span bytes byte (slice_index a.words (page_word_of volume_pages page place))) ∷ []) []) at)
    (omega arith) stored

pub one_more_word : {a b c : DeviceView} (span : FileSpan) (bytes : List ℕ) (volume_pages offset page place w : ℕ) → place < 512 → w ≡ page_word_of volume_pages page place
    → StoresExactly (OfSomeBelow place (IsNewPlace span volume_pages offset page)) a b (flat_map (store_of_word span bytes a.words volume_pages offset page) (range_with_len 0 place)) (new_pieces span (4096 * offset) 8 place)
    → StoresExactly (λ other. (other ≡ w) × (has_new span (4096 * offset + 8 * place) 8 ≡ true)) b c (cond (has_new span (4096 * offset + 8 * place) 8) (Store w (word_after span bytes (4096 * offset + 8 * place) (slice_index b.words w)) ∷ []) []) (one_if (has_new span (4096 * offset + 8 * place) 8))
    → StoresExactly (OfSomeBelow (place + 1) (IsNewPlace span volume_pages offset page)) a c (flat_map (store_of_word span bytes a.words volume_pages offset page) (range_with_len 0 (place + 1))) (new_pieces span (4096 * offset) 8 (place + 1))
one_more_word {a} span bytes volume_pages offset page place w inside at so_far stored =
    stores_more (IsNewPlace span volume_pages offset page) (store_of_word span bytes a.words volume_pages offset page) place (new_pieces span (4096 * offset) 8 (place + 1))
    (let more = pieces_more span (4096 * offset) 8 place in omega (arith, more))
    (λ index word below first here. not_before span volume_pages offset page place word inside here.at (record { index = index; below = below; is = first }))
    so_far (word_told span bytes volume_pages offset page place w inside at so_far stored)

-- there is room for one more
pub word_room : (span : FileSpan) (offset place spare now : ℕ) → place < 512 → new_pieces span (4096 * offset) 8 512 ≤ spare → spare ≤ now + new_pieces span (4096 * offset) 8 place → has_new span (4096 * offset + 8 * place) 8 ≡ true → 1 ≤ now
word_room span offset place spare now inside room taken has =
    let more = pieces_more span (4096 * offset) 8 place in
    let one : one_if (has_new span (4096 * offset + 8 * place) 8) ≡ 1 = ap one_if has in
    let most = pieces_most span (4096 * offset) 8 (place + 1) 512 (omega (arith, inside)) in
    omega (arith, room, taken, more, one, most)

-- and its words are as they become
pub words_more : {a b c : List ℕ} {ta tb tc : Option Trail} {W : ℕ → Type 0} (span : FileSpan) (bytes : List ℕ) (volume_pages offset page place w : ℕ) → place < 512 → w ≡ page_word_of volume_pages page place
    → IsInterval (OfSomeBelow place (IsNewPlace span volume_pages offset page)) a ta b tb → IsInterval W b tb c tc → ((other : ℕ) → W other → other ≡ w)
    → slice_index c w ≡ word_now span bytes (4096 * offset + 8 * place) (slice_index b w)
    → ((earlier : ℕ) → earlier < place → slice_index b (page_word_of volume_pages page earlier) ≡ word_now span bytes (4096 * offset + 8 * earlier) (slice_index a (page_word_of volume_pages page earlier)))
    → (earlier : ℕ) → earlier < place + 1 → slice_index c (page_word_of volume_pages page earlier) ≡ word_now span bytes (4096 * offset + 8 * earlier) (slice_index a (page_word_of volume_pages page earlier))
words_more {a} {b} {c} span bytes volume_pages offset page place w inside at before step only here so_far earlier below = elim (cases_eq earlier place) [
  | inl same ↦
      let Becomes : ℕ → Type 0 = λ k. slice_index c (page_word_of volume_pages page k) ≡ word_now span bytes (4096 * offset + 8 * k) (slice_index a (page_word_of volume_pages page k)) in
      let was : slice_index b w ≡ slice_index a (page_word_of volume_pages page place) = interval_keeps w before (not_before span volume_pages offset page place w inside at) ∙ ap (λ (k : ℕ). slice_index a k) at in
      subst Becomes (sym same) (ap (λ (k : ℕ). slice_index c k) (sym at) ∙ here ∙ ap (λ (k : ℕ). word_now span bytes (4096 * offset + 8 * place) k) was)
  | inr other ↦
      interval_keeps (page_word_of volume_pages page earlier) step
      (λ stored. other ((same_page_word volume_pages page page earlier place (omega (arith, below, inside)) inside (only (page_word_of volume_pages page earlier) stored ∙ at)).1))
      ∙ so_far earlier (omega (arith, other, below))
]

-- the words of the first places are stored, and as they become
pub record AreStored (span : FileSpan) (bytes : List ℕ) (volume_pages offset page place : ℕ) (a b : DeviceView) : Type 0 where
  pub device : StoresExactly (OfSomeBelow place (IsNewPlace span volume_pages offset page)) a b (flat_map (store_of_word span bytes a.words volume_pages offset page) (range_with_len 0 place)) (new_pieces span (4096 * offset) 8 place)
  pub words : (earlier : ℕ) → earlier < place → slice_index b.words (page_word_of volume_pages page earlier) ≡ word_now span bytes (4096 * offset + 8 * earlier) (slice_index a.words (page_word_of volume_pages page earlier))

pub none_stored : (span : FileSpan) (bytes : List ℕ) (volume_pages offset page : ℕ) (device : DeviceView) → AreStored span bytes volume_pages offset page 0 device device
none_stored span bytes volume_pages offset page device = record {
  device = no_stores (IsNewPlace span volume_pages offset page) (store_of_word span bytes device.words volume_pages offset page) (new_pieces span (4096 * offset) 8 0) device;
  words = λ earlier below. absurd (omega (arith, below));
}

module _ {a b : DeviceView} (span : FileSpan) (bytes : List ℕ) (volume_pages offset page place : ℕ) (so_far : AreStored span bytes volume_pages offset page place a b) where
  pub all_stored : place ≡ 512 → StoresExactly (IsNewWord span volume_pages offset page) a b (new_stores span bytes a.words volume_pages offset page) (new_pieces span (4096 * offset) 8 512)
  unfolding new_stores
  all_stored all =
      stores_done (IsNewPlace span volume_pages offset page) (store_of_word span bytes a.words volume_pages offset page) place 512 (new_pieces span (4096 * offset) 8 512) all
      (pieces_most span (4096 * offset) 8 place 512 (omega (arith, all))) so_far.device

  module _ (w : ℕ) (inside : place < 512) (at : w ≡ page_word_of volume_pages page place) where
    pub stored_in_range : ((word : ℕ) → IsContentWord volume_pages page word → word < length a.words) → w < length b.words
    stored_in_range within =
        let before = within w (content_word_is volume_pages page place w inside at) in
        let long = interval_length so_far.device.interval in
        omega (arith, before, long)

    pub stored_room : new_pieces span (4096 * offset) 8 512 ≤ a.spare → has_new span (4096 * offset + 8 * place) 8 ≡ true → 1 ≤ b.spare
    stored_room room has = word_room span offset place a.spare b.spare inside room so_far.device.room has

    pub one_stored : {c : DeviceView} → slice_index c.words w ≡ word_now span bytes (4096 * offset + 8 * place) (slice_index b.words w)
        → StoresExactly (λ other. (other ≡ w) × (has_new span (4096 * offset + 8 * place) 8 ≡ true)) b c (cond (has_new span (4096 * offset + 8 * place) 8) (Store w (word_after span bytes (4096 * offset + 8 * place) (slice_index b.words w)) ∷ []) []) (one_if (has_new span (4096 * offset + 8 * place) 8))
        → AreStored span bytes volume_pages offset page (place + 1) a c
    one_stored word step = record {
      device = one_more_word span bytes volume_pages offset page place w inside at so_far.device step;
      words = words_more span bytes volume_pages offset page place w inside at so_far.device.interval step.interval (λ other is. is.0) word so_far.words;
    }

-- ---- page by page

pub new_is_content : (span : FileSpan) (volume_pages offset page word : ℕ) → IsNewWord span volume_pages offset page word → IsContentWord volume_pages page word
new_is_content span volume_pages offset page word new = record { place = new.index; in_page = new.below; at = new.is.at }

pub new_is_own : (span : FileSpan) (volume_pages offset page word : ℕ) → IsNewWord span volume_pages offset page word → IsOwnWord volume_pages page word
new_is_own span volume_pages offset page word new = inl (new_is_content span volume_pages offset page word new)

-- with the same words before, the stores are the same
pub new_stores_same : (span : FileSpan) (bytes : List ℕ) (volume_pages offset page : ℕ) (a b : List ℕ) → ((place : ℕ) → place < 512 → slice_index b (page_word_of volume_pages page place) ≡ slice_index a (page_word_of volume_pages page place))
    → new_stores span bytes b volume_pages offset page ≡ new_stores span bytes a volume_pages offset page
unfolding new_stores
new_stores_same span bytes volume_pages offset page a b same =
    flat_map-range_same (store_of_word span bytes b volume_pages offset page) (store_of_word span bytes a volume_pages offset page) 512
    (λ place inside. ap (λ (k : ℕ). cond {A = List Event} (has_new span (4096 * offset + 8 * place) 8) (Store (page_word_of volume_pages page place) (word_after span bytes (4096 * offset + 8 * place) k) ∷ []) []) (same place inside))

-- where all bytes are new, they are all the page's words, whatever they were
whole_stores : (span : FileSpan) (bytes : List ℕ) (volume_pages offset page : ℕ) (a : List ℕ) → span.zero_from ≡ 0 → new_stores span bytes a volume_pages offset page ≡ page_stores span bytes volume_pages offset page
unfolding new_stores page_stores
whole_stores span bytes volume_pages offset page a whole =
    flat_map-range_ones (store_of_word span bytes a volume_pages offset page) (λ place. Store (page_word_of volume_pages page place) (word_after span bytes (4096 * offset + 8 * place) 0)) 512
    (λ place inside.
    let byte = 4096 * offset + 8 * place in
    let old = slice_index a (page_word_of volume_pages page place) in
    cond-true {A = List Event} (has_new span byte 8) (Store (page_word_of volume_pages page place) (word_after span bytes byte old) ∷ []) [] (has_new-zeros span byte 8 (omega arith) (omega (arith, whole)))
    ∙ ap (λ (k : ℕ). Store (page_word_of volume_pages page place) k ∷ []) (word_after_any span bytes byte old whole))

pub whole_told : {a b : DeviceView} {m : ℕ} (span : FileSpan) (bytes : List ℕ) (volume_pages offset page : ℕ) → span.zero_from ≡ 0 → m ≤ 512 → StoresExactly (IsNewWord span volume_pages offset page) a b (new_stores span bytes a.words volume_pages offset page) m
    → StoresExactly (IsContentWord volume_pages page) a b (page_stores span bytes volume_pages offset page) 512
whole_told {a} span bytes volume_pages offset page whole few stored =
    exactly_as (page_stores span bytes volume_pages offset page) 512 (new_is_content span volume_pages offset page) (whole_stores span bytes volume_pages offset page a.words whole) few stored

-- the earlier pages' words are none of this page's
pub before_apart : (volume_pages : ℕ) (pages : List ℕ) (index count word : ℕ) → AreDataPages (data_pages_of volume_pages) pages → index < count → count < length pages → IsContentWord volume_pages (slice_index pages index) word → ¬ IsOwnWord volume_pages (slice_index pages count) word
before_apart volume_pages pages index count word valid before inside content = earlier_apart volume_pages pages index count word valid before inside (inl content)

-- words that became so stay so while others are stored
pub words_stay : {b c : List ℕ} {tb tc : Option Trail} {W : ℕ → Type 0} (span : FileSpan) (bytes : List ℕ) (volume_pages offset page : ℕ) (a : List ℕ) → IsInterval W b tb c tc → ((word : ℕ) → IsContentWord volume_pages page word → ¬ W word)
    → HasWords span bytes volume_pages offset page a b → HasWords span bytes volume_pages offset page a c
words_stay span bytes volume_pages offset page a step apart have = record {
  each = λ place inside. interval_keeps (page_word_of volume_pages page place) step (apart (page_word_of volume_pages page place) (record { place = place; in_page = inside; at = refl })) ∙ have.each place inside;
}

-- and so they became from earlier words that were the same
pub words_from_before : {a b : List ℕ} {ta tb : Option Trail} {V : ℕ → Type 0} (span : FileSpan) (bytes : List ℕ) (volume_pages offset page : ℕ) (c : List ℕ) → IsInterval V a ta b tb → ((word : ℕ) → IsContentWord volume_pages page word → ¬ V word)
    → HasWords span bytes volume_pages offset page b c → HasWords span bytes volume_pages offset page a c
words_from_before span bytes volume_pages offset page c before apart have = record {
  each = λ place inside.
      have.each place inside
      ∙ ap (λ (k : ℕ). word_now span bytes (4096 * offset + 8 * place) k) (interval_keeps (page_word_of volume_pages page place) before (apart (page_word_of volume_pages page place) (record { place = place; in_page = inside; at = refl })));
}

-- ---- a page's descriptor

pub bytes_reads : (b c d : List ℕ) (volume_pages page at w1 w2 : ℕ) → page < data_pages_of volume_pages → w1 ≡ descriptor_word_of volume_pages page 1 → w2 ≡ descriptor_word_of volume_pages page 2
    → w1 < length b → w2 < length b → c ≡ slice_set b w1 1 → d ≡ slice_set c w2 at → IsBytesPage volume_pages d at page
unfolding page_kind page_offset word
bytes_reads b c d volume_pages page at w1 w2 in_range at1 at2 in1 in2 isc isd =
    let long = same_length b c w1 1 isc in
    let differ : descriptor_word_of volume_pages page 1 ≢ w2 = λ same. let fields = (same_descriptor_word volume_pages page page 1 2 (omega arith) (omega arith) (same ∙ at2)).1 in omega (arith, fields) in
    record {
      kind = kept c d w2 at (descriptor_word_of volume_pages page 1) isd differ ∙ put b c w1 1 (descriptor_word_of volume_pages page 1) isc at1 in1;
      offset = put c d w2 at (descriptor_word_of volume_pages page 2) isd at2 (omega (arith, in2, long));
    }

pub described_words : (span : FileSpan) (bytes : List ℕ) (a b c d : List ℕ) (volume_pages offset page value at w1 w2 : ℕ) → page < data_pages_of volume_pages → w1 ≡ descriptor_word_of volume_pages page 1 → w2 ≡ descriptor_word_of volume_pages page 2
    → c ≡ slice_set b w1 value → d ≡ slice_set c w2 at → HasWords span bytes volume_pages offset page a b → HasWords span bytes volume_pages offset page a d
described_words span bytes a b c d volume_pages offset page value at w1 w2 in_range at1 at2 isc isd have =
    let apart : (field place w : ℕ) → field < 8 → w ≡ descriptor_word_of volume_pages page field → page_word_of volume_pages page place ≢ w = λ field place w few is same. descriptor_word_not_page_word volume_pages page page field place in_range few (sym is ∙ sym same) in
    record {
      each = λ place inside.
          kept c d w2 at (page_word_of volume_pages page place) isd (apart 2 place w2 (omega arith) at2)
          ∙ kept b c w1 value (page_word_of volume_pages page place) isc (apart 1 place w1 (omega arith) at1) ∙ have.each place inside;
    }

pub bytes_page_stays : (volume_pages at page : ℕ) (old new : List ℕ) → ((word : ℕ) → IsOwnWord volume_pages page word → slice_index new word ≡ slice_index old word) → IsBytesPage volume_pages old at page → IsBytesPage volume_pages new at page
unfolding page_kind page_offset word
bytes_page_stays volume_pages at page old new same before = record {
  kind = same (descriptor_word_of volume_pages page 1) (inr (record { field = 1; is_field = omega arith; at = refl })) ∙ before.kind;
  offset = same (descriptor_word_of volume_pages page 2) (inr (record { field = 2; is_field = omega arith; at = refl })) ∙ before.offset;
}
