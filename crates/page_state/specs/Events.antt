-- What the calls of pages do to the device, event by event.
use Rattle.std.specs.Prelude.{◌≡◌, ℕ, ◌+◌, ◌*◌, ◌/◌, ◌<◌, if◌then◌else◌, List, [], ◌∷◌, ◌++◌, length, map, slice_index}
use Rattle.std.specs.List.{range_with_len, flat_map}
use Rattle.pm_trait.specs.declared.event.Event.{Event}
use Rattle.pm_trait.specs.declared.event.Event.TheVariants.{Store, Flush}
use Rattle.pm_trait.specs.Device.{IsFlushed}
use Rattle.pm_trait.specs.DeviceView.{DeviceView}
use Rattle.layout.specs.Geometry.{descriptor_word_of, page_word_of}
use Rattle.layout.specs.Fields.{page_byte}
use Rattle.fence_token.specs.Ticket.{flushes_of}
use Rattle.fence_token.specs.Flushes.{Flushes}
use Rattle.fence_token.specs.Stored.{StoresExactly}
use Rattle.page_state.specs.declared.page.Touched.{Touched}
use Rattle.page_state.specs.declared.page.Touched.TheVariants.{Descriptors, Whole, Words}
use Rattle.page_state.specs.declared.span.FileSpan.{FileSpan}
use Rattle.page_state.specs.Spans.{has_new, new_words, byte_after, word_after, word_now}
use Rattle.page_state.specs.Page.{OfSome, IsFilledWord, IsOwnerWord, IsReleasedWord, IsNewWordOf, touched_lines}

-- a store to each of a page's 512 words: of these, and of 0 behind them
unfoldable pub slot_stores : ℕ → List ℕ → ℕ → List Event
slot_stores volume_pages first page = map (λ place. Store (page_word_of volume_pages page place) (slice_index first place)) (range_with_len 0 512)

-- and of the kind 2 and the offset 0 to its descriptor
abbrev pub fill_of_page : ℕ → List ℕ → ℕ → List Event
fill_of_page volume_pages first page = slot_stores volume_pages first page ++ Store (descriptor_word_of volume_pages page 1) 2 ∷ Store (descriptor_word_of volume_pages page 2) 0 ∷ []

-- a store of the owner to its descriptor
abbrev pub claim_of_page : ℕ → ℕ → ℕ → List Event
claim_of_page volume_pages owner page = Store (descriptor_word_of volume_pages page 0) owner ∷ []

-- a store of 0 to the kind and to the offset in its descriptor
abbrev pub release_of_page : ℕ → ℕ → List Event
release_of_page volume_pages page = Store (descriptor_word_of volume_pages page 1) 0 ∷ Store (descriptor_word_of volume_pages page 2) 0 ∷ []

-- the store of a word of the page of this offset, where it has a new byte of the file; `old` are the words before
abbrev pub store_of_word : FileSpan → List ℕ → List ℕ → ℕ → ℕ → ℕ → ℕ → List Event
store_of_word span bytes old volume_pages offset page place =
    if has_new span (4096 * offset + 8 * place) 8
    then Store (page_word_of volume_pages page place) (word_after span bytes (4096 * offset + 8 * place) (slice_index old (page_word_of volume_pages page place))) ∷ []
    else []

-- and those of all its words
unfoldable pub new_stores : FileSpan → List ℕ → List ℕ → ℕ → ℕ → ℕ → List Event
unfolding word_after has_new page_word_of
new_stores span bytes old volume_pages offset page = flat_map (store_of_word span bytes old volume_pages offset page) (range_with_len 0 512)

-- a store of each of a page's 512 words, as new ones of the file
unfoldable pub page_stores : FileSpan → List ℕ → ℕ → ℕ → ℕ → List Event
unfolding word_after page_word_of
page_stores span bytes volume_pages offset page = map (λ place. Store (page_word_of volume_pages page place) (word_after span bytes (4096 * offset + 8 * place) 0)) (range_with_len 0 512)

-- and of the kind 1 and the offset to its descriptor
abbrev pub bytes_of_page : FileSpan → List ℕ → ℕ → ℕ → ℕ → List Event
bytes_of_page span bytes volume_pages offset page = page_stores span bytes volume_pages offset page ++ Store (descriptor_word_of volume_pages page 1) 1 ∷ Store (descriptor_word_of volume_pages page 2) offset ∷ []

-- a flush of each of the 64 lines of a page
unfoldable pub content_flushes : ℕ → ℕ → List Event
content_flushes volume_pages page = flushes_of (page_word_of volume_pages page 0 / 8) 64

-- a flush of a line of the page of this offset, where it has a new byte of the file
abbrev pub flush_of_line : FileSpan → ℕ → ℕ → ℕ → ℕ → List Event
flush_of_line span volume_pages offset page line =
    if has_new span (4096 * offset + 64 * line) 64 then Flush (page_word_of volume_pages page (8 * line) / 8) ∷ [] else []

-- and those of all its lines
unfoldable pub new_flushes : FileSpan → ℕ → ℕ → ℕ → List Event
unfolding has_new page_word_of
new_flushes span volume_pages offset page = flat_map (flush_of_line span volume_pages offset page) (range_with_len 0 64)

abbrev pub descriptor_flush : ℕ → ℕ → List Event
descriptor_flush volume_pages page = Flush (descriptor_word_of volume_pages page 0 / 8) ∷ []

abbrev pub whole_flush : ℕ → ℕ → List Event
whole_flush volume_pages page = content_flushes volume_pages page ++ Flush (descriptor_word_of volume_pages page 0 / 8) ∷ []

-- events of each page, told by its offset and its number; the first page has this offset, and the others follow
abbrev pub page_by_page : (ℕ → ℕ → List Event) → ℕ → List ℕ → List Event
page_by_page told first pages = flat_map (λ index. told (first + index) (slice_index pages index)) (range_with_len 0 (length pages))

-- a flush of each line of the pages that was stored to
abbrev pub flushes_of_pages : Touched → ℕ → List ℕ → List Event
flushes_of_pages Descriptors volume_pages pages = flat_map (descriptor_flush volume_pages) pages
flushes_of_pages Whole volume_pages pages = flat_map (whole_flush volume_pages) pages
flushes_of_pages (Words span) volume_pages pages = page_by_page (new_flushes span volume_pages) span.first pages

-- ---- page by page

-- Each page is made one of slots that begins with these words: 514 stores a page.
abbrev pub FillsPages : ℕ → List ℕ → List ℕ → DeviceView → DeviceView → Type 0
FillsPages volume_pages pages first old new = StoresExactly (OfSome pages (IsFilledWord volume_pages)) old new (flat_map (fill_of_page volume_pages first) pages) (514 * length pages)

-- Each page gets the owner: one store a page.
abbrev pub ClaimsPages : ℕ → List ℕ → ℕ → DeviceView → DeviceView → Type 0
ClaimsPages volume_pages pages owner old new = StoresExactly (OfSome pages (IsOwnerWord volume_pages)) old new (flat_map (claim_of_page volume_pages owner) pages) (length pages)

-- Each page loses its owner: one store a page.
abbrev pub CutsPages : ℕ → List ℕ → DeviceView → DeviceView → Type 0
CutsPages volume_pages pages old new = ClaimsPages volume_pages pages 0 old new

-- Each page loses its kind and its offset: two stores a page.
abbrev pub ReleasesPages : ℕ → List ℕ → DeviceView → DeviceView → Type 0
ReleasesPages volume_pages pages old new = StoresExactly (OfSome pages (IsReleasedWord volume_pages)) old new (flat_map (release_of_page volume_pages) pages) (2 * length pages)

-- Each page is made one of the file's bytes at its offset, with these words: 514 stores a page.
abbrev pub FillsBytes : ℕ → List ℕ → FileSpan → List ℕ → DeviceView → DeviceView → Type 0
FillsBytes volume_pages pages span bytes old new = StoresExactly (OfSome pages (IsFilledWord volume_pages)) old new (page_by_page (bytes_of_page span bytes volume_pages) span.first pages) (514 * length pages)

-- Each word of the pages that has a new byte is stored, and no other.
abbrev pub WritesSpan : ℕ → List ℕ → FileSpan → List ℕ → DeviceView → DeviceView → Type 0
WritesSpan volume_pages pages span bytes old new =
    StoresExactly (IsNewWordOf span volume_pages pages) old new (page_by_page (new_stores span bytes old.words volume_pages) span.first pages) (new_words span (length pages))

-- each word of the page of this offset is what it is after the stores of the span
pub record HasWords (span : FileSpan) (bytes : List ℕ) (volume_pages offset page : ℕ) (old new : List ℕ) : Type 0 where
  pub each : (place : ℕ) → place < 512 → slice_index new (page_word_of volume_pages page place) ≡ word_now span bytes (4096 * offset + 8 * place) (slice_index old (page_word_of volume_pages page place))

-- and so those of each of these pages
pub record HaveWords (span : FileSpan) (bytes : List ℕ) (volume_pages : ℕ) (pages old new : List ℕ) : Type 0 where
  pub each : (index : ℕ) → index < length pages → HasWords span bytes volume_pages (span.first + index) (slice_index pages index) old new

-- Each byte of the pages is what it becomes by the span, from what `was` says of the page's byte.
pub record HaveBytes (volume_pages : ℕ) (pages : List ℕ) (span : FileSpan) (bytes : List ℕ) (was : ℕ → ℕ → ℕ) (words : List ℕ) : Type 0 where
  pub each : (index byte : ℕ) → index < length pages → byte < 4096 → page_byte volume_pages words (slice_index pages index) byte ≡ byte_after span bytes (4096 * (span.first + index) + byte) (was (slice_index pages index) byte)

-- The lines of the pages that were stored to are flushed, each once.
abbrev pub FlushesPages : ℕ → List ℕ → Touched → DeviceView → DeviceView → Type 0
FlushesPages volume_pages pages touched old new = Flushes old new (flushes_of_pages touched volume_pages pages) (touched_lines touched (length pages))

-- The words that are in W are flushed by these events, and the ticket is that of the last of them.
pub record FlushesWords (W : ℕ → Type 0) (old new : DeviceView) (events : List Event) (count ticket : ℕ) : Type 0 where
  pub flushes : Flushes old new events count
  pub open flushes use *
  pub flushed : (word : ℕ) → W word → IsFlushed new.trail word
  pub ticket_is : ticket ≡ new.fences
