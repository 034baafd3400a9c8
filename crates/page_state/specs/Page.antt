-- One or more data pages as a value that stands for their words and for those of their descriptors.
use Rattle.std.specs.Prelude.{◌≡◌, ◌⊎◌, ℕ, ◌+◌, ◌*◌, ◌==◌, ◌<◌, true, if◌then◌else◌, List, ◌∷◌, length, slice_index, Option, None}
use Rattle.pm_trait.specs.Device.{IsClean}
use Rattle.pm_trait.specs.DeviceView.{DeviceView}
use Rattle.layout.specs.declared.fields.DescriptorFields.{DescriptorFields}
use Rattle.layout.specs.Geometry.{descriptor_word_of, page_word_of, page_of_slot, slot_word_of}
use Rattle.layout.specs.Fields.{descriptor_fields, page_owner, page_kind, page_offset, slot_inode}
use Rattle.layout.specs.Name.{words_of_name}
use Rattle.fence_token.specs.Objects.{Stands, StandsClean, StandsInFlight}
use Rattle.page_state.specs.declared.page.Touched.{Touched}
use Rattle.page_state.specs.declared.page.Touched.TheVariants.{Descriptors, Whole, Words}
use Rattle.page_state.specs.declared.span.FileSpan.{FileSpan}
use Rattle.page_state.specs.Spans.{has_new, new_lines, IsWithinLimits}

-- the volume's number of pages, the data pages, what the first one's descriptor says, what was stored since they were clean, and the ticket of their flush
pub record PageView : Type 0 where
  pub volume_pages : ℕ
  pub pages : List ℕ
  pub fields : DescriptorFields
  pub touched : Touched
  pub ticket : Option ℕ

-- ---- lists of pages

-- Q holds of each page of the list
pub record EachPage (pages : List ℕ) (Q : ℕ → Type 0) : Type 0 where
  pub each : (index : ℕ) → index < length pages → Q (slice_index pages index)

-- no page stands twice in the list
pub record AreDistinct (pages : List ℕ) : Type 0 where
  pub each : (index other : ℕ) → index < length pages → other < length pages → slice_index pages index ≡ slice_index pages other → index ≡ other

-- one or more distinct data pages of the volume
pub record AreDataPages (data_pages : ℕ) (pages : List ℕ) : Type 0 where
  pub some : 0 < length pages
  pub in_range : EachPage pages (λ page. page < data_pages)
  pub distinct : AreDistinct pages

-- the word is one that Q says of one of the first pages of the list
pub record OfFirst (pages : List ℕ) (count : ℕ) (Q : ℕ → ℕ → Type 0) (word : ℕ) : Type 0 where
  pub index : ℕ
  pub before : index < count
  pub is : Q (slice_index pages index) word

-- and of any of them
abbrev pub OfSome : List ℕ → (ℕ → ℕ → Type 0) → ℕ → Type 0
OfSome pages Q word = OfFirst pages (length pages) Q word

-- the word is one that Q says of one of so many numbers from 0 on
pub record OfSomeBelow (count : ℕ) (Q : ℕ → ℕ → Type 0) (word : ℕ) : Type 0 where
  pub index : ℕ
  pub below : index < count
  pub is : Q index word

-- ---- words of a page

-- one of the page's own 512
pub record IsContentWord (volume_pages page word : ℕ) : Type 0 where
  pub place : ℕ
  pub in_page : place < 512
  pub at : word ≡ page_word_of volume_pages page place

-- one of its descriptor's fields: owner, kind and offset
pub record IsDescriptorWord (volume_pages page word : ℕ) : Type 0 where
  pub field : ℕ
  pub is_field : field < descriptor_fields
  pub at : word ≡ descriptor_word_of volume_pages page field

abbrev pub IsOwnWord : ℕ → ℕ → ℕ → Type 0
IsOwnWord volume_pages page word = IsContentWord volume_pages page word ⊎ IsDescriptorWord volume_pages page word

-- those that a fill stores: all but the owner
abbrev pub IsFilledWord : ℕ → ℕ → ℕ → Type 0
IsFilledWord volume_pages page word = IsContentWord volume_pages page word ⊎ ((word ≡ descriptor_word_of volume_pages page 1) ⊎ (word ≡ descriptor_word_of volume_pages page 2))

-- the one that a claim and a cut store
abbrev pub IsOwnerWord : ℕ → ℕ → ℕ → Type 0
IsOwnerWord volume_pages page word = word ≡ descriptor_word_of volume_pages page 0

-- those that a release stores
abbrev pub IsReleasedWord : ℕ → ℕ → ℕ → Type 0
IsReleasedWord volume_pages page word = (word ≡ descriptor_word_of volume_pages page 1) ⊎ (word ≡ descriptor_word_of volume_pages page 2)

-- the word at this place of the page of this offset, where it has a new byte of the file
pub record IsNewPlace (span : FileSpan) (volume_pages offset page place word : ℕ) : Type 0 where
  pub at : word ≡ page_word_of volume_pages page place
  pub has : has_new span (4096 * offset + 8 * place) 8 ≡ true

-- a word of the page that has one
abbrev pub IsNewWord : FileSpan → ℕ → ℕ → ℕ → ℕ → Type 0
IsNewWord span volume_pages offset page word = OfSomeBelow 512 (IsNewPlace span volume_pages offset page) word

-- and one of these pages, whose offsets follow one another
abbrev pub IsNewWordOf : FileSpan → ℕ → List ℕ → ℕ → Type 0
IsNewWordOf span volume_pages pages word = OfSomeBelow (length pages) (λ index. IsNewWord span volume_pages (span.first + index) (slice_index pages index)) word

-- those that were stored since the pages were clean
abbrev pub AreTouched : Touched → ℕ → List ℕ → ℕ → Type 0
AreTouched Descriptors volume_pages pages word = OfSome pages (IsDescriptorWord volume_pages) word
AreTouched Whole volume_pages pages word = OfSome pages (IsOwnWord volume_pages) word
AreTouched (Words span) volume_pages pages word = IsNewWordOf span volume_pages pages word

-- the number of the lines, in so many pages, that hold one of them
abbrev pub touched_lines : Touched → ℕ → ℕ
touched_lines Descriptors pages = pages
touched_lines Whole pages = 65 * pages
touched_lines (Words span) pages = new_lines span pages

-- such a span is one of a file, and some word has a new byte
abbrev pub IsTouchable : Touched → ℕ → Type 0
IsTouchable Descriptors pages = Unit {0}
IsTouchable Whole pages = Unit {0}
IsTouchable (Words span) pages = IsWithinLimits span pages × (0 < new_lines span pages)

-- the page's 512 words are these, and 0 behind them
pub record BeginsWith (volume_pages : ℕ) (words first : List ℕ) (page : ℕ) : Type 0 where
  pub each : (place : ℕ) → place < 512 → slice_index words (page_word_of volume_pages page place) ≡ slice_index first place

-- the words of a slot that has this name, and neither a number nor a pointer
abbrev pub named_slot : List ℕ → List ℕ
named_slot name = 0 ∷ 0 ∷ words_of_name name

-- a page of slots that begins with these words, whoever its owner is; with none of them all its slots are free
pub record IsSlotPage (volume_pages : ℕ) (words first : List ℕ) (page : ℕ) : Type 0 where
  pub contents : BeginsWith volume_pages words first page
  pub kind : page_kind volume_pages words page ≡ 2
  pub offset : page_offset volume_pages words page ≡ 0

-- a page of a file's bytes at this offset, whoever its owner is
pub record IsBytesPage (volume_pages : ℕ) (words : List ℕ) (at page : ℕ) : Type 0 where
  pub kind : page_kind volume_pages words page ≡ 1
  pub offset : page_offset volume_pages words page ≡ at

-- pages of a file's bytes from this offset on
pub record AreBytesPages (volume_pages : ℕ) (words : List ℕ) (first : ℕ) (pages : List ℕ) : Type 0 where
  pub each : (index : ℕ) → index < length pages → IsBytesPage volume_pages words (first + index) (slice_index pages index)

-- its descriptor says no kind and no offset, whoever its owner is
pub record IsWithoutKind (volume_pages : ℕ) (words : List ℕ) (page : ℕ) : Type 0 where
  pub kind : page_kind volume_pages words page ≡ 0
  pub offset : page_offset volume_pages words page ≡ 0

-- the slot has no inode's number, and a crash leaves it so
pub record IsEmptySlot (volume_pages : ℕ) (device : DeviceView) (slot : ℕ) : Type 0 where
  pub number : slot_inode volume_pages device.words slot ≡ 0
  pub settled : IsClean device.words device.trail (slot_word_of volume_pages slot 0)

-- so each slot of these pages
abbrev pub AreEmpty : ℕ → List ℕ → DeviceView → Type 0
AreEmpty volume_pages pages device = EachPage pages (λ page. (slot : ℕ) → page_of_slot slot ≡ page → IsEmptySlot volume_pages device slot)

-- ---- what descriptors say

abbrev pub descriptor_of : ℕ → List ℕ → ℕ → DescriptorFields
descriptor_of volume_pages words page = record { owner = page_owner volume_pages words page; kind = page_kind volume_pages words page; offset = page_offset volume_pages words page }

-- What the descriptor of the page at this place of a list says, where that of the first page says `first`: the offsets of pages
-- of bytes follow one another.
abbrev pub fields_of_page : DescriptorFields → ℕ → DescriptorFields
fields_of_page first index = record { owner = first.owner; kind = first.kind; offset = (if first.kind == 1 then first.offset + index else first.offset) }

-- the pages' descriptors say so
pub record SayFields (volume_pages : ℕ) (pages : List ℕ) (fields : DescriptorFields) (words : List ℕ) : Type 0 where
  pub each : (index : ℕ) → index < length pages → descriptor_of volume_pages words (slice_index pages index) ≡ fields_of_page fields index

-- and what they say has the meaning
pub record HaveMeaning (means : DescriptorFields → Type 0) (pages : List ℕ) (fields : DescriptorFields) : Type 0 where
  pub each : (index : ℕ) → index < length pages → means (fields_of_page fields index)

-- ---- the object

-- the word is one of the object's
abbrev pub IsWordOf : PageView → ℕ → Type 0
IsWordOf view word = OfSome view.pages (IsOwnWord view.volume_pages) word

-- each page's descriptor says what the object says of it
abbrev pub ReadAs : PageView → List ℕ → Type 0
ReadAs view words = SayFields view.volume_pages view.pages view.fields words

-- pages as they stand in these words
abbrev pub pages_at : ℕ → List ℕ → List ℕ → PageView
pages_at volume_pages pages words =
    record { volume_pages = volume_pages; pages = pages; fields = descriptor_of volume_pages words (slice_index pages 0); touched = Descriptors; ticket = None }

-- its words are the device's, and its descriptors say its fields
abbrev pub PageStands : PageView → List ℕ → Type 0
PageStands view now = Stands (IsWordOf view) (ReadAs view) now

-- and a crash leaves all of its words so but those that were stored
pub record PageIsDirty (view : PageView) (device : DeviceView) : Type 0 where
  pub stands : PageStands view device.words
  pub touched : IsTouchable view.touched (length view.pages)
  pub untouched : (word : ℕ) → IsWordOf view word → ¬ AreTouched view.touched view.volume_pages view.pages word → IsClean device.words device.trail word

-- and a crash leaves all of its words so
abbrev pub PageIsClean : PageView → DeviceView → Type 0
PageIsClean view device = StandsClean (IsWordOf view) (ReadAs view) device.words device.trail

-- and they were flushed since their last store, at the time that the ticket says
abbrev pub PageIsInFlight : PageView → DeviceView → Type 0
PageIsInFlight view device = StandsInFlight (IsWordOf view) (ReadAs view) view.ticket device.words device.trail
