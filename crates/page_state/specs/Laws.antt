-- What a caller may rest on of all pages.
use Rattle.std.specs.Prelude.{◌≡◌, ◌≢◌, ℕ, ◌+◌, ◌-◌, ◌*◌, ◌/◌, ◌<◌, ◌≤◌, min, List}
use Rattle.pm_trait.specs.declared.event.Event.{Event}
use Rattle.pm_trait.specs.Trail.{after_stores}
use Rattle.pm_trait.specs.Device.{with_events}
use Rattle.pm_trait.specs.DeviceView.{DeviceView, StoresOnly}
use Rattle.layout.specs.Geometry.{pieces, data_pages_of, inodes_of, inode_word_of, page_of_slot, slot_word_of}
use Rattle.fence_token.specs.Objects.{StoreNoneOf}
use Rattle.page_state.specs.declared.span.FileSpan.{FileSpan}
use Rattle.page_state.specs.Spans.{new_words, new_lines}
use Rattle.page_state.specs.Page.{PageView, EachPage, AreDataPages, IsWordOf, PageIsDirty, PageIsClean, PageIsInFlight}

-- On the new device the pages are dirty, clean and in flight wherever they were so on the old one.
pub record PageGoesOn (view : PageView) (old new : DeviceView) : Type 0 where
  pub dirty : PageIsDirty view old → PageIsDirty view new
  pub clean : PageIsClean view old → PageIsClean view new
  pub in_flight : PageIsInFlight view old → PageIsInFlight view new

-- so over events that store none of their words, such as a fence or an acknowledgement
abbrev pub EventsLaw : Type 0
EventsLaw = (view : PageView) (old new : DeviceView) (events : List Event) → StoreNoneOf (IsWordOf view) events →
    new.words ≡ after_stores old.words events → new.trail ≡ with_events old.trail events → PageGoesOn view old new

-- the object's pages are data pages of its volume
abbrev pub OfVolume : PageView → Type 0
OfVolume view = AreDataPages (data_pages_of view.volume_pages) view.pages

-- the two have no page in common
abbrev pub NoneInCommon : PageView → PageView → Type 0
NoneInCommon one two = EachPage one.pages (λ page. EachPage two.pages (λ other. page ≢ other))

-- and over an interval of other pages of the volume
abbrev pub OthersLaw : Type 0
OthersLaw = (view others : PageView) (old new : DeviceView) → OfVolume view → OfVolume others → view.volume_pages ≡ others.volume_pages → NoneInCommon view others → StoresOnly (IsWordOf others) old new → PageGoesOn view old new

-- the word is one of this inode's
pub record IsOfInode (inode word : ℕ) : Type 0 where
  pub field : ℕ
  pub is_field : field < 16
  pub at : word ≡ inode_word_of inode field

-- and over one of an inode of the volume
abbrev pub InodesLaw : Type 0
InodesLaw = (view : PageView) (inode : ℕ) (old new : DeviceView) → OfVolume view → 1 ≤ inode → inode ≤ inodes_of view.volume_pages → StoresOnly (IsOfInode inode) old new → PageGoesOn view old new

-- the word is one of this slot's
pub record IsOfSlot (volume_pages slot word : ℕ) : Type 0 where
  pub field : ℕ
  pub is_field : field < 16
  pub at : word ≡ slot_word_of volume_pages slot field

-- and over one of a slot in another page
abbrev pub SlotsLaw : Type 0
SlotsLaw = (view : PageView) (slot : ℕ) (old new : DeviceView) → OfVolume view → EachPage view.pages (λ page. page_of_slot slot ≢ page) → StoresOnly (IsOfSlot view.volume_pages slot) old new → PageGoesOn view old new

-- ---- how much is new

-- Of these pages the words and lines that hold a byte from `from` to before `end` have a new byte, and no other.
pub record CountsNew (span : FileSpan) (pages from end : ℕ) : Type 0 where
  pub words : new_words span pages ≡ pieces end 8 - from / 8
  pub lines : new_lines span pages ≡ pieces end 64 - from / 64

-- so where a range lies in the pages, and no byte of them is to become zero
abbrev pub InsideLaw : Type 0
InsideLaw = (span : FileSpan) (pages : ℕ) → 4096 * span.first ≤ span.offset → 0 < span.length → span.offset + span.length ≤ 4096 * (span.first + pages) → 4096 * (span.first + pages) ≤ span.zero_from → CountsNew span pages span.offset (span.offset + span.length)

-- and where all bytes behind the range become zero, or stand behind the pages
abbrev pub BeyondLaw : Type 0
BeyondLaw = (span : FileSpan) (pages : ℕ) → span.zero_from ≤ span.offset + span.length → 4096 * span.first ≤ min span.offset span.zero_from → min span.offset span.zero_from ≤ 4096 * (span.first + pages) → CountsNew span pages (min span.offset span.zero_from) (4096 * (span.first + pages))
