-- When an inode's size may be raised: its pages stand. P is the volume's number of pages.
use Rattle.std.specs.Prelude.{◌≡◌, ℕ, ◌<◌}
use Rattle.pm_trait.specs.Device.{IsClean}
use Rattle.pm_trait.specs.DeviceView.{DeviceView}
use Rattle.layout.specs.Geometry.{pieces, data_pages_of, descriptor_word_of}
use Rattle.layout.specs.Fields.{descriptor_fields, page_owner, page_kind, page_offset}

-- The page is the inode's page of bytes at this offset, and a crash leaves it so.
pub record IsPageAt (P number offset : ℕ) (device : DeviceView) (page : ℕ) : Type 0 where
  pub in_range : page < data_pages_of P
  pub owner : page_owner P device.words page ≡ number
  pub kind : page_kind P device.words page ≡ 1
  pub at : page_offset P device.words page ≡ offset
  pub settled : (field : ℕ) → field < descriptor_fields → IsClean device.words device.trail (descriptor_word_of P page field)

-- The inode has a page at each offset that so many bytes reach to.
abbrev pub HasPagesFor : ℕ → ℕ → ℕ → DeviceView → Type 0
HasPagesFor P number size device = (offset : ℕ) → offset < pieces size 4096 → (page : ℕ) × IsPageAt P number offset device page
