-- When an inode's words may be cleared: nothing on the device leads to it. P is the volume's number of pages.
use Rattle.std.specs.Prelude.{◌≡◌, ◌≢◌, ℕ, ◌<◌, List}
use Rattle.pm_trait.specs.Device.{IsClean}
use Rattle.pm_trait.specs.DeviceView.{DeviceView}
use Rattle.layout.specs.Geometry.{data_pages_of, slots_of, page_of_slot, descriptor_word_of, slot_word_of}
use Rattle.layout.specs.Fields.{page_owner, page_kind, slot_inode}

-- No data page has the inode as owner, and a crash leaves the owners so.
pub record IsUnowned (P number : ℕ) (device : DeviceView) : Type 0 where
  pub other : (page : ℕ) → page < data_pages_of P → page_owner P device.words page ≢ number
  pub settled : (page : ℕ) → page < data_pages_of P → IsClean device.words device.trail (descriptor_word_of P page 0)

-- a slot of a page that has an owner and the kind of a directory page
pub record IsHeldSlot (P : ℕ) (words : List ℕ) (slot : ℕ) : Type 0 where
  pub in_range : slot < slots_of P
  pub owned : page_owner P words (page_of_slot slot) ≢ 0
  pub kind : page_kind P words (page_of_slot slot) ≡ 2

-- No held slot has the inode's number, and a crash leaves those numbers so.
pub record IsUnnamed (P number : ℕ) (device : DeviceView) : Type 0 where
  pub other : (slot : ℕ) → IsHeldSlot P device.words slot → slot_inode P device.words slot ≢ number
  pub settled : (slot : ℕ) → IsHeldSlot P device.words slot → IsClean device.words device.trail (slot_word_of P slot 0)

-- Nothing leads to the inode, and a crash leaves the same slots held.
pub record IsUnused (P number : ℕ) (device : DeviceView) : Type 0 where
  pub unowned : IsUnowned P number device
  pub unnamed : IsUnnamed P number device
  pub kinds : (page : ℕ) → page < data_pages_of P → IsClean device.words device.trail (descriptor_word_of P page 1)
