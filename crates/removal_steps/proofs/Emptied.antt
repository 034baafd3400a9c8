-- A page of slots that names nothing.
use Rattle.std.proofs.Common.{◌≡◌, inl, ℕ, ◌+◌, ◌*◌, ◌%◌, [], ◌∷◌, slice_index, sym, subst, ◌∙◌, ap, arith}
use Rattle.pm_trait.specs.DeviceView.{DeviceView}
use Rattle.layout.specs.Geometry.{page_of_slot, page_word_of, slot_word_of}
use Rattle.layout.specs.Fields.{slot_inode}
use Rattle.layout.proofs.GeometryLaws.{slot_word_in_page}
use Rattle.page_state.specs.Page.{PageView, AreEmpty, IsOwnWord, pages_at, PageIsClean}

-- the number of a slot is a word of its page
pub number_is_own : (P slot page : ℕ) → page_of_slot slot ≡ page → IsOwnWord P page (slot_word_of P slot 0)
number_is_own P slot page in_page =
    inl (record { place = 16 * (slot % 32) + 0; in_page = omega arith; at = slot_word_in_page P slot 0 ∙ ap (λ (j : ℕ). page_word_of P j (16 * (slot % 32) + 0)) in_page })

pub empty_page : {device : DeviceView} (P page : ℕ) (view : PageView) → view ≡ pages_at P (page ∷ []) device.words → PageIsClean view device
    → ((slot : ℕ) → page_of_slot slot ≡ page → slot_inode P device.words slot ≡ 0) → AreEmpty view.volume_pages view.pages device
empty_page {device} P page view is clean none =
    let clean_at = subst (λ (v : PageView). PageIsClean v device) is clean in
    subst (λ (v : PageView). AreEmpty v.volume_pages v.pages device) (sym is)
    (record {
      each = λ index inside slot at.
          let here : index ≡ 0 = omega (arith, inside) in
          let in_page : page_of_slot slot ≡ page = at ∙ ap (λ (k : ℕ). slice_index (page ∷ []) k) here in
          record {
            number = none slot in_page;
            settled = clean_at.clean (slot_word_of P slot 0) (record { index = 0; before = omega arith; is = number_is_own P slot page in_page });
          };
    })
