-- The lines of a page's words.
use Rattle.std.proofs.Common.{◌≡◌, ℕ, ◌+◌, ◌-◌, ◌*◌, ◌/◌, ◌≤◌, arith}
use Rattle.layout.specs.Geometry.{first_data_word_of, page_word_of, descriptor_word_of}
use Rattle.layout.specs.Fields.{descriptor_fields}
use Rattle.page_state.specs.Page.{IsContentWord, IsDescriptorWord}

-- a descriptor's words stand in one line
pub descriptor_line : (volume_pages page first last : ℕ) → first ≡ descriptor_word_of volume_pages page 0 → last ≡ descriptor_word_of volume_pages page (descriptor_fields - 1) → last / 8 - first / 8 + 1 ≡ 1
unfolding descriptor_word_of
descriptor_line volume_pages page first last at_first at_last = omega (arith, at_first, at_last)

pub descriptor_order : (volume_pages page first last : ℕ) → first ≡ descriptor_word_of volume_pages page 0 → last ≡ descriptor_word_of volume_pages page (descriptor_fields - 1) → first ≤ last
unfolding descriptor_word_of
descriptor_order volume_pages page first last at_first at_last = omega (arith, at_first, at_last)

pub descriptor_between : (volume_pages page first last word : ℕ) → first ≡ descriptor_word_of volume_pages page 0 → last ≡ descriptor_word_of volume_pages page (descriptor_fields - 1) → IsDescriptorWord volume_pages page word → (first ≤ word) × (word ≤ last)
unfolding descriptor_word_of
descriptor_between volume_pages page first last word at_first at_last is =
    let few = is.is_field in
    let at = is.at in
    (omega (arith, few, at, at_first, at_last), omega (arith, few, at, at_first, at_last))

-- a page's own words stand in 64 lines
pub content_lines : (volume_pages page first last : ℕ) → first ≡ page_word_of volume_pages page 0 → last ≡ page_word_of volume_pages page 511 → last / 8 - first / 8 + 1 ≡ 64
unfolding page_word_of first_data_word_of
content_lines volume_pages page first last at_first at_last = omega (arith, at_first, at_last)

pub content_order : (volume_pages page first last : ℕ) → first ≡ page_word_of volume_pages page 0 → last ≡ page_word_of volume_pages page 511 → first ≤ last
unfolding page_word_of
content_order volume_pages page first last at_first at_last = omega (arith, at_first, at_last)

pub content_between : (volume_pages page first last word : ℕ) → first ≡ page_word_of volume_pages page 0 → last ≡ page_word_of volume_pages page 511 → IsContentWord volume_pages page word → (first ≤ word) × (word ≤ last)
unfolding page_word_of
content_between volume_pages page first last word at_first at_last is =
    let few = is.in_page in
    let at = is.at in
    (omega (arith, few, at, at_first, at_last), omega (arith, few, at, at_first, at_last))

-- a line of a page has its eight words
pub line_order : (volume_pages page line first last : ℕ) → first ≡ page_word_of volume_pages page (8 * line) → last ≡ page_word_of volume_pages page (8 * line + 8 - 1) → first ≤ last
unfolding page_word_of
line_order volume_pages page line first last at_first at_last = omega (arith, at_first, at_last)

pub line_alone : (volume_pages page line first last : ℕ) → first ≡ page_word_of volume_pages page (8 * line) → last ≡ page_word_of volume_pages page (8 * line + 8 - 1) → last / 8 - first / 8 + 1 ≡ 1
unfolding page_word_of first_data_word_of
line_alone volume_pages page line first last at_first at_last = omega (arith, at_first, at_last)

pub line_between : (volume_pages page line place first last : ℕ) → first ≡ page_word_of volume_pages page (8 * line) → last ≡ page_word_of volume_pages page (8 * line + 8 - 1) → place / 8 ≡ line
    → (first ≤ page_word_of volume_pages page place) × (page_word_of volume_pages page place ≤ last)
unfolding page_word_of
line_between volume_pages page line place first last at_first at_last of_line = (omega (arith, at_first, at_last, of_line), omega (arith, at_first, at_last, of_line))
