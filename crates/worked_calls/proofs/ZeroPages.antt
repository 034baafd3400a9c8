-- Where the words before the data pages are 0, pages are free.
use Rattle.std.proofs.Common.{◌≡◌, ℕ, ◌<◌, List, ◌++◌, length, slice_index, refl, ◌∙◌, ap, arith, replicate}
use Rattle.std.proofs.lemmas.List.{get_or-replicate, get_or_append_left, length-replicate}
use Rattle.layout.specs.Geometry.{inodes_of, inode_pages_of, descriptor_pages_of, data_pages_of, first_data_word_of, descriptor_word_of}
use Rattle.layout.proofs.GeometryLaws.{descriptor_word_below}
use Rattle.layout.specs.Fields.{word, page_owner, page_kind, page_offset}
use Rattle.page_state.specs.States.{IsFree}
use Rattle.page_state.specs.Page.{EachPage, descriptor_of}
use Rattle.page_state.proofs.PageLaws.{same_descriptor_fields}

-- a word among the first, which are 0
zero_word : (words zeros rest : List ℕ) (count w : ℕ) → words ≡ zeros ++ rest → zeros ≡ replicate count 0 → w < count → slice_index words w ≡ 0
zero_word words zeros rest count w joined are before =
    let long : length zeros ≡ count = ap length are ∙ length-replicate count 0 in
    ap (λ (l : List ℕ). slice_index l w) joined ∙ get_or_append_left zeros rest 0 w (omega (arith, long, before))
    ∙ ap (λ (l : List ℕ). slice_index l w) are ∙ get_or-replicate count w 0 0 before

pub free_pages : (volume_pages count : ℕ) (pages words zeros rest : List ℕ) → EachPage pages (λ page. page < data_pages_of volume_pages) → first_data_word_of volume_pages ≡ count
    → words ≡ zeros ++ rest → zeros ≡ replicate count 0 → EachPage pages (λ page. IsFree (descriptor_of volume_pages words page))
unfolding page_owner page_kind page_offset word
free_pages volume_pages count pages words zeros rest in_range first joined are = record {
  each = λ index inside.
      let page = slice_index pages index in
      let at : (field : ℕ) → field < 8 → slice_index words (descriptor_word_of volume_pages page field) ≡ 0 = λ field few.
      let below = descriptor_word_below volume_pages page field (in_range.each index inside) few in
      zero_word words zeros rest count (descriptor_word_of volume_pages page field) joined are (omega (arith, below, first)) in
      same_descriptor_fields (descriptor_of volume_pages words page) (record { owner = 0; kind = 0; offset = 0 }) (at 0 (omega arith)) (at 1 (omega arith)) (at 2 (omega arith));
}

pub sixteen_pages : first_data_word_of 16 ≡ 1536
unfolding first_data_word_of descriptor_pages_of inode_pages_of inodes_of
sixteen_pages = refl
