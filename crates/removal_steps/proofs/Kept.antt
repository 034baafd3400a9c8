-- Pages of a file stay its pages where no descriptor changes.
use Rattle.std.proofs.Common.{◌≡◌, ℕ, ◌<◌, List, slice_index, ◌∙◌, arith}
use Rattle.layout.specs.Geometry.{data_pages_of, descriptor_word_of}
use Rattle.layout.specs.Fields.{word, page_owner, page_kind, page_offset}
use Rattle.page_state.specs.Page.{descriptor_of}
use Rattle.page_state.proofs.PageLaws.{same_descriptor_fields}
use Rattle.removal_steps.specs.Steps.{AreFilePages}

pub still_file_pages : (P : ℕ) (I J : List ℕ) (inode : ℕ) (pages : List ℕ) → ((j f : ℕ) → j < data_pages_of P → f < 8 → word J (descriptor_word_of P j f) ≡ word I (descriptor_word_of P j f)) → AreFilePages P I inode pages → AreFilePages P J inode pages
unfolding page_owner page_kind page_offset
still_file_pages P I J inode pages same file = record {
  in_range = file.in_range;
  distinct = file.distinct;
  each = λ k inside.
      let page = slice_index pages k in
      let low = file.in_range.each k inside in
      same_descriptor_fields (descriptor_of P J page) (descriptor_of P I page) (same page 0 low (omega arith)) (same page 1 low (omega arith)) (same page 2 low (omega arith)) ∙ file.each k inside;
}
