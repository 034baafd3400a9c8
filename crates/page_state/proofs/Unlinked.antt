-- The owners of live pages are no words of an inode without links.
use Rattle.std.proofs.Common.{◌≡◌, inl, inr, ℕ, ◌<◌, List, slice_index, sym, ◌∙◌, ap, arith}
use Rattle.layout.specs.declared.fields.DescriptorFields.{DescriptorFields}
use Rattle.layout.specs.declared.fields.InodeFields.{InodeFields}
use Rattle.layout.specs.Geometry.{descriptor_word_of, inode_word_of}
use Rattle.layout.specs.Fields.{word, inode_fields, page_kind, inode_links}
use Rattle.inode_state.specs.Inode.{IsInodeWord, fields_at}
use Rattle.page_state.specs.States.{IsLive}
use Rattle.page_state.specs.Page.{OfSome, IsOwnerWord, fields_of_page, SayFields, HaveMeaning}

-- a descriptor begins where an inode does, or at none of its words
same_start : (volume_pages page number field : ℕ) → field < inode_fields → inode_word_of number field ≡ descriptor_word_of volume_pages page 0 → descriptor_word_of volume_pages page 1 ≡ inode_word_of number 1
unfolding inode_word_of descriptor_word_of
same_start volume_pages page number field few same = omega (arith, few, same)

-- so its kind stands where the links do
kind_is_links : (volume_pages page number : ℕ) (now : List ℕ) → descriptor_word_of volume_pages page 1 ≡ inode_word_of number 1 → page_kind volume_pages now page ≡ inode_links now number
unfolding page_kind inode_links word
kind_is_links volume_pages page number now same = ap (λ (w : ℕ). slice_index now w) same

some_kind : (fields : DescriptorFields) → IsLive fields → fields.kind ≡ 0 → ⊥
some_kind fields live none = elim live.1 [ inl bytes ↦ omega (arith, bytes, none) | inr slots ↦ omega (arith, slots, none) ]

pub unlinked_apart : (volume_pages number word : ℕ) (pages now : List ℕ) (fields : DescriptorFields) (inode : InodeFields) → HaveMeaning IsLive pages fields → SayFields volume_pages pages fields now → fields_at now number ≡ inode → inode.links ≡ 0
    → IsInodeWord number word → ¬ OfSome pages (IsOwnerWord volume_pages) word
unlinked_apart volume_pages number word pages now fields inode live said reads none own stored =
    let page = slice_index pages stored.index in
    let start = same_start volume_pages page number own.field own.is_field (sym own.at ∙ stored.is) in
    some_kind (fields_of_page fields stored.index) (live.each stored.index stored.before)
    (sym (ap (λ (d : DescriptorFields). d.kind) (said.each stored.index stored.before)) ∙ kind_is_links volume_pages page number now start ∙ ap (λ (f : InodeFields). f.links) reads ∙ none)
