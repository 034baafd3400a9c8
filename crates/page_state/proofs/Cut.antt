-- The owners of pages are no words of the file's inode that owns them.
use Rattle.std.proofs.Common.{◌≡◌, ◌⊎◌, inl, inr, ℕ, ◌<◌, ◌≤◌, List, slice_index, sym, ◌∙◌, ap, arith}
use Rattle.layout.specs.declared.fields.DescriptorFields.{DescriptorFields}
use Rattle.layout.specs.declared.fields.InodeFields.{InodeFields}
use Rattle.layout.specs.Geometry.{IsVolumeSize, inodes_of, inode_pages_of, descriptor_word_of, inode_word_of}
use Rattle.layout.specs.Fields.{word, inode_fields, page_owner, inode_kind}
use Rattle.inode_state.specs.Inode.{IsInodeWord, fields_at}
use Rattle.page_state.specs.Page.{OfSome, IsOwnerWord, SayFields}

-- a descriptor begins where an inode does, or at none of its words
first_field : (volume_pages page number field : ℕ) → field < inode_fields → inode_word_of number field ≡ descriptor_word_of volume_pages page 0 → field ≡ 0
unfolding inode_word_of descriptor_word_of
first_field volume_pages page number field few same = omega (arith, few, same)

-- the first two inodes stand before the descriptors
few_inodes : (volume_pages page number : ℕ) → IsVolumeSize volume_pages → number ≤ 2 → inode_word_of number 0 ≡ descriptor_word_of volume_pages page 0 → ⊥
unfolding inode_word_of descriptor_word_of inode_pages_of inodes_of
few_inodes volume_pages page number size few same = omega (arith, size.0, few, same)

-- an owner that stood where the inode's kind does would be its number
owner_is_kind : (volume_pages page number : ℕ) (now : List ℕ) → inode_word_of number 0 ≡ descriptor_word_of volume_pages page 0 → page_owner volume_pages now page ≡ inode_kind now number
unfolding page_owner inode_kind word
owner_is_kind volume_pages page number now same = ap (λ (w : ℕ). slice_index now w) (sym same)

pub owned_apart : (volume_pages number word : ℕ) (pages now : List ℕ) (fields : DescriptorFields) (inode : InodeFields) → IsVolumeSize volume_pages → SayFields volume_pages pages fields now → fields_at now number ≡ inode → (inode.kind ≡ 1) ⊎ (inode.kind ≡ 2)
    → fields.owner ≡ number → IsInodeWord number word → ¬ OfSome pages (IsOwnerWord volume_pages) word
owned_apart volume_pages number word pages now fields inode size said reads kinds owner own stored =
    let page = slice_index pages stored.index in
    let at : inode_word_of number own.field ≡ descriptor_word_of volume_pages page 0 = sym own.at ∙ stored.is in
    let first = first_field volume_pages page number own.field own.is_field at in
    let start : inode_word_of number 0 ≡ descriptor_word_of volume_pages page 0 = ap (λ (f : ℕ). inode_word_of number f) (sym first) ∙ at in
    let kind : number ≡ inode.kind = sym owner ∙ sym (ap (λ (d : DescriptorFields). d.owner) (said.each stored.index stored.before)) ∙ owner_is_kind volume_pages page number now start ∙ ap (λ (f : InodeFields). f.kind) reads in
    few_inodes volume_pages page number size (elim kinds [ inl file ↦ omega (arith, kind, file) | inr directory ↦ omega (arith, kind, directory) ]) start
