-- Laws of inodes: what one says hangs on its own words, which no other inode has.
use Rattle.std.proofs.Common.{◌≡◌, ◌≢◌, ℕ, ◌-◌, ◌*◌, ◌<◌, ◌≤◌, List, slice_index, refl, sym, ◌∙◌, arith}
use Rattle.layout.specs.declared.fields.InodeFields.{InodeFields}
use Rattle.layout.specs.Geometry.{IsVolumeSize, inodes_of, inode_word_of}
use Rattle.layout.proofs.GeometryLaws.{same_inode_word, inode_word_within}
use Rattle.layout.specs.Fields.{word, inode_fields, inode_kind, inode_links, inode_size, inode_own}
use Rattle.fence_token.specs.Objects.{IsLocal}
use Rattle.inode_state.specs.Inode.{InodeView, IsInodeWord, fields_at}

pub same_fields : (one two : InodeFields) → one.kind ≡ two.kind → one.links ≡ two.links → one.size ≡ two.size → one.own ≡ two.own → one ≡ two
same_fields one two kind links size own = rw (kind, links, size, own) refl

-- the word of a field is the inode's
pub inode_word_is : (number field : ℕ) → field < inode_fields → IsInodeWord number (inode_word_of number field)
inode_word_is number field is_field = record { field = field; is_field = is_field; at = refl }

-- two lists of words with the same words of an inode say the same of it
pub same_fields_at : (number : ℕ) (old new : List ℕ) → ((word : ℕ) → IsInodeWord number word → slice_index new word ≡ slice_index old word) → fields_at new number ≡ fields_at old number
unfolding inode_kind inode_links inode_size inode_own word
same_fields_at number old new same =
    same_fields (fields_at new number) (fields_at old number) (at 0 (omega arith)) (at 1 (omega arith)) (at 2 (omega arith)) (at 3 (omega arith))
  where
    at : (field : ℕ) → field < inode_fields → slice_index new (inode_word_of number field) ≡ slice_index old (inode_word_of number field)
    at field is_field = same (inode_word_of number field) (inode_word_is number field is_field)

-- what an inode says hangs on its own words alone
pub inode_is_local : (inode : InodeView) → IsLocal (IsInodeWord inode.number) (λ words. fields_at words inode.number ≡ inode.fields)
inode_is_local inode = record {
  carries = λ old new same reads. same_fields_at inode.number old new same ∙ reads;
}

-- no word is of two inodes
pub inode_words_apart : (one two word : ℕ) → 1 ≤ one → 1 ≤ two → one ≢ two → IsInodeWord one word → ¬ IsInodeWord two word
inode_words_apart one two word some others differ is_one is_two =
    let first = is_one.is_field in
    let second = is_two.is_field in
    differ ((same_inode_word one two is_one.field is_two.field some others (omega (arith, first)) (omega (arith, second)) (sym is_one.at ∙ is_two.at)).0)

-- its words stand in one line
pub inode_line : (number word : ℕ) → IsInodeWord number word → (inode_word_of number 0 ≤ word) × (word ≤ inode_word_of number (inode_fields - 1))
unfolding inode_word_of
inode_line number word is =
    let field = is.is_field in
    let at = is.at in
    (omega (arith, field, at), omega (arith, field, at))

-- and are words of the volume
pub inode_word_in_volume : (pages number word : ℕ) → IsVolumeSize pages → 1 ≤ number → number ≤ inodes_of pages → IsInodeWord number word → word < 512 * pages
inode_word_in_volume pages number word size some in_range is =
    let field = is.is_field in
    let within = inode_word_within pages number is.field size some in_range (omega (arith, field)) in
    omega (arith, within, is.at)
