-- How many words of an inode and of a descriptor are read. The bounds hold in each version, and equal words 1 give equal widths. That they
-- are the numbers of words that a call writes holds of the version that the program makes.
use Rattle.std.proofs.Common.{◌≡◌, ◌⊎◌, inl, inr, ℕ, zero, suc, ◌<◌, ◌≤◌, List, refl, arith}
use Rattle.layout.specs.Fields.{word, inode_words, descriptor_words, inode_fields, descriptor_fields, IsKindOrOffset}

-- ---- bounds

pub inode_words_bounds : (I : List ℕ) → (4 ≤ inode_words I) × (inode_words I ≤ 16)
unfolding inode_words
inode_words_bounds I = (omega arith, omega arith)

pub descriptor_words_bounds : (I : List ℕ) → (3 ≤ descriptor_words I) × (descriptor_words I ≤ 8)
unfolding descriptor_words
descriptor_words_bounds I = (omega arith, omega arith)

-- a word that is read is one of the inode's
pub in_inode : (I : List ℕ) (f : ℕ) → f < inode_words I → f < 16
in_inode I f lt = let most = (inode_words_bounds I).1 in omega (arith, lt, most)

-- and one of the descriptor's
pub in_descriptor : (I : List ℕ) (f : ℕ) → f < descriptor_words I → f < 8
in_descriptor I f lt = let most = (descriptor_words_bounds I).1 in omega (arith, lt, most)

-- a field that has a name is read
pub inode_field_read : (I : List ℕ) (f : ℕ) → f < 4 → f < inode_words I
inode_field_read I f lt = let least = (inode_words_bounds I).0 in omega (arith, lt, least)

pub descriptor_field_read : (I : List ℕ) (f : ℕ) → f < 3 → f < descriptor_words I
descriptor_field_read I f lt = let least = (descriptor_words_bounds I).0 in omega (arith, lt, least)

-- ---- equal widths

pub same_inode_words : (I J : List ℕ) → word J 1 ≡ word I 1 → inode_words J ≡ inode_words I
unfolding inode_words
same_inode_words I J version = refl

pub same_descriptor_words : (I J : List ℕ) → word J 1 ≡ word I 1 → descriptor_words J ≡ descriptor_words I
unfolding descriptor_words
same_descriptor_words I J version = refl

-- ---- in the version that the program makes

pub inode_words_written : (I : List ℕ) → inode_words I ≡ inode_fields
unfolding inode_words
inode_words_written I = refl

pub descriptor_words_written : (I : List ℕ) → descriptor_words I ≡ descriptor_fields
unfolding descriptor_words
descriptor_words_written I = refl

-- ---- behind a descriptor's owner

pub kind_or_offset : (f : ℕ) → 1 ≤ f → f < descriptor_fields → IsKindOrOffset f
kind_or_offset zero some lt = absurd (omega (arith, some))
kind_or_offset (suc zero) some lt = inl refl
kind_or_offset (suc (suc zero)) some lt = inr refl
kind_or_offset (suc (suc (suc f))) some lt = absurd (omega (arith, lt))
