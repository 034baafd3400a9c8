-- The bytes of words, the least significant of each first.
use Rattle.std.proofs.Common.{◌≡◌, ℕ, zero, suc, ◌/◌, ◌%◌, ◌^◌, ◌<◌, List, length, slice_index, refl, sym, ap, ◌∙◌, arith, w64}
use Rattle.std.proofs.Math.Nat.{div-one}
use Rattle.std.specs.Int.{from_le_bytes}
use Rattle.std.proofs.lemmas.Nat.{le_bytes_8}
use Rattle.layout.specs.Geometry.{page_word_of}
use Rattle.layout.specs.Fields.{word, page_byte}
use Rattle.layout.specs.Name.{IsBytes, word_of, bytes_of_word}

-- byte k of a word
pub slice_index-bytes_of_word : (word k : ℕ) → k < 8 → slice_index (bytes_of_word word) k ≡ word / 256 ^ k % 256
unfolding bytes_of_word
slice_index-bytes_of_word word zero few = ap (λ x. x % 256) (sym (div-one word))
slice_index-bytes_of_word word (suc zero) few = refl
slice_index-bytes_of_word word (suc (suc zero)) few = refl
slice_index-bytes_of_word word (suc (suc (suc zero))) few = refl
slice_index-bytes_of_word word (suc (suc (suc (suc zero)))) few = refl
slice_index-bytes_of_word word (suc (suc (suc (suc (suc zero))))) few = refl
slice_index-bytes_of_word word (suc (suc (suc (suc (suc (suc zero)))))) few = refl
slice_index-bytes_of_word word (suc (suc (suc (suc (suc (suc (suc zero))))))) few = refl
slice_index-bytes_of_word word (suc (suc (suc (suc (suc (suc (suc (suc k)))))))) few = absurd (omega (arith, few))

-- the word of eight bytes has these bytes
pub bytes_of_word-word_of : (bytes : List ℕ) → length bytes ≡ 8 → IsBytes bytes → bytes_of_word (word_of bytes) ≡ bytes
unfolding bytes_of_word word_of
bytes_of_word-word_of bytes eight small = le_bytes_8 bytes (from_le_bytes w64 bytes) eight small refl

pub byte-word_of : (bytes : List ℕ) (k : ℕ) → length bytes ≡ 8 → IsBytes bytes → k < 8 → word_of bytes / 256 ^ k % 256 ≡ slice_index bytes k
byte-word_of bytes k eight small few = sym (slice_index-bytes_of_word (word_of bytes) k few) ∙ ap (λ (l : List ℕ). slice_index l k) (bytes_of_word-word_of bytes eight small)

-- ---- bytes of a data page

-- with the same word in its place, the byte is the same
pub page_byte-kept : (P : ℕ) (I J : List ℕ) (j o : ℕ) → word J (page_word_of P j (o / 8)) ≡ word I (page_word_of P j (o / 8)) → page_byte P J j o ≡ page_byte P I j o
unfolding page_byte
page_byte-kept P I J j o same = ap (λ (w : ℕ). w / 256 ^ (o % 8) % 256) same

-- where a word of eight bytes stands, the page has these bytes
pub page_byte-stored : (P : ℕ) (I : List ℕ) (j o : ℕ) (bytes : List ℕ) → length bytes ≡ 8 → IsBytes bytes → word I (page_word_of P j (o / 8)) ≡ word_of bytes → page_byte P I j o ≡ slice_index bytes (o % 8)
unfolding page_byte
page_byte-stored P I j o bytes eight small stored = ap (λ (w : ℕ). w / 256 ^ (o % 8) % 256) stored ∙ byte-word_of bytes (o % 8) eight small (omega arith)
