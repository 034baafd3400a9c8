-- How the words of the generator and the text of a line are put together.
use Rattle.std.proofs.Common.{◌≡◌, ℕ, ◌+◌, ◌/◌, ◌%◌, ◌<◌, ◌≤◌, List, [], ◌∷◌, ◌++◌, length, replicate, decimal, refl, sym, ap, ◌∙◌, arith}
use Rattle.std.specs.Prelude.{slice_index}
use Rattle.std.proofs.lemmas.Fmt.{length-decimal-le}
use Rattle.std.proofs.lemmas.List.{append-nil, replicate_more}
use Rattle.hex.specs.Hex.{encode_lower, encode_with, lower_digits}
use Rattle.rand_pcg.specs.Lcg.{Lcg}
use Rattle.rand_pcg.specs.Pcg.{pcg32}
use Rattle.crash_replay.specs.Work.{word_of, behind_word}

-- ---- a word

pub is_word : (g next : Lcg) (word : ℕ) → (word, next) ≡ pcg32 g → word ≡ word_of g
unfolding word_of
is_word g next word taken = ap (λ (p : ℕ × Lcg). p.0) taken

pub is_behind : (g next : Lcg) (word : ℕ) → (word, next) ≡ pcg32 g → next ≡ behind_word g
unfolding behind_word
is_behind g next word taken = ap (λ (p : ℕ × Lcg). p.1) taken

-- ---- how many digits a number has

pub directory_digits : (x : ℕ) → length (decimal (x % 4)) ≤ 1
directory_digits x = length-decimal-le 1 (x % 4) (omega arith) (omega arith) (omega arith)

pub two_digits : (n : ℕ) → n < 100 → length (decimal n) ≤ 2
two_digits n small = length-decimal-le 2 n (omega arith) (omega arith) (omega arith)

pub offset_digits : (x : ℕ) → length (decimal (x % 8192)) ≤ 4
offset_digits x = length-decimal-le 4 (x % 8192) (omega arith) (omega arith) (omega arith)

pub size_digits : (x : ℕ) → length (decimal (x % 10000)) ≤ 4
size_digits x = length-decimal-le 4 (x % 10000) (omega arith) (omega arith) (omega arith)

-- ---- the digits of equal bytes

encode_append : (front back : List ℕ) → encode_lower (front ++ back) ≡ encode_lower front ++ encode_lower back
unfolding encode_with
encode_append [] back = refl
encode_append (b ∷ front) back =
    ap (λ rest. slice_index lower_digits (b / 16) ∷ slice_index lower_digits (b % 16) ∷ rest) (encode_append front back)

pub encode_none : (text : List ℕ) (byte : ℕ) → text ≡ text ++ encode_lower (replicate 0 byte)
unfolding encode_with
encode_none text byte = sym (append-nil text)

-- one byte more at the end
pub encode_more : (count byte : ℕ) → encode_lower (replicate (count + 1) byte) ≡ encode_lower (replicate count byte) ++ encode_lower (byte ∷ [])
encode_more count byte = ap encode_lower (sym (replicate_more count byte)) ∙ encode_append (replicate count byte) (byte ∷ [])
