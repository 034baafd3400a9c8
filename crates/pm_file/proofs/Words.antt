-- Words out of bytes.
use Rattle.std.proofs.Common.{◌≡◌, inl, inr, refl, ℕ, zero, suc, ◌+◌, ◌*◌, ◌-◌, ◌<◌, List, ◌++◌, length, take, drop, ◌∙◌, ap, subst, arith, slice_index}
use Rattle.std.specs.Prelude.{Option, Some, None, slice_range}
use Rattle.std.proofs.lemmas.Bool.{cases_lt}
use Rattle.std.proofs.lemmas.List.{get_or-append-add, get_or-take, get_or-drop, length-append, append_assoc}
use Rattle.std.proofs.Math.ListN.{get_or-append}
use Rattle.byteorder.specs.Endian.{little_from, IsRead, little_number}
use Rattle.pm_file.specs.Placed.{AreWords, HasBytes, AppendsWords, AppendsFrom}

-- equal bytes make equal numbers, wherever they stand
pub same_number : (xs ys : List ℕ) (p q n : ℕ) → ((j : ℕ) → j < n → slice_index xs (p + j) ≡ slice_index ys (q + j)) → little_from p n xs ≡ little_from q n ys
same_number xs ys p q zero same = refl
same_number xs ys p q (suc n) same =
    let at : p + 0 ≡ p = omega arith in
    let there : q + 0 ≡ q = omega arith in
    let head : slice_index xs p ≡ slice_index ys q = subst (λ (i : ℕ). slice_index xs i ≡ slice_index ys q) at (subst (λ (i : ℕ). slice_index xs (p + 0) ≡ slice_index ys i) there (same 0 (omega arith))) in
    let tail : little_from (suc p) n xs ≡ little_from (suc q) n ys = same_number xs ys (suc p) (suc q) n (λ j below.
    let from : p + suc j ≡ suc p + j = omega arith in
    let to : q + suc j ≡ suc q + j = omega arith in
    subst (λ (i : ℕ). slice_index xs i ≡ slice_index ys (suc q + j)) from (subst (λ (i : ℕ). slice_index xs (p + suc j) ≡ slice_index ys i) to (same (suc j) (omega (arith, below))))) in
    rw (head, tail) refl

-- the words of a page of the bytes are words of all the bytes
page_words : (bytes part : List ℕ) (page : ℕ) → length part ≡ 512 → IsRead little_number 8 (slice_range bytes (page * 4096) (page * 4096 + 4096)) part → AreWords bytes (512 * page) part
page_words bytes part page long read = λ k below.
    let size : page * 4096 + 4096 - page * 4096 ≡ 4096 = omega arith in
    let range : slice_range bytes (page * 4096) (page * 4096 + 4096) ≡ take 4096 (drop (page * 4096) bytes) = rw size refl in
    let is : slice_index part k ≡ little_number 8 (drop (8 * k) (take 4096 (drop (page * 4096) bytes))) = subst (λ (l : List ℕ). slice_index part k ≡ little_number 8 (drop (8 * k) l)) range (read k below) in
    is ∙ same_number (drop (8 * k) (take 4096 (drop (page * 4096) bytes))) bytes 0 (8 * (512 * page + k)) 8 (λ j small.
    let inside : 8 * k + j < 4096 = omega (arith, long, below, small) in
    let place : page * 4096 + (8 * k + j) ≡ 8 * (512 * page + k) + j = omega arith in
    let plain : 0 + j ≡ j = omega arith in
    get_or-drop (8 * k) (take 4096 (drop (page * 4096) bytes)) (0 + j) 0
    ∙ ap (λ (i : ℕ). slice_index (take 4096 (drop (page * 4096) bytes)) (8 * k + i)) plain
    ∙ get_or-take 4096 (drop (page * 4096) bytes) (8 * k + j) 0 inside
    ∙ get_or-drop (page * 4096) bytes (8 * k + j) 0
    ∙ ap (λ (i : ℕ). slice_index bytes i) place)

-- words that follow others
more_words : (bytes words part : List ℕ) (n : ℕ) → length words ≡ n → AreWords bytes 0 words → AreWords bytes n part → AreWords bytes 0 (words ++ part)
more_words bytes words part n long had has = λ k below. elim (cases_lt k n) [
  | inl low ↦ get_or-append words part 0 k (omega (arith, long, low)) ∙ had k (omega (arith, long, low))
  | inr high ↦
      let place : length words + (k - n) ≡ k = omega (arith, long, high) in
      let is : slice_index (words ++ part) k ≡ slice_index part (k - n) = subst (λ (j : ℕ). slice_index (words ++ part) j ≡ slice_index part (k - n)) place (get_or-append-add words part (k - n) 0) in
      let all : length (words ++ part) ≡ length words + length part = length-append words part in
      let from : 8 * (n + (k - n)) ≡ 8 * (0 + k) = omega (arith, high) in
      is ∙ has (k - n) (omega (arith, all, long, high, below)) ∙ ap (λ (i : ℕ). little_from i 8 bytes) from
]

-- one more page was appended
pub page_more : (bytes old items more : List ℕ) (page : ℕ) → AppendsWords bytes (512 * page) old items → length more ≡ 512 → IsRead little_number 8 (slice_range bytes (page * 4096) (page * 4096 + 4096)) more → AppendsWords bytes (512 * (page + 1)) old (items ++ more)
page_more bytes old items more page (part, is, long, had) size read =
    let joined : items ++ more ≡ old ++ (part ++ more) = rw is (append_assoc old part more) in
    let all : length (part ++ more) ≡ 512 * (page + 1) = length-append part more ∙ omega (arith, long, size) in
    (part ++ more, joined, all, more_words bytes part more (512 * page) long had (page_words bytes more page size read))

-- the words of what was read of a file are the file's
pub read_words : (bytes : Option (List ℕ)) (buffer old new : List ℕ) (page count : ℕ) → length buffer ≡ 4096 * count → HasBytes bytes (4096 * page) buffer → AppendsWords buffer (512 * count) old new → AppendsFrom bytes (512 * page) (512 * count) old new
read_words None buffer old new page count long has (part, is, size, are) = (part, is, size, tt)
read_words (Some bytes) buffer old new page count long has (part, is, size, are) = (
  part,
  is,
  size,
  λ k below.
      are k below ∙ same_number buffer bytes (8 * (0 + k)) (8 * (512 * page + k)) 8 (λ j small.
      let place : 4096 * page + (8 * (0 + k) + j) ≡ 8 * (512 * page + k) + j = omega arith in
      has (8 * (0 + k) + j) (omega (arith, long, size, below, small)) ∙ ap (λ (i : ℕ). slice_index bytes i) place),
)
