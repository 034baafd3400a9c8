-- What follows of words that are read together.
use Rattle.std.proofs.Common.{◌≡◌, ℕ, zero, suc, ◌+◌, ◌-◌, ◌/◌, ◌%◌, ◌^◌, ◌<◌, ◌≤◌, List, [], ◌∷◌, length, get_or, take, drop, slice_range, refl, sym, ap, ◌∙◌, arith}
use Rattle.std.proofs.Math.Nat.{div-le_self, div-one}
use Rattle.std.proofs.Math.Seq.{drop-cons}
use Rattle.layout.specs.Fields.{word, words_from, byte_of}
use Rattle.layout.specs.Name.{bytes_of_word, bytes_of_words}

-- word k of them
pub get_or-words_from : (I : List ℕ) (a n k : ℕ) → k < n → get_or (words_from I a n) k 0 ≡ word I (a + k)
unfolding words_from
get_or-words_from I a zero k h = absurd (omega arith)
get_or-words_from I a (suc n) zero h = ap (word I) (omega arith)
get_or-words_from I a (suc n) (suc k) h =
    let e : a + 1 + k ≡ a + suc k = omega arith in
    get_or-words_from I (a + 1) n k (omega arith) ∙ ap (word I) e

-- where the image has them all, they are a part of it
words_from-take : (I : List ℕ) (a n : ℕ) → a + n ≤ length I → words_from I a n ≡ take n (drop a I)
unfolding words_from
words_from-take I a zero h = refl
words_from-take I a (suc n) h =
    let here : a < length I = omega arith in
    let next : a + 1 ≡ suc a = omega arith in
    ap (λ xs. get_or I a 0 ∷ xs) (words_from-take I (a + 1) n (omega arith) ∙ ap (λ k. take n (drop k I)) next)
    ∙ ap (λ xs. take (suc n) xs) (sym (drop-cons I a 0 here))

pub words_from_range : (I : List ℕ) (a n : ℕ) → a + n ≤ length I → words_from I a n ≡ slice_range I a (a + n)
words_from_range I a n h =
    let e : a + n - a ≡ n = omega arith in
    words_from-take I a n h ∙ ap (λ k. take k (drop a I)) (sym e)

-- equal words, read together
pub same_words_from : (I J : List ℕ) (a n : ℕ) → ((k : ℕ) → k < n → word I (a + k) ≡ word J (a + k)) → words_from I a n ≡ words_from J a n
unfolding words_from
same_words_from I J a zero same = refl
same_words_from I J a (suc n) same =
    let start : a + 0 ≡ a = omega arith in
    let here = ap (word I) (sym start) ∙ same 0 (omega arith) ∙ ap (word J) start in
    let rest : (k : ℕ) → k < n → word I (a + 1 + k) ≡ word J (a + 1 + k) = λ k h.
    let e : a + 1 + k ≡ a + (k + 1) = omega arith in
    ap (word I) e ∙ same (k + 1) (omega arith) ∙ ap (word J) (sym e) in
    ap (λ x. x ∷ words_from I (a + 1) n) here ∙ ap (λ xs. word J a ∷ xs) (same_words_from I J (a + 1) n rest)

-- byte o of the bytes of words is byte o of the words
pub get_or-bytes_of_words : (words : List ℕ) (o : ℕ) → get_or (bytes_of_words words) o 0 ≡ byte_of words o
unfolding byte_of bytes_of_word
get_or-bytes_of_words [] o =
    let small = div-le_self 0 (256 ^ (o % 8)) in
    let none : 0 / 256 ^ (o % 8) ≡ 0 = omega (arith, small) in
    ap (λ x. x % 256) (sym none)
get_or-bytes_of_words (w ∷ ws) zero = ap (λ x. x % 256) (sym (div-one w))
get_or-bytes_of_words (w ∷ ws) (suc zero) = refl
get_or-bytes_of_words (w ∷ ws) (suc (suc zero)) = refl
get_or-bytes_of_words (w ∷ ws) (suc (suc (suc zero))) = refl
get_or-bytes_of_words (w ∷ ws) (suc (suc (suc (suc zero)))) = refl
get_or-bytes_of_words (w ∷ ws) (suc (suc (suc (suc (suc zero))))) = refl
get_or-bytes_of_words (w ∷ ws) (suc (suc (suc (suc (suc (suc zero)))))) = refl
get_or-bytes_of_words (w ∷ ws) (suc (suc (suc (suc (suc (suc (suc zero))))))) = refl
get_or-bytes_of_words (w ∷ ws) (suc (suc (suc (suc (suc (suc (suc (suc o)))))))) =
    let next : suc (suc (suc (suc (suc (suc (suc (suc o))))))) / 8 ≡ suc (o / 8) = omega arith in
    let same : suc (suc (suc (suc (suc (suc (suc (suc o))))))) % 8 ≡ o % 8 = omega arith in
    get_or-bytes_of_words ws o
    ∙ sym (ap (λ k. get_or (w ∷ ws) k 0 / 256 ^ (suc (suc (suc (suc (suc (suc (suc (suc o))))))) % 8) % 256) next
    ∙ ap (λ r. get_or ws (o / 8) 0 / 256 ^ r % 256) same)
