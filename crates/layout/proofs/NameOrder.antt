-- The order of two names is that of the bytes in which they lie, behind their lengths.
use Rattle.std.proofs.Common.{◌≡◌, ◌≢◌, ℕ, zero, suc, ◌+◌, ◌-◌, ◌<◌, Bool, true, false, ◌&&◌, ◌||◌, not, cond, eqb, List, [], ◌∷◌, ◌++◌, length, drop, replicate, refl, sym, ap, ◌∙◌, arith, eq-eqb, ne_eqb, lt-ltb, ltb, Less, Equal, Greater}
use Rattle.std.proofs.lemmas.Bool.{cond-true, cond-false, le-ltb}
use Rattle.std.specs.Cmp.{tied_itself}
use Rattle.std.specs.Cmp.Lexicographic.{slice_cmp, nat_list_cmp_total}
use Rattle.std.specs.Ordering.{nat_cmp, ordering_then}
use Rattle.std.specs.List.{list_any}
use Rattle.layout.specs.Name.{IsName, is_short, is_empty, is_reserved, is_separator, has_separator, name_limit, padded, bytes_of_words, name_in_words, IsNameWords, name_cmp}
use Rattle.layout.proofs.NameLaws.{short, bytes_of_words-IsNameWords}

-- no byte is 0
abbrev pub HasNoZero : List ℕ → Type 0
HasNoZero [] = Unit {0}
HasNoZero (x ∷ xs) = (x ≢ 0) × HasNoZero xs

neither : (a b : Bool) → a || b ≡ false → (a ≡ false) × (b ≡ false)
neither true b e = absurd (let no : ⊥ = cc in no)
neither false b e = (refl, e)

no_zero : (bytes : List ℕ) → has_separator bytes ≡ false → HasNoZero bytes
no_zero [] h = tt
no_zero (x ∷ xs) h =
    let parts = neither (is_separator x) (list_any is_separator xs) h in
    let first = neither (eqb x 0) (eqb x 47) parts.0 in
    ((λ e. let e' = eq-eqb x 0 e in let no : ⊥ = cc in no), no_zero xs parts.1)

plain : (a b c d : Bool) → (not a && not b && not c) && d ≡ true → b ≡ false
plain true b c d h = absurd (let no : ⊥ = cc in no)
plain false true c d h = absurd (let no : ⊥ = cc in no)
plain false false c d h = refl

pub name_has_no_zero : (name : List ℕ) → IsName name → HasNoZero name
name_has_no_zero name h = no_zero name (plain (is_empty name) (has_separator name) (is_reserved name) (is_short name) h)

zero_before : (y : ℕ) → y ≢ 0 → nat_cmp 0 y ≡ Less
zero_before y n = let lt : 0 < y = omega (arith, n) in cond-true (ltb 0 y) Less _ (lt-ltb 0 y lt)

zero_behind : (x : ℕ) → x ≢ 0 → nat_cmp x 0 ≡ Greater
zero_behind x n =
    cond-false (ltb x 0) Less (cond (eqb x 0) Equal Greater) (le-ltb x 0 (omega arith))
    ∙ cond-false (eqb x 0) Equal Greater (ne_eqb x 0 n)

-- zeros behind two lists up to one length don't change their order
pub cmp_with_zeros : (a b : List ℕ) (m n : ℕ) → HasNoZero a → HasNoZero b → length a + m ≡ length b + n
    → slice_cmp nat_cmp (a ++ replicate m 0) (b ++ replicate n 0) ≡ slice_cmp nat_cmp a b
cmp_with_zeros [] [] m n ha hb e =
    let same : m ≡ n = omega (arith, e) in
    ap (λ k. slice_cmp nat_cmp (replicate m 0) (replicate k 0)) (sym same) ∙ tied_itself nat_list_cmp_total (replicate m 0)
cmp_with_zeros [] (y ∷ ys) zero n ha hb e = refl
cmp_with_zeros [] (y ∷ ys) (suc m) n ha hb e = ap (λ r. ordering_then r (slice_cmp nat_cmp (replicate m 0) (ys ++ replicate n 0))) (zero_before y hb.0)
cmp_with_zeros (x ∷ xs) [] m zero ha hb e = refl
cmp_with_zeros (x ∷ xs) [] m (suc n) ha hb e = ap (λ r. ordering_then r (slice_cmp nat_cmp (xs ++ replicate m 0) (replicate n 0))) (zero_behind x ha.0)
cmp_with_zeros (x ∷ xs) (y ∷ ys) m n ha hb e = ap (ordering_then (nat_cmp x y)) (cmp_with_zeros xs ys m n ha.1 hb.1 (omega (arith, e)))

cmp_padded : (a b : List ℕ) → IsName a → IsName b → slice_cmp nat_cmp (drop 2 (padded a)) (drop 2 (padded b)) ≡ name_cmp a b
unfolding padded
cmp_padded a b ha hb =
    let few = short a ha in
    let few' = short b hb in
    cmp_with_zeros a b (name_limit - length a) (name_limit - length b) (name_has_no_zero a ha) (name_has_no_zero b hb) (omega arith)

pub cmp_in_words : (v w : List ℕ) → IsNameWords v → IsNameWords w → slice_cmp nat_cmp (drop 2 (bytes_of_words v)) (drop 2 (bytes_of_words w)) ≡ name_cmp (name_in_words v) (name_in_words w)
cmp_in_words v w hv hw =
    ap (λ l. slice_cmp nat_cmp (drop 2 l) (drop 2 (bytes_of_words w))) (bytes_of_words-IsNameWords v hv)
    ∙ ap (λ l. slice_cmp nat_cmp (drop 2 (padded (name_in_words v))) (drop 2 l)) (bytes_of_words-IsNameWords w hw)
    ∙ cmp_padded (name_in_words v) (name_in_words w) hv.is_name hw.is_name
