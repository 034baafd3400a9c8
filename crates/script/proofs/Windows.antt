-- Windows on a list, from a start to an end.
use Rattle.std.proofs.Common.{◌≡◌, ℕ, ◌+◌, ◌-◌, ◌<◌, ◌≤◌, List, ◌++◌, length, take, drop, sym, ap, ◌∙◌, arith}
use borrow.Rule.Slice.PartMut.{put_mid, post_of}
use Rattle.std.specs.Vec.{with_items}
use Rattle.std.specs.Global.{Vec}
use Rattle.std.proofs.lemmas.List.{with_items_is, length-append, drop-take, drop-drop, drop-append-le, take-append-le, length-take-le, length-take, length-drop}
use Rattle.std.proofs.lemmas.Slice.{between_is}
use Rattle.std.proofs.Math.Seq.{take-append-add}

-- a window without its first n elements
pub window_behind : {X : Type 0} (xs : List X) (start end n from : ℕ) → from ≡ start + n → from ≤ end
    → take (end - from) (drop from xs) ≡ drop n (take (end - start) (drop start xs))
window_behind xs start end n from is within =
    let long : n + (end - from) ≡ end - start = omega arith in
    ap (λ k. take (end - from) (drop k xs)) is
    ∙ ap (take (end - from)) (sym (drop-drop n start xs))
    ∙ sym (drop-take n (end - from) (drop start xs))
    ∙ ap (λ k. drop n (take k (drop start xs))) long

-- a window without the element at a place and all before it
pub window_after : {X : Type 0} (xs : List X) (start end place : ℕ) → place < length (take (end - start) (drop start xs))
    → take (end - (start + place + 1)) (drop (start + place + 1) xs) ≡ drop (place + 1) (take (end - start) (drop start xs))
window_after xs start end place within =
    let short : place < end - start = omega (arith, within, length-take (end - start) (drop start xs)) in
    window_behind xs start end (place + 1) (start + place + 1) (omega arith) (omega arith)

-- a window that ends behind a part that was overwritten
pub window_filled : {X : Type 0} (xs ys : List X) (start end upto count k : ℕ) → start ≤ end → end ≤ length xs → count ≤ length ys → upto ≡ end + count
    → take (upto - start) (drop start (put_mid end k xs ys)) ≡ take (end - start) (drop start xs) ++ take count ys
window_filled xs ys start end upto count k order inside fits is =
    let front = drop start (take end xs) in
    let more = ys ++ post_of end k xs in
    let long : upto - start ≡ length front + count = omega (arith, length-drop start (take end xs), length-take-le end xs inside) in
    ap (take (upto - start)) (drop-append-le start (take end xs) more (omega (arith, length-take-le end xs inside)))
    ∙ ap (λ n. take n (front ++ more)) long
    ∙ take-append-add front more count
    ∙ ap (λ ts. front ++ ts) (take-append-le count ys (post_of end k xs) fits)
    ∙ ap (λ ts. ts ++ take count ys) (sym (between_is xs start end))

length_filled : {X : Type 0} (xs ys : List X) (end k : ℕ) → length ys ≡ k → end + k ≤ length xs → length (put_mid end k xs ys) ≡ length xs
length_filled xs ys end k long inside =
    omega (arith, length-append (take end xs) (ys ++ post_of end k xs), length-append ys (post_of end k xs), length-take-le end xs (omega arith), length-drop k (drop end xs), length-drop end xs)

-- a window of a vector that ends behind a part that was overwritten
pub window_of_filled : {X : Type 0} (v : Vec X) (xs ys : List X) (start end upto count k : ℕ) → length xs ≡ v.len → length ys ≡ k → end + k ≤ length xs
    → start ≤ end → count ≤ k → upto ≡ end + count
    → take (upto - start) (drop start (with_items v (put_mid end k xs ys)).items) ≡ take (end - start) (drop start xs) ++ take count ys
window_of_filled v xs ys start end upto count k whole long inside order fits is =
    ap (λ items. take (upto - start) (drop start items)) (with_items_is v (put_mid end k xs ys) (length_filled xs ys end k long inside ∙ whole))
    ∙ window_filled xs ys start end upto count k order (omega arith) (omega arith) is
