-- Bytes that were copied to the front of a buffer.
use Rattle.std.proofs.Common.{◌≡◌, ℕ, ◌+◌, ◌<◌, ◌≤◌, min, List, [], ◌∷◌, ◌++◌, length, take, drop, subst, refl, arith}
use Rattle.std.proofs.lemmas.List.{take-append-drop, drop-drop}
use Rattle.std.proofs.Math.Seq.{take-append_seam}

-- what was copied to the front of a buffer, and what is left behind it, are the bytes from here on
pub copied_then_left : (bytes copied behind : List ℕ) (at count : ℕ) → copied ≡ take count (drop at bytes) → length copied ≡ count
    → drop at bytes ≡ take count (copied ++ behind) ++ drop (at + count) bytes
copied_then_left bytes copied behind at count is long =
    let front : take count (copied ++ behind) ≡ copied =
    subst (λ (n : ℕ). take n (copied ++ behind) ≡ copied) long (take-append_seam copied behind) in
    let whole : take count (drop at bytes) ++ drop count (drop at bytes) ≡ drop at bytes = take-append-drop count (drop at bytes) in
    let later : drop count (drop at bytes) ≡ drop (at + count) bytes = drop-drop count at bytes in
    cc

-- where a step gives none to a buffer that has room, no byte is left
pub none_left : (bytes : List ℕ) (step room count : ℕ) → 1 ≤ step → 0 < room → count ≡ min step (min room (length bytes)) → count ≡ 0 → bytes ≡ []
none_left [] step room count moves some is none = refl
none_left (byte ∷ bytes) step room count moves some is none = absurd (omega arith)
