-- A buffer that is filled read by read.
use Rattle.std.proofs.Common.{◌≡◌, ℕ, ◌+◌, ◌≤◌, List, [], ◌++◌, length, take, refl, sym, ap, ◌∙◌, append_assoc}
use Rattle.std.specs.Prelude.{Option, Some, None}
use Rattle.std.proofs.lemmas.List.{take-append-le, length-take-le}
use Rattle.std.proofs.Math.Seq.{take-append-add}
use borrow.Rule.Slice.PartMut.{put_mid, post_of}
use Rattle.io_edge.specs.Bytes.{GivesFirst}

pub gives_none : (left : Option (List ℕ)) → GivesFirst left [] left
gives_none None = refl
gives_none (Some bytes) = refl

-- a piece behind another
pub gives_then : (left between now : Option (List ℕ)) (first second : List ℕ) → GivesFirst left first between → GivesFirst between second now → GivesFirst left (first ++ second) now
gives_then None None now first second one two = two
gives_then None (Some between) now first second one two = absurd (cc one)
gives_then (Some old) None now first second one two = absurd one
gives_then (Some old) (Some between) None first second one two = absurd two
gives_then (Some old) (Some between) (Some now) first second one two = one ∙ ap (λ (rest : List ℕ). first ++ rest) two ∙ sym (append_assoc first second now)

-- of a buffer a part of which was overwritten: what stands before that part, and so many bytes of the new one
pub take_filled : (xs ys : List ℕ) (filled room count : ℕ) → filled ≤ length xs → count ≤ length ys → take (filled + count) (put_mid filled room xs ys) ≡ take filled xs ++ take count ys
take_filled xs ys filled room count within fits =
    ap (λ (n : ℕ). take (n + count) (put_mid filled room xs ys)) (sym (length-take-le filled xs within))
    ∙ take-append-add (take filled xs) (ys ++ post_of filled room xs) count
    ∙ ap (λ (rest : List ℕ). take filled xs ++ rest) (take-append-le count ys (post_of filled room xs) fits)
