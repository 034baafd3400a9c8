-- Texts in pieces.
use Rattle.std.proofs.Common.{◌≡◌, ℕ, List, ◌++◌, length, refl, append_assoc}
use Rattle.percent_encoding.specs.Percent.{percent_encode_byte}

-- the length of an escape
pub length_percent : (b : ℕ) → length (percent_encode_byte b) ≡ 3
unfolding percent_encode_byte
length_percent b = refl

-- ten pieces, and an end
pub regroup : (a b c d e f g h i j k : List ℕ)
    → (((((((((a ++ b) ++ c) ++ d) ++ e) ++ f) ++ g) ++ h) ++ i) ++ j) ++ k ≡ (a ++ (b ++ (c ++ (d ++ (e ++ (f ++ (g ++ (h ++ (i ++ j))))))))) ++ k
regroup a b c d e f g h i j k = simp append_assoc
