-- Decoding pairs of digits, one after another.
use Rattle.std.proofs.Common.{◌≡◌, ℕ, ◌+◌, ◌*◌, ◌/◌, ◌%◌, ◌<◌, ◌≤◌, Bool, true, false, ◌&&◌, List, length, take, drop, slice_index, slice_set, Option, Some, None, is_some, if◌then◌else◌, Ok, Err, refl, sym, ap, ◌∙◌, arith}
use Rattle.std.specs.Prelude.{IfSome}
use Rattle.hex.specs.Hex.{decode_of, decode_pairs, digit_or_error, hex_digit_value, is_hex_digit, pair_value, value_at}
use Rattle.hex.specs.declared.error.FromHexError.TheVariants.{InvalidHexCharacter}
use Rattle.hex.proofs.Pairs.{prepend, decode_step, decode_err, decode_done}
use Rattle.hex.proofs.HexLemmas.{decode_of-even, decode_of-odd}
use Rattle.script.specs.Lines.{if_decoded}

-- what was found of the first pairs of a text: their bytes, or that it doesn't decode
abbrev pub Decoded : Bool → ℕ → List ℕ → List ℕ → Type 0
Decoded true i text bytes = decode_pairs 0 text ≡ prepend (take i bytes) (decode_pairs (2 * i) (drop (2 * i) text))
Decoded false i text bytes = if_decoded (decode_pairs 0 text) ≡ None

digit_ok : (byte i value : ℕ) (o : Option ℕ) → is_some o ≡ true → IfSome o (λ v. value ≡ v) → digit_or_error byte i o ≡ Ok value
digit_ok byte i value (Some v) some same = ap Ok (sym same)
digit_ok byte i value None some same = cc some

digit_err : (byte i : ℕ) (o : Option ℕ) → is_some o ≡ false → digit_or_error byte i o ≡ Err (InvalidHexCharacter byte i)
digit_err byte i (Some v) none = cc none
digit_err byte i None none = refl

some_value : (o : Option ℕ) → is_some o ≡ true → (v : ℕ) × (o ≡ Some v)
some_value (Some v) some = (v, refl)
some_value None some = cc some

-- what two digits spell
pair_ok : (a b i h l : ℕ) → true ≡ is_hex_digit a → true ≡ is_hex_digit b → IfSome (hex_digit_value a) (λ v. h ≡ v) → IfSome (hex_digit_value b) (λ v. l ≡ v)
    → pair_value a b i ≡ Ok (h * 16 + l)
pair_ok a b i h l first second high low =
    let ha : value_at a i ≡ Ok h = digit_ok a i h (hex_digit_value a) (sym first) high in
    let hb : value_at b (i + 1) ≡ Ok l = digit_ok b (i + 1) l (hex_digit_value b) (sym second) low in
    rw (ha, hb) refl

-- a first byte that is no digit, and a second one
first_err : (a b i : ℕ) → false ≡ is_hex_digit a → pair_value a b i ≡ Err (InvalidHexCharacter a i)
first_err a b i none =
    let ha : value_at a i ≡ Err (InvalidHexCharacter a i) = digit_err a i (hex_digit_value a) (sym none) in
    rw ha refl

second_err : (a b i : ℕ) → true ≡ is_hex_digit a → false ≡ is_hex_digit b → pair_value a b i ≡ Err (InvalidHexCharacter b (i + 1))
second_err a b i some none =
    let digit = some_value (hex_digit_value a) (sym some) in
    let ha : value_at a i ≡ Ok digit.0 = ap (digit_or_error a i) digit.1 in
    let hb : value_at b (i + 1) ≡ Err (InvalidHexCharacter b (i + 1)) = digit_err b (i + 1) (hex_digit_value b) (sym none) in
    rw (ha, hb) refl

-- one pair more
pub decoded_more : (valid first second : Bool) (text bytes : List ℕ) (i h l : ℕ) → 2 * i + 1 < length text → i < length bytes
    → first ≡ is_hex_digit (slice_index text (2 * i)) → second ≡ is_hex_digit (slice_index text (2 * i + 1))
    → IfSome (hex_digit_value (slice_index text (2 * i))) (λ v. h ≡ v) → IfSome (hex_digit_value (slice_index text (2 * i + 1))) (λ v. l ≡ v)
    → Decoded valid i text bytes → Decoded (valid && first && second) (i + 1) text (slice_set bytes i (h * 16 + l))
decoded_more false first second text bytes i h l fits room one two high low known = known
decoded_more true true true text bytes i h l fits room one two high low known =
    decode_step text bytes i (h * 16 + l) fits room (pair_ok (slice_index text (2 * i)) (slice_index text (2 * i + 1)) (2 * i) h l one two high low) known
decoded_more true true false text bytes i h l fits room one two high low known =
    ap if_decoded (decode_err text bytes i _ fits (second_err (slice_index text (2 * i)) (slice_index text (2 * i + 1)) (2 * i) one two) known)
decoded_more true false second text bytes i h l fits room one two high low known =
    ap if_decoded (decode_err text bytes i _ fits (first_err (slice_index text (2 * i)) (slice_index text (2 * i + 1)) (2 * i) one) known)

-- all pairs
pub decoded_all : (valid : Bool) (text bytes : List ℕ) (i : ℕ) → length text % 2 ≡ 0 → length bytes ≡ length text / 2 → length bytes ≤ i → Decoded valid i text bytes
    → if_decoded (decode_of text) ≡ if valid then Some bytes else None
decoded_all true text bytes i even long all known = ap if_decoded (decode_of-even text even ∙ decode_done text bytes i all (omega arith) known)
decoded_all false text bytes i even long all none = ap if_decoded (decode_of-even text even) ∙ none

pub decoded_odd : (text : List ℕ) → length text % 2 ≡ 1 → if_decoded (decode_of text) ≡ None
decoded_odd text odd = ap if_decoded (decode_of-odd text odd)
