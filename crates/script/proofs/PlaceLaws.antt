-- Where a byte stands among bytes.
use Rattle.std.proofs.Common.{◌≡◌, ℕ, ◌+◌, ◌<◌, ◌≤◌, Bool, true, false, ◌==◌, Option, Some, None, List, ◌∷◌, ◌++◌, length, take, drop, slice_index, refl, sym, ap, ◌∙◌, arith, append_assoc}
use Rattle.std.proofs.lemmas.List.{take-append-drop, take-take, drop-take, drop-drop, drop_more, get_or-take, length-take-le, length-drop}
use Rattle.std.proofs.lemmas.List.Elements.{All-from_get_or, All-append, All-same}
use Rattle.std.specs.Prelude.{MatchOption}
use Rattle.std.proofs.lemmas.Bool.{eqb-true}
use Rattle.memchr.specs.Find.{IsFirstByte, is_byte}
use Rattle.script.specs.Places.{Lacks, BreaksAt}

pub lacks : (byte : ℕ) (bytes : List ℕ) → ((k : ℕ) → k < length bytes → (slice_index bytes k == byte) ≡ false) → Lacks byte bytes
lacks byte bytes none = All-from_get_or (λ b. (b == byte) ≡ false) bytes 0 none

pub breaks_at : (byte : ℕ) (bytes : List ℕ) (place : ℕ) → place < length bytes → slice_index bytes place ≡ byte
    → ((k : ℕ) → k < place → (slice_index bytes k == byte) ≡ false) → BreaksAt byte bytes place
breaks_at byte bytes place within found none = record {
  within = within;
  before = lacks byte (take place bytes) (λ k h. rw (get_or-take place bytes k 0 (omega (arith, h, length-take-le place bytes (omega arith)))) (none k (omega (arith, h, length-take-le place bytes (omega arith)))));
  split = sym (take-append-drop place bytes) ∙ ap (λ rest. take place bytes ++ rest) (drop_more bytes place 0 within)
      ∙ ap (λ b. take place bytes ++ b ∷ drop (place + 1) bytes) found;
}

not_true : (test : Bool) → ¬ (test ≡ true) → test ≡ false
not_true true not = absurd (not refl)
not_true false not = refl

-- what the search for a byte finds
pub first_is : (byte : ℕ) (bytes : List ℕ) (found : Option ℕ) → IsFirstByte (is_byte byte) bytes found → MatchOption found (Lacks byte bytes) (BreaksAt byte bytes)
first_is byte bytes (Some place) first = breaks_at byte bytes place first.0.high (eqb-true (slice_index bytes place) byte first.1)
    (λ k below. not_true (slice_index bytes k == byte) (first.0.before k (omega arith) below))
first_is byte bytes None none = lacks byte bytes (λ k below. not_true (slice_index bytes k == byte) (none k (omega arith) below))

take_add : (n m : ℕ) (bytes : List ℕ) → take (n + m) bytes ≡ take n bytes ++ take m (drop n bytes)
take_add n m bytes =
    sym (take-append-drop n (take (n + m) bytes))
    ∙ ap (λ front. front ++ drop n (take (n + m) bytes)) (take-take n (n + m) bytes (omega arith))
    ∙ ap (λ back. take n bytes ++ back) (drop-take n m bytes)

pub lacks_append : (byte : ℕ) (front back : List ℕ) → Lacks byte front → Lacks byte back → Lacks byte (front ++ back)
lacks_append byte front back first second = All-append (λ b. (b == byte) ≡ false) front back first second

pub lacks_behind : (byte : ℕ) (bytes : List ℕ) (known : ℕ) → Lacks byte (take known bytes) → Lacks byte (drop known bytes) → Lacks byte bytes
lacks_behind byte bytes known first second =
    All-same (λ b. (b == byte) ≡ false) bytes (take known bytes ++ drop known bytes) (sym (take-append-drop known bytes))
    (lacks_append byte (take known bytes) (drop known bytes) first second)

pub breaks_behind : (byte : ℕ) (bytes : List ℕ) (known place : ℕ) → known ≤ length bytes → Lacks byte (take known bytes) → BreaksAt byte (drop known bytes) place
    → BreaksAt byte bytes (known + place)
breaks_behind byte bytes known place inside first found =
    let within = found.within in
    record {
      within = omega (arith, within, length-drop known bytes);
      before = All-same (λ b. (b == byte) ≡ false) (take (known + place) bytes) (take known bytes ++ take place (drop known bytes)) (take_add known place bytes)
          (lacks_append byte (take known bytes) (take place (drop known bytes)) first found.before);
      split = sym (take-append-drop known bytes)
          ∙ ap (λ back. take known bytes ++ back) found.split
          ∙ sym (append_assoc (take known bytes) (take place (drop known bytes)) (byte ∷ drop (place + 1) (drop known bytes)))
          ∙ ap (λ front. front ++ (byte ∷ drop (place + 1) (drop known bytes))) (sym (take_add known place bytes))
          ∙ ap (λ back. take (known + place) bytes ++ (byte ∷ back)) (drop-drop (place + 1) known bytes ∙ ap (λ n. drop n bytes) (omega arith));
    }
