-- A call after another, where the number of acknowledgements of the first is known.
use Rattle.std.proofs.Common.{◌≡◌, ℕ, ◌+◌, List, refl, sym, subst, ◌∙◌, ap}
use Rattle.std.specs.Prelude.{Option, Some, None}
use Rattle.pm_trait.specs.Trail.{Trail}
use Rattle.pm_trait.specs.Device.{Continues, LeavesOnly, AcksSettled, MayLeave, IsAckAt, acks_from, moment_of}
use Rattle.pm_trait.proofs.ContinuesLaws.{acks_from-then}
use Rattle.pm_trait.proofs.DeviceLaws.{leaves_then}
use Rattle.pm_trait.proofs.AckLaws.{acks_then}

-- where the trail is told, so many acknowledgements came
abbrev pub Acked : Option Trail → Option Trail → ℕ → Type 0
Acked old new n = (told : Trail) → new ≡ Some told → acks_from old new (moment_of new) ≡ n

-- what goes on from a trail that isn't told is not told
pub untold : {c : Option Trail} → Continues None c → c ≡ None
untold run = run.appended

pub leaves_after : {P : ℕ → List ℕ → Type 0} {a b c : Option Trail} (n : ℕ) → Acked a b n → LeavesOnly a b P → LeavesOnly b c (λ k. P (n + k)) → LeavesOnly a c P
leaves_after {P} {a} {b} {c} n acked first second = leaves_then first (shifted b acked second)
  where
    shifted : (b : Option Trail) → Acked a b n → LeavesOnly b c (λ k. P (n + k)) → LeavesOnly b c (λ k. P (acks_from a b (moment_of b) + k))
    shifted None acked second = record {
      continues = second.continues;
      each = λ moment image from upto may. absurd (subst (λ (t : Option Trail). MayLeave t moment image) (untold second.continues) may);
    }
    shifted (Some trail) acked second = subst (λ (m : ℕ). LeavesOnly (Some trail) c (λ k. P (m + k))) (sym (acked trail refl)) second

pub acks_after : {Q : ℕ → List ℕ → Type 0} {a b c : Option Trail} (n : ℕ) → Acked a b n → AcksSettled a b Q → AcksSettled b c (λ k. Q (n + k)) → AcksSettled a c Q
acks_after {Q} {a} {b} {c} n acked first second = acks_then first (shifted b acked second)
  where
    shifted : (b : Option Trail) → Acked a b n → AcksSettled b c (λ k. Q (n + k)) → AcksSettled b c (λ k. Q (acks_from a b (moment_of b) + k))
    shifted None acked second = record {
      continues = second.continues;
      each = λ moment from upto is. absurd (subst (λ (t : Option Trail). IsAckAt t moment) (untold second.continues) is);
    }
    shifted (Some trail) acked second = subst (λ (m : ℕ). AcksSettled (Some trail) c (λ k. Q (m + k))) (sym (acked trail refl)) second

-- the numbers add up
pub acked_then : {a b c : Option Trail} (n m : ℕ) → Continues a b → Continues b c → Acked a b n → Acked b c m → Acked a c (n + m)
acked_then {a} {b} {c} n m first second one two told is =
    acks_from-then first second ∙ ap (λ (k : ℕ). k + acks_from b c (moment_of c)) (here b second one) ∙ ap (λ (k : ℕ). n + k) (two told is)
  where
    here : (b : Option Trail) → Continues b c → Acked a b n → acks_from a b (moment_of b) ≡ n
    here None second one = absurd (let gone = untold second in cc (gone, is))
    here (Some trail) second one = one trail refl
