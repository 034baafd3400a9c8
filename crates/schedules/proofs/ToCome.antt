-- How many running calls are to come, where one session runs another call than before.
use Rattle.std.proofs.Common.{◌≡◌, inl, inr, ℕ, zero, suc, ◌+◌, [], ◌∷◌, refl, sym, ap, ◌∙◌, arith}
use Rattle.std.specs.Prelude.{if◌then◌else◌, Option, None, Some}
use Rattle.std.proofs.lemmas.Bool.{cases_eq}
use Rattle.running_laws.specs.Steps.{has_committed}
use Rattle.session_laws.specs.Calls.{Call, Calls, call_at, without}
use Rattle.session_laws.proofs.Lists.{call_gone, call_other}
use Rattle.sessions.specs.Interleave.{to_come}

-- of what one session runs
abbrev pub is_to_come : Option Call → ℕ
is_to_come None = 0
is_to_come (Some call) = if has_committed call.running then 0 else 1

to_come_apart : (calls : Calls) (s : ℕ) → to_come calls ≡ is_to_come (call_at calls s) + to_come (without calls s)
to_come_apart [] s = refl
to_come_apart (None ∷ calls) zero = omega arith
to_come_apart (None ∷ calls) (suc s) = to_come_apart calls s
to_come_apart (Some call ∷ calls) zero = refl
to_come_apart (Some call ∷ calls) (suc s) = let apart = to_come_apart calls s in omega (arith, apart)

to_come_same : (calls others : Calls) → ((s : ℕ) → call_at calls s ≡ call_at others s) → to_come calls ≡ to_come others
to_come_same [] [] each = refl
to_come_same [] (None ∷ others) each = to_come_same [] others (λ s. each (suc s))
to_come_same [] (Some other ∷ others) each = let none = each 0 in cc
to_come_same (None ∷ calls) [] each = to_come_same calls [] (λ s. each (suc s))
to_come_same (None ∷ calls) (None ∷ others) each = to_come_same calls others (λ s. each (suc s))
to_come_same (None ∷ calls) (Some other ∷ others) each = let none = each 0 in cc
to_come_same (Some call ∷ calls) [] each = let none = each 0 in cc
to_come_same (Some call ∷ calls) (None ∷ others) each = let none = each 0 in cc
to_come_same (Some call ∷ calls) (Some other ∷ others) each =
    let first = ap is_to_come (each 0) in
    let rest = to_come_same calls others (λ s. each (suc s)) in
    omega (arith, first, rest)

pub to_come_other : (calls later : Calls) (session : ℕ) → ((s : ℕ) → (s ≡ session → ⊥) → call_at later s ≡ call_at calls s)
    → to_come later + is_to_come (call_at calls session) ≡ to_come calls + is_to_come (call_at later session)
to_come_other calls later session others =
    let one = to_come_apart calls session in
    let other = to_come_apart later session in
    let same = to_come_same (without later session) (without calls session) each in
    omega (arith, one, other, same)
  where
    each : (s : ℕ) → call_at (without later session) s ≡ call_at (without calls session) s
    each s = elim (cases_eq s session) [
      | inl here ↦ ap (call_at (without later session)) here ∙ call_gone later session ∙ sym (call_gone calls session) ∙ ap (call_at (without calls session)) (sym here)
      | inr there ↦ call_other later session s None (λ same. there (sym same)) ∙ others s there ∙ sym (call_other calls session s None (λ same. there (sym same)))
    ]

pub to_come_none : (calls : Calls) → ((s : ℕ) → call_at calls s ≡ None) → to_come calls ≡ 0
to_come_none calls none = to_come_same calls [] none
