-- When the entry of a call comes: in the step behind which the fences are left that come behind its commit, so that those to come have room.
use Rattle.std.proofs.Common.{◌≡◌, ℕ, ◌+◌, ◌≤◌, Bool, true, false, not, ◌&&◌, ◌||◌, ◌==◌, nat_le, if◌then◌else◌, refl, sym, ap, arith, true≢false}
use Rattle.std.proofs.lemmas.Bool.{leb-true, leb-false, eq-eqb, ne_eqb}
use Rattle.sessions.specs.Advanced.{enters_now}
use Rattle.sessions.proofs.GoesLists.{to_enter}

-- one step further
module _ (fences left behind : ℕ) (one : fences ≡ 1 + left) where
  by_tests : (was now : Bool) → nat_le fences behind ≡ was → nat_le left behind ≡ now → (not was && now) ≡ (fences == behind + 1)
  by_tests true now before behind_it = let most = leb-true fences behind before in sym (ne_eqb fences (behind + 1) (λ same. omega (arith, most, same)))
  by_tests false true before behind_it =
      let more = leb-false fences behind before in
      let few = leb-true left behind behind_it in
      sym (eq-eqb fences (behind + 1) (omega (arith, more, few, one)))
  by_tests false false before behind_it = let many = leb-false left behind behind_it in sym (ne_eqb fences (behind + 1) (λ same. omega (arith, many, same, one)))

  -- It has committed behind the step and not before it where so many fences are left.
  pub enters_at_commit : (not (nat_le fences behind) && nat_le left behind) ≡ (fences == behind + 1)
  enters_at_commit = by_tests (nat_le fences behind) (nat_le left behind) refl refl

  -- (there is a fence)
  pub enters_now_at_commit : enters_now fences behind ≡ (fences == behind + 1)
  enters_now_at_commit = ap (λ (none : Bool). none || (fences == behind + 1)) (ne_eqb fences 0 (λ none. omega (arith, none, one)))

  pub committed_stays : nat_le fences behind ≡ true → nat_le left behind ≡ true
  committed_stays is = by_left (nat_le left behind) refl
    where
      by_left : (now : Bool) → nat_le left behind ≡ now → now ≡ true
      by_left true here = refl
      by_left false here = let most = leb-true fences behind is in let many = leb-false left behind here in absurd (omega (arith, most, many, one))

-- one entry more, where the step commits
abbrev pub entry_more : Bool → ℕ
entry_more commit = if commit then 1 else 0

-- The entries, with those that are to come, are no more than they were.
pub entries_within : (was now commit : Bool) (entries rest begun : ℕ) → (not was && now) ≡ commit → (was ≡ true → now ≡ true) → entries + (to_enter was + rest) ≤ begun
    → (entries + entry_more commit) + (to_enter now + rest) ≤ begun
entries_within true true true entries rest begun is stays within = absurd (true≢false (sym is))
entries_within true true false entries rest begun is stays within = omega (arith, within)
entries_within true false commit entries rest begun is stays within = absurd (true≢false (sym (stays refl)))
entries_within false true true entries rest begun is stays within = omega (arith, within)
entries_within false true false entries rest begun is stays within = absurd (true≢false is)
entries_within false false true entries rest begun is stays within = absurd (true≢false (sym is))
entries_within false false false entries rest begun is stays within = omega (arith, within)
