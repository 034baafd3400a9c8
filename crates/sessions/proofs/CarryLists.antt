-- A session that ran no call runs one: its number is new, and it is to come or has come.
use Rattle.std.proofs.Common.{◌≡◌, inl, inr, ℕ, suc, ◌+◌, ◌<◌, List, [], ◌∷◌, ◌++◌, length, set, Option, None, Some, refl, sym, ap, subst, ◌∙◌, arith}
use Rattle.tree_model.specs.Run.{State}
use Rattle.mixing_laws.specs.Mixed.{Range}
use Rattle.mixing_laws.proofs.Ranges.{none_mixed_law}
use Rattle.session_laws.specs.Calls.{Call, Calls, call_at, range_of_call, ranges_of_all}
use Rattle.session_laws.specs.Histories.{IsHistory}
use Rattle.session_laws.proofs.Lists.{call_set, without_idle}
use Rattle.sessions.specs.Interleave.{to_come, AreNumbered}
use Rattle.sessions.specs.Steps.{is_entered_behind}
use Rattle.sessions.proofs.GoesLists.{to_come_put, to_enter}

-- ---- its number

same_call : (one other : Call) → ◌≡◌ {A = Option Call} (Some one) (Some other) → one ≡ other
same_call one other is = cc

-- where nothing was given out none is new
new_number : (begun : ℕ) (calls : Calls) (r : ℕ) (call other : Call) → AreNumbered begun calls → call.number ≡ begun + 1 → call_at calls r ≡ Some other
    → call.number ≡ other.number → ⊥
new_number begun calls r call other numbered new runs same = let most = numbered.most r other runs in omega (arith, most, new, same)

pub numbered_begun : (begun : ℕ) (calls : Calls) (s : ℕ) (call : Call) (now : Option Call) → AreNumbered begun calls → call.number ≡ begun + 1
    → ((left : Call) → now ≡ Some left → left.number ≡ call.number) → AreNumbered (begun + 1) (set calls s now)
numbered_begun begun calls s call now numbered new same = record {
  least = λ r other there. elim (call_set calls s r now other there) [
    | inl here ↦ let is = same other here.1 in omega (arith, is, new)
    | inr kept ↦ numbered.least r other kept.1
  ];
  most = λ r other there. elim (call_set calls s r now other there) [
    | inl here ↦ let is = same other here.1 in omega (arith, is, new)
    | inr kept ↦ let most = numbered.most r other kept.1 in omega (arith, most)
  ];
  own = λ r t one other here there equal. elim (call_set calls s r now one here) [
    | inl first ↦ elim (call_set calls s t now other there) [
      | inl second ↦ sym first.0 ∙ second.0
      | inr kept ↦ absurd (new_number begun calls t call other numbered new kept.1 (sym (same one first.1) ∙ equal))
    ]
    | inr was ↦ elim (call_set calls s t now other there) [
      | inl second ↦ absurd (new_number begun calls r call one numbered new was.1 (sym (same other second.1) ∙ sym equal))
      | inr kept ↦ numbered.own r t one other was.1 kept.1 equal
    ]
  ];
}

-- ---- whether it is to come

pub to_come_begun : (calls : Calls) (s : ℕ) (call : Option Call) → call_at calls s ≡ None → s < length calls
    → to_come (set calls s call) ≡ to_enter (is_entered_behind call) + to_come calls
to_come_begun calls s call idle within =
    to_come_put calls s call within ∙ ap (λ (others : Calls). to_enter (is_entered_behind call) + to_come others) (without_idle calls s idle)

-- ---- where none writes

pub ranges_none : (calls : Calls) → ((s : ℕ) (call : Call) → call_at calls s ≡ Some call → range_of_call call ≡ []) → ranges_of_all calls ≡ []
ranges_none [] none = refl
ranges_none (None ∷ calls) none = ranges_none calls (λ s. none (suc s))
ranges_none (Some call ∷ calls) none = ap (λ (own : List Range). own ++ ranges_of_all calls) (none 0 call refl) ∙ ranges_none calls (λ s. none (suc s))

pub ranges_idle : (calls : Calls) → ((s : ℕ) → call_at calls s ≡ None) → ranges_of_all calls ≡ []
ranges_idle calls idle = ranges_none calls (λ s call runs. let none = idle s in cc)

-- the words are those of the history
pub same_history : (ranges : List Range) (history words : State) → ranges ≡ [] → IsHistory ranges history words → words ≡ history
same_history ranges history words none is =
    let nothing : IsHistory [] history words = subst (λ (r : List Range). IsHistory r history words) none is in
    let tree : words.tree ≡ history.tree = (none_mixed_law history.tree words.tree).0 nothing.tree in
    let room = nothing.room in
    λ k. record { tree = tree k; room = room k }
