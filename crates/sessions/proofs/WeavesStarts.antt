-- Sessions begin on a mounted volume: none of them runs a call.
use Rattle.std.proofs.Common.{◌≡◌, ℕ, zero, suc, ◌≤◌, List, [], ◌∷◌, replicate, length, Option, None, Some, refl, sym, ap, subst, arith}
use Rattle.std.proofs.lemmas.List.{length-replicate}
use Rattle.mixing_laws.specs.Mixed.{Range}
use Rattle.mixing_laws.proofs.Ranges.{none_mixed_law}
use Rattle.volume.proofs.Beside.{stands_beside}
use Rattle.session_laws.specs.Calls.{AreIdle, Call, Calls, call_at, ranges_of_all}
use Rattle.session_laws.specs.Histories.{IsHistory}
use Rattle.sessions.specs.Interleave.{AllWait, AreNumbered, tasks_of, to_come}
use Rattle.sessions.specs.Laws.{StartsLaw}
use Rattle.sessions.specs.declared.task.Task.{Task}

-- so many sessions, of which none runs a call
abbrev none_of : ℕ → Calls
none_of n = replicate n None

none_runs : (n : ℕ) → AreIdle (none_of n)
none_runs zero s = refl
none_runs (suc n) zero = refl
none_runs (suc n) (suc s) = none_runs n s

tasks_none : (n : ℕ) → replicate n None ≡ tasks_of (none_of n)
tasks_none zero = refl
tasks_none (suc n) = ap (λ (tasks : List (Option Task)). None ∷ tasks) (tasks_none n)

none_to_come : (n : ℕ) → to_come (none_of n) ≡ 0
none_to_come zero = refl
none_to_come (suc n) = none_to_come n

no_ranges : (n : ℕ) → ranges_of_all (none_of n) ≡ []
no_ranges zero = refl
no_ranges (suc n) = no_ranges n

none_numbered : (n : ℕ) → AreNumbered 0 (none_of n)
none_numbered n = record {
  least = λ s call runs. absurd (none_at s call runs);
  most = λ s call runs. absurd (none_at s call runs);
  own = λ s r call other runs too same. absurd (none_at s call runs);
}
  where
    none_at : (s : ℕ) (call : Call) → call_at (none_of n) s ≡ Some call → ⊥
    none_at s call runs = let none = none_runs n s in cc

none_few : (n : ℕ) → n ≤ 16 → length (none_of n) ≤ 16
none_few n few = let none : Option Call = None in let long = length-replicate n none in omega (arith, long, few)

pub starts_law : StartsLaw
starts_law volume device state sessions stands going few = record {
  tasks = tasks_none sessions;
  few = none_few sessions few;
  words = state;
  waits = AllWait.idle (none_runs sessions) going stands.no_call (stands_beside stands);
  -- where nothing is written the history is the words
  history_is = subst (λ (ranges : List Range). IsHistory ranges state state) (sym (no_ranges sessions))
      (record { tree = (none_mixed_law state.tree state.tree).1 refl; room = refl });
  numbered = none_numbered sessions;
  entered = let none = none_to_come sessions in omega (arith, none);
}
