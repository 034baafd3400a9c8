-- How many fences a move has left at each of its stages: behind the step that commits it, those of its plan.
use Rattle.std.proofs.Common.{◌≡◌, ℕ, ◌+◌, ◌<◌, ◌≤◌, Bool, true, false, ◌==◌, nat_lt, nat_le, ◌||◌, List, ◌++◌, length, Option, Some, None, sym, ap, subst, ◌∙◌, arith}
use Rattle.std.proofs.lemmas.Bool.{le-leb, lt-leb, eq-eqb, ne_eqb}
use Rattle.pm_trait.specs.Unfolds.{fences_in}
use Rattle.volume.specs.Costs.{count_of, goes_of, pages_of_loss, pages_replaced, where_true, fences_for_loss}
use Rattle.volume.specs.Volume.{VolumeView}
use Rattle.volume.specs.declared.plan.Action.TheVariants.{Move}
use Rattle.volume.specs.declared.plan.Moving.{Moving}
use Rattle.entry_steps.specs.Steps.{claim_steps}
use Rattle.removal_steps.specs.Steps.{gone_pages}
use Rattle.rename_ptr.specs.Stages.{left_at}
use Rattle.rename_ptr.specs.Steps.{opening, moving_steps}
use Rattle.rename_ptr.specs.declared.rename.Progress.{Progress}
use Rattle.rename_ptr.specs.declared.rename.Progress.TheVariants.{Begun, Filled, Opened, Pointed, Moved, Left, Cleared, Disowned}
use Rattle.rename_ptr.specs.declared.rename.Stage.TheVariants.{Moving as MovesName}
use Rattle.running_calls.specs.declared.running.Running.{Running}
use Rattle.running_calls.specs.declared.running.Running.TheVariants.{Moves}
use Rattle.running_calls.specs.Stages.{left_of}
use Rattle.running_laws.specs.Waits.{bytes_of_command}
use Rattle.running_laws.specs.Steps.{commits, has_committed, commits_move, has_committed_move}
use Rattle.session_laws.specs.Calls.{Call, HasBehind}
use Rattle.session_laws.specs.Going.{behind_commit}

-- So many fences are left, and so many of them behind the commit.
pub record IsBehind (fences behind : ℕ) (is_commit has_been : Bool) : Type 0 where
  pub commit : is_commit ≡ (fences == behind + 1)
  pub committed : has_been ≡ nat_le fences behind

before_commit : (fences behind : ℕ) → behind + 1 < fences → IsBehind fences behind false false
before_commit fences behind more = record {
  commit = sym (ne_eqb fences (behind + 1) (λ same. omega (arith, same, more)));
  committed = sym (lt-leb fences behind (omega (arith, more)));
}

at_commit : (fences behind : ℕ) → fences ≡ behind + 1 → IsBehind fences behind true false
at_commit fences behind same = record { commit = sym (eq-eqb fences (behind + 1) same); committed = sym (lt-leb fences behind (omega (arith, same))) }

after_commit : (fences behind : ℕ) → fences ≤ behind → IsBehind fences behind false true
after_commit fences behind few = record { commit = sym (ne_eqb fences (behind + 1) (λ same. omega (arith, same, few))); committed = sym (le-leb fences behind few) }

module _ (P : ℕ) (moving : Moving) (pages : List ℕ) (count : length pages ≡ pages_of_loss moving.replaced) where
  abbrev losing : ℕ
  losing = fences_for_loss (pages_replaced moving) (goes_of moving.replaced)

  abbrev left : Progress → ℕ
  left progress = fences_in (left_at P moving pages progress)

  abbrev BehindAt : Progress → ℕ → Type 0
  BehindAt progress fences = IsBehind fences (2 + losing) (commits_move progress) (has_committed_move progress)

  sum_zero : (give free : ℕ) → give + (free + 0) ≡ give + free
  sum_zero give free = omega arith

  -- behind the clearing of the old slot those of the loss are left
  given : left Cleared ≡ losing
  given =
      ap (λ (n : ℕ). where_true (nat_lt 0 (n + count_of moving.given_back)) 1 + (where_true (nat_lt 0 (n + count_of moving.given_back) || goes_of moving.replaced) 1 + 0)) count
      ∙ sum_zero _ _

  freed : left Disowned ≤ losing
  freed = let all = given in omega (arith, all)

  first_left : (page : Option ℕ) → 4 + left Cleared ≤ fences_in (opening P moving page ++ moving_steps P moving pages)
  first_left None = omega arith
  first_left (Some page) = omega arith

  claim_left : (page : Option ℕ) → 4 + left Cleared ≤ fences_in (claim_steps P moving.to_directory page ++ moving_steps P moving pages)
  claim_left None = omega arith
  claim_left (Some page) = omega arith

  at_stage : (progress : Progress) → BehindAt progress (left progress)
  at_stage Begun = before_commit (left Begun) (2 + losing) (let least = first_left moving.new_page in let all = given in omega (arith, least, all))
  at_stage Filled = before_commit (left Filled) (2 + losing) (let least = claim_left moving.new_page in let all = given in omega (arith, least, all))
  at_stage Opened = before_commit (left Opened) (2 + losing) (let all = given in omega (arith, all))
  at_stage Pointed = at_commit (left Pointed) (2 + losing) (let all = given in omega (arith, all))
  at_stage Moved = after_commit (left Moved) (2 + losing) (let all = given in omega (arith, all))
  at_stage Left = after_commit (left Left) (2 + losing) (let all = given in omega (arith, all))
  at_stage Cleared = after_commit (left Cleared) (2 + losing) (let all = given in omega (arith, all))
  at_stage Disowned = after_commit (left Disowned) (2 + losing) (let all = freed in omega (arith, all))

-- the call of a move, with the fences of its plan behind the commit
pub has_behind : (volume : VolumeView) (call : Call) (moving : Moving) (progress : Progress) → length (gone_pages volume moving.replaced) ≡ pages_of_loss moving.replaced
    → call.running ≡ Moves (MovesName moving progress) → call.behind ≡ behind_commit (Move moving) → HasBehind volume call
has_behind volume call moving progress count is planned =
    let here = at_stage volume.size moving (gone_pages volume moving.replaced) count progress in
    let fences : Running → ℕ = λ (running : Running). fences_in (left_of volume (bytes_of_command call.command) running) in
    let told : IsBehind (fences call.running) call.behind (commits call.running) (has_committed call.running) =
    subst (λ (running : Running). IsBehind (fences running) call.behind (commits running) (has_committed running)) (sym is)
    (subst (λ (behind : ℕ). IsBehind (fences (Moves (MovesName moving progress))) behind (commits_move progress) (has_committed_move progress)) (sym planned) here) in
    record { commit = told.commit; committed = told.committed }
