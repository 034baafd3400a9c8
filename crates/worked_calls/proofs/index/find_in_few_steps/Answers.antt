use Rattle.std.proofs.Common.{ℕ, suc, ◌+◌, ◌-◌, ◌*◌, ◌^◌, ◌<◌, ◌≤◌, inl, inr, arith}
use Rattle.std.proofs.Math.Pow.{pow_mono}
use Rattle.std.proofs.lemmas.Bool.{cases_lt}
use Rattle.worked_calls.proofs.index.find_in_few_steps.Goals as goal

few_steps : (start now all most : ℕ) → 2 ^ (now - start) ≤ 2 * all + 1 → 2 * all + 1 < 2 ^ suc most → now ≤ start + most
few_steps start now all most cost few = elim (cases_lt most (now - start)) [
  | inl more ↦ let grows = pow_mono more in let no : ⊥ = omega (arith, grows, cost, few) in absurd no
  | inr enough ↦ omega arith
]

pub returns-clause-none : goal.returns-clause-none
returns-clause-none g c = λ few. let none = few_steps _ _ _ 0 c.find_counted.ensures.cost (omega (arith, few)) in omega (arith, none)

pub returns-clause-one : goal.returns-clause-one
returns-clause-one g c = λ few. few_steps _ _ _ 1 c.find_counted.ensures.cost (omega (arith, few))

pub returns-clause-three : goal.returns-clause-three
returns-clause-three g c = λ few. few_steps _ _ _ 2 c.find_counted.ensures.cost (omega (arith, few))

pub returns-clause-seven : goal.returns-clause-seven
returns-clause-seven g c = λ few. few_steps _ _ _ 3 c.find_counted.ensures.cost (omega (arith, few))

pub returns-clause-eight : goal.returns-clause-eight
returns-clause-eight g c = λ few. few_steps _ _ _ 4 c.find_counted.ensures.cost (omega (arith, few))

pub returns-clause-fourteen : goal.returns-clause-fourteen
returns-clause-fourteen g c = λ few. few_steps _ _ _ 14 c.find_counted.ensures.cost (omega (arith, few))

pub returns-clause-seventeen : goal.returns-clause-seventeen
returns-clause-seventeen g c = λ few. few_steps _ _ _ 17 c.find_counted.ensures.cost (omega (arith, few))

pub returns-clause-twenty : goal.returns-clause-twenty
returns-clause-twenty g c = λ few. few_steps _ _ _ 20 c.find_counted.ensures.cost (omega (arith, few))
