-- The running call with the least inode that a command names too is found by looking at the sessions in turn.
use Rattle.std.proofs.Common.{◌≡◌, inl, inr, ℕ, ◌+◌, ◌<◌, ◌≤◌, nat_le, true, false, if◌then◌else◌, List, length, Option, None, Some, MatchOption, refl, sym, ap, subst, ◌∙◌, arith}
use Rattle.std.proofs.lemmas.Bool.{cases_eq, leb-true, leb-false}
use Rattle.volume.specs.declared.named.NamedNodes.{NamedNodes}
use Rattle.sessions.specs.Busy.{AreBothNamed, AreNoneOfBoth, IsLeastOfBoth, IsInTheWayOf, AreNoneInTheWay, IsLeastInTheWay, nearer_of}
use Rattle.sessions.specs.Tasks.{task_in}
use Rattle.sessions.specs.declared.going.InTheWay.{InTheWay}
use Rattle.sessions.specs.declared.task.Task.{Task}
use Rattle.sessions.proofs.TaskLists.{task_below}

-- ---- what is known of the sessions below one

abbrev pub AreNoneBelow : List (Option Task) → NamedNodes → ℕ → Type 0
AreNoneBelow tasks named k = (inode holder : ℕ) → (also : IsInTheWayOf tasks named inode holder) → also.session < k → ⊥

pub record IsLeastBelow (tasks : List (Option Task)) (named : NamedNodes) (k : ℕ) (way : InTheWay) : Type 0 where
  pub in_the_way : IsInTheWayOf tasks named way.inode way.holder
  pub least : (inode holder : ℕ) → (also : IsInTheWayOf tasks named inode holder) → also.session < k → way.inode ≤ inode

abbrev pub IsFoundBelow : List (Option Task) → NamedNodes → ℕ → Option InTheWay → Type 0
IsFoundBelow tasks named k found = MatchOption found (AreNoneBelow tasks named k) (IsLeastBelow tasks named k)

pub found_of_all : (tasks : List (Option Task)) (named : NamedNodes) (k : ℕ) (found : Option InTheWay) → length tasks ≤ k → IsFoundBelow tasks named k found
    → MatchOption found (AreNoneInTheWay tasks named) (IsLeastInTheWay tasks named)
found_of_all tasks named k None end before = λ inode holder also. let below = task_below tasks also.session also.task also.runs in before inode holder also (omega (arith, below))
found_of_all tasks named k (Some way) end before = record {
  in_the_way = before.in_the_way;
  least = λ inode holder also. let below = task_below tasks also.session also.task also.runs in before.least inode holder also (omega (arith, below));
}

-- ---- one more session

-- the call that it runs, if any, isn't nearer
abbrev pub IsNoNearer : List (Option Task) → NamedNodes → ℕ → Option InTheWay → Type 0
IsNoNearer tasks named k found = (task : Task) → task_in tasks k ≡ Some task → (inode : ℕ) → AreBothNamed named task.named inode
    → MatchOption found ⊥ (λ way. way.inode ≤ inode)

module _ (tasks : List (Option Task)) (named : NamedNodes) (k : ℕ) where
  -- the task of a call in the way
  runs_there : (inode holder : ℕ) → (also : IsInTheWayOf tasks named inode holder) → also.session ≡ k → task_in tasks k ≡ Some also.task
  runs_there inode holder also here = ap (task_in tasks) (sym here) ∙ also.runs

  still : (found : Option InTheWay) → IsFoundBelow tasks named k found → IsNoNearer tasks named k found → IsFoundBelow tasks named (k + 1) found
  still None before more = λ inode holder also below. elim (cases_eq also.session k) [
    | inl here ↦ more also.task (runs_there inode holder also here) inode also.both
    | inr there ↦ before inode holder also (omega (arith, there, below))
  ]
  still (Some way) before more = record {
    in_the_way = before.in_the_way;
    least = λ inode holder also below. elim (cases_eq also.session k) [
      | inl here ↦ more also.task (runs_there inode holder also here) inode also.both
      | inr there ↦ before.least inode holder also (omega (arith, there, below))
    ];
  }

  -- it runs none
  pub found_idle : (found : Option InTheWay) → IsFoundBelow tasks named k found → task_in tasks k ≡ None → IsFoundBelow tasks named (k + 1) found
  found_idle found before idle = still found before (λ task runs inode both. absurd (let no : None ≡ Some task = sym idle ∙ runs in cc))

  -- it runs this one
  module _ (task : Task) (runs : task_in tasks k ≡ Some task) where
    same_task : (other : Task) → task_in tasks k ≡ Some other → other ≡ task
    same_task other runs_other = let same : Some other ≡ Some task = sym runs_other ∙ runs in cc

    -- whose nodes the command doesn't name, or only those that aren't less
    no_nearer : (found : Option InTheWay) → ((inode : ℕ) → AreBothNamed named task.named inode → MatchOption found ⊥ (λ way. way.inode ≤ inode)) → IsNoNearer tasks named k found
    no_nearer found others = λ other runs_other inode both. others inode (subst (λ (task : Task). AreBothNamed named task.named inode) (same_task other runs_other) both)

    -- or that is nearer
    nearer : (found : Option InTheWay) (inode : ℕ) → IsFoundBelow tasks named k found → IsLeastOfBoth named task.named inode
        → MatchOption found (Unit {0}) (λ way. inode ≤ way.inode) → IsLeastBelow tasks named (k + 1) (record { inode = inode; holder = task.number })
    nearer found inode before least less = record {
      in_the_way = record { session = k; task = task; runs = runs; holder_is = refl; both = least.both };
      least = λ i holder also below. elim (cases_eq also.session k) [
        | inl here ↦
            let same = same_task also.task (runs_there i holder also here) in
            least.least i (subst (λ (task : Task). AreBothNamed named task.named i) same also.both)
        | inr there ↦ least_before found before less i holder also (omega (arith, there, below))
      ];
    } where
      least_before : (found : Option InTheWay) → IsFoundBelow tasks named k found → MatchOption found (Unit {0}) (λ way. inode ≤ way.inode)
          → (i holder : ℕ) → (also : IsInTheWayOf tasks named i holder) → also.session < k → inode ≤ i
      least_before None before less i holder also below = absurd (before i holder also below)
      least_before (Some way) before less i holder also below = let no_less = before.least i holder also below in omega (arith, less, no_less)

    pub found_nearer : (found : Option InTheWay) (inode : Option ℕ) → IsFoundBelow tasks named k found
        → MatchOption inode (AreNoneOfBoth named task.named) (IsLeastOfBoth named task.named) → IsFoundBelow tasks named (k + 1) (nearer_of found inode task.number)
    found_nearer None None before none = still None before (no_nearer None (λ i both. none i both))
    found_nearer (Some way) None before none = still (Some way) before (no_nearer (Some way) (λ i both. absurd (none i both)))
    found_nearer None (Some inode) before least = nearer None inode before least tt
    found_nearer (Some way) (Some inode) before least = elim (nat_le way.inode inode)
        as (λ test. nat_le way.inode inode ≡ test → IsFoundBelow tasks named (k + 1) (if test then Some way else Some (record { inode = inode; holder = task.number }))) [
          | true ↦ λ near.
              let no_less : way.inode ≤ inode = leb-true way.inode inode near in
              still (Some way) before (no_nearer (Some way) (λ i both. let more = least.least i both in omega (arith, no_less, more)))
          | false ↦ λ far. let less : inode < way.inode = leb-false way.inode inode far in nearer (Some way) inode before least (omega (arith, less))
        ] refl
