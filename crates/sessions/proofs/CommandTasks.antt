-- What a session runs as task and as call, and which running call is in the way of a command.
use Rattle.std.proofs.Common.{◌≡◌, ℕ, zero, suc, ◌≤◌, List, [], ◌∷◌, Option, None, Some, refl, sym, ap, subst, ◌∙◌}
use Rattle.tree_model.specs.Tree.{Tree}
use Rattle.tree_model.specs.Run.{State}
use Rattle.tree_model.specs.declared.command.Command.{Command}
use Rattle.volume.specs.Named.{AreNamedBy}
use Rattle.volume.specs.declared.named.NamedNodes.{NamedNodes}
use Rattle.volume.specs.declared.named.NamedNodes.TheVariants.{All, These}
use Rattle.session_laws.specs.Calls.{Call, Calls, call_at, IsNamed}
use Rattle.session_laws.specs.Going.{AreFree}
use Rattle.sessions.specs.Busy.{AreBothNamed, AreNoneInTheWay, IsLeastInTheWay}
use Rattle.sessions.specs.Interleave.{task_of, tasks_of}
use Rattle.sessions.specs.Steps.{IsInTheWay, IsFreeOfOthers}
use Rattle.sessions.specs.Tasks.{task_in}
use Rattle.sessions.specs.declared.going.InTheWay.{InTheWay}
use Rattle.sessions.specs.declared.task.Task.{Task}

-- ---- what a session runs

abbrev task_of_option : Option Call → Option Task
task_of_option None = None
task_of_option (Some call) = Some (task_of call)

task_at : (calls : Calls) (s : ℕ) → task_in (tasks_of calls) s ≡ task_of_option (call_at calls s)
task_at [] s = refl
task_at (None ∷ calls) zero = refl
task_at (None ∷ calls) (suc s) = task_at calls s
task_at (Some call ∷ calls) zero = refl
task_at (Some call ∷ calls) (suc s) = task_at calls s

-- a task is that of a call, and where there is none there is no call
abbrev pub IsTaskAt : Calls → ℕ → Option Task → Type 0
IsTaskAt calls s None = call_at calls s ≡ None
IsTaskAt calls s (Some task) = (call : Call) × (call_at calls s ≡ Some call) × (task_of call ≡ task)

by_option : (calls : Calls) (s : ℕ) (ran : Option Call) → call_at calls s ≡ ran → IsTaskAt calls s (task_of_option ran)
by_option calls s None is = is
by_option calls s (Some call) is = (call, is, refl)

-- what a command names is named alike, however it is told
pub same_named : (T : Tree) (command : Command) (one other : NamedNodes) → AreNamedBy T command one → AreNamedBy T command other → (i : ℕ) → IsNamed one i → IsNamed other i
same_named T command All All all too i is = is
same_named T command All (These inodes) all some i is = let none = some.0 in cc
same_named T command (These inodes) All some all i is = let none = some.0 in cc
same_named T command (These inodes) (These others) some too i is = (too.1 i).1 ((some.1 i).0 is)

module _ (tasks : List (Option Task)) (calls : Calls) (tasks_are : tasks ≡ tasks_of calls) where
  in_tasks : (s : ℕ) → task_in tasks s ≡ task_of_option (call_at calls s)
  in_tasks s = ap (λ (tasks : List (Option Task)). task_in tasks s) tasks_are ∙ task_at calls s

  pub call_of_task : (s : ℕ) (ran : Option Task) → task_in tasks s ≡ ran → IsTaskAt calls s ran
  call_of_task s ran is = subst (IsTaskAt calls s) (sym (in_tasks s) ∙ is) (by_option calls s (call_at calls s) refl)

  pub task_of_call : (s : ℕ) (call : Call) → call_at calls s ≡ Some call → task_in tasks s ≡ Some (task_of call)
  task_of_call s call runs = in_tasks s ∙ ap task_of_option runs

  -- ---- none is in the way

  module _ (named : NamedNodes) (none : AreNoneInTheWay tasks named) where
    -- no inode is named by both
    pub none_both : (s : ℕ) (call : Call) → call_at calls s ≡ Some call → (i : ℕ) → ¬ AreBothNamed named call.named i
    none_both s call runs i both = none i call.number (record { session = s; task = task_of call; runs = task_of_call s call runs; holder_is = refl; both = both })

    -- where each running call names an inode
    pub none_in_the_way : ((s : ℕ) (call : Call) → call_at calls s ≡ Some call → (i : ℕ) × (1 ≤ i) × IsNamed call.named i) → AreFree named calls
    none_in_the_way = is_free named none_both
      where
        no_call : (ran : Option Call) → ((call : Call) → ran ≡ Some call → ⊥) → ran ≡ None
        no_call None other = refl
        no_call (Some call) other = absurd (other call refl)

        is_free : (named : NamedNodes) → ((s : ℕ) (call : Call) → call_at calls s ≡ Some call → (i : ℕ) → ¬ AreBothNamed named call.named i)
            → ((s : ℕ) (call : Call) → call_at calls s ≡ Some call → (i : ℕ) × (1 ≤ i) × IsNamed call.named i) → AreFree named calls
        is_free All other names = λ s. no_call (call_at calls s) (λ call runs.
            let (i, from_one, is_named) = names s call runs in other s call runs i (record { named = from_one; named_too = is_named }))
        is_free (These inodes) other names = λ s call runs i is_named too. other s call runs i (record { named = is_named; named_too = too })

    -- of the history too
    pub free_of_others : (history : State) (command : Command) → AreNamedBy history.tree command named → IsFreeOfOthers calls history command
    free_of_others history command names other names_too s call runs i both = none_both s call runs i (record {
      named = same_named history.tree command other named names_too names i both.named;
      named_too = both.named_too;
    })

  -- ---- one is in the way

  pub in_the_way : (named : NamedNodes) (way : InTheWay) → IsLeastInTheWay tasks named way → (history : State) (command : Command) → AreNamedBy history.tree command named
      → IsInTheWay calls history command way.inode way.holder
  in_the_way named way least history command names =
      let found = least.in_the_way in
      let (call, runs, same) = call_of_task found.session (Some found.task) found.runs in
      record {
        named = named;
        names = names;
        session = found.session;
        other = call;
        runs = runs;
        holder_is = ap (λ (task : Task). task.number) same ∙ found.holder_is;
        both = subst (λ (task : Task). AreBothNamed named task.named way.inode) (sym same) found.both;
        least = λ s any there i both. least.least i any.number (record { session = s; task = task_of any; runs = task_of_call s any there; holder_is = refl; both = both });
      }
