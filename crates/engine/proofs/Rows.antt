-- Which lines of a script may store, and which need a place, computed from the definitions.
use Rattle.std.proofs.Common.{◌≡◌, ℕ, inl, inr, true, false, List, [], ◌∷◌, map, codes, refl, arith}
use Rattle.std.specs.Prelude.{Ok, Err}
use Rattle.layout.specs.Geometry.{inodes_of, data_pages_of}
use Rattle.tree_model.specs.Step.{Answer, Fault, Stopped}
use Rattle.tree_model.specs.Run.{Line, State, fresh_state, plain_answers, plain_states}
use Rattle.tree_model.specs.declared.command.Command.TheVariants.{Create, Rename, Write, Stat}
use Rattle.tree_model.specs.declared.reply.LineFault.TheVariants.{BadLine}
use Rattle.tree_model.proofs.Rows.{a, b}
use Rattle.engine.specs.Memory.{needs_places_at}
use Rattle.engine.specs.Quiet.{fences_at, MayStore}

-- a file is made, told of, given bytes twice and renamed to itself; a line is none
abbrev lines : List Line
lines = Ok (Create a) ∷ Ok (Stat a) ∷ Ok (Write a 0 (codes "hi")) ∷ Ok (Write a 0 (codes "ho")) ∷ Ok (Rename a a) ∷ Err BadLine ∷ []

abbrev answers : List Answer
answers = plain_answers 16 fresh_state lines

abbrev states : List State
states = plain_states 16 fresh_state lines

abbrev numbers : List ℕ
numbers = 0 ∷ 1 ∷ 2 ∷ 3 ∷ 4 ∷ 5 ∷ 6 ∷ []

-- each between the states before and after it, and none past the end
fences_of_each_line : map (fences_at fresh_state lines answers states) numbers ≡ 3 ∷ 0 ∷ 3 ∷ 1 ∷ 0 ∷ 0 ∷ 0 ∷ []
unfolding inodes_of data_pages_of
fences_of_each_line = refl

-- each at the state before it: bytes in the page that is there need no place, and a name that is there needs none
places_of_each_line : map (needs_places_at fresh_state lines states) numbers ≡ true ∷ false ∷ true ∷ false ∷ false ∷ false ∷ false ∷ []
unfolding inodes_of data_pages_of
places_of_each_line = refl

a_change_may_store : MayStore fresh_state lines answers states 3
unfolding inodes_of data_pages_of
a_change_may_store = inr (omega arith)

-- a rename to itself is answered Done and takes no fence
done_without_a_fence_may_not : MayStore fresh_state lines answers states 4 → ⊥
unfolding inodes_of data_pages_of
done_without_a_fence_may_not (inl failed) = cc failed
done_without_a_fence_may_not (inr some) = omega (arith, some)

-- ---- a run in which a fence failed

abbrev failing : List Line
failing = Ok (Create a) ∷ Ok (Create b) ∷ []

abbrev failed : List Answer
failed = Fault ∷ Stopped ∷ []

the_failed_line_may_store : MayStore fresh_state failing failed [] 0
the_failed_line_may_store = inl refl

a_later_line_may_not : MayStore fresh_state failing failed [] 1 → ⊥
a_later_line_may_not (inl faulted) = cc faulted
a_later_line_may_not (inr some) = omega (arith, some)

the_failed_line_counts_no_fence : fences_at fresh_state failing failed [] 0 ≡ 0
the_failed_line_counts_no_fence = refl
