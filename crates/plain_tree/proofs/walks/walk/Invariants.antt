use Rattle.std.proofs.Common.{◌≡◌, ◌+◌, ◌<◌, ◌^◌, length, take, Ok}
use Rattle.tree_model.specs.Walk.{walk}
use Rattle.plain_tree.proofs.walks.walk.Given as goal

-- the first names lead to this id, and one more can be counted
abbrev pub invariant-loop : goal.invariant-loop
invariant-loop l =
    (goal.iterator-loop).can_next l.iterator' × (goal.iterator-loop).is_finite l.iterator'
    × (l.depth + length l.iterator' ≡ length l.initial.iterator') × (l.depth + 1 < 2 ^ 64)
    × (walk l.tree (take l.depth l.path) ≡ Ok (record { path = take l.depth l.path; id = l.id }))
