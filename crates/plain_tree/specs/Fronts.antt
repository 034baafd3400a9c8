-- A path, or its first names.
use Rattle.std.specs.Prelude.{◌+◌, ◌<◌, ◌≤◌, ◌^◌, length, take}
use Rattle.tree_model.specs.PathText.{Route}
use Rattle.tree_model.specs.Tree.{parent}
use Rattle.plain_tree.specs.declared.fronts.Front.{Front}
use Rattle.plain_tree.specs.declared.fronts.Front.TheVariants.{Whole, Parent, First}

abbrev pub front_of : Front → Route → Route
front_of Whole path = path
front_of Parent path = parent path
front_of (First count) path = take count path

-- the path has so many names
abbrev pub IsWithin : Front → Route → Type 0
IsWithin Whole path = Unit {0}
IsWithin Parent path = Unit {0}
IsWithin (First count) path = count ≤ length path

-- one name more can be counted
abbrev pub CanGrow : Front → Type 0
CanGrow Whole = Unit {0}
CanGrow Parent = Unit {0}
CanGrow (First count) = count + 1 < 2 ^ 64
