-- How the plain tree holds its maps: entries with distinct keys, the newest first.
use Rattle.std.specs.Prelude.{◌≡◌, ℕ, ◌+◌, ◌-◌, Bool, not, ◌&&◌, ◌==◌, if◌then◌else◌, List, [], ◌∷◌, map, Option, None}
use Rattle.std.proofs.Common.{Ordering}
use Rattle.std.specs.Ordering.{eq_by_cmp}
use Rattle.std.specs.List.{list_any}
use Rattle.std.specs.Cmp.{nat_cmp_total}
use Rattle.std.specs.FinMap.Entries.{find}
use Rattle.tree_model.specs.PathText.{Route}
use Rattle.tree_model.specs.Table.{table_of}
use Rattle.tree_model.specs.Tree.{Tree, Node, Directory, File, Room, route_cmp, route_cmp_total, rest_after, is_number, pages_in}
use Rattle.tree_model.specs.Step.{moved_path, directories}
use Rattle.plain_tree.specs.declared.parts.PlainNode.{PlainNode}
use Rattle.plain_tree.specs.declared.parts.PlainNode.TheVariants as plain

-- no key stands twice
abbrev pub AreDistinct : {K X : Type 0} → (K → K → Ordering) → List (K × X) → Type 0
AreDistinct R [] = Unit {0}
AreDistinct R (e ∷ es) = (find R e.0 es ≡ None) × AreDistinct R es

abbrev pub tree_of : List (Route × ℕ) → List (ℕ × Node) → Tree
tree_of names nodes = record { names = table_of route_cmp_total names; nodes = table_of nat_cmp_total nodes }

abbrev pub room_of : List (ℕ × ℕ) → Room
room_of pages = table_of nat_cmp_total pages

abbrev pub node_of : PlainNode → Node
node_of plain.Directory = Directory
node_of (plain.File bytes) = File bytes.items

-- ---- edits of entries

abbrev pub is_other : Route → Route → Bool
is_other path k = not (eq_by_cmp route_cmp path k)

abbrev pub has_name : List (Route × ℕ) → ℕ → Bool
has_name names id = list_any (λ e. e.1 == id) names

-- where the entries are after a path moved with all below it
abbrev pub moved_entries : Route → Route → List (Route × ℕ) → List (Route × ℕ)
moved_entries from to es = map (λ e. (moved_path to (rest_after from e.0) e.0, e.1)) es

-- the pages of a directory after one has gained a name, which takes pages or none, and one has lost a name and gives one
-- back or not
abbrev pub pages_moved : Room → Option ℕ → Option ℕ → ℕ → Bool → ℕ → ℕ
pages_moved room gaining losing taken gives directory =
    let gained = pages_in room directory + (if is_number gaining directory then taken else 0) in
    if is_number losing directory && gives then gained - 1 else gained

-- the room of the directories of a tree after that
abbrev pub room_moved : Room → Option ℕ → Option ℕ → ℕ → Bool → Tree → Room
room_moved room gaining losing taken gives T =
    table_of nat_cmp_total (map (λ directory. (directory, pages_moved room gaining losing taken gives directory)) (directories T))
