-- What is in a whole tree: how many names, and how many bytes.
use Rattle.std.specs.Prelude.{ℕ, not, length, count_by, sum_by, Some}
use Rattle.tree_model.specs.Tree.{Tree, Node, bytes_of_node, is_root}
use Rattle.volume.specs.declared.totals.Totals.{Totals}

-- the paths but the root's
abbrev pub below_root : Tree → ℕ
below_root T = count_by (λ e. not (is_root e.0)) T.names.entries

-- the bytes of a file; a directory has none
abbrev pub node_size : Node → ℕ
node_size node = length (bytes_of_node (Some node))

-- the sizes of all files, each file once however many names it has
abbrev pub bytes_in_files : Tree → ℕ
bytes_in_files T = sum_by (λ e. node_size e.1) T.nodes.entries

abbrev pub totals_of : Tree → Totals
totals_of T = record { names = below_root T; bytes = bytes_in_files T }
