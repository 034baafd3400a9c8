use Rattle.std.proofs.Common.{◌-◌, ◌∙◌, ℕ, sym, ap, sum_by, nat_cmp}
use Rattle.std.specs.Cmp.{nat_cmp_total}
use Rattle.layout.specs.Geometry.{data_pages_of}
use Rattle.tree_model.specs.Tree.{Node, Tree, Room, node_pages}
use Rattle.plain_tree.proofs.TableLaws.{sum_by-table_of}
use Rattle.plain_tree.proofs.FaultLaws.{less-twice}
use Rattle.plain_tree.proofs.tables.counts.free_pages.Goals as goal

pub returns : goal.returns
returns c =
    let all = c.args.geometry.now.data_pages in
    let of_node : ℕ × Node → ℕ = λ e. node_pages e.1 in
    let of_room : ℕ × ℕ → ℕ = λ e. e.1 in
    let files = ap (sum_by of_node) c.deref-2.ensures.value ∙ sym (sum_by-table_of nat_cmp nat_cmp_total of_node c.tree.inside.nodes.items c.tree.invariant.1)
    ∙ ap (λ (T : Tree). sum_by of_node T.nodes.entries) c.tree.view_is in
    let directories = ap (sum_by of_room) c.deref.ensures.value ∙ sym (sum_by-table_of nat_cmp nat_cmp_total of_room c.rooms.inside.pages.items c.rooms.invariant)
    ∙ ap (λ (R : Room). sum_by of_room R.entries) c.rooms.view_is in
    c.without_directories.ensures ∙ ap (λ left. left - sum_by of_room c.deref.result.now) c.without_files.ensures
    ∙ ap (λ n. all - sum_by of_node c.deref-2.result.now - n) directories
    ∙ ap (λ n. all - n - sum_by of_room c.args.rooms.now.entries) files
    ∙ ap (λ n. n - sum_by of_node c.args.tree.now.nodes.entries - sum_by of_room c.args.rooms.now.entries) c.args.geometry.now.data_pages_exact
    ∙ less-twice (data_pages_of c.args.geometry.now.pages) (sum_by of_node c.args.tree.now.nodes.entries) (sum_by of_room c.args.rooms.now.entries)
