use Rattle.std.proofs.Common.{◌≡◌, ℕ, List, ◌∷◌, ◌∙◌, sym, ap, subst, nat_cmp}
use Rattle.std.specs.Cmp.{nat_cmp_total}
use Rattle.tree_model.specs.Table.{insert, table_of}
use Rattle.tree_model.specs.Tree.{Node, Tree, route_cmp_total}
use Rattle.plain_tree.specs.Entries.{AreDistinct, tree_of, node_of}
use Rattle.plain_tree.proofs.EditLaws.{AreDistinct-put, with_node-tree_of}
use Rattle.plain_tree.proofs.tables.Tables.with_node.Goals as goal

pub invariant_of-result : goal.invariant_of-result
invariant_of-result c =
    let node = node_of c.args.node in
    let is = c.in_ok-insert.ensures.items ∙ ap (λ es. (c.args.id, node) ∷ es) c.without_id-nodes.ensures in
    let put = AreDistinct-put nat_cmp nat_cmp_total c.args.id node c.self.inside.nodes.items c.self.invariant.1 in
    (c.self.invariant.0, subst (λ (es : List (ℕ × Node)). AreDistinct nat_cmp es) (sym is) put)

pub returns : goal.returns
returns c =
    let node = node_of c.args.node in
    let is = c.in_ok-insert.ensures.items ∙ ap (λ es. (c.args.id, node) ∷ es) c.without_id-nodes.ensures in
    let put = ap (table_of nat_cmp_total) is ∙ sym (with_node-tree_of c.self.inside.names.items c.self.inside.nodes.items c.args.id node) in
    let here : tree_of c.self.inside.names.items c.insert.new.self.items ≡ record { names = table_of route_cmp_total c.self.inside.names.items; nodes = insert nat_cmp_total (table_of nat_cmp_total c.self.inside.nodes.items) c.args.id node } =
    λ i. record { names = table_of route_cmp_total c.self.inside.names.items; nodes = put i } in
    here ∙ ap (λ (T : Tree). record { names = T.names; nodes = insert nat_cmp_total T.nodes c.args.id node }) c.self.view_is
