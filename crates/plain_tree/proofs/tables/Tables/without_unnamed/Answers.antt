use Rattle.std.proofs.Common.{ℕ, List, ◌∙◌, sym, ap, subst, nat_cmp}
use Rattle.std.specs.FinMap.Entries.{where_key}
use Rattle.tree_model.specs.Tree.{Node}
use Rattle.tree_model.specs.Step.{without_unnamed}
use Rattle.plain_tree.specs.Entries.{AreDistinct, tree_of, has_name}
use Rattle.plain_tree.proofs.TableLaws.{AreDistinct-where_key}
use Rattle.plain_tree.proofs.EditLaws.{without_unnamed-tree_of}
use Rattle.plain_tree.proofs.tables.Tables.without_unnamed.Goals as goal

pub invariant_of-result : goal.invariant_of-result
invariant_of-result c =
    let nodes = c.self.inside.nodes.items in
    let is = c.only_named-nodes.ensures ∙ ap (λ names. where_key nat_cmp (has_name names) nodes) c.deref.ensures.value in
    let kept = AreDistinct-where_key nat_cmp (has_name c.self.inside.names.items) nodes c.self.invariant.1 in
    (c.self.invariant.0, subst (λ (es : List (ℕ × Node)). AreDistinct nat_cmp es) (sym is) kept)

pub returns : goal.returns
returns c =
    let nodes = c.self.inside.nodes.items in
    let is = c.only_named-nodes.ensures ∙ ap (λ names. where_key nat_cmp (has_name names) nodes) c.deref.ensures.value in
    ap (tree_of c.self.inside.names.items) is
    ∙ sym (without_unnamed-tree_of c.self.inside.names.items nodes c.self.invariant.0)
    ∙ ap without_unnamed c.self.view_is
