use Rattle.std.proofs.Common.{ℕ, List, ◌∙◌, sym, ap, subst}
use Rattle.tree_model.specs.PathText.{Route}
use Rattle.tree_model.specs.Tree.{route_cmp}
use Rattle.tree_model.specs.Step.{without_path}
use Rattle.plain_tree.specs.Entries.{AreDistinct, tree_of, is_other}
use Rattle.plain_tree.proofs.TableLaws.{AreDistinct-where_key}
use Rattle.plain_tree.proofs.EditLaws.{without_path-tree_of}
use Rattle.plain_tree.proofs.tables.Tables.without_path.Goals as goal

pub invariant_of-result : goal.invariant_of-result
invariant_of-result c =
    let kept = AreDistinct-where_key route_cmp (is_other c.args.path.now) c.self.inside.names.items c.self.invariant.0 in
    (subst (λ (es : List (Route × ℕ)). AreDistinct route_cmp es) (sym c.without_route-names.ensures) kept, c.self.invariant.1)

pub returns : goal.returns
returns c =
    ap (λ names. tree_of names c.self.inside.nodes.items) c.without_route-names.ensures
    ∙ sym (without_path-tree_of c.self.inside.names.items c.self.inside.nodes.items c.args.path.now)
    ∙ ap (λ T. without_path T c.args.path.now) c.self.view_is
