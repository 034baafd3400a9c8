use Rattle.std.proofs.Common.{ℕ, List, ◌∷◌, ◌∙◌, sym, ap, subst}
use Rattle.std.specs.FinMap.Entries.{where_key}
use Rattle.tree_model.specs.PathText.{Route}
use Rattle.tree_model.specs.Tree.{route_cmp, route_cmp_total}
use Rattle.tree_model.specs.Step.{with_path}
use Rattle.plain_tree.specs.Entries.{AreDistinct, tree_of, is_other}
use Rattle.plain_tree.proofs.EditLaws.{AreDistinct-put, with_path-tree_of}
use Rattle.plain_tree.proofs.tables.Tables.with_path.Goals as goal

pub invariant_of-result : goal.invariant_of-result
invariant_of-result c =
    let path = c.args.path.items in
    let names = c.self.inside.names.items in
    let others = c.without_route-names.ensures ∙ ap (λ p. where_key route_cmp (is_other p) names) c.deref.ensures.value in
    let is = c.in_ok-insert.ensures.items ∙ ap (λ es. (path, c.args.id) ∷ es) others in
    let put = AreDistinct-put route_cmp route_cmp_total path c.args.id names c.self.invariant.0 in
    (subst (λ (es : List (Route × ℕ)). AreDistinct route_cmp es) (sym is) put, c.self.invariant.1)

pub returns : goal.returns
returns c =
    let path = c.args.path.items in
    let names = c.self.inside.names.items in
    let others = c.without_route-names.ensures ∙ ap (λ p. where_key route_cmp (is_other p) names) c.deref.ensures.value in
    let is = c.in_ok-insert.ensures.items ∙ ap (λ es. (path, c.args.id) ∷ es) others in
    ap (λ names. tree_of names c.self.inside.nodes.items) is
    ∙ sym (with_path-tree_of names c.self.inside.nodes.items path c.args.id)
    ∙ ap (λ T. with_path T path c.args.id) c.self.view_is
