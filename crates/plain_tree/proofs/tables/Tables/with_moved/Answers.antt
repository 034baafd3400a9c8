use Rattle.std.proofs.Common.{◌≡◌, ℕ, List, true, is_some, None, ◌∙◌, sym, ap, subst}
use Rattle.tree_model.specs.PathText.{Route}
use Rattle.tree_model.specs.Tree.{route_cmp, id_at, rest_after}
use Rattle.tree_model.specs.Step.{with_moved}
use Rattle.plain_tree.specs.Entries.{AreDistinct, tree_of}
use Rattle.plain_tree.proofs.EditLaws.{AreDistinct-moved, AreClearOf-listed, with_moved-tree_of}
use Rattle.plain_tree.proofs.tables.Tables.with_moved.Goals as goal

pub invariant_of-result : goal.invariant_of-result
invariant_of-result c =
    let names = c.self.inside.names.items in
    let clear : (path : Route) → is_some (id_at (tree_of names c.self.inside.nodes.items) path) ≡ true → rest_after c.args.to.now path ≡ None =
    λ path there. c.requires.clear path (ap (λ T. is_some (id_at T path)) (sym c.self.view_is) ∙ there) in
    let moved = AreDistinct-moved c.args.from.now c.args.to.now names (AreClearOf-listed names c.self.inside.nodes.items c.args.to.now clear) c.self.invariant.0 in
    (subst (λ (es : List (Route × ℕ)). AreDistinct route_cmp es) (sym c.in_ok-names.ensures) moved, c.self.invariant.1)

pub returns : goal.returns
returns c =
    let names = c.self.inside.names.items in
    let clear : (path : Route) → is_some (id_at (tree_of names c.self.inside.nodes.items) path) ≡ true → rest_after c.args.to.now path ≡ None =
    λ path there. c.requires.clear path (ap (λ T. is_some (id_at T path)) (sym c.self.view_is) ∙ there) in
    ap (λ names. tree_of names c.self.inside.nodes.items) c.in_ok-names.ensures
    ∙ sym (with_moved-tree_of names c.self.inside.nodes.items c.args.from.now c.args.to.now clear)
    ∙ ap (λ T. with_moved T c.args.from.now c.args.to.now) c.self.view_is
