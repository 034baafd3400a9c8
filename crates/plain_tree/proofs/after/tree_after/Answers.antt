use Rattle.std.proofs.Common.{◌≡◌, true, false, is_some, None, sym, ap, ◌∙◌, subst}
use Rattle.tree_model.specs.PathText.{Route}
use Rattle.tree_model.specs.Tree.{Tree, id_at, rest_after}
use Rattle.tree_model.specs.Capacity.{untaken}
use Rattle.tree_model.specs.Step.{refusal_of, is_same_node, without_path}
use Rattle.plain_tree.proofs.StateLaws.{clear-accepted}
use Rattle.plain_tree.proofs.after.tree_after.Goals as goal

pub renamed-requires : goal.renamed-requires
renamed-requires c =
    let volume = c.requires.accepted.0 in
    let state = c.requires.accepted.1 in
    let accepted = ap (refusal_of volume c.args.tree.now c.args.rooms.now) (sym c.in-Rename.is) ∙ c.requires.accepted.2 in
    let clear = clear-accepted (untaken volume) c.args.tree.now c.args.rooms.now c.in-Rename.from c.in-Rename.to state.tree accepted in
    record {
      clear = subst (λ (T : Tree). is_same_node T c.in-Rename.from c.in-Rename.to ≡ false
          → (p : Route) → is_some (id_at (without_path T c.in-Rename.to) p) ≡ true → rest_after c.in-Rename.to p ≡ None) (sym c.in_ok-copy.ensures) clear;
    }
