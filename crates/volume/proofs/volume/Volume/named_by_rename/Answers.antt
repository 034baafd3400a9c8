use Rattle.std.proofs.Common.{not, refl, ap, ◌∙◌}
use Rattle.std.proofs.lemmas.Result.{err_from_is_err_and}
use Rattle.volume.proofs.WalkedNames.{rename_fails_first, rename_fails_second, rename_at_root, rename_is_name_row}
use Rattle.volume.proofs.volume.Volume.named_by_rename.Goals as goal

pub returns-in_err-resolve : goal.returns-in_err-resolve
returns-in_err-resolve g c =
    let p = err_from_is_err_and c.from_residual.result c.from_residual.ensures.1 in
    rw (p.1, p.2) (λ state residue stands. rename_fails_first state.tree c.args.from.now c.args.to.now _ (c.in_err-resolve.ensures state residue stands))

pub returns-in_err-resolve_parent : goal.returns-in_err-resolve_parent
returns-in_err-resolve_parent g c =
    let p = err_from_is_err_and c.from_residual-in_err-resolve_parent.result c.from_residual-in_err-resolve_parent.ensures.1 in
    rw (p.1, p.2) (λ state residue stands. rename_fails_second state.tree c.args.from.now c.args.to.now c.in_ok-resolve.field-0 (c.in_ok-resolve.ensures state residue stands) _ (c.in_err-resolve_parent.ensures.directory state residue stands))

pub returns-then-is_none : goal.returns-then-is_none
returns-then-is_none g c = λ state residue stands.
    rename_at_root state.tree c.args.from.now c.args.to.now c.in_ok-resolve.field-0 (c.in_ok-resolve.ensures state residue stands)
    c.in_ok-resolve_parent.field-0 (c.in_ok-resolve_parent.ensures.directory state residue stands) c.in_ok-resolve_parent.ensures.name (c.is_none.ensures ∙ ap not c.if-is_none.true)

pub returns-in_err-name_at : goal.returns-in_err-name_at
returns-in_err-name_at g c =
    let p = err_from_is_err_and c.from_residual-in_err-name_at.result c.from_residual-in_err-name_at.ensures.1 in
    rw (p.1, p.2) (λ state residue stands.
    rename_is_name_row state.tree c.args.from.now c.args.to.now c.in_ok-resolve.field-0 (c.in_ok-resolve.ensures state residue stands)
    c.in_ok-resolve_parent.field-0 (c.in_ok-resolve_parent.ensures.directory state residue stands) c.in_ok-resolve_parent.ensures.name (c.is_none.ensures ∙ ap not c.if-is_none.false)
    ∙ c.in_err-name_at.ensures.row state residue stands)

pub returns : goal.returns
returns g c = λ state residue stands. (
  rename_is_name_row state.tree c.args.from.now c.args.to.now c.in_ok-resolve.field-0 (c.in_ok-resolve.ensures state residue stands)
      c.in_ok-resolve_parent.field-0 (c.in_ok-resolve_parent.ensures.directory state residue stands) c.in_ok-resolve_parent.ensures.name (c.is_none.ensures ∙ ap not c.if-is_none.false)
      ∙ c.in_ok-name_at.ensures.row state residue stands,
  refl,
)
