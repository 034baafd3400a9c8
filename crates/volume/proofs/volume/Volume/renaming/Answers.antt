use Rattle.std.proofs.Common.{◌≤◌, sym, subst, ◌≡◌, [], Option, Ok, ap, ◌∙◌}
use Rattle.std.proofs.lemmas.Result.{err_from_is_err_and}
use Rattle.image_reading.specs.Residue.{no_residue}
use Rattle.volatile_index.specs.Entries.{IsAbsent}
use Rattle.volatile_index.specs.Index.{inodes_of_index, entries_of}
use Rattle.volume.specs.Volume.{VolumeView}
use Rattle.volume.specs.Walks.{place_of_parent, IsLastName}
use Rattle.volume.specs.declared.resolve.LastName.{LastName}
use Rattle.volume.proofs.Holders.{would_hold, in_entries}
use Rattle.volume.proofs.RenameRows.{refusal_alone, rename_source_fails, rename_target_fails, rename_to_root, rename_row_fails}
use Rattle.volume.proofs.volume.Volume.renaming.Goals as goal

pub find-requires-clause-from_one : goal.find-requires-clause-from_one
find-requires-clause-from_one g c =
    let (state, stands) = c.requires.stands in
    let holder = would_hold state.tree c.args.to.now c.in_ok-target.field-0 c.in-Some.target (c.in_ok-target.ensures.directory state no_residue stands) c.in_ok-target.ensures.name c.in-Some.is in
    (in_entries c.args.self.now (g.P.Pm.view c.args.pm.now) state no_residue stands c.args.to.now _ _ holder).0

pub find-requires-clause-in_range : goal.find-requires-clause-in_range
find-requires-clause-in_range g c =
    let (state, stands) = c.requires.stands in
    let holder = would_hold state.tree c.args.to.now c.in_ok-target.field-0 c.in-Some.target (c.in_ok-target.ensures.directory state no_residue stands) c.in_ok-target.ensures.name c.in-Some.is in
    let most = (in_entries c.args.self.now (g.P.Pm.view c.args.pm.now) state no_residue stands c.args.to.now _ _ holder).1 in
    subst (λ (volume : VolumeView). c.in-Some.target.directory ≤ inodes_of_index volume.index) (sym c.self.view_is) most

pub move_to_new_name-requires-clause-absent : goal.move_to_new_name-requires-clause-absent
move_to_new_name-requires-clause-absent g c =
    subst (λ (volume : VolumeView). IsAbsent (entries_of volume.index c.in-Some.target.directory) c.in-Some.target.name) c.self.view_is c.in-None.ensures.slot

pub resolve-requires-clause-stands : goal.resolve-requires-clause-stands
resolve-requires-clause-stands g c = let (state, stands) = c.requires.stands in (state, no_residue, stands)

pub resolve_parent-requires : goal.resolve_parent-requires
resolve_parent-requires g c = let (state, stands) = c.requires.stands in record { stands = (state, no_residue, stands) }

pub move_to_new_name-requires-clause-target : goal.move_to_new_name-requires-clause-target
move_to_new_name-requires-clause-target g c = λ state stands.
    would_hold state.tree c.args.to.now c.in_ok-target.field-0 c.in-Some.target (c.in_ok-target.ensures.directory state no_residue stands) c.in_ok-target.ensures.name c.in-Some.is

pub move_onto_name-requires-clause-target : goal.move_onto_name-requires-clause-target
move_onto_name-requires-clause-target g c = λ state stands.
    would_hold state.tree c.args.to.now c.in_ok-target.field-0 c.in-Some.target (c.in_ok-target.ensures.directory state no_residue stands) c.in_ok-target.ensures.name c.in-Some.is

pub returns-in_err-resolve : goal.returns-in_err-resolve
returns-in_err-resolve g c =
    let p = err_from_is_err_and c.from_residual.result c.from_residual.ensures.1 in
    rw (p.1, p.2) (refusal_alone c.args.self.now (g.P.Pm.view c.args.pm.now) c.args.from.now c.args.to.now _ (λ state stands. rename_source_fails c.args.self.now.size state c.args.from.now c.args.to.now _ (c.in_err-resolve.ensures state no_residue stands)))

pub returns-in_err-target : goal.returns-in_err-target
returns-in_err-target g c =
    let p = err_from_is_err_and c.from_residual-in_err-target.result c.from_residual-in_err-target.ensures.1 in
    rw (p.1, p.2) (refusal_alone c.args.self.now (g.P.Pm.view c.args.pm.now) c.args.from.now c.args.to.now _ (λ state stands. rename_target_fails c.args.self.now.size state c.args.from.now c.args.to.now _ _ (c.in_ok-resolve.ensures state no_residue stands) (c.in_err-target.ensures.directory state no_residue stands)))

pub returns-in_default : goal.returns-in_default
returns-in_default g c = refusal_alone c.args.self.now (g.P.Pm.view c.args.pm.now) c.args.from.now c.args.to.now _ (λ state stands.
    let root : c.args.to.now ≡ [] = subst (IsLastName c.args.to.now) c.in_default.is c.in_ok-target.ensures.name in
    let walked = c.in_ok-target.ensures.directory state no_residue stands ∙ ap (λ (last : Option LastName). place_of_parent c.args.to.now (Ok last)) c.in_default.is in
    rename_to_root c.args.self.now.size state c.args.from.now c.args.to.now _ (c.in_ok-resolve.ensures state no_residue stands) root walked)

pub returns-in_err-source : goal.returns-in_err-source
returns-in_err-source g c =
    let p = err_from_is_err_and c.from_residual-in_err-source.result c.from_residual-in_err-source.ensures.1 in
    rw (p.1, p.2) (refusal_alone c.args.self.now (g.P.Pm.view c.args.pm.now) c.args.from.now c.args.to.now _ (λ state stands. rename_row_fails c.args.self.now.size state c.args.from.now c.args.to.now _ _ (c.in_ok-target.ensures.directory state no_residue stands ∙ ap (λ (last : Option LastName). place_of_parent c.args.to.now (Ok last)) c.in-Some.is) (c.in_err-source.ensures.row state no_residue stands)))

pub name_at-requires : goal.name_at-requires
name_at-requires g c = let (state, stands) = c.requires.stands in record { stands = (state, no_residue, stands) }

pub move_to_new_name-requires-clause-source : goal.move_to_new_name-requires-clause-source
move_to_new_name-requires-clause-source g c = λ state stands. record { row = c.in_ok-source.ensures.row state no_residue stands; named = c.in_ok-source.ensures.named state no_residue stands }

pub move_onto_name-requires-clause-source : goal.move_onto_name-requires-clause-source
move_onto_name-requires-clause-source g c = λ state stands. record { row = c.in_ok-source.ensures.row state no_residue stands; named = c.in_ok-source.ensures.named state no_residue stands }
