use Rattle.std.proofs.Common.{refl, sym, ◌≡◌, [], Option, Ok, ap, subst, ◌∙◌}
use Rattle.std.proofs.lemmas.Result.{err_from_is_err_and}
use Rattle.tree_model.proofs.WalkLaws.{id_at-from_walk}
use Rattle.volume.specs.Walks.{place_of_parent, IsLastName}
use Rattle.volume.specs.declared.resolve.LastName.{LastName}
use Rattle.volume.proofs.WalkedBeside.{stands_tree, reached_at}
use Rattle.volume.proofs.Naming.{linked_untouched}
use Rattle.volume.proofs.Holders.{would_hold, held, is_here, in_inodes, in_entries}
use Rattle.volume.proofs.LinkRows.{link_exists, link_directory, link_no_page, link_planned, link_source_fails, link_walk_fails, link_root}
use Rattle.volume.proofs.volume.Volume.new_name.Goals as goal

pub has_name-requires-clause-least : goal.has_name-requires-clause-least
has_name-requires-clause-least g c =
    let (state, residue, asked) = c.requires.asked in
    let holder = would_hold state.tree c.args.to.now c.in_ok-last.field-0 c.in-Some.last (c.in_ok-last.ensures.directory state residue asked.stands) c.in_ok-last.ensures.name c.in-Some.is in
    (in_entries c.args.self.now (g.P.Pm.view c.args.pm.now) state residue asked.stands c.args.to.now _ _ holder).0

pub has_name-requires-clause-most : goal.has_name-requires-clause-most
has_name-requires-clause-most g c =
    let (state, residue, asked) = c.requires.asked in
    let holder = would_hold state.tree c.args.to.now c.in_ok-last.field-0 c.in-Some.last (c.in_ok-last.ensures.directory state residue asked.stands) c.in_ok-last.ensures.name c.in-Some.is in
    (in_entries c.args.self.now (g.P.Pm.view c.args.pm.now) state residue asked.stands c.args.to.now _ _ holder).1

pub returns-then-has_name : goal.returns-then-has_name
returns-then-has_name g c = λ state residue asked.
    let holder = would_hold state.tree c.args.to.now c.in_ok-last.field-0 c.in-Some.last (c.in_ok-last.ensures.directory state residue asked.stands) c.in_ok-last.ensures.name c.in-Some.is in
    link_exists c.args.self.now (g.P.Pm.view c.args.pm.now) state residue c.args.from.now c.args.to.now asked c.in_ok-inode.inode (c.in_ok-inode.ensures state residue asked.stands) _ _ holder (c.if-has_name.ensures.present refl)

pub is_directory-requires-clause-reached : goal.is_directory-requires-clause-reached
is_directory-requires-clause-reached g c =
    let (state, residue, asked) = c.requires.asked in
    let tree = stands_tree c.args.self.now (g.P.Pm.view c.args.pm.now) state residue asked.stands in
    reached_at c.args.self.now (g.P.Pm.view c.args.pm.now) state residue c.args.from.now c.in_ok-inode.inode asked.stands
    (id_at-from_walk state.tree c.args.from.now _ tree (c.in_ok-inode.ensures state residue asked.stands))

pub returns-then-is_directory : goal.returns-then-is_directory
returns-then-is_directory g c = λ state residue asked.
    let holder = would_hold state.tree c.args.to.now c.in_ok-last.field-0 c.in-Some.last (c.in_ok-last.ensures.directory state residue asked.stands) c.in_ok-last.ensures.name c.in-Some.is in
    link_directory c.args.self.now (g.P.Pm.view c.args.pm.now) state residue c.args.from.now c.args.to.now asked c.in_ok-inode.inode (c.in_ok-inode.ensures state residue asked.stands) _ _ holder (c.if-has_name.ensures.absent refl)
    (sym (c.if-is_directory.ensures state residue asked.stands))

pub place_for_name-requires-clause-stands : goal.place_for_name-requires-clause-stands
place_for_name-requires-clause-stands g c =
    let (state, residue, asked) = c.requires.asked in
    let holder = would_hold state.tree c.args.to.now c.in_ok-last.field-0 c.in-Some.last (c.in_ok-last.ensures.directory state residue asked.stands) c.in_ok-last.ensures.name c.in-Some.is in (
      state,
      residue,
      asked.stands,
      linked_untouched c.args.self.now (g.P.Pm.view c.args.pm.now) state residue c.args.from.now c.args.to.now asked c.in-Some.last.directory
          (held c.args.self.now (g.P.Pm.view c.args.pm.now) state residue asked.stands c.args.to.now _ _ holder).0,
    )

pub place_for_name-requires-clause-least : goal.place_for_name-requires-clause-least
place_for_name-requires-clause-least g c =
    let (state, residue, asked) = c.requires.asked in
    let holder = would_hold state.tree c.args.to.now c.in_ok-last.field-0 c.in-Some.last (c.in_ok-last.ensures.directory state residue asked.stands) c.in_ok-last.ensures.name c.in-Some.is in
    (in_inodes c.args.self.now (g.P.Pm.view c.args.pm.now) state residue asked.stands c.args.to.now _ _ holder).0

pub place_for_name-requires-clause-most : goal.place_for_name-requires-clause-most
place_for_name-requires-clause-most g c =
    let (state, residue, asked) = c.requires.asked in
    let holder = would_hold state.tree c.args.to.now c.in_ok-last.field-0 c.in-Some.last (c.in_ok-last.ensures.directory state residue asked.stands) c.in_ok-last.ensures.name c.in-Some.is in
    (in_inodes c.args.self.now (g.P.Pm.view c.args.pm.now) state residue asked.stands c.args.to.now _ _ holder).1

pub place_for_name-requires-clause-directory : goal.place_for_name-requires-clause-directory
place_for_name-requires-clause-directory g c =
    let (state, residue, asked) = c.requires.asked in
    let holder = would_hold state.tree c.args.to.now c.in_ok-last.field-0 c.in-Some.last (c.in_ok-last.ensures.directory state residue asked.stands) c.in_ok-last.ensures.name c.in-Some.is in
    is_here c.args.self.now (g.P.Pm.view c.args.pm.now) state residue asked.stands c.args.to.now _ _ holder

pub returns-in_default-place_for_name : goal.returns-in_default-place_for_name
returns-in_default-place_for_name g c = λ state residue asked.
    let holder = would_hold state.tree c.args.to.now c.in_ok-last.field-0 c.in-Some.last (c.in_ok-last.ensures.directory state residue asked.stands) c.in_ok-last.ensures.name c.in-Some.is in
    link_no_page c.args.self.now (g.P.Pm.view c.args.pm.now) state residue c.args.from.now c.args.to.now asked c.in_ok-inode.inode (c.in_ok-inode.ensures state residue asked.stands) _ _ holder (c.if-has_name.ensures.absent refl)
    (sym (c.if-is_directory.ensures state residue asked.stands)) c.in_default-place_for_name.ensures.0 c.in_default-place_for_name.ensures.1

pub returns : goal.returns
returns g c = λ state residue asked.
    let holder = would_hold state.tree c.args.to.now c.in_ok-last.field-0 c.in-Some.last (c.in_ok-last.ensures.directory state residue asked.stands) c.in_ok-last.ensures.name c.in-Some.is in
    link_planned c.args.self.now (g.P.Pm.view c.args.pm.now) state residue c.args.from.now c.args.to.now asked c.in_ok-inode.inode (c.in_ok-inode.ensures state residue asked.stands) _ _ holder (c.if-has_name.ensures.absent refl)
    c.in-Some-place_for_name.place.slot c.in-Some-place_for_name.place.new_page (sym (c.if-is_directory.ensures state residue asked.stands)) c.in-Some-place_for_name.ensures

pub resolve-requires-clause-stands : goal.resolve-requires-clause-stands
resolve-requires-clause-stands g c = let (state, residue, asked) = c.requires.asked in (state, residue, asked.stands)

pub is_directory-requires-clause-stands : goal.is_directory-requires-clause-stands
is_directory-requires-clause-stands g c = let (state, residue, asked) = c.requires.asked in (state, residue, asked.stands)

pub resolve_parent-requires : goal.resolve_parent-requires
resolve_parent-requires g c = let (state, residue, asked) = c.requires.asked in record { stands = (state, residue, asked.stands) }

pub returns-in_err-inode : goal.returns-in_err-inode
returns-in_err-inode g c =
    let p = err_from_is_err_and c.from_residual.result c.from_residual.ensures.1 in
    rw (p.1, p.2) (λ state residue asked. link_source_fails c.args.self.now (g.P.Pm.view c.args.pm.now) state residue c.args.from.now c.args.to.now asked _ (c.in_err-inode.ensures state residue asked.stands))

pub returns-in_err-last : goal.returns-in_err-last
returns-in_err-last g c =
    let p = err_from_is_err_and c.from_residual-in_err-last.result c.from_residual-in_err-last.ensures.1 in
    rw (p.1, p.2) (λ state residue asked. link_walk_fails c.args.self.now (g.P.Pm.view c.args.pm.now) state residue c.args.from.now c.args.to.now asked c.in_ok-inode.inode (c.in_ok-inode.ensures state residue asked.stands) _ (c.in_err-last.ensures.directory state residue asked.stands))

pub returns-in_default : goal.returns-in_default
returns-in_default g c = λ state residue asked.
    let root : c.args.to.now ≡ [] = subst (IsLastName c.args.to.now) c.in_default.is c.in_ok-last.ensures.name in
    let walked = c.in_ok-last.ensures.directory state residue asked.stands ∙ ap (λ (last : Option LastName). place_of_parent c.args.to.now (Ok last)) c.in_default.is in
    link_root c.args.self.now (g.P.Pm.view c.args.pm.now) state residue c.args.from.now c.args.to.now asked c.in_ok-inode.inode (c.in_ok-inode.ensures state residue asked.stands) root walked
