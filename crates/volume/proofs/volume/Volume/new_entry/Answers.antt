use Rattle.std.proofs.Common.{ℕ, Option, Ok, refl, ap, subst, ◌∙◌, arith, ◌≡◌, []}
use Rattle.std.proofs.lemmas.Result.{err_from_is_err_and}
use Rattle.layout.specs.Geometry.{inodes_of}
use Rattle.layout.proofs.GeometryLaws.{inodes_below}
use Rattle.allocators.specs.Numbers.{IsFree, IsLowest}
use Rattle.volume.specs.Volume.{VolumeView}
use Rattle.volume.specs.Walks.{place_of_parent, IsLastName}
use Rattle.volume.specs.declared.resolve.LastName.{LastName}
use Rattle.volume.proofs.Naming.{parent_untouched}
use Rattle.volume.proofs.Frees.{least_inode}
use Rattle.volume.proofs.Holders.{would_hold, held, is_here, in_inodes, in_entries}
use Rattle.volume.proofs.Rows.{new_exists, new_no_inode, new_no_page, new_planned, new_walk_fails, new_root}
use Rattle.volume.proofs.volume.Volume.new_entry.Goals as goal

pub returns-then-has_name : goal.returns-then-has_name
returns-then-has_name g c = λ state residue asked.
    let holder = would_hold state.tree c.args.path.now c.in_ok-last.field-0 c.in-Some.last (c.in_ok-last.ensures.directory state residue asked.stands) c.in_ok-last.ensures.name c.in-Some.is in
    new_exists c.args.self.now (g.P.Pm.view c.args.pm.now) state residue c.args.kind c.args.path.now asked _ _ holder (c.if-has_name.ensures.present refl)

pub returns-in_default-lowest : goal.returns-in_default-lowest
returns-in_default-lowest g c = λ state residue asked.
    let holder = would_hold state.tree c.args.path.now c.in_ok-last.field-0 c.in-Some.last (c.in_ok-last.ensures.directory state residue asked.stands) c.in_ok-last.ensures.name c.in-Some.is in
    let none = subst (λ (volume : VolumeView). (k : ℕ) → ¬ IsFree volume.inodes k) c.self.view_is c.in_default-lowest.ensures in
    new_no_inode c.args.self.now (g.P.Pm.view c.args.pm.now) state residue c.args.kind c.args.path.now asked _ _ holder (c.if-has_name.ensures.absent refl) none

pub returns-in_default-place_for_name : goal.returns-in_default-place_for_name
returns-in_default-place_for_name g c = λ state residue asked.
    let holder = would_hold state.tree c.args.path.now c.in_ok-last.field-0 c.in-Some.last (c.in_ok-last.ensures.directory state residue asked.stands) c.in_ok-last.ensures.name c.in-Some.is in
    let lowest = subst (λ (volume : VolumeView). IsLowest volume.inodes c.in-Some-lowest.number) c.self.view_is c.in-Some-lowest.ensures in
    new_no_page c.args.self.now (g.P.Pm.view c.args.pm.now) state residue c.args.kind c.args.path.now asked _ _ holder (c.if-has_name.ensures.absent refl)
    c.in-Some-lowest.number lowest.free c.in_default-place_for_name.ensures.0 c.in_default-place_for_name.ensures.1

pub returns : goal.returns
returns g c = λ state residue asked.
    let holder = would_hold state.tree c.args.path.now c.in_ok-last.field-0 c.in-Some.last (c.in_ok-last.ensures.directory state residue asked.stands) c.in_ok-last.ensures.name c.in-Some.is in
    let lowest = subst (λ (volume : VolumeView). IsLowest volume.inodes c.in-Some-lowest.number) c.self.view_is c.in-Some-lowest.ensures in
    new_planned c.args.self.now (g.P.Pm.view c.args.pm.now) state residue c.args.kind c.args.path.now asked _ _ holder (c.if-has_name.ensures.absent refl)
    c.in-Some-lowest.number c.in-Some-place_for_name.place.slot c.in-Some-place_for_name.place.new_page lowest c.in-Some-place_for_name.ensures

pub place_for_name-requires-clause-stands : goal.place_for_name-requires-clause-stands
place_for_name-requires-clause-stands g c =
    let (state, residue, asked) = c.requires.asked in
    let holder = would_hold state.tree c.args.path.now c.in_ok-last.field-0 c.in-Some.last (c.in_ok-last.ensures.directory state residue asked.stands) c.in_ok-last.ensures.name c.in-Some.is in
    (state, residue, asked.stands, parent_untouched c.args.self.now (g.P.Pm.view c.args.pm.now) state residue c.args.kind c.args.path.now asked c.in-Some.last.directory (held c.args.self.now (g.P.Pm.view c.args.pm.now) state residue asked.stands c.args.path.now _ _ holder).0)

pub place_for_name-requires-clause-least : goal.place_for_name-requires-clause-least
place_for_name-requires-clause-least g c =
    let (state, residue, asked) = c.requires.asked in
    let holder = would_hold state.tree c.args.path.now c.in_ok-last.field-0 c.in-Some.last (c.in_ok-last.ensures.directory state residue asked.stands) c.in_ok-last.ensures.name c.in-Some.is in
    (in_inodes c.args.self.now (g.P.Pm.view c.args.pm.now) state residue asked.stands c.args.path.now _ _ holder).0

pub place_for_name-requires-clause-most : goal.place_for_name-requires-clause-most
place_for_name-requires-clause-most g c =
    let (state, residue, asked) = c.requires.asked in
    let holder = would_hold state.tree c.args.path.now c.in_ok-last.field-0 c.in-Some.last (c.in_ok-last.ensures.directory state residue asked.stands) c.in_ok-last.ensures.name c.in-Some.is in
    (in_inodes c.args.self.now (g.P.Pm.view c.args.pm.now) state residue asked.stands c.args.path.now _ _ holder).1

pub place_for_name-requires-clause-directory : goal.place_for_name-requires-clause-directory
place_for_name-requires-clause-directory g c =
    let (state, residue, asked) = c.requires.asked in
    let holder = would_hold state.tree c.args.path.now c.in_ok-last.field-0 c.in-Some.last (c.in_ok-last.ensures.directory state residue asked.stands) c.in_ok-last.ensures.name c.in-Some.is in
    is_here c.args.self.now (g.P.Pm.view c.args.pm.now) state residue asked.stands c.args.path.now _ _ holder

pub overflow_add-result : goal.overflow_add-result
overflow_add-result g c =
    let (state, residue, asked) = c.requires.asked in
    let lowest = subst (λ (volume : VolumeView). IsLowest volume.inodes c.in-Some-lowest.number) c.self.view_is c.in-Some-lowest.ensures in
    let most = (least_inode c.args.self.now (g.P.Pm.view c.args.pm.now) state residue asked.stands c.in-Some-lowest.number lowest).free.1 in
    let geometry = c.self.inside.geometry in
    let below = inodes_below geometry.pages geometry.volume_size in
    let same = ap (λ (volume : VolumeView). inodes_of volume.size) c.self.view_is in
    omega (arith, most, below, same, geometry.volume_size)

pub has_name-requires-clause-least : goal.has_name-requires-clause-least
has_name-requires-clause-least g c =
    let (state, residue, asked) = c.requires.asked in
    let holder = would_hold state.tree c.args.path.now c.in_ok-last.field-0 c.in-Some.last (c.in_ok-last.ensures.directory state residue asked.stands) c.in_ok-last.ensures.name c.in-Some.is in
    (in_entries c.args.self.now (g.P.Pm.view c.args.pm.now) state residue asked.stands c.args.path.now _ _ holder).0

pub has_name-requires-clause-most : goal.has_name-requires-clause-most
has_name-requires-clause-most g c =
    let (state, residue, asked) = c.requires.asked in
    let holder = would_hold state.tree c.args.path.now c.in_ok-last.field-0 c.in-Some.last (c.in_ok-last.ensures.directory state residue asked.stands) c.in_ok-last.ensures.name c.in-Some.is in
    (in_entries c.args.self.now (g.P.Pm.view c.args.pm.now) state residue asked.stands c.args.path.now _ _ holder).1

pub resolve_parent-requires : goal.resolve_parent-requires
resolve_parent-requires g c = let (state, residue, asked) = c.requires.asked in record { stands = (state, residue, asked.stands) }

pub returns-in_err-last : goal.returns-in_err-last
returns-in_err-last g c =
    let p = err_from_is_err_and c.from_residual.result c.from_residual.ensures.1 in
    rw (p.1, p.2) (λ state residue asked. new_walk_fails c.args.self.now (g.P.Pm.view c.args.pm.now) state residue c.args.kind c.args.path.now asked _ (c.in_err-last.ensures.directory state residue asked.stands))

pub returns-in_default : goal.returns-in_default
returns-in_default g c = λ state residue asked.
    let root : c.args.path.now ≡ [] = subst (IsLastName c.args.path.now) c.in_default.is c.in_ok-last.ensures.name in
    let walked = c.in_ok-last.ensures.directory state residue asked.stands ∙ ap (λ (last : Option LastName). place_of_parent c.args.path.now (Ok last)) c.in_default.is in
    new_root c.args.self.now (g.P.Pm.view c.args.pm.now) state residue c.args.kind c.args.path.now asked root walked
