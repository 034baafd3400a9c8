use Rattle.std.proofs.Common.{ℕ, refl, sym, subst, arith}
use Rattle.layout.proofs.GeometryLaws.{data_pages_below}
use Rattle.image_counts.specs.Entries.{IsUnusedDataPage}
use Rattle.volume.specs.Volume.{VolumeView}
use Rattle.volume.specs.Beside.{IsStandingBeside}
use Rattle.volume.specs.Planned.{IsLowestPage}
use Rattle.volume.proofs.Places.{free_page, page_free, lowest_page}
use Rattle.volume.proofs.volume.Volume.place_for_name.Goals as goal

pub overflow_mul-result : goal.overflow_mul-result
overflow_mul-result g c =
    let (state, residue, stands, untouched) = c.requires.stands in
    let standing = subst (λ (volume : VolumeView). IsStandingBeside volume (g.P.Pm.view c.args.pm.now)) (sym c.self.view_is) (state, residue, stands) in
    let free = free_page _ _ standing c.in_ok-page-in-None.page c.in_ok-page-in-None.ensures.free in
    let geometry = c.self.inside.geometry in
    let below = data_pages_below geometry.pages geometry.volume_size in
    omega (arith, below, geometry.volume_size, free.0)

pub returns-in_ok-page-in-None : goal.returns-in_ok-page-in-None
returns-in_ok-page-in-None g c =
    let (state, residue, stands, untouched) = c.requires.stands in
    let standing = subst (λ (volume : VolumeView). IsStandingBeside volume (g.P.Pm.view c.args.pm.now)) (sym c.self.view_is) (state, residue, stands) in
    let page = subst (λ (volume : VolumeView). IsLowestPage volume.size (g.P.Pm.view c.args.pm.now).words c.in_ok-page-in-None.page) c.self.view_is (lowest_page _ _ standing c.in_ok-page-in-None.page c.in_ok-page-in-None.ensures) in
    record { full = c.in-None.ensures; page_is = page; slot_is = refl }

pub returns-in_err-page-in-None : goal.returns-in_err-page-in-None
returns-in_err-page-in-None g c =
    let (state, residue, stands, untouched) = c.requires.stands in
    let standing = subst (λ (volume : VolumeView). IsStandingBeside volume (g.P.Pm.view c.args.pm.now)) (sym c.self.view_is) (state, residue, stands) in
    let none : (page : ℕ) → ¬ IsUnusedDataPage c.args.self.now.size (g.P.Pm.view c.args.pm.now).words page = λ page unused. c.in_err-page-in-None.ensures page (page_free _ _ standing page (subst (λ (volume : VolumeView). IsUnusedDataPage volume.size (g.P.Pm.view c.args.pm.now).words page) (sym c.self.view_is) unused)) in
    rw c.from_residual.ensures (c.in-None.ensures, none)
