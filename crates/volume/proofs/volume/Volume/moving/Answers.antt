use Rattle.std.proofs.Common.{◌≢◌, ℕ, List, Option, sym, subst, ◌∙◌}
use Rattle.layout.specs.Geometry.{page_of_slot}
use Rattle.volume.specs.Volume.{VolumeView}
use Rattle.volume.specs.Planned.{IsAlone, IsGivenBack}
use Rattle.volume.proofs.RenameRows.{given_too}
use Rattle.volume.proofs.volume.Volume.moving.Goals as goal
use Rattle.volume.proofs.volume.Volume.moving.Goals.{then-same_page, else-same_page}

pub returns-clause-given_back : goal.returns-clause-given_back
returns-clause-given_back g c =
    let slot = c.args.source.slot in
    let to = c.args.place.now.slot in
    let Alone : Type 0 = IsAlone c.args.self.now.size (g.P.Pm.view c.args.pm.now).words slot in
    let Other : Type 0 = page_of_slot to ≢ page_of_slot slot in
    elim c.if-same_page.branch [
      | then-same_page w ↦ subst (λ (given : Option ℕ). IsGivenBack (Alone × Other) slot given) (sym w.given_back-is) (λ (both : Alone × Other). both.1 (sym c.page_of.ensures.is ∙ w.if-same_page.true ∙ c.page_of-2.ensures.is))
      | else-same_page w ↦
          let alone = subst (λ (volume : VolumeView). IsGivenBack (IsAlone volume.size (g.P.Pm.view c.args.pm.now).words slot) slot w.emptied_page-given_back.result) c.self.view_is
          (subst (λ (words : List ℕ). IsGivenBack (IsAlone c.self.inside.geometry.pages words slot) slot w.emptied_page-given_back.result) w.image.ensures w.emptied_page-given_back.ensures) in
          subst (λ (given : Option ℕ). IsGivenBack (Alone × Other) slot given) (sym w.given_back-is)
          (given_too Alone Other slot w.emptied_page-given_back.result (λ same. w.if-same_page.false (c.page_of.ensures.is ∙ same ∙ sym c.page_of-2.ensures.is)) alone)
    ]
