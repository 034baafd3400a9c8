use Rattle.std.proofs.Common.{◌≡◌, ℕ, ◌-◌, List, sym, ap, subst, ◌∙◌}
use Rattle.std.specs.Prelude.{Ok, OnOk}
use Rattle.pm_trait.specs.Unfolds.{Takes}
use Rattle.layout.specs.Geometry.{IsVolumeSize}
use Rattle.volume.specs.Volume.{VolumeView}
use Rattle.data_ops.specs.GrowthStages.{EntersGrowth, KnowsGrowth, step_of_growth}
use Rattle.data_ops.specs.GrowthSteps.{StandsNextGrowth}
use Rattle.data_ops.proofs.Growth.{of_ok, knows_kept, behind}
use Rattle.data_ops.proofs.grow.advance_growth.Goals as goal

pub enter_growth-requires : goal.enter_growth-requires
enter_growth-requires g c =
    let volume = c.args.volume.now in
    let spent = c.settle.new.volume in
    let inode = c.args.growth.now.inode in
    let is = of_ok (λ result. OnOk result (spent ≡ record volume { kept = volume.kept - c.step_events-events.result })) c.in_ok-settle.ensures.same c.in_ok-settle.ensures.volume.made in
    record { knows = subst (λ (l : List ℕ). KnowsGrowth spent inode l c.args.progress) (sym c.as_slice-pages.ensures) (knows_kept volume spent _ inode c.args.new_pages.now c.args.progress is c.requires.stands.knows) }

pub returns-clause-stands : goal.returns-clause-stands
returns-clause-stands g c =
    let volume = c.args.volume.now in
    let spent = c.settle.new.volume in
    let after = c.enter_growth.new.volume in
    let old = g.P.Pm.view c.args.pm.now in
    let new = g.P.Pm.view c.grow_step-made.new.pm in
    let growth = c.args.growth.now in
    let bytes = c.args.bytes.now in
    let pages = c.args.new_pages.now in
    let progress = c.args.progress in
    let events = (step_of_growth volume.size growth bytes pages progress).events in
    let same = c.in_ok-settle.ensures.same in
    let is = of_ok (λ result. OnOk result (spent ≡ record volume { kept = volume.kept - c.step_events-events.result })) same c.in_ok-settle.ensures.volume.made in
    let made = of_ok (λ result. Takes (step_of_growth c.geometry.result.now.pages growth bytes c.as_slice-pages.result.now progress) old new result) same c.grow_step-made.ensures.takes in
    let here = subst (λ (p : ℕ). Takes (step_of_growth p growth bytes c.as_slice-pages.result.now progress) old new (Ok c.in_ok-settle.field-0)) c.geometry.ensures made in
    let takes = subst (λ (l : List ℕ). Takes (step_of_growth volume.size growth bytes l progress) old new (Ok c.in_ok-settle.field-0)) c.as_slice-pages.ensures here in
    let left = is ∙ ap (λ (n : ℕ). record volume { kept = volume.kept - n }) (c.step_events-events.ensures volume.size bytes) in
    let enters = subst (λ (v : VolumeView). EntersGrowth growth.inode pages progress v after) left (subst (λ (l : List ℕ). EntersGrowth growth.inode l progress spent after) c.as_slice-pages.ensures c.enter_growth.ensures) in
    subst (λ next. StandsNextGrowth after new growth bytes pages next) (sym c.next.ensures)
    (behind volume old new growth bytes (subst IsVolumeSize c.geometry.ensures c.geometry.result.now.volume_size) pages after progress c.requires.begins c.requires.stands takes enters)
