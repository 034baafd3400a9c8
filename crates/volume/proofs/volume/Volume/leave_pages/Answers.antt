use Rattle.std.proofs.Common.{ℕ, ◌-◌, List, length, Contains, sym, ap, subst, ◌∙◌}
use Rattle.std.proofs.lemmas.List.{take_rest}
use Rattle.image_reading.specs.Counts.{IsDistinct}
use Rattle.volatile_index.specs.Index.{pages_of}
use Rattle.volume.specs.Volume.{VolumeView}
use Rattle.volume.specs.Entered.{IsTaken}
use Rattle.volume.proofs.Grown.{distinct_drop, in_dropped}
use Rattle.volume.proofs.volume.Volume.leave_pages.Goals as goal

pub give_all-requires-clause-once : goal.give_all-requires-clause-once
give_all-requires-clause-once c =
    let pages = c.pages-pages.result.now in
    let held = c.pages-pages.ensures.pages ∙ ap (λ (volume : VolumeView). pages_of volume.index c.args.inode) c.self.view_is in
    subst IsDistinct (sym (take_rest pages (length pages - c.args.count))) (distinct_drop (length pages - c.args.count) pages (subst IsDistinct (sym held) c.requires.may_lose.once))

pub give_all-requires-clause-taken : goal.give_all-requires-clause-taken
give_all-requires-clause-taken c = λ page there.
    let pages = c.pages-pages.result.now in
    let held = c.pages-pages.ensures.pages ∙ ap (λ (volume : VolumeView). pages_of volume.index c.args.inode) c.self.view_is in
    let inside = in_dropped (length pages - c.args.count) pages page (subst (λ (l : List ℕ). Contains l page) (take_rest pages (length pages - c.args.count)) there) in
    subst (λ (volume : VolumeView). IsTaken volume.data_pages page) (sym c.self.view_is) (c.requires.may_lose.pages_taken page (subst (λ (l : List ℕ). Contains l page) held inside))
