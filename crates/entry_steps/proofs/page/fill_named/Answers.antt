use Rattle.std.proofs.Common.{[], ◌∷◌, length, refl, ap, ◌∙◌}
use Rattle.pm_trait.proofs.DeviceViewLaws.{stores_flushed}
use Rattle.page_state.specs.Page.{PageView, IsFilledWord, named_slot, touched_lines}
use Rattle.entry_steps.proofs.Pages.{is_one, made_flushed, fill_stores, page_flushes}
use Rattle.entry_steps.proofs.Named.{page_named, page_stored, of_page}
use Rattle.entry_steps.proofs.page.fill_named.Goals as goal

pub at-free-requires-clause-settled : goal.at-free-requires-clause-settled
at-free-requires-clause-settled g c = λ word some. c.requires.settled word (of_page c.args.geometry.now.pages c.args.page word some)

pub returns-clause-page : goal.returns-clause-page
returns-clause-page g c =
    let object = c.at-free.ensures.object in
    page_named c.args.geometry.now.pages c.at-free.result.volume_pages (c.args.page ∷ []) c.at-free.result.pages (ap (λ (view : PageView). view.volume_pages) object) (ap (λ (view : PageView). view.pages) object) refl
    c.args.name.now c.flush-filled.ensures.device.words c.fill_dir_named-dirty.ensures.slots c.fill_dir_named-dirty.ensures.device.interval

pub returns-clause-flushed : goal.returns-clause-flushed
returns-clause-flushed g c =
    let P = c.args.geometry.now.pages in
    let free = c.at-free.ensures.object in
    let dirty = c.fill_dir_named-dirty.ensures.object in
    λ word is.
    made_flushed P c.fill_dir_named-dirty.result.volume_pages (c.args.page ∷ []) c.fill_dir_named-dirty.result.pages
    (ap (λ (view : PageView). view.volume_pages) dirty ∙ ap (λ (view : PageView). view.volume_pages) free)
    (ap (λ (view : PageView). view.pages) dirty ∙ ap (λ (view : PageView). view.pages) free) refl
    c.flush-filled.ensures.flushed word (is_one (c.args.page ∷ []) (IsFilledWord P) word refl is)

pub returns-clause-device : goal.returns-clause-device
returns-clause-device g c =
    let free = c.at-free in
    let dirty = c.fill_dir_named-dirty in
    let list = ap (λ (view : PageView). view.pages) free.ensures.object in
    let one = ap length list in
    page_stored c.args.geometry.now.pages free.result.volume_pages (c.args.page ∷ []) free.result.pages (ap (λ (view : PageView). view.volume_pages) free.ensures.object) list refl
    (stores_flushed (fill_stores free.result.volume_pages free.result.pages (named_slot c.args.name.now) one dirty.ensures.device)
    (page_flushes dirty.result.volume_pages dirty.result.pages dirty.result.touched 65 (ap (λ (view : PageView). touched_lines view.touched 1) dirty.ensures.object)
    (ap (λ (view : PageView). length view.pages) dirty.ensures.object ∙ one) c.flush-filled.ensures.device))
