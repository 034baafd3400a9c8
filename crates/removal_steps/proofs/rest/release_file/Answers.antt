use Rattle.std.proofs.Common.{ap, ◌∙◌, arith}
use Rattle.page_state.specs.Page.{PageView, IsReleasedWord}
use Rattle.page_state.proofs.Releases.{released_is_own}
use Rattle.removal_steps.proofs.Pages.{words_flushed, pages_stored}
use Rattle.removal_steps.proofs.rest.release_file.Goals as goal

pub returns-then-not-is_empty-clause-flushed : goal.returns-then-not-is_empty-clause-flushed
returns-then-not-is_empty-clause-flushed g c =
    let free = c.release-free in
    words_flushed IsReleasedWord c.args.geometry.now.pages free.result.volume_pages c.args.pages.now free.result.pages
    (ap (λ (v : PageView). v.volume_pages) free.ensures.object ∙ ap (λ (v : PageView). v.volume_pages) c.at-released.ensures.object)
    (ap (λ (v : PageView). v.pages) free.ensures.object ∙ ap (λ (v : PageView). v.pages) c.at-released.ensures.object)
    (released_is_own c.args.geometry.now.pages) c.flush-flushed.ensures.flushed

pub returns-then-not-is_empty-clause-device : goal.returns-then-not-is_empty-clause-device
returns-then-not-is_empty-clause-device g c =
    let free = c.release-free in
    let released = c.at-released in
    pages_stored IsReleasedWord c.args.geometry.now.pages released.result.volume_pages 2 c.args.pages.now released.result.pages free.result.pages free.result.volume_pages free.result.touched
    (ap (λ (v : PageView). v.volume_pages) released.ensures.object) (ap (λ (v : PageView). v.pages) released.ensures.object)
    (ap (λ (v : PageView). v.pages) free.ensures.object ∙ ap (λ (v : PageView). v.pages) released.ensures.object)
    (ap (λ (v : PageView). v.touched) free.ensures.object) (omega arith) free.ensures.device c.flush-flushed.ensures.device
