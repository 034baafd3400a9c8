use Rattle.std.proofs.Common.{ℕ, ◌*◌, [], ◌∷◌, length, sym, subst, ap, ◌∙◌, arith}
use Rattle.std.specs.Prelude.{Option}
use Rattle.pm_trait.specs.Device.{IsFlushed}
use Rattle.pm_trait.specs.DeviceView.{Stores}
use Rattle.page_state.specs.Page.{PageView, OfSome, IsReleasedWord}
use Rattle.page_state.proofs.Releases.{released_is_own}
use Rattle.volume.specs.Entered.{pages_of_option}
use Rattle.removal_steps.proofs.Pages.{words_flushed, pages_stored}
use Rattle.removal_steps.proofs.rest.release_slots.Goals as goal

pub returns-in-Some-clause-flushed : goal.returns-in-Some-clause-flushed
returns-in-Some-clause-flushed g c =
    let free = c.release-free in
    let P = c.args.geometry.now.pages in
    let new = g.P.Pm.view c.flush-flushed.new.pm in
    subst (λ (emptied : Option ℕ). (word : ℕ) → OfSome (pages_of_option emptied) (IsReleasedWord P) word → IsFlushed new.trail word) (sym c.in-Some.is)
    (words_flushed IsReleasedWord P free.result.volume_pages (c.in-Some.page ∷ []) free.result.pages
    (ap (λ (v : PageView). v.volume_pages) free.ensures.object ∙ ap (λ (v : PageView). v.volume_pages) c.at-released.ensures.object)
    (ap (λ (v : PageView). v.pages) free.ensures.object ∙ ap (λ (v : PageView). v.pages) c.at-released.ensures.object)
    (released_is_own P) c.flush-flushed.ensures.flushed)

pub returns-in-Some-clause-device : goal.returns-in-Some-clause-device
returns-in-Some-clause-device g c =
    let free = c.release-free in
    let released = c.at-released in
    let P = c.args.geometry.now.pages in
    let old = g.P.Pm.view c.args.pm.now in
    let new = g.P.Pm.view c.flush-flushed.new.pm in
    subst (λ (emptied : Option ℕ). Stores (OfSome (pages_of_option emptied) (IsReleasedWord P)) old new (3 * length (pages_of_option emptied))) (sym c.in-Some.is)
    (pages_stored IsReleasedWord P released.result.volume_pages 2 (c.in-Some.page ∷ []) released.result.pages free.result.pages free.result.volume_pages free.result.touched
    (ap (λ (v : PageView). v.volume_pages) released.ensures.object) (ap (λ (v : PageView). v.pages) released.ensures.object)
    (ap (λ (v : PageView). v.pages) free.ensures.object ∙ ap (λ (v : PageView). v.pages) released.ensures.object)
    (ap (λ (v : PageView). v.touched) free.ensures.object) (omega arith) free.ensures.device c.flush-flushed.ensures.device)
