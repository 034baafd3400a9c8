use Rattle.std.proofs.Common.{ℕ, inr, ◌*◌, [], ◌∷◌, length, sym, subst, ap, ◌∙◌, arith}
use Rattle.std.specs.Prelude.{Option}
use Rattle.pm_trait.specs.Device.{IsFlushed}
use Rattle.pm_trait.specs.DeviceView.{Stores}
use Rattle.page_state.specs.Page.{PageView, OfSome, IsOwnerWord}
use Rattle.volume.specs.Entered.{pages_of_option}
use Rattle.removal_steps.specs.Steps.{MayEmpty}
use Rattle.removal_steps.proofs.Pages.{words_flushed, pages_stored}
use Rattle.removal_steps.proofs.Emptied.{empty_page}
use Rattle.removal_steps.proofs.owners.cut_slots.Goals as goal

pub cut_empty-cut-requires-clause-empty : goal.cut_empty-cut-requires-clause-empty
cut_empty-cut-requires-clause-empty g c =
    let P = c.args.geometry.now.pages in
    let emptied = subst (MayEmpty P (g.P.Pm.view c.args.pm.now).words) c.in-Some.is c.requires.emptied in
    empty_page P c.in-Some.page c.at-live.result c.at-live.ensures.object c.at-live.ensures.clean emptied.slots

pub returns-in-Some-clause-flushed : goal.returns-in-Some-clause-flushed
returns-in-Some-clause-flushed g c =
    let cut = c.cut_empty-cut in
    let P = c.args.geometry.now.pages in
    let new = g.P.Pm.view c.flush-flushed.new.pm in
    subst (λ (emptied : Option ℕ). (word : ℕ) → OfSome (pages_of_option emptied) (IsOwnerWord P) word → IsFlushed new.trail word) (sym c.in-Some.is)
    (words_flushed IsOwnerWord P cut.result.volume_pages (c.in-Some.page ∷ []) cut.result.pages
    (ap (λ (v : PageView). v.volume_pages) cut.ensures.object ∙ ap (λ (v : PageView). v.volume_pages) c.at-live.ensures.object)
    (ap (λ (v : PageView). v.pages) cut.ensures.object ∙ ap (λ (v : PageView). v.pages) c.at-live.ensures.object)
    (λ page word at. inr (record { field = 0; is_field = omega arith; at = at })) c.flush-flushed.ensures.flushed)

pub returns-in-Some-clause-device : goal.returns-in-Some-clause-device
returns-in-Some-clause-device g c =
    let cut = c.cut_empty-cut in
    let live = c.at-live in
    let P = c.args.geometry.now.pages in
    let old = g.P.Pm.view c.args.pm.now in
    let new = g.P.Pm.view c.flush-flushed.new.pm in
    subst (λ (emptied : Option ℕ). Stores (OfSome (pages_of_option emptied) (IsOwnerWord P)) old new (2 * length (pages_of_option emptied))) (sym c.in-Some.is)
    (pages_stored IsOwnerWord P live.result.volume_pages 1 (c.in-Some.page ∷ []) live.result.pages cut.result.pages cut.result.volume_pages cut.result.touched
    (ap (λ (v : PageView). v.volume_pages) live.ensures.object) (ap (λ (v : PageView). v.pages) live.ensures.object)
    (ap (λ (v : PageView). v.pages) cut.ensures.object ∙ ap (λ (v : PageView). v.pages) live.ensures.object)
    (ap (λ (v : PageView). v.touched) cut.ensures.object) (omega arith) cut.ensures.device c.flush-flushed.ensures.device)
