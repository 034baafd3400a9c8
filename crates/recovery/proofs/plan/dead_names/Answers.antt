use Rattle.std.proofs.Common.{◌+◌, ◌*◌, List, ℕ, sym, ap, subst, arith}
use Rattle.std.proofs.lemmas.Bool.{iff_false}
use Rattle.repair_laws.specs.Stored.{HasDeadName}
use Rattle.recovery.specs.Listing.{IsListBelow}
use Rattle.recovery.proofs.Listing.{list_skipped, list_all}
use Rattle.recovery.proofs.Needing.{dead_within, none_of_page}
use Rattle.recovery.proofs.plan.dead_names.Goals as goal
use Rattle.recovery.proofs.plan.dead_names.Goals.{then-is_kept_directory_page+in_ok-push_dead_names, else-is_kept_directory_page}

pub loop-page-preserved : goal.loop-page-preserved
loop-page-preserved c =
    let image = c.args.scanned.now.image in
    let Q = HasDeadName image.geometry.pages image.words.now in
    let page = c.loop-page.page in
    elim c.if-is_kept_directory_page.branch [
      | then-is_kept_directory_page+in_ok-push_dead_names w ↦ subst (λ (l : List ℕ). IsListBelow Q (32 * (page + 1)) l) (sym (ap (λ v. v.items) w.slots-is)) w.in_ok-push_dead_names.ensures
      | else-is_kept_directory_page w ↦ subst (λ (l : List ℕ). IsListBelow Q (32 * (page + 1)) l) (sym (ap (λ v. v.items) w.slots-is))
          (list_skipped Q (32 * page) (32 * (page + 1)) c.loop-page.slots.items (omega arith) (none_of_page _ _ page (iff_false c.is_kept_directory_page.ensures w.if-is_kept_directory_page.false)) c.loop-page.invariant)
    ]

pub returns : goal.returns
returns c = list_all _ _ _ (λ s dead. let within = dead_within _ _ c.requires.coherent s dead in omega (arith, within, c.loop-page-test.false, c.args.scanned.now.image.geometry.data_pages_exact)) c.loop-page.invariant
