-- What a move costs: the events and fences of its plan are those of its steps, with as many pages as its plan says.
use Rattle.std.proofs.Common.{◌≡◌, ℕ, ◌+◌, ◌*◌, List, ◌++◌, length, Option, Some, None, sym, ap, ◌∙◌, arith}
use Rattle.pm_trait.specs.Unfolds.{events_in, fences_in}
use Rattle.volume.specs.Costs.{count_of, goes_of, pages_of_loss, pages_replaced, word_events, fence_events, page_events, commit_events, clearing_events, pointing_events, new_page_events, loss_events, events_of, fences_for_page, fences_for_loss, fences_of_plan}
use Rattle.volume.specs.Moves.{rising_of, falling_of}
use Rattle.volume.specs.declared.plan.Action.TheVariants.{Move}
use Rattle.volume.specs.declared.plan.Moving.{Moving}
use Rattle.removal_steps.specs.Steps.{count_cut}
use Rattle.rename_ptr.specs.Steps.{opening, moving_steps, steps_of}

sum_of : (point commit clear give free : ℕ) → 0 + point + 2 * commit + clear + (give + free) ≡ point + (commit + (commit + (clear + (give + (free + 0)))))
sum_of point commit clear give free = omega arith

sum_with : (fill own point commit clear give free : ℕ) → fill + own + point + 2 * commit + clear + (give + free) ≡ fill + (own + (point + (commit + (commit + (clear + (give + (free + 0)))))))
sum_with fill own point commit clear give free = omega arith

four_and : (give free : ℕ) → 0 + 4 + (give + free) ≡ 1 + (1 + (1 + (1 + (give + (free + 0)))))
four_and give free = omega arith

six_and : (give free : ℕ) → 2 + 4 + (give + free) ≡ 1 + (1 + (1 + (1 + (1 + (1 + (give + (free + 0)))))))
six_and give free = omega arith

module _ (P : ℕ) (moving : Moving) (pages : List ℕ) (counted : length pages ≡ pages_of_loss moving.replaced) where
  all_pages : pages_replaced moving ≡ count_cut pages moving.given_back
  all_pages = ap (λ (n : ℕ). n + count_of moving.given_back) (sym counted)

  costs_by : (page : Option ℕ) → new_page_events page + (pointing_events moving + count_of (rising_of moving) * word_events + fence_events) + 2 * commit_events
      + (word_events + clearing_events (count_of (falling_of moving))) + loss_events (count_cut pages moving.given_back) (goes_of moving.replaced)
      ≡ events_in (opening P moving page ++ moving_steps P moving pages)
  costs_by None = sum_of (pointing_events moving + count_of (rising_of moving) * word_events + fence_events) commit_events (word_events + clearing_events (count_of (falling_of moving))) _ _
  costs_by (Some page) = sum_with (page_events + fence_events) commit_events (pointing_events moving + count_of (rising_of moving) * word_events + fence_events) commit_events (word_events + clearing_events (count_of (falling_of moving))) _ _

  pub costs : events_of (Move moving) ≡ events_in (steps_of P moving pages)
  costs =
      ap (λ (n : ℕ). new_page_events moving.new_page + (pointing_events moving + count_of (rising_of moving) * word_events + fence_events) + 2 * commit_events
      + (word_events + clearing_events (count_of (falling_of moving))) + loss_events n (goes_of moving.replaced)) all_pages
      ∙ costs_by moving.new_page

  fences_by : (page : Option ℕ) → fences_for_page page + 4 + fences_for_loss (count_cut pages moving.given_back) (goes_of moving.replaced) ≡ fences_in (opening P moving page ++ moving_steps P moving pages)
  fences_by None = four_and _ _
  fences_by (Some page) = six_and _ _

  pub fences : fences_of_plan (Move moving) ≡ fences_in (steps_of P moving pages)
  fences = ap (λ (n : ℕ). fences_for_page moving.new_page + 4 + fences_for_loss n (goes_of moving.replaced)) all_pages ∙ fences_by moving.new_page
