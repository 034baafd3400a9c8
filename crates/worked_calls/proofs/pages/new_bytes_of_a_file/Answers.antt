use Rattle.std.proofs.Common.{◌≡◌, ℕ, zero, suc, ◌<◌, [], ◌∷◌, length, slice_index, ◌∙◌, ap, arith, rules}
use Rattle.layout.specs.Geometry.{first_data_word_of, data_pages_of}
use Rattle.page_state.specs.Page.{PageView, EachPage}
use Rattle.worked_calls.proofs.FewBytes.{two_words, two_words_fit, two_lines_fit, room_after_two}
use Rattle.fence_token.proofs.ObjectLaws.{stands_in_flight_fence}
use Rattle.page_state.proofs.PageLaws.{free_pages_alike}
use Rattle.worked_calls.proofs.ZeroPages.{free_pages, sixteen_pages}
use Rattle.worked_calls.proofs.pages.new_bytes_of_a_file.Goals as goal

below : (index : ℕ) → index < 2 → slice_index (4 ∷ 2 ∷ []) index < 13
below zero inside = omega arith
below (suc zero) inside = omega arith
below (suc (suc index)) inside = absurd (omega arith)

pub at-free-requires-clause-reads : goal.at-free-requires-clause-reads
at-free-requires-clause-reads g c =
    let geometry = c.in_ok-geometry.geometry in
    let sixteen : geometry.pages ≡ 16 = search rules in
    let thirteen : geometry.data_pages ≡ 13 = search rules in
    let words = c.in_ok-reserve.ensures.device.words ∙ c.in_ok-pm.ensures.device.words ∙ c.as_slice-2.ensures.value ∙ c.in_ok-extend_from_slice.ensures.items in
    let in_range : EachPage (4 ∷ 2 ∷ []) (λ page. page < data_pages_of geometry.pages) = record { each = λ index inside. omega (arith, below index inside, thirteen, geometry.data_pages_exact) } in
    free_pages geometry.pages 1536 (4 ∷ 2 ∷ []) _ _ _ in_range (ap first_data_word_of sixteen ∙ sixteen_pages) words (c.in_ok-old.ensures.items_if_clones_equal (λ x same. same))

pub at-free-requires-clause-alike : goal.at-free-requires-clause-alike
at-free-requires-clause-alike g c = free_pages_alike _ _ _ (at-free-requires-clause-reads g c)

pub settle-filled-requires-clause-in_flight : goal.settle-filled-requires-clause-in_flight
settle-filled-requires-clause-in_flight g c = stands_in_flight_fence c.fence.ensures.device.words c.in_ok-token.ensures.device.ok c.flush-filled.ensures.in_flight

pub settle-live-requires-clause-in_flight : goal.settle-live-requires-clause-in_flight
settle-live-requires-clause-in_flight g c = stands_in_flight_fence c.fence-2.ensures.device.words c.in_ok-token-2.ensures.device.ok c.flush-live.ensures.in_flight

pub settle-written-requires-clause-in_flight : goal.settle-written-requires-clause-in_flight
settle-written-requires-clause-in_flight g c = stands_in_flight_fence c.fence-3.ensures.device.words c.in_ok-token-3.ensures.device.ok c.flush-written.ensures.in_flight

pub write_span-requires-clause-some : goal.write_span-requires-clause-some
write_span-requires-clause-some g c = let two : length c.settle-live.result.pages ≡ 2 = search rules in omega (arith, two_words _ two)

pub write_span-requires-clause-room : goal.write_span-requires-clause-room
write_span-requires-clause-room g c = two_words_fit _ _ (search rules) (search rules)

pub flush-written-requires-clause-room : goal.flush-written-requires-clause-room
flush-written-requires-clause-room g c =
    two_lines_fit _ _ _ _ _ (ap (λ (view : PageView). view.touched) c.write_span.ensures.object) (search rules) (search rules) c.write_span.ensures.device.room (search rules)

pub fence-requires-3-clause-room : goal.fence-requires-3-clause-room
fence-requires-3-clause-room g c =
    room_after_two _ _ _ _ _ _ 1 (ap (λ (view : PageView). view.touched) c.write_span.ensures.object) (search rules) (search rules) c.write_span.ensures.device.room c.flush-written.ensures.device.room (search rules)
