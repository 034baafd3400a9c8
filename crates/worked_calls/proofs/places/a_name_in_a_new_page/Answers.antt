use Rattle.std.proofs.Common.{◌≡◌, ◌*◌, ◌∙◌, length, refl, sym, ap, subst, arith, rules, List, ℕ}
use Rattle.fence_token.specs.declared.states.Clean.{Clean}
use Rattle.pm_trait.proofs.DeviceViewLaws.{ok_ends}
use Rattle.pm_trait.specs.declared.event.PmFault.{PmFault}
use Rattle.pm_trait.specs.Unfolds.{events_in}
use Rattle.pm_trait.proofs.Unfolding.{intervals}
use Rattle.layout.specs.Geometry.{first_data_word_of}
use Rattle.layout.specs.Name.{words_of_name}
use Rattle.layout.proofs.NameLaws.{IsNameWords-words_of_name}
use Rattle.image_laws.specs.Create.{MakesNamedPage}
use Rattle.entry_steps.specs.declared.place.NamePlace.{NamePlace}
use Rattle.entry_steps.specs.Steps.{claim_steps}
use Rattle.entry_steps.specs.Placing.{CanOpen, settled_place, page_of}
use Rattle.entry_steps.proofs.Named.{first_is_named}
use Rattle.entry_steps.proofs.Opened.{can_claim}
use Rattle.entry_steps.proofs.Zeros.{free_page, sixteen_pages}
use Rattle.worked_calls.proofs.places.a_name_in_a_new_page.Goals as goal

pub write-written-requires-clause-free : goal.write-written-requires-clause-free
write-written-requires-clause-free g c =
    let geometry = c.in_ok-geometry.geometry in
    let sixteen : geometry.pages ≡ 16 = search rules in
    let thirteen : geometry.data_pages ≡ 13 = search rules in
    let words = c.reserve.ensures.device.words ∙ c.in_ok-pm.ensures.device.words ∙ c.as_slice-2.ensures.value ∙ c.in_ok-extend_from_slice.ensures.items in (
      (
        omega (arith, thirteen, geometry.data_pages_exact),
        free_page geometry.pages 1536 2 c.reserve.new.self.words.items _ _ (omega (arith, thirteen, geometry.data_pages_exact)) (ap first_data_word_of sixteen ∙ sixteen_pages) words (c.in_ok-old.ensures.items_if_clones_equal (λ x same. same)),
      ),
      refl,
    )

pub open-requires-clause-ready : goal.open-requires-clause-ready
open-requires-clause-ready g c =
    let geometry = c.in_ok-geometry.geometry in
    let P = geometry.pages in
    let sixteen : geometry.pages ≡ 16 = search rules in
    let thirteen : geometry.data_pages ≡ 13 = search rules in
    let words = c.reserve.ensures.device.words ∙ c.in_ok-pm.ensures.device.words ∙ c.as_slice-2.ensures.value ∙ c.in_ok-extend_from_slice.ensures.items in
    let W = c.reserve.new.self.words.items in
    let I = c.fence.new.pm.words.items in
    let name = c.in_ok-name.name in
    let made = subst (λ (l : List ℕ). MakesNamedPage P W l 2 64 (words_of_name name)) (sym c.fence.ensures.device.words) c.write-written.ensures.words in
    let is = c.settle-place.ensures.object ∙ ap settled_place c.write-written.ensures.object in
    subst (λ (place : NamePlace Clean). CanOpen P I 3 place) (sym is) (
      can_claim P W I 2 3 (omega arith) (
        omega (arith, thirteen, geometry.data_pages_exact),
        free_page geometry.pages 1536 2 W _ _ (omega (arith, thirteen, geometry.data_pages_exact)) (ap first_data_word_of sixteen ∙ sixteen_pages) words (c.in_ok-old.ensures.items_if_clones_equal (λ x same. same)),
      )
          made.empty,
      first_is_named P W I 2 (words_of_name name) (IsNameWords-words_of_name name (search rules) (search rules)) made,
    )

pub open-requires-clause-begins : goal.open-requires-clause-begins
open-requires-clause-begins g c =
    let first = ok_ends {E = PmFault} c.in_ok-token.token (search rules) c.write-written.ensures.device c.write-written.ensures.flushed c.in_ok-token.ensures.device in
    let whole : length c.reserve.new.self.words.items ≡ 512 * c.in_ok-geometry.geometry.pages = search rules in
    let room = c.in_ok-reserve.ensures.device.ok in
    let fresh : c.reserve.new.self.fences ≡ 0 = search rules in
    let P = c.in_ok-geometry.geometry.pages in
    let few = ap (λ (place : NamePlace Clean). events_in (claim_steps P 3 (page_of place))) (c.settle-place.ensures.object ∙ ap settled_place c.write-written.ensures.object) in
    record {
      whole = first.long ∙ whole;
      settled = first.fenced.settled;
      room = let left = first.room in omega (arith, left, room, few);
      countable = let made = first.counted in omega (arith, made, fresh);
    }

pub events-requires : goal.events-requires
events-requires g c =
    let first = ok_ends {E = PmFault} c.in_ok-token.token (search rules) c.write-written.ensures.device c.write-written.ensures.flushed c.in_ok-token.ensures.device in
    let both = intervals first.fenced.settled c.open.ensures.unfolds in
    let none : c.reserve.new.self.acks ≡ 0 = search rules in
    omega (arith, first.acks, both.acks, none)
