-- Places in a small trail and counts of a small text, computed from the definitions.
use Rattle.std.proofs.Common.{◌≡◌, ℕ, List, [], ◌∷◌, ◌++◌, map, codes, refl}
use Rattle.pm_trait.specs.declared.event.Event.{Event}
use Rattle.pm_trait.specs.declared.event.Event.TheVariants.{Store, Flush, Fence, BadFence, Ack}
use Rattle.script.specs.Answers.{begins_with}
use Rattle.crash_replay.specs.Place.{place_in}
use Rattle.crash_replay.specs.Tally.{count_of, is_no_memory, open_line}
use Rattle.crash_replay.specs.declared.moment.Moment.TheVariants.{At, Before}

-- call 0
abbrev mount : List Event
mount = Store 0 1 ∷ Flush 0 ∷ Fence ∷ []

-- call 1 with two fences, of which the second fails; call 2, which does nothing; call 3, which is open
abbrev events : List Event
events = mount ++ Store 0 2 ∷ Flush 0 ∷ Fence ∷ Store 0 3 ∷ BadFence ∷ Ack ∷ Ack ∷ Flush 0 ∷ Fence ∷ []

-- the places of the fences 0, 1, 2 and 3 of a call
abbrev places : ℕ → List ℕ
places call = map (λ fence. place_in events 3 (Before call fence)) (0 ∷ 1 ∷ 2 ∷ 3 ∷ [])

by_number : map (λ k. place_in events 3 (At k)) (0 ∷ 3 ∷ 12 ∷ 13 ∷ []) ≡ 0 ∷ 3 ∷ 12 ∷ 12 ∷ []
by_number = refl

in_the_mount : places 0 ≡ 3 ∷ 2 ∷ 3 ∷ 3 ∷ []
in_the_mount = refl

in_the_first_call : places 1 ≡ 8 ∷ 5 ∷ 7 ∷ 8 ∷ []
in_the_first_call = refl

in_a_call_that_does_nothing : places 2 ≡ 9 ∷ 9 ∷ 9 ∷ 9 ∷ []
in_a_call_that_does_nothing = refl

in_the_open_call : places 3 ≡ 12 ∷ 11 ∷ 12 ∷ 12 ∷ []
in_the_open_call = refl

behind_all_calls : places 4 ++ places 18446744073709551615 ≡ 12 ∷ 12 ∷ 12 ∷ 12 ∷ 12 ∷ 12 ∷ 12 ∷ 12 ∷ []
behind_all_calls = refl

-- without a call the first one is open
no_call : place_in mount 3 (Before 1 1) ≡ 3
no_call = refl

-- a mark past the end is the end
mark_past_the_end : place_in mount 5 (Before 1 1) ≡ 3
mark_past_the_end = refl

abbrev text : List ℕ
text = codes "ok\nok 2 ok\nerror BadLine\nerror NoMemory\nerror NoMemory \nnot ok\n\nok 3"

accepted_in_text : count_of (begins_with (codes "ok")) text ≡ 2
accepted_in_text = refl

refused_in_text : count_of (begins_with (codes "error")) text ≡ 3
refused_in_text = refl

lacking_in_text : count_of is_no_memory text ≡ 1
lacking_in_text = refl

open_in_text : open_line text ≡ codes "ok 3"
open_in_text = refl
