-- What a crash may leave of the first word, which was 5, after some events: the settled value, then the later stores.
use Rattle.std.proofs.Common.{◌≡◌, ℕ, List, [], ◌∷◌, refl}
use Rattle.pm_trait.specs.declared.event.Event.{Event}
use Rattle.pm_trait.specs.declared.event.Event.TheVariants.{Store, Flush, Fence, BadFence, Ack}
use Rattle.pm_trait.specs.Trail.{candidates}

abbrev left_by : List Event → List ℕ
left_by events = candidates (record { base = 5 ∷ []; events = events }) 0

nothing_done : left_by [] ≡ 5 ∷ []
nothing_done = refl

store_alone : left_by (Store 0 7 ∷ []) ≡ 5 ∷ 7 ∷ []
store_alone = refl

store_flush : left_by (Store 0 7 ∷ Flush 0 ∷ []) ≡ 5 ∷ 7 ∷ []
store_flush = refl

store_flush_fence : left_by (Store 0 7 ∷ Flush 0 ∷ Fence ∷ []) ≡ 7 ∷ []
store_flush_fence = refl

store_fence_flush : left_by (Store 0 7 ∷ Fence ∷ Flush 0 ∷ []) ≡ 5 ∷ 7 ∷ []
store_fence_flush = refl

store_fence_flush_fence : left_by (Store 0 7 ∷ Fence ∷ Flush 0 ∷ Fence ∷ []) ≡ 7 ∷ []
store_fence_flush_fence = refl

flush_before_store : left_by (Flush 0 ∷ Store 0 7 ∷ Fence ∷ []) ≡ 5 ∷ 7 ∷ []
flush_before_store = refl

failed_fence : left_by (Store 0 7 ∷ Flush 0 ∷ BadFence ∷ []) ≡ 5 ∷ 7 ∷ []
failed_fence = refl

failed_fence_then_fence : left_by (Store 0 7 ∷ Flush 0 ∷ BadFence ∷ Fence ∷ []) ≡ 7 ∷ []
failed_fence_then_fence = refl

other_line_flushed : left_by (Store 0 7 ∷ Flush 1 ∷ Fence ∷ []) ≡ 5 ∷ 7 ∷ []
other_line_flushed = refl

other_word_stored : left_by (Store 1 7 ∷ []) ≡ 5 ∷ []
other_word_stored = refl

-- a flush settles the stores before it, and not one after it
flush_between_stores : left_by (Store 0 7 ∷ Flush 0 ∷ Store 0 8 ∷ Fence ∷ []) ≡ 7 ∷ 8 ∷ []
flush_between_stores = refl

flush_between_stores_no_fence : left_by (Store 0 7 ∷ Flush 0 ∷ Store 0 8 ∷ []) ≡ 5 ∷ 7 ∷ 8 ∷ []
flush_between_stores_no_fence = refl

two_stores_settled : left_by (Store 0 7 ∷ Store 0 8 ∷ Flush 0 ∷ Fence ∷ []) ≡ 8 ∷ []
two_stores_settled = refl

-- a store of an equal value is a candidate of its own
equal_value : left_by (Store 0 5 ∷ []) ≡ 5 ∷ 5 ∷ []
equal_value = refl

equal_values : left_by (Store 0 7 ∷ Store 0 7 ∷ Flush 0 ∷ []) ≡ 5 ∷ 7 ∷ 7 ∷ []
equal_values = refl

acknowledged : left_by (Store 0 7 ∷ Ack ∷ Flush 0 ∷ Ack ∷ Fence ∷ Ack ∷ []) ≡ 7 ∷ []
acknowledged = refl

-- the last word of a line is of it, and the first of the next is not
same_line : candidates (record { base = 1 ∷ 2 ∷ 3 ∷ 4 ∷ 5 ∷ 6 ∷ 7 ∷ 8 ∷ 9 ∷ []; events = Store 7 0 ∷ Store 8 0 ∷ Flush 0 ∷ Fence ∷ [] }) 7 ≡ 0 ∷ []
same_line = refl

next_line : candidates (record { base = 1 ∷ 2 ∷ 3 ∷ 4 ∷ 5 ∷ 6 ∷ 7 ∷ 8 ∷ 9 ∷ []; events = Store 7 0 ∷ Store 8 0 ∷ Flush 0 ∷ Fence ∷ [] }) 8 ≡ 9 ∷ 0 ∷ []
next_line = refl
