-- The chosen stores, made one after another, give the chosen image.
use Rattle.std.proofs.Common.{◌≡◌, ℕ, zero, suc, ◌+◌, ◌-◌, ◌%◌, ◌<◌, List, [], length, get_or, refl, sym, ◌∙◌, ap, subst, arith}
use Rattle.pm_trait.specs.declared.event.Event.{Event}
use Rattle.pm_trait.specs.Trail.{Trail, unsettled_stores, stores_to}
use Rattle.pm_memory.specs.Chosen.{rank_of, chosen, chosen_store, AreChosenStores, IsStillToCome}
use Rattle.pm_memory.proofs.Candidates.{fewer}
use Rattle.pm_memory.proofs.Picked.{picked}

-- ranks go by the events alone
rank_of-base : (base other : List ℕ) (events : List Event) (word : ℕ) → rank_of (record { base = base; events = events }) word ≡ rank_of (record { base = other; events = events }) word
rank_of-base base other events zero = refl
rank_of-base base other events (suc word) = cc (rank_of-base base other events word)

-- before the first event all is still to come
pub all_to_come : (base : List ℕ) (events : List Event) (keep numbers : List ℕ) → AreChosenStores (length base) events keep numbers → IsStillToCome (chosen (record { base = base; events = events }) keep) base numbers events
all_to_come base events keep numbers chooses = record {
  long = sym chooses.long;
  within = λ word inside. omega (arith, chooses.each word (within word inside), fewer word events);
  each = λ word inside.
      let rank : rank_of (record { base = []; events = events }) word ≡ rank_of trail word = rank_of-base [] base events word in
      sym (picked trail keep word (rank_of (record { base = []; events = events }) word) (length (unsettled_stores word events)) (length (stores_to word events)) (get_or numbers word 0) _ refl refl rank (chooses.each word (within word inside)) refl);
}
  where
    trail : Trail
    trail = record { base = base; events = events }

    within : (word : ℕ) → word < length numbers → word < length base
    within word inside = omega (arith, inside, chooses.long)

-- it is said of the lists and events themselves
pub to_come_of : {wanted : ℕ → ℕ} {image other numbers others : List ℕ} {later rest : List Event} → image ≡ other → numbers ≡ others → later ≡ rest → IsStillToCome wanted image numbers later → IsStillToCome wanted other others rest
to_come_of {wanted} {image} {other} {numbers} {others} {later} {rest} same_image same_numbers same_events to_come =
    subst (λ (l : List ℕ). IsStillToCome wanted l others rest) same_image
    (subst (λ (l : List ℕ). IsStillToCome wanted image l rest) same_numbers
    (subst (λ (l : List Event). IsStillToCome wanted image numbers l) same_events to_come))

-- the number that is reckoned from the counts
pub chosen_number : (events : List Event) (keep : List ℕ) (word rank unsettled stores : ℕ) → unsettled ≡ length (unsettled_stores word events) → stores ≡ length (stores_to word events) → rank ≡ rank_of (record { base = []; events = events }) word → stores - unsettled + get_or keep (rank % length keep) 0 % (unsettled + 1) ≡ chosen_store events keep word
chosen_number events keep word rank unsettled stores unsettled_is stores_is rank_is =
    ap (λ (k : ℕ). stores - unsettled + get_or keep (k % length keep) 0 % (unsettled + 1)) rank_is
    ∙ ap (λ (k : ℕ). k - unsettled + get_or keep (rank_of (record { base = []; events = events }) word % length keep) 0 % (unsettled + 1)) stores_is
    ∙ ap (λ (k : ℕ). length (stores_to word events) - k + get_or keep (rank_of (record { base = []; events = events }) word % length keep) 0 % (k + 1)) unsettled_is
