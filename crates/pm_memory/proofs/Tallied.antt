-- Counts of stores are no more than the events, and can rise.
use Rattle.std.proofs.Common.{◌≡◌, inl, inr, ℕ, zero, suc, ◌∙◌, ◌+◌, ◌^◌, ◌<◌, ◌≤◌, eqb, List, [], ◌∷◌, length, drop, get_or, refl, ap, arith}
use Rattle.std.proofs.lemmas.Bool.{cases_Bool, cases_lt}
use Rattle.std.proofs.lemmas.List.{get_or_past, drop_more, length-drop}
use Rattle.pm_trait.specs.declared.event.Event.{Event}
use Rattle.pm_trait.specs.declared.event.Event.TheVariants.{Store, Flush, Fence, BadFence, Ack}
use Rattle.pm_trait.specs.Trail.{unsettled_stores, stores_to}
use Rattle.pm_memory.specs.declared.entry.Entry.{Entry}
use Rattle.pm_memory.specs.declared.tally.Tallies.{Tallies}
use Rattle.pm_memory.specs.Plain.{plain}
use Rattle.pm_memory.specs.Tally.{AreTalliesOf, HaveRoom}
use Rattle.pm_memory.proofs.Candidates.{fewer}

length-stores_to-le : (word : ℕ) (events : List Event) → length (stores_to word events) ≤ length events
length-stores_to-le word [] = omega arith
length-stores_to-le word (Store stored value ∷ events) = elim (cases_Bool (eqb stored word)) [
  | inl hit ↦ rw hit (omega (arith, length-stores_to-le word events))
  | inr miss ↦ rw miss (omega (arith, length-stores_to-le word events))
]
length-stores_to-le word (Flush line ∷ events) = omega (arith, length-stores_to-le word events)
length-stores_to-le word (Fence ∷ events) = omega (arith, length-stores_to-le word events)
length-stores_to-le word (BadFence ∷ events) = omega (arith, length-stores_to-le word events)
length-stores_to-le word (Ack ∷ events) = omega (arith, length-stores_to-le word events)

pub length-plain : (entries : List Entry) → length (plain entries) ≡ length entries
length-plain [] = refl
length-plain (entry ∷ entries) = omega (arith, length-plain entries)

-- the tallies of few events can rise
pub have_room : (events : List Event) (tallies : Tallies) → length events < 2 ^ 63 → AreTalliesOf events tallies → HaveRoom tallies
have_room events tallies few are = record {
  unsettled = λ word. elim (cases_lt word (length tallies.stores.items)) [
    | inl inside ↦ omega (arith, few, are.unsettled_is word inside, fewer word events, length-stores_to-le word events)
    | inr outside ↦ omega (arith, get_or_past tallies.unsettled.items word 0 (omega (arith, outside, tallies.same_words, tallies.unsettled.ok, tallies.stores.ok)))
  ];
  stores = λ word. elim (cases_lt word (length tallies.stores.items)) [
    | inl inside ↦ omega (arith, few, are.stores_is word inside, length-stores_to-le word events)
    | inr outside ↦ omega (arith, get_or_past tallies.stores.items word 0 outside)
  ];
}

-- and so can those of the entries from a place on
pub have_room_from : (entries : List Entry) (i : ℕ) (tallies : Tallies) → length entries < 2 ^ 63 → AreTalliesOf (plain (drop i entries)) tallies → HaveRoom tallies
have_room_from entries i tallies few are = have_room (plain (drop i entries)) tallies (omega (arith, few, length-plain (drop i entries), length-drop i entries)) are

-- the events from a place on, of which the first is at that place
pub plain_from : (entries : List Entry) (i : ℕ) (d : Entry) → i < length entries → plain (drop i entries) ≡ (get_or entries i d).event ∷ plain (drop (i + 1) entries)
plain_from entries i d inside = ap plain (drop_more entries i d inside)

-- a read within a list does not depend on what a read past its end gives
read_within : (list : List ℕ) (place value : ℕ) → place < length list → value ≡ get_or list place value → value ≡ get_or list place 0
read_within [] place value inside is = absurd (omega arith)
read_within (first ∷ list) zero value inside is = is
read_within (first ∷ list) (suc place) value inside is = read_within list place value (omega arith) is

-- the counts of one word that are read from the tallies
pub record AreCounts (word : ℕ) (events : List Event) (unsettled stores : ℕ) : Type 0 where
  pub unsettled_is : unsettled ≡ length (unsettled_stores word events)
  pub stores_is : stores ≡ length (stores_to word events)
  pub few : unsettled ≤ stores
  pub bounded : stores ≤ length events

pub counts_read : (word : ℕ) (entries : List Entry) (tallies : Tallies) (stores : List ℕ) (unsettled : ℕ) → AreTalliesOf (plain entries) tallies → stores ≡ tallies.stores.items → word < length stores → unsettled ≡ get_or tallies.unsettled.items word unsettled → AreCounts word (plain entries) unsettled (get_or stores word 0)
counts_read word entries tallies stores unsettled are same inside read =
    let within : word < length tallies.stores.items = omega (arith, inside, ap length same) in
    let unsettled_is : unsettled ≡ length (unsettled_stores word (plain entries)) =
    read_within tallies.unsettled.items word unsettled (omega (arith, within, tallies.same_words, tallies.unsettled.ok, tallies.stores.ok)) read ∙ are.unsettled_is word within in
    let stores_is : get_or stores word 0 ≡ length (stores_to word (plain entries)) = ap (λ (l : List ℕ). get_or l word 0) same ∙ are.stores_is word within in
    record {
      unsettled_is = unsettled_is;
      stores_is = stores_is;
      few = omega (arith, unsettled_is, stores_is, fewer word (plain entries));
      bounded = omega (arith, stores_is, length-stores_to-le word (plain entries));
    }
