-- The first of the events that are left of a walk.
use Rattle.std.proofs.Common.{◌≡◌, ℕ, zero, suc, ◌+◌, ◌<◌, ◌≤◌, List, [], ◌∷◌, length, drop, sym, ◌∙◌, ap, subst, arith}
use Rattle.std.specs.Prelude.{Some, slice_get, replicate}
use Rattle.std.proofs.lemmas.List.{drop_all, length-replicate}
use Rattle.pm_trait.specs.declared.event.Event.{Event}
use Rattle.pm_trait.specs.declared.event.Event.TheVariants.{Ack}
use Rattle.pm_memory.specs.declared.entry.Entry.{Entry}
use Rattle.pm_memory.specs.Entries.{events_of, told}
use Rattle.pm_memory.specs.Walk.{acks_first, events_left}
use Rattle.pm_memory.proofs.Kept.{at_ack, length_entry, told_within, told_behind}

first_dropped : (events : List Event) (k : ℕ) (event : Event) → slice_get events k ≡ Some event → drop k events ≡ event ∷ drop (k + 1) events
first_dropped [] k event is = absurd (cc is)
first_dropped (first ∷ events) zero event is = let same : first ≡ event = cc is in ap (λ (e : Event). e ∷ events) same
first_dropped (first ∷ events) (suc k) event is =
    let next : suc (k + 1) ≡ suc k + 1 = omega arith in
    first_dropped events k event is ∙ ap (λ (n : ℕ). event ∷ drop n (first ∷ events)) next

next_is_ack : (entries : List Entry) (acks_since passed : ℕ) → passed < acks_first entries acks_since → events_left entries acks_since passed ≡ Ack ∷ events_left entries acks_since (passed + 1)
next_is_ack [] acks_since passed below =
    first_dropped (told [] acks_since) passed Ack
    (told_behind [] acks_since passed (omega arith) (omega (arith, below, length-replicate acks_since Ack)))
next_is_ack (entry ∷ entries) acks_since passed below =
    first_dropped (told (entry ∷ entries) acks_since) passed Ack
    (told_within (entry ∷ entries) acks_since passed (omega (arith, below, length_entry entry.acks entry.event (events_of entries)))
    ∙ at_ack entry.acks entry.event (events_of entries) passed below)

-- an acknowledgement before the first entry is next where not all of them were passed
pub next_before : {entries : List Entry} (entry : Entry) (later : List Entry) (acks_since passed : ℕ) → entries ≡ entry ∷ later → passed < entry.acks
    → events_left entries acks_since passed ≡ Ack ∷ events_left entries acks_since (passed + 1)
next_before {entries} entry later acks_since passed is below =
    next_is_ack entries acks_since passed (subst (λ (l : List Entry). passed < acks_first l acks_since) (sym is) below)

-- so is one behind the last entry
pub next_behind : (entries : List Entry) (acks_since passed : ℕ) → length entries ≡ 0 → passed ≤ acks_first entries acks_since → (passed ≡ acks_since → ⊥)
    → events_left entries acks_since passed ≡ Ack ∷ events_left entries acks_since (passed + 1)
next_behind [] acks_since passed none within some = next_is_ack [] acks_since passed (omega (arith, within, some))
next_behind (entry ∷ entries) acks_since passed none within some = absurd (omega (arith, none))

-- and nothing where all of these were passed
pub nothing_left : (entries : List Entry) (acks_since passed : ℕ) → length entries ≡ 0 → passed ≡ acks_since → events_left entries acks_since passed ≡ []
nothing_left [] acks_since passed none all = drop_all passed (replicate acks_since Ack) (omega (arith, all, length-replicate acks_since Ack))
nothing_left (entry ∷ entries) acks_since passed none all = absurd (omega (arith, none))
