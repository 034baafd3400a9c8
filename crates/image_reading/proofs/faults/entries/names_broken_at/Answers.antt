use Rattle.std.proofs.Common.{◌≡◌, ℕ, ◌<◌, false, not, List, Option, None, Some, MatchOption, is_some, sym, ap, subst, ◌∙◌, arith}
use Rattle.layout.specs.Name.{IsNameWords}
use Rattle.image_reading.specs.Reading.{IsReachedSlot}
use Rattle.image_reading.specs.Soundness.{HasName}
use Rattle.image_reading.proofs.ReachedTable as lemmas
use Rattle.image_reading.proofs.faults.entries.names_broken_at.Goals as goal

-- none is found where the words are no name's
no_name : (A : Type 0) (B : List ℕ → Type 0) (found : Option (List ℕ)) → is_some found ≡ false → MatchOption found (¬ A) (λ name. A × B name) → ¬ A
no_name A B None e unnamed = unnamed
no_name A B (Some name) e there = absurd (let no : ⊥ = cc in no)

pub slot_at-requires-clause-slot_in_range : goal.slot_at-requires-clause-slot_in_range
slot_at-requires-clause-slot_in_range c =
    let P = c.args.image.now.geometry.pages in
    let I = c.args.image.now.words.now in
    let slot = lemmas.reached_at P I c.args.slots.now c.requires c.loop-k.k c.loop-k-test.true in
    omega (arith, slot.live.held.in_range, c.from-slot.ensures)

pub returns-then-is_none : goal.returns-then-is_none
returns-then-is_none c =
    let P = c.args.image.now.geometry.pages in
    let I = c.args.image.now.words.now in
    let slot = subst (IsReachedSlot P I) (sym c.from-slot.ensures) (lemmas.reached_at P I c.args.slots.now c.requires c.loop-k.k c.loop-k-test.true) in (
      (λ x lt. lemmas.holds_before P I c.args.slots.now c.requires (HasName P I) (lemmas.names_free P I) c.loop-k.k c.loop-k-test.true c.loop-k.invariant x
          (subst (λ (s : ℕ). x < s) c.from-slot.ensures lt)),
      (λ has. no_name _ _ c.name_of_words-name.result (c.is_none.ensures ∙ ap not c.if-is_none.true) c.name_of_words-name.ensures (subst IsNameWords (sym c.slot_at.ensures.name) (has slot))),
    )

pub returns : goal.returns
returns c =
    let P = c.args.image.now.geometry.pages in
    let I = c.args.image.now.words.now in
    lemmas.holds_all P I c.args.slots.now c.requires (HasName P I) (lemmas.names_free P I) c.loop-k.k c.loop-k-test.false c.loop-k.invariant
