-- A repair, step by step: what it begins with, that each mix of a step means the same, and what all of them make.
use Rattle.std.proofs.Common.{◌≡◌, ◌⊎◌, inl, inr, ℕ, ◌^◌, ◌*◌, ◌<◌, ◌≤◌, Bool, true, false, List, [], ◌∷◌, refl, sym, ◌∙◌, ap, subst, arith}
use Rattle.std.specs.Prelude.{◌==◌, Result, Ok, OnOk}
use Rattle.pm_trait.specs.Device.{LeavesOnly}
use Rattle.pm_trait.specs.DeviceView.{DeviceView, IsSettledView, MakesIntervals}
use Rattle.pm_trait.specs.Unfolds.{MayFence, Quietly, Takes, Unfolds, Along, Through, KeepsWords, step_events, events_in}
use Rattle.pm_trait.proofs.DeviceLaws.{leaves_here}
use Rattle.pm_trait.proofs.Unfolding.{starts, next, intervals, leaves, leaves_as, leaves_both, leaves_kept, words_kept, through, map_ok}
use Rattle.layout.specs.Superblock.{IsSuperblockWord, HasMark, closed_mark, has_mark}
use Rattle.image_reading.specs.Soundness.{IsCoherent, Sound}
use Rattle.image_reading.proofs.Tidied.{unmarked_sound}
use Rattle.image_laws.specs.Frame.{IsSoundAs, SameMeaning}
use Rattle.image_laws.proofs.Meaning.{same_itself}
use Rattle.repair_laws.specs.Mended.{IsMended}
use Rattle.recovery.specs.declared.repairs.Repairs.{Repairs}
use Rattle.recovery.specs.Repairs.{giving_up, unpointing, clearing, freeing, steps_of, events_of_repairs, fences_of_repairs}
use Rattle.recovery.specs.Plans.{IsPlanOf}
use Rattle.recovery.proofs.Stepping.{all_still}
use Rattle.recovery.proofs.Still.{no_fences}
use Rattle.recovery.proofs.Beside.{all_keep}
use Rattle.recovery.proofs.Planned.{first_planned, second_planned, third_planned, fourth_planned}
use Rattle.recovery.proofs.Meaning.{whole, first_leaves, second_leaves, third_leaves, fourth_leaves, all_mended}

-- ---- the room for each step, and for those after it

module _ (r : Repairs) {a : DeviceView} (sound : Sound r.geometry.pages a.words) (settled : IsSettledView a) (room : events_of_repairs r ≤ a.spare) (countable : a.fences < 2 ^ 63) where
  all : MayFence a (512 * r.geometry.pages) (events_of_repairs r) 4
  all = record { whole = whole r.geometry.pages a.words sound.coherent; settled = settled; room = room; countable = omega (arith, countable) }

  pub begins_first : MayFence a (512 * r.geometry.pages) (step_events (giving_up r)) 1
  begins_first = starts (giving_up r) (unpointing r ∷ clearing r ∷ freeing r ∷ []) all

  module _ {E : Type 0} (b : DeviceView) {v : Unit {0}} (first : Takes {E = E} (giving_up r) a b (Ok v)) where
    after_first : MayFence b (512 * r.geometry.pages) (events_in (unpointing r ∷ clearing r ∷ freeing r ∷ [])) 3
    after_first = next (giving_up r) (unpointing r ∷ clearing r ∷ freeing r ∷ []) b first all

    pub begins_second : MayFence b (512 * r.geometry.pages) (step_events (unpointing r)) 1
    begins_second = starts (unpointing r) (clearing r ∷ freeing r ∷ []) after_first

    module _ (c : DeviceView) {w : Unit {0}} (second : Takes {E = E} (unpointing r) b c (Ok w)) where
      after_second : MayFence c (512 * r.geometry.pages) (events_in (clearing r ∷ freeing r ∷ [])) 2
      after_second = next (unpointing r) (clearing r ∷ freeing r ∷ []) c second after_first

      pub begins_third : MayFence c (512 * r.geometry.pages) (step_events (clearing r)) 1
      begins_third = starts (clearing r) (freeing r ∷ []) after_second

      pub begins_fourth : (d : DeviceView) {x : Unit {0}} → Takes {E = E} (clearing r) c d (Ok x) → MayFence d (512 * r.geometry.pages) (step_events (freeing r)) 1
      begins_fourth d third = starts (freeing r) [] (next (clearing r) (freeing r ∷ []) d third after_second)

-- ---- what they leave and make

module _ (r : Repairs) (W : List ℕ) (coherent : IsCoherent r.geometry.pages W) (plan : IsPlanOf W r) where
  -- each mix of a step means what the first words mean
  along : Along (SameMeaning r.geometry.pages W) (steps_of r) W
  along A one =
      let first = first_planned r W coherent plan one in (
        first_leaves r.geometry.pages W coherent first,
        λ B two.
            let second = second_planned r W coherent plan first two in (
              second_leaves r.geometry.pages W coherent first second,
              λ C three.
                  let third = third_planned r W coherent plan first second three in (
                    third_leaves r.geometry.pages W coherent first second third,
                    λ K four.
                        (fourth_leaves r.geometry.pages W coherent first second third (fourth_planned r W coherent plan first second third four), tt),
                  ),
            ),
      )

  mends : (K : List ℕ) → Through (steps_of r) W K → IsMended r.geometry.pages W K
  mends K (A, one, (B, two, (C, three, (L, four, is)))) =
      let first = first_planned r W coherent plan one in
      let second = second_planned r W coherent plan first two in
      let third = third_planned r W coherent plan first second three in
      subst (IsMended r.geometry.pages W) (sym is) (all_mended r.geometry.pages W coherent first second third (fourth_planned r W coherent plan first second third four))

-- ---- the mark

-- words with the same superblock have the same mark
same_mark : (I J : List ℕ) → KeepsWords IsSuperblockWord I J → has_mark J ≡ has_mark I
same_mark I J same = ap (λ (value : ℕ). value == closed_mark) (same 5 (omega arith))

marked_or_not : (marked : Bool) → (marked ≡ true) ⊎ (marked ≡ false)
marked_or_not true = inl refl
marked_or_not false = inr refl

module _ (r : Repairs) {a c : DeviceView} {E : Type 0} {result : Result (Unit {0}) E} (sound : Sound r.geometry.pages a.words) (plan : IsPlanOf a.words r) (settled : IsSettledView a) (made : Unfolds (steps_of r) a c result) where
  -- Without the mark each image is sound, since it has none either.
  of_unmarked : has_mark a.words ≡ false → LeavesOnly a.trail c.trail (Quietly (IsSoundAs r.geometry.pages a.words))
  of_unmarked unmarked =
      let P = r.geometry.pages in
      leaves_as
      (λ image (same, kept). record { sound = unmarked_sound (same_mark a.words image kept ∙ unmarked) same.coherent; same = same })
      (leaves_both (SameMeaning P a.words) (KeepsWords IsSuperblockWord a.words)
      (leaves (SameMeaning P a.words) settled (same_itself P a.words sound.coherent) (along r a.words sound.coherent plan) made)
      (leaves_kept IsSuperblockWord settled (all_keep r) made))

  -- With it nothing is stored.
  of_marked : HasMark a.words → LeavesOnly a.trail c.trail (Quietly (IsSoundAs r.geometry.pages a.words))
  of_marked marked =
      let P = r.geometry.pages in
      let none = no_fences a.words r (record { coherent = sound.coherent; repaired = sound.mark marked }) plan in
      subst (λ (view : DeviceView). LeavesOnly a.trail view.trail (Quietly (IsSoundAs P a.words))) (sym (all_still none made))
      (leaves_here (Quietly (IsSoundAs P a.words)) settled (refl, record { sound = sound; same = same_itself P a.words sound.coherent }))

  either : LeavesOnly a.trail c.trail (Quietly (IsSoundAs r.geometry.pages a.words))
  either = elim (marked_or_not (has_mark a.words)) [ inl marked ↦ of_marked marked | inr unmarked ↦ of_unmarked unmarked ]

-- what a caller is told beside the steps
pub record Repaired {E : Type 0} (r : Repairs) (a c : DeviceView) (result : Result (Unit {0}) E) : Type 0 where
  pub any_moment : LeavesOnly a.trail c.trail (Quietly (IsSoundAs r.geometry.pages a.words))
  pub mended : OnOk result (IsMended r.geometry.pages a.words c.words)
  pub device : MakesIntervals a c (events_of_repairs r) (fences_of_repairs r) result
  pub beside : KeepsWords IsSuperblockWord a.words c.words
  pub quiet : fences_of_repairs r ≡ 0 → c ≡ a

pub repaired : {E : Type 0} {a c : DeviceView} {result : Result (Unit {0}) E} (r : Repairs) → Sound r.geometry.pages a.words → IsPlanOf a.words r → IsSettledView a → Unfolds (steps_of r) a c result → Repaired r a c result
repaired {a = a} {c = c} {result = result} r sound plan settled made =
    let P = r.geometry.pages in
    record {
      any_moment = either r sound plan settled made;
      mended = map_ok (Through (steps_of r) a.words c.words) (IsMended P a.words c.words) result (mends r a.words sound.coherent plan c.words) (through result made);
      device = intervals settled made;
      beside = words_kept IsSuperblockWord (all_keep r) made;
      quiet = λ none. all_still none made;
    }
