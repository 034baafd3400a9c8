-- What the first steps of a move ask for, in turn: B are the words with a new page, I those with the pointer, C with the number.
use Rattle.std.proofs.Common.{◌≡◌, ℕ, ◌+◌, ◌*◌, ◌≤◌, List, Some, None, refl, sym, ap, subst, ◌∙◌, arith}
use Rattle.std.specs.Prelude.{Option, Ok}
use Rattle.pm_trait.specs.DeviceView.{DeviceView}
use Rattle.pm_trait.specs.Unfolds.{Step, Through, Unfolds, fences_in}
use Rattle.pm_trait.proofs.Unfolding.{through}
use Rattle.layout.specs.Name.{words_of_name}
use Rattle.tree_model.specs.PathText.{Route}
use Rattle.tree_model.specs.Run.{State}
use Rattle.image_counts.proofs.Inodes.{inode_count_law}
use Rattle.image_laws.specs.Create.{committed, MakesNamedPage}
use Rattle.image_laws.specs.Drop.{dropped}
use Rattle.image_laws.specs.Move.{moved}
use Rattle.rename_laws.specs.Intervals.{left, ClearsSource}
use Rattle.rename_laws.specs.Ready.{IsTargetOpened, IsMoveReady, PointsAt}
use Rattle.rename_laws.proofs.MoveNear
use Rattle.rename_laws.proofs.Ready.{ready_law}
use Rattle.volume.specs.Moves.{rising_of, falling_of}
use Rattle.volume.specs.declared.plan.Loss.{Loss}
use Rattle.volume.specs.declared.plan.Moving.{Moving}
use Rattle.entry_steps.specs.Steps.{MayTake, first_slot}
use Rattle.entry_steps.proofs.Places
use Rattle.rename_ptr.specs.Steps.{target_by, target_of, opening, CanPointSlot, CanTakeOver, CanLeave, CanClearSource}
use Rattle.rename_ptr.specs.Renaming.{IsMovingAt}
use Rattle.rename_ptr.proofs.Asked
use Rattle.rename_ptr.proofs.Moves

pub through_ok : {T E : Type 0} {steps : List Step} {a c : DeviceView} {value : T} → Unfolds {E = E} steps a c (Ok value) → Through steps a.words c.words
through_ok {value = value} made = through (Ok value) made

module _ {P : ℕ} {W : List ℕ} {state : State} (from to : Route) {moving : Moving} (at : IsMovingAt P W state from to moving) where
  pub some_directory : 1 ≤ moving.to_directory
  some_directory = (inode_count_law P W state (Moves.coherent from to at) at.reads).least moving.to_directory (Moves.to_holds from to at).0

  take_by : (replaced : Option Loss) → moving.replaced ≡ replaced → MayTake P W moving.new_page
  take_by None none = Places.takes (Moves.naming from to at none)
  take_by (Some loss) is = subst (MayTake P W) (sym (Moves.target_at from to at loss is).2) tt

  pub may_take : MayTake P W moving.new_page
  may_take = take_by moving.replaced refl

  module _ (B : List ℕ) where
    -- the new page's first slot is the one that takes the name
    named_page : (page : ℕ) (A : List ℕ) → moving.to_slot ≡ 32 * page → MakesNamedPage P W A page (first_slot page) (words_of_name moving.to_name) → MakesNamedPage P W A page moving.to_slot (words_of_name moving.to_name)
    named_page page A is made = subst (λ (slot : ℕ). MakesNamedPage P W A page slot (words_of_name moving.to_name)) (sym is) made

    opened_from : (replaced : Option Loss) (page : Option ℕ) → moving.replaced ≡ replaced → moving.new_page ≡ page → Through (opening P moving page) W B
        → IsTargetOpened P W B moving.to_directory moving.to_slot (target_by moving replaced page)
    opened_from None None none no_page same = same
    opened_from None (Some page) none is (A, made, (C, owns, same)) = (A, named_page page A (Moves.place_at from to at none (Some page) is).slot_is made, same ∙ owns)
    opened_from (Some loss) None is no_page same = same
    opened_from (Some loss) (Some page) is here all =
        let none : ◌≡◌ {A = Option ℕ} None (Some page) = sym (Moves.target_at from to at loss is).2 ∙ here in
        absurd (let clash = none in cc)

    pub opened_by : Through (opening P moving moving.new_page) W B → IsTargetOpened P W B moving.to_directory moving.to_slot (target_of moving)
    opened_by all = opened_from moving.replaced moving.new_page refl refl all

    pub can_point : IsTargetOpened P W B moving.to_directory moving.to_slot (target_of moving) → CanPointSlot P B moving
    can_point opened = Asked.can_point from to at B opened

    module _ (opened : IsTargetOpened P W B moving.to_directory moving.to_slot (target_of moving)) (I : List ℕ) (points : PointsAt P B I moving.from_slot moving.to_slot (target_of moving) (rising_of moving)) where
      pub ready : IsMoveReady P W I (Moves.from_way from to at) (Moves.to_way from to at) moving.from_slot moving.to_directory moving.to_slot (target_of moving) (rising_of moving)
      ready = (ready_law P W B I (Moves.from_way from to at) (Moves.to_way from to at) moving.from_slot moving.to_directory moving.to_slot (target_of moving) (rising_of moving)
          (Moves.can_rename from to at) (Moves.rises from to at) opened points).ready

      pub can_take : CanTakeOver P I moving
      can_take = Asked.can_take_over P W I (Moves.from_way from to at) (Moves.to_way from to at) moving (rising_of moving) ready (Moves.source_inode from to at)

      -- the number is that of the laws
      pub committed_is : committed P I moving.to_slot moving.inode ≡ moved P I moving.from_slot moving.to_slot
      committed_is = ap (λ (i : ℕ). committed P I moving.to_slot i) (sym (
          MoveNear.source_number P W I (Moves.from_way from to at) (Moves.to_way from to at) moving.from_slot moving.to_directory moving.to_slot (target_of moving) (rising_of moving) ready
          ∙ Moves.source_inode from to at))

      module _ (C : List ℕ) (commits : C ≡ committed P I moving.to_slot moving.inode) where
        pub can_give : CanLeave P C moving
        can_give = subst (λ (l : List ℕ). CanLeave P l moving) (sym (commits ∙ committed_is)) (Asked.can_leave P W I (Moves.from_way from to at) (Moves.to_way from to at) moving (rising_of moving) ready)

        left_is : (D : List ℕ) → D ≡ dropped P C moving.from_slot → D ≡ left P I moving.from_slot moving.to_slot
        left_is D leaves = leaves ∙ ap (λ (l : List ℕ). dropped P l moving.from_slot) (commits ∙ committed_is)

        pub can_clear : (D : List ℕ) → D ≡ dropped P C moving.from_slot → CanClearSource P D moving
        can_clear D leaves = subst (λ (l : List ℕ). CanClearSource P l moving) (sym (left_is D leaves))
            (Asked.can_clear_source P W I (Moves.from_way from to at) (Moves.to_way from to at) moving (rising_of moving) ready (Moves.falls from to at))

        -- the words without the source, as the laws have them
        pub cleared_left : (D : List ℕ) → D ≡ dropped P C moving.from_slot → (J : List ℕ) → ClearsSource P D J moving.from_slot moving.to_slot (falling_of moving)
            → ClearsSource P (left P I moving.from_slot moving.to_slot) J moving.from_slot moving.to_slot (falling_of moving)
        cleared_left D leaves J clears = subst (λ (l : List ℕ). ClearsSource P l J moving.from_slot moving.to_slot (falling_of moving)) (left_is D leaves) clears

-- a new page takes two fences
pub opening_fences : (P : ℕ) (moving : Moving) (page : Option ℕ) → fences_in (opening P moving page) + 6 ≤ 8
opening_fences P moving None = omega arith
opening_fences P moving (Some page) = omega arith
