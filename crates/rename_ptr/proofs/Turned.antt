-- What a crash leaves while a name moves: what means the words before, and from the number of the new slot on the words with it.
use Rattle.std.proofs.Common.{◌≡◌, inl, inr, ℕ, List, [], ◌∷◌, ◌++◌, length, reverse, Option, Some, None, refl, sym, ap, subst, ◌∙◌, arith}
use Rattle.std.specs.Prelude.{Result}
use Rattle.pm_trait.specs.Device.{Mix}
use Rattle.pm_trait.specs.DeviceView.{DeviceView, IsSettledView, MakesIntervals}
use Rattle.pm_trait.specs.Unfolds.{Step, Along, Through, Unfolds, events_in}
use Rattle.pm_trait.proofs.Unfolding.{intervals, map_ok, through}
use Rattle.layout.specs.Geometry.{slot_word_of}
use Rattle.layout.specs.declared.fields.DescriptorFields.{DescriptorFields}
use Rattle.layout.proofs.GeometryLaws.{slot_word_within}
use Rattle.tree_model.specs.PathText.{Route}
use Rattle.tree_model.specs.Tree.{Tree, parent}
use Rattle.tree_model.specs.Step.{step}
use Rattle.tree_model.specs.Run.{State}
use Rattle.tree_model.specs.declared.command.Command.TheVariants.{Rename}
use Rattle.image_reading.specs.Reading.{Reads}
use Rattle.image_reading.specs.Soundness.{IsCoherent}
use Rattle.image_reading.proofs.Readings.{one_tree}
use Rattle.image_laws.specs.Create.{IsPageQuiet, committed, owned}
use Rattle.image_laws.specs.Frame.{SameMeaning}
use Rattle.image_laws.specs.Move.{moved}
use Rattle.image_laws.proofs.Meaning.{same_itself}
use Rattle.image_laws.proofs.PageQuiet.{page_quiet_law}
use Rattle.rename_laws.specs.Ready.{IsTargetOpened, PointsAt, IsMoveReady}
use Rattle.rename_laws.specs.Intervals.{left, ClearsSource}
use Rattle.rename_laws.proofs.Differs
use Rattle.rename_laws.proofs.MoveIntervals.{leaving_law, clearing_law, giving_law, freeing_law}
use Rattle.rename_laws.proofs.Ready.{ready_law}
use Rattle.volume.specs.Costs.{pages_of_loss, goes_of, events_of, fences_of_plan}
use Rattle.volume.specs.Moves.{rising_of, falling_of}
use Rattle.volume.specs.declared.plan.Action.TheVariants.{Move}
use Rattle.volume.specs.declared.plan.Moving.{Moving}
use Rattle.volume.proofs.Unmarked.{ReadsAllowed}
use Rattle.entry_steps.specs.Steps.{MayTake}
use Rattle.entry_steps.proofs.Moments.{is_mix}
use Rattle.entry_steps.proofs.Turning.{IsUnderway, Turns, one_side, hangs_on, turned}
use Rattle.removal_steps.specs.Steps.{AreGonePages, number_of, unnaming, giving, freeing}
use Rattle.rename_ptr.specs.Steps.{target_of, opening, clearing_source, moving_steps, steps_of}
use Rattle.rename_ptr.specs.Renaming.{IsMovingAt, IsRenamed, HasRenamed}
use Rattle.rename_ptr.proofs.Begun
use Rattle.rename_ptr.proofs.Costs.{costs, fences}
use Rattle.rename_ptr.proofs.Finished
use Rattle.rename_ptr.proofs.Given
use Rattle.rename_ptr.proofs.Gone
use Rattle.rename_ptr.proofs.Moves

-- its words fit together, and it reads as the tree
record IsLater (P : ℕ) (tree : Tree) (image : List ℕ) : Type 0 where
  pub coherent : IsCoherent P image
  pub reads : Reads P image tree

module _ {P : ℕ} (old : DeviceView) {state : State} (from to : Route) {moving : Moving} (at : IsMovingAt P old.words state from to moving) (pages : List ℕ) (are : AreGonePages P old.words moving.replaced pages) where
  abbrev W : List ℕ
  W = old.words

  abbrev pub tree : Tree
  tree = (step P state.tree state.room (Rename from to)).tree

  pub differ : Reads P W tree → ⊥
  differ same =
      Differs.difference_law P W (reverse (parent from)) (reverse (parent to)) from to moving.from_slot moving.to_directory moving.to_slot (target_of moving) state.tree
      (Moves.can_rename from to at) (Moves.are_paths from to at) at.reads.tree (subst (λ (T : Tree). Reads P W T) (Moves.tree_is from to at) same)

  -- ---- once the pointer is there

  module _ (B : List ℕ) (opened : IsTargetOpened P W B moving.to_directory moving.to_slot (target_of moving)) (I : List ℕ)
      (points : PointsAt P B I moving.from_slot moving.to_slot (target_of moving) (rising_of moving)) where
    ready : IsMoveReady P W I (reverse (parent from)) (reverse (parent to)) moving.from_slot moving.to_directory moving.to_slot (target_of moving) (rising_of moving)
    ready = Begun.ready from to at B opened I points

    abbrev after : List ℕ
    after = moved P I moving.from_slot moving.to_slot

    reads_after : Reads P after tree
    reads_after = subst (λ (T : Tree). Reads P after T) (sym (Moves.tree_is from to at)) (Gone.reads_after from to at I ready)

    later_of : (image : List ℕ) → SameMeaning P after image → IsLater P tree image
    later_of image same = record { coherent = same.coherent; reads = same.reads tree reads_after }

    abbrev later_steps : List Step
    later_steps = unnaming P moving.from_slot ∷ clearing_source P moving ∷ giving P pages moving.given_back
        ∷ freeing P pages moving.given_back (goes_of moving.replaced) (number_of moving.replaced) ∷ []

    -- each mix after the commit
    onward : Along (IsLater P tree) later_steps after
    onward D leaves = (
      (λ M mix. later_of M (leaving_law P W I M (reverse (parent from)) (reverse (parent to)) moving.from_slot moving.to_directory moving.to_slot (target_of moving) (rising_of moving) ready
          (is_mix after (left P I moving.from_slot moving.to_slot) M (subst (λ (l : List ℕ). Mix after l M) leaves mix)))),
      (λ J clears.
          let clears_left : ClearsSource P (left P I moving.from_slot moving.to_slot) J moving.from_slot moving.to_slot (falling_of moving)
          = subst (λ (l : List ℕ). ClearsSource P l J moving.from_slot moving.to_slot (falling_of moving)) leaves clears in (
            (λ M mix. later_of M (clearing_law P W I J M (reverse (parent from)) (reverse (parent to)) moving.from_slot moving.to_directory moving.to_slot (target_of moving) (rising_of moving) (falling_of moving) ready
                (Given.cleared from to at I ready J clears_left)
                (is_mix (left P I moving.from_slot moving.to_slot) J M (subst (λ (l : List ℕ). Mix l J M) leaves mix)))),
            (λ G gives. (
              (λ M mix. later_of M (giving_law P W I J G M (reverse (parent from)) (reverse (parent to)) moving.from_slot moving.to_directory moving.to_slot (target_of moving) (rising_of moving) (falling_of moving) ready
                  (Finished.given from to at pages are I ready J clears_left G gives) (is_mix J G M mix))),
              (λ K rest. (
                (λ M mix. later_of M (freeing_law P W I J G K M (reverse (parent from)) (reverse (parent to)) moving.from_slot moving.to_directory moving.to_slot (target_of moving) (rising_of moving) (falling_of moving) ready
                    (Finished.finishes from to at pages are I ready J clears_left G gives K rest) (is_mix G K M mix))),
                tt,
              )),
            )),
          )),
    )

    commit_is : committed P I moving.to_slot moving.inode ≡ after
    commit_is = Begun.committed_is from to at B opened I points

  abbrev Before : List ℕ → Type 0
  Before image = SameMeaning P W image

  turns_from : (B : List ℕ) → IsTargetOpened P W B moving.to_directory moving.to_slot (target_of moving) → Turns Before (IsLater P tree) (slot_word_of P moving.to_slot 0) (moving_steps P moving pages) B
  turns_from B opened I points =
      let law = ready_law P W B I (reverse (parent from)) (reverse (parent to)) moving.from_slot moving.to_directory moving.to_slot (target_of moving) (rising_of moving)
      (Moves.can_rename from to at) (Moves.rises from to at) opened points in
      inl (
        (λ M mix. law.pointing M (is_mix B I M mix)),
        (λ C commits.
            let is = commits ∙ commit_is B opened I points in
            let within = slot_word_within P moving.to_slot 0 law.ready.can_move.held.in_range (omega arith) in
            let whole = Moves.whole from to at in
            let long = law.ready.size in
            inr (
              record { value = moving.inode; inside = omega (arith, within, whole, long); stored = commits },
              subst (IsLater P tree) (sym is) (record { coherent = Gone.coherent_after from to at I law.ready; reads = reads_after B opened I points }),
              subst (λ (l : List ℕ). Along (IsLater P tree) (later_steps B opened I points) l) (sym is) (onward B opened I points),
            )),
      )

  turns_by : (page : Option ℕ) → moving.new_page ≡ page → Turns Before (IsLater P tree) (slot_word_of P moving.to_slot 0) (opening P moving page ++ moving_steps P moving pages) W
  turns_by None is = turns_from W (Begun.opened_by from to at W (subst (λ (page : Option ℕ). Through (opening P moving page) W W) (sym is) refl))
  turns_by (Some page) is = λ A made.
      let free : MayTake P W (Some page) = subst (MayTake P W) is (Begun.may_take from to at) in
      let quiet : IsPageQuiet P W A (owned P A page moving.to_directory)
      = page_quiet_law P W A (reverse (parent to)) moving.to_directory page (Moves.coherent from to at) (Moves.to_named from to at) (Moves.to_holds from to at).1
      (free.0, ap (λ (d : DescriptorFields). d.owner) free.1) made.empty in
      inl (
        (λ M mix. quiet.making M (is_mix W A M mix)),
        (λ B owns. inl (
          (λ M mix. quiet.owning M (is_mix A (owned P A page moving.to_directory) M (subst (λ (l : List ℕ). Mix A l M) owns mix))),
          turns_from B (Begun.opened_by from to at B (subst (λ (o : Option ℕ). Through (opening P moving o) W B) (sym is) (A, made, (B, owns, refl)))),
        )),
      )

  turns : Turns Before (IsLater P tree) (slot_word_of P moving.to_slot 0) (steps_of P moving pages) W
  turns = turns_by moving.new_page refl

  -- ---- the whole call

  module _ {T E : Type 0} (new : DeviceView) (result : Result T E) (settled : IsSettledView old) (made : Unfolds (steps_of P moving pages) old new result) where
    pub underway : IsUnderway P (λ word. word ≡ slot_word_of P moving.to_slot 0) (ReadsAllowed P state (Some (Rename from to))) tree old.trail new.trail
    underway =
        turned
        (one_side state.tree (λ image same. record { coherent = same.coherent; tree = state.tree; reads = same.reads state.tree at.reads.tree; allowed = inl refl })
        (λ image same. same.reads state.tree at.reads.tree))
        (λ image same later.
        let alike : state.tree ≡ tree = one_tree P image state.tree tree (same.reads state.tree at.reads.tree) later in
        differ (subst (λ (T : Tree). Reads P W T) alike at.reads.tree))
        (one_side tree (λ image later. record { coherent = later.coherent; tree = tree; reads = later.reads; allowed = inr (inl refl) }) (λ image later. later.reads))
        (λ image later. later.reads)
        refl settled (same_itself P W (Moves.coherent from to at)) turns made

    -- ---- the words that are made

    split : (page : Option ℕ) (K : List ℕ) → Through (opening P moving page ++ moving_steps P moving pages) W K
        → (B : List ℕ) × Through (opening P moving page) W B × Through (moving_steps P moving pages) B K
    split None K all = (W, refl, all)
    split (Some page) K (A, made, (B, owns, rest)) = (B, (A, made, (B, owns, refl)), rest)

    renamed_from : (K : List ℕ) → Through (steps_of P moving pages) W K → IsRenamed P W K moving
    renamed_from K all =
        let (B, opens, (I, points, (C, commits, (D, leaves, (J, clears, (G, gives, (last, rest, same))))))) = split moving.new_page K all in
        let opened = Begun.opened_by from to at B opens in
        subst (λ (l : List ℕ). IsRenamed P W l moving) (sym same)
        (Finished.renamed from to at pages are I (ready B opened I points) J (Begun.cleared_left from to at B opened I points C commits D leaves J clears) G gives last rest B opened points)

    pub has_renamed : HasRenamed P old new moving pages result
    has_renamed = record { in_turn = made; made = map_ok _ _ result (λ all. renamed_from new.words all) (through result made); commit_word = hangs_on underway.hangs }

  -- ---- what it costs

  abbrev counted : length pages ≡ pages_of_loss moving.replaced
  counted = Finished.counted from to at pages are

  pub all_intervals : {T E : Type 0} (new : DeviceView) (result : Result T E) → IsSettledView old → Unfolds (steps_of P moving pages) old new result → MakesIntervals old new (events_of (Move moving)) (fences_of_plan (Move moving)) result
  all_intervals new result settled made =
      subst (λ (n : ℕ). MakesIntervals old new n (fences_of_plan (Move moving)) result) (sym (costs P moving pages counted))
      (subst (λ (n : ℕ). MakesIntervals old new (events_in (steps_of P moving pages)) n result) (sym (fences P moving pages counted)) (intervals settled made))
