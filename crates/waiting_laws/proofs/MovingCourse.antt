-- Each step of a move that commits nothing and isn't the last, by the steps before it: what it leaves, and the pages that are left with it.
use Rattle.std.proofs.Common.{◌≡◌, ◌⊎◌, inl, inr, ℕ, Bool, true, false, nat_lt, if◌then◌else◌, List, [], ◌∷◌, ◌++◌, Option, Some, None, refl, sym, ap, subst, ◌∙◌}
use Rattle.pm_trait.specs.Unfolds.{Step, Through}
use Rattle.layout.specs.Name.{words_of_name}
use Rattle.tree_model.specs.PathText.{Route}
use Rattle.tree_model.specs.Run.{State}
use Rattle.tree_model.specs.declared.reply.Reply.TheVariants.{Done}
use Rattle.image_reading.specs.Counts.{IsIn}
use Rattle.image_reading.specs.Residue.{Residue, no_residue}
use Rattle.image_laws.specs.Create.{MakesNamedPage, owned, committed as numbered}
use Rattle.image_laws.specs.Drop.{GivesPages, dropped}
use Rattle.image_laws.specs.Move.{moved}
use Rattle.rename_laws.specs.Ready.{IsMoveReady, IsTargetOpened, PointsAt}
use Rattle.rename_laws.specs.Intervals.{left, ClearsSource}
use Rattle.weave_laws.specs.Naming.{pages_left}
use Rattle.weave_laws.specs.Removing.{cleared_left}
use Rattle.moving_laws.specs.Moving.{pointed_left, moved_left}
use Rattle.volume.specs.Costs.{goes_of, pages_replaced}
use Rattle.volume.specs.Entered.{pages_of_option}
use Rattle.volume.specs.Moves.{rising_of, falling_of}
use Rattle.volume.specs.declared.next.Next.{Next}
use Rattle.volume.specs.declared.next.Next.TheVariants.{More, Ended}
use Rattle.volume.specs.declared.plan.Moving.{Moving}
use Rattle.entry_steps.specs.Steps.{naming, first_slot}
use Rattle.removal_steps.specs.Steps.{AreGonePages, IsCut, number_of, unnaming}
use Rattle.rename_ptr.specs.Steps.{target_of, opening, pointing, clearing_source}
use Rattle.rename_ptr.specs.Renaming.{IsMovingAt}
use Rattle.rename_ptr.specs.Stages.{HasStore, step_at, first_step, claiming_step, filling_steps, made_at, next_moving, next_first}
use Rattle.rename_ptr.specs.declared.rename.Progress.{Progress}
use Rattle.rename_ptr.specs.declared.rename.Progress.TheVariants.{Begun, Filled, Opened, Pointed, Moved, Left, Cleared, Disowned}
use Rattle.rename_ptr.specs.declared.rename.Stage.{Stage}
use Rattle.rename_ptr.specs.declared.rename.Stage.TheVariants.{Moving as Stepping}
use Rattle.rename_ptr.proofs.Begun as begun
use Rattle.rename_ptr.proofs.Moves as Moves
use Rattle.rename_ptr.proofs.Standing.{parts}
use Rattle.waiting_laws.proofs.MovingQuiet.{IsQuietSince, IsQuietStep}
use Rattle.waiting_laws.proofs.MovingBefore as before
use Rattle.waiting_laws.proofs.MovingBefore.{paged_left}
use Rattle.waiting_laws.proofs.MovingBehind as behind

-- ---- what is left, by the pages that go

abbrev pub left_with : Moving → List ℕ → Progress → Residue
left_with moving pages Begun = no_residue
left_with moving pages Filled = paged_left moving
left_with moving pages Opened = paged_left moving
left_with moving pages Pointed = pointed_left moving.to_slot (target_of moving) (rising_of moving)
left_with moving pages Moved = moved_left moving.from_slot moving.to_slot moving.given_back pages (goes_of moving.replaced) (number_of moving.replaced) (falling_of moving)
left_with moving pages Left = moved_left moving.from_slot moving.to_slot moving.given_back pages (goes_of moving.replaced) (number_of moving.replaced) (falling_of moving)
left_with moving pages Cleared = cleared_left (pages ++ pages_left moving.given_back) (goes_of moving.replaced) (number_of moving.replaced)
left_with moving pages Disowned = cleared_left (pages ++ pages_left moving.given_back) (goes_of moving.replaced) (number_of moving.replaced)

-- the pages that a step takes: the new one behind the first
abbrev pub taken_at : Moving → Progress → List ℕ
taken_at moving Begun = pages_of_option moving.new_page
taken_at moving Filled = []
taken_at moving Opened = []
taken_at moving Pointed = []
taken_at moving Moved = []
taken_at moving Left = []
taken_at moving Cleared = []
taken_at moving Disowned = []

-- The step is quiet, and leaves the pages that were left, and those that it takes.
pub record IsQuietMove (P : ℕ) (X Y : List ℕ) (moving : Moving) (pages : List ℕ) (progress next : Progress) : Type 0 where
  pub step : IsQuietStep P X Y (left_with moving pages progress) (left_with moving pages next)
  pub left : (j : ℕ) → IsIn j (left_with moving pages next).pages → IsIn j (left_with moving pages progress).pages ⊎ IsIn j (taken_at moving progress)
  pub taken : (j : ℕ) → IsIn j (taken_at moving progress) → IsIn j (left_with moving pages next).pages

-- ---- which stage is next

pub same_next : (moving : Moving) (one other : Progress) → ◌≡◌ {A = Next Stage} (More (Stepping moving one)) (More (Stepping moving other)) → one ≡ other
same_next moving one other e = cc

pub no_next : (moving : Moving) (other : Progress) → ◌≡◌ {A = Next Stage} (Ended Done) (More (Stepping moving other)) → ⊥
no_next moving other e = cc

-- behind the clearing of the source comes one of two stages, where one comes
left_next : (moving : Moving) (some goes : Bool) (next : Progress) → ◌≡◌ {A = Next Stage} (if some then More (Stepping moving Cleared) else if goes then More (Stepping moving Disowned) else Ended Done) (More (Stepping moving next))
    → (Cleared ≡ next) ⊎ (Disowned ≡ next)
left_next moving true goes next e = inl (same_next moving Cleared next e)
left_next moving false true next e = inr (same_next moving Disowned next e)
left_next moving false false next e = absurd (no_next moving next e)

-- ---- the steps

module _ {P : ℕ} {W : List ℕ} {state : State} (from to : Route) {moving : Moving} (at : IsMovingAt P W state from to moving) where
  -- the words with the pointer, which the steps to them made
  pub record HasPointed (more : List Step) (X : List ℕ) : Type 0 where
    pub opened : List ℕ
    pub pointed : List ℕ
    pub opens : IsTargetOpened P W opened moving.to_directory moving.to_slot (target_of moving)
    pub points : PointsAt P opened pointed moving.from_slot moving.to_slot (target_of moving) (rising_of moving)
    pub rest : Through more pointed X

  pub has_pointed : (more : List Step) (X : List ℕ) → Through (opening P moving moving.new_page ++ pointing P moving ∷ more) W X → HasPointed more X
  has_pointed more X all =
      let (B, opens, (I, points, rest)) = parts (opening P moving moving.new_page) (pointing P moving ∷ more) W X all in
      record { opened = B; pointed = I; opens = begun.opened_by from to at B opens; points = points; rest = rest }

  pub ready_at : {more : List Step} {X : List ℕ} (has : HasPointed more X)
      → IsMoveReady P W has.pointed (Moves.from_way from to at) (Moves.to_way from to at) moving.from_slot moving.to_directory moving.to_slot (target_of moving) (rising_of moving)
  ready_at has = begun.ready from to at has.opened has.opens has.pointed has.points

  -- the words of the commit are those of the laws
  pub moved_is : {more : List Step} {X : List ℕ} (has : HasPointed more X) (C : List ℕ) → C ≡ numbered P has.pointed moving.to_slot moving.inode → C ≡ moved P has.pointed moving.from_slot moving.to_slot
  moved_is has C commits = commits ∙ begun.committed_is from to at has.opened has.opens has.pointed has.points

  pub left_is : {more : List Step} {X : List ℕ} (has : HasPointed more X) (C D : List ℕ) → C ≡ numbered P has.pointed moving.to_slot moving.inode → D ≡ dropped P C moving.from_slot
      → D ≡ left P has.pointed moving.from_slot moving.to_slot
  left_is has C D commits leaves = leaves ∙ ap (λ (l : List ℕ). dropped P l moving.from_slot) (moved_is has C commits)

module _ {P : ℕ} {W : List ℕ} {state : State} (from to : Route) {moving : Moving} (at : IsMovingAt P W state from to moving) (pages : List ℕ) (are : AreGonePages P W moving.replaced pages) where
  module _ (X Y : List ℕ) where
    -- ---- before the commit

    filled_from : (page : ℕ) → moving.new_page ≡ Some page → X ≡ W → MakesNamedPage P X Y page (first_slot page) (words_of_name moving.to_name) → IsQuietMove P X Y moving pages Begun Filled
    filled_from page some same fills = record {
      step = subst (λ (l : List ℕ). IsQuietStep P l Y no_residue (paged_left moving)) (sym same)
          (before.filling from to at page some Y (subst (λ (l : List ℕ). MakesNamedPage P l Y page (first_slot page) (words_of_name moving.to_name)) same fills));
      left = λ j among. inr among;
      taken = λ j among. among;
    }

    pointed_first : moving.new_page ≡ None → X ≡ W → PointsAt P X Y moving.from_slot moving.to_slot (target_of moving) (rising_of moving) → IsQuietMove P X Y moving pages Begun Pointed
    pointed_first none same points =
        let opens = begun.opened_by from to at W (subst (λ (o : Option ℕ). Through (opening P moving o) W W) (sym none) refl) in
        record {
          step = subst (λ (l : List ℕ). IsQuietStep P l Y no_residue (pointed_left moving.to_slot (target_of moving) (rising_of moving))) (sym same)
              (before.pointing from to at W opens Y (subst (λ (l : List ℕ). PointsAt P l Y moving.from_slot moving.to_slot (target_of moving) (rising_of moving)) same points) no_residue
              (before.since_begun from to at) (sym (ap pages_of_option none)));
          left = λ j among. inr (subst (λ (l : List ℕ). IsIn j l) (before.pages_same from to at) among);
          taken = λ j among. subst (λ (l : List ℕ). IsIn j l) (sym (before.pages_same from to at)) among;
        }

    first_by : (new : Option ℕ) → moving.new_page ≡ new → X ≡ W → (first_step P moving new).Makes X Y → (next : Progress) → next_first moving new ≡ More (Stepping moving next) → IsQuietMove P X Y moving pages Begun next
    first_by None none same makes next e = subst (λ (n : Progress). IsQuietMove P X Y moving pages Begun n) (same_next moving Pointed next e) (pointed_first none same makes)
    first_by (Some page) some same makes next e = subst (λ (n : Progress). IsQuietMove P X Y moving pages Begun n) (same_next moving Filled next e) (filled_from page some same makes)

    owned_by : (new : Option ℕ) (page : ℕ) → moving.new_page ≡ new → new ≡ Some page → Through (filling_steps P moving new) W X → (claiming_step P moving new).Makes X Y → IsQuietMove P X Y moving pages Filled Opened
    owned_by None page is some all makes = absurd (cc)
    owned_by (Some new) page is some (A, fills, same) makes = record {
      step = subst (λ (l : List ℕ). IsQuietStep P X l (paged_left moving) (paged_left moving)) (sym makes)
          (subst (λ (l : List ℕ). IsQuietStep P l (owned P l new moving.to_directory) (paged_left moving) (paged_left moving)) (sym same) (before.owning from to at new is A fills));
      left = λ j among. inl among;
      taken = λ j none. absurd none;
    }

    opened_by : (new : Option ℕ) (page : ℕ) → moving.new_page ≡ new → new ≡ Some page → Through (opening P moving new) W X → PointsAt P X Y moving.from_slot moving.to_slot (target_of moving) (rising_of moving)
        → IsQuietMove P X Y moving pages Opened Pointed
    opened_by None page is some all points = absurd (cc)
    opened_by (Some new) page is some all points =
        let (A, fills, (B, owns, same)) = all in
        let opens = begun.opened_by from to at X (subst (λ (o : Option ℕ). Through (opening P moving o) W X) (sym is) all) in
        let since = subst (λ (l : List ℕ). IsQuietSince P W l (paged_left moving)) (sym (same ∙ owns)) (before.since_owned from to at new is A fills) in
        record {
          step = before.pointing from to at X opens Y points (paged_left moving) since refl;
          left = λ j among. inl (subst (λ (l : List ℕ). IsIn j l) (before.pages_same from to at) among);
          taken = λ j none. absurd none;
        }

    -- ---- behind it

    left_by_step : HasPointed from to at (naming P moving.to_slot moving.inode ∷ []) X → Y ≡ dropped P X moving.from_slot → IsQuietMove P X Y moving pages Moved Left
    left_by_step has leaves =
        let (C, commits, same) = has.rest in
        let here = same ∙ moved_is from to at has C commits in
        let there = leaves ∙ ap (λ (l : List ℕ). dropped P l moving.from_slot) here in
        record {
          step = subst (λ (l : List ℕ). IsQuietStep P l Y (left_with moving pages Moved) (left_with moving pages Left)) (sym here)
              (subst (λ (l : List ℕ). IsQuietStep P (moved P has.pointed moving.from_slot moving.to_slot) l (left_with moving pages Moved) (left_with moving pages Left)) (sym there)
              (behind.leaving from to at pages are has.pointed (ready_at from to at has)));
          left = λ j among. inl among;
          taken = λ j none. absurd none;
        }

    cleared_step : HasPointed from to at (naming P moving.to_slot moving.inode ∷ unnaming P moving.from_slot ∷ []) X → ClearsSource P X Y moving.from_slot moving.to_slot (falling_of moving)
        → IsQuietStep P X Y (left_with moving pages Left) (left_with moving pages Cleared)
    cleared_step has clears =
        let (C, commits, (D, leaves, same)) = has.rest in
        let here = same ∙ left_is from to at has C D commits leaves in
        subst (λ (l : List ℕ). IsQuietStep P l Y (left_with moving pages Left) (left_with moving pages Cleared)) (sym here)
        (behind.clearing from to at pages are has.pointed (ready_at from to at has) Y (subst (λ (l : List ℕ). ClearsSource P l Y moving.from_slot moving.to_slot (falling_of moving)) here clears))

    cleared_by : HasPointed from to at (naming P moving.to_slot moving.inode ∷ unnaming P moving.from_slot ∷ []) X → ClearsSource P X Y moving.from_slot moving.to_slot (falling_of moving)
        → (next : Progress) → (Cleared ≡ next) ⊎ (Disowned ≡ next) → IsQuietMove P X Y moving pages Left next
    cleared_by has clears next which = elim which [
      | inl is ↦ subst (λ (n : Progress). IsQuietMove P X Y moving pages Left n) is (record { step = cleared_step has clears; left = λ j among. inl among; taken = λ j none. absurd none })
      | inr is ↦ subst (λ (n : Progress). IsQuietMove P X Y moving pages Left n) is (record { step = cleared_step has clears; left = λ j among. inl among; taken = λ j none. absurd none })
    ]

    given_by_step : HasPointed from to at (naming P moving.to_slot moving.inode ∷ unnaming P moving.from_slot ∷ clearing_source P moving ∷ []) X → GivesPages P X Y (IsCut pages moving.given_back)
        → IsQuietMove P X Y moving pages Cleared Disowned
    given_by_step has gives =
        let (C, commits, (D, leaves, (J, clears, same))) = has.rest in
        let here = left_is from to at has C D commits leaves in
        record {
          step = subst (λ (l : List ℕ). IsQuietStep P l Y (left_with moving pages Cleared) (left_with moving pages Disowned)) (sym same)
              (behind.giving from to at pages are has.pointed (ready_at from to at has) J (subst (λ (l : List ℕ). ClearsSource P l J moving.from_slot moving.to_slot (falling_of moving)) here clears) Y
              (subst (λ (l : List ℕ). GivesPages P l Y (IsCut pages moving.given_back)) same gives));
          left = λ j among. inl among;
          taken = λ j none. absurd none;
        }

    -- ---- all of them

    pub quiet_move : (progress : Progress) → (progress ≡ Pointed → ⊥) → HasStore moving progress → Through (made_at P moving pages progress) W X → (step_at P moving pages progress).Makes X Y
        → (next : Progress) → next_moving moving progress ≡ More (Stepping moving next) → IsQuietMove P X Y moving pages progress next
    quiet_move Begun other has all makes next e = first_by moving.new_page refl all makes next e
    quiet_move Filled other (page, is) all makes next e =
        subst (λ (n : Progress). IsQuietMove P X Y moving pages Filled n) (same_next moving Opened next e) (owned_by moving.new_page page refl is all makes)
    quiet_move Opened other (page, is) all makes next e =
        subst (λ (n : Progress). IsQuietMove P X Y moving pages Opened n) (same_next moving Pointed next e) (opened_by moving.new_page page refl is all makes)
    quiet_move Pointed other has all makes next e = absurd (other refl)
    quiet_move Moved other has all makes next e =
        subst (λ (n : Progress). IsQuietMove P X Y moving pages Moved n) (same_next moving Left next e) (left_by_step (has_pointed from to at (naming P moving.to_slot moving.inode ∷ []) X all) makes)
    quiet_move Left other has all makes next e =
        cleared_by (has_pointed from to at (naming P moving.to_slot moving.inode ∷ unnaming P moving.from_slot ∷ []) X all) makes next (left_next moving (nat_lt 0 (pages_replaced moving)) (goes_of moving.replaced) next e)
    quiet_move Cleared other has all makes next e =
        subst (λ (n : Progress). IsQuietMove P X Y moving pages Cleared n) (same_next moving Disowned next e)
        (given_by_step (has_pointed from to at (naming P moving.to_slot moving.inode ∷ unnaming P moving.from_slot ∷ clearing_source P moving ∷ []) X all) makes)
    quiet_move Disowned other has all makes next e = absurd (no_next moving next e)
