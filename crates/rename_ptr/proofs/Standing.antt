-- What each step of a move asks for, by the steps that were made before it, and that with each of them the move stands a step further.
use Rattle.std.proofs.Common.{◌≡◌, ℕ, List, [], ◌∷◌, ◌++◌, Option, Some, None, refl, sym, subst}
use Rattle.pm_trait.specs.Unfolds.{Step, Through}
use Rattle.layout.specs.Name.{words_of_name, IsName, IsBytes}
use Rattle.layout.proofs.NameLaws.{IsNameWords-words_of_name}
use Rattle.dentry_state.specs.States.{IsNamed}
use Rattle.dentry_state.specs.Dentry.{slot_fields_at}
use Rattle.image_laws.specs.Create.{MakesNamedPage}
use Rattle.volume.specs.declared.plan.Moving.{Moving}
use Rattle.entry_steps.specs.Steps.{MayTake, CanClaim, first_slot, naming}
use Rattle.entry_steps.proofs.Named.{first_is_named}
use Rattle.entry_steps.proofs.Opened.{can_claim}
use Rattle.removal_steps.specs.Steps.{CanDisown, CanClearRest, unnaming, giving}
use Rattle.rename_ptr.specs.Steps.{CanPointSlot, CanTakeOver, CanLeave, CanClearSource, opening, pointing, clearing_source}
use Rattle.rename_ptr.specs.Renaming.{IsMovable}
use Rattle.rename_ptr.specs.Stages.{IsAt, filling_steps}
use Rattle.rename_ptr.specs.declared.rename.Progress.{Progress}
use Rattle.rename_ptr.specs.declared.rename.Progress.TheVariants.{Begun, Filled, Opened, Pointed, Moved, Left, Cleared, Disowned}
use Rattle.rename_ptr.proofs.Begun as begun
use Rattle.rename_ptr.proofs.Given as given

-- ---- steps that were made

-- some of them, and then the others
pub parts : (steps more : List Step) (first last : List ℕ) → Through (steps ++ more) first last → (between : List ℕ) × Through steps first between × Through more between last
parts [] more first last all = (first, refl, all)
parts (step ∷ later) more first last (next, makes, rest) = let (between, these, others) = parts later more next last rest in (between, (next, makes, these), others)

-- and one more
pub further : (steps more : List Step) (step : Step) (first words last : List ℕ) → Through (steps ++ more) first words → step.Makes words last → Through (steps ++ (more ++ step ∷ [])) first last
further [] [] step first words last same makes = (last, subst (λ (l : List ℕ). step.Makes l last) same makes, refl)
further [] (one ∷ more) step first words last (next, made, rest) makes = (next, made, further [] more step next words last rest makes)
further (one ∷ steps) more step first words last (next, made, rest) makes = (next, made, further steps more step next words last rest makes)

-- ---- what the next one asks for

-- by the other name of the progress
pub at_as : (P : ℕ) (I : List ℕ) (moving : Moving) (pages : List ℕ) (progress other : Progress) → progress ≡ other → IsAt P I moving pages progress → IsAt P I moving pages other
at_as P I moving pages progress other is at = subst (λ (p : Progress). IsAt P I moving pages p) is at

module _ (P : ℕ) (I : List ℕ) (moving : Moving) (pages : List ℕ) (is_name : IsName moving.to_name) (of_bytes : IsBytes moving.to_name) where
  movable : {progress : Progress} (at : IsAt P I moving pages progress) → IsMovable P at.first moving
  movable at = let (state, from, to, is) = at.planned in (state, from, to, record { tidy = is.tidy; reads = is.reads; planned = is.planned; is_name = is_name; of_bytes = of_bytes })

  pub may_take : IsAt P I moving pages Begun → MayTake P I moving.new_page
  may_take at = let (state, from, to, is) = movable at in subst (λ (l : List ℕ). MayTake P l moving.new_page) (sym at.made) (begun.may_take from to is)

  pub can_point_first : IsAt P I moving pages Begun → moving.new_page ≡ None → CanPointSlot P I moving
  can_point_first at none =
      let (state, from, to, is) = movable at in
      begun.can_point from to is I (begun.opened_by from to is I (subst (λ (page : Option ℕ). Through (opening P moving page) at.first I) (sym none) at.made))

  pub can_own : IsAt P I moving pages Filled → (page : ℕ) → moving.new_page ≡ Some page → CanClaim P I page moving.to_directory × IsNamed (slot_fields_at P I (first_slot page))
  can_own at page some =
      let (state, from, to, is) = movable at in
      let (filled, makes, same) = subst (λ (new : Option ℕ). Through (filling_steps P moving new) at.first I) some at.made in
      let names : MakesNamedPage P at.first I page (first_slot page) (words_of_name moving.to_name) = subst (λ (l : List ℕ). MakesNamedPage P at.first l page (first_slot page) (words_of_name moving.to_name)) (sym same) makes in (
        can_claim P at.first I page moving.to_directory (begun.some_directory from to is) (subst (MayTake P at.first) some (begun.may_take from to is)) names.empty,
        first_is_named P at.first I page (words_of_name moving.to_name) (IsNameWords-words_of_name moving.to_name is_name of_bytes) names,
      )

  pub can_point : IsAt P I moving pages Opened → CanPointSlot P I moving
  can_point at = let (state, from, to, is) = movable at in begun.can_point from to is I (begun.opened_by from to is I at.made)

  pub can_take : IsAt P I moving pages Pointed → CanTakeOver P I moving
  can_take at =
      let (state, from, to, is) = movable at in
      let (B, opens, (A, points, same)) = parts (opening P moving moving.new_page) (pointing P moving ∷ []) at.first I at.made in
      subst (λ (l : List ℕ). CanTakeOver P l moving) (sym same) (begun.can_take from to is B (begun.opened_by from to is B opens) A points)

  pub can_leave : IsAt P I moving pages Moved → CanLeave P I moving
  can_leave at =
      let (state, from, to, is) = movable at in
      let (B, opens, (A, points, (C, commits, same))) = parts (opening P moving moving.new_page) (pointing P moving ∷ naming P moving.to_slot moving.inode ∷ []) at.first I at.made in
      subst (λ (l : List ℕ). CanLeave P l moving) (sym same) (begun.can_give from to is B (begun.opened_by from to is B opens) A points C commits)

  pub can_clear : IsAt P I moving pages Left → CanClearSource P I moving
  can_clear at =
      let (state, from, to, is) = movable at in
      let (B, opens, (A, points, (C, commits, (D, leaves, same)))) =
      parts (opening P moving moving.new_page) (pointing P moving ∷ naming P moving.to_slot moving.inode ∷ unnaming P moving.from_slot ∷ []) at.first I at.made in
      subst (λ (l : List ℕ). CanClearSource P l moving) (sym same) (begun.can_clear from to is B (begun.opened_by from to is B opens) A points C commits D leaves)

  pub can_disown : IsAt P I moving pages Cleared → CanDisown P I moving.replaced pages moving.given_back
  can_disown at =
      let (state, from, to, is) = movable at in
      let (B, opens, (A, points, (C, commits, (D, leaves, (J, clears, same))))) =
      parts (opening P moving moving.new_page) (pointing P moving ∷ naming P moving.to_slot moving.inode ∷ unnaming P moving.from_slot ∷ clearing_source P moving ∷ []) at.first I at.made in
      let opened = begun.opened_by from to is B opens in
      subst (λ (l : List ℕ). CanDisown P l moving.replaced pages moving.given_back) (sym same)
      (given.can_disown from to is A (begun.ready from to is B opened A points) J (begun.cleared_left from to is B opened A points C commits D leaves J clears) pages at.pages_are)

  pub can_free : IsAt P I moving pages Disowned → CanClearRest P I moving.replaced pages moving.given_back
  can_free at =
      let (state, from, to, is) = movable at in
      let (B, opens, (A, points, (C, commits, (D, leaves, (J, clears, (G, gives, same)))))) =
      parts (opening P moving moving.new_page)
      (pointing P moving ∷ naming P moving.to_slot moving.inode ∷ unnaming P moving.from_slot ∷ clearing_source P moving ∷ giving P pages moving.given_back ∷ []) at.first I at.made in
      let opened = begun.opened_by from to is B opens in
      subst (λ (l : List ℕ). CanClearRest P l moving.replaced pages moving.given_back) (sym same)
      (given.can_clear_rest from to is A (begun.ready from to is B opened A points) J (begun.cleared_left from to is B opened A points C commits D leaves J clears) pages at.pages_are G gives)
