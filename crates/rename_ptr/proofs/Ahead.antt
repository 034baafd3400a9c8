-- From one stage of a move to the next that has a store: the steps that are left, what stands then, and what the volume is by now.
use Rattle.std.proofs.Common.{◌≡◌, inl, inr, ℕ, ◌+◌, ◌<◌, Bool, true, false, ◌||◌, nat_lt, if◌then◌else◌, is_some, List, [], ◌∷◌, ◌++◌, length, Option, None, Some, refl, sym, ap, subst, ◌∙◌, arith}
use Rattle.std.proofs.lemmas.Bool.{ltb-true, ltb-false, false≢true}
use Rattle.pm_trait.specs.DeviceView.{DeviceView}
use Rattle.pm_trait.specs.Unfolds.{Step, Through, events_in, fences_in}
use Rattle.pm_trait.proofs.Onward.{IsOnward, skips}
use Rattle.image_laws.specs.Drop.{GivesPages, ClearsRest}
use Rattle.tree_model.specs.declared.reply.Reply.TheVariants.{Done}
use Rattle.volume.specs.Volume.{VolumeView}
use Rattle.volume.specs.Costs.{count_of, goes_of, pages_of_loss, pages_replaced, fences_for_page, fences_for_loss, page_events, fence_events}
use Rattle.volume.specs.Entered.{pages_of_option, TakesPages}
use Rattle.volume.specs.declared.next.Next.{Next}
use Rattle.volume.specs.declared.next.Next.TheVariants.{More, Ended}
use Rattle.volume.specs.declared.plan.Moving.{Moving}
use Rattle.volume.proofs.Moments.{with_kept}
use Rattle.entry_steps.specs.Steps.{claim_steps, naming, owning}
use Rattle.entry_steps.proofs.Lists.{not_none}
use Rattle.entry_steps.proofs.Waiting.{page_taken}
use Rattle.removal_steps.specs.Steps.{gone_pages, IsCut, count_cut, number_of, unnaming, giving}
use Rattle.rename_ptr.specs.Steps.{opening, pointing, clearing_source, moving_steps}
use Rattle.volume.specs.Entered.{IsTaken}
use Rattle.volume.proofs.MayStill.{same_index, still_taken}
use Rattle.entry_steps.specs.Waiting.{HasTakenPage}
use Rattle.rename_ptr.specs.Stages.{HasStore, HasNames, HasLosses, KnowsMove, EntersMoving, freeing_of, left_at, first_step, claiming_step, step_at, filling_steps, made_at, next_moving, next_first}
use Rattle.rename_ptr.specs.Counts.{losing_fences, fences_at, pointing_cost, events_at}
use Rattle.rename_ptr.specs.declared.rename.Progress.{Progress}
use Rattle.rename_ptr.specs.declared.rename.Progress.TheVariants.{Begun, Filled, Opened, Pointed, Moved, Left, Cleared, Disowned}
use Rattle.rename_ptr.specs.declared.rename.Stage.{Stage}
use Rattle.rename_ptr.specs.declared.rename.Stage.TheVariants.{Moving as Moves}
use Rattle.rename_ptr.proofs.Come.{HasComeTo, HasGivenBack, page_first, page_still, name_moved, name_still, given_back, nothing_back}
use Rattle.rename_ptr.proofs.Known.{gone_alike, gone_moved, names_alike, losses_alike, losses_moved}
use Rattle.rename_ptr.proofs.Standing.{further}

-- ---- the steps that are left

none_is_some : (o : Option ℕ) (x : ℕ) → o ≡ None → o ≡ Some x → ⊥
none_is_some o x none some = not_none x (sym none ∙ some)

some_pages : (n : ℕ) → 0 < n → nat_lt 0 n ≡ true
some_pages n some = elim (nat_lt 0 n) as (λ t. nat_lt 0 n ≡ t → t ≡ true) [ true ↦ λ is. refl | false ↦ λ is. (let most = ltb-false 0 n is in absurd (omega (arith, most, some))) ] refl

zero_and : (n : ℕ) → 0 + n ≡ n
zero_and n = omega arith

or_true : (b : Bool) → b || true ≡ true
or_true true = refl
or_true false = refl

-- how many stages may follow
abbrev pub rank : Progress → ℕ
rank Begun = 8
rank Filled = 7
rank Opened = 6
rank Pointed = 5
rank Moved = 4
rank Left = 3
rank Cleared = 2
rank Disowned = 1

-- a step behind these
behind : (steps : List Step) (step : Step) (first words last : List ℕ) → Through steps first words → step.Makes words last → Through (steps ++ step ∷ []) first last
behind [] step first words last same makes = (last, subst (λ (l : List ℕ). step.Makes l last) same makes, refl)
behind (one ∷ steps) step first words last (next, made, rest) makes = (next, made, behind steps step next words last rest makes)

module _ (P : ℕ) (moving : Moving) (pages : List ℕ) where
  abbrev later_first : Option ℕ → List Step
  later_first None = left_at P moving pages Pointed
  later_first (Some page) = owning P page moving.to_directory ∷ moving_steps P moving pages

  -- those behind the next one
  abbrev pub later : Progress → List Step
  later Begun = later_first moving.new_page
  later Filled = moving_steps P moving pages
  later Opened = left_at P moving pages Pointed
  later Pointed = left_at P moving pages Moved
  later Moved = left_at P moving pages Left
  later Left = left_at P moving pages Cleared
  later Cleared = left_at P moving pages Disowned
  later Disowned = []

  first_is : (page : Option ℕ) → opening P moving page ++ moving_steps P moving pages ≡ first_step P moving page ∷ later_first page
  first_is None = refl
  first_is (Some page) = refl

  claim_is : (new : Option ℕ) (page : ℕ) → new ≡ Some page → claim_steps P moving.to_directory new ++ moving_steps P moving pages ≡ claiming_step P moving new ∷ moving_steps P moving pages
  claim_is None page is = absurd (none_is_some None page refl is)
  claim_is (Some new) page is = refl

  pub left_is : (progress : Progress) → HasStore moving progress → left_at P moving pages progress ≡ step_at P moving pages progress ∷ later progress
  left_is Begun has = first_is moving.new_page
  left_is Filled (page, is) = claim_is moving.new_page page is
  left_is Opened has = refl
  left_is Pointed has = refl
  left_is Moved has = refl
  left_is Left has = refl
  left_is Cleared has = refl
  left_is Disowned has = refl

  -- ---- each has a store

  first_stores : (page : Option ℕ) → (first_step P moving page).stores ≡ true
  first_stores None = refl
  first_stores (Some page) = refl

  claim_stores : (new : Option ℕ) (page : ℕ) → new ≡ Some page → (claiming_step P moving new).stores ≡ true
  claim_stores None page is = absurd (none_is_some None page refl is)
  claim_stores (Some new) page is = refl

  first_events : (page : Option ℕ) → moving.new_page ≡ page → (first_step P moving page).events ≡ events_at moving Begun
  first_events None is = ap (λ (o : Option ℕ). if is_some o then page_events + fence_events else pointing_cost moving) (sym is)
  first_events (Some page) is = ap (λ (o : Option ℕ). if is_some o then page_events + fence_events else pointing_cost moving) (sym is)

  claim_events : (new : Option ℕ) (page : ℕ) → new ≡ Some page → (claiming_step P moving new).events ≡ events_at moving Filled
  claim_events None page is = absurd (none_is_some None page refl is)
  claim_events (Some new) page is = refl

  module _ (count : length pages ≡ pages_of_loss moving.replaced) where
    cut_is : count_cut pages moving.given_back ≡ pages_replaced moving
    cut_is = ap (λ (n : ℕ). n + count_of moving.given_back) count

    last_stores : HasStore moving Disowned → nat_lt 0 (count_cut pages moving.given_back) || goes_of moving.replaced ≡ true
    last_stores (inl some) = ap (λ (t : Bool). t || goes_of moving.replaced) (some_pages (count_cut pages moving.given_back) (omega (arith, some, cut_is)))
    last_stores (inr goes) = ap (λ (t : Bool). nat_lt 0 (count_cut pages moving.given_back) || t) goes ∙ or_true (nat_lt 0 (count_cut pages moving.given_back))

    pub stores : (progress : Progress) → HasStore moving progress → (step_at P moving pages progress).stores ≡ true
    stores Begun has = first_stores moving.new_page
    stores Filled (page, is) = claim_stores moving.new_page page is
    stores Opened has = refl
    stores Pointed has = refl
    stores Moved has = refl
    stores Left has = refl
    stores Cleared some = some_pages (count_cut pages moving.given_back) (omega (arith, some, cut_is))
    stores Disowned has = last_stores has

    -- what it costs is told by the plan
    pub events_are : (progress : Progress) → HasStore moving progress → events_at moving progress ≡ (step_at P moving pages progress).events
    events_are Begun has = sym (first_events moving.new_page refl)
    events_are Filled (page, is) = sym (claim_events moving.new_page page is)
    events_are Opened has = refl
    events_are Pointed has = refl
    events_are Moved has = refl
    events_are Left has = refl
    events_are Cleared some = let cut = cut_is in omega (arith, cut)
    events_are Disowned has = let cut = cut_is in omega (arith, cut)

  -- ---- where nothing is given back

  module _ (count : length pages ≡ pages_of_loss moving.replaced) (none : pages_replaced moving ≡ 0) where
    none_cut : count_cut pages moving.given_back ≡ 0
    none_cut = cut_is count ∙ none

    no_store : (giving P pages moving.given_back).stores ≡ false
    no_store = ap (λ (n : ℕ). nat_lt 0 n) none_cut

    nothing_cut : (given : Option ℕ) → count_cut pages given ≡ 0 → (j : ℕ) → IsCut pages given j → ⊥
    nothing_cut given zero j (inl (k, inside, is)) = omega (arith, zero, inside)
    nothing_cut None zero j (inr is) = not_none j is
    nothing_cut (Some page) zero j (inr is) = omega (arith, zero)

    pub gives_none : (I : List ℕ) → GivesPages P I I (IsCut pages moving.given_back)
    gives_none I = record { size = refl; owners = λ j cut. absurd (nothing_cut moving.given_back none_cut j cut); others = λ a out. refl }

    none_left : goes_of moving.replaced ≡ false → nat_lt 0 (count_cut pages moving.given_back) || goes_of moving.replaced ≡ false
    none_left stays = ap (λ (t : Bool). t || goes_of moving.replaced) no_store ∙ stays

    clears_none : (I : List ℕ) → goes_of moving.replaced ≡ false → ClearsRest P I I (IsCut pages moving.given_back) (goes_of moving.replaced ≡ true) (number_of moving.replaced)
    clears_none I stays = record {
      size = refl;
      rests = λ j f cut from few. absurd (nothing_cut moving.given_back none_cut j cut);
      inode = λ gone f few. absurd (false≢true (sym stays ∙ gone));
      others = λ a out kept. refl;
    }

  -- ---- how many have a store

  module _ (count : length pages ≡ pages_of_loss moving.replaced) where
    sum_of_two : (a b : ℕ) → a + b ≡ a + (b + 0)
    sum_of_two a b = omega arith

    losing_is : losing_fences moving ≡ fences_in (left_at P moving pages Cleared)
    losing_is = ap (λ (n : ℕ). fences_for_loss n (goes_of moving.replaced)) (sym (cut_is count)) ∙ sum_of_two _ _

    both_stores : 0 < pages_replaced moving → fences_in (left_at P moving pages Cleared) ≡ 2
    both_stores some =
        let one = stores count Cleared some in
        let two = stores count Disowned (inl some) in
        ap (λ (t : Bool). (if t then 1 else 0) + ((if (freeing_of P moving pages).stores then 1 else 0) + 0)) one ∙ ap (λ (t : Bool). 1 + ((if t then 1 else 0) + 0)) two

    first_fences : (new : Option ℕ) → moving.new_page ≡ new → fences_at moving Begun ≡ fences_in (opening P moving new ++ moving_steps P moving pages)
    first_fences None is = ap (λ (o : Option ℕ). fences_for_page o + 4 + losing_fences moving) is ∙ (let last = losing_is in omega (arith, last))
    first_fences (Some page) is = ap (λ (o : Option ℕ). fences_for_page o + 4 + losing_fences moving) is ∙ (let last = losing_is in omega (arith, last))

    claim_fences : (new : Option ℕ) (page : ℕ) → new ≡ Some page → fences_at moving Filled ≡ fences_in (claim_steps P moving.to_directory new ++ moving_steps P moving pages)
    claim_fences None page is = absurd (none_is_some None page refl is)
    claim_fences (Some new) page is = let last = losing_is in omega (arith, last)

    pub fences_are : (progress : Progress) → HasStore moving progress → fences_at moving progress ≡ fences_in (left_at P moving pages progress)
    fences_are Begun has = first_fences moving.new_page refl
    fences_are Filled (page, is) = claim_fences moving.new_page page is
    fences_are Opened has = let last = losing_is in omega (arith, last)
    fences_are Pointed has = let last = losing_is in omega (arith, last)
    fences_are Moved has = let last = losing_is in omega (arith, last)
    fences_are Left has = let last = losing_is in omega (arith, last)
    fences_are Cleared some = sym (both_stores some)
    fences_are Disowned has = ap (λ (t : Bool). (if t then 1 else 0) + 0) (sym (stores count Disowned has))

  -- ---- the next stage

  -- The next step with a store is that of another stage, and whatever stood before this one stands behind it for that.
  pub record IsNextOf (progress next : Progress) : Type 1 where
    pub store : HasStore moving next
    pub fewer : rank next < rank progress
    pub events : events_in (later progress) ≡ events_in (left_at P moving pages next)
    pub onward : (words : ℕ) (steps : List Step) (old now : DeviceView) → IsOnward words steps old (later progress) now → IsOnward words steps old (left_at P moving pages next) now
    pub made : (W I J : List ℕ) → Through (made_at P moving pages progress) W I → (step_at P moving pages progress).Makes I J → Through (made_at P moving pages next) W J
    pub knows : (old new : VolumeView) → KnowsMove old moving progress → EntersMoving moving progress old new → KnowsMove new moving next
    pub gone : (old new : VolumeView) → EntersMoving moving progress old new → gone_pages new moving.replaced ≡ gone_pages old moving.replaced
    pub come : (old now new : VolumeView) (k : ℕ) → HasComeTo old now moving progress → EntersMoving moving progress (with_kept k now) new → HasComeTo old new moving next

  -- there is none
  pub record IsLast (progress : Progress) : Type 1 where
    pub events : events_in (later progress) ≡ 0
    pub onward : (words : ℕ) (steps : List Step) (old now : DeviceView) → IsOnward words steps old (later progress) now → IsOnward words steps old [] now
    pub come : (old now new : VolumeView) (k : ℕ) → HasComeTo old now moving progress → EntersMoving moving progress (with_kept k now) new → HasGivenBack old new moving

  -- the new page is filled
  later_some : (new : Option ℕ) (page : ℕ) → new ≡ Some page → later_first new ≡ claim_steps P moving.to_directory new ++ moving_steps P moving pages
  later_some None page is = absurd (none_is_some None page refl is)
  later_some (Some new) page is = refl

  later_none : (new : Option ℕ) → new ≡ None → later_first new ≡ left_at P moving pages Pointed
  later_none None is = refl
  later_none (Some page) is = absurd (none_is_some (Some page) page is refl)

  filled_by : (new : Option ℕ) (page : ℕ) → new ≡ Some page → (W I J : List ℕ) → I ≡ W → (first_step P moving new).Makes I J → Through (filling_steps P moving new) W J
  filled_by None page is W I J same makes = absurd (none_is_some None page refl is)
  filled_by (Some new) page is W I J same makes = further [] [] (first_step P moving (Some new)) W I J same makes

  -- or there is none
  pointed_by : (new : Option ℕ) → new ≡ None → (W I J : List ℕ) → I ≡ W → (first_step P moving new).Makes I J → Through (opening P moving new ++ pointing P moving ∷ []) W J
  pointed_by None is W I J same makes = further [] [] (pointing P moving) W I J same makes
  pointed_by (Some page) is W I J same makes = absurd (none_is_some (Some page) page is refl)

  owned_by : (new : Option ℕ) (page : ℕ) → new ≡ Some page → (W I J : List ℕ) → Through (filling_steps P moving new) W I → (claiming_step P moving new).Makes I J → Through (opening P moving new) W J
  owned_by None page is W I J through makes = absurd (none_is_some None page refl is)
  owned_by (Some new) page is W I J through makes = further [] (first_step P moving (Some new) ∷ []) (owning P new moving.to_directory) W I J through makes

  -- ---- what is known then

  module _ (old new : VolumeView) where
    first_known : KnowsMove old moving Begun → TakesPages old new (pages_of_option moving.new_page) → HasTakenPage new moving.new_page × HasNames new moving × HasLosses new moving
    first_known knows takes = (
      page_taken old new moving.new_page knows.numbers (ap (λ (v : VolumeView). v.data_pages) takes),
      names_alike old new (same_index old new (pages_of_option moving.new_page) takes) moving knows.names,
      losses_alike old new (same_index old new (pages_of_option moving.new_page) takes) (still_taken old new (pages_of_option moving.new_page) takes)
          (λ k taken. subst (λ (v : VolumeView). IsTaken v.inodes k) (sym takes) taken) moving knows.losses,
    )

    before_known : (same : new ≡ old) → HasTakenPage old moving.new_page × HasNames old moving × HasLosses old moving → HasTakenPage new moving.new_page × HasNames new moving × HasLosses new moving
    before_known same knows = subst (λ (v : VolumeView). HasTakenPage v moving.new_page × HasNames v moving × HasLosses v moving) (sym same) knows

    losses_known : new ≡ old → HasLosses old moving → HasLosses new moving
    losses_known same has = subst (λ (v : VolumeView). HasLosses v moving) (sym same) has

  page_next : (page : ℕ) → moving.new_page ≡ Some page → IsNextOf Begun Filled
  page_next page is = record {
    store = (page, is);
    fewer = omega arith;
    events = ap events_in (later_some moving.new_page page is);
    onward = λ words steps old now onward. subst (λ (l : List Step). IsOnward words steps old l now) (later_some moving.new_page page is) onward;
    made = λ W I J through makes. filled_by moving.new_page page is W I J through makes;
    knows = λ old new knows takes. let (numbers, names, losses) = first_known old new knows takes in record { numbers = numbers; names = names; losses = losses };
    gone = λ old new takes. gone_alike old new (same_index old new (pages_of_option moving.new_page) takes) moving.replaced;
    come = λ old now new k come takes. page_first old now new moving k come takes;
  }

  point_next : moving.new_page ≡ None → IsNextOf Begun Pointed
  point_next none = record {
    store = tt;
    fewer = omega arith;
    events = ap events_in (later_none moving.new_page none);
    onward = λ words steps old now onward. subst (λ (l : List Step). IsOnward words steps old l now) (later_none moving.new_page none) onward;
    made = λ W I J through makes. pointed_by moving.new_page none W I J through makes;
    knows = λ old new knows takes. let (numbers, names, losses) = first_known old new knows takes in record { numbers = numbers; names = names; losses = losses };
    gone = λ old new takes. gone_alike old new (same_index old new (pages_of_option moving.new_page) takes) moving.replaced;
    come = λ old now new k come takes. page_first old now new moving k come takes;
  }

  own_next : (page : ℕ) → moving.new_page ≡ Some page → IsNextOf Filled Opened
  own_next page is = record {
    store = (page, is);
    fewer = omega arith;
    events = refl;
    onward = λ words steps old now onward. onward;
    made = λ W I J through makes. owned_by moving.new_page page is W I J through makes;
    knows = λ old new knows same. let (numbers, names, losses) = before_known old new same (knows.numbers, knows.names, knows.losses) in record { numbers = numbers; names = names; losses = losses };
    gone = λ old new same. ap (λ (v : VolumeView). gone_pages v moving.replaced) same;
    come = λ old now new k come same. page_still old now new moving k come same;
  }

  opened_next : IsNextOf Opened Pointed
  opened_next = record {
    store = tt;
    fewer = omega arith;
    events = refl;
    onward = λ words steps old now onward. onward;
    made = λ W I J through makes. behind (opening P moving moving.new_page) (pointing P moving) W I J through makes;
    knows = λ old new knows same. let (numbers, names, losses) = before_known old new same (knows.numbers, knows.names, knows.losses) in record { numbers = numbers; names = names; losses = losses };
    gone = λ old new same. ap (λ (v : VolumeView). gone_pages v moving.replaced) same;
    come = λ old now new k come same. page_still old now new moving k come same;
  }

  moved_next : IsNextOf Pointed Moved
  moved_next = record {
    store = tt;
    fewer = omega arith;
    events = refl;
    onward = λ words steps old now onward. onward;
    made = λ W I J through makes. further (opening P moving moving.new_page) (pointing P moving ∷ []) (naming P moving.to_slot moving.inode) W I J through makes;
    knows = λ old new knows moves. record { numbers = tt; names = tt; losses = losses_moved old new moving moves knows.losses };
    gone = λ old new moves. gone_moved old new moving moves;
    come = λ old now new k come moves. name_moved old now new moving k come moves;
  }

  left_next : IsNextOf Moved Left
  left_next = record {
    store = tt;
    fewer = omega arith;
    events = refl;
    onward = λ words steps old now onward. onward;
    made = λ W I J through makes. further (opening P moving moving.new_page) (pointing P moving ∷ naming P moving.to_slot moving.inode ∷ []) (unnaming P moving.from_slot) W I J through makes;
    knows = λ old new knows same. record { numbers = tt; names = tt; losses = losses_known old new same knows.losses };
    gone = λ old new same. ap (λ (v : VolumeView). gone_pages v moving.replaced) same;
    come = λ old now new k come same. name_still old now new moving k come same;
  }

  abbrev before_clearing : List Step
  before_clearing = pointing P moving ∷ naming P moving.to_slot moving.inode ∷ unnaming P moving.from_slot ∷ []

  cleared_next : 0 < pages_replaced moving → IsNextOf Left Cleared
  cleared_next some = record {
    store = some;
    fewer = omega arith;
    events = refl;
    onward = λ words steps old now onward. onward;
    made = λ W I J through makes. further (opening P moving moving.new_page) before_clearing (clearing_source P moving) W I J through makes;
    knows = λ old new knows same. record { numbers = tt; names = tt; losses = losses_known old new same knows.losses };
    gone = λ old new same. ap (λ (v : VolumeView). gone_pages v moving.replaced) same;
    come = λ old now new k come same. name_still old now new moving k come same;
  }

  disowned_next : 0 < pages_replaced moving → IsNextOf Cleared Disowned
  disowned_next some = record {
    store = inl some;
    fewer = omega arith;
    events = refl;
    onward = λ words steps old now onward. onward;
    made = λ W I J through makes. further (opening P moving moving.new_page) (before_clearing ++ clearing_source P moving ∷ []) (giving P pages moving.given_back) W I J through makes;
    knows = λ old new knows same. record { numbers = tt; names = tt; losses = losses_known old new same knows.losses };
    gone = λ old new same. ap (λ (v : VolumeView). gone_pages v moving.replaced) same;
    come = λ old now new k come same. name_still old now new moving k come same;
  }

  disowned_last : IsLast Disowned
  disowned_last = record { events = refl; onward = λ words steps old now onward. onward; come = λ old now new k come gives. given_back old now new moving k come gives }

  module _ (count : length pages ≡ pages_of_loss moving.replaced) (none : pages_replaced moving ≡ 0) where
    giving_falls : events_in (left_at P moving pages Cleared) ≡ events_in (left_at P moving pages Disowned)
    giving_falls = ap (λ (t : Bool). (if t then (giving P pages moving.given_back).events else 0) + events_in (left_at P moving pages Disowned)) (no_store count none) ∙ zero_and (events_in (left_at P moving pages Disowned))

    skips_giving : (words : ℕ) (steps : List Step) (old now : DeviceView) → IsOnward words steps old (left_at P moving pages Cleared) now → IsOnward words steps old (left_at P moving pages Disowned) now
    skips_giving words steps old now onward = skips words steps old (giving P pages moving.given_back) (left_at P moving pages Disowned) now (no_store count none) (gives_none count none now.words) onward

    -- an inode goes without a page
    inode_next : goes_of moving.replaced ≡ true → IsNextOf Left Disowned
    inode_next goes = record {
      store = inr goes;
      fewer = omega arith;
      events = giving_falls;
      onward = skips_giving;
      made = λ W I J through makes.
          let cleared = further (opening P moving moving.new_page) before_clearing (clearing_source P moving) W I J through makes in
          further (opening P moving moving.new_page) (before_clearing ++ clearing_source P moving ∷ []) (giving P pages moving.given_back) W J J cleared (gives_none count none J);
      knows = λ old new knows same. record { numbers = tt; names = tt; losses = losses_known old new same knows.losses };
      gone = λ old new same. ap (λ (v : VolumeView). gone_pages v moving.replaced) same;
      come = λ old now new k come same. name_still old now new moving k come same;
    }

    -- nothing goes
    left_last : goes_of moving.replaced ≡ false → IsLast Left
    left_last stays = record {
      events = giving_falls ∙ ap (λ (t : Bool). (if t then (freeing_of P moving pages).events else 0) + 0) (none_left count none stays);
      onward = λ words steps old now onward.
          skips words steps old (freeing_of P moving pages) [] now (none_left count none stays) (clears_none count none now.words stays) (skips_giving words steps old now onward);
      come = λ old now new k come same. nothing_back old now new moving k none stays come same;
    }

  -- ---- all of them

  module _ (Q : Next Stage → Type 0) where
    first_cases : (new : Option ℕ) → moving.new_page ≡ new → ((next : Progress) → IsNextOf Begun next → Q (More (Moves moving next))) → Q (next_first moving new)
    first_cases None none more = more Pointed (point_next none)
    first_cases (Some page) some more = more Filled (page_next page some)

    left_cases : length pages ≡ pages_of_loss moving.replaced → ((next : Progress) → IsNextOf Left next → Q (More (Moves moving next))) → (IsLast Left → Q (Ended Done)) → Q (next_moving moving Left)
    left_cases count more end =
        elim (nat_lt 0 (pages_replaced moving)) as (λ t. nat_lt 0 (pages_replaced moving) ≡ t
        → Q (if t then More (Moves moving Cleared) else if goes_of moving.replaced then More (Moves moving Disowned) else Ended Done)) [
          | true ↦ λ is. more Cleared (cleared_next (ltb-true 0 (pages_replaced moving) is))
          | false ↦ λ is.
              let none : pages_replaced moving ≡ 0 = (let most = ltb-false 0 (pages_replaced moving) is in omega (arith, most)) in
              elim (goes_of moving.replaced) as (λ t. goes_of moving.replaced ≡ t → Q (if t then More (Moves moving Disowned) else Ended Done)) [
                | true ↦ λ goes. more Disowned (inode_next count none goes)
                | false ↦ λ stays. end (left_last count none stays)
              ] refl
        ] refl

    pub next_cases : (progress : Progress) → HasStore moving progress → length pages ≡ pages_of_loss moving.replaced → ((next : Progress) → IsNextOf progress next → Q (More (Moves moving next))) → (IsLast progress → Q (Ended Done))
        → Q (next_moving moving progress)
    next_cases Begun has count more end = first_cases moving.new_page refl more
    next_cases Filled (page, is) count more end = more Opened (own_next page is)
    next_cases Opened has count more end = more Pointed opened_next
    next_cases Pointed has count more end = more Moved moved_next
    next_cases Moved has count more end = more Left left_next
    next_cases Left has count more end = left_cases count more end
    next_cases Cleared some count more end = more Disowned (disowned_next some)
    next_cases Disowned has count more end = end disowned_last
