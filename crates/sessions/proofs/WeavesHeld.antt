-- What calls hold that wait is as much as they have left, and few.
use Rattle.std.proofs.Common.{◌≡◌, inl, inr, ℕ, suc, ◌+◌, ◌≤◌, Bool, true, false, ◌++◌, [], ◌∷◌, length, length-append, Option, None, Some}
use Rattle.std.proofs.Common.{refl, sym, ap, subst, ◌∙◌, arith}
use Rattle.std.proofs.lemmas.Bool.{cases_eq}
use Rattle.pm_trait.specs.DeviceView.{DeviceView}
use Rattle.layout.specs.Geometry.{most_pages, most_data_pages}
use Rattle.layout.proofs.GeometryLaws.{data_pages_below, inodes_below}
use Rattle.tree_model.specs.PathText.{Route}
use Rattle.tree_model.specs.Run.{State}
use Rattle.image_reading.specs.Residue.{Residue, no_residue}
use Rattle.image_reading.specs.Soundness.{Rule}
use Rattle.image_laws.proofs.Counts.{at_most_below}
use Rattle.weave_laws.specs.Joined.{joined}
use Rattle.weave_laws.specs.Naming.{pages_left}
use Rattle.weave_laws.specs.Removing.{inodes_left}
use Rattle.volume.specs.Volume.{VolumeView}
use Rattle.volume.specs.Beside.{StandsBeside}
use Rattle.volume.specs.Costs.{count_of, where_true, goes_of, pages_replaced}
use Rattle.volume.specs.Entered.{pages_of_option}
use Rattle.volume.specs.declared.next.Held.{Held}
use Rattle.volume.specs.declared.plan.Moving.{Moving}
use Rattle.removal_steps.specs.Steps.{gone_pages, number_of}
use Rattle.rename_ptr.specs.Stages.{HasLosses, held_behind, held_moving}
use Rattle.rename_ptr.specs.declared.rename.Progress.{Progress}
use Rattle.rename_ptr.specs.declared.rename.Progress.TheVariants.{Begun, Filled, Opened, Pointed, Moved, Left, Cleared, Disowned}
use Rattle.rename_ptr.specs.declared.rename.Stage.TheVariants.{Moving as MovesName}
use Rattle.running_calls.specs.Stages.{held_of}
use Rattle.running_calls.specs.declared.running.Running.{Running}
use Rattle.running_calls.specs.declared.running.Running.TheVariants.{Moves}
use Rattle.waiting_laws.specs.Moving as moves
use Rattle.waiting_laws.specs.Moving.{WaitsToMove, given_by}
use Rattle.waiting_laws.proofs.MovingBefore.{pages_same}
use Rattle.waiting_laws.proofs.MovingSteps.{at_first}
use Rattle.running_laws.specs.Waits.{left_by}
use Rattle.running_laws.proofs.WaitLeft.{held_is_left_law}
use Rattle.session_laws.specs.Calls.{Call, Calls, call_at, without, left_of_all}
use Rattle.session_laws.specs.Moving.{MoveWaits}
use Rattle.session_laws.proofs.Lists.{call_kept, without_idle, left_moved}
use Rattle.sessions.specs.Interleave.{AllWait, idle, beside, alone, tasks_of}
use Rattle.sessions.specs.Laws.{OthersHoldLaw}
use Rattle.sessions.specs.Tasks.{add_held, held_by_all}
use Rattle.sessions.proofs.WeavesOn.{weaves_on_law}
use Rattle.sessions.proofs.WeavesOne.{Runs, runs_call, runs_none, session_runs}

-- as many inodes and pages as a residue has
abbrev held_in : Residue → Held
held_in residue = record { inodes = length residue.inodes; pages = length residue.pages }

same_held : (i j p q : ℕ) → i ≡ j → p ≡ q → ◌≡◌ {A = Held} (record { inodes = i; pages = p }) (record { inodes = j; pages = q })
same_held i j p q inodes pages = cc

-- ---- all calls, where each holds as much as it has left

abbrev HoldsLeft : VolumeView → Call → Type 0
HoldsLeft volume call = held_of call.running ≡ held_in (left_by volume call.running)

abbrev EachHoldsLeft : VolumeView → Calls → Type 0
EachHoldsLeft volume calls = (s : ℕ) (call : Call) → call_at calls s ≡ Some call → HoldsLeft volume call

held_together : (one other : Residue) → add_held (held_in one) (held_in other) ≡ held_in (joined one other)
held_together one other =
    same_held (length one.inodes + length other.inodes) (length (one.inodes ++ other.inodes)) (length one.pages + length other.pages) (length (one.pages ++ other.pages))
    (sym (length-append one.inodes other.inodes)) (sym (length-append one.pages other.pages))

all_hold_left : (volume : VolumeView) (calls : Calls) → EachHoldsLeft volume calls → held_by_all (tasks_of calls) ≡ held_in (left_of_all volume calls)
all_hold_left volume [] each = refl
all_hold_left volume (None ∷ calls) each = all_hold_left volume calls (λ s. each (suc s))
all_hold_left volume (Some call ∷ calls) each =
    ap (λ (held : Held). add_held held (held_by_all (tasks_of calls))) (each 0 call refl)
    ∙ ap (add_held (held_in (left_by volume call.running))) (all_hold_left volume calls (λ s. each (suc s)))
    ∙ held_together (left_by volume call.running) (left_of_all volume calls)

-- ---- a rename

one_page : (page : Option ℕ) → count_of page ≡ length (pages_of_option page)
one_page None = refl
one_page (Some page) = refl

page_given : (page : Option ℕ) → count_of page ≡ length (pages_left page)
page_given None = refl
page_given (Some page) = refl

one_inode : (goes : Bool) (i : ℕ) → where_true goes 1 ≡ length (inodes_left goes i)
one_inode true i = refl
one_inode false i = refl

-- behind its commit what it gives back
given_held : (volume : VolumeView) (moving : Moving) → HasLosses volume moving → held_behind moving ≡ held_in (given_by volume moving)
given_held volume moving losses =
    let all = length-append (gone_pages volume moving.replaced) (pages_left moving.given_back) in
    let page = page_given moving.given_back in
    let count = losses.count in
    let pages : pages_replaced moving ≡ length (gone_pages volume moving.replaced ++ pages_left moving.given_back) = omega (arith, all, page, count) in
    same_held _ _ _ _ (one_inode (goes_of moving.replaced) (number_of moving.replaced)) pages

module _ (volume : VolumeView) (device : DeviceView) (state : State) (from to : Route) (moving : Moving) where
  moving_held : (progress : Progress) → WaitsToMove volume device state from to moving progress → (progress ≡ Begun → ⊥)
      → held_moving moving progress ≡ held_in (moves.left_by volume moving progress)
  moving_held Begun waits gone_on = absurd (gone_on refl)
  moving_held Filled waits gone_on = same_held 0 0 _ _ refl (one_page moving.new_page)
  moving_held Opened waits gone_on = same_held 0 0 _ _ refl (one_page moving.new_page)
  moving_held Pointed waits gone_on =
      let same = pages_same from to (at_first volume device state from to moving Pointed waits) in
      same_held 0 0 _ _ refl (one_page moving.new_page ∙ ap length (sym same))
  moving_held Moved waits gone_on = given_held volume moving waits.knows.losses
  moving_held Left waits gone_on = given_held volume moving waits.knows.losses
  moving_held Cleared waits gone_on = given_held volume moving waits.knows.losses
  moving_held Disowned waits gone_on = given_held volume moving waits.knows.losses

move_held : (volume : VolumeView) (device : DeviceView) (words : State) (calls : Calls) (s : ℕ) (call : Call) → MoveWaits volume device words calls s call
    → ((moving : Moving) → call.running ≡ Moves (MovesName moving Begun) → ⊥) → HoldsLeft volume call
move_held volume device words calls s call waits gone_on =
    subst (λ (running : Running). held_of running ≡ held_in (left_by volume running)) (sym waits.running_is)
    (moving_held volume device words waits.from waits.to waits.moving waits.progress waits.waits
    (λ begun. gone_on waits.moving (waits.running_is ∙ ap (λ (progress : Progress). Moves (MovesName waits.moving progress)) begun)))

-- ---- each of them

each_holds_left : (volume : VolumeView) (device : DeviceView) (words : State) (calls : Calls) → AllWait volume device words calls → EachHoldsLeft volume calls
each_holds_left volume device words calls (idle nothing going none stands) s call runs = let is_none = nothing s in cc
each_holds_left volume device words calls (beside wait kept) s call runs =
    held_is_left_law volume device words call.command call.running (joined no_residue (left_of_all volume (without calls s))) (wait.each s call runs).waits
each_holds_left volume device words calls (alone r moved waits gone_on) s call runs = elim (cases_eq r s) [
  | inl same ↦
      let is : moved ≡ call = same_call (sym waits.runs ∙ ap (call_at calls) same ∙ runs) in
      subst (HoldsLeft volume) is (move_held volume device words calls r moved waits gone_on)
  | inr other ↦ absurd (let none = waits.alone s other in cc)
]
  where
    same_call : {one other : Call} → Some one ≡ Some other → one ≡ other
    same_call is = cc

-- ---- few

-- not more than the volume has
abbrev HasFew : Residue → Type 0
HasFew residue = (length residue.inodes ≤ most_pages) × (length residue.pages ≤ most_data_pages)

few_left : (volume : VolumeView) (device : DeviceView) (words : State) (residue : Residue) → StandsBeside volume device words residue → HasFew residue
few_left volume device words residue stands =
    let size = (stands.sound.coherent Rule.head 0).size refl in
    let pages_below = data_pages_below volume.size size in
    let most_inodes = inodes_below volume.size size in
    let inodes = at_most_below volume.size residue.inodes stands.beside.of_inodes.distinct
    (λ i left. let most = ((stands.beside.of_inodes.each i).0 left).most in omega (arith, most, most_inodes)) in
    let pages = at_most_below volume.size residue.pages stands.beside.of_pages.distinct
    (λ j left. let below = ((stands.beside.of_pages.each j).0 left).in_range in omega (arith, below, pages_below)) in
    (omega (arith, inodes, size), omega (arith, pages, size))

-- and without one call not more either
few_without : (volume : VolumeView) (calls : Calls) (s : ℕ) → HasFew (left_of_all volume calls) → HasFew (left_of_all volume (without calls s))
few_without volume calls s few = by_call (session_runs calls s)
  where
    by_call : Runs calls s → HasFew (left_of_all volume (without calls s))
    by_call (runs_none none) = subst (λ (calls : Calls). HasFew (left_of_all volume calls)) (sym (without_idle calls s none)) few
    by_call (runs_call call runs) =
        let own = left_by volume call.running in
        let rest = left_of_all volume (without calls s) in
        let moved = left_moved volume calls s call runs in
        let inodes = moved.inodes.long in
        let pages = moved.pages.long in
        let inodes_both = length-append own.inodes rest.inodes in
        let pages_both = length-append own.pages rest.pages in
        (omega (arith, few.0, inodes, inodes_both), omega (arith, few.1, pages, pages_both))

pub others_hold_law : OthersHoldLaw
others_hold_law weave device calls history session weaving =
    let each = each_holds_left weave.volume device weaving.words calls weaving.waits in
    let held = all_hold_left weave.volume (without calls session) (λ s call runs. each s call (call_kept calls session s call runs).1) in
    let on = weaves_on_law weave device calls history weaving in
    let few = few_without weave.volume calls session (few_left weave.volume device weaving.words (left_of_all weave.volume calls) on.stands) in
    let inodes = ap (λ (held : Held). held.inodes) held in
    let pages = ap (λ (held : Held). held.pages) held in
    record { inodes = inodes; pages = pages; few = record { inodes = omega (arith, inodes, few.0); pages = omega (arith, pages, few.1) } }
