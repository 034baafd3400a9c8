-- The first step of a plan with an event: it has a store, and whether it commits is told by how many fences the plan has. One that commits enters the history.
use Rattle.std.proofs.Common.{◌≡◌, ℕ, ◌+◌, ◌<◌, Bool, true, false, if◌then◌else◌, ◌||◌, ◌==◌, nat_le, nat_lt, List, [], ◌∷◌, ◌++◌, Option, None, Some, refl, sym, ap}
use Rattle.std.proofs.Common.{subst, ◌∙◌, arith}
use Rattle.std.proofs.lemmas.Bool.{eq-eqb, ne_eqb, le-leb, lt-leb}
use Rattle.volume.specs.Costs.{events_of, fences_of_plan, fences_for_growth, fences_for_loss}
use Rattle.volume.specs.Volume.{VolumeView}
use Rattle.volume.specs.declared.plan.Action.{Action}
use Rattle.volume.specs.declared.plan.Action.TheVariants.{Make, Name, Remove, Move, Write as WriteBytes, WriteNothing, Resize, KeepSize, KeepNames}
use Rattle.volume.specs.declared.plan.Action.TheVariants.{Read as ReadBytes, Status, Names, Space}
use Rattle.volume.specs.declared.plan.Moving.{Moving}
use Rattle.volume.specs.declared.plan.Resizing.{Resizing}
use Rattle.volume.specs.declared.plan.Writing.{Writing}
use Rattle.create_ops.specs.Making as making
use Rattle.unlink_ops.specs.Linking as linking
use Rattle.unlink_ops.specs.RemovalStages as removals
use Rattle.rename_ptr.specs.Stages as moves
use Rattle.rename_ptr.specs.Steps.{opening, moving_steps}
use Rattle.data_ops.specs.ResizeStages as resizes
use Rattle.data_ops.specs.WriteStages as writes
use Rattle.data_ops.specs.declared.grow.Progress.TheVariants.{Begun}
use Rattle.data_ops.specs.declared.truncate.CutProgress.TheVariants.{Begun as CutBegun}
use Rattle.data_ops.specs.declared.truncate.Stage.TheVariants.{Growing as GrowsBySize, Cutting}
use Rattle.data_ops.specs.declared.write.Stage.TheVariants.{Inside, Growing as GrowsByWrite}
use Rattle.running_calls.specs.declared.running.Running.{Running}
use Rattle.running_calls.specs.Stages.{begun, left_of, step_of}
use Rattle.running_laws.specs.Steps.{commits, commits_write, commits_resize}
use Rattle.session_laws.specs.Going.{behind_commit}
use Rattle.sessions.specs.Advanced.{enters_now}
use Rattle.sessions.proofs.GoesFirst.{IsFirst, is_first}

-- ---- it has a store

module _ (volume : VolumeView) (bytes : List ℕ) where
  abbrev FirstOf : Option Running → Type 0
  FirstOf None = Unit {0}
  FirstOf (Some running) = IsFirst (left_of volume bytes running) (step_of volume bytes running)

  move_first : (moving : Moving) (pages : List ℕ) (page : Option ℕ)
      → IsFirst (opening volume.size moving page ++ moving_steps volume.size moving pages) (moves.first_step volume.size moving page)
  move_first moving pages None = is_first (moves.first_step volume.size moving None) _ refl
  move_first moving pages (Some page) = is_first (moves.first_step volume.size moving (Some page)) _ refl

  write_first : (writing : Writing) (inside : Bool)
      → IsFirst (writes.left_of volume.size bytes (if inside then Inside writing else GrowsByWrite writing Begun))
      (writes.step_of volume.size bytes (if inside then Inside writing else GrowsByWrite writing Begun))
  write_first writing true = is_first (writes.step_of volume.size bytes (Inside writing)) [] refl
  write_first writing false = is_first (writes.step_of volume.size bytes (GrowsByWrite writing Begun)) _ refl

  resize_first : (resizing : Resizing) (grows : Bool)
      → IsFirst (resizes.left_of volume (if grows then GrowsBySize resizing Begun else Cutting resizing CutBegun))
      (resizes.step_of volume (if grows then GrowsBySize resizing Begun else Cutting resizing CutBegun))
  resize_first resizing true = is_first (resizes.step_of volume (GrowsBySize resizing Begun)) _ refl
  resize_first resizing false = is_first (resizes.step_of volume (Cutting resizing CutBegun)) _ refl

  first_of : (action : Action) → 0 < events_of action → FirstOf (begun action)
  first_of (Make entry) some = is_first (making.writing volume.size entry) _ refl
  first_of (Name link) some = is_first (linking.writing volume.size link) _ refl
  first_of (Remove removal) some = is_first (removals.step_of volume (removals.begun removal)) _ refl
  first_of (Move moving) some = move_first moving _ moving.new_page
  first_of (WriteBytes writing) some = write_first writing (nat_le (writing.offset + writing.count) writing.old_size)
  first_of WriteNothing some = absurd (omega (arith, some))
  first_of (Resize resizing) some = resize_first resizing (nat_lt resizing.old_size resizing.new_size)
  first_of KeepSize some = absurd (omega (arith, some))
  first_of KeepNames some = absurd (omega (arith, some))
  first_of (ReadBytes reading) some = tt
  first_of (Status inode) some = tt
  first_of (Names inode) some = tt
  first_of Space some = tt

  pub plan_first : (action : Action) (running : Running) → begun action ≡ Some running → 0 < events_of action
      → IsFirst (left_of volume bytes running) (step_of volume bytes running)
  plan_first action running begins some = subst FirstOf begins (first_of action some)

-- ---- whether it commits

-- It commits where behind it those fences are left that come behind the commit, and else more are.
pub data CommitsFirst (is_commit : Bool) (fences behind : ℕ) : Type 0 where
  at_once : is_commit ≡ true → fences ≡ behind + 1 → CommitsFirst is_commit fences behind
  later : is_commit ≡ false → behind + 1 < fences → CommitsFirst is_commit fences behind

abbrev CommitsOf : Option Running → ℕ → ℕ → Type 0
CommitsOf None fences behind = Unit {0}
CommitsOf (Some running) fences behind = CommitsFirst (commits running) fences behind

growth_fences : (pages : List ℕ) → 0 + 1 < fences_for_growth pages
growth_fences [] = omega arith
growth_fences (page ∷ pages) = omega arith

write_commits : (writing : Writing) (inside : Bool)
    → CommitsFirst (commits_write (if inside then Inside writing else GrowsByWrite writing Begun)) (if inside then 1 else fences_for_growth writing.new_pages) 0
write_commits writing true = at_once refl refl
write_commits writing false = later refl (growth_fences writing.new_pages)

resize_commits : (resizing : Resizing) (losing : ℕ) (grows : Bool)
    → CommitsFirst (commits_resize (if grows then GrowsBySize resizing Begun else Cutting resizing CutBegun)) (if grows then fences_for_growth resizing.new_pages else 1 + losing)
    (if grows then 0 else losing)
resize_commits resizing losing true = later refl (growth_fences resizing.new_pages)
resize_commits resizing losing false = at_once refl (omega arith)

commits_by : (action : Action) → 0 < events_of action → CommitsOf (begun action) (fences_of_plan action) (behind_commit action)
commits_by (Make entry) some = later refl (omega arith)
commits_by (Name link) some = later refl (omega arith)
commits_by (Remove removal) some = at_once refl (omega arith)
commits_by (Move moving) some = later refl (omega arith)
commits_by (WriteBytes writing) some = write_commits writing (nat_le (writing.offset + writing.count) writing.old_size)
commits_by WriteNothing some = absurd (omega (arith, some))
commits_by (Resize resizing) some = resize_commits resizing (fences_for_loss resizing.cut false) (nat_lt resizing.old_size resizing.new_size)
commits_by KeepSize some = absurd (omega (arith, some))
commits_by KeepNames some = absurd (omega (arith, some))
commits_by (ReadBytes reading) some = tt
commits_by (Status inode) some = tt
commits_by (Names inode) some = tt
commits_by Space some = tt

pub plan_commits : (action : Action) (running : Running) → begun action ≡ Some running → 0 < events_of action
    → CommitsFirst (commits running) (fences_of_plan action) (behind_commit action)
plan_commits action running begins some = subst (λ (o : Option Running). CommitsOf o (fences_of_plan action) (behind_commit action)) begins (commits_by action some)

-- ---- whether its entry comes

either_true : (a b : Bool) → b ≡ true → a || b ≡ true
either_true true b is = refl
either_true false b is = is

neither : (a b : Bool) → a ≡ false → b ≡ false → a || b ≡ false
neither true b first second = first
neither false b first second = second

-- it comes in a step that commits,
pub enters_with_commit : (is_commit : Bool) (fences behind : ℕ) → CommitsFirst is_commit fences behind → enters_now fences behind ≡ is_commit
enters_with_commit is_commit fences behind (at_once commit all) =
    either_true (fences == 0) (fences == behind + 1) (eq-eqb fences (behind + 1) all) ∙ sym commit
enters_with_commit is_commit fences behind (later quiet more) =
    neither (fences == 0) (fences == behind + 1) (ne_eqb fences 0 (λ same. omega (arith, same, more))) (ne_eqb fences (behind + 1) (λ same. omega (arith, same, more))) ∙ sym quiet

-- and where there is none
pub enters_without_fence : (fences behind : ℕ) → fences ≡ 0 → enters_now fences behind ≡ true
enters_without_fence fences behind none = ap (λ (n : ℕ). n == 0 || fences == behind + 1) none

-- behind it so many fences are left as are told of a call that has committed
pub committed_behind : (is_commit : Bool) (fences behind left : ℕ) → CommitsFirst is_commit fences behind → fences ≡ 1 + left → nat_le left behind ≡ is_commit
committed_behind is_commit fences behind left (at_once commit all) one = le-leb left behind (omega (arith, all, one)) ∙ sym commit
committed_behind is_commit fences behind left (later quiet more) one = lt-leb left behind (omega (arith, more, one)) ∙ sym quiet

-- a call with one step commits in it
pub ends_with_commit : (is_commit : Bool) (fences behind : ℕ) → CommitsFirst is_commit fences behind → fences ≡ 1 → true ≡ is_commit
ends_with_commit is_commit fences behind (at_once commit all) one = sym commit
ends_with_commit is_commit fences behind (later quiet more) one = absurd (omega (arith, more, one))
