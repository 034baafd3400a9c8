-- Behind the preparing of a command, which takes places and room alone, the running calls have left the same.
use Rattle.std.proofs.Common.{◌≡◌, ℕ, List, [], ◌++◌, cond, Option, None, Some, refl, ap}
use Rattle.volume.specs.Volume.{VolumeView}
use Rattle.volume.specs.Prepared.{IsSameButPlaces}
use Rattle.volume.specs.Costs.{goes_of}
use Rattle.volume.specs.Moves.{falling_of as move_falling}
use Rattle.volume.specs.declared.plan.Loss.{Loss}
use Rattle.volume.specs.declared.plan.Moving.{Moving}
use Rattle.volume.specs.declared.plan.Removal.{Removal}
use Rattle.removal_steps.specs.Steps.{gone_pages, number_of}
use Rattle.data_ops.specs.Cutting.{gone_pages as cut_of}
use Rattle.data_ops.specs.declared.truncate.Stage.{Stage as ResizeStage}
use Rattle.data_ops.specs.declared.truncate.Stage.TheVariants.{Nothing as SizeKept, Growing as GrowsBySize, Cutting}
use Rattle.rename_ptr.specs.declared.rename.Progress.TheVariants.{Begun, Filled, Opened, Pointed, Moved, Left, Cleared, Disowned}
use Rattle.rename_ptr.specs.declared.rename.Stage.{Stage as MoveStage}
use Rattle.rename_ptr.specs.declared.rename.Stage.TheVariants.{Nothing as NamesKept, Moving as MovesName}
use Rattle.running_calls.specs.declared.running.Running.{Running}
use Rattle.running_calls.specs.declared.running.Running.TheVariants.{Makes, Links, Removes, Moves, Writes, Resizes}
use Rattle.unlink_ops.specs.declared.removal.Stage.{Stage as RemovalStage}
use Rattle.unlink_ops.specs.declared.removal.Stage.TheVariants.{Begun as RemovalBegun, Unnamed, Cleared as RemovalCleared, Disowned as RemovalDisowned}
use Rattle.weave_laws.specs.Naming.{pages_left}
use Rattle.weave_laws.specs.Removing.{unnamed_left, cleared_left}
use Rattle.moving_laws.specs.Moving.{moved_left}
use Rattle.waiting_laws.specs.Growing.{pages_left_by}
use Rattle.waiting_laws.specs.Moving.{moved_by, given_by}
use Rattle.waiting_laws.specs.Removing.{left_at, falling_of}
use Rattle.running_laws.specs.Waits.{left_by, left_by_resize, left_by_move}
use Rattle.session_laws.specs.Calls.{Calls, left_of_all}
use Rattle.session_laws.proofs.Lists.{left_stays}

module _ (old new : VolumeView) (same : IsSameButPlaces old new) where
  same_gone : (loss : Option Loss) → gone_pages new loss ≡ gone_pages old loss
  same_gone None = refl
  same_gone (Some loss) = ap (λ (pages : List ℕ). cond loss.goes pages []) (same.index.pages loss.inode)

  removal_left : (removal : Removal) (stage : RemovalStage) → left_at new removal stage ≡ left_at old removal stage
  removal_left removal RemovalBegun = refl
  removal_left removal Unnamed =
      let loss = removal.loss in
      ap (λ (pages : List ℕ). unnamed_left removal.slot removal.given_back pages loss.goes loss.inode (falling_of loss.kind removal)) (same_gone (Some loss))
  removal_left removal RemovalCleared =
      ap (λ (pages : List ℕ). cleared_left (pages ++ pages_left removal.given_back) removal.loss.goes removal.loss.inode) (same_gone (Some removal.loss))
  removal_left removal RemovalDisowned =
      ap (λ (pages : List ℕ). cleared_left (pages ++ pages_left removal.given_back) removal.loss.goes removal.loss.inode) (same_gone (Some removal.loss))

  resize_left : (stage : ResizeStage) → left_by_resize new stage ≡ left_by_resize old stage
  resize_left SizeKept = refl
  resize_left (GrowsBySize resizing progress) = refl
  resize_left (Cutting resizing progress) = ap (λ (pages : List ℕ). pages_left_by resizing.inode (cut_of resizing pages)) (same.index.pages resizing.inode)

  same_moved : (moving : Moving) → moved_by new moving ≡ moved_by old moving
  same_moved moving =
      ap (λ (pages : List ℕ). moved_left moving.from_slot moving.to_slot moving.given_back pages (goes_of moving.replaced) (number_of moving.replaced) (move_falling moving))
      (same_gone moving.replaced)

  same_given : (moving : Moving) → given_by new moving ≡ given_by old moving
  same_given moving =
      ap (λ (pages : List ℕ). cleared_left (pages ++ pages_left moving.given_back) (goes_of moving.replaced) (number_of moving.replaced)) (same_gone moving.replaced)

  move_left : (stage : MoveStage) → left_by_move new stage ≡ left_by_move old stage
  move_left NamesKept = refl
  move_left (MovesName moving Begun) = refl
  move_left (MovesName moving Filled) = refl
  move_left (MovesName moving Opened) = refl
  move_left (MovesName moving Pointed) = refl
  move_left (MovesName moving Moved) = same_moved moving
  move_left (MovesName moving Left) = same_moved moving
  move_left (MovesName moving Cleared) = same_given moving
  move_left (MovesName moving Disowned) = same_given moving

  same_left : (running : Running) → left_by new running ≡ left_by old running
  same_left (Makes running) = refl
  same_left (Links running) = refl
  same_left (Removes running) = removal_left running.removal running.stage
  same_left (Moves running) = move_left running
  same_left (Writes running) = refl
  same_left (Resizes running) = resize_left running

  pub left_behind : (calls : Calls) → left_of_all new calls ≡ left_of_all old calls
  left_behind calls = left_stays old new calls (λ s call runs. same_left call.running)
