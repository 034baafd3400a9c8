-- What range is left behind a step: none behind one that commits, and else the same.
use Rattle.std.proofs.Common.{◌≡◌, ℕ, Bool, true, false, cond, nat_lt, List, [], ◌∷◌, Option, None, refl, ap, ◌∙◌}
use Rattle.tree_model.specs.declared.reply.Reply.TheVariants.{Done}
use Rattle.mixing_laws.specs.Mixed.{Range}
use Rattle.volume.specs.declared.next.Next.{Next}
use Rattle.volume.specs.declared.next.Next.TheVariants.{More, Ended}
use Rattle.data_ops.specs.GrowthStages.{next_of_growth}
use Rattle.data_ops.specs.ResizeStages as resizes
use Rattle.data_ops.specs.WriteStages as writes
use Rattle.data_ops.specs.declared.grow.Progress.TheVariants.{Begun, Filled, Owned}
use Rattle.data_ops.specs.declared.write.Stage.{Stage as WriteStage}
use Rattle.data_ops.specs.declared.write.Stage.TheVariants.{Nothing as NothingWritten, Inside, Growing as GrowsByWrite}
use Rattle.data_ops.specs.declared.truncate.Stage.{Stage as ResizeStage}
use Rattle.data_ops.specs.declared.truncate.Stage.TheVariants.{Nothing as SizeKept, Growing as GrowsBySize, Cutting}
use Rattle.data_ops.specs.declared.truncate.CutProgress.{CutProgress}
use Rattle.data_ops.specs.declared.truncate.CutProgress.TheVariants.{Begun as CutBegun, Lowered, Trimmed}
use Rattle.rename_ptr.specs.declared.rename.Progress.{Progress as MoveProgress}
use Rattle.rename_ptr.specs.declared.rename.Progress.TheVariants.{Begun as MoveBegun, Filled as MoveFilled, Opened, Pointed, Moved, Left, Cleared, Disowned}
use Rattle.rename_ptr.specs.declared.rename.Stage.TheVariants.{Nothing as NamesKept, Moving as MovesName}
use Rattle.unlink_ops.specs.declared.removal.Stage.{Stage as RemovalStage}
use Rattle.unlink_ops.specs.declared.removal.Stage.TheVariants.{Begun as NameThere, Unnamed, Cleared as SlotCleared, Disowned as PagesDisowned}
use Rattle.running_calls.specs.declared.running.Running.{Running}
use Rattle.running_calls.specs.declared.running.Running.TheVariants.{Makes, Links, Removes, Moves, Writes, Resizes}
use Rattle.running_calls.specs.Stages.{IsNext, as_call}
use Rattle.running_laws.specs.Waits.{bytes_of_command}
use Rattle.running_laws.specs.Steps.{commits, commits_write, commits_cut, commits_resize, commits_removal, commits_move}
use Rattle.running_laws.specs.Steps.{has_committed, has_committed_removal, has_committed_cut, has_committed_move, range_of, range_of_write, range_of_resize}
use Rattle.session_laws.specs.Calls.{Call, listed_range}
use Rattle.session_laws.specs.Going.{next_call}
use Rattle.session_laws.proofs.HistoryRanges.{ranges_of}

abbrev pub range_next : List ℕ → Next Running → Option Range
range_next bytes (More running) = range_of bytes running
range_next bytes (Ended reply) = None

pub ranges_next : (call : Call) (next : Next Running) → ranges_of (next_call call next) ≡ listed_range (range_next (bytes_of_command call.command) next)
ranges_next call (More running) = refl
ranges_next call (Ended reply) = refl

-- ---- calls that write no range

abbrev IsRangeBehind : List ℕ → Running → Next Running → Type 0
IsRangeBehind bytes running next = range_next bytes next ≡ cond (commits running) None (range_of bytes running)

none_either : (b : Bool) → ◌≡◌ {A = Option Range} None (cond b None None)
none_either true = refl
none_either false = refl

no_range : {Stage : Type 0} (bytes : List ℕ) (of_kind : Stage → Running) → ((stage : Stage) → range_of bytes (of_kind stage) ≡ None)
    → (b : Bool) (left : Next Stage) (next : Next Running)
    → next ≡ as_call of_kind left → range_next bytes next ≡ cond b None None
no_range bytes of_kind none b (More stage) next is = ap (range_next bytes) is ∙ none stage ∙ none_either b
no_range bytes of_kind none b (Ended reply) next is = ap (range_next bytes) is ∙ none_either b

-- ---- writes and truncations

write_next : (bytes : List ℕ) (stage : WriteStage) → range_next bytes (as_call Writes (writes.next_of stage)) ≡ cond (commits_write stage) None (range_of_write bytes stage)
write_next bytes NothingWritten = refl
write_next bytes (Inside writing) = refl
write_next bytes (GrowsByWrite writing Begun) =
    let own = range_of_write bytes (GrowsByWrite writing Begun) in
    elim writing.new_pages as (λ pages. range_next bytes (as_call Writes (writes.next_growing writing (next_of_growth Begun pages))) ≡ own) [
      | [] ↦ refl
      | page ∷ pages ↦ refl
    ]
write_next bytes (GrowsByWrite writing Filled) = refl
write_next bytes (GrowsByWrite writing Owned) = refl

resize_next : (bytes : List ℕ) (stage : ResizeStage) → range_next bytes (as_call Resizes (resizes.next_of stage)) ≡ cond (commits_resize stage) None (range_of_resize stage)
resize_next bytes SizeKept = refl
resize_next bytes (GrowsBySize resizing Begun) =
    let own = range_of_resize (GrowsBySize resizing Begun) in
    elim resizing.new_pages as (λ pages. range_next bytes (as_call Resizes (resizes.next_growing resizing (next_of_growth Begun pages))) ≡ own) [
      | [] ↦ refl
      | page ∷ pages ↦ refl
    ]
resize_next bytes (GrowsBySize resizing Filled) = refl
resize_next bytes (GrowsBySize resizing Owned) = refl
resize_next bytes (Cutting resizing CutBegun) =
    elim (nat_lt 0 resizing.cut) as (λ b. range_next bytes (as_call Resizes (cond b (More (Cutting resizing Lowered)) (Ended Done))) ≡ None) [ true ↦ refl | false ↦ refl ]
resize_next bytes (Cutting resizing Lowered) = refl
resize_next bytes (Cutting resizing Trimmed) = refl

pub range_behind : (bytes : List ℕ) (running : Running) (next : Next Running) → IsNext running next → IsRangeBehind bytes running next
range_behind bytes (Makes running) next (left, after, is) = no_range bytes Makes (λ stage. refl) (commits (Makes running)) left next is
range_behind bytes (Links running) next (left, after, is) = no_range bytes Links (λ stage. refl) (commits (Links running)) left next is
range_behind bytes (Removes running) next is = no_range bytes Removes (λ stage. refl) (commits (Removes running)) _ next is
range_behind bytes (Moves running) next is = no_range bytes Moves (λ stage. refl) (commits (Moves running)) _ next is
range_behind bytes (Writes running) next is = ap (range_next bytes) is ∙ write_next bytes running
range_behind bytes (Resizes running) next is = ap (range_next bytes) is ∙ resize_next bytes running

-- ---- a call that commits hasn't committed

pub not_committed : (running : Running) → commits running ≡ true → has_committed running ≡ false
not_committed (Makes running) is = refl
not_committed (Links running) is = refl
not_committed (Removes running) is = removal running.stage is
  where
    removal : (stage : RemovalStage) → commits_removal stage ≡ true → has_committed_removal stage ≡ false
    removal NameThere is = refl
    removal Unnamed is = cc
    removal SlotCleared is = cc
    removal PagesDisowned is = cc
not_committed (Moves NamesKept) is = refl
not_committed (Moves (MovesName moving progress)) is = moves progress is
  where
    moves : (progress : MoveProgress) → commits_move progress ≡ true → has_committed_move progress ≡ false
    moves MoveBegun is = refl
    moves MoveFilled is = refl
    moves Opened is = refl
    moves Pointed is = refl
    moves Moved is = cc
    moves Left is = cc
    moves Cleared is = cc
    moves Disowned is = cc
not_committed (Writes running) is = refl
not_committed (Resizes SizeKept) is = refl
not_committed (Resizes (GrowsBySize resizing progress)) is = refl
not_committed (Resizes (Cutting resizing progress)) is = cuts progress is
  where
    cuts : (progress : CutProgress) → commits_cut progress ≡ true → has_committed_cut progress ≡ false
    cuts CutBegun is = refl
    cuts Lowered is = cc
    cuts Trimmed is = cc
