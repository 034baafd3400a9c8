-- What a waiting call holds is as much as it has left.
use Rattle.std.proofs.Common.{◌≡◌, ◌≤◌, ℕ, Bool, true, false, List, ◌++◌, length, Option, Some, None, refl, sym, arith, length-append}
use Rattle.image_reading.specs.Residue.{Residue}
use Rattle.weave_laws.specs.Naming.{pages_left}
use Rattle.weave_laws.specs.Removing.{inodes_left}
use Rattle.volatile_index.specs.Index.{pages_of}
use Rattle.volume.specs.Volume.{VolumeView}
use Rattle.volume.specs.Costs.{count_of, pages_removed, where_true}
use Rattle.volume.specs.declared.next.Held.{Held}
use Rattle.volume.specs.declared.plan.Removal.{Removal}
use Rattle.volume.specs.declared.plan.Resizing.{Resizing}
use Rattle.data_ops.specs.ResizeStages as resizes
use Rattle.data_ops.specs.declared.truncate.CutProgress.{CutProgress}
use Rattle.data_ops.specs.declared.truncate.CutProgress.TheVariants.{Begun as CutBegun, Lowered, Trimmed}
use Rattle.data_ops.specs.declared.truncate.Stage.TheVariants.{Nothing as SizeKept, Growing as GrowsBySize, Cutting}
use Rattle.data_ops.specs.declared.write.Stage.TheVariants.{Nothing as NothingWritten, Inside, Growing as GrowsByWrite}
use Rattle.unlink_ops.specs.RemovalStages.{HasLosses, pages_gone, held_at}
use Rattle.unlink_ops.specs.declared.removal.Stage.{Stage as RemovalStage}
use Rattle.unlink_ops.specs.declared.removal.Stage.TheVariants.{Begun as NameThere, Unnamed, Cleared as SlotCleared, Disowned as PagesDisowned}
use Rattle.running_calls.specs.declared.running.Running.TheVariants.{Makes, Links, Removes, Moves, Writes, Resizes}
use Rattle.waiting_laws.specs.Cutting.{HasItsCutPages, pages_cut}
use Rattle.waiting_laws.specs.Removing.{left_at}
use Rattle.waiting_laws.proofs.FileLists.{gone_long}
use Rattle.running_laws.specs.Numbers.{HeldIsLeftLaw}

-- as many inodes and pages as a residue has
abbrev held_in : Residue → Held
held_in residue = record { inodes = length residue.inodes; pages = length residue.pages }

-- ---- lists

one_page : (page : Option ℕ) → count_of page ≡ length (pages_left page)
one_page None = refl
one_page (Some page) = refl

one_inode : (goes : Bool) (i : ℕ) → where_true goes 1 ≡ length (inodes_left goes i)
one_inode true i = refl
one_inode false i = refl

same_held : (i j p q : ℕ) → i ≡ j → p ≡ q → ◌≡◌ {A = Held} (record { inodes = i; pages = p }) (record { inodes = j; pages = q })
same_held i j p q inodes pages = cc

-- ---- the pages that go

-- of a removal
pages_gone_left : (volume : VolumeView) (removal : Removal) → HasLosses volume removal → pages_removed removal ≡ length (pages_gone volume removal ++ pages_left removal.given_back)
pages_gone_left volume removal losses =
    let all = length-append (pages_gone volume removal) (pages_left removal.given_back) in
    let page = one_page removal.given_back in
    omega (arith, all, page, losses.count)

removal_left : (volume : VolumeView) (removal : Removal) (stage : RemovalStage) → HasLosses volume removal → held_at removal stage ≡ held_in (left_at volume removal stage)
removal_left volume removal NameThere losses = refl
removal_left volume removal Unnamed losses = same_held _ _ _ _ (one_inode removal.loss.goes removal.loss.inode) (pages_gone_left volume removal losses)
removal_left volume removal SlotCleared losses = same_held _ _ _ _ (one_inode removal.loss.goes removal.loss.inode) (pages_gone_left volume removal losses)
removal_left volume removal PagesDisowned losses = same_held _ _ _ _ (one_inode removal.loss.goes removal.loss.inode) (pages_gone_left volume removal losses)

-- of a cut
cut_left : (volume : VolumeView) (I : List ℕ) (resizing : Resizing) (progress : CutProgress) → HasItsCutPages volume.size I resizing.inode (pages_cut volume resizing) progress
    → resizing.cut ≤ length (pages_of volume.index resizing.inode) → resizes.held_of_cut resizing progress ≡ record { inodes = 0; pages = length (pages_cut volume resizing) }
cut_left volume I resizing CutBegun none enough = absurd none
cut_left volume I resizing Lowered cut enough = same_held 0 0 _ _ refl (sym (gone_long resizing (pages_of volume.index resizing.inode) enough))
cut_left volume I resizing Trimmed cut enough = same_held 0 0 _ _ refl (sym (gone_long resizing (pages_of volume.index resizing.inode) enough))

pub held_is_left_law : HeldIsLeftLaw
held_is_left_law volume device state command (Makes running) others waits = same_held 1 1 _ _ refl (one_page running.entry.new_page)
held_is_left_law volume device state command (Links running) others waits = same_held 0 0 _ _ refl (one_page running.link.new_page)
held_is_left_law volume device state command (Removes running) others (path, is, waits) = removal_left volume running.removal running.stage waits.losses
held_is_left_law volume device state command (Moves running) others none = absurd none
held_is_left_law volume device state command (Writes NothingWritten) others none = absurd none
held_is_left_law volume device state command (Writes (Inside writing)) others none = absurd none
held_is_left_law volume device state command (Writes (GrowsByWrite writing progress)) others waits = refl
held_is_left_law volume device state command (Resizes SizeKept) others none = absurd none
held_is_left_law volume device state command (Resizes (GrowsBySize resizing progress)) others waits = refl
held_is_left_law volume device state command (Resizes (Cutting resizing progress)) others (path, is, waits) =
    cut_left volume device.words resizing progress waits.cut waits.at.2.enough
