use Rattle.std.proofs.Common.{◌≡◌, inl, ℕ, ◌+◌, ◌<◌, ◌≤◌, List, length, Some, subst, arith}
use Rattle.std.proofs.lemmas.Result.{err_from_is_err_and}
use Rattle.tree_model.specs.Capacity.{file_limit}
use Rattle.tree_model.specs.Step.{refusal_with}
use Rattle.tree_model.specs.declared.command.Command.TheVariants.{Write}
use Rattle.tree_model.specs.declared.reply.Refusal.TheVariants.{TooBig}
use Rattle.image_counts.specs.Laws.{supply_beside}
use Rattle.volume.specs.declared.plan.Action.TheVariants.{Write as WriteBytes, WriteNothing}
use Rattle.volume.specs.Planned.{IsPlannedWith}
use Rattle.volume.specs.Prepared.{IsRefusal}
use Rattle.volume.proofs.ContentPlans.{few_pages}
use Rattle.volume.proofs.ContentRows.{same_test, differ_test, size_fits, write_fails, write_too_big, write_nothing, write_lacks, write_planned}
use Rattle.volume.proofs.volume.Volume.writing.Goals.{then-offset-gt-LONGEST_FILE-via-then-offset-gt-LONGEST_FILE, then-offset-gt-LONGEST_FILE-via-else-offset-gt-LONGEST_FILE+then-count-offset}
use Rattle.volume.proofs.volume.Volume.writing.Goals as goal

pub returns-in_err-file : goal.returns-in_err-file
returns-in_err-file g c =
    let p = err_from_is_err_and c.from_residual.result c.from_residual.ensures.1 in
    rw (p.1, p.2) (λ state residue asked.
    inl (write_fails c.args.self.now (g.P.Pm.view c.args.pm.now) state residue asked.stands c.args.path.now c.args.offset c.args.bytes.now c.in_err-file.field-0.0 (c.in_err-file.ensures state residue asked.stands)))

pub returns-then-offset-gt-LONGEST_FILE : goal.returns-then-offset-gt-LONGEST_FILE
returns-then-offset-gt-LONGEST_FILE g c = λ state residue asked.
    let bytes = c.as_slice.result.now in
    let big : file_limit < c.args.offset + length bytes = elim c.then-offset-gt-LONGEST_FILE.branch [
      | then-offset-gt-LONGEST_FILE-via-then-offset-gt-LONGEST_FILE w ↦ omega (arith, w.if-offset-gt-LONGEST_FILE.true)
      | then-offset-gt-LONGEST_FILE-via-else-offset-gt-LONGEST_FILE+then-count-offset w ↦ omega (arith, w.if-offset-gt-LONGEST_FILE.false, w.if-count-offset.true)
    ] in
    inl (subst (λ (written : List ℕ). refusal_with (supply_beside c.args.self.now.size residue) state.tree state.room (Write c.args.path.now c.args.offset written) ≡ Some TooBig) c.as_slice.ensures
    (write_too_big c.args.self.now (g.P.Pm.view c.args.pm.now) state residue asked.stands c.args.path.now c.in_ok-file.file.inode c.in_ok-file.file.size (c.in_ok-file.ensures state residue asked.stands)
    c.args.offset bytes big))

pub returns-then-count-eq0 : goal.returns-then-count-eq0
returns-then-count-eq0 g c = λ state residue asked.
    let device = g.P.Pm.view c.args.pm.now in
    let bytes = c.as_slice.result.now in
    let fits : c.args.offset + length bytes ≤ file_limit = omega (arith, c.if-offset-gt-LONGEST_FILE.false, c.if-count-offset.false) in
    subst (λ (written : List ℕ). IsPlannedWith (supply_beside c.args.self.now.size residue) device.words state (Write c.args.path.now c.args.offset written) WriteNothing) c.as_slice.ensures
    (write_nothing c.args.self.now device state residue asked.stands c.args.path.now c.in_ok-file.file.inode c.in_ok-file.file.size (c.in_ok-file.ensures state residue asked.stands)
    c.args.offset bytes fits (same_test (length bytes) 0 c.if-count-eq0.true))

pub new_pages-requires-clause-few : goal.new_pages-requires-clause-few
new_pages-requires-clause-few g c =
    let (state, residue, stands) = c.requires.stands in
    few_pages c.args.self.now (g.P.Pm.view c.args.pm.now) state residue stands

pub new_pages-requires-clause-old : goal.new_pages-requires-clause-old
new_pages-requires-clause-old g c =
    let (state, residue, stands) = c.requires.stands in
    size_fits c.args.self.now (g.P.Pm.view c.args.pm.now) state residue stands c.args.path.now c.in_ok-file.file.inode c.in_ok-file.file.size (c.in_ok-file.ensures state residue stands)

pub returns-in_err-new_pages : goal.returns-in_err-new_pages
returns-in_err-new_pages g c =
    let device = g.P.Pm.view c.args.pm.now in
    let bytes = c.as_slice.result.now in
    let fits : c.args.offset + length bytes ≤ file_limit = omega (arith, c.if-offset-gt-LONGEST_FILE.false, c.if-count-offset.false) in
    let p = err_from_is_err_and c.from_residual-in_err-new_pages.result c.from_residual-in_err-new_pages.ensures.1 in
    rw (p.1, p.2) (λ state residue asked.
    subst (λ (written : List ℕ). IsRefusal (supply_beside c.args.self.now.size residue) state (Write c.args.path.now c.args.offset written) c.in_err-new_pages.field-0.0 device device) c.as_slice.ensures
    (write_lacks c.args.self.now device state residue asked.stands c.args.path.now c.in_ok-file.file.inode c.in_ok-file.file.size (c.in_ok-file.ensures state residue asked.stands)
    c.args.offset bytes fits (differ_test (length bytes) 0 c.if-count-eq0.false) c.in_err-new_pages.field-0.0 c.in_err-new_pages.ensures))

pub returns : goal.returns
returns g c = λ state residue asked.
    let device = g.P.Pm.view c.args.pm.now in
    let bytes = c.as_slice.result.now in
    let fits : c.args.offset + length bytes ≤ file_limit = omega (arith, c.if-offset-gt-LONGEST_FILE.false, c.if-count-offset.false) in
    subst (λ (written : List ℕ). IsPlannedWith (supply_beside c.args.self.now.size residue) device.words state (Write c.args.path.now c.args.offset written)
    (WriteBytes (record { inode = c.in_ok-file.file.inode; offset = c.args.offset; count = length bytes; old_size = c.in_ok-file.file.size; new_pages = c.in_ok-new_pages.new_pages }))) c.as_slice.ensures
    (write_planned c.args.self.now device state residue asked.stands c.args.path.now c.in_ok-file.file.inode c.in_ok-file.file.size (c.in_ok-file.ensures state residue asked.stands)
    c.args.offset bytes fits (differ_test (length bytes) 0 c.if-count-eq0.false) c.in_ok-new_pages.new_pages c.in_ok-new_pages.ensures.0 c.in_ok-new_pages.ensures.1)
