use Rattle.std.proofs.Common.{◌≡◌, ℕ, ◌+◌, ◌-◌, ◌≤◌, List, length, take, drop, slice_index, subst, arith}
use Rattle.std.proofs.lemmas.List.{length-drop}
use Rattle.pm_file.specs.Given.{IsRun}
use Rattle.pm_file.proofs.Lines.{left_is, run_inside, runs_more}
use Rattle.pm_file.proofs.mirror.write_lines.Goals as goal

pub slice_bounds-write_run-end : goal.slice_bounds-write_run-end
slice_bounds-write_run-end g c =
    let lines = c.args.lines.now in
    let done = c.loop-done.done in
    let run = c.next_run-count.ensures in
    let count = c.next_run-count.result in
    let left : length (drop done lines) ≡ length lines - done = length-drop done lines in
    let fits : count ≤ length (drop done lines) = subst (λ (l : List ℕ). count ≤ length l) (left_is lines done) run.within in
    let in_line : IsRun (take count (drop done lines)) (slice_index (drop done lines) 0) = subst (λ (l : List ℕ). IsRun (take count l) (slice_index l 0)) (left_is lines done) run.run in
    let below : done + count ≤ length lines = omega (arith, left, fits, c.loop-done-test.true) in
    let inside = run_inside c.args.words.now lines done count c.requires.in_range run.any below in_line in
    omega (arith, inside)

pub loop-done-preserved : goal.loop-done-preserved
loop-done-preserved g c =
    let held = g.F.Medium.held in
    let lines = c.args.lines.now in
    let done = c.loop-done.done in
    let count = c.next_run-count.result in
    let run = c.next_run-count.ensures in
    let so_far = c.loop-done.invariant in
    let left : length (drop done lines) ≡ length lines - done = length-drop done lines in
    let fits : count ≤ length (drop done lines) = subst (λ (l : List ℕ). count ≤ length l) (left_is lines done) run.within in
    let in_line : IsRun (take count (drop done lines)) (slice_index (drop done lines) 0) = subst (λ (l : List ℕ). IsRun (take count l) (slice_index l 0)) (left_is lines done) run.run in
    let below : done + count ≤ length lines = omega (arith, left, fits, c.loop-done-test.true) in
    let inside = run_inside c.args.words.now lines done count c.requires.in_range run.any below in_line in
    record {
      within = below;
      lines = runs_more (held c.args.medium.now) (held c.loop-done.medium) (held c.write_run.new.self) c.args.words.now lines done count below inside in_line so_far.lines c.in_ok-write_run.ensures.run;
      faults = (let before = so_far.faults in let more = c.write_run.ensures.faults.kept in omega (arith, before, more));
    }
