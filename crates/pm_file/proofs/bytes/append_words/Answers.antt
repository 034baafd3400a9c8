use Rattle.std.proofs.Common.{◌≡◌, ◌+◌, ◌*◌, ◌≤◌, ◌++◌, length, vec_len, ap, subst, sym, ◌∙◌, arith}
use Rattle.std.specs.Vec.{vec_capacity}
use Rattle.std.proofs.lemmas.Grind.{common_steps}
use Rattle.std.proofs.lemmas.List.{length-append}
use Rattle.pm_file.specs.Placed.{AppendsWords}
use Rattle.pm_file.proofs.Words.{page_more}
use Rattle.pm_file.proofs.bytes.append_words.Goals as goal

pub loop-page-preserved : goal.loop-page-preserved
loop-page-preserved c =
    let now = c.loop-page.words in
    let old = c.args.words.now in
    let page = c.loop-page.page in
    let read = c.read_u64_into.new.dst in
    let filled = c.loop-page.invariant.words in
    let long : length now.items ≡ length old.items + 512 * page = ap length filled.1 ∙ length-append old.items filled.0 ∙ ap (λ n. length old.items + n) filled.2 in
    let size : length read ≡ 512 = grind (arith, common_steps) in
    let fits : vec_len now + length read ≤ vec_capacity now = grind (arith, common_steps, long, size) in
    let items : c.extend_from_slice.new.self.items ≡ now.items ++ read = grind (arith, common_steps, fits) in
    record {
      long = size;
      room = grind (arith, common_steps);
      words = subst (λ items. AppendsWords c.args.bytes.now (512 * (page + 1)) old.items items) (sym items) (page_more c.args.bytes.now old.items now.items read page filled size c.read_u64_into.ensures);
    }
