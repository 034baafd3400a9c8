use Rattle.std.proofs.Common.{◌≡◌, ◌%◌, ◌+◌, ◌-◌, ◌≤◌, length, drop, ◌∙◌, arith, length-drop, length-take}
use borrow.Rule.Slice.PartMut.{put_mid}
use Rattle.data_ops.proofs.ReadBytes.{byte_in_page, more_bytes, length-put_word}
use Rattle.data_ops.proofs.reading.read_words.Goals as goal

pub pages-preserved : goal.pages-preserved
pages-preserved g c =
    let so_far = c.pages.invariant in
    let volume_pages = c.args.geometry.now.pages in
    let words = (g.P.Pm.view c.args.pm.now).words in
    let pages = c.args.pages.now in
    let done = c.pages.done in
    let end = c.min-end.result in
    let part = c.read_page.new.buf in
    let at = c.args.offset + done in
    let more = c.pages-test.true in
    let long = so_far.long in
    let within = so_far.within in
    let whole = so_far.whole in
    let all = c.requires.whole_words in
    let end_is = c.min-end.ensures in
    let begins : c.args.offset % 8 ≡ 0 = c.requires.at_a_word (omega (arith, long, more)) in
    let inside : end ≤ length c.pages.buf = omega (arith, end_is) in
    let rest = length-drop done c.pages.buf in
    let cut = length-take (end - done) (drop done c.pages.buf) in
    let size : length part ≡ end - done = c.read_page.auto.buf ∙ omega (arith, cut, rest, inside) in
    let same : length (put_mid done (end - done) c.pages.buf part) ≡ length c.pages.buf = length-put_word c.pages.buf part done (end - done) size (omega (arith, inside, within, end_is, more)) in
    let last : end ≤ done + (4096 - at % 4096) = omega (arith, end_is) in
    record {
      long = same ∙ long;
      within = omega (arith, same, inside);
      whole = omega (arith, end_is, whole, begins, all, long);
      made = λ k below.
          more_bytes volume_pages words pages c.pages.buf part c.args.offset done (end - done) size within so_far.made
          (λ j few. c.read_page.ensures j (omega (arith, size, few)) ∙ byte_in_page volume_pages words pages at j (omega (arith, begins, whole)) (omega (arith, few, last)))
          k (omega (arith, below));
    }
