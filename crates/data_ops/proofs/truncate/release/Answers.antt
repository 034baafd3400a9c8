use Rattle.std.proofs.Common.{◌*◌, length, ap, ◌∙◌, arith, refl}
use Rattle.page_state.specs.Page.{PageView, IsReleasedWord, IsWithoutKind}
use Rattle.page_state.proofs.Releases.{released_is_own}
use Rattle.data_ops.specs.Growing.{release_events}
use Rattle.data_ops.proofs.Pages.{pages_settled, all_released, can_take, pages_cleared, dirty_rests, none_cleared, of_object, each_of_object, object_fenced, some_fenced, none_fenced, some_pages, no_pages}
use Rattle.data_ops.proofs.truncate.release.Goals as goal

pub at-released-requires : goal.at-released-requires
at-released-requires g c =
    let can = c.requires.ready in
    let begins = c.requires.begins in
    let geometry = c.args.geometry.now in
    let device = g.P.Pm.view c.args.pm.now in
    let take = can_take geometry.pages device.words 0 can.first c.args.pages.now can.pages_are geometry.data_pages geometry.data_pages_exact (some_pages c.args.pages.now c.is_empty.result c.is_empty.ensures c.if-is_empty.false) in
    record {
      whole = begins.whole;
      data_pages = take.data_pages;
      settled = pages_settled geometry.pages c.args.pages.now device.words device.trail geometry.volume_size can.pages_are.in_range begins.whole begins.settled;
      reads = all_released geometry.pages device.words 0 can.first c.args.pages.now can.pages_are refl;
      alike = take.alike;
    }

pub returns-then-is_empty : goal.returns-then-is_empty
returns-then-is_empty g c = record {
  takes = record {
    makes = none_cleared c.args.geometry.now.pages (g.P.Pm.view c.args.pm.now).words c.args.pages.now (no_pages c.args.pages.now c.is_empty.result c.is_empty.ensures c.if-is_empty.true);
    fenced = none_fenced (g.P.Pm.view c.args.pm.now) c.args.pages.now (release_events (length c.args.pages.now)) c.is_empty.result c.is_empty.ensures c.if-is_empty.true;
  };
}

pub returns : goal.returns
returns g c =
    let P = c.args.geometry.now.pages in
    let pages = c.args.pages.now in
    let before = c.at-released in
    let after = c.release-free in
    let flush = c.flush-flushed.ensures in
    let old = (g.P.Pm.view c.args.pm.now).words in
    let words = (g.P.Pm.view after.new.pm).words in
    record {
      takes = record {
        makes = pages_cleared P pages (of_object IsReleasedWord released_is_own old before.ensures.object after.ensures.object 2 (omega arith) after.ensures.device)
            (each_of_object IsReleasedWord released_is_own old before.ensures.object after.ensures.object 2 (omega arith) after.ensures.device (λ v j. IsWithoutKind v words j)
            (dirty_rests after.result (ap (λ (v : PageView). v.fields) after.ensures.object) after.ensures.dirty))
            (g.P.Pm.view c.end_interval.new.pm).words (c.end_interval.ensures.device.words ∙ flush.device.words);
        fenced = some_fenced pages (release_events (length pages)) c.is_empty.result c.is_empty.ensures c.if-is_empty.false
            (object_fenced IsReleasedWord released_is_own old before.ensures.object after.ensures.object 2 (omega arith) after.ensures.device flush.device c.end_interval.result (length pages * 3) (omega arith) c.requires.begins.settled flush.flushed c.end_interval.ensures.device);
      };
    }
