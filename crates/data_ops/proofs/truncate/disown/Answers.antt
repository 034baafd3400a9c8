use Rattle.std.proofs.Common.{◌≡◌, ◌*◌, length, ap, sym, ◌∙◌, arith}
use Rattle.layout.specs.declared.fields.DescriptorFields.{DescriptorFields}
use Rattle.layout.specs.Fields.{page_owner}
use Rattle.layout.specs.Geometry.{pieces}
use Rattle.inode_state.specs.Inode.{InodeView}
use Rattle.page_state.specs.Page.{PageView, IsOwnerWord}
use Rattle.page_state.proofs.Changes.{dirty_owners}
use Rattle.page_state.proofs.Contents.{owner_is_own}
use Rattle.data_ops.specs.Growing.{owner_events}
use Rattle.data_ops.proofs.Pages.{inode_settled, pages_settled, all_live, can_take, pages_given, none_given, of_object, each_of_object, object_fenced, some_fenced, none_fenced, some_pages, no_pages}
use Rattle.data_ops.proofs.truncate.disown.Goals as goal

pub at-file-requires-clause-settled : goal.at-file-requires-clause-settled
at-file-requires-clause-settled g c = inode_settled c.args.geometry.now.pages c.args.inode c.args.geometry.now.volume_size c.requires.ready.least c.requires.ready.most c.requires.begins.whole c.requires.begins.settled

pub at-live-requires : goal.at-live-requires
at-live-requires g c =
    let can = c.requires.ready in
    let begins = c.requires.begins in
    let geometry = c.args.geometry.now in
    let device = g.P.Pm.view c.args.pm.now in
    let take = can_take geometry.pages device.words c.args.inode can.first c.args.pages.now can.pages_are geometry.data_pages geometry.data_pages_exact (some_pages c.args.pages.now c.is_empty.result c.is_empty.ensures c.if-is_empty.false) in
    record {
      whole = begins.whole;
      data_pages = take.data_pages;
      settled = pages_settled geometry.pages c.args.pages.now device.words device.trail geometry.volume_size can.pages_are.in_range begins.whole begins.settled;
      reads = all_live geometry.pages device.words c.args.inode can.first c.args.pages.now can.pages_are (λ none. let least = can.least in omega (arith, least, none));
      alike = take.alike;
    }

pub cut_owner-cut-requires-clause-kind : goal.cut_owner-cut-requires-clause-kind
cut_owner-cut-requires-clause-kind g c =
    ap (λ (v : PageView). v.fields.kind) c.at-live.ensures.object
    ∙ ap (λ (d : DescriptorFields). d.kind) (c.requires.ready.pages_are.each 0 (some_pages c.args.pages.now c.is_empty.result c.is_empty.ensures c.if-is_empty.false))

pub cut_owner-cut-requires-clause-owner : goal.cut_owner-cut-requires-clause-owner
cut_owner-cut-requires-clause-owner g c =
    ap (λ (v : PageView). v.fields.owner) c.at-live.ensures.object
    ∙ ap (λ (d : DescriptorFields). d.owner) (c.requires.ready.pages_are.each 0 (some_pages c.args.pages.now c.is_empty.result c.is_empty.ensures c.if-is_empty.false))
    ∙ sym (ap (λ (v : InodeView). v.number) c.at-file.ensures.object)

pub cut_owner-cut-requires-clause-behind : goal.cut_owner-cut-requires-clause-behind
cut_owner-cut-requires-clause-behind g c =
    let at = ap (λ (v : PageView). v.fields.offset) c.at-live.ensures.object
    ∙ ap (λ (d : DescriptorFields). d.offset) (c.requires.ready.pages_are.each 0 (some_pages c.args.pages.now c.is_empty.result c.is_empty.ensures c.if-is_empty.false)) in
    let size = ap (λ (v : InodeView). pieces v.fields.size 4096) c.at-file.ensures.object in
    let behind = c.requires.ready.behind in
    omega (arith, at, behind, size)

pub returns-then-is_empty : goal.returns-then-is_empty
returns-then-is_empty g c = record {
  takes = record {
    makes = none_given c.args.geometry.now.pages (g.P.Pm.view c.args.pm.now).words c.args.pages.now (no_pages c.args.pages.now c.is_empty.result c.is_empty.ensures c.if-is_empty.true);
    fenced = none_fenced (g.P.Pm.view c.args.pm.now) c.args.pages.now (owner_events (length c.args.pages.now)) c.is_empty.result c.is_empty.ensures c.if-is_empty.true;
  };
}

pub returns : goal.returns
returns g c =
    let P = c.args.geometry.now.pages in
    let pages = c.args.pages.now in
    let before = c.at-live in
    let after = c.cut_owner-cut in
    let flush = c.flush-flushed.ensures in
    let old = (g.P.Pm.view c.args.pm.now).words in
    let words = (g.P.Pm.view after.new.pm).words in
    record {
      takes = record {
        makes = pages_given P pages (of_object IsOwnerWord owner_is_own old before.ensures.object after.ensures.object 1 (omega arith) after.ensures.device)
            (each_of_object IsOwnerWord owner_is_own old before.ensures.object after.ensures.object 1 (omega arith) after.ensures.device (λ v j. page_owner v words j ≡ 0)
            (dirty_owners after.result 0 (ap (λ (v : PageView). v.fields.owner) after.ensures.object) after.ensures.dirty))
            (g.P.Pm.view c.end_interval.new.pm).words (c.end_interval.ensures.device.words ∙ flush.device.words);
        fenced = some_fenced pages (owner_events (length pages)) c.is_empty.result c.is_empty.ensures c.if-is_empty.false
            (object_fenced IsOwnerWord owner_is_own old before.ensures.object after.ensures.object 1 (omega arith) after.ensures.device flush.device c.end_interval.result (length pages * 2) (omega arith) c.requires.begins.settled flush.flushed c.end_interval.ensures.device);
      };
    }
