use Rattle.std.proofs.Common.{ℕ, ◌<◌, slice_index, sym, subst, arith}
use Rattle.layout.specs.declared.fields.DescriptorFields.{DescriptorFields}
use Rattle.page_state.specs.Page.{PageView, EachPage, SayFields, PageIsClean}
use Rattle.page_state.proofs.PageLaws.{own_word_within}
use Rattle.page_state.proofs.Changes.{descriptor_read}
use Rattle.page_state.proofs.page.PageH+Clean+S.at.Goals as goal

pub returns-clause-clean : goal.returns-clause-clean
returns-clause-clean g c =
    let device = g.P.Pm.view c.args.pm.now in
    let now = device.words in
    let geometry = c.args.geometry.now in
    let pages = c.args.pages.now in
    let read = c.descriptor_at-fields.ensures in
    let fields = descriptor_read geometry.pages (slice_index pages 0) c.image.result.now now c.descriptor_at-fields.result read.owner read.kind read.offset c.image.ensures in
    let in_range = subst (λ (d : ℕ). EachPage pages (λ page. page < d)) geometry.data_pages_exact c.requires.data_pages.in_range in
    subst (λ (view : PageView). PageIsClean view device) (sym c.of.ensures)
    (record {
      stands = record {
        inside = λ word own. let within = own_word_within geometry.pages _ word geometry.volume_size (in_range.each own.index own.before) own.is in omega (arith, within, c.requires.whole);
        reads = subst (λ (said : DescriptorFields). SayFields geometry.pages pages said now) (sym fields) c.requires.alike;
      };
      clean = c.requires.settled;
    })
