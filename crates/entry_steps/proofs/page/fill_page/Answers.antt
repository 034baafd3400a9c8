use Rattle.std.proofs.Common.{arith}
use Rattle.layout.specs.Name.{words_of_name}
use Rattle.page_state.proofs.PageLaws.{own_word_within}
use Rattle.entry_steps.proofs.Named.{named_filled}
use Rattle.entry_steps.proofs.page.fill_page.Goals as goal

pub fill_named-requires-clause-settled : goal.fill_named-requires-clause-settled
fill_named-requires-clause-settled g c = λ word own.
    let within = own_word_within c.args.geometry.now.pages c.args.page word c.args.geometry.now.volume_size c.requires.free.0 own in
    let whole = c.requires.begins.whole in
    c.requires.begins.settled.each word (omega (arith, within, whole))

pub returns : goal.returns
returns g c = record {
  takes = named_filled c.args.geometry.now.pages c.args.page (words_of_name c.args.name.now) c.end_interval.result c.requires.begins.settled c.fill_named.ensures.page c.fill_named.ensures.device c.fill_named.ensures.flushed c.end_interval.ensures.device;
}
