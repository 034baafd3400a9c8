use Rattle.std.proofs.Common.{inl, inr, arith}
use Rattle.pm_trait.proofs.DeviceLaws.{interval_length}
use Rattle.page_state.proofs.Told.{whole_flushed}
use Rattle.page_state.proofs.flushes.flush_whole.Goals as goal

pub flush_contents-contents-requires-clause-inside : goal.flush_contents-contents-requires-clause-inside
flush_contents-contents-requires-clause-inside g c = λ word is. c.requires.inside word (inl is)

pub flush_descriptor-requires-clause-inside : goal.flush_descriptor-requires-clause-inside
flush_descriptor-requires-clause-inside g c = λ word is.
    let before = c.requires.inside word (inr is) in
    omega (arith, before, interval_length c.flush_contents-contents.ensures.stores_none)

pub returns : goal.returns
returns g c = whole_flushed c.args.geometry.now.pages c.args.page c.flush_contents-contents.ensures c.flush_descriptor.ensures
