use Rattle.rename_ptr.proofs.point.count_link.Goals as goal

pub raise_links-counted-requires-clause-settled : goal.raise_links-counted-requires-clause-settled
raise_links-counted-requires-clause-settled g c = c.requires.settled c.in-Some.inode c.in-Some.is
