use Rattle.std.proofs.Common.{take}
use Rattle.volume.proofs.Grown.{IsWithMore}
use Rattle.volume.proofs.contents.push_all.Given as goal

abbrev pub invariant-loop-page : goal.invariant-loop-page
invariant-loop-page l = IsWithMore l.inode (take l.page-index l.pages) l.fn.index l.index
