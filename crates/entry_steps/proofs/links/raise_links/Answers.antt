use Rattle.std.proofs.Common.{ap}
use Rattle.inode_state.specs.Inode.{InodeView}
use Rattle.entry_steps.proofs.Slots.{links_stored}
use Rattle.entry_steps.proofs.links.raise_links.Goals as goal

pub returns-clause-device : goal.returns-clause-device
returns-clause-device g c = links_stored c.args.inode c.at-live.result.number (ap (λ (inode : InodeView). inode.number) c.at-live.ensures.object) c.inc_links-linked.ensures.device c.flush.ensures.device
