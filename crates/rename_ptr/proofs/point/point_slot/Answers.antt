use Rattle.rename_ptr.proofs.Linked.{named_stores}
use Rattle.rename_ptr.proofs.point.point_slot.Goals as goal

pub returns-in-None-None-clause-device : goal.returns-in-None-None-clause-device
returns-in-None-None-clause-device g c = named_stores c.args.geometry.now.pages c.args.moving.now c.in-None-None.is-0 c.in-None-None.is-1 c.point_new.ensures.device
