use Rattle.pm_trait.proofs.DeviceLaws.{clean_after_ticket}
use Rattle.pm_trait.proofs.laws.ticket_law.Goals as goal

pub returns : goal.returns
returns c = λ now trail fences acks ticket word honest flight later inside. clean_after_ticket trail word honest flight later inside
