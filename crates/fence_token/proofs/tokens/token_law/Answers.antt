use Rattle.fence_token.proofs.ObjectLaws.{clean_by_token}
use Rattle.fence_token.proofs.tokens.token_law.Goals as goal

pub returns : goal.returns
returns c = λ now trail fences acks ticket token word honest flight settles inside. clean_by_token trail word honest flight settles inside
