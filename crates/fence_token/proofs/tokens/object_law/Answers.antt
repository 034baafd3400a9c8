use Rattle.std.proofs.Common.{refl}
use Rattle.fence_token.proofs.ObjectLaws.{goes_on_stays, goes_on_events, goes_on_fence, stands_clean_by_token}
use Rattle.fence_token.proofs.tokens.object_law.Goals as goal

pub returns-clause-others : goal.returns-clause-others
returns-clause-others c = λ is_own is_stored reads a b ta tb local run apart. goes_on_stays local run apart

pub returns-clause-events : goal.returns-clause-events
returns-clause-events c = λ is_own reads now trail events local none. goes_on_events now trail events local none

pub returns-clause-fence : goal.returns-clause-fence
returns-clause-fence c = λ is_own reads now trail. goes_on_fence refl refl

pub returns-clause-settle : goal.returns-clause-settle
returns-clause-settle c = λ is_own reads now trail fences acks token ticket honest stands settles. stands_clean_by_token trail honest stands settles
