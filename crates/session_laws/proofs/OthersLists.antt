-- What all calls have left where each has left the same, and a volume that stands beside it in another order.
use Rattle.std.proofs.Common.{◌≡◌, ℕ, zero, suc, ◌+◌, [], ◌∷◌, Some, None, refl}
use Rattle.weave_laws.specs.Joined.{joined}
use Rattle.volume.specs.Volume.{VolumeView}
use Rattle.running_laws.specs.Waits.{left_by}
use Rattle.session_laws.specs.Calls.{Call, Calls, call_at, events_of_call, left_of_all, events_of_all}

module _ (old new : VolumeView) where
  -- Where each call has left the same, so have all,
  pub all_left_same : (calls : Calls) → ((s : ℕ) (call : Call) → call_at calls s ≡ Some call → left_by new call.running ≡ left_by old call.running)
      → left_of_all new calls ≡ left_of_all old calls
  all_left_same [] each = refl
  all_left_same (None ∷ calls) each = all_left_same calls (λ s. each (suc s))
  all_left_same (Some first ∷ calls) each = let one = each zero first refl in let rest = all_left_same calls (λ s. each (suc s)) in λ k. joined (one k) (rest k)

  -- and where each has as many events to come
  pub all_events_same : (calls : Calls) → ((s : ℕ) (call : Call) → call_at calls s ≡ Some call → events_of_call new call ≡ events_of_call old call)
      → events_of_all new calls ≡ events_of_all old calls
  all_events_same [] each = refl
  all_events_same (None ∷ calls) each = all_events_same calls (λ s. each (suc s))
  all_events_same (Some first ∷ calls) each = let one = each zero first refl in let rest = all_events_same calls (λ s. each (suc s)) in λ k. one k + rest k
