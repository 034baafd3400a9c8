-- What flushes of lines are to an interval.
use Rattle.std.proofs.Common.{ℕ}
use Rattle.pm_trait.specs.DeviceView.{DeviceView, Stores}
use Rattle.fence_token.specs.Flushes.{FlushesLines}

pub flushes_stores : {a b : DeviceView} {line count : ℕ} → FlushesLines a b line count → Stores (λ _. ⊥) a b count
flushes_stores flushes = record { stores = flushes.stores_none; grown = flushes.grown; room = flushes.room; counts = flushes.counts }
