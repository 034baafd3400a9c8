-- How often a medium failed.
use Rattle.std.specs.Prelude.{ℕ, ◌≤◌, Result, OnErr}
use Rattle.pm_trait.specs.Device.{HasRisen}

-- A call's faults are counted: their number never falls, and has risen where the call failed.
pub record CountsFaults {T E : Type 0} (before after : ℕ) (result : Result T E) : Type 0 where
  pub kept : before ≤ after
  pub cause : OnErr result (HasRisen before after)
