-- A format, step by step: what each mix of a step is, and what all of them make. pages is the number of pages.
use Rattle.std.proofs.Common.{◌≡◌, inl, inr, ℕ, ◌+◌, ◌*◌, ◌<◌, List, length, slice_set, refl, sym, ◌∙◌, ap, subst, arith}
use Rattle.std.specs.Prelude.{Option, Result, Ok, OnOk, OnErr}
use Rattle.pm_trait.specs.Trail.{Trail}
use Rattle.pm_trait.specs.Device.{LeavesOnly, IsFenced, HasRisen, moment_of}
use Rattle.pm_trait.specs.DeviceView.{DeviceView, IsSettledView, Reserves, StoresAndFences, MakesIntervals}
use Rattle.pm_trait.specs.Unfolds.{InTurn, Unfolds, Along, Through}
use Rattle.pm_trait.proofs.DeviceLaws.{leaves_weaker}
use Rattle.pm_trait.proofs.Unfolding.{intervals, leaves, through, map_ok}
use Rattle.layout.specs.Geometry.{IsVolumeSize}
use Rattle.layout.specs.Format.{IsFormattedFrom}
use Rattle.format_ops.specs.Crashes.{IsOldHiddenOrFormatted}
use Rattle.format_ops.specs.Making.{steps_of, format_events}
use Rattle.format_ops.proofs.CrashLaws.{cleared, hidden_tables, hiding, writing, publishing, formatted}

module _ (pages : ℕ) (a : DeviceView) (size : IsVolumeSize pages) (long : length a.words ≡ 512 * pages) where
  some : 0 < length a.words
  some = omega (arith, long, size)

  along : Along (IsOldHiddenOrFormatted pages a.words) (steps_of pages) a.words
  along hidden is = (
    hiding pages some is,
    λ tables wrote. (
      writing pages some is wrote.beside,
      λ whole new.
          (publishing pages some is wrote.beside wrote.long new (formatted pages some size long is wrote.beside wrote.long wrote.written new), tt),
    ),
  )

  makes : (K : List ℕ) → Through (steps_of pages) a.words K → IsFormattedFrom pages a.words K
  makes K (hidden, is, (tables, wrote, (whole, new, same))) =
      subst (IsFormattedFrom pages a.words) (sym same) (formatted pages some size long is wrote.beside wrote.long wrote.written new)

  -- the words at the end
  ends : {T E : Type 0} (c : DeviceView) (result : Result T E) → InTurn (steps_of pages) a c result → IsOldHiddenOrFormatted pages a.words c.words
  ends c result (inl (one, is)) = inr (inl (cleared pages some one.makes))
  ends c result (inr (d, one, inl (two, is))) = inr (inl (hidden_tables pages some one.makes two.makes.beside two.makes.long))
  ends c result (inr (d, one, inr (e, two, inl (three, is)))) = inr (inr (formatted pages some size long one.makes two.makes.beside two.makes.long two.makes.written three.makes))
  ends c result (inr (d, one, inr (e, two, inr (f, three, none)))) =
      inr (inr (subst (λ (z : DeviceView). IsFormattedFrom pages a.words z.words) (sym none.0) (formatted pages some size long one.makes two.makes.beside two.makes.long two.makes.written three.makes)))

-- what a caller is told beside the steps
pub record Made {T E : Type 0} (pages : ℕ) (a c : DeviceView) (result : Result T E) : Type 0 where
  pub formatted : OnOk result (IsFormattedFrom pages a.words c.words)
  pub any_moment : LeavesOnly a.trail c.trail (λ _. IsOldHiddenOrFormatted pages a.words)
  pub words : IsOldHiddenOrFormatted pages a.words c.words
  pub device : MakesIntervals a c (format_events pages) 3 result

pub made : {T E : Type 0} {a c : DeviceView} {result : Result T E} (pages : ℕ) → IsVolumeSize pages → length a.words ≡ 512 * pages → IsSettledView a → Unfolds (steps_of pages) a c result → Made pages a c result
made {a = a} {c = c} {result = result} pages size long settled all = record {
  formatted = map_ok (Through (steps_of pages) a.words c.words) (IsFormattedFrom pages a.words c.words) result (makes pages a size long c.words) (through result all);
  any_moment = leaves_weaker {Q = λ _. IsOldHiddenOrFormatted pages a.words} (λ k image both. both.1) (leaves (IsOldHiddenOrFormatted pages a.words) settled (inl refl) (along pages a size long) all);
  words = ends pages a size long c result all.in_turn;
  device = intervals settled all;
}

-- ---- room that is reserved before the steps

first_reserved : {T E R F : Type 0} {a b c : DeviceView} {events few : ℕ} {value : R} {result : Result T E} → Reserves {E = F} a b few (Ok value) → StoresAndFences b c events result → StoresAndFences a c events result
first_reserved {a = a} {b = b} {c = c} {events = events} {result = result} reserved one = record {
  fenced = subst (λ (words : List ℕ). IsFenced words a.trail c.words c.trail result) reserved.words (subst (λ (trail : Option Trail). IsFenced b.words trail c.words c.trail result) reserved.trail one.fenced);
  long = one.long ∙ ap length reserved.words;
  grown = let before = ap moment_of reserved.trail in let after = one.grown in omega (arith, before, after);
  counts = record {
    room = let before = reserved.room in let after = one.room in omega (arith, before, after);
    faults = let before = reserved.faults in let after = one.faults in omega (arith, before, after);
    no_fault = subst (λ (n : ℕ). OnOk result (c.faults ≡ n)) reserved.faults one.no_fault;
    cause = subst (λ (n : ℕ). OnErr result (HasRisen n c.faults)) reserved.faults one.cause;
    refused = one.refused ∙ reserved.not_refused;
    counted = subst (λ (n : ℕ). OnOk result (c.fences ≡ n + 1)) reserved.fences one.counted;
    fewer = subst (λ (n : ℕ). OnErr result (c.fences < n + 1)) reserved.fences one.fewer;
    least_fences = let before = reserved.fences in let after = one.least_fences in omega (arith, before, after);
    most_fences = let before = reserved.fences in let after = one.most_fences in omega (arith, before, after);
    acks = one.acks ∙ reserved.acks;
  };
}

each_reserved : {T E R F : Type 0} {a b : DeviceView} {few : ℕ} {value : R} (pages : ℕ) (c : DeviceView) (result : Result T E) → Reserves {E = F} a b few (Ok value) → InTurn (steps_of pages) b c result → InTurn (steps_of pages) a c result
each_reserved pages c result reserved (inl (one, is)) = inl (record { makes = one.makes ∙ ap (λ (l : List ℕ). slice_set l 0 0) reserved.words; fenced = first_reserved reserved one.fenced }, is)
each_reserved pages c result reserved (inr (d, one, rest)) = inr (d, record { makes = one.makes ∙ ap (λ (l : List ℕ). slice_set l 0 0) reserved.words; fenced = first_reserved reserved one.fenced }, rest)

pub after_reserve : {T E R F : Type 0} {a b c : DeviceView} {few n pages : ℕ} {value : R} {result : Result T E} → n ≡ pages → Reserves {E = F} a b few (Ok value) → Unfolds (steps_of n) b c result → Unfolds (steps_of pages) a c result
after_reserve {a = a} {c = c} {n = n} {result = result} is reserved all = subst (λ (p : ℕ). Unfolds (steps_of p) a c result) is (record { in_turn = each_reserved n c result reserved all.in_turn })
