-- What a report rests on: the counts that were found, and how their text was written.
use Rattle.std.proofs.Common.{◌≡◌, ℕ, List, Result, Ok, Err, subst}
use Rattle.io_edge.specs.Bytes.{Writes}
use Rattle.script.specs.Check.{check_text}
use Rattle.script.specs.declared.check.CheckCounts.{CheckCounts}
use Rattle.mount_scan.specs.Reports.{IsCheckOf, Reports}
use Rattle.mount_scan.specs.declared.reporting.Checked.{Checked}
use Rattle.mount_scan.specs.declared.reporting.Checked.TheVariants.{Sound}

module _ (W : List ℕ) (took now : List ℕ → Type 0) (before after : ℕ) (checked : Checked) (counts : CheckCounts) (is : checked ≡ Sound counts) (check : IsCheckOf W (Ok checked)) where
  pub reports : {T E : Type 0} (result : Result T E) → Writes took now before after (check_text counts) result → Reports W took now before after result
  reports result writes =
      let (sound, counted) = subst (λ (k : Checked). IsCheckOf W (Ok k)) is check in
      record {
        sound = sound;
        tree = counted.tree;
        reads = counted.reads;
        repairs = counted.repairs;
        counted = counted.counted;
        writes = subst (λ (z : CheckCounts). Writes took now before after (check_text z) result) counted.are writes;
      }

-- of one answer as of another
pub written_whole : {T E U F : Type 0} {took now : List ℕ → Type 0} {before after : ℕ} {text : List ℕ} (x : T) (y : U)
    → Writes {T = T} {E = E} took now before after text (Ok x) → Writes {T = U} {E = F} took now before after text (Ok y)
written_whole x y w = record { whole = w.whole; cut = tt; no_fault = w.no_fault; faults = w.faults; cause = tt }

pub written_front : {T E U F : Type 0} {took now : List ℕ → Type 0} {before after : ℕ} {text : List ℕ} (x : E) (y : F)
    → Writes {T = T} {E = E} took now before after text (Err x) → Writes {T = U} {E = F} took now before after text (Err y)
written_front x y w = record { whole = tt; cut = w.cut; no_fault = tt; faults = w.faults; cause = w.cause }
