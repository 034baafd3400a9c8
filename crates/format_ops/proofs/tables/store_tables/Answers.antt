use Rattle.std.proofs.Common.{◌≡◌, ◌⊎◌, inl, inr, ℕ, ◌+◌, ◌-◌, ◌<◌, ◌≤◌, List, length, get_or, slice_set, refl, ◌∙◌, ap, sym, subst, arith, get_or-set_same, get_or-set_other, length-set}
use Rattle.std.proofs.lemmas.Bool.{cases_eq}
use Rattle.pm_trait.proofs.DeviceViewLaws.{stores_nothing, store_stores, stores_then, stores_weaker}
use Rattle.format_ops.specs.Tables.{IsWithin, IsTableValue, HasTableValues}
use Rattle.format_ops.proofs.tables.store_tables.Goals as goal

wider : (word other : ℕ) → 1 ≤ word → IsWithin 1 word other ⊎ (other ≡ word) → IsWithin 1 (word + 1) other
wider word other order (inl within) = record { low = within.low; high = omega (arith, within.high) }
wider word other order (inr is) = record { low = omega arith; high = omega arith }

written_more : (pages word value : ℕ) (old new : List ℕ) → word < length old → new ≡ slice_set old word value → IsTableValue pages word value → HasTableValues pages 1 word old → HasTableValues pages 1 (word + 1) new
written_more pages word value old new inside is right so_far = record {
  each = λ other low high. subst (IsTableValue pages other) (sym (ap (λ (l : List ℕ). get_or l other 0) is)) (elim (cases_eq other word) [
    | inl here ↦ subst (IsTableValue pages other) (sym (ap (λ (k : ℕ). get_or (slice_set old word value) k 0) here ∙ get_or-set_same old word value 0 inside)) (subst (λ (k : ℕ). IsTableValue pages k value) (sym here) right)
    | inr there ↦ subst (IsTableValue pages other) (sym (get_or-set_other old word other value 0 there)) (so_far.each other low (omega (arith, there, high)))
  ]);
}

same_length : (word value : ℕ) (old new : List ℕ) → new ≡ slice_set old word value → length new ≡ length old
same_length word value old new is = ap length is ∙ length-set old word value

pub loop-word-preserved : goal.loop-word-preserved
loop-word-preserved g c =
    let so_far = c.loop-word.invariant in
    let word = c.loop-word.word in
    let before = (g.P.Pm.view c.loop-word.pm).words in
    let inside : word < length before = omega (arith, so_far.long) in
    record {
      written = written_more c.args.geometry.now.pages word c.table_word.result before (g.P.Pm.view c.store.new.self).words inside c.store.ensures.words c.table_word.ensures so_far.written;
      long = same_length word c.table_word.result before (g.P.Pm.view c.store.new.self).words c.store.ensures.words ∙ so_far.long;
      device = stores_weaker (word + 1 - 1) (λ other either. wider word other (omega arith) either) (omega arith)
          (stores_then so_far.device (store_stores c.store.ensures) (λ other within is. omega (arith, within.high, is)));
    }

pub loop-word-init : goal.loop-word-init
loop-word-init g c = record {
  written = record { each = λ word low high. absurd (omega (arith, low, high)) };
  long = refl;
  device = stores_weaker (1 - 1) (λ word none. absurd none) (omega arith) (stores_nothing (g.P.Pm.view c.args.pm.now));
}
