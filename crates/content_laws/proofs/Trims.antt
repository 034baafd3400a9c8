-- Pages past the end of their file lose their owner and then the rest of their descriptors: each by what stands before it.
use Rattle.std.proofs.Common.{◌≡◌, inl, inr, ℕ, List, sym, subst, arith}
use Rattle.std.specs.Prelude.{Contains}
use Rattle.layout.specs.Fields.{page_kind, page_offset}
use Rattle.image_reading.specs.Reading.{HasBytes, Reached}
use Rattle.image_reading.specs.Soundness.{Rule}
use Rattle.image_laws.specs.Drop.{GivesPages}
use Rattle.image_laws.specs.Exempt.{IsExempt}
use Rattle.image_laws.specs.Frame.{SameMeaning}
use Rattle.image_laws.specs.Free.{Stores}
use Rattle.image_laws.specs.Quiet.{IsMix}
use Rattle.image_laws.specs.Stages.{MayFree}
use Rattle.image_laws.proofs.Free.{stores_law, same_stores}
use Rattle.image_laws.proofs.Given as lost
use Rattle.image_laws.proofs.Paths.{reached_pos, reached-le}
use Rattle.image_laws.proofs.Stages as stages
use Rattle.content_laws.specs.Cut.{MayTrim, ClearsPages, TrimmingLaw, ReleasingLaw}

-- ---- owners

module _ (P : ℕ) (I J : List ℕ) (given : ℕ → Type 0) (gives : GivesPages P I J given) (i : ℕ) (may : MayTrim P I i given) where
  exempt : (j : ℕ) → given j → IsExempt P I J j i
  unfolding page_kind page_offset
  exempt j g =
      let past = may.past j g in
      let one : page_kind P I j ≡ 1 = (may.coherent Rule.page_kinds j).file past.in_range (subst (Reached P I) (sym past.owner) may.reached) (subst (HasBytes I) (sym past.owner) may.file) in
      record {
        before = inr past.owner;
        after = inl (gives.owners j g);
        same_kind = lost.give_descriptor P I J given gives j 1 (omega arith) (inl (λ e. omega (arith, e)));
        same_offset = lost.give_descriptor P I J given gives j 2 (omega arith) (inl (λ e. omega (arith, e)));
        file = λ k r. (may.file, past.past, one);
        pointers = λ two. absurd (omega (arith, one, two));
        target = λ two. absurd (omega (arith, one, two));
        directory = λ two. absurd (omega (arith, one, two));
        empty = λ two. absurd (omega (arith, one, two));
      }

  give_stores : Stores P I J
  give_stores = lost.give_stores P I J given gives (λ j g. (may.past j g).in_range) may.coherent may.decided (λ j g. (i, exempt j g))

  pub same_trim : SameMeaning P I J
  same_trim = same_stores P I J may.coherent give_stores

  pub trimming : (M : List ℕ) → IsMix I J M → SameMeaning P I M
  trimming M mix = stores_law P I J M may.coherent give_stores mix

  -- and so the rest of them may become zero
  pub may_release : MayFree P J given ⊥ i
  may_release = record {
    coherent = same_trim.coherent;
    decided = may.decided;
    in_range = λ j g. (may.past j g).in_range;
    unowned = gives.owners;
    least = let some = reached_pos P I i may.reached in omega (arith, some);
    most = reached-le P I may.coherent i may.reached;
    goes = inr (λ none. none);
    unreached = λ none. absurd none;
  }

-- ---- kinds and offsets

module _ (P : ℕ) (I J : List ℕ) (given : ℕ → Type 0) (i : ℕ) (may : MayFree P I given ⊥ i) (clears : ClearsPages P I J given) where
  rest_stores : Stores P I J
  rest_stores = stages.rest_stores P I J given ⊥ i may (record { size = clears.size; rests = clears.rests; inode = λ none. absurd none; others = λ a out _. clears.others a out })

  pub same_release : SameMeaning P I J
  same_release = same_stores P I J may.coherent rest_stores

  pub releasing : (M : List ℕ) → IsMix I J M → SameMeaning P I M
  releasing M mix = stores_law P I J M may.coherent rest_stores mix

pub trimming_law : TrimmingLaw
trimming_law P I J M pages i may gives mix = trimming P I J (Contains pages) gives i may M mix

pub releasing_law : ReleasingLaw
releasing_law P I J M pages i may clears mix = releasing P I J (Contains pages) i may clears M mix
