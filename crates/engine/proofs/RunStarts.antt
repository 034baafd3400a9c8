-- How a run of a script begins.
use Rattle.std.proofs.Common.{◌≡◌, ℕ, Bool, false, List, [], refl, sym, subst, arith}
use Rattle.std.specs.Prelude.{Option, Some, None}
use Rattle.script.specs.declared.lines.Lines.{Lines}
use Rattle.script.specs.Reader.{pending, read_count, has_ended}
use Rattle.script.specs.Reading.{rest_of, IfTold, ReadPrefix}
use Rattle.engine.specs.Turns.{AreTakenTold, HasTaken, input_of}

-- no line was taken, and nothing was read
pub taken_none : (lines : Lines) (script : Option (List ℕ)) → pending lines ≡ [] → read_count lines ≡ 0 → has_ended lines ≡ false → HasTaken [] script (input_of lines script)
taken_none lines script none unread unended = record {
  told =
      subst (λ (seen : Bool). AreTakenTold [] seen script (rest_of (pending lines) script)) (sym unended)
      (subst (λ (bytes : List ℕ). AreTakenTold [] false script (rest_of bytes script)) (sym none) (told script));
  counted = counted script;
}
  where
    told : (script : Option (List ℕ)) → AreTakenTold [] false script (rest_of [] script)
    told None = refl
    told (Some bytes) = record { front = []; split = refl; all = refl; complete = λ is more. refl }

    counted : (script : Option (List ℕ)) → IfTold script script (ReadPrefix 0 (read_count lines))
    counted None = refl
    counted (Some bytes) = record { front = []; split = refl; counted = omega (arith, unread) }
