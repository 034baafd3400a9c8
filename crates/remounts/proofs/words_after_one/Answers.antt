use Rattle.std.proofs.Common.{Bor, ◌≡◌, ℕ, ◌<◌, List, length, refl, sym, ap, ◌∙◌, arith}
use Rattle.std.proofs.lemmas.Bool.Decides.{nat_tests}
use Rattle.std.proofs.lemmas.Result.{err_from_is_err_and}
use Rattle.remounts.specs.InTurn.{keep_of}
use Rattle.remounts.proofs.Turns.{keep_none, keep_some, leaves_image, refused_as, only_memory}
use Rattle.remounts.proofs.words_after_one.Goals as goal
use Rattle.remounts.proofs.words_after_one.Goals.{then-is_empty, else-is_empty}

pub returns-in_err-_volume-clause-refused : goal.returns-in_err-_volume-clause-refused
returns-in_err-_volume-clause-refused c =
    let p = err_from_is_err_and c.from_residual-in_err-_volume.result c.from_residual-in_err-_volume.ensures.1 in
    rw (p.1, p.2) (refused_as c.in_err-_volume.field-0.0 _ _ c.in_ok-pm.ensures refl c.in_err-_volume.ensures.answers)

pub returns-in_err-_volume-clause-fails : goal.returns-in_err-_volume-clause-fails
returns-in_err-_volume-clause-fails c = λ sound.
    let p = err_from_is_err_and c.from_residual-in_err-_volume.result c.from_residual-in_err-_volume.ensures.1 in
    rw (p.1, p.2) (only_memory c.in_err-_volume.field-0.0 _ _ c.in_ok-pm.ensures refl c.in_err-_volume.ensures.answers sound)

pub returns-clause-leaves : goal.returns-clause-leaves
returns-clause-leaves c =
    let keep : List ℕ = c.args.crash.now.keep.now in
    let chosen_by : c.if-is_empty.keep.now ≡ keep_of keep = elim c.if-is_empty.branch [
      | then-is_empty w ↦
          let none : length keep ≡ 0 = grind (arith, nat_tests, w.if-is_empty.ensures) in
          ap (λ (b : Bor (List ℕ)). b.now) w.keep-is ∙ w.as_slice-keep.ensures ∙ sym (keep_none keep none)
      | else-is_empty w ↦
          let some : 0 < length keep = grind (arith, nat_tests, w.if-is_empty.ensures) in
          ap (λ (b : Bor (List ℕ)). b.now) w.keep-is ∙ sym (keep_some keep some)
    ] in
    leaves_image c.events.result c.min.result c.in_ok-pm.ensures c.in_ok-_volume.ensures.answers c.ram-ram.ensures.trail
    c.events.ensures chosen_by c.min.ensures c.in_ok-left.ensures.crash_image c.in_ok-left.ensures.chosen
