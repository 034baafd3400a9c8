use Rattle.std.proofs.Common.{List, ℕ, sym, ap, subst, ◌∙◌, arith}
use Rattle.std.proofs.lemmas.Option.{slice_get-get_or}
use Rattle.std.proofs.lemmas.Result.{err_from_is_err_and}
use Rattle.std.specs.Prelude.{Err}
use Rattle.mount_scan.specs.Mounting.{IsSound}
use Rattle.remounts.specs.InTurn.{IsRefusedAs}
use Rattle.remounts.proofs.Turns.{one_more, all_turns, sound_where_mounted, turns_follow, turns_mean, turns_sound, refused_unsound, refused_first}
use Rattle.remounts.proofs.words_after.Goals as goal

pub loop-crash-init : goal.loop-crash-init
loop-crash-init c = c.in_ok-left.ensures

pub returns-in_err-left-2-clause-refused : goal.returns-in_err-left-2-clause-refused
returns-in_err-left-2-clause-refused c =
    let p = err_from_is_err_and c.from_residual-in_err-left-2.result c.from_residual-in_err-left-2.ensures.1 in
    let is = c.as_slice.ensures.value in
    let first = refused_first c.args.crashes.now c.loop-crash.crash-index _ _ c.in_err-left-2.field-0.0 (omega arith) c.loop-crash.invariant
    (subst (λ (w : List ℕ). IsRefusedAs w c.in_err-left-2.field-0.0) is c.in_err-left-2.ensures.refused) (λ sound. c.in_err-left-2.ensures.fails (subst IsSound (sym is) sound)) in
    rw (p.1, p.2) first

pub returns-in_err-left-2-clause-unsound : goal.returns-in_err-left-2-clause-unsound
returns-in_err-left-2-clause-unsound c = λ unsound some.
    let p = err_from_is_err_and c.from_residual-in_err-left-2.result c.from_residual-in_err-left-2.ensures.1 in (
      c.in_err-left-2.field-0.0,
      p.1 ∙ ap Err p.2,
      refused_unsound _ _ _ c.in_err-left-2.field-0.0 c.loop-crash.invariant unsound
          (subst (λ (w : List ℕ). IsRefusedAs w c.in_err-left-2.field-0.0) c.as_slice.ensures.value c.in_err-left-2.ensures.refused),
    )

pub returns-in_err-left-2-clause-fails : goal.returns-in_err-left-2-clause-fails
returns-in_err-left-2-clause-fails c = λ sound.
    let p = err_from_is_err_and c.from_residual-in_err-left-2.result c.from_residual-in_err-left-2.ensures.1 in
    let left_sound = turns_sound _ _ _ c.loop-crash.invariant sound in
    rw (p.1, p.2) (c.in_err-left-2.ensures.fails (subst IsSound (sym c.as_slice.ensures.value) left_sound))

pub loop-crash-preserved : goal.loop-crash-preserved
loop-crash-preserved c =
    one_more c.args.crashes.now c.loop-crash.crash-index _ _ c.loop-crash.invariant c.in_ok-left-2.ensures.leaves c.as_slice.ensures.value (omega arith)
    (slice_get-get_or c.args.crashes.now c.loop-crash.crash-index _ (omega arith))

pub returns-clause-in_turn : goal.returns-clause-in_turn
returns-clause-in_turn c = all_turns c.args.crashes.now c.loop-crash.crash-index _ _ (omega arith) c.loop-crash.invariant

pub returns-clause-unsound : goal.returns-clause-unsound
returns-clause-unsound c = λ unsound some.
    absurd (unsound (sound_where_mounted _ _ _ (all_turns c.args.crashes.now c.loop-crash.crash-index c.args.words.now c.loop-crash.left.items (omega arith) c.loop-crash.invariant) some))

pub returns-clause-follows : goal.returns-clause-follows
returns-clause-follows c = turns_follow _ _ _ (all_turns c.args.crashes.now c.loop-crash.crash-index c.args.words.now c.loop-crash.left.items (omega arith) c.loop-crash.invariant)

pub returns-clause-means : goal.returns-clause-means
returns-clause-means c = turns_mean _ _ _ (all_turns c.args.crashes.now c.loop-crash.crash-index c.args.words.now c.loop-crash.left.items (omega arith) c.loop-crash.invariant)
