use Rattle.std.proofs.Common.{refl, ap, ◌∙◌, arith}
use Rattle.script.specs.Texts.{line_text}
use Rattle.crash_replay.specs.Work.{drawn_words}
use Rattle.crash_replay.specs.declared.work_line.Draw.{Draw}
use Rattle.crash_replay.proofs.WorkLefts.{left_at_next}
use Rattle.crash_replay.proofs.work.Work.next_line.Goals as goal

pub returns-clause-left : goal.returns-clause-left
returns-clause-left c =
    let line = c.line_of-self.ensures ∙ ap (λ (d : Draw). line_text (drawn_words d)) c.next_draw-draw.ensures.draw in
    left_at_next c.args.self.now _ (omega (arith, c.requires.given)) c.requires.some refl refl line c.next_draw-draw.ensures.behind
