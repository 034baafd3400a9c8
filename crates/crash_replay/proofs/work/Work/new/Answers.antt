use Rattle.std.proofs.Common.{◌++◌, Some, refl, ap, ◌∙◌}
use Rattle.crash_replay.proofs.WorkLefts.{first_text, left_at_first}
use Rattle.crash_replay.proofs.work.Work.new.Goals as goal

pub returns : goal.returns
returns c =
    let line = c.push_text.ensures.items ∙ ap (λ text. text ++ first_text) c.new-line.ensures in
    ap Some (left_at_first _ c.args.seed refl line c.new.ensures)
