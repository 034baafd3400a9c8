-- What the source of a generated script has left.
use Rattle.std.specs.Prelude.{ℕ, List, ◌++◌, drop, flat_map}
use Rattle.script.specs.Texts.{line_text}
use Rattle.crash_replay.specs.Work.{drawn_lines}
use Rattle.crash_replay.specs.declared.work.Work.{Work}

-- the rest of the present line, and the lines that are still to come
unfoldable pub left_of : Work → List ℕ
left_of work = drop work.at work.line.items ++ flat_map line_text (drawn_lines work.generator work.to_come)
