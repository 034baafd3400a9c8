use Rattle.std.proofs.Common.{rules, ◌≡◌, ◌∙◌, Some, option_map}
use Rattle.clap.specs.Matches.{found_of}
use Rattle.clap.specs.Walk.{rows_of}
use Rattle.command_line.proofs.CommandLines.{value_of_rows}
use Rattle.command_line.proofs.split.Split.value.Goals as goal

pub returns : goal.returns
returns c =
    let rows : Some (rows_of (found_of c.in_ok-found.found.now)) ≡ option_map (λ s. s.1) c.args.self.now = search rules in
    c.get_str.ensures ∙ value_of_rows c.args.self.now (found_of c.in_ok-found.found.now) c.args.id.now rows
