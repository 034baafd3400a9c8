-- What a call of the code stands for.
use Rattle.std.specs.Prelude.{Ok, Err}
use Rattle.tree_model.specs.Run.{Line}
use Rattle.script.specs.declared.call.Call.{Call}
use Rattle.script.specs.declared.call.Call.TheVariants.{Do, Refused}

abbrev pub line_of_call : Call → Line
line_of_call (Do command) = Ok command
line_of_call (Refused fault) = Err fault
