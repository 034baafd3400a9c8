-- Which commands take a place of a table in memory.
use Rattle.std.specs.Prelude.{Bool, true, false, not, Ok, Err}
use Rattle.tree_model.specs.Step.{is_there, resolved}
use Rattle.tree_model.specs.Run.{State, Line}
use Rattle.tree_model.specs.Fences.{needs_pages}
use Rattle.tree_model.specs.declared.command.Command.{Command}
use Rattle.tree_model.specs.declared.command.Command.TheVariants.{Create, Mkdir, Link, Unlink, Rmdir, Rename, Write, Truncate, Read, Stat as Tell, List as Show, Df}

abbrev pub takes_places : State → Command → Bool
takes_places old (Create path) = true
takes_places old (Mkdir path) = true
takes_places old (Link from to) = true
takes_places old (Unlink path) = false
takes_places old (Rmdir path) = false
takes_places old (Rename from to) = not (is_there old.tree to)
takes_places old (Write path offset bytes) = needs_pages old (Write path offset bytes)
takes_places old (Truncate path size) = needs_pages old (Truncate path size)
takes_places old (Read path offset count) = false
takes_places old (Tell path) = false
takes_places old (Show path) = false
takes_places old Df = false

-- The command adds a name that wasn't there, or a page to a file. Where it does neither an acceptance is
-- answered NoMemory only where the device refused to reserve room for its events.
abbrev pub needs_places : State → Command → Bool
needs_places old c = takes_places old (resolved old.tree c)

-- a line that is no command needs none
abbrev pub line_needs_places : State → Line → Bool
line_needs_places old (Ok c) = needs_places old c
line_needs_places old (Err fault) = false
