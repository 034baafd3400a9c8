use Rattle.worked_basics.proofs.numbers.lowest_of.Given as goal

abbrev pub ghosts-lowest_from_none : goal.ghosts-lowest_from_none
ghosts-lowest_from_none a = record { name = a.blank.name; parts = a.blank.parts }
