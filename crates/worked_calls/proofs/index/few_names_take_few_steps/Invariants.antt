use Rattle.worked_calls.proofs.index.few_names_take_few_steps.Given as goal

abbrev pub ghosts-find_from_none : goal.ghosts-find_from_none
ghosts-find_from_none g a = record { name = a.blank.name; parts = a.blank.parts }
