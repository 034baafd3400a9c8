use Rattle.volatile_index.proofs.node.Node.put.Given as goal

abbrev pub ghosts-search_from_end : goal.ghosts-search_from_end
ghosts-search_from_end a = record { name = a.blank.name; parts = a.blank.parts }
