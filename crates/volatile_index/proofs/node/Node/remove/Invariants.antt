use Rattle.volatile_index.proofs.node.Node.remove.Given as goal

abbrev pub ghosts-search_uncounted : goal.ghosts-search_uncounted
ghosts-search_uncounted a = record { name = a.blank.name; parts = a.blank.parts }
