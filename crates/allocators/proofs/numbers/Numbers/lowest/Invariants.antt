use Rattle.allocators.proofs.numbers.Numbers.lowest.Given as goal

abbrev pub ghosts-lowest_uncounted : goal.ghosts-lowest_uncounted
ghosts-lowest_uncounted a = record { name = a.blank.name; parts = a.blank.parts }
