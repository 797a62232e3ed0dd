use Rattle.async_workers.proofs.place.opening.open_place.Given as goal

abbrev pub ghosts-open_with : goal.ghosts-open_with
ghosts-open_with g a = record { book = a.book }
