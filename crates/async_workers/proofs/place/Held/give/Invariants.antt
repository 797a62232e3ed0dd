use Rattle.async_workers.proofs.place.Held.give.Given as goal

abbrev pub ghosts-put_back : goal.ghosts-put_back
ghosts-put_back g a = record { known = a.known.now }
