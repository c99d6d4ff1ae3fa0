use Rattle.ib_hash.proofs.guesses.Guesses.load_guess.Given as goal

abbrev pub ghosts-load : goal.ghosts-load
ghosts-load a = record { pages = a.board.now.key }
