use Rattle.live_command.proofs.image.load_image.Given as goal

abbrev pub ghosts-greet_image : goal.ghosts-greet_image
ghosts-greet_image g a = record { name = a.blank.name; parts = a.blank.parts }
