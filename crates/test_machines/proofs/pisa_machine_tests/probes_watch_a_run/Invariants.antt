use Rattle.test_machines.proofs.pisa_machine_tests.probes_watch_a_run.Given as goal

abbrev pub ghosts-watch : goal.ghosts-watch
ghosts-watch g a = record { name = a.blank.name; parts = a.blank.parts }
