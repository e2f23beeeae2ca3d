use Rattle.section_index.proofs.builder.build.Given as goal

abbrev pub ghosts-index_of : goal.ghosts-index_of
ghosts-index_of g a = record { limits = a.limits.now }
