use Rattle.cell_records.proofs.resolving.+resolve_parts.Given as goal

abbrev pub decreases-resolve_parts : goal.decreases-resolve_parts
decreases-resolve_parts l = l.halvings
