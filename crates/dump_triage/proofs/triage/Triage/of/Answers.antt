use Rattle.std.proofs.Common.{length, sym, subst}
use Rattle.dump_triage.specs.Ranking.{AreWithin}
use Rattle.dump_triage.specs.Triage.{AreGroupsWithin}
use Rattle.dump_triage.proofs.RankFacts.{triage-fits}
use Rattle.dump_triage.proofs.triage.Triage.of.Goals as goal

pub returns-clause-fits : goal.returns-clause-fits
returns-clause-fits c =
    let processes = c.args.procs.now.processes in
    let rows = c.args.tables.now.rows in
    let ports = c.args.ports.now.rows in
    let fits = triage-fits c.args.index.now processes c.args.stands.now rows ports c.args.most in
    record {
      states = subst (AreWithin (length processes)) (sym c.in_ok-commonest_states.ensures) fits.states;
      queues = subst (AreWithin (length processes)) (sym c.in_ok-longest_queues.ensures) fits.queues;
      memory = subst (AreWithin (length processes)) (sym c.in_ok-largest_processes.ensures) fits.memory;
      binaries = subst (AreWithin (length processes)) (sym c.in_ok-most_binaries.ensures) fits.binaries;
      groups = subst (AreGroupsWithin (length processes)) (sym c.in_ok-largest_groups.ensures) fits.groups;
      ports = subst (AreGroupsWithin (length ports)) (sym c.in_ok-largest_ports.ensures) fits.ports;
      tables = subst (AreWithin (length rows)) (sym c.in_ok-largest_tables.ensures) fits.tables;
    }
