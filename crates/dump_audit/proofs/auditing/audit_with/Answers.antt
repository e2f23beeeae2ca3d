use Rattle.std.proofs.Common.{◌∙◌, ap}
use Rattle.std.specs.Prelude.{◌&&◌, is_some}
use Rattle.std.specs.Option.{option_copied}
use Rattle.dump_audit.specs.Findings.{audit_of, is_whole}
use Rattle.dump_audit.proofs.Fitting.{found-fits}
use Rattle.dump_audit.proofs.auditing.audit_with.Goals as goal

pub invariant_of-audited : goal.invariant_of-audited
invariant_of-audited c =
    record {
      graph = c.requires.graph;
      state = c.state-state.ensures.value;
      judged = c.deref.ensures.value ∙ c.in_ok-judged.ensures.judged;
      gone = c.names_gone.ensures ∙ ap (λ s. is_some (option_copied c.args.mails) && is_whole s) c.state-state.ensures.value;
      few = c.all_judged.ensures.few;
      sections = c.requires.sections;
    }

pub returns-clause-fits : goal.returns-clause-fits
returns-clause-fits c =
    found-fits (λ found. found.items) (audit_of c.args.index.now c.args.procs.now.processes c.args.limit (option_copied c.args.mails)) c.findings.result c.findings.ensures
