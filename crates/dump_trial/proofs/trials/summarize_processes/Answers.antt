use Rattle.std.proofs.Common.{◌≡◌, ℕ, length, None, ◌∙◌, ap}
use Rattle.dump_sections.specs.Index.{index_of, sections_in}
use Rattle.dump_sections.specs.Laws.{index-is}
use Rattle.dump_audit.specs.Findings.{audit_of, findings}
use Rattle.dump_trial.specs.declared.summary.Summary.{Summary}
use Rattle.dump_trial.specs.declared.tally.Tally.{Tally}
use Rattle.dump_trial.specs.Trial.{queue_limit, tally_of}
use Rattle.dump_trial.proofs.trials.summarize_processes.Goals as goal

abbrev summary : ℕ → ℕ → Tally → ℕ → Summary
summary s p t f = record { sections = s; processes = p; tally = t; findings = f }

summary-same : (s s' p p' : ℕ) (t t' : Tally) (f f' : ℕ) → s ≡ s' → p ≡ p' → t ≡ t' → f ≡ f' → summary s p t f ≡ summary s' p' t' f'
summary-same s s' p p' t t' f f' sections processes tally found =
    ap (λ n. summary n p t f) sections ∙ ap (λ n. summary s' n t f) processes ∙ ap (λ n. summary s' p' n f) tally ∙ ap (summary s' p' t') found

pub returns : goal.returns
returns c =
    let bytes = c.args.held.now in
    let index = index-is bytes c.args.index.now c.requires.index in
    let table = c.requires.table in
    summary-same _ _ _ _ _ _ _ _ (c.len.ensures.sections ∙ ap (λ i. length (sections_in i)) index) (c.len-2.ensures.value ∙ ap (λ t. length t.processes) table)
    (c.in_ok-tally.ensures ∙ ap (λ t. tally_of bytes t.processes) table)
    (c.in_ok-findings.ensures ∙ ap (λ i. length (findings (audit_of i c.args.procs.now.processes queue_limit None))) index
    ∙ ap (λ t. length (findings (audit_of (index_of bytes) t.processes queue_limit None))) table)
