use Rattle.std.proofs.Common.{◌++◌, ◌∷◌, [], ap₂, arith, refl, rules, Some, ℕ}
use Rattle.dump_io.specs.Laws.Reads.{ReadsAtMost-none}
use Rattle.dump_sections.specs.Index.{index_of}
use Rattle.report_lines.specs.Lines.{newline}
use Rattle.term_forms.specs.Elements.{Ref}
use Rattle.term_text.specs.Cuts.{cut_report}
use Rattle.term_text.specs.Roots.{answer_over, term_report}
use Rattle.heap_commands.specs.Inner.Loads.{walk_in}
use Rattle.heap_commands.proofs.PartLoads.{ReadsFor-peeked}
use Rattle.dump_questions.specs.Laws.Reading.{IsHalted-subject, ReadsFor-halted}
use Rattle.heap_commands.specs.Rows.{peek_term_row}
use Rattle.heap_commands.proofs.peek.PeekTermReport.read.Goals as goal

pub returns-in_err-find_process-clause-reads : goal.returns-in_err-find_process-clause-reads
returns-in_err-find_process-clause-reads g c =
    let t = c.args.self.now in
    ReadsFor-halted _ _ c.from_residual.result _ c.from_residual.ensures.1
    (IsHalted-subject (peek_term_row t.pid.now t.addr t.nodes t.marked) _ c.args.at.now.index.now _ _ ℕ _ (search rules) c.in_err-find_process.ensures.judges)

pub returns-clause-reads : goal.returns-clause-reads
returns-clause-reads g c =
    let t = c.args.self.now in
    let at = c.args.at.now in
    ReadsFor-peeked t.pid.now (Some t.addr) (λ bytes walk. term_report (answer_over walk t.nodes t.marked) t.addr ++ cut_report (index_of bytes) t.pid.now []) at.limits.now at.index.now
    (g.D.Dumps.state c.args.dumps.now) (g.D.Dumps.state c.load_terms.new.dumps) (Ref t.addr ∷ []) t.nodes
    (λ part. term_report (answer_over (walk_in part) t.nodes t.marked) t.addr ++ cut_report at.index.now t.pid.now []) c.load_terms.result
    c.in_ok-find_process.ensures.judges (ReadsAtMost-none 0 (search rules)) c.load_terms.ensures.gives
    (λ part bytes all answers. ap₂ (λ text index. (text ++ newline) ++ cut_report index t.pid.now []) (answers (Ref t.addr) (0, omega arith, refl) t.marked) all.is)
