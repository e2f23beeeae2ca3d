use Rattle.std.proofs.Common.{◌∙◌, ap, rules, sym, ℕ}
use Rattle.heap_cells.specs.Loading.{enc_of}
use Rattle.heap_commands.proofs.BinaryLoads.{reads-binary, IsHalted-body}
use Rattle.dump_questions.specs.Laws.Reading.{IsHalted-subject, ReadsFor-halted}
use Rattle.heap_commands.specs.Rows.{binary_row}
use Rattle.heap_commands.proofs.binary.BinaryReport.read.Goals as goal

pub returns-in_err-place-clause-reads : goal.returns-in_err-place-clause-reads
returns-in_err-place-clause-reads g c =
    ReadsFor-halted _ _ c.from_residual.result _ c.from_residual.ensures.1 (IsHalted-subject (binary_row c.args.self.now.addr) _ c.args.at.now.index.now _ _ ℕ _ (search rules) c.in_err-place.ensures.judges)

pub returns-in_err-body-clause-reads : goal.returns-in_err-body-clause-reads
returns-in_err-body-clause-reads g c =
    ReadsFor-halted _ _ c.from_residual-in_err-body.result _ c.from_residual-in_err-body.ensures.1
    (IsHalted-body g.D.Dumps.state _ _ c.args.self.now.addr _ c.args.at.now.index.now _ c.in_ok-place.ensures.there _ c.in_err-body.ensures.loads)

pub returns-clause-reads : goal.returns-clause-reads
returns-clause-reads g c =
    let coded = c.enc_of-enc.ensures ∙ ap enc_of c.version.ensures in
    let placed = sym (ap (λ s. s.at) c.section.ensures.at_place) in
    reads-binary g.D.Dumps.state _ _ c.args.self.now.addr _ c.args.at.now.index.now _ c.in_ok-place.ensures.there c.in_ok-body.body _ _ c.in_ok-body.ensures.loads c.in_ok-body.ensures.body.held
    (rw (coded, placed) at c.read_bytes.ensures.judges) (rw coded at c.read_bytes.ensures.bytes)
