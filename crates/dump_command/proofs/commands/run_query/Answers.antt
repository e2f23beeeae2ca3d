use Rattle.std.proofs.Common.{sym, ◌∙◌, ap}
use Rattle.command_words.specs.Command.{shown_query, cells, ext, field, fields, peek_roots, peek_term, proc, reach, roots, shapes, term, weigh, weigh_cell, heavy, path}
use Rattle.dump_command.proofs.Asked.{runs-asked}
use Rattle.dump_command.proofs.commands.run_query.Goals as goal

pub returns-in-Index : goal.returns-in-Index
returns-in-Index g c = runs-asked (ap shown_query c.in-Index.is) c.run_index.ensures

pub returns-in-Info : goal.returns-in-Info
returns-in-Info g c = runs-asked (ap shown_query c.in-Info.is) c.run_info.ensures

pub returns-in-Procs : goal.returns-in-Procs
returns-in-Procs g c = runs-asked (ap shown_query c.in-Procs.is) c.run_procs.ensures

pub returns-in-Proc : goal.returns-in-Proc
returns-in-Proc g c = runs-asked (ap shown_query c.in-Proc.is ∙ ap (λ p. proc p) (sym c.as_bytes.ensures.value)) c.run_proc.ensures

pub returns-in-Memory : goal.returns-in-Memory
returns-in-Memory g c = runs-asked (ap shown_query c.in-Memory.is) c.run_memory.ensures

pub returns-in-Field : goal.returns-in-Field
returns-in-Field g c = runs-asked (ap shown_query c.in-Field.is ∙ ap (λ p. field p) (sym c.as_bytes-in-Field.ensures.value)) c.run_field.ensures

pub returns-in-Fields : goal.returns-in-Fields
returns-in-Fields g c =
    let tag = ap (λ t. fields t c.in-Fields.key.now) (sym c.as_bytes-in-Fields.ensures.value) in
    let key = ap (λ k. fields c.as_bytes-in-Fields.result.now k) (sym c.as_bytes-in-Fields-2.ensures.value) in
    runs-asked (ap shown_query c.in-Fields.is ∙ tag ∙ key) c.run_fields.ensures

pub returns-in-Table : goal.returns-in-Table
returns-in-Table g c = runs-asked (ap shown_query c.in-Table.is) c.run_table.ensures

pub returns-in-Roots : goal.returns-in-Roots
returns-in-Roots g c = runs-asked (ap shown_query c.in-Roots.is ∙ ap (λ p. roots c.in-Roots.kind p c.in-Roots.nodes c.in-Roots.marked) (sym c.as_bytes-in-Roots.ensures.value)) c.run_roots.ensures

pub returns-in-Term : goal.returns-in-Term
returns-in-Term g c = runs-asked (ap shown_query c.in-Term.is ∙ ap (λ p. term p c.in-Term.addr c.in-Term.nodes c.in-Term.marked) (sym c.as_bytes-in-Term.ensures.value)) c.run_term.ensures

pub returns-in-PeekTerm : goal.returns-in-PeekTerm
returns-in-PeekTerm g c = runs-asked (ap shown_query c.in-PeekTerm.is ∙ ap (λ p. peek_term p c.in-PeekTerm.addr c.in-PeekTerm.nodes c.in-PeekTerm.marked) (sym c.as_bytes-in-PeekTerm.ensures.value)) c.run_peek_term.ensures

pub returns-in-PeekRoots : goal.returns-in-PeekRoots
returns-in-PeekRoots g c = runs-asked (ap shown_query c.in-PeekRoots.is ∙ ap (λ p. peek_roots c.in-PeekRoots.kind p c.in-PeekRoots.first c.in-PeekRoots.count c.in-PeekRoots.nodes c.in-PeekRoots.marked) (sym c.as_bytes-in-PeekRoots.ensures.value)) c.run_peek_roots.ensures

pub returns-in-Path : goal.returns-in-Path
returns-in-Path g c = runs-asked (ap shown_query c.in-Path.is ∙ ap (λ p. path p c.in-Path.addr) (sym c.as_bytes-in-Path.ensures.value)) c.run_path.ensures

pub returns-in-Ext : goal.returns-in-Ext
returns-in-Ext g c = runs-asked (ap shown_query c.in-Ext.is ∙ ap (λ p. ext p c.in-Ext.addr) (sym c.as_bytes-in-Ext.ensures.value)) c.run_ext.ensures

pub returns-in-Reach : goal.returns-in-Reach
returns-in-Reach g c = runs-asked (ap shown_query c.in-Reach.is ∙ ap (λ p. reach p) (sym c.as_bytes-in-Reach.ensures.value)) c.run_reach.ensures

pub returns-in-Shapes : goal.returns-in-Shapes
returns-in-Shapes g c = runs-asked (ap shown_query c.in-Shapes.is ∙ ap (λ p. shapes p c.in-Shapes.count c.in-Shapes.pids) (sym c.as_bytes-in-Shapes.ensures.value)) c.run_shapes.ensures

pub returns-in-Weigh : goal.returns-in-Weigh
returns-in-Weigh g c = runs-asked (ap shown_query c.in-Weigh.is ∙ ap (λ p. weigh p c.in-Weigh.count) (sym c.as_bytes-in-Weigh.ensures.value)) c.run_weigh.ensures

pub returns-in-WeighCell : goal.returns-in-WeighCell
returns-in-WeighCell g c = runs-asked (ap shown_query c.in-WeighCell.is ∙ ap (λ p. weigh_cell p c.in-WeighCell.count c.in-WeighCell.addr) (sym c.as_bytes-in-WeighCell.ensures.value)) c.run_weigh_cell.ensures

pub returns-in-Heavy : goal.returns-in-Heavy
returns-in-Heavy g c = runs-asked (ap shown_query c.in-Heavy.is ∙ ap (λ p. heavy p c.in-Heavy.count) (sym c.as_bytes-in-Heavy.ensures.value)) c.run_heavy.ensures

pub returns-in-Cells : goal.returns-in-Cells
returns-in-Cells g c = runs-asked (ap shown_query c.in-Cells.is ∙ ap (λ p. cells p) (sym c.as_bytes-in-Cells.ensures.value)) c.run_cells.ensures

pub returns-in-Binary : goal.returns-in-Binary
returns-in-Binary g c = runs-asked (ap shown_query c.in-Binary.is) c.run_binary.ensures

pub returns-in-Binaries : goal.returns-in-Binaries
returns-in-Binaries g c = runs-asked (ap shown_query c.in-Binaries.is) c.run_binaries.ensures

pub returns-in-Holders : goal.returns-in-Holders
returns-in-Holders g c = runs-asked (ap shown_query c.in-Holders.is) c.run_holders.ensures

pub returns-in-Triage : goal.returns-in-Triage
returns-in-Triage g c = runs-asked (ap shown_query c.in-Triage.is) c.run_triage.ensures

pub returns-in-Stacks : goal.returns-in-Stacks
returns-in-Stacks g c = runs-asked (ap shown_query c.in-Stacks.is) c.run_stacks.ensures

pub returns-in-Waits : goal.returns-in-Waits
returns-in-Waits g c = runs-asked (ap shown_query c.in-Waits.is) c.run_waits.ensures

pub returns-in-Links : goal.returns-in-Links
returns-in-Links g c = runs-asked (ap shown_query c.in-Links.is) c.run_links.ensures

pub returns-in-Redact : goal.returns-in-Redact
returns-in-Redact g c = runs-asked (ap shown_query c.in-Redact.is) c.run_redact.ensures

pub returns-in-Audit : goal.returns-in-Audit
returns-in-Audit g c = runs-asked (ap shown_query c.in-Audit.is) c.run_audit.ensures

pub returns-in-AuditJson : goal.returns-in-AuditJson
returns-in-AuditJson g c = runs-asked (ap shown_query c.in-AuditJson.is) c.run_audit_json.ensures

pub returns-in-AuditSettled : goal.returns-in-AuditSettled
returns-in-AuditSettled g c = runs-asked (ap shown_query c.in-AuditSettled.is) c.run_audit_settled.ensures
