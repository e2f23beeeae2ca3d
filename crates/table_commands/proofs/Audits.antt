-- What an audit is written of is what it says of the dump.
use Rattle.table_commands.specs.declared.audit.AuditForm.TheVariants as forms
use Rattle.std.proofs.Common.{◌≡◌, arith, refl, Bool, List, Result, ℕ}
use Rattle.std.specs.Prelude.{IfOk}
use Rattle.std.proofs.lemmas.Result.{IfOk-weaker}
use Rattle.dump_io.specs.Dumps.{told, DeviceState}
use Rattle.dump_io.specs.Limits.{Numbers}
use Rattle.dump_sections.specs.Index.{index_of, sections_in, Contents}
use Rattle.dump_sections.specs.Loading.{LoadsBodies}
use Rattle.dump_sections.specs.declared.bodies.BodyFault.{BodyFault}
use Rattle.dump_audit.specs.Audits.{audit_in}
use Rattle.dump_audit.specs.declared.bodies.AuditBodies.{AuditBodies}
use Rattle.dump_audit.specs.Bodies.{AreBodiesOf}
use Rattle.dump_audit.specs.Mailboxes.{audited_sections}
use Rattle.table_commands.specs.declared.audit.AuditForm.{AuditForm}
use Rattle.table_commands.specs.Rows.{audit_settled_row}
use Rattle.table_commands.specs.Inner.Loads.{audit_row_as, loaded_audit, seen_audit}
use Rattle.dump_questions.specs.Reading.{ReadsFor}
use Rattle.dump_questions.specs.Stops.{or_stop}
use Rattle.dump_questions.specs.Laws.Reading.{ReadsFor-bodies}

-- over the index of a dump an audit is of what the dump says
audit-told : (limit : ℕ) (full : Bool) (bytes : List ℕ) (index : Contents) (read : AuditBodies) → index ≡ index_of bytes → AreBodiesOf full index bytes read
    → loaded_audit limit index read ≡ audit_in limit full bytes
audit-told limit full bytes index read is of = rw (of.mails, of.procs, is) refl

-- the bodies of an audit were loaded, or weren't
pub ReadsFor-audit : (form : AuditForm) (limit : ℕ) (full : Bool) (limits : Numbers) (index : Contents) {D : Type 0} (state : D → DeviceState) (b c : D) (loaded : Result AuditBodies BodyFault)
    → LoadsBodies state (audited_sections full (sections_in index)) limits.section b c loaded
    → IfOk loaded (λ read. (bytes : List ℕ) → (state b).now ≡ told bytes → AreBodiesOf full index bytes read)
    → ReadsFor (audit_row_as form limit full) limits index (state b) (state c) (seen_audit form limit full index) (or_stop loaded)
ReadsFor-audit forms.Settled limit full limits index state b c loaded loads are =
    ReadsFor-bodies (audit_settled_row limit full) limits index (record { there = refl; few = λ _. omega arith }) state b c (λ _. refl) (seen_audit forms.Settled limit full index) loaded loads
    (IfOk-weaker loaded _ _ (λ read are. λ bytes all. let of = are bytes all.opened in λ i. record { audit = audit-told limit full bytes index read all.is of i; signalled = of.signalled i }) are)
ReadsFor-audit form limit full limits index state b c loaded loads are =
    ReadsFor-bodies (audit_row_as form limit full) limits index (record { there = refl; few = λ _. omega arith }) state b c (λ _. refl) (seen_audit form limit full index) loaded loads
    (IfOk-weaker loaded _ _ (λ read are. λ bytes all. audit-told limit full bytes index read all.is (are bytes all.opened)) are)
