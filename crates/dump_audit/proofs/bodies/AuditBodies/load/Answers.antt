use Rattle.std.proofs.Common.{rules, ◌≡◌, None, refl, sym, ◌∙◌, ap, subst}
use Rattle.std.specs.Prelude.{is_some}
use Rattle.std.proofs.lemmas.Result.{IfErr-weaker}
use Rattle.dump_io.specs.Dumps.{ReadsAtMost}
use Rattle.dump_sections.specs.Index.{sections_in}
use Rattle.dump_sections.specs.Loading.{bodies_length, large_fault}
use Rattle.dump_sections.specs.LoadingLaws.{AreRefused-unread}
use Rattle.dump_audit.specs.Mailboxes.{audited_sections}
use Rattle.dump_audit.proofs.Loads.{bodies-found, on-ok}
use Rattle.dump_audit.proofs.bodies.AuditBodies.load.Goals as goal

pub returns-in-Some-clause-loads : goal.returns-in-Some-clause-loads
returns-in-Some-clause-loads g c =
    let d = g.D.Dumps in
    let sections = sections_in c.args.index.now in
    let same = bodies-found c.args.full sections c.in-Ok.places.mailboxes.items c.in-Ok.ensures.mailboxes in
    record {
      reads = search rules;
      allowed = tt;
      unread = λ some. refl;
      fault = rw c.from.ensures (ap (large_fault c.args.limits.now.section) (sym same) ∙ sym c.in-Some.ensures);
    }

-- none of the bodies is too large where they are read
pub returns-clause-loads : goal.returns-clause-loads
returns-clause-loads g c =
    let d = g.D.Dumps in
    let limit = c.args.limits.now.section in
    let bodies = audited_sections c.args.full (sections_in c.args.index.now) in
    let same = bodies-found c.args.full (sections_in c.args.index.now) c.in-Ok.places.mailboxes.items c.in-Ok.ensures.mailboxes in
    let none : large_fault limit bodies ≡ None = ap (large_fault limit) (sym same) ∙ sym c.in_default-large_body.ensures in
    record {
      reads = subst (λ ss. ReadsAtMost (d.state c.args.dumps.now) (d.state c.read_bodies.new.dumps) (bodies_length ss)) same c.read_bodies.ensures.reads;
      allowed = on-ok c.read_bodies.result none;
      unread = λ some. absurd (let no : ⊥ = cc (sym (ap is_some none) ∙ some) in no);
      fault = IfErr-weaker c.read_bodies.result _ _
          (λ fault is. AreRefused-unread limit bodies (d.state c.args.dumps.now) (d.state c.read_bodies.new.dumps) fault none is) c.read_bodies.ensures.fault;
    }
