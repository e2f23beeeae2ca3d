use Rattle.std.proofs.Common.{◌≡◌, length, map, All, sym, ◌∙◌, ap, subst, arith}
use Rattle.std.specs.Option.{option_map}
use Rattle.std.specs.Prelude.{IfSome}
use Rattle.std.proofs.lemmas.Result.{err_from_is_err_and}
use Rattle.std.proofs.lemmas.List.Sums.{sum_by-append}
use Rattle.dump_io.specs.Laws.Reads.{ReadsAtMost-both, ReadsAtMost-within}
use Rattle.dump_sections.specs.Bodies.{body_length}
use Rattle.dump_sections.specs.Index.{sections_in}
use Rattle.dump_sections.specs.LoadingLaws.{All-small, IsUnloaded-later, IsUnloaded-small, small-both}
use Rattle.dump_sections.specs.Loading.{bodies_length}
use Rattle.process_table.specs.Records.{record_sections}
use Rattle.process_table.specs.Laws.{sections_told}
use Rattle.process_table.specs.Signals.{is_signalled, signal_columns}
use Rattle.section_rows.specs.Rows.{rows_of}
use Rattle.dump_audit.specs.Mailboxes.{mail_of, mailboxes_at}
use Rattle.dump_audit.specs.Inner.Mailboxes.{IsSmall}
use Rattle.dump_audit.proofs.Loads.{counts-all, counts-found}
use Rattle.dump_audit.proofs.MailPlaces.{All-within}
use Rattle.dump_audit.proofs.bodies.read_bodies.Goals as goal

pub count_messages-requires-clause-small : goal.count_messages-requires-clause-small
count_messages-requires-clause-small g c =
    let sections = sections_in c.args.index.now in
    let places = c.args.places.mailboxes.items in
    let limit = c.args.limits.now.section in
    subst (All (IsSmall c.args.index.now limit)) (sym c.as_slice.ensures.value)
    (All-within c.args.index.now limit places
    (All-small limit (mailboxes_at sections places) (small-both limit (record_sections sections) (mailboxes_at sections places) c.requires.small).1))

pub returns-in_err-procs-clause-reads : goal.returns-in_err-procs-clause-reads
returns-in_err-procs-clause-reads g c =
    let sections = sections_in c.args.index.now in
    ReadsAtMost-within (omega (arith, sum_by-append body_length (record_sections sections) (mailboxes_at sections c.args.places.mailboxes.items))) c.in_err-procs.ensures.loads.reads

pub returns-in_err-procs-clause-fault : goal.returns-in_err-procs-clause-fault
returns-in_err-procs-clause-fault g c =
    let d = g.D.Dumps in
    let sections = sections_in c.args.index.now in
    let limit = c.args.limits.now.section in
    let p = err_from_is_err_and c.from_residual.result c.from_residual.ensures.1 in
    rw (p.1, p.2) (IsUnloaded-small limit (record_sections sections) (d.state c.args.dumps.now) (d.state c.read_with.new.dumps) _
    (small-both limit (record_sections sections) (mailboxes_at sections c.args.places.mailboxes.items) c.requires.small).0 c.in_err-procs.ensures.loads.fault)

pub returns-in_err-counts-clause-reads : goal.returns-in_err-counts-clause-reads
returns-in_err-counts-clause-reads g c =
    let sections = sections_in c.args.index.now in
    let places = c.args.places.mailboxes.items in
    ReadsAtMost-both c.in_ok-procs.ensures.loads.reads c.in_err-counts.ensures.reads
    (omega (arith, sum_by-append body_length (record_sections sections) (mailboxes_at sections places), ap (λ ps. bodies_length (mailboxes_at sections ps)) c.as_slice.ensures.value))

pub returns-in_err-counts-clause-fault : goal.returns-in_err-counts-clause-fault
returns-in_err-counts-clause-fault g c =
    let d = g.D.Dumps in
    let p = err_from_is_err_and c.from_residual-in_err-counts.result c.from_residual-in_err-counts.ensures.1 in
    rw (p.1, p.2) (IsUnloaded-later (d.state c.read_with.new.dumps) (d.state c.count_messages.new.dumps) (d.state c.args.dumps.now) (d.state c.count_messages.new.dumps) _
    (λ rose. omega (arith, rose, c.in_ok-procs.ensures.loads.reads.later)) c.in_err-counts.ensures.fault)

pub returns-clause-reads : goal.returns-clause-reads
returns-clause-reads g c =
    let sections = sections_in c.args.index.now in
    let places = c.args.places.mailboxes.items in
    ReadsAtMost-both c.in_ok-procs.ensures.loads.reads c.in_ok-counts.ensures.reads
    (omega (arith, sum_by-append body_length (record_sections sections) (mailboxes_at sections places), ap (λ ps. bodies_length (mailboxes_at sections ps)) c.as_slice.ensures.value))

pub returns-clause-bodies : goal.returns-clause-bodies
returns-clause-bodies g c = λ bytes same.
    let sections = sections_in c.args.index.now in
    let mail = mail_of bytes c.args.index.now in
    record {
      procs = c.in_ok-procs.ensures.table bytes same;
      signalled = c.in-Ok.ensures ∙ ap (map is_signalled) (c.in_ok-procs.ensures.rows.rows bytes same
          ∙ ap (λ ss. rows_of bytes signal_columns (record_sections ss)) (sections_told (g.D.Dumps.state c.args.dumps.now).now c.args.index.now bytes c.requires.over same));
      mails = ap (option_map (λ counts. counts.items)) c.then_some.ensures
          ∙ counts-found c.args.full sections c.args.places.mailboxes.items mail c.in_ok-counts.counts c.requires.places.mailboxes
          (c.in_ok-counts.ensures.counts bytes (c.in_ok-procs.ensures.loads.reads.same_now ∙ same) ∙ ap (map mail) c.as_slice.ensures.value);
    }

pub returns-clause-auditable : goal.returns-clause-auditable
returns-clause-auditable g c =
    record {
      sections = c.in_ok-procs.ensures.over.named;
      counts = subst (λ mails. IfSome mails (λ counts. length counts.items ≡ length c.in_ok-procs.procs.processes)) (sym c.then_some.ensures)
          (counts-all c.args.full c.args.index.now c.args.places.mailboxes.items c.in_ok-counts.counts c.in_ok-procs.procs c.requires.places.mailboxes
          (c.in_ok-counts.ensures.all ∙ ap length c.as_slice.ensures.value) c.in_ok-procs.ensures.over);
    }
