use Rattle.std.proofs.Common.{◌∙◌, ap, length, subst, sym}
use Rattle.dump_questions.specs.Laws.Reading.{Tells-put, Tells-stopped}
use Rattle.dump_io.specs.Laws.Puts.{Puts-as}
use Rattle.stream_commands.specs.Inner.Waits.{AreAmong}
use Rattle.stream_commands.proofs.WaitFacts.{report-told, waiters-length, AreAmong-report}
use Rattle.stream_commands.proofs.waits.WaitsForReport.put.Goals as goal

pub put_waits-requires-clause-told : goal.put_waits-requires-clause-told
put_waits-requires-clause-told g c =
    let loaded = c.args.loaded.now in
    let fits = c.requires.fits in
    record {
      named = fits.over.named;
      stands = fits.stand_count;
      waiters = ap length c.of.ensures ∙ waiters-length loaded.procs.processes loaded.waits fits.target_count;
    }

pub put_waits-requires-clause-among : goal.put_waits-requires-clause-among
put_waits-requires-clause-among g c =
    let loaded = c.args.loaded.now in
    let count = ap length c.of.ensures ∙ waiters-length loaded.procs.processes loaded.waits c.requires.fits.target_count in
    subst (λ n. AreAmong n c.in_ok-found.found) count (subst (AreAmong (length c.of.result)) (sym c.in_ok-found.ensures) (AreAmong-report c.of.result))

pub returns-in_err-put_waits : goal.returns-in_err-put_waits
returns-in_err-put_waits g c =
    let loaded = c.args.loaded.now in
    Tells-stopped 0 c.from_residual-in_err-put_waits.result c.from_residual-in_err-put_waits.ensures.1
    (Puts-as (report-told c.args.self.now.count c.args.at.now.index.now loaded.procs loaded.stands loaded.waits _ _ c.of.ensures c.in_ok-found.ensures) c.in_err-put_waits.ensures)

pub returns : goal.returns
returns g c =
    let loaded = c.args.loaded.now in
    Tells-put
    (Puts-as (report-told c.args.self.now.count c.args.at.now.index.now loaded.procs loaded.stands loaded.waits _ _ c.of.ensures c.in_ok-found.ensures) c.in_ok-put_waits.ensures)
