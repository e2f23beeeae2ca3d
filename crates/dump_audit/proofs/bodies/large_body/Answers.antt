use Rattle.std.proofs.Common.{sym, ◌∙◌, ap}
use Rattle.std.specs.Prelude.{is_some}
use Rattle.dump_sections.specs.Index.{sections_in}
use Rattle.dump_sections.specs.Loading.{large_fault, sections_at}
use Rattle.process_table.specs.Records.{record_sections}
use Rattle.dump_audit.specs.Mailboxes.{mailboxes_at}
use Rattle.dump_sections.specs.LoadingLaws.{large-first, large-second}
use Rattle.dump_audit.proofs.bodies.large_body.Goals as goal

pub returns-then-is_some : goal.returns-then-is_some
returns-then-is_some c =
    let sections = sections_in c.args.index.now in
    c.large-first.ensures ∙ large-first c.args.limits.now.section (record_sections sections) (mailboxes_at sections c.args.places.now.mailboxes.items)
    (ap is_some (sym c.large-first.ensures) ∙ sym c.if-is_some.ensures)

pub returns : goal.returns
returns c =
    let sections = sections_in c.args.index.now in
    c.large.ensures
    ∙ ap (λ ps. large_fault c.args.limits.now.section (sections_at c.args.index.now ps)) c.as_slice.ensures.value
    ∙ ap (large_fault c.args.limits.now.section) c.requires.present
    ∙ large-second c.args.limits.now.section (record_sections sections) (mailboxes_at sections c.args.places.now.mailboxes.items)
    (ap is_some (sym c.large-first.ensures) ∙ sym c.if-is_some.ensures)
