use Rattle.std.proofs.Common.{[], sym, ◌∙◌, ap}
use Rattle.std.specs.List.{between}
use Rattle.binary_holders.specs.HeapReferences.{references}
use Rattle.binary_holders.specs.Inner.HeapSinks.{cut_references}
use Rattle.binary_holders.proofs.Scans.{references-of-lines}
use Rattle.binary_holders.proofs.SinkFacts.{AddsLines-none, cut-references}
use Rattle.binary_holders.proofs.CountFacts.{Adds-as}
use Rattle.binary_holders.proofs.scanning.count_heap.Goals as goal

pub returns-in-Ok-clause-keeps : goal.returns-in-Ok-clause-keeps
returns-in-Ok-clause-keeps g c = (c.in-Ok.ensures.hears.heard.later c.args.sink.now [] (AddsLines-none c.args.sink.now)).keeps

pub returns-in-Ok-clause-adds : goal.returns-in-Ok-clause-adds
returns-in-Ok-clause-adds g c = λ dump is.
    let old = c.args.sink.now in
    let new = c.hear_body.new.sink in
    let body = c.in-Ok.ensures.hears in
    let had = body.heard.later old [] (AddsLines-none old) in
    let bytes = between c.args.from c.args.upto dump in
    Adds-as old.targets.now old.counts new.counts (cut_references old.enc body.lines) (references old.enc bytes)
    (ap (cut_references old.enc) (body.are dump is) ∙ cut-references old.enc c.number_is_read.ensures c.form_is_read.ensures.found c.args.from bytes ∙ sym (references-of-lines old.enc bytes))
    had.adds
