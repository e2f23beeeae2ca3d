use Rattle.std.proofs.Common.{◌<◌, length, All, sym, ◌∙◌, ap, subst}
use Rattle.dump_sections.specs.Index.{sections_in}
use Rattle.process_table.specs.Records.{ProcPlaces, records}
use Rattle.process_table.proofs.Building.{places-records, places-within, sections_at-records}
use Rattle.process_table.proofs.Placing.{All-records}
use Rattle.process_table.proofs.proc_sections.ProcSections.large.Goals as goal

-- the sections that are judged are those of the records
pub large-requires : goal.large-requires
large-requires c =
    let index = c.args.index.now in
    let rs = records (sections_in index) in
    subst (All (λ place. place < length index.headers))
    (sym (c.as_slice.ensures.value ∙ c.self.invariant.listed
    ∙ places-records rs c.self.inside.places.items (ap (λ (t : ProcPlaces). t.places) c.self.view_is ∙ ap (λ (t : ProcPlaces). t.places) c.requires)))
    (places-within index rs (All-records index))

pub returns : goal.returns
returns c =
    let index = c.args.index.now in
    let rs = records (sections_in index) in
    let kept =
    c.as_slice.ensures.value ∙ c.self.invariant.listed
    ∙ places-records rs c.self.inside.places.items (ap (λ (t : ProcPlaces). t.places) c.self.view_is ∙ ap (λ (t : ProcPlaces). t.places) c.requires) in
    cc (c.large.ensures, sections_at-records index rs (All-records index))
