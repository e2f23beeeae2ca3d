use Rattle.std.proofs.Common.{refl, Some}
use Rattle.dump_sections.specs.Bodies.{section_in}
use Rattle.table_commands.specs.Inner.Loads.{seen_overview}
use Rattle.dump_questions.specs.Laws.Reading.{alone, ReadsFor-found}
use Rattle.table_commands.proofs.Overviews.{overview-told}
use Rattle.table_commands.specs.Rows.{info_row}
use Rattle.table_commands.proofs.info.InfoReport.read.Goals as goal

pub returns-clause-reads : goal.returns-clause-reads
returns-clause-reads g c =
    let index = c.args.at.now.index.now in
    rw c.or_stop.ensures (ReadsFor-found info_row _ index (alone _ _) g.D.Dumps.state _ _ (section_in index (Some 0)) refl (λ _. refl) (seen_overview index) _ c.read_found.ensures.loads c.read_found.ensures.body
    (λ body bytes all base items. overview-told bytes index body all.of all.is items))
