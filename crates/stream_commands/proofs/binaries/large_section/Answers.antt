use Rattle.std.proofs.Common.{◌∙◌, ap, sym}
use Rattle.std.specs.Option.{option_or, option_to_list}
use Rattle.dump_sections.specs.Index.{sections_in}
use Rattle.dump_sections.specs.Loading.{large_fault}
use Rattle.dump_sections.specs.LoadingLaws.{large-append}
use Rattle.dump_questions.specs.Meaning.{memory_body}
use Rattle.process_table.specs.Records.{record_sections}
use Rattle.stream_commands.proofs.binaries.large_section.Goals as goal

pub returns : goal.returns
returns c =
    let limit = c.args.at.now.limits.now.section in
    let ss = sections_in c.args.at.now.index.now in
    c.or.ensures ∙ ap (λ o. option_or o c.large-procs.result) c.large_body-memory.ensures.fault
    ∙ ap (λ s. option_or (large_fault limit (option_to_list s)) c.large-procs.result) c.requires.memory
    ∙ ap (option_or (large_fault limit (memory_body ss))) c.large-procs.ensures ∙ sym (large-append limit (memory_body ss) (record_sections ss))
