use Rattle.std.proofs.Common.{drop, map, take, subst}
use Rattle.dump_sections.specs.Bodies.{section_at}
use Rattle.section_rows.specs.Rows.{row_of}
use Rattle.section_rows.specs.Shown.{shown_column}
use Rattle.section_rows.specs.Inner.Places.{HasGained}
use Rattle.section_rows.proofs.loaded_rows.load_split_row.Goals as goal

pub returns-clause-first : goal.returns-clause-first
returns-clause-first g c =
    let columns = take c.args.first (map shown_column c.args.columns.now) in
    record {
      body = c.in_ok-body.body.items;
      is_body = c.in_ok-body.ensures.body;
      gained = subst (λ b. HasGained c.args.split.now.first c.push_split.new.split.first (row_of columns (section_at c.args.index.now c.args.i) b)) c.as_slice.ensures.value
          (subst (λ s. HasGained c.args.split.now.first c.push_split.new.split.first (row_of columns s c.as_slice.result.now)) c.lent-section.ensures.section c.in-Ok.ensures.first);
    }

pub returns-clause-second : goal.returns-clause-second
returns-clause-second g c =
    let columns = drop c.args.first (map shown_column c.args.columns.now) in
    record {
      body = c.in_ok-body.body.items;
      is_body = c.in_ok-body.ensures.body;
      gained = subst (λ b. HasGained c.args.split.now.second c.push_split.new.split.second (row_of columns (section_at c.args.index.now c.args.i) b)) c.as_slice.ensures.value
          (subst (λ s. HasGained c.args.split.now.second c.push_split.new.split.second (row_of columns s c.as_slice.result.now)) c.lent-section.ensures.section c.in-Ok.ensures.second);
    }
