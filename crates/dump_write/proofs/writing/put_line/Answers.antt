use Rattle.std.proofs.Common.{◌∙◌}
use Rattle.dump_write.proofs.OneLine.{IsOneLine-line, is_header-line}
use Rattle.dump_write.proofs.writing.put_line.Goals as goal

pub returns-clause-one : goal.returns-clause-one
returns-clause-one c = IsOneLine-line c.args.text.now c.requires.line

pub returns-clause-no_header : goal.returns-clause-no_header
returns-clause-no_header c = is_header-line c.args.text.now c.requires.line ∙ c.requires.no_header
