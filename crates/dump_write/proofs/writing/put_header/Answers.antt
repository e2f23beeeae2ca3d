use Rattle.std.specs.Option.{option_copied}
use Rattle.dump_write.specs.Written.{header_text}
use Rattle.dump_write.proofs.OneLine.{IsOneLine-line}
use Rattle.dump_write.proofs.LineTexts.{IsHeaderOf-line}
use Rattle.dump_write.proofs.writing.put_header.Goals as goal

pub returns-clause-one : goal.returns-clause-one
returns-clause-one c = IsOneLine-line (header_text c.args.tag.now (option_copied c.args.id)) c.requires.text

pub returns-clause-header : goal.returns-clause-header
returns-clause-header c = IsHeaderOf-line c.args.tag.now (option_copied c.args.id) c.requires.no_colon c.requires.text
