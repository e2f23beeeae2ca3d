use Rattle.std.proofs.Common.{map}
use Rattle.std.specs.String.{string_bytes}
use Rattle.command_words.proofs.RangeFacts.{read-in-range}
use Rattle.command_words.proofs.words.read_words.Goals as goal

pub returns-clause-range : goal.returns-clause-range
returns-clause-range c = read-in-range c.command.result (map string_bytes c.args.words.now) c.command.ensures
