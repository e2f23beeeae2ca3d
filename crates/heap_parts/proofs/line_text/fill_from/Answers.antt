use Rattle.std.proofs.Common.{◌-◌, length, arith, subst, length-drop}
use Rattle.std.proofs.lemmas.List.{length-take-le}
use Rattle.std.proofs.lemmas.Result.{on_ok_weaker}
use Rattle.std.specs.Prelude.{drop}
use Rattle.dump_io.specs.Dumps.{Gives}
use Rattle.heap_parts.proofs.ReadFacts.{filled-behind}
use Rattle.heap_parts.proofs.line_text.fill_from.Goals as goal

pub returns-clause-filled : goal.returns-clause-filled
returns-clause-filled g c = on_ok_weaker c.read_full.result (λ gives dump is.
    let bytes = c.args.bytes.now in
    let size = length bytes - c.args.from in
    filled-behind c.args.from c.args.at bytes c.read_full.new.into dump c.requires.place
    (omega (arith, c.read_full.auto.into, length-drop c.args.from bytes, length-take-le size (drop c.args.from bytes) (omega (arith, length-drop c.args.from bytes))))
    (subst (λ now. Gives now c.args.at c.read_full.new.into) is gives))
    c.read_full.ensures.filled
