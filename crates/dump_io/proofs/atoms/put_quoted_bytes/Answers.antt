use Rattle.std.proofs.lemmas.Option.{slice_get-get_or}
use Rattle.dump_io.specs.Atoms.{quoted_byte}
use Rattle.dump_io.specs.Laws.Puts.{HasPut-none, HasPut-more, Puts-broken, Puts-all}
use Rattle.dump_io.proofs.atoms.put_quoted_bytes.Goals as goal

pub loop-c-init : goal.loop-c-init
loop-c-init g c = HasPut-none

pub loop-c-preserved : goal.loop-c-preserved
loop-c-preserved g c =
    HasPut-more quoted_byte c.args.name.now c.loop-c.c-index _ (slice_get-get_or c.args.name.now c.loop-c.c-index 0 c.loop-c-test.true)
    c.loop-c.invariant c.in_ok-put_quoted_byte.ensures

pub returns-in_err-put_quoted_byte : goal.returns-in_err-put_quoted_byte
returns-in_err-put_quoted_byte g c =
    Puts-broken quoted_byte c.args.name.now c.loop-c.c-index _ (slice_get-get_or c.args.name.now c.loop-c.c-index 0 c.loop-c-test.true)
    c.loop-c.invariant c.from_residual.ensures.0 c.in_err-put_quoted_byte.ensures

pub returns : goal.returns
returns g c = Puts-all quoted_byte c.args.name.now c.loop-c.c-index c.loop-c-test.false c.loop-c.invariant
