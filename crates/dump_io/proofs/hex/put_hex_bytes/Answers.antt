use Rattle.std.proofs.lemmas.Option.{slice_get-get_or}
use Rattle.dump_io.specs.Numbers.{hex_byte}
use Rattle.dump_io.specs.Laws.Puts.{HasPut-none, HasPut-more, Puts-as, Puts-broken, Puts-all}
use Rattle.dump_io.proofs.hex.put_hex_bytes.Goals as goal

pub loop-c-init : goal.loop-c-init
loop-c-init g c = HasPut-none

pub loop-c-preserved : goal.loop-c-preserved
loop-c-preserved g c =
    HasPut-more hex_byte c.args.bytes.now c.loop-c.c-index _ (slice_get-get_or c.args.bytes.now c.loop-c.c-index 0 c.loop-c-test.true)
    c.loop-c.invariant (Puts-as c.hex_pair.ensures c.in_ok-write_all.ensures.puts)

pub returns-in_err-write_all : goal.returns-in_err-write_all
returns-in_err-write_all g c =
    Puts-broken hex_byte c.args.bytes.now c.loop-c.c-index _ (slice_get-get_or c.args.bytes.now c.loop-c.c-index 0 c.loop-c-test.true)
    c.loop-c.invariant c.from_residual.ensures.0 (Puts-as c.hex_pair.ensures c.in_err-write_all.ensures.puts)

pub returns : goal.returns
returns g c = Puts-all hex_byte c.args.bytes.now c.loop-c.c-index c.loop-c-test.false c.loop-c.invariant
