use Rattle.std.proofs.Common.{ap}
use Rattle.std.specs.List.{flat_map}
use Rattle.dump_io.specs.Numbers.{hex_byte}
use Rattle.dump_io.specs.Laws.Puts.{Puts-then, Puts-stopped, Puts-as}
use Rattle.etf_terms.proofs.printing.put_preview.Goals as goal

pub returns-in_err-put_hex_bytes : goal.returns-in_err-put_hex_bytes
returns-in_err-put_hex_bytes g c = Puts-stopped _ c.from_residual.ensures.0 (Puts-as (ap (flat_map hex_byte) c.first_bytes.ensures) c.in_err-put_hex_bytes.ensures)

pub returns-in_err-write_all : goal.returns-in_err-write_all
returns-in_err-write_all g c =
    Puts-then (Puts-as (ap (flat_map hex_byte) c.first_bytes.ensures) c.in_ok-put_hex_bytes.ensures)
    (Puts-stopped _ c.from_residual-in_err-write_all.ensures.0 (Puts-as c.dots.ensures c.in_err-write_all.ensures.puts))

pub returns : goal.returns
returns g c =
    Puts-then (Puts-as (ap (flat_map hex_byte) c.first_bytes.ensures) c.in_ok-put_hex_bytes.ensures)
    (Puts-then (Puts-as c.dots.ensures c.in_ok-write_all.ensures.puts) c.write_all-2.ensures.puts)
