use Rattle.std.proofs.Common.{ℕ, List}
use Rattle.dump_io.specs.Laws.Puts.{Puts-then, Puts-stopped, Puts-as}
use Rattle.std.specs.Option.{option_map}
use Rattle.std.specs.Borrow.{Bor}
use Rattle.term_unfold.proofs.Sized.{sized-parts}
use Rattle.term_unfold.proofs.leaves.put_sized.Goals as goal

pub returns-in_err-put_pieces : goal.returns-in_err-put_pieces
returns-in_err-put_pieces g c = Puts-as (sized-parts c.args.word.now c.args.size (option_map (λ (b : Bor (List ℕ)). b.now) c.args.preview)) (Puts-stopped _ c.from_residual.ensures.0 c.in_err-put_pieces.ensures)

pub returns-in_err-put_preview : goal.returns-in_err-put_preview
returns-in_err-put_preview g c =
    Puts-as (sized-parts c.args.word.now c.args.size (option_map (λ (b : Bor (List ℕ)). b.now) c.args.preview)) (Puts-then c.in_ok-put_pieces.ensures (Puts-stopped _ c.from_residual-in_err-put_preview.ensures.0 c.in_err-put_preview.ensures))

pub returns : goal.returns
returns g c =
    Puts-as (sized-parts c.args.word.now c.args.size (option_map (λ (b : Bor (List ℕ)). b.now) c.args.preview)) (Puts-then c.in_ok-put_pieces.ensures (Puts-then c.in_ok-put_preview.ensures c.write_all.ensures.puts))
