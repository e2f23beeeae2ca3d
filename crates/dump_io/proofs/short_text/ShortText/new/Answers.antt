use Rattle.std.proofs.Common.{ℕ, replicate, arith}
use Rattle.std.proofs.lemmas.List.{drop_all, length-replicate}
use Rattle.dump_io.proofs.short_text.ShortText.new.Goals as goal

pub returns : goal.returns
returns c = drop_all 128 (replicate {A = ℕ} 128 0) (omega (arith, length-replicate {A = ℕ} 128 0))
