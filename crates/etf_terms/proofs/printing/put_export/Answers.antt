use Rattle.std.proofs.Common.{◌≡◌, ℕ, List, ◌++◌, ap, codes, append_assoc}
use Rattle.std.specs.Prelude.{decimal}
use Rattle.dump_io.specs.Laws.Puts.{Puts-then, Puts-stopped, Puts-as}
use Rattle.dump_io.specs.Atoms.{atom_text}
use Rattle.etf_terms.proofs.printing.put_export.Goals as goal

joined : (name more : List ℕ) → (codes "fun " ++ (atom_text name ++ codes ":")) ++ more ≡ codes "fun " ++ (atom_text name ++ (codes ":" ++ more))
joined name more = ap (λ l. codes "fun " ++ l) (append_assoc (atom_text name) _ more)

pub returns-in_err-put_named : goal.returns-in_err-put_named
returns-in_err-put_named g c = Puts-as (joined c.args.name.now (atom_text c.args.function.now ++ (codes "/" ++ decimal c.args.arity))) (Puts-stopped (atom_text c.args.function.now ++ (codes "/" ++ decimal c.args.arity)) c.from_residual.ensures.0 c.in_err-put_named.ensures)

pub returns-in_err-put_atom : goal.returns-in_err-put_atom
returns-in_err-put_atom g c =
    Puts-as (joined c.args.name.now (atom_text c.args.function.now ++ (codes "/" ++ decimal c.args.arity))) (Puts-then c.in_ok-put_named.ensures (Puts-stopped (codes "/" ++ decimal c.args.arity) c.from_residual-in_err-put_atom.ensures.0 c.in_err-put_atom.ensures))

pub returns : goal.returns
returns g c = Puts-as (joined c.args.name.now (atom_text c.args.function.now ++ (codes "/" ++ decimal c.args.arity))) (Puts-then c.in_ok-put_named.ensures (Puts-then c.in_ok-put_atom.ensures c.put_led.ensures))
