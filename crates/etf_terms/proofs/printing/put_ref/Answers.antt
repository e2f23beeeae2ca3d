use Rattle.std.proofs.Common.{◌≡◌, ℕ, List, [], ◌++◌, ap, codes, ◌∙◌, append_assoc}
use Rattle.std.specs.Prelude.{decimal}
use Rattle.dump_io.specs.Laws.Puts.{Puts-then, Puts-stopped, Puts-as}
use Rattle.dump_io.specs.Atoms.{atom_text}
use Rattle.etf_terms.specs.Text.{words_text}
use Rattle.etf_terms.proofs.printing.put_ref.Goals as goal

joined : (name : List ℕ) (n : ℕ) (more : List ℕ) → (codes "#Ref<" ++ (atom_text name ++ (codes "." ++ (decimal n ++ [])))) ++ more
    ≡ codes "#Ref<" ++ (atom_text name ++ ((codes "." ++ decimal n) ++ more))
joined name n more =
    ap (λ l. codes "#Ref<" ++ l) (append_assoc (atom_text name) _ more ∙ ap (λ l. atom_text name ++ (codes "." ++ l)) (append_assoc (decimal n) [] more))

pub returns-in_err-put_named : goal.returns-in_err-put_named
returns-in_err-put_named g c = Puts-as (joined c.args.name.now c.args.creation (words_text c.args.words.now ++ codes ">")) (Puts-stopped (words_text c.args.words.now ++ codes ">") c.from_residual.ensures.0 c.in_err-put_named.ensures)

pub returns-in_err-put_words : goal.returns-in_err-put_words
returns-in_err-put_words g c =
    Puts-as (joined c.args.name.now c.args.creation (words_text c.args.words.now ++ codes ">")) (Puts-then c.in_ok-put_named.ensures (Puts-stopped (codes ">") c.from_residual-in_err-put_words.ensures.0 c.in_err-put_words.ensures))

pub returns : goal.returns
returns g c = Puts-as (joined c.args.name.now c.args.creation (words_text c.args.words.now ++ codes ">")) (Puts-then c.in_ok-put_named.ensures (Puts-then c.in_ok-put_words.ensures c.write_all.ensures.puts))
