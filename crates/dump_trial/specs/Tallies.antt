-- How many roots are bad, and what a trial reports on a dump.
use Rattle.std.specs.Prelude.{ℕ, List, [], ◌∷◌, decimal, codes}
use Rattle.std.specs.List.{concat, sum_by}
use Rattle.heap_cells.specs.Cells.{Cell}
use Rattle.root_views.specs.Roots.{Content, Term, BodyRoot}
use Rattle.term_unfold.specs.declared.verdict.Verdict.{Verdict}
use Rattle.term_unfold.specs.declared.verdict.Verdict.TheVariants.{Clean, Bad}
use Rattle.term_unfold.specs.Trees.{verdict}
use Rattle.term_unfold.specs.Unfolding.{unfolding_of}
use Rattle.dump_trial.specs.declared.summary.Summary.{Summary}

-- a bad verdict counts as one
abbrev pub one_if_bad : Verdict → ℕ
one_if_bad Clean = 0
one_if_bad (Bad address why) = 1

-- a root counts as one if it is a term that has a bad address within this many nodes
abbrev pub bad_content : List Cell → ℕ → Content → ℕ
bad_content cells budget (Term e) = one_if_bad (verdict (unfolding_of cells e) budget)
bad_content cells budget content = 0

-- how many of these roots are bad
abbrev pub bad_roots : List Cell → ℕ → List BodyRoot → ℕ
bad_roots cells budget roots = sum_by (λ root. bad_content cells budget root.content) roots

-- the report of a trial: five numbers, a line each
abbrev pub trial_report : Summary → List ℕ
trial_report s =
    concat (
    codes "sections " ∷ decimal s.sections ∷ codes "\nprocesses " ∷ decimal s.processes
    ∷ codes "\nroots " ∷ decimal s.tally.roots ∷ codes "\nbad " ∷ decimal s.tally.bad
    ∷ codes "\nfindings " ∷ decimal s.findings ∷ codes "\n" ∷ []
    )
