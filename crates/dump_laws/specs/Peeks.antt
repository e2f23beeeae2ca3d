-- `peek` reports what the commands do that load the heap, and then what a truncated dump may lack.
use Rattle.std.specs.Prelude.{◌≡◌, ◌≤◌, ◌++◌, ◌∷◌, [], ℕ, Bool, List, length, None}
use Rattle.command_words.specs.Command.{Command, on, peek_roots, peek_term, roots, term}
use Rattle.dump_command.specs.Report.{refusal, report}
use Rattle.dump_io.specs.Limits.{Numbers}
use Rattle.dump_sections.specs.Index.{dump_state, index_of}
use Rattle.dump_sections.specs.declared.index.State.TheVariants.{Whole}
use Rattle.root_views.specs.declared.kinds.RootKind.{RootKind}
use Rattle.term_text.specs.Cuts.{cut_report}
use Rattle.dump_laws.specs.Laws.{found_roots}

-- where the command `near` isn't refused on the bytes of a dump, `far` isn't either; it reports the same,
-- and then what a truncated dump may lack of these roots, of the heap and of the literals: nothing of a whole one
pub record ReportsToo (bytes pid : List ℕ) (kinds : List RootKind) (near far : Command) : Type 0 where
  pub accepted : (limits : Numbers) → refusal near bytes limits ≡ None → refusal far bytes limits ≡ None
  pub same : report far bytes ≡ report near bytes ++ cut_report (index_of bytes) pid kinds
  pub whole : dump_state (index_of bytes).headers ≡ Whole → report far bytes ≡ report near bytes

-- `peek` with an address reports what `term` of the same words does
abbrev pub PeeksTerms : Type 0
PeeksTerms = (bytes file pid : List ℕ) (addr nodes : ℕ) (marked : Bool)
    → ReportsToo bytes pid [] (on file (term pid addr nodes marked)) (on file (peek_term pid addr nodes marked))

-- `peek` of all roots of a kind reports what `stack`, `dict` or `mail` does
abbrev pub PeeksRoots : Type 0
PeeksRoots = (bytes file pid : List ℕ) (kind : RootKind) (count nodes : ℕ) (marked : Bool) → length (found_roots kind pid bytes) ≤ count
    → ReportsToo bytes pid (kind ∷ []) (on file (roots kind pid nodes marked)) (on file (peek_roots kind pid 0 count nodes marked))
