-- `peek` reports what the commands do that load the heap, and then what a truncated dump may lack.
use Rattle.std.proofs.Common.{◌≡◌, ◌≤◌, ℕ, zero, suc, List, [], ◌∷◌, ◌++◌, length, take, Option, None, refl, ◌∙◌, ap, append-nil, arith}
use Rattle.std.specs.Option.{option_map, option_or, option_to_list}
use Rattle.dump_io.specs.Laws.Options.{both-none}
use Rattle.report_text.specs.declared.refusals.Refusal.{Refusal}
use Rattle.report_text.specs.declared.refusals.Refusal.TheVariants.{Open}
use Rattle.dump_sections.specs.Index.{dump_state, index_of, Contents}
use Rattle.dump_sections.specs.Sections.{sections}
use Rattle.dump_sections.specs.declared.index.State.TheVariants.{Whole}
use Rattle.section_index.specs.Opening.{open_fault}
use Rattle.heap_cells.specs.DumpHeaps.{heap_map}
use Rattle.heap_cells.specs.Loading.{heap_bodies}
use Rattle.root_views.specs.Sections.{root_section}
use Rattle.root_views.specs.declared.kinds.RootKind.{RootKind}
use Rattle.term_text.specs.Cuts.{cut_report, if_truncated, loss_lines}
use Rattle.term_text.specs.Roots.{answer_over, shown_report}
use Rattle.term_unfold.specs.DumpWalks.{walk_of}
use Rattle.dump_questions.specs.Meaning.{no_process, part_in}
use Rattle.dump_questions.specs.Tasks.{too_large}
use Rattle.dump_questions.specs.Heaps.{no_address, too_dense}
use Rattle.dump_laws.specs.Laws.{found_roots}
use Rattle.command_words.specs.Command.{on, roots, term}
use Rattle.dump_command.specs.Report.{report}
use Rattle.dump_laws.specs.Peeks.{PeeksRoots, PeeksTerms}

-- where a command isn't refused for any of its causes, `peek` isn't for those that it has of them
peeks-accepted : (opening absent large dense held : Option Refusal) → option_or (option_or opening (option_or absent large)) (option_or dense held) ≡ None
    → option_or (option_or opening (option_or absent None)) held ≡ None
peeks-accepted opening absent large dense held none =
    let listed = both-none (option_or opening (option_or absent large)) (option_or dense held) none in
    let front = both-none opening (option_or absent large) listed.0 in
    let there = both-none absent large front.1 in
    let last = both-none dense held listed.1 in
    rw (front.0, there.0, last.1) refl

-- a list has no more elements than its length, from the first on
take-reaching : {A : Type 0} (xs : List A) (n : ℕ) → length xs ≤ n → take n xs ≡ xs
take-reaching [] zero few = refl
take-reaching [] (suc n) few = refl
take-reaching (x ∷ xs) zero few = absurd (omega (arith, few))
take-reaching (x ∷ xs) (suc n) few = ap (λ l. x ∷ l) (take-reaching xs n (omega (arith, few)))

-- a whole dump lacks nothing
none-lacking : (index : Contents) (pid : List ℕ) (kinds : List RootKind) (text : List ℕ) → dump_state index.headers ≡ Whole → text ++ cut_report index pid kinds ≡ text
none-lacking index pid kinds text whole = ap (λ state. text ++ if_truncated state (loss_lines index pid kinds)) whole ∙ append-nil text

pub peeks-terms : PeeksTerms
peeks-terms bytes file pid addr nodes marked = record {
  accepted = λ limits none. peeks-accepted (option_map Open (open_fault bytes limits)) (no_process pid (sections bytes)) (too_large limits.section (heap_bodies pid (sections bytes)))
      (too_dense limits.dense pid bytes) (no_address addr (heap_map pid bytes)) none;
  same = refl;
  whole = none-lacking (index_of bytes) pid [] (report (on file (term pid addr nodes marked)) bytes);
}

pub peeks-roots : PeeksRoots
peeks-roots bytes file pid kind count nodes marked few =
    let say = answer_over (walk_of pid bytes) nodes marked in
    let part = part_in (root_section kind pid) bytes in
    let all = found_roots kind pid bytes in
    let shown = ap (λ roots. shown_report say part.base roots (length all) ++ cut_report (index_of bytes) pid (kind ∷ [])) (take-reaching all count few) in
    record {
      accepted = λ limits none. peeks-accepted (option_map Open (open_fault bytes limits)) (no_process pid (sections bytes))
          (too_large limits.section (option_to_list (root_section kind pid (sections bytes)) ++ heap_bodies pid (sections bytes))) (too_dense limits.dense pid bytes) None none;
      same = shown;
      whole = λ is. shown ∙ none-lacking (index_of bytes) pid (kind ∷ []) (report (on file (roots kind pid nodes marked)) bytes) is;
    }
