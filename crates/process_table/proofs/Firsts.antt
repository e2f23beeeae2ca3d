-- The first section of each process, where sections come one after another.
use Rattle.std.proofs.Common.{◌≡◌, ℕ, ◌+◌, Bool, true, false, cond, not, ◌||◌, List, [], ◌∷◌, ◌++◌, take, filter, slice_get, Some, refl, ◌∙◌, ap, arith, if◌then◌else◌}
use Rattle.std.specs.List.{list_any}
use Rattle.std.specs.Str.{bytes_eq}
use Rattle.std.proofs.lemmas.List.{append-nil, take_more}
use Rattle.std.proofs.lemmas.List.Elements.{filter-append}
use Rattle.std.proofs.lemmas.Option.{get_or_from_slice_get, slice_get_within}
use Rattle.dump_sections.specs.Sections.{Section}
use Rattle.process_table.specs.Records.{PlacedSection, placed_sections, is_process, pid_of, process_sections, has_same_pid, first_of_each}
use Rattle.dump_io.specs.Laws.Lists.{enumerate-at}
use Rattle.dump_io.specs.Laws.Texts.{bytes_eq-same, bytes_eq-swap}

-- whether one of these sections has the pid
abbrev pub is_among : PlacedSection → List PlacedSection → Bool
is_among p sections = list_any (λ q. bytes_eq (pid_of p.1) (pid_of q.1)) sections

-- those whose pid is another's
abbrev others : PlacedSection → List PlacedSection → List PlacedSection
others first sections = filter (λ other. not (has_same_pid first other)) sections

-- where two pids differ, the sections of the one are no sections of the other
is_among-others : (first p : PlacedSection) (sections : List PlacedSection) → has_same_pid first p ≡ false → is_among p (others first sections) ≡ is_among p sections
is_among-others first p [] differ = refl
is_among-others first p (q ∷ sections) differ = grind (arith, is_among-others first p sections differ, bytes_eq-same, bytes_eq-swap)

-- a section behind the others, where it is one of the first's or not
others-more : (first p : PlacedSection) (sections : List PlacedSection) (same : Bool) → has_same_pid first p ≡ same
    → others first (sections ++ p ∷ []) ≡ (if same then others first sections else others first sections ++ p ∷ [])
others-more first p sections same e = grind (arith, filter-append, append-nil)

step : (first p : PlacedSection) (firsts : List PlacedSection) → first ∷ others first (if is_among p firsts then firsts else firsts ++ p ∷ [])
    ≡ (if is_among p (first ∷ others first firsts) then first ∷ others first firsts else (first ∷ others first firsts) ++ p ∷ [])
step first p firsts = by (has_same_pid first p) (is_among p firsts) refl refl
  where
    own : (b : Bool) → has_same_pid first p ≡ b → bytes_eq (pid_of p.1) (pid_of first.1) ≡ b
    own b e = bytes_eq-swap (pid_of p.1) (pid_of first.1) ∙ e

    by : (b c : Bool) → has_same_pid first p ≡ b → is_among p firsts ≡ c
        → first ∷ others first (if is_among p firsts then firsts else firsts ++ p ∷ [])
        ≡ (if is_among p (first ∷ others first firsts) then first ∷ others first firsts else (first ∷ others first firsts) ++ p ∷ [])
    by b c e f =
        let test : is_among p (first ∷ others first firsts) ≡ (b || c) = join b e in
        cc (ends b c e)
      where
        join : (b : Bool) → has_same_pid first p ≡ b → is_among p (first ∷ others first firsts) ≡ (b || c)
        join true e = ap (λ x. x || is_among p (others first firsts)) (own true e)
        join false e = ap (λ x. x || is_among p (others first firsts)) (own false e) ∙ is_among-others first p firsts e ∙ f

        ends : (b c : Bool) → has_same_pid first p ≡ b → first ∷ others first (if c then firsts else firsts ++ p ∷ [])
            ≡ (if b || c then first ∷ others first firsts else (first ∷ others first firsts) ++ p ∷ [])
        ends true true e = refl
        ends false true e = refl
        ends true false e = ap (λ l. first ∷ l) (others-more first p firsts true e)
        ends false false e = ap (λ l. first ∷ l) (others-more first p firsts false e)

-- a further section counts where its pid isn't there yet
pub first_of_each-more : (sections : List PlacedSection) (p : PlacedSection)
    → first_of_each (sections ++ p ∷ []) ≡ (if is_among p (first_of_each sections) then first_of_each sections else first_of_each sections ++ p ∷ [])
first_of_each-more [] p = refl
first_of_each-more (first ∷ sections) p = ap (λ l. first ∷ others first l) (first_of_each-more sections p) ∙ step first p (first_of_each sections)

-- the section at a place, with its place
pub placed-at : (sections : List Section) (i : ℕ) (s : Section) → slice_get sections i ≡ Some s → slice_get (placed_sections sections) i ≡ Some (i, s)
placed-at sections i s is = let zero_more : 0 + i ≡ i = omega arith in enumerate-at 0 sections i s is ∙ ap (λ k. Some (k, s)) zero_more

-- one section more
pub take-placed : (sections : List Section) (i : ℕ) (s : Section) → slice_get sections i ≡ Some s → take (i + 1) (placed_sections sections) ≡ take i (placed_sections sections) ++ (i, s) ∷ []
take-placed sections i s is =
    let at = placed-at sections i s is in
    take_more (placed_sections sections) i (i, s) (slice_get_within (placed_sections sections) i (i, s) at)
    ∙ ap (λ p. take i (placed_sections sections) ++ p ∷ []) (get_or_from_slice_get (placed_sections sections) i (i, s) (i, s) at)

-- a further section, which is that of a process or not
pub process_sections-more : (sections : List PlacedSection) (p : PlacedSection) → process_sections (sections ++ p ∷ []) ≡ process_sections sections ++ cond (is_process p.1) (p ∷ []) []
process_sections-more sections p = filter-append (λ q. is_process q.1) sections (p ∷ [])
