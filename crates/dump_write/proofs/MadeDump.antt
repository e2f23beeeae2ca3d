-- A made dump is accepted, whole, and within the usual limits.
use Rattle.std.proofs.Common.{◌≡◌, ℕ, ◌+◌, ◌*◌, ◌^◌, ◌<◌, ◌≤◌, true, List, [], ◌∷◌, ◌++◌, length, take, drop, sym, ◌∙◌, ap, subst, append_assoc, arith}
use Rattle.std.specs.Prelude.{codes, All}
use Rattle.std.specs.List.{list_all, flat_map, range_with_len}
use Rattle.dump_io.specs.Limits.{usual}
use Rattle.dump_io.specs.Lines.{headers}
use Rattle.dump_sections.specs.declared.index.State.TheVariants.{Whole}
use Rattle.dump_sections.specs.Bodies.{body_length}
use Rattle.dump_sections.specs.Index.{dump_state}
use Rattle.section_index.specs.Opening.{IsAccepted}
use Rattle.dump_sections.specs.Sections.{sections}
use Rattle.dump_write.specs.Made.{made, made_texts, first_sections, made_process, last_sections}
use Rattle.dump_write.specs.Written.{is_line_text, lines_of}
use Rattle.dump_sections.specs.Laws.{length-sections_of}
use Rattle.dump_write.proofs.Accepting.{accepted, whole, bodies_are_short}
use Rattle.dump_write.proofs.Divided.{are_line_texts, header_count}
use Rattle.dump_write.proofs.MadeTexts.{made_are_texts}

module _ (seed count : ℕ) (small : seed < 2 ^ 64) (some : 1 ≤ count) (few : count ≤ 200000) where
  made_line_texts : list_all is_line_text (made_texts seed count) ≡ true
  made_line_texts = are_line_texts (made_texts seed count) (made_are_texts seed count small some few).printed

  pub made_accepted : IsAccepted (made seed count) usual
  unfolding made
  made_accepted = accepted (drop 1 (made_texts seed count)) (5 * count + 5) 85600136 (made_are_texts seed count small some few) (omega (arith, few)) (omega arith)

  -- all texts but the last
  front : List (List ℕ)
  front = first_sections seed count ++ (flat_map (made_process seed count) (range_with_len 1 count) ++ take 4 last_sections)

  last_apart : front ++ codes "=end" ∷ [] ≡ made_texts seed count
  unfolding front
  last_apart =
      let processes = flat_map (made_process seed count) (range_with_len 1 count) in
      append_assoc (first_sections seed count) (processes ++ take 4 last_sections) (codes "=end" ∷ [])
      ∙ ap (λ l. first_sections seed count ++ l) (append_assoc processes (take 4 last_sections) (codes "=end" ∷ []))

  pub made_whole : dump_state (headers (made seed count)) ≡ Whole
  unfolding made
  made_whole =
      subst (λ texts. dump_state (headers (lines_of texts)) ≡ Whole) last_apart
      (whole front (subst (λ texts. list_all is_line_text texts ≡ true) (sym last_apart) made_line_texts))

  pub made_sections : length (sections (made seed count)) ≡ 5 * count + 5
  unfolding made
  made_sections =
      length-sections_of (headers (lines_of (made_texts seed count))) (length (lines_of (made_texts seed count)))
      ∙ header_count (made_texts seed count) made_line_texts ∙ (made_are_texts seed count small some few).heads_are

  pub made_bodies : All (λ section. body_length section ≤ usual.section) (sections (made seed count))
  unfolding made
  made_bodies = bodies_are_short (made_texts seed count) (5 * count + 5) 85600136 usual.section (made_are_texts seed count small some few) (omega arith)

  pub made_size : length (made seed count) ≤ usual.dense
  unfolding made
  made_size = omega (arith, (made_are_texts seed count small some few).most)
