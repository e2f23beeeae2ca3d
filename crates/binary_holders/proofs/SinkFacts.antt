-- What the sink adds of lines.
use Rattle.std.proofs.Common.{◌≡◌, ℕ, ◌+◌, ◌<◌, ◌≤◌, ◌⊎◌, inl, inr, List, [], ◌∷◌, ◌++◌, length, take, map, refl, sym, ◌∙◌, ap, subst, arith}
use Rattle.std.specs.List.{filter_map}
use Rattle.std.specs.Option.{option_to_list}
use Rattle.std.proofs.lemmas.Bool.{cases_lt}
use Rattle.std.proofs.lemmas.List.{take_all, length-take-le}
use Rattle.std.proofs.lemmas.List.Elements.{filter_map-append}
use Rattle.dump_io.specs.Lines.{raw_lines, lines_from}
use Rattle.body_lines.specs.Lines.{CutLine, cut, cut_lines}
use Rattle.body_lines.specs.Hearing.{Hears}
use Rattle.binary_payloads.specs.declared.enc.Enc.{Enc}
use Rattle.binary_holders.specs.declared.heap_sink.HeapSink.{HeapSink}
use Rattle.binary_holders.specs.Inner.HeapSinks.{cut_references, AddsLines}
use Rattle.binary_holders.specs.Inner.Lines.{line_reference, line_references}
use Rattle.binary_holders.proofs.LineFacts.{one-more}
use Rattle.binary_holders.proofs.MarkFacts.{AreLed, AreForms, line-long}
use Rattle.binary_holders.proofs.CountFacts.{Adds-as, Adds-then, Adds-none, keeps-then}

-- ---- the first bytes of a line stand for it

module _ (enc : Enc) (leds : AreLed) (forms : AreForms enc) where
  cut-same : (raw : List ℕ) → line_reference enc (take 72 raw) ≡ line_reference enc raw
  cut-same raw = by (cases_lt 72 (length raw))
    where
      by : (72 < length raw) ⊎ (length raw ≤ 72) → line_reference enc (take 72 raw) ≡ line_reference enc raw
      by (inr few) = ap (line_reference enc) (take_all 72 raw few)
      by (inl many) =
          line-long enc leds forms (take 72 raw) (let size : length (take 72 raw) ≡ 72 = length-take-le 72 raw (omega (arith, many)) in omega (arith, size))
          ∙ sym (line-long enc leds forms raw (omega (arith, many)))

  raws-same : (at : ℕ) (raws : List (List ℕ)) → cut_references enc (map (cut 72) (lines_from at raws)) ≡ filter_map (line_reference enc) raws
  raws-same at [] = refl
  raws-same at (raw ∷ raws) =
      one-more (λ (line : CutLine). line_reference enc line.front) (cut 72 (record { at = at; raw = raw })) (map (cut 72) (lines_from (at + length raw) raws))
      ∙ ap (λ o. option_to_list o ++ cut_references enc (map (cut 72) (lines_from (at + length raw) raws))) (cut-same raw)
      ∙ ap (λ l. option_to_list (line_reference enc raw) ++ l) (raws-same (at + length raw) raws)
      ∙ sym (one-more (line_reference enc) raw raws)

  -- what is heard of lines says to what they refer
  pub cut-references : (at : ℕ) (bytes : List ℕ) → cut_references enc (cut_lines 72 at bytes) ≡ line_references enc bytes
  cut-references at bytes = raws-same at (raw_lines bytes)

  -- a long line refers to nothing
  pub long-none : (line : CutLine) → length line.front ≡ 72 → cut_references enc (line ∷ []) ≡ []
  long-none line long = one-more (λ (line : CutLine). line_reference enc line.front) line [] ∙ ap (λ o. option_to_list o ++ []) (line-long enc leds forms line.front (omega (arith, long)))

-- ---- several lines

pub AddsLines-none : (sink : HeapSink) → AddsLines sink sink []
AddsLines-none sink = record {
  keeps = record { enc = refl; targets = refl; room = record { turn = refl; seen = refl; holders = refl } };
  adds = Adds-none sink.targets.now sink.counts;
}

pub Hears-more : (old new : HeapSink) (lines : List CutLine) → AddsLines old new lines → Hears AddsLines old new lines
Hears-more old new lines more = record {
  later = λ first earlier had.
      let targets = first.targets.now in
      record {
        keeps = record {
          enc = more.keeps.enc ∙ had.keeps.enc;
          targets = more.keeps.targets ∙ had.keeps.targets;
          room = keeps-then first.counts old.counts new.counts had.keeps.room more.keeps.room;
        };
        adds = Adds-as targets first.counts new.counts (cut_references first.enc earlier ++ cut_references old.enc lines) (cut_references first.enc (earlier ++ lines))
            (ap (λ e. cut_references first.enc earlier ++ cut_references e lines) had.keeps.enc
            ∙ sym (filter_map-append (λ (line : CutLine). line_reference first.enc line.front) earlier lines))
            (Adds-then targets first.counts old.counts new.counts (cut_references first.enc earlier) (cut_references old.enc lines) had.adds
            (subst (λ b. Rattle.binary_holders.specs.Inner.Counting.Adds b old.counts new.counts (cut_references old.enc lines)) had.keeps.targets more.adds));
      };
}
