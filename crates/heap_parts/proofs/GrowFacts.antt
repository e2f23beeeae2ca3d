-- A text of first lines that grows, and what is enough for some roots.
use Rattle.std.proofs.Common.{◌≡◌, ℕ, ◌-◌, ◌*◌, ◌<◌, ◌≤◌, Bool, true, false, if◌then◌else◌, List, [], ◌∷◌, length, take, map, get_or, Option, None, Some, refl, sym, ◌∙◌, ap, ap₂, subst, append-nil, arith}
use Rattle.std.specs.Option.{option_and_then, option_or}
use Rattle.std.proofs.lemmas.Bool.{false≢true}
use Rattle.std.proofs.lemmas.List.{length-map, get_or-map}
use Rattle.dump_io.specs.Dumps.{DeviceState, ReadsAtMost}
use Rattle.dump_io.specs.Laws.Options.{both-none}
use Rattle.dump_io.specs.Laws.Reads.{ReadsAtMost-both}
use Rattle.binary_payloads.specs.declared.enc.Enc.{Enc}
use Rattle.term_forms.specs.Seen.{element}
use Rattle.term_forms.specs.declared.shapes.Elem.{Elem}
use Rattle.term_forms.specs.declared.shapes.Elem.TheVariants.{Nil}
use Rattle.binary_refs.specs.Previews.{binaries}
use Rattle.heap_cells.specs.Cells.{Cell, first_cells, line_cells, cells_of}
use Rattle.term_unfold.specs.Parts.{IsPartOfHeap, IsEnoughOf, Known, known_in, is_told, asked_address, has_cell, asked, if_lacking, gap_at, gap_of, first_gap}
use Rattle.term_unfold.specs.declared.gaps.Asked.{Asked}
use Rattle.term_unfold.specs.Trees.{Tree, pre}
use Rattle.term_unfold.specs.Unfolding.{unfolding_of}
use Rattle.heap_parts.specs.Inner.Growing.{AreFirstLines, FindsNoGap, Grows, IsPushed, MayGrow}
use Rattle.heap_parts.specs.Parts.{IsEnoughFor}
use Rattle.heap_parts.specs.Wholes.{HasLines}
use Rattle.heap_parts.specs.declared.gathered.Source.{Source}
use Rattle.heap_parts.proofs.FirstFacts.{firsts-part, firsts-more}
use Rattle.heap_parts.proofs.CountFacts.{fewer-binaries}

-- one step after another
pub Grows-then : {from : Source} {a b c : DeviceState} {xs ys zs : List ℕ} → Grows from a b xs ys → Grows from b c ys zs → Grows from a c xs zs
Grows-then {from = from} one two =
    record {
      reads = ReadsAtMost-both one.reads two.reads (omega (arith, one.longer, two.longer));
      room = two.room;
      longer = omega (arith, one.longer, two.longer);
      firsts = λ all has firsts. two.firsts all (subst (λ now. HasLines from.lines.now now all) (sym one.reads.same_now) has) (one.firsts all has firsts);
    }

-- the first line of an address was gathered
pub Grows-pushed : (from : Source) (a b : DeviceState) (addr : ℕ) (old new kept : List ℕ)
    → ReadsAtMost a b (16 * (length new - length old)) → MayGrow from.bytes new → length old < length new
    → ((all : List Cell) → HasLines from.lines.now a.now all → IsPushed from.lines.now.enc all addr old new) → kept ≡ new
    → Grows from a b old kept
Grows-pushed from a b addr old new kept reads room longer pushed is =
    subst (Grows from a b old) (sym is) (record {
      reads = reads;
      room = room;
      longer = omega (arith, longer);
      firsts = λ all has firsts. subst (AreFirstLines all) (sym (pushed all has)) (firsts-more all (line_cells from.lines.now.enc old) addr firsts);
    })

-- ---- gaps, where more is told of the whole than it has

lacks-less : (here f g : Bool) (a : ℕ) → (f ≡ true → g ≡ true) → (if (if here then false else g) then Some a else None) ≡ None → (if (if here then false else f) then Some a else None) ≡ None
lacks-less true f g a more none = refl
lacks-less false false g a more none = refl
lacks-less false true true a more none = none
lacks-less false true false a more none = absurd (false≢true (more refl))

-- what is told of the first is told of the other
abbrev pub TellsMore : Known → Known → Type 0
TellsMore f g = (ask : Asked) → is_told f ask ≡ true → is_told g ask ≡ true

gap-ask : (f g : Known) (part : List Cell) (o : Option Asked) → TellsMore f g → option_and_then (if_lacking g part) o ≡ None → option_and_then (if_lacking f part) o ≡ None
gap-ask f g part None more none = refl
gap-ask f g part (Some ask) more none = lacks-less (has_cell part (asked_address ask)) (is_told f ask) (is_told g ask) (asked_address ask) (more ask) none

gap-nodes : (f g : Known) (part : List Cell) (nodes : List Tree) → TellsMore f g → first_gap (gap_at g part) nodes ≡ None → first_gap (gap_at f part) nodes ≡ None
gap-nodes f g part [] more none = refl
gap-nodes f g part (node ∷ nodes) more none =
    let both = both-none (gap_at g part node) (first_gap (gap_at g part) nodes) none in
    ap₂ option_or (gap-ask f g part (asked node) more both.0) (gap-nodes f g part nodes more both.1)

-- ---- what is enough

pub enough-for : (all part : List Cell) (known : Known) (roots : List Elem) (n : ℕ) (enc : Enc) (lines : List ℕ)
    → ((part whole : List Cell) → IsPartOfHeap part whole → IsEnoughOf part whole) → part ≡ cells_of enc lines [] → AreFirstLines all (line_cells enc lines)
    → TellsMore (known_in (first_cells [] all)) known → FindsNoGap known part roots n → IsEnoughFor all part (map element roots) n
enough-for all part known roots n enc lines law is firsts more none =
    let whole = first_cells [] all in
    let cells : part ≡ first_cells [] (line_cells enc lines) = is ∙ ap (first_cells []) (append-nil (line_cells enc lines)) in
    let of : IsPartOfHeap part whole = subst (λ cells. IsPartOfHeap cells whole) (sym cells) (firsts-part all (line_cells enc lines) firsts) in
    record {
      part_of = of;
      fewer = subst (λ cells. length (binaries cells) ≤ length (binaries whole)) (sym cells) (fewer-binaries all (line_cells enc lines) firsts);
      answers = λ root among dump index e marked.
          let inside : among.0 < length roots = omega (arith, among.1, length-map roots element) in
          let here : element (get_or roots among.0 Nil) ≡ root = sym (get_or-map element roots among.0 Nil root inside) ∙ among.2 in
          law part whole of dump index e root n marked
          (gap-nodes (known_in whole) known part (take n (pre (unfolding_of part root))) more (ap (λ r. gap_of known part r n) (sym here) ∙ none.none among.0 Nil inside));
    }

-- a text with no lines
pub firsts-none : (all : List Cell) (enc : Enc) (lines : List ℕ) → lines ≡ [] → AreFirstLines all (line_cells enc lines)
firsts-none all enc lines is = subst (λ l. AreFirstLines all (line_cells enc l)) (sym is) (record { each = tt })
