-- The texts of a text's kind lie in it as the layout of the kind tells.
use Rattle.std.proofs.Common.{◌≡◌, ℕ, ◌+◌, ◌-◌, List, ◌++◌, length, refl, sym, ◌∙◌, ap, arith, length-append, append_assoc}
use Rattle.std.specs.Prelude.{codes}
use Rattle.std.specs.List.{between}
use Rattle.std.proofs.lemmas.List.{drop_at, take-append-le, take_all}
use Rattle.link_graph.specs.Kinds.{Kind, Link, LinkPort, To, ToPort, ToName, From, FromPort, Other, Spells, to_opening, from_opening}
use Rattle.link_graph.specs.Reading.{entry_kind}
use Rattle.link_graph.specs.Inner.Layouts.{reference_in, partner_in, layout_of, IsLaidOut}
use Rattle.link_graph.proofs.KindLaws.{is_kind}

-- a front, a middle and a back
middle : (front own back : List ℕ) (from upto : ℕ) → from ≡ length front → upto ≡ length front + length own → between from upto (front ++ (own ++ back)) ≡ own
middle front own back from upto starts ends = grind (arith, drop_at, take-append-le, take_all)

-- an opening, a partner, a comma, a reference and `}`
module _ (opening partner reference : List ℕ) where
  abbrev whole : List ℕ
  whole = opening ++ (partner ++ (codes "," ++ (reference ++ codes "}")))

  size : length whole ≡ length opening + length partner + length reference + 2
  size = omega (arith, length-append opening (partner ++ (codes "," ++ (reference ++ codes "}"))), length-append partner (codes "," ++ (reference ++ codes "}")), length-append reference (codes "}"))

  partner-lies : partner_in (length opening) (length reference) whole ≡ partner
  partner-lies = middle opening partner (codes "," ++ (reference ++ codes "}")) (length opening) (length whole - 2 - length reference) refl (omega (arith, size))

  reference-lies : reference_in (length reference) whole ≡ reference
  reference-lies =
      let front : List ℕ = opening ++ (partner ++ codes ",") in
      let grouped : whole ≡ front ++ (reference ++ codes "}") =
      ap (λ t. opening ++ t) (sym (append_assoc partner (codes ",") (reference ++ codes "}"))) ∙ sym (append_assoc opening (partner ++ codes ",") (reference ++ codes "}")) in
      let count : length front ≡ length opening + length partner + 1 = omega (arith, length-append opening (partner ++ codes ","), length-append partner (codes ",")) in
      ap (between (length whole - 1 - length reference) (length whole - 1)) grouped
      ∙ middle front reference (codes "}") (length whole - 1 - length reference) (length whole - 1) (omega (arith, size, count)) (omega (arith, size, count))

-- each kind's texts lie as its layout tells
lies : (text : List ℕ) (kind : Kind) → entry_kind text ≡ kind → IsLaidOut (layout_of kind) text
lies text (Link pid) is = let spells : Spells text (Link pid) = (is_kind text (Link pid)).0 is in record { kind = ap Link spells.0 ∙ sym is; room = omega arith }
lies text LinkPort is = record { kind = sym is; room = omega arith }
lies text (To pid reference) is =
    let e = ((is_kind text (To pid reference)).0 is).spelled in
    record {
      kind = cc (partner-lies to_opening pid reference, reference-lies to_opening pid reference);
      room = omega (arith, ap length e, size to_opening pid reference);
    }
lies text ToPort is = record { kind = sym is; room = omega arith }
lies text (ToName reference) is =
    let spells : Spells text (ToName reference) = (is_kind text (ToName reference)).0 is in
    let e = spells.1.spelled in
    record {
      kind = ap (λ t. ToName (reference_in (length reference) t)) e ∙ ap ToName (reference-lies to_opening spells.0 reference) ∙ sym is;
      room = omega (arith, ap length e, size to_opening spells.0 reference);
    }
lies text (From pid reference) is =
    let e = ((is_kind text (From pid reference)).0 is).spelled in
    record {
      kind = cc (partner-lies from_opening pid reference, reference-lies from_opening pid reference);
      room = omega (arith, ap length e, size from_opening pid reference);
    }
lies text FromPort is = record { kind = sym is; room = omega arith }
lies text Other is = record { kind = sym is; room = omega arith }

pub IsLaidOut-own : (text : List ℕ) → IsLaidOut (layout_of (entry_kind text)) text
IsLaidOut-own text = lies text (entry_kind text) refl
