-- The references of lines.
use Rattle.std.proofs.Common.{◌≡◌, ℕ, List, ◌∷◌, ◌++◌, Option, None, Some, refl, ◌∙◌, ap}
use Rattle.std.specs.List.{filter_map, cons_option}
use Rattle.std.specs.Option.{option_to_list}
use Rattle.std.proofs.lemmas.List.Elements.{filter_map-append}
use Rattle.dump_io.specs.Lines.{raw_lines}
use Rattle.body_lines.specs.Lines.{AreWhole}
use Rattle.binary_payloads.specs.declared.enc.Enc.{Enc}
use Rattle.binary_holders.specs.Inner.Lines.{line_reference, line_references}

pub references-whole : (enc : Enc) (front more : List ℕ) → AreWhole front → line_references enc (front ++ more) ≡ line_references enc front ++ line_references enc more
references-whole enc front more whole = ap (filter_map (line_reference enc)) (whole.lines more) ∙ filter_map-append (line_reference enc) (raw_lines front) (raw_lines more)

cons-list : {Y : Type 0} (o : Option Y) (ys : List Y) → cons_option o ys ≡ option_to_list o ++ ys
cons-list None ys = refl
cons-list (Some y) ys = refl

pub one-more : {X Y : Type 0} (h : X → Option Y) (x : X) (xs : List X) → filter_map h (x ∷ xs) ≡ option_to_list (h x) ++ filter_map h xs
one-more h x xs = cons-list (h x) (filter_map h xs)
