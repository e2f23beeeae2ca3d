use Rattle.std.proofs.Common.{[], sym, ◌∙◌, ap}
use Rattle.std.specs.Option.{option_map, option_map_or}
use Rattle.dump_io.specs.Laws.Puts.{Puts-as}
use Rattle.term_forms.specs.Seen.{element}
use Rattle.term_unfold.specs.Leaves.{element_text}
use Rattle.term_unfold.proofs.Stepping.{immediate-is}
use Rattle.term_unfold.proofs.printing.put_immediate.Goals as goal

pub put_element-requires : goal.put_element-requires
put_element-requires g c = immediate-is _ (element c.in-Some.e) (sym c.immediate.ensures ∙ ap (option_map element) c.in-Some.is)

pub returns : goal.returns
returns g c =
    Puts-as (ap (λ found. option_map_or element_text found []) (ap (option_map element) (sym c.in-Some.is) ∙ c.immediate.ensures ∙ c.requires.immediate)) c.put_element.ensures
