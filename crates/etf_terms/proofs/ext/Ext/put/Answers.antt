use Rattle.std.proofs.Common.{◌∷◌, sym, ap, ◌∙◌, refl}
use Rattle.dump_io.specs.Laws.Puts.{Puts-as}
use Rattle.etf_terms.specs.Held.{Held}
use Rattle.etf_terms.specs.Reading.{external_text}
use Rattle.etf_terms.proofs.Computed.{reads-all}
use Rattle.etf_terms.proofs.ext.Ext.put.Goals as goal

pub returns-clause-writes : goal.returns-clause-writes
returns-clause-writes g c =
    let term = c.self.invariant.some in
    let rest = c.self.inside.bytes.now in
    Puts-as (sym (reads-all (131 ∷ rest) term.0 (rest, refl, term.1)) ∙ ap (λ (h : Held). external_text h.bytes) c.self.view_is) (c.put_term.ensures.puts term.0 term.1)
