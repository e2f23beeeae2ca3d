use Rattle.std.proofs.Common.{◌∷◌, ap, sym, ◌∙◌, subst}
use Rattle.dump_io.specs.Laws.Puts.{HasPutPart-none}
use Rattle.etf_terms.specs.Text.{text}
use Rattle.etf_terms.specs.Inner.Open.{Open}
use Rattle.etf_terms.specs.Inner.Standing.{Stands}
use Rattle.etf_terms.proofs.Stands.{root_entry, stands-root, stands-popped, moves-on, moves-broken}
use Rattle.etf_terms.proofs.printing.put_term.Goals as goal

pub loop-entry-init : goal.loop-entry-init
loop-entry-init g c =
    let entries = ap (λ (o : Open). o.entries) c.push.ensures ∙ ap (λ (o : Open). root_entry ∷ o.entries) c.clear.ensures in
    let room = ap (λ (o : Open). o.room) c.push.ensures ∙ ap (λ (o : Open). o.room) c.clear.ensures in
    record {
      room = room;
      stands = λ term p. (
        text term,
        HasPutPart-none (text term),
        subst (λ es. Stands c.push.new.self.room es c.args.bytes.now (text term)) (sym entries)
            (stands-root term c.args.bytes.now c.push.new.self.room p (room ∙ c.requires.exact term p)),
      );
    }

pub visit-requires : goal.visit-requires
visit-requires g c =
    let s = c.loop-entry.invariant.stands c.requires.some.0 c.requires.some.1 in
    record { stands = (s.0, stands-popped _ _ _ _ _ c.in-Some.ensures.top c.pop.ensures.room s.2) }

pub loop-entry-preserved : goal.loop-entry-preserved
loop-entry-preserved g c =
    let inv = c.loop-entry.invariant in
    record {
      room = c.visit.ensures.room ∙ c.pop.ensures.room ∙ inv.room;
      stands = λ term p.
          let s = inv.stands term p in
          moves-on (text term) s.0 _ _ _ s.1
          (c.in-Ok.ensures.moves s.0 (stands-popped _ _ _ _ _ c.in-Some.ensures.top c.pop.ensures.room s.2));
    }

pub returns-in-Err-clause-puts : goal.returns-in-Err-clause-puts
returns-in-Err-clause-puts g c term p =
    let inv = c.loop-entry.invariant in
    let s = inv.stands term p in
    moves-broken (text term) s.0 _ _ _ c.in-Err.failed s.1
    (c.in-Err.ensures.moves s.0 (stands-popped _ _ _ _ _ c.in-Some.ensures.top c.pop.ensures.room s.2))
