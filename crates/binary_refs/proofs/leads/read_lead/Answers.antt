use Rattle.std.proofs.Common.{◌≤◌, subst, arith}
use Rattle.dump_io.specs.Dumps.{Now}
use Rattle.dump_sections.specs.Index.{IsBuiltOver}
use Rattle.dump_sections.specs.Bodies.{section_at, body_length, body_of}
use Rattle.binary_refs.proofs.BodyFacts.{body-length, read-front}
use Rattle.binary_refs.proofs.leads.read_lead.Goals as goal

pub returns-clause-lead : goal.returns-clause-lead
returns-clause-lead g c =
    λ dump is.
    let s = section_at c.args.index.now c.args.place in
    let over = subst (λ (now : Now). IsBuiltOver now c.args.index.now) is c.requires.over in
    let within : s.end ≤ c.args.index.now.size = omega (arith, c.body_of-len.ensures.ends, c.body_of-len.ensures.within) in
    c.lead_of.ensures.lead (body_of dump s)
    (read-front (body_length s) c.min.result c.read_part.new.into (body_of dump s) (omega (arith, c.min.ensures, c.body_of-len.ensures.len)) (body-length dump c.args.index.now s over within)
    (c.in_ok-read_part.ensures.part dump is))
