use Rattle.cell_ways.proofs.Lawful.{way-first, way-later, way-leads}
use Rattle.cell_ways.proofs.laws.a_way_leads.Goals as goal

pub returns : goal.returns
returns c = record { first = way-first; later = way-later; leads = way-leads }
