use Rattle.binary_payloads.specs.declared.enc.Enc.{Enc}
use Rattle.binary_payloads.specs.declared.enc.Enc.TheVariants.{Hex, Base64}
use Rattle.dump_redact.specs.Payloads.{KeepsBinaries}
use Rattle.dump_laws.proofs.SameHeaps.{keeps-heaps, keeps-addresses}
use Rattle.dump_laws.proofs.laws.heaps_stay.Goals as goal

each : KeepsBinaries Hex → KeepsBinaries Base64 → (enc : Enc) → KeepsBinaries enc
each hex base64 Hex = hex
each hex base64 Base64 = base64

pub returns-clause-heaps : goal.returns-clause-heaps
returns-clause-heaps c =
    keeps-heaps c.sections_stay.ensures.sections c.sections_stay.ensures.index
    c.bodies_are_redacted.ensures.sections c.bodies_are_redacted.ensures.lines (each c.binaries_stay.ensures.hex c.binaries_stay.ensures.base64)

pub returns-clause-addresses : goal.returns-clause-addresses
returns-clause-addresses c =
    keeps-addresses c.sections_stay.ensures.sections c.sections_stay.ensures.index
    c.bodies_are_redacted.ensures.sections c.bodies_are_redacted.ensures.lines (each c.binaries_stay.ensures.hex c.binaries_stay.ensures.base64)
