use Rattle.std.proofs.Common.{◌≡◌, ℕ, List, ◌+◌, ◌-◌, ◌<◌, ◌≤◌, sym, ◌∙◌, ap, ap₂, arith}
use Rattle.std.specs.List.{between}
use Rattle.dump_sections.specs.Bodies.{section_at}
use Rattle.dump_sections.specs.Sections.{Section, tag_of}
use Rattle.dump_redact.specs.declared.parts.Part.TheVariants.{Binary, Other}
use Rattle.heap_cells.specs.Loading.{enc_of}
use Rattle.dump_redact.specs.Redacted.{redacted, part_of}
use Rattle.dump_redact.specs.Inner.Places.{length_between, text_between, text_of_section}
use Rattle.dump_redact.proofs.Copies.{Copies-text}
use Rattle.dump_redact.proofs.Offsets.{built-told, at-offset, end-offset, section-text, other-text}
use Rattle.dump_redact.proofs.redacting.put_large.Goals as goal

pub put_binary-requires-clause-some : goal.put_binary-requires-clause-some
put_binary-requires-clause-some g c =
    let s = section_at c.args.index.now c.args.i in
    let found = c.section-section.ensures in
    let at : s.at ≡ c.section-section.result.at = ap (λ (x : Section). x.at) found.at_place in
    let body : s.body ≡ c.section-section.result.body = ap (λ (x : Section). x.body) found.at_place in
    let end : s.end ≡ c.section-section.result.end = ap (λ (x : Section). x.end) found.at_place in
    omega (arith, at, body, end, found.short, c.requires.room, c.requires.large, at-offset c.args.index.now c.args.i c.requires.place, end-offset c.args.index.now c.args.i c.requires.place)

pub returns-in-Binary : goal.returns-in-Binary
returns-in-Binary g c =
    let s = section_at c.args.index.now c.args.i in
    let found = c.section-section.ensures in
    let at : s.at ≡ c.section-section.result.at = ap (λ (x : Section). x.at) found.at_place in
    let body : s.body ≡ c.section-section.result.body = ap (λ (x : Section). x.body) found.at_place in
    let end : s.end ≡ c.section-section.result.end = ap (λ (x : Section). x.end) found.at_place in
    let index = c.args.index.now in
    let i = c.args.i in
    let inside = c.requires.place in
    let line : s.at < s.body = omega (arith, at, body, found.begins) in
    let ends : s.body ≤ s.end = omega (arith, body, end, found.ends) in
    let named : part_of (tag_of s.text) ≡ Binary = ap (λ (x : Section). part_of (tag_of x.text)) found.at_place ∙ ap part_of (sym found.tag) ∙ sym c.in-Binary.ensures in
    let whole = λ (dump : List ℕ). text_between index i (i + 1) (redacted dump) in
    let count : s.end - s.at ≤ length_between index i (i + 1) = omega (arith, at-offset index i inside, end-offset index i inside) in
    let enc : c.enc_of-enc.result ≡ enc_of index.version = c.enc_of-enc.ensures ∙ ap enc_of c.version.ensures in
    Copies-text (length_between index i (i + 1)) whole c.put_binary.ensures (omega (arith, at, end, count)) (λ dump is.
    ap₂ (λ (x : Section) e. text_of_section e Binary x dump) (sym found.at_place) enc
    ∙ section-text index i inside line ends Binary named dump (built-told (g.D.Dumps.state c.args.dumps.now).now index dump c.requires.over is))

pub returns-in-Other : goal.returns-in-Other
returns-in-Other g c =
    let s = section_at c.args.index.now c.args.i in
    let found = c.section-section.ensures in
    let at : s.at ≡ c.section-section.result.at = ap (λ (x : Section). x.at) found.at_place in
    let body : s.body ≡ c.section-section.result.body = ap (λ (x : Section). x.body) found.at_place in
    let end : s.end ≡ c.section-section.result.end = ap (λ (x : Section). x.end) found.at_place in
    let index = c.args.index.now in
    let i = c.args.i in
    let inside = c.requires.place in
    let line : s.at < s.body = omega (arith, at, body, found.begins) in
    let ends : s.body ≤ s.end = omega (arith, body, end, found.ends) in
    let named : part_of (tag_of s.text) ≡ Other = ap (λ (x : Section). part_of (tag_of x.text)) found.at_place ∙ ap part_of (sym found.tag) ∙ sym c.in-Other.ensures in
    let whole = λ (dump : List ℕ). text_between index i (i + 1) (redacted dump) in
    let count : s.end - s.at ≤ length_between index i (i + 1) = omega (arith, at-offset index i inside, end-offset index i inside) in
    Copies-text (length_between index i (i + 1)) whole c.copy.ensures (omega (arith, at, end, count)) (λ dump is.
    ap (λ (x : Section). between x.at x.end dump) (sym found.at_place)
    ∙ other-text (enc_of index.version) s dump line ends
    ∙ section-text index i inside line ends Other named dump (built-told (g.D.Dumps.state c.args.dumps.now).now index dump c.requires.over is))
