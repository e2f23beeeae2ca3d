-- What hears headers, and may refuse one.
use Rattle.std.specs.Prelude.{◌≡◌, List, [], ◌∷◌, ◌++◌, length, Option, None, Some, Result, Ok, Err}
use Rattle.std.specs.Option.{option_map}
use Rattle.dump_io.specs.Lines.{Header}
use Rattle.line_source.specs.declared.header_sink.HeaderStop.{HeaderStop}
use Rattle.line_source.specs.declared.header_sink.RefusedHeader.{RefusedHeader}

-- a call with this header: it is heard after those before it, or it is refused and kept as the refused one
abbrev pub Hears : List Header → List Header → Option RefusedHeader → Header → Result (Unit {0}) HeaderStop → Type 0
Hears before after stop header (Ok done) = (after ≡ before ++ header ∷ []) × (stop ≡ None)
Hears before after stop header (Err value) =
    (after ≡ before) × (stop ≡ Some (record { value = value; at = header.at; size = length header.text }))

-- why the header was refused, if one was
abbrev pub stop_value : Option RefusedHeader → Option HeaderStop
stop_value refused = option_map (λ header. header.value) refused
