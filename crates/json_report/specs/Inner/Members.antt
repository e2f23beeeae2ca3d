-- What is sent to a serializer, as data.
use Rattle.std.specs.Prelude.{ℕ, List, Result, OnOk}
use Rattle.std.specs.Borrow.{Bor}
use Rattle.serde.specs.Event.{Log}
use Rattle.serde_json.specs.Data.{Data, string}
use Rattle.serde_json.specs.Events.{SendsValue}
use Rattle.json_report.specs.declared.members.Told.{Told}
use Rattle.json_report.specs.declared.members.Told.TheVariants.{Number, Word, Text}
use Rattle.json_report.specs.Trees.{num, text}

-- a call that went well sent this value
abbrev pub Sends : {T E : Type 0} → Log → Log → Data → Result T E → Type 0
Sends before after value result = OnOk result (SendsValue value before after)

-- the value of a member
abbrev pub shown_told : Told → Data
shown_told (Number n) = num n
shown_told (Word word) = string word.now
shown_told (Text bytes) = text bytes.now

-- a key and its value
abbrev pub shown_member : Bor (List ℕ) × Told → List ℕ × Data
shown_member (key, told) = (key.now, shown_told told)
