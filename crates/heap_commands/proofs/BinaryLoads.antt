-- What `binary` has read of the section of a binary.
use Rattle.std.proofs.Common.{◌∙◌, ◌∷◌, ◌≡◌, [], ap, arith, subst, sym, Err, List, None, Ok, Result, Some, ℕ}
use Rattle.std.specs.Prelude.{IfOk}
use Rattle.std.specs.Option.{option_and_then, option_to_list, unwrap_or}
use Rattle.std.specs.Global.{Vec}
use Rattle.dump_io.specs.Dumps.{DeviceState}
use Rattle.dump_io.specs.Limits.{Numbers}
use Rattle.dump_sections.specs.Bodies.{body_of, IsBodyIn}
use Rattle.dump_sections.specs.Index.{index_of, sections_in, Contents}
use Rattle.dump_sections.specs.Loading.{LoadsBodies}
use Rattle.dump_sections.specs.Sections.{Section}
use Rattle.dump_sections.specs.declared.bodies.BodyFault.{BodyFault}
use Rattle.binary_refs.specs.Wholes.{bytes_of_body, whole_bytes}
use Rattle.heap_cells.specs.Loading.{enc_of}
use Rattle.binary_refs.specs.StoredBinaries.{binary_section}
use Rattle.dump_questions.specs.Tasks.{refusal_listed}
use Rattle.heap_commands.specs.Terms.{bad_binary, binary_cause, malformed_cause}
use Rattle.dump_questions.specs.Reading.{IsHalted, IsIndexed, ReadsFor, Takes}
use Rattle.dump_questions.specs.Stops.{stop_of_body, Judges}
use Rattle.dump_questions.specs.declared.stop.Stop.{Stop}
use Rattle.dump_questions.specs.Laws.Reading.{none-large, takes-bodies, HasRead-listed, IsHalted-bodies, IsHalted-held, IsOfBodies}
use Rattle.heap_commands.specs.Rows.{binary_row}

-- ---- what the section writes

module _ (addr : ℕ) (bytes : List ℕ) (index : Contents) (section : Section) (is : index ≡ index_of bytes) (there : binary_section addr (sections_in index) ≡ Some section) where
  -- it writes what it writes in the dump
  whole-told : whole_bytes bytes (index_of bytes) addr ≡ bytes_of_body (enc_of index.version) (body_of bytes section)
  whole-told =
      ap (λ i. whole_bytes bytes i addr) (sym is) ∙ ap (option_and_then (λ s. bytes_of_body (enc_of index.version) (body_of bytes s))) there

  -- it is malformed where it writes no bytes
  bad-told : bad_binary addr bytes ≡ malformed_cause section.at (bytes_of_body (enc_of index.version) (body_of bytes section))
  bad-told =
      ap (option_and_then (λ (s : Section). malformed_cause s.at (whole_bytes bytes (index_of bytes) addr))) (ap (λ i. binary_section addr (sections_in i)) (sym is) ∙ there)
      ∙ ap (malformed_cause section.at) whole-told

-- ---- what was read of the section

module _ {D : Type 0} (state : D → DeviceState) (b c : D) (addr : ℕ) (limits : Numbers) (index : Contents) (section : Section) (there : binary_section addr (sections_in index) ≡ Some section) where
  of-binary : IsOfBodies (binary_row addr) limits index
  of-binary = record { there = ap (binary_cause addr) there; few = λ bytes. omega arith }

  loads-binary : {T : Type 0} {result : Result T BodyFault} → LoadsBodies state (section ∷ []) limits.section b c result → LoadsBodies state (option_to_list (binary_section addr (sections_in index))) limits.section b c result
  loads-binary {result = result} loads = subst (λ ss. LoadsBodies state ss limits.section b c result) (ap option_to_list (sym there)) loads

  -- its body wasn't read
  pub IsHalted-body : {T : Type 0} (fault : BodyFault) → LoadsBodies {T = T} state (section ∷ []) limits.section b c (Err fault) → IsHalted (binary_row addr) limits index (state b) (state c) (stop_of_body fault)
  IsHalted-body fault loads = IsHalted-bodies (binary_row addr) limits index of-binary state b c fault (loads-binary loads)

  -- its body was read, and these are the bytes that it writes, or it is malformed
  pub reads-binary : {T : Type 0} (body : T) (held : List ℕ) (result : Result (Vec ℕ) Stop) → LoadsBodies state (section ∷ []) limits.section b c (Ok body) → IsBodyIn (state b).now (Some section) held
      → Judges (malformed_cause section.at (bytes_of_body (enc_of index.version) held)) result → IfOk result (λ bytes. bytes_of_body (enc_of index.version) held ≡ Some bytes.items)
      → ReadsFor (binary_row addr) limits index (state b) (state c) (λ bytes. bytes.items) result
  reads-binary body held result loads holds judged found = by result judged found
    where
      takes : Takes (binary_row addr) limits index (state b) (state c)
      takes = takes-bodies (binary_row addr) limits index of-binary state b c (Ok body) (loads-binary loads)

      listed : refusal_listed (binary_row addr) (sections_in index) limits ≡ None
      listed = none-large (binary_row addr) limits index of-binary (loads-binary loads).allowed

      same : (bytes : List ℕ) → IsIndexed bytes limits index (state b).now → held ≡ body_of bytes section
      same bytes all = subst (λ now. IsBodyIn now (Some section) held) all.opened holds

      right : (bytes : List ℕ) → IsIndexed bytes limits index (state b).now → bad_binary addr bytes ≡ malformed_cause section.at (bytes_of_body (enc_of index.version) held)
      right bytes all = rw (same bytes all) (bad-told addr bytes index section all.is there)

      by : (result : Result (Vec ℕ) Stop) → Judges (malformed_cause section.at (bytes_of_body (enc_of index.version) held)) result
          → IfOk result (λ bytes. bytes_of_body (enc_of index.version) held ≡ Some bytes.items)
          → ReadsFor (binary_row addr) limits index (state b) (state c) (λ bytes. bytes.items) result
      by (Ok given) judged found =
          HasRead-listed (binary_row addr) limits index (state b) (state c) given.items takes listed
          (λ bytes all. (
            right bytes all ∙ judged,
            ap (λ o. unwrap_or o []) (sym found ∙ ap (bytes_of_body (enc_of index.version)) (same bytes all) ∙ sym (whole-told addr bytes index section all.is there)),
          ))
      by (Err stop) judged found =
          IsHalted-held (binary_row addr) limits index (state b) (state c) (Vec ℕ) (malformed_cause section.at (bytes_of_body (enc_of index.version) held)) stop takes listed right judged
