-- What the report of `info` is written of is what it says of the dump.
use Rattle.std.proofs.Common.{◌∙◌, ◌≡◌, ◌⊎◌, ap, codes, false, if◌then◌else◌, inl, inr, refl, sym, true, Bool, List, None, Some, ℕ}
use Rattle.std.specs.Str.{bytes_eq}
use Rattle.std.proofs.lemmas.Slice.Eq.{bytes_eq-Decides}
use Rattle.dump_sections.specs.Bodies.{body_in, section_in}
use Rattle.dump_sections.specs.Index.{index_of, Contents, IsIndexOf}
use Rattle.dump_sections.specs.Versions.{first_id, version_named}
use Rattle.dump_sections.specs.declared.version.Version.{Version}
use Rattle.dump_sections.specs.declared.version.Version.TheVariants.{V03, V04, V05}
use Rattle.report_text.specs.Reports.{version_text}
use Rattle.table_commands.specs.Rows.{overview_of}
use Rattle.table_commands.specs.Inner.Loads.{seen_overview}
use Rattle.dump_questions.specs.declared.subjects.Body.{Body}

chosen : (a b c : Bool) (version : Version) → (if a then Some V03 else (if b then Some V04 else (if c then Some V05 else None))) ≡ Some version
    → ((a ≡ true) × (version ≡ V03)) ⊎ ((b ≡ true) × (version ≡ V04)) ⊎ ((c ≡ true) × (version ≡ V05))
chosen true b c version is = inl (refl, let e : version ≡ V03 = cc in e)
chosen false true c version is = inr (inl (refl, let e : version ≡ V04 = cc in e))
chosen false false true version is = inr (inr (refl, let e : version ≡ V05 = cc in e))
chosen false false false version is = absurd (let no_version : ⊥ = cc in no_version)

-- the text of a version is its name
version_text-named : (id : List ℕ) (version : Version) → version_named id ≡ Some version → version_text version ≡ id
version_text-named id version is =
    elim (chosen (bytes_eq id (codes "0.3")) (bytes_eq id (codes "0.4")) (bytes_eq id (codes "0.5")) version is) [
      | inl p ↦ ap version_text p.1 ∙ sym ((bytes_eq-Decides id (codes "0.3")).0 p.0)
      | inr rest ↦ elim rest [
        | inl p ↦ ap version_text p.1 ∙ sym ((bytes_eq-Decides id (codes "0.4")).0 p.0)
        | inr p ↦ ap version_text p.1 ∙ sym ((bytes_eq-Decides id (codes "0.5")).0 p.0)
      ]
    ]

-- what is known of the index of a dump and of its first body is what `info` tells
pub overview-told : (bytes : List ℕ) (index : Contents) (body : Body) → IsIndexOf bytes index → index ≡ index_of bytes → body.bytes.items ≡ body_in bytes (section_in index (Some 0))
    → seen_overview index body ≡ overview_of bytes
overview-told bytes index body of is held = rw (held, version_text-named (first_id bytes) index.version of.version, is) refl
