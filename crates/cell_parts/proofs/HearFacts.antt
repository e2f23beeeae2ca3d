-- What is heard of the roots of a process, one body after another.
use Rattle.std.proofs.Common.{◌≡◌, ℕ, List, [], ◌++◌, Option, refl, sym, ◌∙◌, ap, ap₂, subst, append_assoc, append-nil}
use Rattle.std.specs.List.{between}
use Rattle.std.proofs.lemmas.List.Concat.{flat_map-append}
use Rattle.body_lines.specs.Hearing.{HearsBody}
use Rattle.dump_io.specs.Dumps.{Now}
use Rattle.dump_sections.specs.Bodies.{body_in, body_start}
use Rattle.dump_sections.specs.Sections.{Section}
use Rattle.root_views.specs.Placed.{placed_roots}
use Rattle.root_views.specs.Roots.{BodyRoot}
use Rattle.root_views.specs.Sections.{root_section}
use Rattle.root_views.specs.declared.kinds.RootKind.{RootKind}
use Rattle.root_views.specs.declared.kinds.RootKind.TheVariants.{Stack, Dict, Mail}
use Rattle.cell_parts.specs.Parts.{ArePartsOf, CellParts, PartElement}
use Rattle.cell_parts.specs.Roots.{root_elements, roots_at, roots_elements}
use Rattle.cell_parts.specs.declared.roots.RootParts.{RootParts}
use Rattle.cell_parts.specs.Inner.Hearing.{Gains, GainsAll, GainsElements, GainsSection}

-- elements behind elements
GainsElements-then : (a b c : CellParts) (xs ys : List PartElement) → GainsElements a b xs → GainsElements b c ys → GainsElements a c (xs ++ ys)
GainsElements-then a b c xs ys first second elements are = subst (λ l. ArePartsOf l c) (append_assoc elements xs ys) (second (elements ++ xs) (first elements are))

-- no root was heard
Gains-none : (roots : RootParts) → Gains roots roots []
Gains-none roots = record { skeleton = refl; parts = λ elements are. subst (λ l. ArePartsOf l roots.parts) (sym (append-nil elements)) are }

-- what a sink heard of the body of a section
pub section-gains : (old new : RootParts) (now : Now) (kind : RootKind) (from upto : ℕ) (found : Option Section) → from ≡ body_start found → ((dump : List ℕ) → between from upto dump ≡ body_in dump found)
    → HearsBody Gains (placed_roots kind) old new from upto now → GainsSection now kind found old new
section-gains old new now kind from upto found start body hears =
    let gains = hears.heard.later old [] (Gains-none old) in record {
      skeleton = gains.skeleton;
      parts = λ dump is.
          subst (λ l. GainsElements old.parts new.parts (roots_elements old.skeleton.now.addresses l)) (hears.are dump is ∙ ap₂ (placed_roots kind) start (body dump)) gains.parts;
    }

-- the elements of roots behind roots
roots-append : (addresses : List ℕ) (xs ys : List BodyRoot) → roots_elements addresses (xs ++ ys) ≡ roots_elements addresses xs ++ roots_elements addresses ys
roots-append addresses xs ys = flat_map-append (root_elements addresses) xs ys

-- the stack, the dictionary and the mailbox
pub all-gains : (a b c d : RootParts) (now now' now'' : Now) (sections : List Section) (pid : List ℕ) → now' ≡ now → now'' ≡ now → GainsSection now Stack (root_section Stack pid sections) a b
    → GainsSection now' Dict (root_section Dict pid sections) b c → GainsSection now'' Mail (root_section Mail pid sections) c d → GainsAll now sections pid a d
all-gains a b c d now now' now'' sections pid same same' stack dict mail = record {
  skeleton = mail.skeleton ∙ dict.skeleton ∙ stack.skeleton;
  parts = λ dump is.
      let addresses = a.skeleton.now.addresses in
      let first = roots_at dump Stack (root_section Stack pid sections) in
      let second = roots_at dump Dict (root_section Dict pid sections) in
      let third = roots_at dump Mail (root_section Mail pid sections) in
      let dicts = subst (λ s. GainsElements b.parts c.parts (roots_elements s.now.addresses second)) stack.skeleton (dict.parts dump (same ∙ is)) in
      let mails = subst (λ s. GainsElements c.parts d.parts (roots_elements s.now.addresses third)) (dict.skeleton ∙ stack.skeleton) (mail.parts dump (same' ∙ is)) in
      subst (GainsElements a.parts d.parts) (sym (roots-append addresses (first ++ second) third ∙ ap (λ l. l ++ roots_elements addresses third) (roots-append addresses first second)))
      (GainsElements-then a.parts c.parts d.parts _ _ (GainsElements-then a.parts b.parts c.parts _ _ (stack.parts dump is) dicts) mails);
}
