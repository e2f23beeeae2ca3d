-- What a sink heard of the roots of a body.
use Rattle.std.proofs.Common.{◌≡◌, ℕ, List, [], ◌∷◌, ◌++◌, refl, sym, ◌∙◌, ap, subst, append_assoc, append-nil}
use Rattle.std.specs.Prelude.{OnOk, Result, Ok, Err}
use Rattle.std.proofs.lemmas.Grind.{flat_map-append}
use Rattle.std.specs.List.{between}
use Rattle.dump_io.specs.Dumps.{Now}
use Rattle.dump_io.specs.Lines.{Line}
use Rattle.body_lines.specs.Hearing.{Hears, HearsBody}
use Rattle.body_lines.specs.Lines.{lines_at}
use Rattle.root_views.specs.Roots.{BodyRoot}
use Rattle.root_views.specs.Placed.{placed_roots}
use Rattle.root_views.specs.Inner.Each.{HearsThrough}
use Rattle.root_views.specs.Inner.Hearing.{roots_of_lines}
use Rattle.root_views.specs.declared.each_root.ByRoot.{ByRoot}
use Rattle.root_views.proofs.RunFacts.{lines-roots}

module _ {S : Type 0} (hears : S → S → List BodyRoot → Type 0) where
  -- ---- what is heard in several calls

  Hears-none : (a : S) → Hears hears a a []
  Hears-none a = record { later = λ first earlier heard. subst (hears first a) (sym (append-nil earlier)) heard }

  Hears-then : (a b c : S) (xs ys : List BodyRoot) → Hears hears a b xs → Hears hears b c ys → Hears hears a c (xs ++ ys)
  Hears-then a b c xs ys one two = record {
    later = λ first earlier heard. subst (hears first c) (append_assoc earlier xs ys) (two.later first (earlier ++ xs) (one.later first earlier heard));
  }

  -- ---- the roots of a run

  -- the roots in front of those that are left were heard
  pub record HeardFront (old new : S) (all left : List BodyRoot) : Type 0 where
    pub front : List BodyRoot
    pub parts : front ++ left ≡ all
    pub heard : Hears hears old new front

  pub HeardFront-none : (a : S) (all : List BodyRoot) → HeardFront a a all all
  HeardFront-none a all = record { front = []; parts = refl; heard = Hears-none a }

  pub HeardFront-more : (a b c : S) (all left : List BodyRoot) (root : BodyRoot) → HeardFront a b all (root ∷ left) → Hears hears b c (root ∷ []) → HeardFront a c all left
  HeardFront-more a b c all left root so_far one = record {
    front = so_far.front ++ root ∷ [];
    parts = append_assoc so_far.front (root ∷ []) left ∙ so_far.parts;
    heard = Hears-then a b c so_far.front (root ∷ []) so_far.heard one;
  }

  pub HeardFront-all : (a b : S) (all : List BodyRoot) → HeardFront a b all [] → Hears hears a b all
  HeardFront-all a b all so_far = subst (Hears hears a b) (sym (append-nil so_far.front) ∙ so_far.parts) so_far.heard

  -- ---- the roots of a body

  -- through a reference that stayed the same the sink heard these roots
  through-hears : (old new : ByRoot S) (lines : List Line) → HearsThrough hears old new lines → Hears (HearsThrough hears) old new lines
  through-hears old new lines one = record {
    later = λ first earlier had. record {
      kind = one.kind ∙ had.kind;
      same_reference = one.same_reference ∙ had.same_reference;
      heard =
          let same : roots_of_lines old.kind lines ≡ roots_of_lines first.kind lines = ap (λ k. roots_of_lines k lines) had.kind in
          subst (Hears hears first.sink.now new.sink.now) (sym (flat_map-append (λ (line : Line). placed_roots first.kind line.at line.raw) earlier lines))
          (Hears-then first.sink.now old.sink.now new.sink.now (roots_of_lines first.kind earlier) (roots_of_lines first.kind lines) had.heard
          (subst (Hears hears old.sink.now new.sink.now) same one.heard));
    };
  }

  -- so it heard those of the lines of a run
  pub run-through : {E : Type 0} (old new : ByRoot S) (at : ℕ) (run : List ℕ) (r : Result (Unit {0}) E) → new.kind ≡ old.kind → new.sink.ghost_name ≡ old.sink.ghost_name
      → OnOk r (Hears hears old.sink.now new.sink.now (placed_roots old.kind at run)) → OnOk r (Hears (HearsThrough hears) old new (lines_at at run))
  run-through old new at run (Ok done) kind name heard =
      through-hears old new (lines_at at run)
      (record { kind = kind; same_reference = name; heard = subst (Hears hears old.sink.now new.sink.now) (sym (lines-roots old.kind at run)) heard })
  run-through old new at run (Err lack) kind name heard = tt

  body-through : (old new : ByRoot S) (from upto : ℕ) (now : Now) → (body : HearsBody (HearsThrough hears) lines_at old new from upto now) → HearsThrough hears old new body.lines
  body-through old new from upto now body = body.heard.later old [] (record { kind = refl; same_reference = refl; heard = Hears-none old.sink.now })

  -- and those of a body
  pub body-heard : (old new : ByRoot S) (from upto : ℕ) (now : Now) → HearsBody (HearsThrough hears) lines_at old new from upto now
      → (new.sink.ghost_name ≡ old.sink.ghost_name) × HearsBody hears (placed_roots old.kind) old.sink.now new.sink.now from upto now
  body-heard old new from upto now body =
      let through = body-through old new from upto now body in (
        through.same_reference,
        record {
          lines = roots_of_lines old.kind body.lines;
          heard = through.heard;
          are = λ dump is. ap (roots_of_lines old.kind) (body.are dump is) ∙ lines-roots old.kind from (between from upto dump);
        },
      )
