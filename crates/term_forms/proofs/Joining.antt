-- Elements that are written one after another.
use Rattle.std.proofs.Common.{◌≡◌, List, [], ◌∷◌, ◌++◌, Option, Result, Ok, Err, sym, ◌∙◌, ap, subst}
use Rattle.std.specs.Prelude.{ℕ, IsErr}
use Rattle.std.proofs.lemmas.List.{append_assoc, append-nil}
use Rattle.dump_io.specs.Sinks.{WritesAll}
use Rattle.dump_io.specs.Laws.Puts.{WritesAll-then, WritesAll-stopped}
use Rattle.term_forms.specs.Words.{comma}
use Rattle.term_forms.specs.Elements.{Element, plain_elem}
use Rattle.term_forms.specs.Joined.{plain_joined}

-- elements with a comma before each
abbrev pub with_commas : List Element → List ℕ
with_commas [] = []
with_commas (e ∷ es) = comma ∷ (plain_elem e ++ with_commas es)

pub joined_first : (e : Element) (es : List Element) → plain_joined (e ∷ es) ≡ plain_elem e ++ with_commas es
joined_first e [] = sym (append-nil (plain_elem e))
joined_first e (d ∷ es) = ap (λ t. plain_elem e ++ comma ∷ t) (joined_first d es)

-- a front of the text was written, and this is still to come
pub record IsUnder (before now : Option (List ℕ)) (more text : List ℕ) : Type 0 where
  pub front : List ℕ
  pub put : WritesAll {T = Unit {0}} {E = Unit {0}} before now front (Ok tt)
  pub split : text ≡ front ++ more

pub under_step : {T E : Type 0} {w v u : Option (List ℕ)} {x : T} (more part rest text : List ℕ) → IsUnder w v more text → more ≡ part ++ rest
    → WritesAll {E = E} v u part (Ok x) → IsUnder w u rest text
under_step more part rest text under e next =
    record {
      front = under.front ++ part;
      put = WritesAll-then under.put (record { whole = next.whole; front = tt });
      split = under.split ∙ ap (λ t. under.front ++ t) e ∙ sym (append_assoc under.front part rest);
    }

pub under_start : {T E : Type 0} {w u : Option (List ℕ)} {x : T} (part rest text : List ℕ) → text ≡ part ++ rest
    → WritesAll {E = E} w u part (Ok x) → IsUnder w u rest text
under_start part rest text e first = record { front = part; put = record { whole = first.whole; front = tt }; split = e }

pub under_broken : {T U E F : Type 0} {w v u : Option (List ℕ)} {e : F} {r : Result T E} (more part rest text : List ℕ) → IsUnder w v more text → more ≡ part ++ rest
    → IsErr r → WritesAll {T = U} v u part (Err e) → WritesAll w u text r
under_broken {w = w} {u = u} {r = r} more part rest text under e failed broken =
    subst (λ t. WritesAll w u t r) (sym (under.split ∙ ap (λ t. under.front ++ t) e)) (WritesAll-then under.put (WritesAll-stopped rest failed broken))

pub under_done : {T E : Type 0} {w u : Option (List ℕ)} {x : T} (more text : List ℕ) → IsUnder w u more text → more ≡ [] → WritesAll {E = E} w u text (Ok x)
under_done {T} {E} {w = w} {u = u} {x = x} more text under e =
    subst (λ t. WritesAll {T = T} {E = E} w u t (Ok x)) (sym (under.split ∙ ap (λ t. under.front ++ t) e ∙ append-nil under.front))
    (record { whole = under.put.whole; front = tt })
