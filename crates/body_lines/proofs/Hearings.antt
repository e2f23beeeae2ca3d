-- What a sink heard in several calls.
use Rattle.std.proofs.Common.{◌≡◌, ℕ, ◌+◌, List, [], ◌++◌, length, refl, sym, ◌∙◌, ap, subst, append_assoc, append-nil}
use Rattle.body_lines.specs.Lines.{AreWhole, cut_lines, lines_at}
use Rattle.body_lines.specs.Laws.{cut_lines-whole, lines_at-whole}
use Rattle.body_lines.specs.Hearing.{Hears, Stops, StopsAmong}
use Rattle.body_lines.specs.Inner.Pieces.{StopsWithin}

-- no bytes have no lines, and the lines of bytes behind whole lines stand behind the lines of these
pub record Joins {L : Type 0} (lines_of : ℕ → List ℕ → List L) : Type 0 where
  pub none : (at : ℕ) → lines_of at [] ≡ []
  pub whole : (at : ℕ) (bytes more : List ℕ) → AreWhole bytes → lines_of at (bytes ++ more) ≡ lines_of at bytes ++ lines_of (at + length bytes) more

pub Joins-cut : (kept : ℕ) → Joins (cut_lines kept)
Joins-cut kept = record { none = λ at. refl; whole = cut_lines-whole kept }

pub Joins-whole : Joins lines_at
Joins-whole = record { none = λ at. refl; whole = lines_at-whole }

module _ {S L : Type 0} (hears : S → S → List L → Type 0) where
  pub Hears-none : (a : S) → Hears hears a a []
  Hears-none a = record { later = λ first earlier heard. subst (hears first a) (sym (append-nil earlier)) heard }

  pub Hears-then : (a b c : S) (xs ys : List L) → Hears hears a b xs → Hears hears b c ys → Hears hears a c (xs ++ ys)
  Hears-then a b c xs ys one two = record {
    later = λ first earlier heard. subst (hears first c) (append_assoc earlier xs ys) (two.later first (earlier ++ xs) (one.later first earlier heard));
  }

  pub Hears-as : (a b : S) (xs ys : List L) → xs ≡ ys → Hears hears a b xs → Hears hears a b ys
  Hears-as a b xs ys same heard = subst (Hears hears a b) same heard

  module _ {T : Type 0} (stops : S → S → List L → T → Type 0) where
    pub Stops-then : (a b c : S) (xs ys : List L) (stop : T) → Hears hears a b xs → Stops hears stops b c ys stop → Stops hears stops a c (xs ++ ys) stop
    Stops-then a b c xs ys stop one two = record {
      later = λ first earlier heard. subst (λ l. stops first c l stop) (append_assoc earlier xs ys) (two.later first (earlier ++ xs) (one.later first earlier heard));
    }

    module _ (lines_of : ℕ → List ℕ → List L) (joins : Joins lines_of) where
      -- it stopped among the whole lines at the beginning of these bytes
      pub StopsWithin-whole : (at : ℕ) (a b : S) (bytes done left : List ℕ) (stop : T) → bytes ≡ done ++ left → AreWhole done
          → StopsAmong hears stops a b (lines_of at done) stop → StopsWithin hears stops lines_of a b at bytes stop
      StopsWithin-whole at a b bytes done left stop parts whole among = record {
        lines = among.heard;
        stopped = among.stopped;
        among = λ more. (
          among.rest ++ lines_of (at + length done) (left ++ more),
          ap (λ l. lines_of at (l ++ more)) parts
              ∙ ap (lines_of at) (append_assoc done left more)
              ∙ joins.whole at done (left ++ more) whole
              ∙ ap (λ l. l ++ lines_of (at + length done) (left ++ more)) among.parts
              ∙ append_assoc among.heard among.rest (lines_of (at + length done) (left ++ more)),
        );
      }

      -- it heard whole lines, and stopped among those of the bytes behind them
      pub StopsWithin-later : (at : ℕ) (a b c : S) (done bytes : List ℕ) (stop : T) → AreWhole done → Hears hears a b (lines_of at done)
          → StopsWithin hears stops lines_of b c (at + length done) bytes stop → StopsWithin hears stops lines_of a c at (done ++ bytes) stop
      StopsWithin-later at a b c done bytes stop whole heard later = record {
        lines = lines_of at done ++ later.lines;
        stopped = Stops-then a b c (lines_of at done) later.lines stop heard later.stopped;
        among = λ more. let rest = later.among more in (
          rest.0,
          ap (lines_of at) (append_assoc done bytes more)
              ∙ joins.whole at done (bytes ++ more) whole
              ∙ ap (λ l. lines_of at done ++ l) rest.1
              ∙ sym (append_assoc (lines_of at done) later.lines rest.0),
        );
      }
