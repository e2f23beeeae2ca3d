-- Columns in front of others.
use Rattle.std.proofs.Common.{◌≡◌, ℕ, List, ◌++◌, length, map, take, drop, sym, ◌∙◌, ap}
use Rattle.std.proofs.lemmas.List.{drop_at, length-map, map-append, take_at}

module _ {X Y : Type 0} (f : X → Y) (some others all : List X) (n : ℕ) (is : all ≡ some ++ others) (count : n ≡ length some) where
  long : length (map f some) ≡ n
  long = length-map some f ∙ sym count

  pub some-of : take n (map f all) ≡ map f some
  some-of = ap (λ l. take n (map f l)) is ∙ ap (take n) (map-append f some others) ∙ take_at (map f some) (map f others) n long

  pub others-of : drop n (map f all) ≡ map f others
  others-of = ap (λ l. drop n (map f l)) is ∙ ap (drop n) (map-append f some others) ∙ drop_at (map f some) (map f others) n long
