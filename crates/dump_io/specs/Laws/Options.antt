-- Values that may be missing.
use Rattle.std.proofs.Common.{◌≡◌, ℕ, ◌<◌, Bool, true, false, Option, None, Some, refl}
use Rattle.std.specs.Prelude.{IfSome, cond, is_some, nat_lt}
use Rattle.std.specs.Option.{option_map, option_or}
use Rattle.std.proofs.lemmas.Bool.{ltb-true}

-- what isn't there is none
pub none-where : {X : Type 0} (o : Option X) → is_some o ≡ false → o ≡ None
none-where None is = refl
none-where (Some x) is = absurd (let no : ⊥ = cc (is) in no)

-- what is no value is none
pub none-of : {X : Type 0} (o : Option X) → ((x : X) → o ≡ Some x → ⊥) → o ≡ None
none-of None never = refl
none-of (Some x) never = absurd (never x refl)

-- an image is there exactly where the value is
pub is_some-map : {X Y : Type 0} (f : X → Y) (o : Option X) → is_some (option_map f o) ≡ is_some o
is_some-map f None = refl
is_some-map f (Some x) = refl

-- where there is no image there is no value
pub none-map : {X Y : Type 0} (f : X → Y) (o : Option X) → option_map f o ≡ None → o ≡ None
none-map f None is = refl
none-map f (Some x) is = absurd (let no : ⊥ = cc (is) in no)

-- the first of two values: the first, if it is there
pub or-some : {X : Type 0} (o more : Option X) → is_some o ≡ true → option_or o more ≡ o
or-some None more is = absurd (let no : ⊥ = cc (is) in no)
or-some (Some x) more is = refl

-- otherwise the second
pub or-second : {X : Type 0} (o more : Option X) → is_some o ≡ false → option_or o more ≡ more
or-second None more is = refl
or-second (Some x) more is = absurd (let no : ⊥ = cc (is) in no)

-- the first alone
pub or-none : {X : Type 0} (o : Option X) → option_or o None ≡ o
or-none None = refl
or-none (Some x) = refl

-- neither
pub both-none : {X : Type 0} (o more : Option X) → option_or o more ≡ None → (o ≡ None) × (more ≡ None)
both-none None more none = (refl, none)
both-none (Some x) more none = absurd (let no : ⊥ = cc (none) in no)

-- a number that is given only below a bound
pub below-bound : (n size : ℕ) (b : Bool) → nat_lt n size ≡ b → IfSome (cond b (Some n) None) (λ i. i < size)
below-bound n size true is = ltb-true n size is
below-bound n size false is = tt
