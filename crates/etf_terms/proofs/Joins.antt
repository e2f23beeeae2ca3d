-- The readers read what the table lays out, and what a layout begins can be gone on with.
use Rattle.std.proofs.Common.{◌≡◌, ℕ, zero, suc, ◌*◌, ◌<◌, ◌==◌, nat_le, Bool, true, false, cond, ◌||◌, List, [], ◌∷◌, length, take, drop, Ok, Err, refl, sym, ap, ◌∙◌, arith, le-leb}
use Rattle.std.specs.Int.{w16, w32, w64, from_be_bytes}
use Rattle.etf_terms.specs.Heads.{Head, Float, Bits, Pid, Port, Ref, Big, Fun, Export}
use Rattle.etf_terms.specs.Layouts.{Layout, end, byte, any_byte, run, number2, number4, number8}
use Rattle.etf_terms.specs.Table.{head_layout, sized, atom, small, integer, pid_with, pid, sign, bits}
use Rattle.etf_terms.specs.Inner.Parts.{Parsed, ◌>>=◌, byte_of, run_of, number2_of, number4_of, number8_of, sized1_of, sized2_of, sized4_of, atom_of, small_of, integer_of, creation_of, pid_with_of, pid_of, sign_of, part_of, float_of, bits_of, port_with_of, port120_of, ref_with_of, big_of, small_big_of, large_big_of, owner_of, closure_of, export_of, parsed, head_of}
use Rattle.etf_terms.specs.Inner.Walks.{Reading, Off, reading}

-- some byte may stand wherever one has to, and so on behind it
abbrev pub Live : Layout → Type 0
Live (end head) = Unit {0}
Live (byte test next) = (b : ℕ) × (b < 256) × (test b ≡ true) × ((c : ℕ) → test c ≡ true → Live (next c))

-- the same as a record, from which a layout can be inferred
pub record IsLive (l : Layout) : Type 0 where
  pub is : Live l

-- what is read by a part, and then by what it leads to
abbrev onward : {A : Type 0} → (A → Layout) → A × List ℕ → Parsed Head
onward next got = parsed (reading (next got.0) got.1)

-- a part of a layout is read by its reader, and is live
pub record Joins {A : Type 0} (laid : (A → Layout) → Layout) (read : List ℕ → Parsed A) : Type 0 where
  pub join : (next : A → Layout) (bytes : List ℕ) → parsed (reading (laid next) bytes) ≡ (read bytes >>= onward next)
  pub live : (next : A → Layout) → ((a : A) → IsLive (next a)) → IsLive (laid next)

-- the same behind a byte, if that passes a test
record JoinsIf {A : Type 0} (t : Bool) (laid : (A → Layout) → Layout) (read : List ℕ → Parsed A) : Type 0 where
  join : (next : A → Layout) (bytes : List ℕ) → cond t (parsed (reading (laid next) bytes)) (Err (suc (length bytes))) ≡ (read bytes >>= onward next)
  live : (next : A → Layout) → ((a : A) → IsLive (next a)) → IsLive (laid next)

-- what is read by two equal readings is equal, and none of them fails
pub same-ok : {A : Type 0} → (x y : A) (r s : List ℕ) → ◌≡◌ {A = Parsed A} (Ok (x, r)) (Ok (y, s)) → (x ≡ y) × (r ≡ s)
same-ok {A} x y r s e = let same : ◌≡◌ {A = A × List ℕ} (x, r) (y, s) = cc in (ap (λ p. p.0) same, ap (λ p. p.1) same)

pub not-err : {A : Type 0} → (x : A × List ℕ) (left : ℕ) → ◌≡◌ {A = Parsed A} (Ok x) (Err left) → ⊥
not-err x left e = cc

-- ---- how parts are joined

-- a value for which no byte is read
done : {A : Type 0} → (a : A) → Joins (λ (next : A → Layout). next a) (λ bytes. Ok (a, bytes))
done a = record { join = λ next bytes. refl; live = λ next f. f a }

bind-on : {A B C : Type 0} → (m : Parsed A) (f : A × List ℕ → Parsed C) (g : A × List ℕ → Parsed B) (h : B × List ℕ → Parsed C) → ((x : A × List ℕ) → f x ≡ (g x >>= h))
    → (m >>= f) ≡ ((m >>= g) >>= h)
bind-on (Ok x) f g h e = e x
bind-on (Err left) f g h e = refl

-- a part, and one that depends on what it reads
then : {A B : Type 0} {laid : (A → Layout) → Layout} {read : List ℕ → Parsed A} {on : A → (B → Layout) → Layout} {behind : A → List ℕ → Parsed B}
    → Joins laid read → ((a : A) → Joins (on a) (behind a)) → Joins (λ next. laid (λ a. on a next)) (λ bytes. read bytes >>= λ got. behind got.0 got.1)
then {A} {B} {laid} {read} {on} {behind} p q = record {
  join = λ next bytes. p.join (λ a. on a next) bytes ∙ bind-on (read bytes) _ (λ got. behind got.0 got.1) (onward next) (λ got. (q got.0).join next got.1);
  live = λ next f. p.live (λ a. on a next) (λ a. (q a).live next f);
}

read-as : {A : Type 0} {laid : (A → Layout) → Layout} {read other : List ℕ → Parsed A} → ((bytes : List ℕ) → read bytes ≡ other bytes) → Joins laid read → Joins laid other
read-as e p = record { join = λ next bytes. p.join next bytes ∙ ap (λ m. m >>= onward next) (e bytes); live = p.live }

-- the last tag, and one before others
last : {A : Type 0} {laid : (A → Layout) → Layout} {read : List ℕ → Parsed A} → (t : Bool) → Joins laid read
    → JoinsIf t laid (λ bytes. cond t (read bytes) (Err (suc (length bytes))))
last true p = record { join = p.join; live = p.live }
last false p = record { join = λ next bytes. refl; live = p.live }

or : {A : Type 0} {u : Bool} {k l : (A → Layout) → Layout} {a b : List ℕ → Parsed A} → (t : Bool) → Joins k a → JoinsIf u l b
    → JoinsIf (t || u) (λ next. cond t (k next) (l next)) (λ bytes. cond t (a bytes) (b bytes))
or true p q = record { join = p.join; live = p.live }
or false p q = record { join = q.join; live = q.live }

pub parsed-cond : (t : Bool) (a b : Reading) → parsed (cond t a b) ≡ cond t (parsed a) (parsed b)
parsed-cond true a b = refl
parsed-cond false a b = refl

-- a byte that passes a test, as this one does
first : {A : Type 0} → (test : ℕ → Bool) (laid : ℕ → (A → Layout) → Layout) (read : List ℕ → Parsed A) (b : ℕ) → b < 256 → test b ≡ true → Err 0 ≡ read []
    → ((c : ℕ) → JoinsIf (test c) (laid c) (λ bytes. read (c ∷ bytes))) → Joins (λ next. byte test (λ c. laid c next)) read
first {A} test laid read b few passes none p = record { join = join; live = λ next f. record { is = (b, few, passes, λ c _. ((p c).live next f).is) } } where
  join : (next : A → Layout) (bytes : List ℕ) → parsed (reading (byte test (λ c. laid c next)) bytes) ≡ (read bytes >>= onward next)
  join next [] = ap (λ m. m >>= onward next) none
  join next (c ∷ bytes) = parsed-cond (test c) (reading (laid c next) bytes) (Off (c ∷ bytes)) ∙ (p c).join next bytes

-- ---- the parts

pub any-joins : Joins any_byte byte_of
unfolding byte_of
any-joins = first (λ c. true) (λ c next. next c) byte_of 0 (omega arith) refl refl (λ c. last true (done c))

le-suc : (m n : ℕ) → nat_le (suc m) (suc n) ≡ nat_le m n
le-suc m n = grind arith

too-many : (n : ℕ) → nat_le (suc n) 0 ≡ false
too-many n = grind arith

run-empty : (bytes : List ℕ) → Ok ([], bytes) ≡ run_of 0 bytes
unfolding run_of
run-empty bytes = sym (ap (λ t. cond t (Ok ([], bytes)) (Err 0)) (le-leb 0 (length bytes) (omega arith)))

run-more : (n : ℕ) (bytes : List ℕ) → (byte_of bytes >>= λ b. run_of n b.1 >>= λ got. Ok (b.0 ∷ got.0, got.1)) ≡ run_of (suc n) bytes
unfolding byte_of run_of
run-more n [] = sym (ap (λ t. cond t (Ok ([], [])) (Err 0)) (too-many n))
run-more n (b ∷ bytes) = bind-cond (nat_le n (length bytes)) ∙ sym (ap (λ t. cond t (Ok (b ∷ take n bytes, drop n bytes)) (Err 0)) (le-suc n (length bytes))) where
  bind-cond : (t : Bool) → (cond t (Ok (take n bytes, drop n bytes)) (Err 0) >>= λ got. Ok (b ∷ got.0, got.1)) ≡ cond t (Ok (b ∷ take n bytes, drop n bytes)) (Err 0)
  bind-cond true = refl
  bind-cond false = refl

run-joins : (n : ℕ) → Joins (run n) (run_of n)
run-joins zero = read-as run-empty (done [])
run-joins (suc n) = read-as (run-more n) (then any-joins (λ b. then (run-joins n) (λ bytes. done (b ∷ bytes))))

number2-joins : Joins number2 number2_of
unfolding number2_of
number2-joins = then (run-joins 2) (λ two. done (from_be_bytes w16 two))

pub number4-joins : Joins number4 number4_of
unfolding number4_of
number4-joins = then (run-joins 4) (λ four. done (from_be_bytes w32 four))

number8-joins : Joins number8 number8_of
unfolding number8_of
number8-joins = then (run-joins 8) (λ eight. done (from_be_bytes w64 eight))

pub sized1-joins : Joins (sized any_byte) sized1_of
unfolding sized1_of
sized1-joins = then any-joins run-joins

pub sized2-joins : Joins (sized number2) sized2_of
unfolding sized2_of
sized2-joins = then number2-joins run-joins

pub sized4-joins : Joins (sized number4) sized4_of
unfolding sized4_of
sized4-joins = then number4-joins run-joins

atom-joins : Joins atom atom_of
unfolding atom_of
atom-joins =
    first _ (λ tag next. cond (tag == 100) (sized number2 next) (cond (tag == 115) (sized any_byte next) (cond (tag == 118) (sized number2 next) (sized any_byte next)))) atom_of 119 (omega arith) refl refl
    (λ tag. or (tag == 100) sized2-joins (or (tag == 115) sized1-joins (or (tag == 118) sized2-joins (last (tag == 119) sized1-joins))))

small-joins : Joins small small_of
unfolding small_of
small-joins = first _ (λ tag. any_byte) small_of 97 (omega arith) refl refl (λ tag. last (tag == 97) any-joins)

integer-joins : Joins integer integer_of
unfolding integer_of
integer-joins =
    first _ (λ tag next. cond (tag == 97) (run 1 next) (run 4 next)) integer_of 97 (omega arith) refl refl
    (λ tag. or (tag == 97) (run-joins 1) (last (tag == 98) (run-joins 4)))

-- a creation in four bytes, or in one
abbrev pub creation : Bool → (ℕ → Layout) → Layout
creation wide next = cond wide (number4 next) (any_byte next)

creation-joins : (wide : Bool) → Joins (creation wide) (creation_of wide)
unfolding creation_of
creation-joins true = read-as (λ bytes. refl) number4-joins
creation-joins false = read-as (λ bytes. refl) any-joins

pub pid_with-joins : (wide : Bool) → Joins (pid_with (creation wide)) (pid_with_of wide)
unfolding pid_with_of
pid_with-joins wide = then atom-joins (λ name. then number4-joins (λ id. then number4-joins (λ serial. then (creation-joins wide) (λ c. done (Pid name id serial c)))))

pid-joins : Joins pid pid_of
unfolding pid_of
pid-joins =
    first _ (λ tag next. cond (tag == 88) (pid_with number4 next) (pid_with any_byte next)) pid_of 88 (omega arith) refl refl
    (λ tag. or (tag == 88) (pid_with-joins true) (last (tag == 103) (pid_with-joins false)))

sign-joins : Joins sign sign_of
unfolding sign_of
sign-joins = first _ (λ b next. next b) sign_of 0 (omega arith) refl refl (λ b. last _ (done b))

part-joins : Joins bits part_of
unfolding part_of
part-joins = first _ (λ b next. next b) part_of 1 (omega arith) refl refl (λ b. last _ (done b))

-- ---- what follows a tag

pub float-joins : Joins (λ next. run 8 (λ bytes. next (Float bytes))) float_of
unfolding float_of
float-joins = then (run-joins 8) (λ bytes. done (Float bytes))

pub bits-joins : Joins (λ next. number4 (λ n. bits (λ b. run n (λ bytes. next (Bits b bytes))))) bits_of
unfolding bits_of
bits-joins = then number4-joins (λ n. then part-joins (λ b. then (run-joins n) (λ bytes. done (Bits b bytes))))

pub port_with-joins : (wide : Bool) → Joins (λ next. atom (λ name. number4 (λ id. creation wide (λ c. next (Port name id c))))) (port_with_of wide)
unfolding port_with_of
port_with-joins wide = then atom-joins (λ name. then number4-joins (λ id. then (creation-joins wide) (λ c. done (Port name id c))))

pub port120-joins : Joins (λ next. atom (λ name. number8 (λ id. number4 (λ creation. next (Port name id creation))))) port120_of
unfolding port120_of
port120-joins = then atom-joins (λ name. then number8-joins (λ id. then number4-joins (λ creation. done (Port name id creation))))

pub ref_with-joins : (wide : Bool)
    → Joins (λ next. number2 (λ n. atom (λ name. creation wide (λ c. run (4 * n) (λ words. next (Ref name c words)))))) (ref_with_of wide)
unfolding ref_with_of
ref_with-joins wide = then number2-joins (λ n. then atom-joins (λ name. then (creation-joins wide) (λ c. then (run-joins (4 * n)) (λ words. done (Ref name c words)))))

big-joins : (n : ℕ) → Joins (λ next. sign (λ s. run n (λ digits. next (Big s digits)))) (big_of n)
unfolding big_of
big-joins n = then sign-joins (λ s. then (run-joins n) (λ digits. done (Big s digits)))

pub small_big-joins : Joins (λ next. any_byte (λ n. sign (λ s. run n (λ digits. next (Big s digits))))) small_big_of
unfolding small_big_of
small_big-joins = then any-joins big-joins

pub large_big-joins : Joins (λ next. number4 (λ n. sign (λ s. run n (λ digits. next (Big s digits))))) large_big_of
unfolding large_big_of
large_big-joins = then number4-joins big-joins

-- the last fields of tag 112, whose values don't count
owner-joins : Joins (λ next. integer (λ old_index. integer (λ old_unique. pid next))) owner_of
unfolding owner_of
owner-joins = then integer-joins (λ old_index. then integer-joins (λ old_unique. pid-joins))

pub closure-joins : Joins (λ next. number4 (λ size. any_byte (λ arity. run 16 (λ unique. number4 (λ index. number4 (λ n. atom (λ name.
    integer (λ old_index. integer (λ old_unique. pid (λ owner. next (Fun name index arity n))))))))))) closure_of
unfolding closure_of
closure-joins =
    then number4-joins (λ size. then any-joins (λ arity. then (run-joins 16) (λ unique. then number4-joins (λ index. then number4-joins (λ n.
    then atom-joins (λ name. then owner-joins (λ owner. done (Fun name index arity n))))))))

pub export-joins : Joins (λ next. atom (λ name. atom (λ function. small (λ arity. next (Export name function arity))))) export_of
unfolding export_of
export-joins = then atom-joins (λ name. then atom-joins (λ function. then small-joins (λ arity. done (Export name function arity))))

-- a reader reads what its part lays out with nothing behind
pub row-joins : {laid : (Head → Layout) → Layout} {read : List ℕ → Parsed Head} → Joins laid read → (bytes : List ℕ) → parsed (reading (laid end) bytes) ≡ read bytes
row-joins {laid} {read} p bytes = p.join end bytes ∙ bind-ok (read bytes) where
  bind-ok : (m : Parsed Head) → (m >>= λ x. Ok (x.0, x.1)) ≡ m
  bind-ok (Ok x) = refl
  bind-ok (Err left) = refl

-- a head is what its layout is read as
pub head-is : (bytes : List ℕ) → parsed (reading head_layout bytes) ≡ head_of bytes
unfolding head_of
head-is bytes = refl
