-- The element that begins a text is read whole.
use Rattle.std.proofs.Common.{◌≡◌, ℕ, suc, ◌+◌, ◌-◌, ◌≤◌, true, false, List, ◌∷◌, ◌++◌, length, take, drop, Some, None, refl, sym, ◌∙◌, ap, subst, arith, if◌then◌else◌, inl, inr}
use Rattle.std.specs.Prelude.{nat_le, nat_eq}
use Rattle.std.specs.List.{list_all, prefix_len, starts_with}
use Rattle.std.specs.Char.{is_ascii_digit}
use Rattle.std.specs.Str.Parse.{digits_value}
use Rattle.std.proofs.lemmas.Bool.{le-leb}
use Rattle.std.proofs.lemmas.List.{length-append, length-take, length-take-le, append_assoc, append-nil, take-take}
use Rattle.std.proofs.lemmas.List.Sums.{prefix_len-le-length}
use Rattle.std.proofs.lemmas.Option.{same_Some}
use Rattle.std.proofs.Math.Seq.{take-append_seam, take-append-add}
use Rattle.dump_io.specs.Numbers.{hex_number}
use Rattle.dump_io.specs.Laws.HexNumbers.{hex_number-digits}
use Rattle.term_forms.specs.Words.{colon, is_hex_digit, is_integer, IsBracketed, IsLed, led_of}
use Rattle.term_forms.specs.Reading.{front, ◌>>=◌, integer_len, bracketed_len, small_front, atom_front, pid_front, port_front, ref_front, port_word}
use Rattle.term_forms.specs.Elements.{Element, Nil, Small, Atom, Pid, Port, Ref, IsElem}
use Rattle.term_forms.proofs.Steps.{bind_from, guard_from, some_pair}
use Rattle.term_forms.proofs.Runs.{run_over, run_passes, run_shorter}
use Rattle.term_forms.proofs.Hexes.{IsHex, hex_parts, led_full}
use Rattle.term_forms.proofs.WordTexts.{integer_full, bracketed_full, starts_from}

-- nothing begins the text that could go on with a number
abbrev pub NoDigit : List ℕ → Type 0
NoDigit rest = (prefix_len is_hex_digit rest ≡ 0) × (prefix_len is_ascii_digit rest ≡ 0)

-- a text that begins with an element's spelling is read so far at least, and as that element where no digit follows
pub record Reaches (text rest : List ℕ) (e : Element) : Type 0 where
  pub found : Element
  pub len : ℕ
  pub read : front (text ++ rest) ≡ Some (found, len)
  pub far : length text ≤ len
  pub exact : NoDigit rest → (found ≡ e) × (len ≡ length text)

reached : (text rest : List ℕ) (e : Element) → front (text ++ rest) ≡ Some (e, length text) → Reaches text rest e
reached text rest e h = record { found = e; len = length text; read = h; far = omega arith; exact = λ _. (refl, refl) }

reach_nil : (rest : List ℕ) → front (78 ∷ rest) ≡ Some (Nil, 1)
unfolding front
reach_nil rest = refl

reach_small : (t rest : List ℕ) → is_integer t ≡ true → Reaches (73 ∷ t) rest (Small t)
unfolding front small_front
reach_small t rest h =
    let run : ℕ = prefix_len is_ascii_digit rest in
    let len : ℕ = length t + prefix_len is_ascii_digit rest in
    let found = integer_full t rest h in
    record {
      found = Small (take (length t + prefix_len is_ascii_digit rest) (t ++ rest));
      len = length t + prefix_len is_ascii_digit rest + 1;
      read = bind_from (integer_len (t ++ rest)) (λ n. Some (Small (take n (t ++ rest)), n + 1)) (length t + prefix_len is_ascii_digit rest) _ found refl;
      far = omega arith;
      exact = λ none. (
        let none_here : prefix_len is_ascii_digit rest ≡ 0 = none.1 in
            ap Small (take-append-add t rest (prefix_len is_ascii_digit rest) ∙ ap (λ n. t ++ take n rest) none_here ∙ append-nil t),
        let none_here : prefix_len is_ascii_digit rest ≡ 0 = none.1 in
            omega (arith, none_here),
      );
    }

led_more : (t rest bytes : List ℕ) (n : ℕ) → IsLed t n bytes → IsLed (t ++ rest) n (bytes ++ rest)
led_more t rest bytes n led = (led.0, led.1, ap (λ t. t ++ rest) led.2 ∙ append_assoc led.0 (colon ∷ bytes) rest)

reach_atom : (t rest bytes : List ℕ) → IsLed t (length bytes) bytes → front ((65 ∷ t) ++ rest) ≡ Some (Atom bytes, length (65 ∷ t))
unfolding front atom_front
reach_atom t rest bytes led =
    let n : ℕ = length bytes in
    let read = led_full (t ++ rest) (length bytes) (bytes ++ rest) (led_more t rest bytes (length bytes) led) in
    let inside : length bytes ≤ length (bytes ++ rest) = omega (arith, length-append bytes rest) in
    let size : length t ≡ length led.0 + suc (length bytes) = ap length led.2 ∙ length-append led.0 (colon ∷ bytes) in
    let whole : length (t ++ rest) - length (bytes ++ rest) + length bytes + 1 ≡ suc (length t) = omega (arith, size, length-append t rest, length-append bytes rest) in
    bind_from (led_of (t ++ rest))
    (λ led. if nat_le led.0 (length led.1) then Some (Atom (take led.0 led.1), length (t ++ rest) - length led.1 + led.0 + 1) else None)
    (length bytes, bytes ++ rest) (Atom bytes, suc (length t)) read
    (guard_from (nat_le (length bytes) (length (bytes ++ rest))) _ (le-leb (length bytes) (length (bytes ++ rest)) inside)
    ∙ some_pair (Atom (take (length bytes) (bytes ++ rest))) (Atom bytes) _ (suc (length t)) (ap Atom (take-append_seam bytes rest)) whole)

reach_pid : (t rest : List ℕ) → IsBracketed t → front ((80 ∷ t) ++ rest) ≡ Some (Pid t, length (80 ∷ t))
unfolding front pid_front
reach_pid t rest is =
    bind_from (bracketed_len (t ++ rest)) (λ n. Some (Pid (take n (t ++ rest)), n + 1)) (length t) (Pid t, suc (length t)) (bracketed_full t rest is)
    (some_pair (Pid (take (length t) (t ++ rest))) (Pid t) (length t + 1) (suc (length t)) (ap Pid (take-append_seam t rest)) (omega arith))

-- what stands behind `p` or behind `p#Port` is read alike
port_behind : (text t rest : List ℕ) (skip : ℕ) → (if starts_with nat_eq text port_word then 5 else 0) ≡ skip → drop skip text ≡ t ++ rest → IsBracketed t
    → port_front text ≡ Some (Port t, skip + length t + 1)
unfolding port_front
port_behind text t rest skip e split is =
    ap (λ k. bracketed_len (drop k text) >>= λ n. Some (Port (take n (drop k text)), k + n + 1)) e
    ∙ ap (λ s. bracketed_len s >>= λ n. Some (Port (take n s), skip + n + 1)) split
    ∙ bind_from (bracketed_len (t ++ rest)) (λ n. Some (Port (take n (t ++ rest)), skip + n + 1)) (length t) (Port t, skip + length t + 1) (bracketed_full t rest is)
    (some_pair (Port (take (length t) (t ++ rest))) (Port t) (skip + length t + 1) (skip + length t + 1) (ap Port (take-append_seam t rest)) refl)

no_port_word : (t rest : List ℕ) → IsBracketed t → starts_with nat_eq (t ++ rest) port_word ≡ false
no_port_word t rest is = ap (λ t. starts_with nat_eq (t ++ rest) port_word) is.3

reach_port : (t rest : List ℕ) → IsBracketed t → front ((112 ∷ t) ++ rest) ≡ Some (Port t, length (112 ∷ t))
unfolding front
reach_port t rest is =
    port_behind (t ++ rest) t rest 0 (ap (λ b. if b then 5 else 0) (no_port_word t rest is)) refl is
    ∙ some_pair (Port t) (Port t) (0 + length t + 1) (suc (length t)) refl (omega arith)

reach_port_word : (t rest : List ℕ) → IsBracketed t → front ((112 ∷ (port_word ++ t)) ++ rest) ≡ Some (Port t, length (112 ∷ (port_word ++ t)))
unfolding front
reach_port_word t rest is =
    port_behind (port_word ++ (t ++ rest)) t rest 5 (ap (λ b. if b then 5 else 0) (starts_from port_word (t ++ rest))) refl is
    ∙ some_pair (Port t) (Port t) (5 + length t + 1) (length (112 ∷ (port_word ++ t))) refl (omega arith)

-- the run of hex digits from a text's front, up to 16 of them, where a hex number is the front
record HexRun (t rest : List ℕ) : Type 0 where
  n : ℕ
  n_is : prefix_len is_hex_digit (take 16 (t ++ rest)) ≡ n
  far : length t ≤ n
  number : hex_number (take n (t ++ rest)) ≡ Some (digits_value 16 (take n (t ++ rest)))
  exact : prefix_len is_hex_digit rest ≡ 0 → n ≡ length t

hex_run : (t rest : List ℕ) (address : ℕ) → IsHex t address → HexRun t rest
hex_run t rest address is =
    let left : ℕ = 16 - length t in
    let all : 16 ≡ length t + (16 - length t) = omega (arith, is.few) in
    let split : take 16 (t ++ rest) ≡ t ++ take (16 - length t) rest = ap (λ k. take k (t ++ rest)) all ∙ take-append-add t rest (16 - length t) in
    let run : prefix_len is_hex_digit (take 16 (t ++ rest)) ≡ length t + prefix_len is_hex_digit (take (16 - length t) rest)
    = ap (prefix_len is_hex_digit) split ∙ run_over is_hex_digit t (take (16 - length t) rest) is.digits in
    let within : prefix_len is_hex_digit (take 16 (t ++ rest)) ≤ length (take 16 (t ++ rest)) = prefix_len-le-length is_hex_digit (take 16 (t ++ rest)) in
    let most : prefix_len is_hex_digit (take 16 (t ++ rest)) ≤ 16 = omega (arith, within, length-take 16 (t ++ rest)) in
    let inside : prefix_len is_hex_digit (take 16 (t ++ rest)) ≤ length (t ++ rest) = omega (arith, within, length-take 16 (t ++ rest)) in
    let count : length (take (prefix_len is_hex_digit (take 16 (t ++ rest))) (t ++ rest)) ≡ prefix_len is_hex_digit (take 16 (t ++ rest))
    = length-take-le (prefix_len is_hex_digit (take 16 (t ++ rest))) (t ++ rest) inside in
    let digits : list_all is_hex_digit (take (prefix_len is_hex_digit (take 16 (t ++ rest))) (t ++ rest)) ≡ true
    = ap (list_all is_hex_digit) (sym (take-take (prefix_len is_hex_digit (take 16 (t ++ rest))) 16 (t ++ rest) most)) ∙ run_passes is_hex_digit (take 16 (t ++ rest)) in
    record {
      n = prefix_len is_hex_digit (take 16 (t ++ rest));
      n_is = refl;
      far = omega (arith, run);
      number = hex_number-digits (take (prefix_len is_hex_digit (take 16 (t ++ rest))) (t ++ rest)) (omega (arith, count, run, is.some)) (omega (arith, count, most)) digits;
      exact = λ none. (let fewer = run_shorter is_hex_digit rest (16 - length t) in omega (arith, run, fewer, none));
    }

reach_ref_run : (t rest : List ℕ) (address : ℕ) → hex_number t ≡ Some address → HexRun t rest → Reaches (72 ∷ t) rest (Ref address)
unfolding front ref_front
reach_ref_run t rest address h run =
    let value : ℕ = digits_value 16 (take run.n (t ++ rest)) in
    record {
      found = Ref (digits_value 16 (take run.n (t ++ rest)));
      len = run.n + 1;
      read = ap (λ n. hex_number (take n (t ++ rest)) >>= λ address. Some (Ref address, n + 1)) run.n_is
          ∙ bind_from (hex_number (take run.n (t ++ rest))) (λ address. Some (Ref address, run.n + 1)) (digits_value 16 (take run.n (t ++ rest))) _ run.number refl;
      far = omega (arith, run.far);
      exact = λ none.
          let e : run.n ≡ length t = run.exact none.0 in
          let here : take run.n (t ++ rest) ≡ t = ap (λ n. take n (t ++ rest)) e ∙ take-append_seam t rest in
          let same : Some (digits_value 16 (take run.n (t ++ rest))) ≡ Some address = sym run.number ∙ ap hex_number here ∙ h in
          (ap Ref (same_Some _ _ same), omega (arith, e));
    }

reach_ref : (t rest : List ℕ) (address : ℕ) → hex_number t ≡ Some address → Reaches (72 ∷ t) rest (Ref address)
reach_ref t rest address h = reach_ref_run t rest address h (hex_run t rest address (hex_parts t address h))

along : (s text rest : List ℕ) (e : Element) → s ≡ text → Reaches s rest e → Reaches text rest e
along s text rest e h r = subst (λ s. Reaches s rest e) h r

pub reach : (text : List ℕ) (e : Element) (rest : List ℕ) → IsElem text e → Reaches text rest e
reach text Nil rest h = reached text rest Nil (ap (λ t. front (t ++ rest)) h ∙ reach_nil rest ∙ some_pair Nil Nil 1 (length text) refl (sym (ap length h)))
reach text (Small t) rest h = along (73 ∷ t) text rest (Small t) (sym h.0) (reach_small t rest h.1)
reach text (Atom bytes) rest h = along (65 ∷ h.0) text rest (Atom bytes) (sym h.1) (reached (65 ∷ h.0) rest (Atom bytes) (reach_atom h.0 rest bytes h.2))
reach text (Pid t) rest h = along (80 ∷ t) text rest (Pid t) (sym h.0) (reached (80 ∷ t) rest (Pid t) (reach_pid t rest h.1))
reach text (Port t) rest (inl e, is) = along (112 ∷ t) text rest (Port t) (sym e) (reached (112 ∷ t) rest (Port t) (reach_port t rest is))
reach text (Port t) rest (inr e, is) = along (112 ∷ (port_word ++ t)) text rest (Port t) (sym e) (reached (112 ∷ (port_word ++ t)) rest (Port t) (reach_port_word t rest is))
reach text (Ref address) rest h = along (72 ∷ h.0) text rest (Ref address) (sym h.1) (reach_ref h.0 rest address h.2)
