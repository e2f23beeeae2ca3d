-- What is read of a text is a form that it spells.
use Rattle.std.proofs.Common.{◌≡◌, ℕ, ◌==◌, Bool, true, false, List, [], ◌∷◌, ◌++◌, length, drop, Some, None, refl, sym, ◌∙◌, ap, subst, if◌then◌else◌, inl, inr}
use Rattle.std.specs.Prelude.{nat_eq}
use Rattle.std.specs.List.{starts_with}
use Rattle.std.proofs.lemmas.Bool.{eqb-true}
use Rattle.std.proofs.lemmas.Option.{same_Some}
use Rattle.binary_payloads.specs.declared.enc.Enc.{Enc}
use Rattle.term_forms.specs.Words.{colon, bar, is_long, IsLed, led_of}
use Rattle.term_forms.specs.Reading.{whole_of, ◌>>=◌, port_word}
use Rattle.term_forms.specs.ReadingForms.{form_of, until_of, joined_of, cons_of, counted_of, float_of, bracketed_of, port_of, payload_of, range_of, binary_of, flat_of, hash_of, map_of}
use Rattle.term_forms.specs.Forms.{HeapForm, Cons, Tuple, Float, Long, Pid, Port, Ext, HeapBin, RefBin, SubBin, Flat, Hash, Node, IsForm}
use Rattle.term_forms.proofs.Steps.{bind_some, chosen, guard_some}
use Rattle.term_forms.proofs.Hexes.{led_sound}
use Rattle.term_forms.proofs.WordTexts.{starts_parts}
use Rattle.term_forms.proofs.PayloadTests.{PayloadIsRead}
use Rattle.term_forms.proofs.FormParts.{whole_sound, until_sound, joined_sound, counted_sound, bracketed_is, payload_sound, range_sound}

-- the text that begins with these bytes spells the form
abbrev Spells : Enc → List ℕ → HeapForm → Type 0
Spells enc text f = IsForm enc text f

cons_takes : (enc : Enc) (text : List ℕ) (f : HeapForm) → cons_of text ≡ Some f → Spells enc (108 ∷ text) f
unfolding cons_of
cons_takes enc text f h =
    let head = bind_some (until_of bar text) (λ head. whole_of head.1 >>= λ tail. Some (Cons head.0 tail)) f h in
    let tail = bind_some (whole_of head.0.1) (λ tail. Some (Cons head.0.0 tail)) f head.2 in
    let first = until_sound bar text head.0.0 head.0.1 head.1 in
    subst (Spells enc (108 ∷ text)) (same_Some (Cons head.0.0 tail.0) f tail.2)
    (first.0, head.0.1, ap (λ t. 108 ∷ t) first.1, first.2, whole_sound head.0.1 tail.0 tail.1)

tuple_takes : (enc : Enc) (text : List ℕ) (f : HeapForm) → (counted_of text >>= λ elements. Some (Tuple elements)) ≡ Some f → Spells enc (116 ∷ text) f
tuple_takes enc text f h =
    let step = bind_some (counted_of text) (λ elements. Some (Tuple elements)) f h in
    let is = counted_sound text step.0 step.1 in
    subst (Spells enc (116 ∷ text)) (same_Some (Tuple step.0) f step.2) (text, is.0, refl, is.1, is.2)

float_takes : (enc : Enc) (text : List ℕ) (f : HeapForm) → float_of text ≡ Some f → Spells enc (70 ∷ text) f
unfolding float_of
float_takes enc text f h =
    let step = bind_some (led_of text) (λ led. if length led.1 == led.0 then Some (Float led.1) else None) f h in
    let guard = guard_some (length step.0.1 == step.0.0) (Float step.0.1) f step.2 in
    let size = eqb-true (length step.0.1) step.0.0 guard.0 in
    subst (Spells enc (70 ∷ text)) guard.1 (text, refl, subst (λ n. IsLed text n step.0.1) (sym size) (led_sound text step.0.0 step.0.1 step.1))

long_takes : (enc : Enc) (text : List ℕ) (f : HeapForm) → (if is_long text then Some (Long text) else None) ≡ Some f → Spells enc (66 ∷ text) f
long_takes enc text f h =
    let guard = guard_some (is_long text) (Long text) f h in
    subst (Spells enc (66 ∷ text)) guard.1 (refl, guard.0)

pid_takes : (enc : Enc) (text : List ℕ) (f : HeapForm) → (bracketed_of text >>= λ pid. Some (Pid pid)) ≡ Some f → Spells enc (80 ∷ text) f
pid_takes enc text f h =
    let step = bind_some (bracketed_of text) (λ pid. Some (Pid pid)) f h in
    let is = bracketed_is text step.0 step.1 in
    subst (Spells enc (80 ∷ text)) (same_Some (Pid step.0) f step.2) (ap (λ t. 80 ∷ t) is.0, is.1)

port_takes_by : (enc : Enc) (text : List ℕ) (f : HeapForm) (b : Bool) → starts_with nat_eq text port_word ≡ b
    → (bracketed_of (drop (if b then 5 else 0) text) >>= λ port. Some (Port port)) ≡ Some f → Spells enc (112 ∷ text) f
port_takes_by enc text f false e h =
    let step = bind_some (bracketed_of text) (λ port. Some (Port port)) f h in
    let is = bracketed_is text step.0 step.1 in
    subst (Spells enc (112 ∷ text)) (same_Some (Port step.0) f step.2) (inl (ap (λ t. 112 ∷ t) is.0), is.1)
port_takes_by enc text f true e h =
    let step = bind_some (bracketed_of (drop 5 text)) (λ port. Some (Port port)) f h in
    let is = bracketed_is (drop 5 text) step.0 step.1 in
    subst (Spells enc (112 ∷ text)) (same_Some (Port step.0) f step.2)
    (inr (ap (λ t. 112 ∷ t) (starts_parts text port_word e) ∙ ap (λ t. 112 ∷ (port_word ++ t)) is.0), is.1)

port_takes : (enc : Enc) (text : List ℕ) (f : HeapForm) → port_of text ≡ Some f → Spells enc (112 ∷ text) f
unfolding port_of
port_takes enc text f h = port_takes_by enc text f (starts_with nat_eq text port_word) refl h

ext_takes : (enc : Enc) → PayloadIsRead enc → (text : List ℕ) (f : HeapForm) → (payload_of enc text >>= λ ext. Some (Ext ext.0 ext.1)) ≡ Some f → Spells enc (69 ∷ text) f
ext_takes enc law text f h =
    let step = bind_some (payload_of enc text) (λ ext. Some (Ext ext.0 ext.1)) f h in
    let is = payload_sound enc law text step.0 step.1 in
    subst (Spells enc (69 ∷ text)) (same_Some (Ext step.0.0 step.0.1) f step.2) (text, refl, is.0, is.1)

bin_takes : (enc : Enc) → PayloadIsRead enc → (text : List ℕ) (f : HeapForm) → (payload_of enc text >>= λ bin. Some (HeapBin bin.0 bin.1)) ≡ Some f → Spells enc (89 ∷ 104 ∷ text) f
bin_takes enc law text f h =
    let step = bind_some (payload_of enc text) (λ bin. Some (HeapBin bin.0 bin.1)) f h in
    let is = payload_sound enc law text step.0 step.1 in
    subst (Spells enc (89 ∷ 104 ∷ text)) (same_Some (HeapBin step.0.0 step.0.1) f step.2) (text, refl, is.0, is.1)

ref_takes : (enc : Enc) (text : List ℕ) (f : HeapForm) → (range_of text >>= λ range. Some (RefBin range.0 range.1 range.2)) ≡ Some f → Spells enc (89 ∷ 99 ∷ text) f
ref_takes enc text f h =
    let step = bind_some (range_of text) (λ range. Some (RefBin range.0 range.1 range.2)) f h in
    subst (Spells enc (89 ∷ 99 ∷ text)) (same_Some (RefBin step.0.0 step.0.1 step.0.2) f step.2) (text, refl, range_sound text step.0 step.1)

sub_takes : (enc : Enc) (text : List ℕ) (f : HeapForm) → (range_of text >>= λ range. Some (SubBin range.0 range.1 range.2)) ≡ Some f → Spells enc (89 ∷ 115 ∷ text) f
sub_takes enc text f h =
    let step = bind_some (range_of text) (λ range. Some (SubBin range.0 range.1 range.2)) f h in
    subst (Spells enc (89 ∷ 115 ∷ text)) (same_Some (SubBin step.0.0 step.0.1 step.0.2) f step.2) (text, refl, range_sound text step.0 step.1)

flat_takes : (enc : Enc) (text : List ℕ) (f : HeapForm) → flat_of text ≡ Some f → Spells enc (77 ∷ 102 ∷ text) f
unfolding flat_of
flat_takes enc text f h =
    let led = bind_some (led_of text) (λ led. until_of colon led.1 >>= λ keys. joined_of led.0 keys.1 >>= λ values. Some (Flat keys.0 values)) f h in
    let keys = bind_some (until_of colon led.0.1) (λ keys. joined_of led.0.0 keys.1 >>= λ values. Some (Flat keys.0 values)) f led.2 in
    let values = bind_some (joined_of led.0.0 keys.0.1) (λ values. Some (Flat keys.0.0 values)) f keys.2 in
    let first = until_sound colon led.0.1 keys.0.0 keys.0.1 keys.1 in
    let is = joined_sound led.0.0 keys.0.1 values.0 values.1 in
    let count = subst (λ n. IsLed text n led.0.1) (sym is.0) (led_sound text led.0.0 led.0.1 led.1) in
    subst (Spells enc (77 ∷ 102 ∷ text)) (same_Some (Flat keys.0.0 values.0) f values.2)
    (text, first.0, keys.0.1, refl, subst (λ t. IsLed text (length values.0) t) first.1 count, first.2, is.1)

hash_takes : (enc : Enc) (text : List ℕ) (f : HeapForm) → hash_of text ≡ Some f → Spells enc (77 ∷ 104 ∷ text) f
unfolding hash_of
hash_takes enc text f h =
    let led = bind_some (led_of text) (λ led. counted_of led.1 >>= λ children. Some (Hash led.0 children)) f h in
    let step = bind_some (counted_of led.0.1) (λ children. Some (Hash led.0.0 children)) f led.2 in
    let is = counted_sound led.0.1 step.0 step.1 in
    subst (Spells enc (77 ∷ 104 ∷ text)) (same_Some (Hash led.0.0 step.0) f step.2)
    (text, led.0.1, is.0, refl, led_sound text led.0.0 led.0.1 led.1, is.1, is.2)

node_takes : (enc : Enc) (text : List ℕ) (f : HeapForm) → (counted_of text >>= λ children. Some (Node children)) ≡ Some f → Spells enc (77 ∷ 110 ∷ text) f
node_takes enc text f h =
    let step = bind_some (counted_of text) (λ children. Some (Node children)) f h in
    let is = counted_sound text step.0 step.1 in
    subst (Spells enc (77 ∷ 110 ∷ text)) (same_Some (Node step.0) f step.2) (text, is.0, refl, is.1, is.2)

tagged : (enc : Enc) (c tag : ℕ) (text : List ℕ) (f : HeapForm) → (c == tag) ≡ true → Spells enc (tag ∷ text) f → Spells enc (c ∷ text) f
tagged enc c tag text f e h = subst (λ c. Spells enc (c ∷ text) f) (sym (eqb-true c tag e)) h

tagged_second : (enc : Enc) (first c tag : ℕ) (text : List ℕ) (f : HeapForm) → (c == tag) ≡ true → Spells enc (first ∷ tag ∷ text) f → Spells enc (first ∷ c ∷ text) f
tagged_second enc first c tag text f e h = subst (λ c. Spells enc (first ∷ c ∷ text) f) (sym (eqb-true c tag e)) h

binary_takes : (enc : Enc) → PayloadIsRead enc → (text : List ℕ) (f : HeapForm) → binary_of enc text ≡ Some f → Spells enc (89 ∷ text) f
unfolding binary_of
binary_takes enc law [] f h = absurd (let e : None ≡ Some f = h in cc)
binary_takes enc law (c ∷ text) f h =
    elim (chosen (c == 104) (payload_of enc text >>= λ bin. Some (HeapBin bin.0 bin.1)) _ (Some f) h) as (λ _. Spells enc (89 ∷ c ∷ text) f) [
      | inl p ↦ tagged_second enc 89 c 104 text f p.0 (bin_takes enc law text f p.1)
      | inr p ↦ elim (chosen (c == 99) (range_of text >>= λ range. Some (RefBin range.0 range.1 range.2)) _ (Some f) p.1) as (λ _. Spells enc (89 ∷ c ∷ text) f) [
        | inl q ↦ tagged_second enc 89 c 99 text f q.0 (ref_takes enc text f q.1)
        | inr q ↦ elim (chosen (c == 115) (range_of text >>= λ range. Some (SubBin range.0 range.1 range.2)) None (Some f) q.1) as (λ _. Spells enc (89 ∷ c ∷ text) f) [
          | inl r ↦ tagged_second enc 89 c 115 text f r.0 (sub_takes enc text f r.1)
          | inr r ↦ absurd (let e : None ≡ Some f = r.1 in cc)
        ]
      ]
    ]

map_takes : (enc : Enc) (text : List ℕ) (f : HeapForm) → map_of text ≡ Some f → Spells enc (77 ∷ text) f
unfolding map_of
map_takes enc [] f h = absurd (let e : None ≡ Some f = h in cc)
map_takes enc (c ∷ text) f h =
    elim (chosen (c == 102) (flat_of text) _ (Some f) h) as (λ _. Spells enc (77 ∷ c ∷ text) f) [
      | inl p ↦ tagged_second enc 77 c 102 text f p.0 (flat_takes enc text f p.1)
      | inr p ↦ elim (chosen (c == 104) (hash_of text) _ (Some f) p.1) as (λ _. Spells enc (77 ∷ c ∷ text) f) [
        | inl q ↦ tagged_second enc 77 c 104 text f q.0 (hash_takes enc text f q.1)
        | inr q ↦ elim (chosen (c == 110) (counted_of text >>= λ children. Some (Node children)) None (Some f) q.1) as (λ _. Spells enc (77 ∷ c ∷ text) f) [
          | inl r ↦ tagged_second enc 77 c 110 text f r.0 (node_takes enc text f r.1)
          | inr r ↦ absurd (let e : None ≡ Some f = r.1 in cc)
        ]
      ]
    ]

pub form_sound : (enc : Enc) → PayloadIsRead enc → (text : List ℕ) (f : HeapForm) → form_of enc text ≡ Some f → IsForm enc text f
unfolding form_of
form_sound enc law [] f h = absurd (let e : None ≡ Some f = h in cc)
form_sound enc law (c ∷ text) f h =
    elim (chosen (c == 108) (cons_of text) _ (Some f) h) as (λ _. Spells enc (c ∷ text) f) [
      | inl p ↦ tagged enc c 108 text f p.0 (cons_takes enc text f p.1)
      | inr p ↦ elim (chosen (c == 116) (counted_of text >>= λ elements. Some (Tuple elements)) _ (Some f) p.1) as (λ _. Spells enc (c ∷ text) f) [
        | inl q ↦ tagged enc c 116 text f q.0 (tuple_takes enc text f q.1)
        | inr q ↦ elim (chosen (c == 70) (float_of text) _ (Some f) q.1) as (λ _. Spells enc (c ∷ text) f) [
          | inl r ↦ tagged enc c 70 text f r.0 (float_takes enc text f r.1)
          | inr r ↦ elim (chosen (c == 66) (if is_long text then Some (Long text) else None) _ (Some f) r.1) as (λ _. Spells enc (c ∷ text) f) [
            | inl s ↦ tagged enc c 66 text f s.0 (long_takes enc text f s.1)
            | inr s ↦ elim (chosen (c == 80) (bracketed_of text >>= λ pid. Some (Pid pid)) _ (Some f) s.1) as (λ _. Spells enc (c ∷ text) f) [
              | inl t ↦ tagged enc c 80 text f t.0 (pid_takes enc text f t.1)
              | inr t ↦ elim (chosen (c == 112) (port_of text) _ (Some f) t.1) as (λ _. Spells enc (c ∷ text) f) [
                | inl u ↦ tagged enc c 112 text f u.0 (port_takes enc text f u.1)
                | inr u ↦ elim (chosen (c == 69) (payload_of enc text >>= λ ext. Some (Ext ext.0 ext.1)) _ (Some f) u.1) as (λ _. Spells enc (c ∷ text) f) [
                  | inl v ↦ tagged enc c 69 text f v.0 (ext_takes enc law text f v.1)
                  | inr v ↦ elim (chosen (c == 89) (binary_of enc text) _ (Some f) v.1) as (λ _. Spells enc (c ∷ text) f) [
                    | inl w ↦ tagged enc c 89 text f w.0 (binary_takes enc law text f w.1)
                    | inr w ↦ elim (chosen (c == 77) (map_of text) None (Some f) w.1) as (λ _. Spells enc (c ∷ text) f) [
                      | inl x ↦ tagged enc c 77 text f x.0 (map_takes enc text f x.1)
                      | inr x ↦ absurd (let e : None ≡ Some f = x.1 in cc)
                    ]
                  ]
                ]
              ]
            ]
          ]
        ]
      ]
    ]
