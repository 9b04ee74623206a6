-- A line tells its numbers, and where it ends.
use mathlib.Core.Path.{◌≡◌, refl, sym, ◌∙◌, ap}
use mathlib.Core.Bool.{Bool, true, false}
use mathlib.Core.List.{List, [], ◌∷◌, ◌++◌, append_assoc, append_cancel_left}
use mathlib.Core.Logic.{by_cases}
use Prim.Native.Nat.{ℕ, zero, suc, ◌+◌, ◌*◌, ◌^◌, ◌≤◌, ◌<◌}
use native.Mathlib.Omega.{arith}
use native.Mathlib.Decide.{dec_lt}
use Rattle.sets.specs.Masks.{bit}
use Rattle.sets.proofs.Bools.{bif}
use Rattle.sets.proofs.Bits.{bit-ext}
use Rattle.theory.specs.Run.{source_of, letter_of_lem, target_of}
use Rattle.slice_text.specs.Decimal.{digit, word}
use Rattle.listing_lines_spec.specs.Lines.{newline}
use Rattle.hoa_spec.specs.Lines.{states_line, start_line, names, ap_line, acceptance_mark, state_line, literal, label, edge_line}
use Rattle.hoa_spec.specs.Text.{edge_of}
use Rattle.hoa_laws.proofs.Lengths.{literal-yes, literal-no}
use Rattle.hoa_laws.specs.Took.{Stops}
use Rattle.hoa_laws.proofs.Decimals.{word-once}

pub other-heads : {x y : ℕ} {a b : List ℕ} → x ∷ a ≡ y ∷ b → (x ≡ y → ⊥) → ⊥
other-heads {x} {y} e n = let h : x ≡ y = cc in n h

-- a newline ends a number, and so does a blank
pub at-newline : (rest : List ℕ) → Stops (newline ++ rest)
at-newline rest = record { byte = 10; others = rest; low = omega arith; is = refl }

-- a heading, a number and a newline
pub number-line : (s : List ℕ) (x : ℕ) (rest : List ℕ) → (s ++ (word x ++ newline)) ++ rest ≡ s ++ (word x ++ (newline ++ rest))
number-line s x rest = simp append_assoc

pub number-once : (s : List ℕ) (x x' : ℕ) {rest rest' : List ℕ} → (s ++ (word x ++ newline)) ++ rest ≡ (s ++ (word x' ++ newline)) ++ rest' → (x ≡ x') × (rest ≡ rest')
number-once s x x' {rest} {rest'} e =
    let f : word x ++ (newline ++ rest) ≡ word x' ++ (newline ++ rest') = append_cancel_left s _ _ (sym (number-line s x rest) ∙ e ∙ number-line s x' rest') in
    let r = word-once x x' (at-newline rest) (at-newline rest') f in
    let t = r.1 in
    (r.0, cc)

pub states-once : (x x' : ℕ) {rest rest' : List ℕ} → states_line x ++ rest ≡ states_line x' ++ rest' → (x ≡ x') × (rest ≡ rest')
unfolding states_line
states-once x x' e = number-once (83 ∷ 116 ∷ 97 ∷ 116 ∷ 101 ∷ 115 ∷ 58 ∷ []) x x' e

pub start-once : (x x' : ℕ) {rest rest' : List ℕ} → start_line x ++ rest ≡ start_line x' ++ rest' → (x ≡ x') × (rest ≡ rest')
unfolding start_line
start-once x x' e = number-once (83 ∷ 116 ∷ 97 ∷ 114 ∷ 116 ∷ 58 ∷ []) x x' e

-- ---- state lines

mark-once : (a a' : Bool) {rest rest' : List ℕ} → acceptance_mark a ++ (newline ++ rest) ≡ acceptance_mark a' ++ (newline ++ rest') → (a ≡ a') × (rest ≡ rest')
mark-once true true e = (refl, cc)
mark-once false false e = (refl, cc)
mark-once true false e = absurd (other-heads e (λ h. omega arith))
mark-once false true e = absurd (other-heads e (λ h. omega arith))

pub state-line : (i : ℕ) (a : Bool) (rest : List ℕ)
    → state_line i a ++ rest ≡ (83 ∷ 116 ∷ 97 ∷ 116 ∷ 101 ∷ 58 ∷ []) ++ (word i ++ (acceptance_mark a ++ (newline ++ rest)))
unfolding state_line
state-line i a rest = simp append_assoc

pub state-once : (i : ℕ) (a a' : Bool) {rest rest' : List ℕ} → state_line i a ++ rest ≡ state_line i a' ++ rest' → (a ≡ a') × (rest ≡ rest')
state-once i a a' {rest} {rest'} e =
    mark-once a a' (append_cancel_left (word i) _ _ (append_cancel_left (83 ∷ 116 ∷ 97 ∷ 116 ∷ 101 ∷ 58 ∷ []) _ _ (sym (state-line i a rest) ∙ e ∙ state-line i a' rest')))

-- ---- labels and edge lines

literal-once : (l l' i : ℕ) {rest rest' : List ℕ} → literal l i ++ rest ≡ literal l' i ++ rest' → (bit l i ≡ bit l' i) × (rest ≡ rest')
literal-once l l' i {rest} {rest'} e =
    bif (bit l i)
    (λ t. let p = literal-yes l i t in bif (bit l' i)
    (λ t'. let q = literal-yes l' i t' in let f : digit i ∷ rest ≡ digit i ∷ rest' = cc in (t ∙ sym t', cc))
    (λ t'. let q = literal-no l' i t' in let f : digit i ∷ rest ≡ 33 ∷ (digit i ∷ rest') = cc in absurd (other-heads f (λ h. omega arith))))
    (λ t. let p = literal-no l i t in bif (bit l' i)
    (λ t'. let q = literal-yes l' i t' in let f : 33 ∷ (digit i ∷ rest) ≡ digit i ∷ rest' = cc in absurd (other-heads f (λ h. omega arith)))
    (λ t'. let q = literal-no l' i t' in let f : 33 ∷ (digit i ∷ rest) ≡ 33 ∷ (digit i ∷ rest') = cc in (t ∙ sym t', cc)))

label-more : (b l : ℕ) (rest : List ℕ) → label (suc (suc b)) l ++ rest ≡ label (suc b) l ++ (38 ∷ (literal l (suc b) ++ rest))
unfolding label
label-more b l rest = append_assoc (label (suc b) l) (38 ∷ literal l (suc b)) rest

pub label-bits : (b l l' : ℕ) {rest rest' : List ℕ} → label b l ++ rest ≡ label b l' ++ rest' → ((q : ℕ) → q < b → bit l q ≡ bit l' q) × (rest ≡ rest')
unfolding label
label-bits zero l l' e = (λ q h. absurd (omega arith), cc)
label-bits (suc zero) l l' e =
    let r = literal-once l l' 0 e in
    (λ q h. let z : q ≡ 0 = omega arith in rw z r.0, r.1)
label-bits (suc (suc b)) l l' {rest} {rest'} e =
    let r = label-bits (suc b) l l' (sym (label-more b l rest) ∙ e ∙ label-more b l' rest') in
    let t = r.1 in
    let f : literal l (suc b) ++ rest ≡ literal l' (suc b) ++ rest' = cc in
    let k = literal-once l l' (suc b) f in
    (λ q h. by_cases (dec_lt q (suc b)) (λ g. r.0 q g) (λ n. let z : q ≡ suc b = omega arith in rw z k.0), k.1)

pub label-once : (b l l' : ℕ) {rest rest' : List ℕ} → l < 2 ^ b → l' < 2 ^ b → label b l ++ rest ≡ label b l' ++ rest' → (l ≡ l') × (rest ≡ rest')
label-once b l l' h h' e = let r = label-bits b l l' e in (bit-ext b l l' h h' r.0, r.1)

pub edge-line : (b l t : ℕ) (rest : List ℕ)
    → edge_line b l t ++ rest ≡ (91 ∷ []) ++ (label b l ++ ((93 ∷ []) ++ (word t ++ (newline ++ rest))))
unfolding edge_line
edge-line b l t rest = simp append_assoc

pub edge-once : (b l t l' t' : ℕ) {rest rest' : List ℕ} → l < 2 ^ b → l' < 2 ^ b → edge_line b l t ++ rest ≡ edge_line b l' t' ++ rest' → (l ≡ l') × (t ≡ t') × (rest ≡ rest')
edge-once b l t l' t' {rest} {rest'} h h' e =
    let r = label-once b l l' h h' (append_cancel_left (91 ∷ []) _ _ (sym (edge-line b l t rest) ∙ e ∙ edge-line b l' t' rest')) in
    let w = word-once t t' (at-newline rest) (at-newline rest') (append_cancel_left (93 ∷ []) _ _ r.1) in
    let z = w.1 in
    (r.0, w.0, cc)

-- a transition is packed from its parts
pub packed : (t : ℕ) → t ≡ 16777216 * source_of t + 65536 * letter_of_lem t + target_of t
packed t = omega arith

-- a transition from a number is told by its line
pub moves-once : (b i t t' : ℕ) {rest rest' : List ℕ} → source_of t ≡ i → source_of t' ≡ i → letter_of_lem t < 2 ^ b → letter_of_lem t' < 2 ^ b
    → edge_of b 0 t ++ rest ≡ edge_of b 0 t' ++ rest' → (t ≡ t') × (rest ≡ rest')
moves-once b i t t' s s' l l' e =
    let r = edge-once b (letter_of_lem t) (target_of t) (letter_of_lem t') (target_of t') l l' e in
    let parts : 16777216 * source_of t + 65536 * letter_of_lem t + target_of t ≡ 16777216 * source_of t' + 65536 * letter_of_lem t' + target_of t' =
    rw (s, s', r.0, r.1) in
    (packed t ∙ parts ∙ sym (packed t'), r.2)

-- ---- the line of the propositions

pub after-names : (b : ℕ) (rest : List ℕ) → b ≤ 4 → Stops (names b ++ (newline ++ rest))
unfolding names
after-names zero rest h = at-newline rest
after-names (suc zero) rest h = record { byte = 32; others = _; low = omega arith; is = refl }
after-names (suc (suc zero)) rest h = record { byte = 32; others = _; low = omega arith; is = refl }
after-names (suc (suc (suc zero))) rest h = record { byte = 32; others = _; low = omega arith; is = refl }
after-names (suc (suc (suc (suc zero)))) rest h = record { byte = 32; others = _; low = omega arith; is = refl }
after-names (suc (suc (suc (suc (suc b))))) rest h = absurd (omega arith)

ap-line : (b : ℕ) (rest : List ℕ) → ap_line b ++ rest ≡ (65 ∷ 80 ∷ 58 ∷ []) ++ (word b ++ (names b ++ (newline ++ rest)))
unfolding ap_line
ap-line b rest = simp append_assoc

pub ap-once : (b b' : ℕ) {rest rest' : List ℕ} → b ≤ 4 → b' ≤ 4 → ap_line b ++ rest ≡ ap_line b' ++ rest' → (b ≡ b') × (rest ≡ rest')
ap-once b b' {rest} {rest'} h h' e =
    let f = append_cancel_left (65 ∷ 80 ∷ 58 ∷ []) _ _ (sym (ap-line b rest) ∙ e ∙ ap-line b' rest') in
    let r = word-once b b' (after-names b rest h) (after-names b' rest' h') f in
    (r.0, append_cancel_left (ap_line b) _ _ (e ∙ ap (λ (k : ℕ). ap_line k ++ rest') (sym r.0)))
