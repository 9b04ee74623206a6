-- Labels and edge lines, read part by part.
use mathlib.Core.Path.{◌≡◌, refl, sym, ◌∙◌, ap}
use mathlib.Core.List.{List, [], ◌∷◌, ◌++◌, append_assoc}
use mathlib.Core.Logic.{by_cases, ◌⊎◌, inl, inr, ⊎_elim}
use Prim.Native.Nat.{ℕ, zero, suc, ◌+◌, ◌-◌, ◌*◌, ◌/◌, ◌%◌, ◌^◌, ◌≤◌, ◌<◌}
use native.Mathlib.Omega.{arith}
use native.Mathlib.Nat.{add-zero, pow-suc, mod-eq_of_lt, add-mod_right, div-eq_of_lt, zero-div, add-div_right, div_self, pow-le-pow_right}
use native.Mathlib.Numerals.{add-one}
use native.Mathlib.Decide.{dec_lt}
use lib.Dec.{eqb}
use lib.ListN.{length, drop}
use borrow.Author.Tests.{eq-eqb}
use Rattle.sets.specs.Masks.{bit}
use Rattle.sets.proofs.Bools.{bif}
use Rattle.sets.proofs.Bits.{bit-none, bit-mod, bit-shl-one, shl_one}
use Rattle.theory.specs.Run.{source_of, letter_of_lem, target_of}
use Rattle.slice_text.specs.Decimal.{digit, word}
use Rattle.listing_lines_spec.specs.Lines.{newline}
use Rattle.hoa_spec.specs.Lines.{literal, label}
use Rattle.hoa_spec.specs.Text.{edge_of}
use Rattle.hoa_laws.proofs.Lengths.{literal-yes, literal-no}
use Rattle.hoa_laws.specs.Took.{Took, TookOne, Leaves}
use Rattle.hoa_laws.proofs.Lines.{number-line, number-once, label-bits, label-once, edge-line}
use Rattle.hoa_laws.proofs.Taking.{one_none, one-some, after}

-- ---- one literal: as in a letter with that bit alone, or with none

-- the bit i alone, or none
abbrev pub Single : ℕ → ℕ → Type 0
Single i x = (x ≡ 0) ⊎ (x ≡ 2 ^ i)

literal-set : (i x : ℕ) → x ≡ 2 ^ i → literal x i ≡ digit i ∷ []
literal-set i x e = literal-yes x i (ap (λ (y : ℕ). bit y i) e ∙ bit-shl-one i i ∙ eq-eqb i i refl)

literal-unset : (i x : ℕ) → x ≡ 0 → literal x i ≡ 33 ∷ digit i ∷ []
literal-unset i x e = literal-no x i (ap (λ (y : ℕ). bit y i) e ∙ bit-none i)

module _ {text : List ℕ} {p : ℕ} (i : ℕ) {a : ℕ} (A : Took text p (digit i ∷ []) a) where
  pub literal-plain : 0 < a → {v : ℕ} → v ≡ 2 ^ i → TookOne text p (Single i) (λ x. literal x i) v a
  literal-plain l {v} e = let f = A.found l in one-some l (inr e) f.0 (f.1 ∙ ap (λ (s : List ℕ). s ++ drop a text) (sym (literal-set i v e)))

  module _ (z : a ≡ 0) {b : ℕ} (B : Took text p (33 ∷ []) b) where
    not_plain : (y : ℕ) → y ≡ 2 ^ i → (rest : List ℕ) → drop p text ≡ literal y i ++ rest → ⊥
    not_plain y e rest f = A.absent z rest (f ∙ ap (λ (s : List ℕ). s ++ rest) (literal-set i y e))

    pub literal-none : b ≡ 0 → {v r : ℕ} → r ≡ 0 → TookOne text p (Single i) (λ x. literal x i) v r
    literal-none n e = one_none e (λ y m rest f. ⊎_elim
        (λ k. B.absent n (digit i ∷ rest) (f ∙ ap (λ (s : List ℕ). s ++ rest) (literal-unset i y k)))
        (λ k. not_plain y k rest f) m)

    pub literal-negated : 0 < b → {c : ℕ} → Took text b (digit i ∷ []) c → TookOne text p (Single i) (λ x. literal x i) 0 c
    literal-negated l {c} C =
        let g = (B.found l).1 in
        record {
          found = λ h. let f = C.found h in
              (inl refl, f.0, g ∙ ap (λ (d : List ℕ). 33 ∷ d) f.1 ∙ ap (λ (s : List ℕ). s ++ drop c text) (sym (literal-unset i 0 refl)));
          absent = λ e y m rest f. ⊎_elim
              (λ k. C.absent e rest (after (33 ∷ []) g (f ∙ ap (λ (s : List ℕ). s ++ rest) (literal-unset i y k))))
              (λ k. not_plain y k rest f) m;
        }

-- as it is shifted in a word
pub shifted : (i : ℕ) → i < 4 → 1 * 2 ^ i % 2 ^ 64 ≡ 2 ^ i
shifted i h = shl_one 64 i (omega arith)

-- ---- labels

literal-ext : (l m i : ℕ) → bit l i ≡ bit m i → literal l i ≡ literal m i
literal-ext l m i e =
    bif (bit m i)
    (λ t. literal-yes l i (e ∙ t) ∙ sym (literal-yes m i t))
    (λ t. literal-no l i (e ∙ t) ∙ sym (literal-no m i t))

-- the literal of a letter is that of one bit
single : (y i : ℕ) → (x : ℕ) × Single i x × (literal y i ≡ literal x i)
single y i =
    bif (bit y i)
    (λ t. (2 ^ i, inr refl, literal-yes y i t ∙ sym (literal-set i (2 ^ i) refl)))
    (λ t. (0, inl refl, literal-no y i t ∙ sym (literal-unset i 0 refl)))

label-ext : (b l m : ℕ) → ((q : ℕ) → q < b → bit l q ≡ bit m q) → label b l ≡ label b m
unfolding label
label-ext zero l m h = refl
label-ext (suc zero) l m h = literal-ext l m 0 (h 0 (omega arith))
label-ext (suc (suc b)) l m h =
    ap (λ (s : List ℕ). s ++ (38 ∷ literal l (suc b))) (label-ext (suc b) l m (λ q k. h q (omega arith)))
    ∙ ap (λ (s : List ℕ). label (suc b) m ++ (38 ∷ s)) (literal-ext l m (suc b) (h (suc b) (omega arith)))

pub label-add : (i l : ℕ) → 1 ≤ i → label (i + 1) l ≡ label i l ++ (38 ∷ literal l i)
unfolding label
label-add zero l h = absurd (omega arith)
label-add (suc i) l h = let e : suc i + 1 ≡ suc (suc i) = omega arith in ap (λ (k : ℕ). label k l) e

-- a label of more propositions begins with that of fewer
label-begins : (i d l : ℕ) (rest : List ℕ) → 1 ≤ i → (more : List ℕ) × (label (i + suc d) l ++ rest ≡ label i l ++ (38 ∷ (literal l i ++ more)))
label-begins i zero l rest h = let e : i + suc zero ≡ i + 1 = omega arith in (rest, rw (e, label-add i l h, append_assoc))
label-begins i (suc d) l rest h =
    let e : i + suc (suc d) ≡ (i + suc d) + 1 = omega arith in
    let f : 1 ≤ i + suc d = omega arith in
    let r = label-begins i d l (38 ∷ (literal l (i + suc d) ++ rest)) h in
    (r.0, rw (e, label-add (i + suc d) l f, append_assoc) r.1)

label-first : (b l : ℕ) (rest : List ℕ) → 1 ≤ b → (more : List ℕ) × (label b l ++ rest ≡ literal l 0 ++ more)
unfolding label
label-first zero l rest h = absurd (omega arith)
label-first (suc zero) l rest h = (rest, refl)
label-first (suc (suc d)) l rest h =
    let e : 1 + suc d ≡ suc (suc d) = omega arith in
    let r = label-begins 1 d l rest (omega arith) in
    (38 ∷ (literal l 1 ++ r.0), ap (λ (k : ℕ). label k l ++ rest) (sym e) ∙ r.1)

label-inner : (i b l : ℕ) (rest : List ℕ) → 1 ≤ i → i < b → (more : List ℕ) × (label b l ++ rest ≡ label i l ++ (38 ∷ (literal l i ++ more)))
label-inner i b l rest h k =
    let e : b ≡ i + suc (b - i - 1) = omega arith in
    let r = label-begins i (b - i - 1) l rest h in
    (r.0, ap (λ (j : ℕ). label j l ++ rest) e ∙ r.1)

-- a letter below 2 ^ i and the bit i, or not
fits_more : (i l v : ℕ) → l < 2 ^ i → Single i v → l + v < 2 ^ (i + 1)
fits_more i l v k s = rw (add-one i, pow-suc 2 i) (⊎_elim (λ e. omega arith) (λ e. omega arith) s)

low_part : (i l v : ℕ) → l < 2 ^ i → Single i v → (l + v) % 2 ^ i ≡ l
low_part i l v k s =
    let m : l % 2 ^ i ≡ l = mod-eq_of_lt k in
    ⊎_elim (λ e. cc (add-zero l)) (λ e. cc (add-mod_right l (2 ^ i))) s

high_part : (i l v : ℕ) → l < 2 ^ i → Single i v → (l + v) / 2 ^ i ≡ v / 2 ^ i
high_part i l v k s =
    let z : l / 2 ^ i ≡ 0 = div-eq_of_lt k in
    let o : 0 < 2 ^ i = omega arith in
    ⊎_elim (λ e. cc (add-zero l, zero-div (2 ^ i))) (λ e. cc (add-div_right l o, div_self o)) s

module _ (i l v : ℕ) (k : l < 2 ^ i) (s : Single i v) where
  high_bit : bit (l + v) i ≡ bit v i
  unfolding bit
  high_bit = ap (λ (x : ℕ). eqb (x % 2) 1) (high_part i l v k s)

  low_bits : (q : ℕ) → q < i → bit (l + v) q ≡ bit l q
  low_bits q g = sym (bit-mod (l + v) i q g) ∙ ap (λ (x : ℕ). bit x q) (low_part i l v k s)

  label-grown : 1 ≤ i → label (i + 1) (l + v) ≡ label i l ++ (38 ∷ literal v i)
  label-grown g =
      label-add i (l + v) g
      ∙ ap (λ (s : List ℕ). s ++ (38 ∷ literal (l + v) i)) (label-ext i (l + v) l low_bits)
      ∙ ap (λ (s : List ℕ). label i l ++ (38 ∷ s)) (literal-ext (l + v) v i high_bit)

-- the label of the first i propositions was read: letter l, up to place q
pub record Labelled (text : List ℕ) (p i l q : ℕ) : Type 0 where
  pub some : 1 ≤ i
  pub small : l < 2 ^ i
  pub within : q < length text
  pub go_on : 0 < q
  pub is : drop p text ≡ label i l ++ drop q text

pub label-none : {text : List ℕ} {p a : ℕ} → Took text p (116 ∷ []) a → (b : ℕ) → b ≡ 0 → TookOne text p (λ x. x < 2 ^ b) (label b) 0 a
unfolding label
label-none A zero e = record {
  found = λ h. let f = A.found h in (omega arith, f.0, f.1);
  absent = λ z y m rest f. A.absent z rest f;
}
label-none A (suc b) e = absurd (omega arith)

module _ {text : List ℕ} {p : ℕ} (b : ℕ) (h : b ≤ 4) where
  module _ (g : 1 ≤ b) {v r : ℕ} (L : TookOne text p (Single 0) (λ x. literal x 0) v r) where
    pub label-no-first : r ≡ 0 → {x e : ℕ} → e ≡ 0 → TookOne text p (λ x. x < 2 ^ b) (label b) x e
    label-no-first z k = one_none k (λ y m rest f.
        let t = label-first b y rest g in
        let o = single y 0 in
        L.absent z o.0 o.1 t.0 (f ∙ t.1 ∙ ap (λ (s : List ℕ). s ++ t.0) o.2))

    pub labelled-first : 0 < r → r < length text → Labelled text p 1 v r
    unfolding label
    labelled-first l w =
        let f = L.found l in
        record {
          some = omega arith;
          small = ⊎_elim (λ e. omega arith) (λ e. omega arith) f.0;
          within = w;
          go_on = l;
          is = f.2;
        }

  module _ {i l q : ℕ} (I : Labelled text p i l q) (k : i < b) {c : ℕ} (C : Took text q (38 ∷ []) c) where
    -- what stands after the label so far
    next-part : (y : ℕ) (rest : List ℕ) → drop p text ≡ label b y ++ rest → (more : List ℕ) × (drop q text ≡ 38 ∷ (literal y i ++ more))
    next-part y rest f =
        let t = label-inner i b y rest I.some k in
        (t.0, (label-bits i l y (sym I.is ∙ f ∙ t.1)).1)

    pub label-no-sign : c ≡ 0 → {x e : ℕ} → e ≡ 0 → TookOne text p (λ x. x < 2 ^ b) (label b) x e
    label-no-sign z n = one_none n (λ y m rest f. let t = next-part y rest f in C.absent z (literal y i ++ t.0) t.1)

    module _ (g : 0 < c) {v r : ℕ} (L : TookOne text c (Single i) (λ x. literal x i) v r) where
      pub label-no-literal : r ≡ 0 → {x e : ℕ} → e ≡ 0 → TookOne text p (λ x. x < 2 ^ b) (label b) x e
      label-no-literal z n = one_none n (λ y m rest f.
          let t = next-part y rest f in
          let o = single y i in
          L.absent z o.0 o.1 t.0 (after (38 ∷ []) (C.found g).1 t.1 ∙ ap (λ (s : List ℕ). s ++ t.0) o.2))

      pub labelled-next : 0 < r → r < length text → Labelled text p (i + 1) (l + v) r
      labelled-next j w =
          let f = L.found j in
          record {
            some = omega arith;
            small = fits_more i l v I.small f.0;
            within = w;
            go_on = j;
            is = I.is
                ∙ ap (λ (s : List ℕ). label i l ++ s) ((C.found g).1 ∙ ap (λ (s : List ℕ). 38 ∷ s) f.2)
                ∙ sym (append_assoc (label i l) (38 ∷ literal v i) (drop r text))
                ∙ ap (λ (s : List ℕ). s ++ drop r text) (sym (label-grown i l v I.small f.0 I.some));
          }

  pub label-done : {i l q : ℕ} → Labelled text p i l q → i ≡ b → TookOne text p (λ x. x < 2 ^ b) (label b) l q
  label-done {l = l} {q = q} I e =
      one-some I.go_on (rw (sym e) I.small) (let w = I.within in omega arith) (I.is ∙ ap (λ (k : ℕ). label k l ++ drop q text) e)

-- ---- edge lines

pub letter-small : (b l : ℕ) → b ≤ 4 → l < 2 ^ b → l < 16
letter-small b l h k = omega (arith, pow-le-pow_right {n = 2} (omega arith) h)

module _ (i l w : ℕ) (h : l < 256) (k : w < 65536) where
  pub source-of : source_of (i * 16777216 + l * 65536 + w) ≡ i
  source-of = omega arith

  pub letter-of : letter_of_lem (i * 16777216 + l * 65536 + w) ≡ l
  letter-of = omega arith

  pub target-of : target_of (i * 16777216 + l * 65536 + w) ≡ w
  target-of = omega arith

module _ {text : List ℕ} {p : ℕ} (b n i : ℕ) (h : b ≤ 4) (few : n ≤ 65536) {a : ℕ} (A : Took text p (91 ∷ []) a) where
  pub edge-no-head : a ≡ 0 → {x r : ℕ} → r ≡ 0 → TookOne text p (Leaves b n i) (edge_of b 0) x r
  edge-no-head z e =
      one_none e (λ t m rest f. A.absent z (label b (letter_of_lem t) ++ ((93 ∷ []) ++ (word (target_of t) ++ (newline ++ rest)))) (f ∙ edge-line b (letter_of_lem t) (target_of t) rest))

  module _ (g : 0 < a) {l c : ℕ} (L : TookOne text a (λ x. x < 2 ^ b) (label b) l c) where
    label-part : (t : ℕ) (rest : List ℕ) → drop p text ≡ edge_of b 0 t ++ rest
        → drop a text ≡ label b (letter_of_lem t) ++ ((93 ∷ []) ++ (word (target_of t) ++ (newline ++ rest)))
    label-part t rest f = after (91 ∷ []) (A.found g).1 (f ∙ edge-line b (letter_of_lem t) (target_of t) rest)

    pub edge-no-label : c ≡ 0 → {x r : ℕ} → r ≡ 0 → TookOne text p (Leaves b n i) (edge_of b 0) x r
    edge-no-label z e = one_none e (λ t m rest f. L.absent z (letter_of_lem t) m.letter ((93 ∷ []) ++ (word (target_of t) ++ (newline ++ rest))) (label-part t rest f))

    module _ (j : 0 < c) {w e : ℕ} (W : TookOne text c (λ x. x ≤ 65536) (λ x. (93 ∷ []) ++ (word x ++ newline)) w e) where
      target-part : (t : ℕ) → Leaves b n i t → (rest : List ℕ) → drop p text ≡ edge_of b 0 t ++ rest
          → drop c text ≡ ((93 ∷ []) ++ (word (target_of t) ++ newline)) ++ rest
      target-part t m rest f =
          let k = L.found j in
          (label-once b l (letter_of_lem t) k.0 m.letter (sym k.2 ∙ label-part t rest f)).1 ∙ sym (number-line (93 ∷ []) (target_of t) rest)

      pub edge-far : n ≤ w → {x r : ℕ} → r ≡ 0 → TookOne text p (Leaves b n i) (edge_of b 0) x r
      edge-far o q = one_none q (λ t m rest f. by_cases (dec_lt 0 e)
          (λ k. let s = number-once (93 ∷ []) w (target_of t) (sym (W.found k).2 ∙ target-part t m rest f) in omega (arith, s.0, m.target))
          (λ k. W.absent (omega arith) (target_of t) (omega (arith, m.target)) rest (target-part t m rest f)))

      pub edge-read : w < n → {x : ℕ} → x ≡ i * 16777216 + l * 65536 + w → TookOne text p (Leaves b n i) (edge_of b 0) x e
      edge-read o {x} q =
          let k = L.found j in
          let small : l < 256 = omega (arith, letter-small b l h k.0) in
          let S : source_of x ≡ i = ap source_of q ∙ source-of i l w small (omega arith) in
          let M : letter_of_lem x ≡ l = ap letter_of_lem q ∙ letter-of i l w small (omega arith) in
          let T : target_of x ≡ w = ap target_of q ∙ target-of i l w small (omega arith) in
          record {
            found = λ z. let f = W.found z in (
              record { source = S; letter = rw M k.0; target = rw T o },
              f.1,
              (A.found g).1
                  ∙ ap (λ (s : List ℕ). 91 ∷ s) (k.2 ∙ ap (λ (s : List ℕ). label b l ++ s) (f.2 ∙ number-line (93 ∷ []) w (drop e text)))
                  ∙ ap (λ (y : ℕ). 91 ∷ (label b y ++ ((93 ∷ []) ++ (word w ++ (newline ++ drop e text))))) (sym M)
                  ∙ ap (λ (y : ℕ). 91 ∷ (label b (letter_of_lem x) ++ ((93 ∷ []) ++ (word y ++ (newline ++ drop e text))))) (sym T)
                  ∙ sym (edge-line b (letter_of_lem x) (target_of x) (drop e text)),
            );
            absent = λ z t m rest f. W.absent z (target_of t) (omega (arith, m.target)) rest (target-part t m rest f);
          }
