-- Lines with a number, read part by part.
use mathlib.Core.Path.{◌≡◌, refl, sym, ◌∙◌, ap}
use mathlib.Core.Bool.{Bool, true, false}
use mathlib.Core.List.{List, [], ◌∷◌, ◌++◌}
use mathlib.Core.Logic.{by_cases}
use Prim.Native.Nat.{ℕ, zero, suc, ◌≤◌, ◌<◌}
use native.Mathlib.Omega.{arith}
use native.Mathlib.Decide.{dec_lt}
use lib.Dec.{eqb}
use lib.ListN.{length, drop, drop_of_length-le}
use Rattle.sets.proofs.Bools.{bif}
use Rattle.slice_text.specs.Decimal.{digits_in, decimal, word}
use Rattle.listing_lines_spec.specs.Lines.{newline}
use Rattle.hoa_spec.specs.Lines.{start_line, names, ap_line, acceptance_mark, state_line}
use Rattle.hoa_laws.specs.Took.{Took, TookOne, Stops, TookWord}
use Rattle.hoa_laws.proofs.Decimals.{word-once}
use Rattle.hoa_laws.proofs.Lines.{at-newline, number-line, number-once, state-line}
use Rattle.hoa_laws.proofs.Taking.{took-none, one_none, one-some, after}

-- a text that is over has no number
no_word : (text : List ℕ) (a : ℕ) → length text ≤ a → (y : ℕ) (rest : List ℕ) → drop a text ≡ word y ++ rest → ⊥
unfolding word
no_word text a h y rest e = let f : [] ≡ 32 ∷ (decimal y ++ rest) = sym (drop_of_length-le text {i = a} h) ∙ e in let z : ◌≡◌ {A = ℕ} 0 1 = cc in omega arith

-- a heading, a number and a newline
module _ {text : List ℕ} {p : ℕ} {s : List ℕ} {a : ℕ} (T : Took text p s a) where
  pub numbered-no-head : a ≡ 0 → {x r : ℕ} → r ≡ 0 → TookOne text p (λ x. x ≤ 65536) (λ x. s ++ (word x ++ newline)) x r
  numbered-no-head z e = one_none e (λ y l rest f. T.absent z (word y ++ (newline ++ rest)) (f ∙ number-line s y rest))

  -- what stands after the heading
  number-part : 0 < a → (y : ℕ) (rest : List ℕ) → drop p text ≡ (s ++ (word y ++ newline)) ++ rest → drop a text ≡ word y ++ (newline ++ rest)
  number-part l y rest f = after s (T.found l).1 (f ∙ number-line s y rest)

  pub numbered-cut : 0 < a → length text ≤ a → {x r : ℕ} → r ≡ 0 → TookOne text p (λ x. x ≤ 65536) (λ x. s ++ (word x ++ newline)) x r
  numbered-cut l h e = one_none e (λ y m rest f. no_word text a h y (newline ++ rest) (number-part l y rest f))

  module _ (l : 0 < a) {w b : ℕ} (W : TookWord text a w b) where
    pub numbered-no-number : b ≡ 0 → {x r : ℕ} → r ≡ 0 → TookOne text p (λ x. x ≤ 65536) (λ x. s ++ (word x ++ newline)) x r
    numbered-no-number z e = one_none e (λ y h rest f. W.absent z y h (newline ++ rest) (at-newline rest) (number-part l y rest f))

    pub numbered : 0 < b → {e : ℕ} → Took text b newline e → TookOne text p (λ x. x ≤ 65536) (λ x. s ++ (word x ++ newline)) w e
    numbered m {e} E =
        let f = W.found m in
        record {
          found = λ z. let g = E.found z in (
            f.0,
            g.0,
            (T.found l).1 ∙ ap (λ (d : List ℕ). s ++ d) (f.3 ∙ ap (λ (d : List ℕ). word w ++ d) g.1) ∙ sym (number-line s w (drop e text)),
          );
          absent = λ z y h rest k.
              let o = word-once w y f.2 (at-newline rest) (sym f.3 ∙ number-part l y rest k) in
              E.absent z rest o.1;
        }

-- a start line
module _ {text : List ℕ} {p : ℕ} (i : ℕ) {x r : ℕ} (h : i ≤ 65536)
    (N : TookOne text p (λ x. x ≤ 65536) (λ x. (83 ∷ 116 ∷ 97 ∷ 114 ∷ 116 ∷ 58 ∷ []) ++ (word x ++ newline)) x r) where
  pub start-other : (x ≡ i → ⊥) → Took text p (start_line i) 0
  unfolding start_line
  start-other n = took-none refl (λ rest e. by_cases (dec_lt 0 r)
      (λ l. n (number-once (83 ∷ 116 ∷ 97 ∷ 114 ∷ 116 ∷ 58 ∷ []) x i (sym (N.found l).2 ∙ e)).0)
      (λ l. N.absent (omega arith) i h rest e))

  pub start-same : x ≡ i → Took text p (start_line i) r
  unfolding start_line
  start-same q = record {
    found = λ l. let f = N.found l in (f.1, f.2 ∙ ap (λ (y : ℕ). ((83 ∷ 116 ∷ 97 ∷ 114 ∷ 116 ∷ 58 ∷ []) ++ (word y ++ newline)) ++ drop r text) q);
    absent = λ z rest e. N.absent z i h rest e;
  }

-- the line of the propositions

pub ap-0 : ap_line 0 ≡ 65 ∷ 80 ∷ 58 ∷ 32 ∷ 48 ∷ 10 ∷ []
unfolding ap_line names word decimal digits_in
ap-0 = refl

pub ap-1 : ap_line 1 ≡ 65 ∷ 80 ∷ 58 ∷ 32 ∷ 49 ∷ 32 ∷ 34 ∷ 101 ∷ 48 ∷ 34 ∷ 10 ∷ []
unfolding ap_line names word decimal digits_in
ap-1 = refl

pub ap-2 : ap_line 2 ≡ 65 ∷ 80 ∷ 58 ∷ 32 ∷ 50 ∷ 32 ∷ 34 ∷ 101 ∷ 48 ∷ 34 ∷ 32 ∷ 34 ∷ 101 ∷ 49 ∷ 34 ∷ 10 ∷ []
unfolding ap_line names word decimal digits_in
ap-2 = refl

pub ap-3 : ap_line 3 ≡ 65 ∷ 80 ∷ 58 ∷ 32 ∷ 51 ∷ 32 ∷ 34 ∷ 101 ∷ 48 ∷ 34 ∷ 32 ∷ 34 ∷ 101 ∷ 49 ∷ 34 ∷ 32 ∷ 34 ∷ 101 ∷ 50 ∷ 34 ∷ 10 ∷ []
unfolding ap_line names word decimal digits_in
ap-3 = refl

pub ap-4 : ap_line 4 ≡ 65 ∷ 80 ∷ 58 ∷ 32 ∷ 52 ∷ 32 ∷ 34 ∷ 101 ∷ 48 ∷ 34 ∷ 32 ∷ 34 ∷ 101 ∷ 49 ∷ 34 ∷ 32 ∷ 34 ∷ 101 ∷ 50 ∷ 34 ∷ 32 ∷ 34 ∷ 101 ∷ 51 ∷ 34 ∷ 10 ∷ []
unfolding ap_line names word decimal digits_in
ap-4 = refl

module _ {text : List ℕ} {p : ℕ} where
  pub ap-found : (b : ℕ) {r : ℕ} {s : List ℕ} → ap_line b ≡ s → b ≤ 4 → Took text p s r → 0 < r → TookOne text p (λ b. b ≤ 4) ap_line b r
  ap-found b {r} e h T l = let f = T.found l in one-some l h f.0 (f.1 ∙ ap (λ (s : List ℕ). s ++ drop r text) (sym e))

  ap-absent : (b : ℕ) {r : ℕ} {s : List ℕ} → ap_line b ≡ s → Took text p s r → r ≡ 0 → (rest : List ℕ) → drop p text ≡ ap_line b ++ rest → ⊥
  ap-absent b e T z rest f = T.absent z rest (f ∙ ap (λ (s : List ℕ). s ++ rest) e)

  pub ap-last : {q r s t u : ℕ} {x y z v w : List ℕ} → ap_line 0 ≡ x → ap_line 1 ≡ y → ap_line 2 ≡ z → ap_line 3 ≡ v → ap_line 4 ≡ w
      → Took text p x q → q ≡ 0 → Took text p y r → r ≡ 0 → Took text p z s → s ≡ 0 → Took text p v t → t ≡ 0 → Took text p w u
      → TookOne text p (λ b. b ≤ 4) ap_line 4 u
  ap-last {u = u} i0 i1 i2 i3 i4 Q q0 R r0 S s0 T t0 U = record {
    found = λ l. let f = U.found l in (omega arith, f.0, f.1 ∙ ap (λ (s : List ℕ). s ++ drop u text) (sym i4));
    absent = λ e. none e;
  }
    where
      none : u ≡ 0 → (b : ℕ) → b ≤ 4 → (rest : List ℕ) → drop p text ≡ ap_line b ++ rest → ⊥
      none e zero h = ap-absent 0 i0 Q q0
      none e (suc zero) h = ap-absent 1 i1 R r0
      none e (suc (suc zero)) h = ap-absent 2 i2 S s0
      none e (suc (suc (suc zero))) h = ap-absent 3 i3 T t0
      none e (suc (suc (suc (suc zero)))) h = ap-absent 4 i4 U e
      none e (suc (suc (suc (suc (suc b))))) h = absurd (omega arith)

-- a state line
after-state : (b : Bool) (rest : List ℕ) → Stops (acceptance_mark b ++ (newline ++ rest))
after-state true rest = record { byte = 32; others = _; low = omega arith; is = refl }
after-state false rest = at-newline rest

module _ {text : List ℕ} {p : ℕ} (i : ℕ) (h : i ≤ 65536) {a : ℕ} (T : Took text p (83 ∷ 116 ∷ 97 ∷ 116 ∷ 101 ∷ 58 ∷ []) a) where
  pub state-no-head : a ≡ 0 → {x r : ℕ} → r ≡ 0 → TookOne text p (λ x. x ≤ 1) (λ x. state_line i (eqb x 1)) x r
  state-no-head z e = one_none e (λ y l rest f. T.absent z (word i ++ (acceptance_mark (eqb y 1) ++ (newline ++ rest))) (f ∙ state-line i (eqb y 1) rest))

  word-part : 0 < a → (k : Bool) (rest : List ℕ) → drop p text ≡ state_line i k ++ rest → drop a text ≡ word i ++ (acceptance_mark k ++ (newline ++ rest))
  word-part l k rest f = after (83 ∷ 116 ∷ 97 ∷ 116 ∷ 101 ∷ 58 ∷ []) (T.found l).1 (f ∙ state-line i k rest)

  pub state-cut : 0 < a → length text ≤ a → {x r : ℕ} → r ≡ 0 → TookOne text p (λ x. x ≤ 1) (λ x. state_line i (eqb x 1)) x r
  state-cut l g e = one_none e (λ y m rest f. no_word text a g i (acceptance_mark (eqb y 1) ++ (newline ++ rest)) (word-part l (eqb y 1) rest f))

  module _ (l : 0 < a) {w b : ℕ} (W : TookWord text a w b) where
    pub state-no-number : b ≡ 0 → {x r : ℕ} → r ≡ 0 → TookOne text p (λ x. x ≤ 1) (λ x. state_line i (eqb x 1)) x r
    state-no-number z e =
        one_none e (λ y m rest f. W.absent z i h (acceptance_mark (eqb y 1) ++ (newline ++ rest)) (after-state (eqb y 1) rest) (word-part l (eqb y 1) rest f))

    module _ (m : 0 < b) where
      mark-part : (k : Bool) (rest : List ℕ) → drop p text ≡ state_line i k ++ rest → (w ≡ i) × (drop b text ≡ acceptance_mark k ++ (newline ++ rest))
      mark-part k rest f = let g = W.found m in word-once w i g.2 (after-state k rest) (sym g.3 ∙ word-part l k rest f)

      pub state-other : (w ≡ i → ⊥) → {x r : ℕ} → r ≡ 0 → TookOne text p (λ x. x ≤ 1) (λ x. state_line i (eqb x 1)) x r
      state-other n e = one_none e (λ y k rest f. n (mark-part (eqb y 1) rest f).0)

      module _ (q : w ≡ i) where
        state-here : (k : Bool) (r : ℕ) → drop b text ≡ acceptance_mark k ++ (newline ++ drop r text) → drop p text ≡ state_line i k ++ drop r text
        state-here k r e =
            (T.found l).1
            ∙ ap (λ (d : List ℕ). (83 ∷ 116 ∷ 97 ∷ 116 ∷ 101 ∷ 58 ∷ []) ++ d)
            ((W.found m).3 ∙ ap (λ (j : ℕ). word j ++ drop b text) q ∙ ap (λ (d : List ℕ). word i ++ d) e)
            ∙ sym (state-line i k (drop r text))

        module _ {c : ℕ} (C : Took text b (32 ∷ 123 ∷ 48 ∷ 125 ∷ 10 ∷ []) c) where
          pub state-accepting : 0 < c → TookOne text p (λ x. x ≤ 1) (λ x. state_line i (eqb x 1)) 1 c
          state-accepting g = let f = C.found g in one-some g (omega arith) f.0 (state-here true c f.1)

          pub state-rejecting : c ≡ 0 → {d : ℕ} → Took text b newline d → TookOne text p (λ x. x ≤ 1) (λ x. state_line i (eqb x 1)) 0 d
          state-rejecting z {d} D = record {
            found = λ g. let f = D.found g in (omega arith, f.0, state-here false d f.1);
            absent = λ e y k rest f. bif (eqb y 1)
                (λ t. C.absent z rest (mark-part true rest (f ∙ ap (λ (o : Bool). state_line i o ++ rest) t)).1)
                (λ t. D.absent e rest (mark-part false rest (f ∙ ap (λ (o : Bool). state_line i o ++ rest) t)).1);
          }
