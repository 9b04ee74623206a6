-- The lines of all numbers tell which are accepting and all transitions, and where they end.
use mathlib.Core.Path.{◌≡◌, refl, sym, ◌∙◌, ap}
use mathlib.Core.Bool.{Bool, true, false}
use mathlib.Core.List.{List, [], ◌∷◌, ◌++◌, append_assoc, append-nil, Memᴰ}
use Prim.Native.Nat.{ℕ, zero, suc, ◌+◌, ◌^◌, ◌≤◌, ◌<◌}
use native.Mathlib.Omega.{arith}
use native.Mathlib.Nat.{add-zero}
use lib.Dec.{eqb}
use lib.ListN.{length, get_or, drop}
use borrow.Author.Tests.{eq-eqb, ne_eqb, eqb-true}
use Rattle.sets.specs.Tests.{Set}
use Rattle.sets.specs.Masks.{bit}
use Rattle.sets.specs.Lists.{keep, Ascending}
use Rattle.sets.proofs.Bools.{bif}
use Rattle.sets.proofs.Lists.{keep-in, keep_out}
use Rattle.sets.proofs.Ascending.{asc-ext}
use Rattle.theory.specs.Run.{source_of, letter_of_lem}
use Rattle.listing_lines_spec.specs.Lines.{lines}
use Rattle.hoa_spec.specs.Lines.{state_line}
use Rattle.hoa_spec.specs.Text.{edge_of, leaving, state_of, block_of}
use Rattle.hoa_laws.proofs.Leaving.{keep-yes, keep-no}
use Rattle.hoa_laws.specs.Took.{NoEdge}
use Rattle.hoa_laws.proofs.Lines.{other-heads, state-once}
use Rattle.hoa_laws.proofs.Edges.{From, edges-once}

-- all letters are of b propositions
abbrev pub Letters : ℕ → List ℕ → Type 0
Letters b ts = (t : ℕ) → Memᴰ t ts → letter_of_lem t < 2 ^ b

pub leaving-from : (b i : ℕ) (ts : List ℕ) → Letters b ts → From b i (leaving ts i)
unfolding leaving
leaving-from b i ts L = record {
  source = λ t m. eqb-true (source_of t) i (keep_out (λ u. eqb (source_of u) i) ts t m).1;
  letter = λ t m. L t (keep_out (λ u. eqb (source_of u) i) ts t m).0;
}

pub block-cons : (b : ℕ) (ts : List ℕ) (j f : ℕ) (fs rest : List ℕ)
    → lines (block_of b ts) j (f ∷ fs) ++ rest ≡ state_line j (bit f 1) ++ (lines (edge_of b) 0 (leaving ts j) ++ (lines (block_of b ts) (suc j) fs ++ rest))
unfolding lines block_of
block-cons b ts j f fs rest = simp append_assoc

pub state-head : (j : ℕ) (a : Bool) (rest : List ℕ) → (others : List ℕ) × (state_line j a ++ rest ≡ 83 ∷ others)
unfolding state_line
state-head j a rest = (_, refl)

-- what comes after a block is a state line, or what comes after all
pub after_block : (b : ℕ) (ts : List ℕ) (j : ℕ) (fs rest : List ℕ) → NoEdge rest → NoEdge (lines (block_of b ts) j fs ++ rest)
unfolding lines
after_block b ts j [] rest n = n
after_block b ts j (f ∷ fs) rest n = λ others e.
    let h = state-head j (bit f 1) (lines (edge_of b) 0 (leaving ts j) ++ (lines (block_of b ts) (suc j) fs ++ rest)) in
    other-heads (sym h.1 ∙ sym (block-cons b ts j f fs rest) ∙ e) (λ k. omega arith)

-- what the blocks that were read share with any that stand there
pub record Same (b : ℕ) (ts us : List ℕ) (j : ℕ) (fs gs qs rest : List ℕ) : Type 0 where
  pub bits : (i : ℕ) → i < length fs → bit (get_or fs i 0) 1 ≡ bit (get_or gs i 0) 1
  pub moves : (i : ℕ) → i < length fs → leaving ts (j + i) ≡ leaving us (j + i)
  pub left : qs ≡ lines (block_of b us) (j + length fs) (drop (length fs) gs) ++ rest

module _ (b : ℕ) (ts us : List ℕ) (L : Letters b ts) (M : Letters b us) where
  pub blocks-left : (j : ℕ) (fs gs qs rest : List ℕ) → length fs ≤ length gs → (0 < length fs → NoEdge qs) → NoEdge rest
      → lines (block_of b ts) j fs ++ qs ≡ lines (block_of b us) j gs ++ rest → Same b ts us j fs gs qs rest
  unfolding lines
  blocks-left j [] gs qs rest h m n e = record {
    bits = λ i l. absurd (omega arith);
    moves = λ i l. absurd (omega arith);
    left = e ∙ ap (λ (k : ℕ). lines (block_of b us) k gs ++ rest) (sym (add-zero j));
  }
  blocks-left j (f ∷ fs) [] qs rest h m n e = absurd (omega arith)
  blocks-left j (f ∷ fs) (g ∷ gs) qs rest h m n e =
      let s = state-once j (bit f 1) (bit g 1) (sym (block-cons b ts j f fs qs) ∙ e ∙ block-cons b us j g gs rest) in
      let q = m (omega arith) in
      let r = edges-once b j (leaving ts j) (leaving us j) (lines (block_of b ts) (suc j) fs ++ qs) (lines (block_of b us) (suc j) gs ++ rest)
      (leaving-from b j ts L) (leaving-from b j us M) (after_block b ts (suc j) fs qs q) (after_block b us (suc j) gs rest n) s.1 in
      let ih = blocks-left (suc j) fs gs qs rest (omega arith) (λ z. q) n r.1 in
      let k : suc j + length fs ≡ j + suc (length fs) = omega arith in
      record {
        bits = first s.0 ih.bits;
        moves = second r.0 ih.moves;
        left = ih.left ∙ ap (λ (i : ℕ). lines (block_of b us) i (drop (length fs) gs) ++ rest) k;
      }
    where
      first : bit f 1 ≡ bit g 1 → ((i : ℕ) → i < length fs → bit (get_or fs i 0) 1 ≡ bit (get_or gs i 0) 1)
          → (i : ℕ) → i < suc (length fs) → bit (get_or (f ∷ fs) i 0) 1 ≡ bit (get_or (g ∷ gs) i 0) 1
      first p q zero l = p
      first p q (suc i) l = q i (omega arith)

      second : leaving ts j ≡ leaving us j → ((i : ℕ) → i < length fs → leaving ts (suc j + i) ≡ leaving us (suc j + i))
          → (i : ℕ) → i < suc (length fs) → leaving ts (j + i) ≡ leaving us (j + i)
      second p q zero l = rw (add-zero j) p
      second p q (suc i) l = let k : suc j + i ≡ j + suc i = omega arith in rw k at (q i (omega arith))

-- the transitions of all numbers are all transitions
leaves_in : (ts : List ℕ) (t : ℕ) → Memᴰ t ts → Memᴰ t (leaving ts (source_of t))
unfolding leaving
leaves_in ts t m = keep-in (λ u. eqb (source_of u) (source_of t)) ts t m (eq-eqb (source_of t) (source_of t) refl)

leaves-out : (ts : List ℕ) (i t : ℕ) → Memᴰ t (leaving ts i) → Memᴰ t ts
unfolding leaving
leaves-out ts i t m = (keep_out (λ u. eqb (source_of u) i) ts t m).0

pub moves-same : (n : ℕ) (ts us : List ℕ) → Ascending ts → Ascending us
    → ((t : ℕ) → Memᴰ t ts → source_of t < n) → ((t : ℕ) → Memᴰ t us → source_of t < n)
    → ((i : ℕ) → i < n → leaving ts i ≡ leaving us i) → ts ≡ us
moves-same n ts us a c k l h =
    asc-ext ts us a c
    (λ t m. leaves-out us (source_of t) t (rw (h (source_of t) (k t m)) at (leaves_in ts t m)))
    (λ t m. leaves-out ts (source_of t) t (rw (sym (h (source_of t) (l t m))) at (leaves_in us t m)))

-- ---- one block more

keep_append : (f : Set) (xs ys : List ℕ) → keep f (xs ++ ys) ≡ keep f xs ++ keep f ys
unfolding keep
keep_append f [] ys = refl
keep_append f (x ∷ xs) ys =
    bif (f x)
    (λ t. keep-yes f x (xs ++ ys) t ∙ ap (λ (s : List ℕ). x ∷ s) (keep_append f xs ys) ∙ ap (λ (s : List ℕ). s ++ keep f ys) (sym (keep-yes f x xs t)))
    (λ t. keep-no f x (xs ++ ys) t ∙ keep_append f xs ys ∙ ap (λ (s : List ℕ). s ++ keep f ys) (sym (keep-no f x xs t)))

keep-none : (f : Set) (xs : List ℕ) → ((x : ℕ) → Memᴰ x xs → f x ≡ false) → keep f xs ≡ []
unfolding keep
keep-none f [] h = refl
keep-none f (x ∷ xs) h = keep-no f x xs (h x (Memᴰ.head refl)) ∙ keep-none f xs (λ y m. h y (Memᴰ.tail m))

keep_all : (f : Set) (xs : List ℕ) → ((x : ℕ) → Memᴰ x xs → f x ≡ true) → keep f xs ≡ xs
unfolding keep
keep_all f [] h = refl
keep_all f (x ∷ xs) h = keep-yes f x xs (h x (Memᴰ.head refl)) ∙ ap (λ (s : List ℕ). x ∷ s) (keep_all f xs (λ y m. h y (Memᴰ.tail m)))

pub lines_same : (line line' : ℕ → ℕ → List ℕ) (j : ℕ) (fs : List ℕ) → ((i f : ℕ) → i < j + length fs → line i f ≡ line' i f) → lines line j fs ≡ lines line' j fs
unfolding lines
lines_same line line' j [] h = refl
lines_same line line' j (f ∷ fs) h =
    ap (λ (s : List ℕ). s ++ lines line (suc j) fs) (h j f (omega arith))
    ∙ ap (λ (s : List ℕ). line' j f ++ s) (lines_same line line' (suc j) fs (λ i g l. h i g (omega arith)))

pub lines_snoc : (line : ℕ → ℕ → List ℕ) (j : ℕ) (fs : List ℕ) (f : ℕ) → lines line j (fs ++ (f ∷ [])) ≡ lines line j fs ++ line (j + length fs) f
unfolding lines
lines_snoc line j [] f = append-nil (line j f) ∙ ap (λ (k : ℕ). line k f) (sym (add-zero j))
lines_snoc line j (g ∷ fs) f =
    let k : suc j + length fs ≡ j + suc (length fs) = omega arith in
    ap (λ (s : List ℕ). line j g ++ s) (lines_snoc line (suc j) fs f ∙ ap (λ (i : ℕ). lines line (suc j) fs ++ line i f) k)
    ∙ sym (append_assoc (line j g) (lines line (suc j) fs) (line (j + suc (length fs)) f))

module _ (ts us : List ℕ) (i : ℕ) (below : (t : ℕ) → Memᴰ t ts → source_of t < i) (here : (t : ℕ) → Memᴰ t us → source_of t ≡ i) where
  leaving-before : (j : ℕ) → j < i → leaving (ts ++ us) j ≡ leaving ts j
  unfolding leaving
  leaving-before j l =
      let f : Set = λ t. eqb (source_of t) j in
      keep_append f ts us
      ∙ ap (λ (s : List ℕ). keep f ts ++ s) (keep-none f us (λ t m. let h = here t m in ne_eqb (source_of t) j (omega arith)))
      ∙ append-nil (keep f ts)

  leaving-here : leaving (ts ++ us) i ≡ us
  unfolding leaving
  leaving-here =
      let f : Set = λ t. eqb (source_of t) i in
      keep_append f ts us
      ∙ ap (λ (s : List ℕ). s ++ keep f us) (keep-none f ts (λ t m. let h = below t m in ne_eqb (source_of t) i (omega arith)))
      ∙ keep_all f us (λ t m. eq-eqb (source_of t) i (here t m))

  -- the block of number i after those before it
  pub block_more : (b : ℕ) (fs : List ℕ) (f : ℕ) → length fs ≡ i
      → lines (block_of b (ts ++ us)) 0 (fs ++ (f ∷ [])) ≡ lines (block_of b ts) 0 fs ++ (state_line i (bit f 1) ++ lines (edge_of b) 0 us)
  unfolding block_of
  block_more b fs f e =
      let z : 0 + length fs ≡ i = omega arith in
      lines_snoc (block_of b (ts ++ us)) 0 fs f
      ∙ ap (λ (k : ℕ). lines (block_of b (ts ++ us)) 0 fs ++ block_of b (ts ++ us) k f) z
      ∙ ap (λ (s : List ℕ). s ++ block_of b (ts ++ us) i f)
      (lines_same (block_of b (ts ++ us)) (block_of b ts) 0 fs (λ j g l. ap (λ (s : List ℕ). state_of j g ++ lines (edge_of b) 0 s) (leaving-before j (omega arith))))
      ∙ ap (λ (s : List ℕ). lines (block_of b ts) 0 fs ++ (state_of i f ++ lines (edge_of b) 0 s)) leaving-here

-- blocks are told by the accepting flags alone
pub blocks-bits : (b : ℕ) (ts : List ℕ) (j : ℕ) (fs gs : List ℕ) → length fs ≡ length gs → ((i : ℕ) → i < length fs → bit (get_or fs i 0) 1 ≡ bit (get_or gs i 0) 1)
    → lines (block_of b ts) j fs ≡ lines (block_of b ts) j gs
unfolding lines block_of
blocks-bits b ts j [] [] h e = refl
blocks-bits b ts j [] (g ∷ gs) h e = absurd (omega arith)
blocks-bits b ts j (f ∷ fs) [] h e = absurd (omega arith)
blocks-bits b ts j (f ∷ fs) (g ∷ gs) h e =
    ap (λ (a : Bool). (state_line j a ++ lines (edge_of b) 0 (leaving ts j)) ++ lines (block_of b ts) (suc j) fs) (e 0 (omega arith))
    ∙ ap (λ (s : List ℕ). (state_line j (bit g 1) ++ lines (edge_of b) 0 (leaving ts j)) ++ s)
    (blocks-bits b ts (suc j) fs gs (omega arith) (λ i l. e (suc i) (omega arith)))
