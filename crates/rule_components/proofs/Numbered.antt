-- The components in rising order of their smallest states.
use mathlib.Core.Path.{◌≡◌, refl, ap, sym, ◌∙◌}
use mathlib.Core.Bool.{true, false}
use mathlib.Core.List.{List, [], ◌∷◌}
use mathlib.Core.Logic.{by_cases}
use Prim.Native.Nat.{ℕ, ◌+◌, ◌<◌, ◌≤◌}
use native.Mathlib.Omega.{arith}
use native.Mathlib.Numerals.{add-one}
use native.Mathlib.Decide.{dec_lt}
use native.Mathlib.Nat.{zero-add}
use borrow.Author.Tests.{eq-eqb, ne_eqb, eqb-true}
use lib.Dec.{eqb}
use lib.Count.{count_trailing_zeros}
use lib.ListN.{get_or, set}
use lib.Pow.{pow_pos}
use lib.Seq.{ext_get_or}
use Rattle.sets.specs.Tests.{count, first}
use Rattle.sets.specs.Masks.{bit, mask}
use Rattle.sets.specs.Lists.{tabulate}
use Rattle.sets.proofs.Bools.{iff}
use Rattle.sets.proofs.Lists.{tabulate-at, length-tabulate}
use Rattle.sets.proofs.Tests.{first-le, first-at, count-max}
use Rattle.sets.proofs.Masks.{bit_mask, mask-ext}
use Rattle.sets.proofs.Bits.{bit-none, mask-unique}
use Rattle.sets.proofs.Members.{least-is}
use Rattle.theory.specs.Rule.{Rule}
use Rattle.theory.specs.Components.{together, smallest, is_smallest, component, components}
use Rattle.theory_laws.proofs.Components.{smallest-le, smallest-lt, smallest-together, component-of-together, together-of-component, few_components}
use Rattle.rule_reach.specs.Tables.{table, closures_of}
use Rattle.rule_components.specs.Numbered.{components_of}
use Rattle.rule_reach.proofs.Tables.{table_at, table-out, table-set, table-length}
use Rattle.rule_components.proofs.Mixed.{class_by, class-by}

-- ---- evaluated

-- three states, of which 0 and 1 lead to each other
three : Rule
three = record { n = 3; s = 1; initial = 0; accepting = 0; counts = 1 ∷ (1 ∷ (1 ∷ [])); clauses = 2 ∷ (1 ∷ (5 ∷ [])) }

-- 0 and 1 are component 0, 2 is component 1
three-components : components_of three ≡ record { masks = 3 ∷ (4 ∷ (0 ∷ (0 ∷ (0 ∷ (0 ∷ (0 ∷ (0 ∷ []))))))); count = 2 }
three-components = unfold components_of three in refl

-- ---- classes and their numbers

module _ (R : Rule) (few : R.n ≤ 8) where
  -- the mask of component k
  abbrev pub mask_of : ℕ → ℕ
  mask_of k = mask R.n (λ q. eqb (component R q) k)

  -- a state's class is its component
  class-number : (q : ℕ) → q < R.n → mask R.n (together R q) ≡ mask_of (component R q)
  class-number q l =
      mask-ext R.n (together R q) (λ p. eqb (component R p) (component R q))
      (λ p m. iff (together R q p) (eqb (component R p) (component R q))
      (λ t. eq-eqb (component R p) (component R q) (sym (component-of-together R q p l m t)))
      (λ t. together-of-component R q p l m (sym (eqb-true (component R p) (component R q) t))))

  -- its least state is the component's smallest
  least-smallest : (q : ℕ) → q < R.n → count_trailing_zeros 8 (mask R.n (together R q)) ≡ smallest R q
  least-smallest q l =
      let m = mask R.n (together R q) in
      let s = smallest R q in
      let b = smallest-lt R q l in
      let e : bit m s ≡ true = bit_mask R.n (together R q) s b ∙ smallest-together R q l in
      let h : first 8 (bit m) 0 ≤ s = first-le 8 (bit m) 0 s (omega arith) e in
      let t : bit m (first 8 (bit m) 0) ≡ true = first-at 8 (bit m) 0 s (omega arith) (omega arith) e in
      let k : s ≤ first 8 (bit m) 0 = smallest-le R q (first 8 (bit m) 0) (sym (bit_mask R.n (together R q) (first 8 (bit m) 0) (omega arith)) ∙ t) in
      least-is 8 m ∙ omega arith

  module _ (q k : ℕ) (l : q < R.n) (e : k ≡ class_by (closures_of R) R.n q) where
    class-is : k ≡ mask R.n (together R q)
    class-is = e ∙ class-by R few q l

    least-of : count_trailing_zeros 8 k ≡ smallest R q
    least-of = ap (count_trailing_zeros 8) class-is ∙ least-smallest q l

    -- q is its component's smallest state: the component's number is how many smallest states come before
    pub taken : count_trailing_zeros 8 k ≡ q → (is_smallest R q ≡ true) × (k ≡ mask_of (count q (is_smallest R)))
    unfolding is_smallest component
    taken h =
        let s : smallest R q ≡ q = sym least-of ∙ h in
        (eq-eqb (smallest R q) q s, class-is ∙ class-number q l ∙ ap (λ (x : ℕ). mask_of (count x (is_smallest R))) s)

    -- q is not
    pub passed : (count_trailing_zeros 8 k ≡ q → ⊥) → is_smallest R q ≡ false
    passed h = unfold is_smallest in ne_eqb (smallest R q) q (λ s. h (least-of ∙ s))

  pub count-taken : (q : ℕ) → is_smallest R q ≡ true → count (q + 1) (is_smallest R) ≡ count q (is_smallest R) + 1
  count-taken q e = unfold count in rw (add-one q, e)

  pub count-passed : (q : ℕ) → is_smallest R q ≡ false → count (q + 1) (is_smallest R) ≡ count q (is_smallest R)
  count-passed q e = unfold count in rw (add-one q, e) (omega arith)

  -- fewer than q smallest states come before q
  pub count-few : (q : ℕ) → count q (is_smallest R) ≤ q
  count-few q = count-max q (is_smallest R)

  -- no component has a number from the count on
  none_above : (k : ℕ) → components R ≤ k → mask_of k ≡ 0
  none_above k h =
      sym (mask-unique R.n 0 (λ q. eqb (component R q) k) (pow_pos R.n)
      (λ q l. bit-none q ∙ sym (ne_eqb (component R q) k (λ e. let x = few_components R q l in absurd (omega arith)))))

  pub laid_out : (masks : List ℕ) (c : ℕ) → masks ≡ table c mask_of → c ≡ count R.n (is_smallest R) → record { masks = masks; count = c } ≡ components_of R
  unfolding components_of components
  laid_out masks c e h = cc (e ∙ ap (λ (x : ℕ). table x mask_of) h ∙ all)
    where
      all : table (components R) mask_of ≡ tabulate 8 mask_of 0
      all =
          ext_get_or 0 (table (components R) mask_of) (tabulate 8 mask_of 0)
          (table-length (components R) mask_of ∙ sym (length-tabulate 8 mask_of 0))
          (λ i l. let m : i < 8 = omega (arith, table-length (components R) mask_of) in
          let t : get_or (tabulate 8 mask_of 0) i 0 ≡ mask_of i = tabulate-at 8 mask_of 0 i m ∙ ap mask_of (zero-add i) in
          by_cases (dec_lt i (components R))
          (λ y. table_at (components R) mask_of i y m ∙ sym t)
          (λ y. table-out (components R) mask_of i (omega arith) m ∙ sym (none_above i (omega arith)) ∙ sym t))

  -- ---- one turn of the loop: the components whose smallest states are below q, and q's

  pub record Found (q c : ℕ) (masks : List ℕ) : Type 0 where
    pub number : c ≡ count q (is_smallest R)
    pub laid : masks ≡ table c mask_of

  module _ (q k c c' : ℕ) (masks masks' : List ℕ) (l : q < R.n) (e : k ≡ class_by (closures_of R) R.n q) (f : Found q c masks) where
    pub turn-taken : (i : ℕ) → count_trailing_zeros 8 k ≡ q → masks' ≡ set masks i k → i ≡ c → c' ≡ c + 1 → Found (q + 1) c' masks'
    turn-taken i h x z y =
        let t = taken q k l e h in
        let b : c < 8 = omega (arith, f.number, count-few q) in
        record {
          number = y ∙ ap (λ (z : ℕ). z + 1) f.number ∙ sym (count-taken q t.0);
          laid = x ∙ ap (λ (j : ℕ). set masks j k) z ∙ ap (λ (s : List ℕ). set s c k) f.laid ∙ table-set c mask_of k b (t.1 ∙ ap mask_of (sym f.number)) ∙ ap (λ (z : ℕ). table z mask_of) (sym y);
        }

    pub turn-passed : (count_trailing_zeros 8 k ≡ q → ⊥) → masks' ≡ masks → c' ≡ c → Found (q + 1) c' masks'
    turn-passed h x y =
        let t = passed q k l e h in
        record { number = y ∙ f.number ∙ sym (count-passed q t); laid = x ∙ f.laid ∙ ap (λ (z : ℕ). table z mask_of) (sym y) }
