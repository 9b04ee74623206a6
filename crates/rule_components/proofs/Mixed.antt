-- Classes that hold an accepting state and a rejecting one.
use mathlib.Core.Path.{◌≡◌, refl, ap, sym, ◌∙◌}
use mathlib.Core.Bool.{Bool, true, false, ◌&&◌, not}
use mathlib.Core.Logic.{by_cases}
use mathlib.Core.List.{List}
use Prim.Native.Nat.{ℕ, ◌/◌, ◌%◌, ◌^◌, ◌<◌, ◌≤◌, min}
use native.Mathlib.Omega.{arith}
use native.Mathlib.Decide.{dec_lt, ℕ_discrete}
use borrow.Author.Tests.{eq-eqb, ne_eqb}
use lib.Dec.{eqb}
use lib.Bits.{bit_and, and_lt, and_mask, and_step}
use lib.ListN.{get_or}
use Rattle.sets.specs.Tests.{Set, some_below, one}
use Rattle.sets.specs.Masks.{bit, mask}
use Rattle.sets.proofs.Bools.{bif, clash, and_l, and_r, and_i, not_f, iff}
use Rattle.sets.proofs.Tests.{some_at, some-get, some-none, some-no, some-ext}
use Rattle.sets.proofs.Masks.{bit_mask, mask_lt, mask-ext}
use Rattle.theory.specs.Rule.{Rule}
use Rattle.theory.specs.Components.{reaches, together, mixed}
use Rattle.theory_laws.proofs.Components.{together-refl, together-sym, together-trans}
use Rattle.rule_reach.specs.Tables.{closures_of}
use Rattle.sets.proofs.Bits.{bit-and, bit-none, bit_high, bit-ext}
use Rattle.rule_reach.proofs.Tables.{table_at}

and-fr : (a b : Bool) → a && b ≡ false → a ≡ true → b ≡ false
and-fr true b e k = e
and-fr false b e k = clash k refl

-- a bit as a number
low : (m q : ℕ) → bit_and (m / 2 ^ q) 1 ≡ one (bit m q)
unfolding bit
low m q =
    let e : bit_and (m / 2 ^ q) 1 ≡ m / 2 ^ q % 2 = and_mask (m / 2 ^ q) 1 in
    by_cases (ℕ_discrete (m / 2 ^ q % 2) 1) (λ h. rw (eq-eqb _ _ h) (e ∙ h)) (λ h. let z : m / 2 ^ q % 2 ≡ 0 = omega arith in rw z (e ∙ z))

-- the bits of a pair of states, as the code joins them
pub both_bits : (x y p q : ℕ) → bit_and (bit_and (x / 2 ^ p) (y / 2 ^ q)) 1 ≡ one (bit x p && bit y q)
both_bits x y p q =
    let d : bit_and (bit_and (x / 2 ^ p) (y / 2 ^ q)) 1 ≡ bit_and (x / 2 ^ p) (y / 2 ^ q) % 2 = and_mask (bit_and (x / 2 ^ p) (y / 2 ^ q)) 1 in
    let f = and_step (x / 2 ^ p) (y / 2 ^ q) in
    let a : x / 2 ^ p % 2 ≡ one (bit x p) = sym (and_mask (x / 2 ^ p) 1) ∙ low x p in
    let b : y / 2 ^ q % 2 ≡ one (bit y q) = sym (and_mask (y / 2 ^ q) 1) ∙ low y q in
    d ∙ joined (bit x p) (bit y q) a b (omega arith)
  where
    joined : (u v : Bool) {m n k : ℕ} → m ≡ one u → n ≡ one v → k ≡ min m n → k ≡ one (u && v)
    joined true true a b e = omega arith
    joined true false a b e = omega arith
    joined false v a b e = omega arith

module _ (k a : ℕ) where
  abbrev pub accepted : Set
  accepted q = bit k q && bit a q

  abbrev pub rejected : Set
  rejected q = bit k q && not (bit a q)

  pub none-accepted : bit_and k a ≡ 0 → some_below 8 accepted ≡ false
  none-accepted e = some-none 8 accepted (λ q l. sym (bit-and k a q) ∙ ap (λ (x : ℕ). bit x q) e ∙ bit-none q)

  pub some-accepted : k < 256 → a < 256 → (bit_and k a ≡ 0 → ⊥) → some_below 8 accepted ≡ true
  some-accepted h j e =
      bif (some_below 8 accepted) (λ t. t)
      (λ t. absurd (e (bit-ext 8 (bit_and k a) 0 (and_lt 8 k a h j) (omega arith) (λ q l. bit-and k a q ∙ some-no 8 accepted t q l ∙ sym (bit-none q)))))

  pub some-rejected : k < 256 → a < 256 → not (eqb (bit_and k a) k) ≡ some_below 8 rejected
  some-rejected h j =
      by_cases (ℕ_discrete (bit_and k a) k)
      (λ e. rw (eq-eqb (bit_and k a) k e) (sym (some-none 8 rejected (λ q l. bif (bit k q)
      (λ t. let u : bit a q ≡ true = and_r (bit k q) (bit a q) (sym (bit-and k a q) ∙ ap (λ (x : ℕ). bit x q) e ∙ t) in rw (t, u))
      (λ t. rw t)))))
      (λ e. rw (ne_eqb (bit_and k a) k e) (bif (some_below 8 rejected)
      (λ t. sym t)
      (λ t. absurd (e (bit-ext 8 (bit_and k a) k (and_lt 8 k a h j) h
      (λ q l. bit-and k a q ∙ bif (bit k q)
      (λ u. let v : bit a q ≡ true = not_f (bit a q) (and-fr (bit k q) (not (bit a q)) (some-no 8 rejected t q l) u) in rw (u, v))
      (λ u. rw u)))))))

-- ---- a rule is mixed exactly if some state's class holds both kinds

module _ (R : Rule) (few : R.n ≤ 8) (acc : ℕ) (same : acc ≡ R.accepting) where
  abbrev pub class : ℕ → ℕ
  class q = mask R.n (together R q)

  -- the class of q holds both kinds
  abbrev pub both : Set
  both q = some_below 8 (accepted (class q) acc) && some_below 8 (rejected (class q) acc)

  member : (q p : ℕ) → bit (class q) p ≡ true → (p < R.n) × (together R q p ≡ true)
  member q p e = by_cases (dec_lt p R.n) (λ l. (l, sym (bit_mask _ _ p l) ∙ e)) (λ l. clash e (bit_high _ (class q) p (mask_lt _ _) (omega arith)))

  pair : (q y z : ℕ) → q < R.n → accepted (class q) acc y ≡ true → rejected (class q) acc z ≡ true → mixed R ≡ true
  unfolding mixed
  pair q y z l u v =
      let a = member q y (and_l (bit (class q) y) (bit acc y) u) in
      let b = member q z (and_l (bit (class q) z) (not (bit acc z)) v) in
      let c : bit R.accepting y ≡ true = rw (sym same) (and_r (bit (class q) y) (bit acc y) u) in
      let d : not (bit R.accepting z) ≡ true = rw (sym same) (and_r (bit (class q) z) (not (bit acc z)) v) in
      some_at _ _ y a.0 (some_at _ _ z b.0 (and_i (together-trans R y q z a.0 l b.0 (together-sym R q y a.1) b.1) (and_i c d)))

  there : (q p : ℕ) → q < R.n → p < R.n → (together R q p && (bit R.accepting q && not (bit R.accepting p))) ≡ true → some_below R.n both ≡ true
  there q p l m e =
      let t = and_l (together R q p) (bit R.accepting q && not (bit R.accepting p)) e in
      let u = and_r (together R q p) (bit R.accepting q && not (bit R.accepting p)) e in
      let a : bit acc q ≡ true = rw same (and_l (bit R.accepting q) (not (bit R.accepting p)) u) in
      let b : not (bit acc p) ≡ true = rw same (and_r (bit R.accepting q) (not (bit R.accepting p)) u) in
      some_at R.n both q l (and_i
      (some_at 8 (accepted (class q) acc) q (omega arith) (and_i (bit_mask R.n (together R q) q l ∙ together-refl R q l) a))
      (some_at 8 (rejected (class q) acc) p (omega arith) (and_i (bit_mask R.n (together R q) p m ∙ t) b)))

  pub mixed-classes : some_below R.n both ≡ mixed R
  unfolding mixed
  mixed-classes =
      iff (some_below R.n both) (mixed R)
      (λ t. let x = some-get R.n both t in
      let q = x.0 in
      let y = some-get 8 (accepted (class q) acc) (and_l (some_below 8 (accepted (class q) acc)) (some_below 8 (rejected (class q) acc)) x.2) in
      let z = some-get 8 (rejected (class q) acc) (and_r (some_below 8 (accepted (class q) acc)) (some_below 8 (rejected (class q) acc)) x.2) in
      pair x.0 y.0 z.0 x.1 y.2 z.2)
      (λ t. let x = some-get R.n (λ q. some_below R.n (λ p. together R q p && (bit R.accepting q && not (bit R.accepting p)))) t in
      let y = some-get R.n (λ p. together R x.0 p && (bit R.accepting x.0 && not (bit R.accepting p))) x.2 in
      there x.0 y.0 x.1 y.1 y.2)

-- ---- the same from the table of what each state reaches

-- the class of q
abbrev pub class_by : List ℕ → ℕ → ℕ → ℕ
class_by reach n q = mask n (λ p. bit (get_or reach q 0) p && bit (get_or reach p 0) q)

-- it holds both kinds
abbrev pub both_by : List ℕ → ℕ → ℕ → Set
both_by reach n acc q = some_below 8 (accepted (class_by reach n q) acc) && some_below 8 (rejected (class_by reach n q) acc)

pub class-by : (R : Rule) → R.n ≤ 8 → (q : ℕ) → q < R.n → class_by (closures_of R) R.n q ≡ mask R.n (together R q)
unfolding together
class-by R few q l =
    mask-ext R.n (λ p. bit (get_or (closures_of R) q 0) p && bit (get_or (closures_of R) p 0) q) (together R q)
    (λ p m. rw (
      table_at R.n (λ q. mask R.n (reaches R q)) q l (omega arith),
      table_at R.n (λ q. mask R.n (reaches R q)) p m (omega arith),
      bit_mask R.n (reaches R q) p m,
      bit_mask R.n (reaches R p) q l,
    ))

pub mixed-by : (R : Rule) → R.n ≤ 8 → (reach : List ℕ) → reach ≡ closures_of R → mixed R ≡ some_below R.n (both_by reach R.n R.accepting)
mixed-by R few reach e =
    sym (some-ext R.n (both_by reach R.n R.accepting) (both R few R.accepting refl)
    (λ q l. ap (λ (k : ℕ). some_below 8 (accepted k R.accepting) && some_below 8 (rejected k R.accepting)) (ap (λ (t : List ℕ). class_by t R.n q) e ∙ class-by R few q l))
    ∙ mixed-classes R few R.accepting refl)

-- what the code finds at a state: its class, then both kinds in it
pub both-at : (reach : List ℕ) (n acc q k : ℕ) (b v : Bool) → k ≡ class_by reach n q → b ≡ (some_below 8 (accepted k acc) && some_below 8 (rejected k acc)) → b ≡ v
    → both_by reach n acc q ≡ v
both-at reach n acc q k b v e u h = ap (λ (x : ℕ). some_below 8 (accepted x acc) && some_below 8 (rejected x acc)) (sym e) ∙ sym u ∙ h
