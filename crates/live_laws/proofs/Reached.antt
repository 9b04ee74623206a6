-- The set worked out afresh holds the macrostates that are reached over the letters, and no others.
use mathlib.Core.Path.{◌≡◌, refl, sym, ap, ◌∙◌}
use mathlib.Core.Logic.{◌↔◌}
use mathlib.Core.Bool.{true, ◌&&◌, false≢true}
use mathlib.Core.List.{List, [], ◌∷◌, ◌++◌, Memᴰ}
use Prim.Native.Nat.{ℕ, zero, suc, ◌<◌}
use native.Mathlib.Omega.{arith}
use native.Mathlib.Nat.{le_of_suc-le-suc}
use lib.Dec.{eqb, ltb}
use lib.ListN.{length, get_or}
use borrow.Author.Tests.{eqb-true, eq-eqb}
use Rattle.sets.specs.Lists.{any_of}
use Rattle.sets.specs.Masks.{bit}
use Rattle.sets.specs.Tests.{one}
use Rattle.sets.proofs.Bools.{and_l, and_r, and_i}
use Rattle.sets.proofs.Lists.{any_out, any-in, length-tabulate}
use Rattle.theory.specs.Macrostate.{begun}
use Rattle.theory.specs.Rule.{Rule}
use Rattle.theory.specs.Run.{source_of, letter_of_lem, target_of, Leads}
use Rattle.live_spec.proofs.Steps.{in_one, table_at, initial-length, stepped-length, over-length, over-more}
use Rattle.live_spec.specs.Reached.{Walks, here, step, ReachedOver}
use Rattle.live_spec.specs.Afresh.{is_in, enters, stepped, stepped_over, initial_set, afresh}

-- past the end nothing is in
pub in-low : (set : List ℕ) (x : ℕ) → is_in set x ≡ true → x < length set
in-low [] x e = absurd (false≢true e)
in-low (v ∷ set) zero e = omega arith
in-low (v ∷ set) (suc x) e = let l = in-low set x e in omega (arith, l)

-- ---- one step

stepped-at : (n : ℕ) (ts : List ℕ) (a : ℕ) (set : List ℕ) (y : ℕ) → y < n → is_in (stepped n ts a set) y ≡ any_of ts (enters set a y)
unfolding stepped
stepped-at n ts a set y l = ap (ltb 0) (table_at n (λ z. one (any_of ts (enters set a z))) y l) ∙ in_one (any_of ts (enters set a y))

pub stepped-in : (n : ℕ) (ts : List ℕ) (a : ℕ) (set : List ℕ) (t x y : ℕ) → y < n → Memᴰ t ts → Leads t x a y → is_in set x ≡ true → is_in (stepped n ts a set) y ≡ true
unfolding enters
stepped-in n ts a set t x y l m k h =
    stepped-at n ts a set y l
    ∙ any-in ts (enters set a y) t m (and_i (eq-eqb _ _ k.letter) (and_i (ap (is_in set) k.source ∙ h) (eq-eqb _ _ k.target)))

pub stepped-out : (n : ℕ) (ts : List ℕ) (a : ℕ) (set : List ℕ) (y : ℕ) → is_in (stepped n ts a set) y ≡ true
    → (t x : ℕ) × Memᴰ t ts × Leads t x a y × (is_in set x ≡ true)
unfolding enters
stepped-out n ts a set y e =
    let l : y < n = rw (stepped-length n ts a set) at (in-low (stepped n ts a set) y e) in
    let (t, m, h) = any_out ts (enters set a y) (sym (stepped-at n ts a set y l) ∙ e) in
    let k = and_r (eqb (letter_of_lem t) a) (is_in set (source_of t) && eqb (target_of t) y) h in (
      t,
      source_of t,
      m,
      record {
        source = refl;
        letter = eqb-true _ _ (and_l (eqb (letter_of_lem t) a) (is_in set (source_of t) && eqb (target_of t) y) h);
        target = eqb-true _ _ (and_r (is_in set (source_of t)) (eqb (target_of t) y) k);
      },
      and_l (is_in set (source_of t)) (eqb (target_of t) y) k,
    )

-- ---- over letters

pub over-out : (n : ℕ) (ts l set : List ℕ) (y : ℕ) → is_in (stepped_over n ts l set) y ≡ true → (x : ℕ) × (is_in set x ≡ true) × Walks ts x l y
unfolding stepped_over
over-out n ts [] set y e = (y, e, here)
over-out n ts (a ∷ l) set y e =
    let (z, h, w) = over-out n ts l (stepped n ts a set) y e in
    let (t, x, m, k, i) = stepped-out n ts a set z h in
    (x, i, step t a m k w)

pub over-in : (n : ℕ) (ts : List ℕ) → ((t : ℕ) → Memᴰ t ts → target_of t < n) → {x y : ℕ} {l : List ℕ} (set : List ℕ)
    → Walks ts x l y → is_in set x ≡ true → is_in (stepped_over n ts l set) y ≡ true
unfolding stepped_over
over-in n ts low set here e = e
over-in n ts low set (step {x = x} {z = z} t a m k w) e =
    over-in n ts low (stepped n ts a set) w (stepped-in n ts a set t x z (rw k.target at (low t m)) m k e)

-- ---- from the initial macrostates

initial-at : (q : ℕ) (codes : List ℕ) (x : ℕ) → x < length codes → is_in (initial_set q codes) x ≡ begun (λ d. bit d q) (get_or codes x 0)
unfolding initial_set
initial-at q [] x l = absurd (omega arith)
initial-at q (c ∷ codes) zero l = in_one (begun (λ d. bit d q) c)
initial-at q (c ∷ codes) (suc x) l = initial-at q codes x (le_of_suc-le-suc l)

pub afresh-length : (q : ℕ) (codes ts l : List ℕ) → length (afresh q codes ts l) ≡ length codes
unfolding afresh
afresh-length q codes ts l = over-length (length codes) ts l (initial_set q codes) (initial-length q codes)

-- the set after one more letter is one step from the set before
pub afresh-next : (q : ℕ) (codes ts l : List ℕ) (a : ℕ) → afresh q codes ts (l ++ (a ∷ [])) ≡ stepped (length codes) ts a (afresh q codes ts l)
unfolding afresh
afresh-next q codes ts l a = over-more (length codes) ts l (initial_set q codes) a

pub afresh-none : (q : ℕ) (codes ts : List ℕ) → afresh q codes ts [] ≡ initial_set q codes
unfolding afresh stepped_over
afresh-none q codes ts = refl

-- 02: "the set of M-104 macrostates reachable from the initial ones over the letters held", of any table
pub reached-iff : (r : Rule) (codes ts : List ℕ) → ((t : ℕ) → Memᴰ t ts → target_of t < length codes) → (l : List ℕ) (y : ℕ)
    → (is_in (afresh r.initial codes ts l) y ≡ true) ↔ ReachedOver r codes ts l y
unfolding afresh
reached-iff r codes ts low l y = (
  λ e. let (x, h, w) = over-out (length codes) ts l (initial_set r.initial codes) y e in
      let k : x < length codes = rw (initial-length r.initial codes) at (in-low (initial_set r.initial codes) x h) in
      record { start = x; listed = k; initial = sym (initial-at r.initial codes x k) ∙ h; walk = w },
  λ R. over-in (length codes) ts low (initial_set r.initial codes) R.walk (initial-at r.initial codes R.start R.listed ∙ R.initial),
)

-- ---- bytes of the set are 0 or 1

-- bytes that are 0 or 1 are shown as they are
abbrev pub Bytes : List ℕ → Type 0
Bytes set = (y : ℕ) → y < length set → one (is_in set y) ≡ get_or set y 0

stepped-bytes : (n : ℕ) (ts : List ℕ) (a : ℕ) (set : List ℕ) → Bytes (stepped n ts a set)
unfolding stepped
stepped-bytes n ts a set y l =
    let e = table_at n (λ z. one (any_of ts (enters set a z))) y (rw (length-tabulate n _ 0) at l) in
    ap (λ (v : ℕ). one (ltb 0 v)) e ∙ ap one (in_one (any_of ts (enters set a y))) ∙ sym e

pub over-bytes : (n : ℕ) (ts l set : List ℕ) → Bytes set → Bytes (stepped_over n ts l set)
unfolding stepped_over
over-bytes n ts [] set b = b
over-bytes n ts (a ∷ l) set b = over-bytes n ts l (stepped n ts a set) (stepped-bytes n ts a set)

initial-bytes : (q : ℕ) (codes : List ℕ) → Bytes (initial_set q codes)
unfolding initial_set
initial-bytes q [] y l = absurd (omega arith)
initial-bytes q (c ∷ codes) zero l = ap one (in_one (begun (λ d. bit d q) c))
initial-bytes q (c ∷ codes) (suc y) l = initial-bytes q codes y (le_of_suc-le-suc l)

pub afresh-bytes : (q : ℕ) (codes ts l : List ℕ) → Bytes (afresh q codes ts l)
unfolding afresh
afresh-bytes q codes ts l = over-bytes (length codes) ts l (initial_set q codes) (initial-bytes q codes)
