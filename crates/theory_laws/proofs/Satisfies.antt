-- Laws of `satisfies`: what tells two sets apart, sets that agree, sets that grow.
use mathlib.Core.Path.{◌≡◌, refl, sym, ◌∙◌, ap}
use mathlib.Core.Bool.{Bool, true, false, ◌||◌, not, false≢true}
use mathlib.Core.List.{List, [], ◌∷◌, Memᴰ}
use Prim.Native.Nat.{ℕ, ◌<◌}
use Rattle.sets.specs.Tests.{Set}
use Rattle.sets.specs.Masks.{bit, inside, exclusive}
use Rattle.sets.proofs.Bools.{bif, clash, or-fl, or-fr, or-rt, or_tf, not_t, not_f, iff, xor-twice}
use Rattle.sets.proofs.Tests.{every-at, every-not}
use Rattle.theory.specs.Rule.{satisfies}

pub record Apart (n : ℕ) (X Y : Set) (cs : List ℕ) : Type 0 where
  pub clause : ℕ
  pub listed : Memᴰ clause cs
  pub state : ℕ
  pub below : state < n
  pub member : bit clause state ≡ true
  pub yes-in : X state ≡ true
  pub not_in : Y state ≡ false

-- a set that satisfies an entry and one that does not: a clause of the entry has a member in the first and not in the second
pub split : (n : ℕ) (X Y : Set) (cs : List ℕ) → satisfies n X cs ≡ true → satisfies n Y cs ≡ false → Apart n X Y cs
unfolding satisfies inside
split n X Y [] e k = absurd (false≢true e)
split n X Y (c ∷ cs) e k =
    bif (inside n X c)
    (λ t. let r = every-not n (λ q. not (bit c q) || Y q) (or-fl (inside n Y c) (satisfies n Y cs) k) in
    let b : bit c r.0 ≡ true = not_f (bit c r.0) (or-fl (not (bit c r.0)) (Y r.0) r.2) in
    record {
      clause = c;
      listed = Memᴰ.head refl;
      state = r.0;
      below = r.1;
      member = b;
      yes-in = or_tf (bit c r.0) (X r.0) (every-at n (λ q. not (bit c q) || X q) t r.0 r.1) b;
      not_in = or-fr (not (bit c r.0)) (Y r.0) r.2;
    })
    (λ t. let r = split n X Y cs (or-rt (inside n X c) (satisfies n X cs) e t) (or-fr (inside n Y c) (satisfies n Y cs) k) in
    record {
      clause = r.clause;
      listed = Memᴰ.tail r.listed;
      state = r.state;
      below = r.below;
      member = r.member;
      yes-in = r.yes-in;
      not_in = r.not_in;
    })

-- ---- by the kind k of a component, true if it is accepting: its open states, and what settles an entry

abbrev pub open_in : Bool → Set → Set
open_in k S q = exclusive k (S q)

abbrev pub meets : Bool → ℕ → Set → List ℕ → Bool
meets k n X e = exclusive k (satisfies n (λ p. exclusive k (X p)) e)

pub meets-split : (k : Bool) (n : ℕ) (X Y : Set) (cs : List ℕ) → meets k n X cs ≡ true → meets k n Y cs ≡ false → Apart n X Y cs
meets-split true n X Y cs s t =
    let x = split n (λ p. not (Y p)) (λ p. not (X p)) cs (not_f _ t) (not_t _ s) in
    record { clause = x.clause; listed = x.listed; state = x.state; below = x.below; member = x.member; yes-in = not_f _ x.not_in; not_in = not_t _ x.yes-in }
meets-split false n X Y cs s t = split n X Y cs s t

-- sets that grow at the members of the entry's clauses
pub meets-mono : (k : Bool) (n : ℕ) (X Y : Set) (cs : List ℕ) → ((c q : ℕ) → Memᴰ c cs → q < n → bit c q ≡ true → X q ≡ true → Y q ≡ true)
    → meets k n X cs ≡ true → meets k n Y cs ≡ true
meets-mono k n X Y cs h e =
    bif (meets k n Y cs) (λ t. t) (λ t. let r = meets-split k n X Y cs e t in clash (h r.clause r.state r.listed r.below r.member r.yes-in) r.not_in)

-- sets that agree there, and sets that agree
pub satisfies-ext-in : (n : ℕ) (X Y : Set) (cs : List ℕ) → ((c q : ℕ) → Memᴰ c cs → q < n → bit c q ≡ true → X q ≡ Y q) → satisfies n X cs ≡ satisfies n Y cs
satisfies-ext-in n X Y cs h =
    iff _ _ (meets-mono false n X Y cs (λ c q m l b x. sym (h c q m l b) ∙ x)) (meets-mono false n Y X cs (λ c q m l b x. h c q m l b ∙ x))

pub satisfies-ext : (n : ℕ) (X Y : Set) → ((q : ℕ) → q < n → X q ≡ Y q) → (cs : List ℕ) → satisfies n X cs ≡ satisfies n Y cs
satisfies-ext n X Y h cs = satisfies-ext-in n X Y cs (λ c q m l b. h q l)

pub meets-open : (k : Bool) (n : ℕ) (S : Set) (cs : List ℕ) → meets k n (open_in k S) cs ≡ exclusive k (satisfies n S cs)
meets-open k n S cs = ap (exclusive k) (satisfies-ext n _ S (λ p l. xor-twice k (S p)) cs)
