-- Rounds until one adds nothing.
use mathlib.Core.Path.{◌≡◌, sym, ◌∙◌}
use mathlib.Core.Logic.{by_cases}
use mathlib.Core.Bool.{Bool, true, false, true≢false, false≢true}
use mathlib.Core.List.{List}
use Prim.Native.Nat.{ℕ, ◌≤◌, ◌<◌}
use native.Mathlib.Omega.{arith}
use native.Mathlib.Decide.{dec_lt}
use lib.ListN.{length}
use Rattle.slice_sort.proofs.Distinct.{longer}
use Rattle.build_spec.specs.Chains.{key_at, Lists, Chained}
use Rattle.build_spec.specs.Growth.{Grown, After}
use Rattle.build_spec.proofs.Growth.{lists-kept, key-kept, all_in, all-kept}
use Rattle.build_spec.specs.Reached.{Reached, begins, leads}
use Rattle.build_closure.specs.Closure.{keys_of, Gathered}
use Rattle.build_closure.proofs.Gathering.{keys-long, lists-in, in-lists, keys-once}

-- no room: the list is full with numbers of R, and one more of them is not there
pub gathered-full : {R W F : ℕ → Type 0} {xs : List ℕ} {n : ℕ} {ys heads last zs : List ℕ} {m : ℕ} {full : Bool} → Grown W F xs n ys heads last m full → full ≡ true
    → ((p : ℕ) → p < n → R (key_at xs p)) → ((y : ℕ) → F y → R y) → length xs ≡ length zs → Gathered R zs ys m full
gathered-full {R} {ys = ys} {m = m} g e old new l = record {
  long = g.long ∙ l;
  fits = g.kept.fits;
  once = λ t. absurd (true≢false (sym e ∙ t));
  sound = λ t. absurd (true≢false (sym e ∙ t));
  whole = λ t. absurd (true≢false (sym e ∙ t));
  crowded = λ t k h.
      let o = g.over e in
      let all = all_in g R old new in
      let f = g.kept.fits in
      let z = longer (keys_of m ys) o.one k (keys-once m ys f g.kept.once) (λ i. o.lacks (in-lists m ys f o.one i)) (h o.one (new o.one o.from))
      (λ y i. let q = in-lists m ys f y i in h y (rw q.2 at (all q.0 q.1))) in
      omega (arith, keys-long m ys f, o.filled, g.long);
}

module _ (first : ℕ → Type 0) (edge : ℕ → ℕ → Type 0) where
  -- n keys, all reached, the first ones among them; what those before place `from` lead to is listed
  pub record Closing (xs heads last : List ℕ) (n from : ℕ) : Type 0 where
    pub chained : Chained xs heads last n
    pub place : from ≤ n
    pub sound : (p : ℕ) → p < n → Reached first edge (key_at xs p)
    pub holds : (y : ℕ) → first y → Lists xs n y
    pub closed : (p y : ℕ) → p < from → edge (key_at xs p) y → Lists xs n y

module _ {first : ℕ → Type 0} {edge : ℕ → ℕ → Type 0} {xs heads last : List ℕ} {n from : ℕ} (c : Closing first edge xs heads last n from) where
  -- a round
  pub close-next : {ys hs ls : List ℕ} {m : ℕ} {full : Bool} → Grown (After from n xs edge) (Reached first edge) xs n ys hs ls m full → full ≡ false → Closing first edge ys hs ls m n
  close-next g e = record {
    chained = g.kept;
    place = g.more;
    sound = all-kept g c.sound;
    holds = λ y f. lists-kept g (c.holds y f);
    closed = λ p y l d.
        let k : edge (key_at xs p) y = rw (key-kept g p l) at d in
        by_cases (dec_lt p from)
        (λ h. lists-kept g (c.closed p y h k))
        (λ h. g.whole e y (p, omega arith, l, k));
  }

  -- every key was used: all is there
  complete : n ≤ from → {y : ℕ} → Reached first edge y → Lists xs n y
  complete z (begins f) = c.holds _ f
  complete z (leads {x} {y} q d) = let i = complete z q in c.closed i.0 y (omega (arith, i.1)) (rw i.2 d)

  pub close-end : {zs : List ℕ} → length xs ≡ length zs → n ≤ from → Gathered (Reached first edge) zs xs n false
  close-end l z = record {
    long = l;
    fits = c.chained.fits;
    once = λ t. keys-once n xs c.chained.fits c.chained.once;
    sound = λ t y k. let q = in-lists n xs c.chained.fits y k in rw q.2 at (c.sound q.0 q.1);
    whole = λ t y k. lists-in n xs c.chained.fits y (complete z k);
    crowded = λ t. absurd (false≢true t);
  }
