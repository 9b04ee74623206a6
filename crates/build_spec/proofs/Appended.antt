-- What is appended: nothing, one element, one thing after the other.
use mathlib.Core.Path.{◌≡◌, refl, ◌∙◌}
use mathlib.Core.Logic.{◌⊎◌, inl, inr, ⊎_elim, by_cases}
use mathlib.Core.Bool.{Bool, true, false, true≢false, false≢true}
use mathlib.Core.List.{List}
use Prim.Native.Nat.{ℕ, ◌+◌, ◌<◌}
use native.Mathlib.Omega.{arith}
use native.Mathlib.Decide.{dec_lt}
use lib.ListN.{length, get_or, set, length-set}
use lib.Seq.{get_or-set_same, get_or-set_other}
use Rattle.build_spec.specs.Appended.{Lacking, Appended}

module _ {read : ℕ → ℕ} {There : ℕ → Type 0} {Kept : Type 0} {W F : ℕ → Type 0} {xs : List ℕ} {n : ℕ} where
  -- the slice stays as it is
  still : Kept → (full : Bool) → (full ≡ false → (y : ℕ) → W y → There y) → (full ≡ true → Lacking There F xs n) → Appended read There Kept W F xs n xs n full
  still k full w o = record { long = refl; more = omega arith; same = λ p l. refl; kept = k; whole = w; only = λ p h l. absurd (omega arith); over = o }

  pub appended-none : Kept → ((y : ℕ) → W y → There y) → Appended read There Kept W F xs n xs n false
  appended-none k w = still k false (λ t. w) (λ t. absurd (false≢true t))

  -- no room for y
  pub appended-full : Kept → (y : ℕ) → F y → (There y → ⊥) → n ≡ length xs → Appended read There Kept W F xs n xs n true
  appended-full k y f o e = still k true (λ t. absurd (true≢false t)) (λ t. record { one = y; from = f; lacks = o; filled = e })

  -- x put at the end
  pub appended-put : (x : ℕ) → n < length xs → Kept → ((y : ℕ) → W y → There y) → F (read x) → Appended read There Kept W F xs n (set xs n x) (n + 1) false
  appended-put x room k w f = record {
    long = length-set xs n x;
    more = omega arith;
    same = λ p l. get_or-set_other xs n p x 0 (λ e. omega arith);
    kept = k;
    whole = λ t. w;
    only = λ p h l. let e : p ≡ n = omega arith in rw (e, get_or-set_same xs n x 0 room) f;
    over = λ t. absurd (false≢true t);
  }

module _ {read : ℕ → ℕ} {There : ℕ → Type 0} {Kept : Type 0} {W F : ℕ → Type 0} {xs : List ℕ} {n : ℕ} {ys : List ℕ} {m : ℕ} {full : Bool} (g : Appended read There Kept W F xs n ys m full) where
  -- less that must be there, more that may be
  pub appended-as : {U G : ℕ → Type 0} → (full ≡ false → (y : ℕ) → U y → W y) → ((y : ℕ) → F y → G y) → Appended read There Kept U G xs n ys m full
  appended-as v f = record {
    long = g.long;
    more = g.more;
    same = g.same;
    kept = g.kept;
    whole = λ t y h. g.whole t y (v t y h);
    only = λ p h l. f (read (get_or ys p 0)) (g.only p h l);
    over = λ t. let o = g.over t in record { one = o.one; from = f o.one o.from; lacks = o.lacks; filled = o.filled };
  }

  -- and after it others, which are looked for at other places; what lacks room there lacks it
  pub appended_then : full ≡ false → {Here Both : ℕ → Type 0} {Keeps All : Type 0} {U G X H : ℕ → Type 0} {zs : List ℕ} {u : ℕ} {full' : Bool} → Appended read Here Keeps U G ys m zs u full' → All
      → ((y : ℕ) → There y → Both y) → ((y : ℕ) → Here y → Both y) → ((y : ℕ) → G y → (Here y → ⊥) → Both y → ⊥)
      → ((y : ℕ) → F y ⊎ G y → H y) → (full' ≡ false → (y : ℕ) → X y → W y ⊎ U y) → Appended read Both All X H xs n zs u full'
  appended_then e h k first second lacks join part = record {
    long = h.long ∙ g.long;
    more = omega (arith, g.more, h.more);
    same = λ p l. h.same p (omega (arith, g.more)) ∙ g.same p l;
    kept = k;
    whole = λ t y x. ⊎_elim (λ w. first y (g.whole e y w)) (λ w. second y (h.whole t y w)) (part t y x);
    only = λ p j l. join _ (by_cases (dec_lt p m) (λ b. inl (rw (h.same p b) (g.only p j b))) (λ b. inr (h.only p (omega arith) l)));
    over = λ t. let o = h.over t in record { one = o.one; from = join o.one (inr o.from); lacks = lacks o.one o.from o.lacks; filled = o.filled };
  }
