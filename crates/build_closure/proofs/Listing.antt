-- The keys that were gathered, as codes and sorted, are the list of the reachable macrostates; or that list is longer than the slice.
use mathlib.Core.Path.{◌≡◌, refl, ap, sym, ◌∙◌}
use mathlib.Core.Bool.{Bool, true, false, true≢false}
use mathlib.Core.List.Memᴰ
use mathlib.Core.List.{List, map, Memᴰ}
use Prim.Native.Nat.{ℕ, ◌<◌}
use native.Mathlib.Omega.{arith}
use lib.ListN.{length, take, drop, length-map}
use lib.Seq.{take_at}
use Rattle.sets.specs.Tests.{Set}
use Rattle.sets.proofs.Ascending.{asc-ext}
use Rattle.theory.specs.Rule.{Rule}
use Rattle.theory.specs.Passing.{Passing}
use Rattle.theory.specs.Automaton.{automaton}
use Rattle.theory.specs.Macrostate.{Reachable}
use Rattle.theory.specs.TableComputed.{macrostates_from}
use Rattle.theory_laws.proofs.Layers.{layered}
use Rattle.theory_laws.proofs.Tables.{few_states, components-there, reachable-macrostate, reachable-iff, macrostates-ascending}
use Rattle.slice_sort.specs.Order.{Distinct, Arranged, ArrangedFirst}
use Rattle.slice_sort.proofs.Distinct.{rearranged-in, rearranged-out, arranged-asc}
use Rattle.build_closure.specs.Closure.{keys_of, Gathered, Listed}
use Rattle.build_spec.specs.Keys.{key_of, code_of, KeyOf}
use Rattle.build_closure.proofs.Codes.{coded}
use Rattle.build_spec.proofs.Keys.{code-key}
use Rattle.build_spec.proofs.Distinct.{distinct-through}
use Rattle.build_closure.proofs.Gathering.{keys-long}
use Rattle.build_step_back.proofs.Codes.{pair-low}

-- the numbers of R as those of another predicate
pub gathered-as : {R Q : ℕ → Type 0} {ws xs ys : List ℕ} {m : ℕ} {full : Bool} → length xs ≡ length ws → ((y : ℕ) → R y → Q y) → ((y : ℕ) → Q y → R y) → Gathered R xs ys m full →
    Gathered Q ws ys m full
gathered-as l f g a = record {
  long = a.long ∙ l;
  fits = a.fits;
  once = a.once;
  sound = λ t y k. f y (a.sound t y k);
  whole = λ t y k. a.whole t y (g y k);
  crowded = λ t k h. omega (arith, l, a.crowded t k (λ y q. h y (f y q)));
}

module _ {r : Rule} (P : Passing r) (start : Set) where
  abbrev R : ℕ → Type 0
  R = Reachable (automaton r) r.s start

  code-of-key : (c : ℕ) → R c → code_of (key_of c) ≡ c
  code-of-key c q = code-key c (pair-low (automaton r) c (reachable-macrostate (automaton r) (layered r P) (few_states r P) (components-there r P) r.s start q).coded)

  module _ {xs ys : List ℕ} {m : ℕ} where
    -- more macrostates than the slice has room for
    pub too_many : Gathered (KeyOf R) xs ys m true → length xs < length (macrostates_from r start)
    too_many g = rw (length-map (macrostates_from r start) key_of) at
        (g.crowded refl (map key_of (macrostates_from r start)) (λ y k. rw k.2 (Memᴰ.map key_of ((reachable-iff r P start k.0).1 k.1))))

    module _ (g : Gathered (KeyOf R) xs ys m false) where
      key-code : (y : ℕ) → Memᴰ y (keys_of m ys) → key_of (code_of y) ≡ y
      key-code y k = let s = g.sound refl y k in rw s.2 (ap key_of (code-of-key s.0 s.1))

      codes-distinct : Distinct (map code_of (keys_of m ys))
      codes-distinct = distinct-through code_of (keys_of m ys) (g.once refl) (λ x y k l e. sym (key-code x k) ∙ ap key_of e ∙ key-code y l)

      long : length (map code_of (keys_of m ys)) ≡ m
      long = length-map (keys_of m ys) code_of ∙ keys-long m ys g.fits

      code_in : (c : ℕ) → Memᴰ c (map code_of (keys_of m ys)) → R c
      code_in c k =
          let b = Memᴰ.of_map code_of (keys_of m ys) k in
          let s = g.sound refl b.0 b.1 in
          let e : s.0 ≡ c = sym (code-of-key s.0 s.1) ∙ ap code_of (sym s.2) ∙ b.2 in rw e at s.1

      in_code : (c : ℕ) → R c → Memᴰ c (map code_of (keys_of m ys))
      in_code c q = rw (code-of-key c q) at (Memᴰ.map code_of (g.whole refl (key_of c) (c, q, refl)))

      -- after to_codes and sort_first the first m elements are the list of the reachable macrostates
      all_listed : {zs ws : List ℕ} → zs ≡ coded m ys → ArrangedFirst zs m ws → take m ws ≡ macrostates_from r start
      all_listed {zs} {ws} e a =
          let front : take m zs ≡ map code_of (keys_of m ys) = ap (take m) e ∙ take_at (map code_of (keys_of m ys)) (drop m ys) m long in
          let b : Arranged (map code_of (keys_of m ys)) (take m ws) = rw front at a.front in
          asc-ext (take m ws) (macrostates_from r start) (arranged-asc (map code_of (keys_of m ys)) (take m ws) codes-distinct b) (macrostates-ascending r P start)
          (λ c k. (reachable-iff r P start c).1 (code_in c (rearranged-out (map code_of (keys_of m ys)) (take m ws) c b.rearranged k)))
          (λ c k. rearranged-in (map code_of (keys_of m ys)) (take m ws) c b.rearranged (in_code c ((reachable-iff r P start c).0 k)))

    -- the contract of reachable, where there is no room and where there is
    pub listed-full : {full : Bool} → full ≡ true → Gathered (KeyOf R) xs ys m full → Listed (macrostates_from r start) xs ys m full
    listed-full e g = record { long = g.long; fits = g.fits; listed = λ t. absurd (true≢false (sym e ∙ t)); crowded = λ t. too_many (rw e at g) }

    pub listed-all : {full : Bool} → full ≡ false → Gathered (KeyOf R) xs ys m full → {zs ws : List ℕ} → zs ≡ coded m ys → ArrangedFirst zs m ws → length ws ≡ length ys →
        Listed (macrostates_from r start) xs ws m full
    listed-all e g q a l = record { long = l ∙ g.long; fits = omega (arith, g.fits); listed = λ t. all_listed (rw e at g) q a; crowded = λ t. absurd (true≢false (sym t ∙ e)) }
