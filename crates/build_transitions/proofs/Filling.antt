-- The codes become keys and codes again, and what is written in between are the transitions of the rule.
use mathlib.Core.Path.{◌≡◌, ap, sym, subst, ◌∙◌}
use mathlib.Core.Bool.{Bool, true, false, true≢false}
use mathlib.Core.List.{List}
use Prim.Native.Nat.{ℕ, ◌^◌, ◌≤◌, ◌<◌}
use native.Mathlib.Omega.{arith}
use lib.ListN.{length, get_or, take}
use lib.Seq.{ext_get_or}
use Rattle.sets.specs.Lists.{Ascending}
use Rattle.theory.specs.Automaton.{automaton}
use Rattle.theory.specs.Rule.{Rule}
use Rattle.theory.specs.TableComputed.{macrostates_from, transitions_from}
use Rattle.theory_laws.proofs.Tables.{macrostates-ascending}
use Rattle.slice_sort.specs.Order.{ArrangedFirst}
use Rattle.build_spec.specs.Chains.{key_at}
use Rattle.build_spec.specs.Keys.{start_of, key_of, code_of}
use Rattle.build_spec.specs.Reached.{AllReached}
use Rattle.build_spec.specs.Tables.{RuleTables}
use Rattle.build_spec.specs.declared.Shape.{Shape}
use Rattle.build_spec.proofs.Keys.{code-key}
use Rattle.build_closure.specs.Closure.{Listed}
use Rattle.build_closure.proofs.Codes.{coded, coded-at, coded-long}
use Rattle.build_spec.specs.Emission.{Emitted, Done}
use Rattle.build_spec.proofs.Listing.{code-low, macrostate, all-reached, all-written, overfull}

-- keys has the keys of the codes, in their places
abbrev pub KeysOf : List ℕ → List ℕ → Type 0
KeysOf codes keys = (p : ℕ) → p < length codes → key_at keys p ≡ key_of (get_or codes p 0)

-- the codes come back
pub restored : {codes : List ℕ} (keys : List ℕ) {zs : List ℕ} → length keys ≡ length codes → ((p : ℕ) → p < length codes → get_or codes p 0 < 2 ^ 48) → KeysOf codes keys
    → zs ≡ coded (length codes) keys → zs ≡ codes
restored {codes} keys {zs} long low is e = ext_get_or 0 zs codes (ap length e ∙ coded-long (length codes) keys (omega arith) ∙ long)
    (λ p h.
    let l : p < length codes = omega (arith, ap length e ∙ coded-long (length codes) keys (omega arith)) in
    ap (λ (x : List ℕ). get_or x p 0) e ∙ coded-at (length codes) p keys l (omega arith) ∙ ap code_of (is p l) ∙ code-key (get_or codes p 0) (let z = low p l in omega arith))

module _ {r : Rule} {opens parts : List ℕ} {shape : Shape} (T : RuleTables r opens parts shape) where
  abbrev start : ℕ → Bool
  start = start_of r shape.holds

  -- what the codes of the reachable macrostates have
  pub record Ready (codes : List ℕ) : Type 0 where
    pub ascending : Ascending codes
    pub low : (p : ℕ) → p < length codes → get_or codes p 0 < 2 ^ 48
    pub reached : length codes ≤ 65536 → (keys : List ℕ) → KeysOf codes keys → AllReached r parts shape keys (length codes)
    pub written : length codes ≤ 65536 → (keys : List ℕ) → KeysOf codes keys → {xs ys : List ℕ} {m : ℕ} → Emitted (Done (automaton r) shape.s keys (length codes) (length codes)) xs 0 ys m false
        → {us : List ℕ} → ArrangedFirst ys m us → take m us ≡ transitions_from r start
    pub over : length codes ≤ 65536 → (keys : List ℕ) → KeysOf codes keys → {xs ys : List ℕ} {m : ℕ} → Emitted (Done (automaton r) shape.s keys (length codes) (length codes)) xs 0 ys m true
        → length xs < length (transitions_from r start)

  pub ready : {codes : List ℕ} → codes ≡ macrostates_from r start → Ready codes
  ready e = subst Ready (sym e) (record {
    ascending = macrostates-ascending r T.shaped.passing start;
    low = λ p l. code-low (macrostate T p l);
    reached = all-reached T;
    written = λ f k i. all-written T f k i;
    over = λ f k i. overfull T f k i;
  })

  module _ {codes : List ℕ} (R : Ready codes) (few : length codes ≤ 65536) (keys : List ℕ) (long : length keys ≡ length codes) (is : KeysOf codes keys) where
    pub reached : AllReached r parts shape keys (length keys)
    reached = rw long (R.reached few keys is)

    module _ {xs ys : List ℕ} {m : ℕ} {full : Bool} (g : Emitted (Done (automaton r) shape.s keys (length keys) (length keys)) xs 0 ys m full) where
      done : Emitted (Done (automaton r) shape.s keys (length codes) (length codes)) xs 0 ys m full
      done = rw long at g

      pub filled-full : full ≡ true → Listed (transitions_from r start) xs ys m full
      filled-full e = record { long = g.long; fits = g.kept.fits; listed = λ t. absurd (true≢false (sym e ∙ t)); crowded = λ t. R.over few keys is (rw e at done) }

      pub filled : full ≡ false → {us : List ℕ} → ArrangedFirst ys m us → length us ≡ length ys → Listed (transitions_from r start) xs us m full
      filled e a l = record { long = l ∙ g.long; fits = omega (arith, g.kept.fits); listed = λ t. R.written few keys is (rw e at done) a; crowded = λ t. absurd (true≢false (sym t ∙ e)) }
