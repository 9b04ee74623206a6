-- The transitions that are written, sorted, are those of the rule; or those are more than there is room for.
use mathlib.Core.Path.{◌≡◌, refl, ap, sym, ◌∙◌}
use mathlib.Core.Bool.{true, false}
use mathlib.Core.List.{List, Memᴰ}
use Prim.Native.Nat.{ℕ, ◌/◌, ◌^◌, ◌≤◌, ◌<◌}
use native.Mathlib.Omega.{arith}
use lib.ListN.{length, get_or, take}
use lib.Seq.{length-take-le, get_or-take}
use Rattle.sets.specs.Tests.{Set}
use Rattle.sets.proofs.Lists.{place_of, mem-at}
use Rattle.sets.proofs.Ascending.{asc-ext}
use Rattle.theory.specs.Automaton.{Automaton, automaton}
use Rattle.theory.specs.Macrostate.{Macrostate, Goes, Reachable}
use Rattle.theory.specs.Rule.{Rule}
use Rattle.theory.specs.TableComputed.{macrostates_from, transitions_from}
use Rattle.theory_laws.proofs.Layers.{layered}
use Rattle.theory_laws.proofs.Tables.{few_states, components-there, reachable-iff, reachable-macrostate, transition-iff, transitions-ascending}
use Rattle.codes.specs.Codes.{transition_of}
use Rattle.slice_sort.specs.Order.{Distinct, ArrangedFirst}
use Rattle.slice_sort.proofs.Distinct.{longer, rearranged-in, rearranged-out, arranged-asc}
use Rattle.build_step_back.proofs.Codes.{pair-low}
use Rattle.build_spec.specs.Chains.{key_at}
use Rattle.build_spec.specs.Keys.{start_of, key_of, code_of, Cored, LeadsOver}
use Rattle.build_spec.specs.Reached.{AllReached}
use Rattle.build_spec.specs.Tables.{RuleTables}
use Rattle.build_spec.specs.declared.Shape.{Shape}
use Rattle.build_spec.proofs.Distinct.{distinct-at}
use Rattle.build_spec.proofs.Keys.{code-key, key-core}
use Rattle.build_spec.proofs.Link.{vector, vector-core, step_in, step-leads, reached-out}
use Rattle.build_spec.specs.Emission.{Stands, Emitted, Done, vector_at}
use Rattle.build_spec.proofs.Cores.{core-vector, key-cored}

pub code-low : {A : Automaton} {x : ℕ} → Macrostate A x → x < 2 ^ 48
code-low {A} {x} M = omega (arith, pair-low A x M.coded)

-- ---- what stands in a slice

module _ (ys : List ℕ) (m : ℕ) (fits : m ≤ length ys) where
  stands-in : (y : ℕ) → Stands 0 ys m y → Memᴰ y (take m ys)
  stands-in y s = let l : s.0 < length (take m ys) = omega (arith, s.2, length-take-le m ys fits) in
      rw (get_or-take m ys s.0 0 s.2, s.3) at (mem-at (take m ys) s.0 l)

  in-stands : (y : ℕ) → Memᴰ y (take m ys) → Stands 0 ys m y
  in-stands y k =
      let p = place_of (take m ys) y k in
      let l : p.0 < m = omega (arith, p.1, length-take-le m ys fits) in
      (p.0, omega arith, l, sym (get_or-take m ys p.0 0 l) ∙ p.2)

  once-distinct : ((p q : ℕ) → 0 ≤ p → p < q → q < m → get_or ys p 0 ≡ get_or ys q 0 → ⊥) → Distinct (take m ys)
  once-distinct h = distinct-at (take m ys)
      (λ i j a b e. let l : j < m = omega (arith, length-take-le m ys fits) in h i j (omega arith) a l (sym (get_or-take m ys i 0 (omega arith)) ∙ e ∙ get_or-take m ys j 0 l))

module _ {r : Rule} {opens parts : List ℕ} {shape : Shape} (T : RuleTables r opens parts shape) where
  abbrev start : Set
  start = start_of r shape.holds

  abbrev A : Automaton
  A = automaton r

  abbrev codes : List ℕ
  codes = macrostates_from r start

  abbrev n : ℕ
  n = length codes

  abbrev code : ℕ → ℕ
  code p = get_or codes p 0

  reached : (p : ℕ) → p < n → Reachable A r.s start (code p)
  reached p l = (reachable-iff r T.shaped.passing start (code p)).0 (mem-at codes p l)

  pub macrostate : (p : ℕ) → p < n → Macrostate A (code p)
  macrostate p l = reachable-macrostate A (layered r T.shaped.passing) (few_states r T.shaped.passing) (components-there r T.shaped.passing) r.s start (reached p l)

  back : (p : ℕ) → p < n → code_of (key_of (code p)) ≡ code p
  back p l = code-key (code p) (pair-low A (code p) (macrostate p l).coded)

  -- keys holds the keys of the codes
  module _ (few : n ≤ 65536) (keys : List ℕ) (is : (p : ℕ) → p < n → key_at keys p ≡ key_of (code p)) where
    pub all-reached : AllReached r parts shape keys n
    all-reached p l = reached-out T.shaped (key_at keys p) (code p, reached p l, is p l)

    vector-is : (j : ℕ) (l : j < n) → vector A (layered r T.shaped.passing) parts T.shaped.masks (code j) (macrostate j l) ≡ vector_at keys j
    vector-is j l =
        let M = macrostate j l in
        let v = vector A (layered r T.shaped.passing) parts T.shaped.masks (code j) M in
        sym (ap (λ (x : ℕ). x / 256 / 256) (is j l) ∙ ap (λ (x : ℕ). x / 256)
        (key-core (code j) (pair-low A (code j) M.coded) ∙ vector-core A (layered r T.shaped.passing) parts T.shaped.masks (code j) M) ∙ core-vector A v)

    done-in : (y : ℕ) → Memᴰ y (transitions_from r start) → Done A shape.s keys n n y
    done-in y k = let t = (transition-iff r T.shaped.passing start few y).0 k in
        at t.source t.letter t.target t.source_listed t.letter_known t.target_listed t.packed t.steps
      where
        at : (x a j : ℕ) → x < n → a < r.s → j < n → y ≡ transition_of x a j → Goes A (code x) a (code j) → Done A shape.s keys n n y
        at x a j hx ha hj e G =
            let L : LeadsOver A (vector_at keys j) a (key_at keys x) (key_at keys j)
            = rw (← vector-is j hj, is x hx, is j hj) (step-leads A (layered r T.shaped.passing) parts T.shaped.masks (code x) a (code j) (macrostate x hx) (macrostate j hj) G) in
            (j, hj, (a, omega (arith, T.shaped.letters_are), (x, hx, (j, hj, L, e))))

    goes_on : (v : ℕ) → Cored parts shape.components v → (p t a : ℕ) → p < n → t < n → LeadsOver A v a (key_at keys p) (key_at keys t) → Goes A (code p) a (code t)
    goes_on v w p t a hp ht L =
        let s = step_in A (layered r T.shaped.passing) parts T.shaped.masks v (rw T.shaped.components_are at w) (code p) a (key_at keys t) (macrostate p hp) (rw (is p hp) at L) in
        let e : s.0 ≡ code t = sym (code-key s.0 (pair-low A s.0 s.1.coded)) ∙ ap code_of (sym s.3 ∙ is t ht) ∙ back t ht in
        rw e at s.2

    done-out : (y : ℕ) → Done A shape.s keys n n y → Memᴰ y (transitions_from r start)
    done-out y d =
        let f = d.2.2 in
        let w = (key-cored T (key_at keys d.0) (all-reached d.0 d.1)).0 in
        (transition-iff r T.shaped.passing start few y).1 (record {
          source = f.0;
          letter = d.2.0;
          target = f.2.0;
          source_listed = f.1;
          letter_known = omega (arith, d.2.1, T.shaped.letters_are);
          target_listed = f.2.1;
          packed = f.2.3;
          steps = goes_on (vector_at keys d.0) w f.0 f.2.0 d.2.0 f.1 f.2.1 f.2.2;
        })

    module _ {xs ys : List ℕ} {m : ℕ} where
      -- sorted
      pub all-written : Emitted (Done A shape.s keys n n) xs 0 ys m false → {us : List ℕ} → ArrangedFirst ys m us → take m us ≡ transitions_from r start
      all-written g {us} a =
          asc-ext (take m us) (transitions_from r start) (arranged-asc (take m ys) (take m us) (once-distinct ys m g.kept.fits g.kept.once) a.front)
          (transitions-ascending r T.shaped.passing start)
          (λ y k. let s = in-stands ys m g.kept.fits y (rearranged-out (take m ys) (take m us) y a.front.rearranged k) in done-out y (rw s.3 at (g.only s.0 s.1 s.2)))
          (λ y k. rearranged-in (take m ys) (take m us) y a.front.rearranged (stands-in ys m g.kept.fits y (g.whole refl y (done-in y k))))

      -- 18: "more transitions than room"
      pub overfull : Emitted (Done A shape.s keys n n) xs 0 ys m true → length xs < length (transitions_from r start)
      overfull g =
          let o = g.over refl in
          let z = longer (take m ys) o.one (transitions_from r start) (once-distinct ys m g.kept.fits g.kept.once) (λ k. o.lacks (in-stands ys m g.kept.fits o.one k))
          (done-out o.one o.from) (λ y k. let s = in-stands ys m g.kept.fits y k in done-out y (rw s.3 at (g.only s.0 s.1 s.2))) in
          omega (arith, length-take-le m ys g.kept.fits, o.filled, g.long)
