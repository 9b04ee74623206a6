-- Three ways, from the start to u, on to v and back to u, make a word that both tables accept.
use mathlib.Core.Path.{◌≡◌, refl, ap, ◌∙◌}
use mathlib.Core.Bool.{true, false}
use mathlib.Core.List.{List, [], ◌++◌, append_assoc}
use Prim.Native.Nat.{ℕ, ◌+◌, ◌*◌, ◌/◌, ◌%◌, ◌≤◌, ◌<◌}
use native.Mathlib.Omega.{arith}
use lib.ListN.{length, get_or, drop, length-append}
use Rattle.sets.specs.Tests.{Set}
use Rattle.sets.proofs.Bools.{and_l, and_r}
use Rattle.theory.specs.Macrostate.{begun}
use Rattle.stricter_spec.specs.Ways.{Way}
use Rattle.stricter_spec.specs.Search.{Searchable, Shared, Written}
use Rattle.stricter_laws.specs.Pairs.{PairStep}
use Rattle.stricter_laws.specs.Tests.{accepts_in, starts_in}
use Rattle.stricter_laws.specs.Routes.{Route, RouteAt}
use Rattle.stricter_laws.proofs.Expand.{searchable-paired}
use Rattle.stricter_laws.proofs.Pairs.{parts}
use Rattle.stricter_laws.proofs.Routes.{route-after, route-then, way-first, way-second}

module _ {ca ma cb mb : List ℕ} (A : Searchable ca ma) (B : Searchable cb mb) (start_a start_b : Set) (start u v : ℕ) (within : start < length ca * length cb)
    (starts : starts_in ca cb start_a start_b start ≡ true) (on-u : accepts_in ca cb false u ≡ true) (on-v : accepts_in ca cb true v ≡ true) where
  abbrev Steps : ℕ → ℕ → ℕ → Type 0
  Steps = PairStep (length cb) ma mb

  shared : {lead onto back : List ℕ} → Route Steps start lead u → Route Steps u onto v → Route Steps v back u → 0 < length onto
      → length lead + length (onto ++ back) ≤ 3 * (length ca * length cb) → Shared ca ma start_a cb mb start_b lead (onto ++ back)
  unfolding starts_in accepts_in
  shared {onto = onto} {back = back} r s t l short =
      let p = searchable-paired A B in
      let q = parts (length ca) (length cb) start within in
      record {
        repeats = omega (arith, length-append onto back);
        short = short;
        of_a = record {
          first = start / length cb;
          within = q.first;
          begins = and_l (begun start_a (get_or ca (start / length cb) 0)) (begun start_b (get_or cb (start % length cb) 0)) starts;
          turn = u / length cb;
          there = way-first p r;
          met = u / length cb;
          before = [];
          after = onto ++ back;
          parts = refl;
          onto = Way.stay;
          accepts = on-u;
          back = way-first p (route-then s t);
        };
        of_b = record {
          first = start % length cb;
          within = q.second;
          begins = and_r (begun start_a (get_or ca (start / length cb) 0)) (begun start_b (get_or cb (start % length cb) 0)) starts;
          turn = u % length cb;
          there = way-second p r;
          met = v % length cb;
          before = onto;
          after = back;
          parts = refl;
          onto = way-second p s;
          accepts = on-v;
          back = way-second p t;
        };
      }

  pub written : {l c d : ℕ} {old one two new : List ℕ} → RouteAt Steps start u 0 l old one → RouteAt Steps u v l c one two → RouteAt Steps v u (l + c) d two new
      → 0 < c → l ≤ length ca * length cb → c ≤ length ca * length cb → d ≤ length ca * length cb → Written ca ma start_a cb mb start_b l (c + d) old new
  written {l = l} {c = c} {d = d} {old = old} {one = one} {two = two} {new = new} r s t some x y z =
      let none : 0 + l ≡ l = omega arith in
      let first : one ≡ r.letters ++ drop l old = r.stands ∙ ap (λ (n : ℕ). r.letters ++ drop n old) none in
      let second = route-after r.letters old r.long first s in
      let both : length (r.letters ++ s.letters) ≡ l + c = omega (arith, length-append r.letters s.letters, r.long, s.long) in
      let third = route-after (r.letters ++ s.letters) old both second t in
      let long : length (s.letters ++ t.letters) ≡ c + d = omega (arith, length-append s.letters t.letters, s.long, t.long) in
      let sum : l + c + d ≡ l + (c + d) = omega arith in
      record {
        lead = r.letters;
        cycle = s.letters ++ t.letters;
        lead_long = r.long;
        cycle_long = long;
        letters = third ∙ ap (λ (w : List ℕ). w ++ drop (l + c + d) old) (append_assoc r.letters s.letters t.letters)
            ∙ ap (λ (n : ℕ). (r.letters ++ (s.letters ++ t.letters)) ++ drop n old) sum;
        shared = shared r.route s.route t.route (omega (arith, s.long)) (omega (arith, r.long));
      }
