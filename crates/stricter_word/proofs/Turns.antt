-- The search for the two pairs of a cycle: each turn meets fewer pairs than the one before.
use mathlib.Core.Path.{◌≡◌, refl, sym, ap, ◌∙◌}
use mathlib.Core.Bool.{true}
use mathlib.Core.List.{List, [], ◌++◌}
use Prim.Native.Nat.{ℕ, ◌+◌, ◌*◌, ◌≤◌, ◌<◌}
use native.Mathlib.Omega.{arith}
use native.Mathlib.Nat.{add-zero}
use lib.ListN.{length, get_or, take, drop, length-append, length-take, length-drop, take-append-drop}
use Rattle.sets.specs.Tests.{Set}
use Rattle.graph_walks.proofs.Sums.{has-place}
use Rattle.stricter_spec.specs.Search.{Searchable}
use Rattle.stricter_laws.specs.Pairs.{Fits}
use Rattle.stricter_laws.specs.Sound.{BothSound}
use Rattle.stricter_laws.proofs.Sound.{onto-more}
use Rattle.stricter_laws.specs.Forest.{met, SameIn, Reaches, Closed, Explored}
use Rattle.stricter_laws.specs.Routes.{Route, RouteAt, Turning}
use Rattle.stricter_laws.proofs.Expand.{searchable-paired}
use Rattle.stricter_word.specs.Tables.{Round}
use Rattle.stricter_laws.proofs.Reach.{Edge, same_start, same_then, reaches_same, reaches-in, reaches_then, reaches-closed, explored-reaches, onto-explored, explored-fewer}

pub searchable-fits : {ca ma cb mb : List ℕ} (ms : List ℕ) → Searchable ca ma → Searchable cb mb → length ms ≡ length ca * length cb → Fits (length ca) (length cb) ma mb ms
searchable-fits ms A B e = record { paired = searchable-paired A B; marked = e; few_a = A.few; few_b = B.few }

-- there is a mark where a node is met
pub met-place : (ms : List ℕ) (x : ℕ) → 1 < get_or ms x 0 → x < length ms
met-place ms x l = has-place ms x (omega arith)

same_back : {old new : List ℕ} → SameIn old new → SameIn new old
same_back h = record { long = sym h.long; within = h.kept; kept = h.within }

module _ {S : ℕ → ℕ → ℕ → Type 0} {p q : Set} where
  pub sound-same : {old new : List ℕ} → SameIn old new → BothSound (Edge S) p q old → BothSound (Edge S) p q new
  sound-same {new = new} h s = record {
    onto_p = λ x l. onto-more new h.kept (s.onto_p x (h.within x l));
    onto_q = λ x l. onto-more new h.kept (s.onto_q x (h.within x l));
  }

  -- a search from o
  module _ {base ms : List ℕ} (same : SameIn base ms) (sound : BothSound (Edge S) p q base) {o : ℕ} (inside : 0 < get_or ms o 0)
      {kind : ℕ → ℕ} {new : List ℕ} (e : Explored S kind o ms new) where
    pub meets-p : (x : ℕ) × (1 < get_or new x 0) × (p x ≡ true)
    meets-p = onto-explored e ((sound-same same sound).onto_p o inside)

    pub meets-q : (x : ℕ) × (1 < get_or new x 0) × (q x ≡ true)
    meets-q = onto-explored e ((sound-same same sound).onto_q o inside)

-- u is met, and can be reached from the start
pub record Candidate (S : ℕ → ℕ → ℕ → Type 0) (p : Set) (start : ℕ) (base ms : List ℕ) (u : ℕ) : Type 0 where
  pub same : SameIn base ms
  pub closed : Closed S ms
  pub here : 1 < get_or ms u 0
  pub accepts : p u ≡ true
  pub there : Reaches S base start u

module _ {S : ℕ → ℕ → ℕ → Type 0} {kind : ℕ → ℕ} {p : Set} {start : ℕ} where
  pub candidate-first : {base new : List ℕ} (u : ℕ) → Explored S kind start base new → 1 < get_or new u 0 → p u ≡ true → Candidate S p start new new u
  candidate-first {new = new} u e l a =
      record { same = same_start new; closed = e.closed; here = l; accepts = a; there = reaches_same e.same (explored-reaches e u l) }

  -- a turn: from u to v, and from v on
  module _ {base ms : List ℕ} {u : ℕ} (c : Candidate S p start base ms u) {mid : List ℕ} (e : Explored S kind u ms mid) {v : ℕ} (l : 1 < get_or mid v 0)
      {new : List ℕ} (f : Explored S kind v mid new) where
    pub turn-same : SameIn base new
    turn-same = same_then (same_then c.same e.same) f.same

    onto : Reaches S base u v
    onto = reaches_same (same_back c.same) (explored-reaches e v l)

    from : (x : ℕ) → 1 < get_or new x 0 → Reaches S base v x
    from x h = reaches_same (same_back (same_then c.same e.same)) (explored-reaches f x h)

    -- v leads back
    pub turn-found : {q : Set} {old : List ℕ} → SameIn old base → q v ≡ true → 1 < get_or new u 0 → Turning S p q start old u v
    turn-found h a k = let back = same_back h in record {
      there = reaches_same back c.there;
      onto = reaches_same back onto;
      back = reaches_same back (from u k);
      accepts_u = c.accepts;
      accepts_v = a;
    }

    pub turn-next : (w : ℕ) → 1 < get_or new w 0 → p w ≡ true → Candidate S p start base new w
    turn-next w h a =
        record { same = turn-same; closed = f.closed; here = h; accepts = a; there = reaches_then c.there (reaches_then onto (from w h)) }

    pub turn-fewer : (1 < get_or new u 0 → ⊥) → met new < met ms
    turn-fewer n =
        let met-v : 1 < get_or ms v 0 = reaches-closed ms (λ x h. h) c.closed c.here (explored-reaches e v l) in
        explored-fewer f ms (sym e.same.long) e.same.within c.closed met-v u c.here n

-- ---- the three ways

pub route-length : {S : ℕ → ℕ → ℕ → Type 0} {x y at n : ℕ} {old new : List ℕ} → at + n ≤ length old → RouteAt S x y at n old new → length new ≡ length old
route-length l r = ap length r.stands ∙ simp (length-append, length-take, length-drop) (omega (arith, r.long))

module _ {S : ℕ → ℕ → ℕ → Type 0} {p q : Set} {start u v : ℕ} {old ms : List ℕ} (t : Turning S p q start old u v) (same : SameIn old ms) where
  -- what the next way asks
  pub ask-there : 0 < get_or old start 0 → (start < length ms) × Reaches S ms start u
  ask-there l = (has-place ms start (same.kept start l), reaches_same same t.there)

  pub ask-onto : (u < length ms) × Reaches S ms u v
  ask-onto = (has-place ms u (same.kept u (reaches-in t.there)), reaches_same same t.onto)

  pub ask-back : (v < length ms) × Reaches S ms v u
  ask-back = (has-place ms v (same.kept v (reaches-in t.onto)), reaches_same same t.back)

-- ---- one way

-- a way of no steps is written
pub stays_at : (S : ℕ → ℕ → ℕ → Type 0) (x at : ℕ) (old : List ℕ) → RouteAt S x x at 0 old old
stays_at S x at old = record {
  letters = [];
  route = Route.stay;
  long = refl;
  stands = sym (ap (λ (n : ℕ). take at old ++ drop n old) (add-zero at) ∙ take-append-drop at old);
}

pub no-round : {S : ℕ → ℕ → ℕ → Type 0} {p q : Set} {start : ℕ} {marks found : List ℕ} (old : List ℕ) → SameIn marks found → Round S p q start 0 marks found old old
no-round old h = record {
  same = h;
  short = omega arith;
  none = λ e. refl;
  written = λ l. absurd (omega arith);
  first = λ l. absurd (omega arith);
  second = λ l. absurd (omega arith);
}
