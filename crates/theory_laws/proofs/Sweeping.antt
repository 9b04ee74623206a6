-- The sweeps over the transitions of a table solve its graph: the marks that are left are those of `Solved`.
use mathlib.Core.Path.{◌≡◌, refl, sym, ap, ◌∙◌}
use mathlib.Core.Logic.{◌⊎◌, ⊎_elim, by_cases}
use mathlib.Core.Bool.{Bool, true, false}
use mathlib.Core.List.{List, [], ◌∷◌}
use Prim.Native.Nat.{ℕ, zero, suc, ◌+◌, ◌*◌, ◌≤◌, ◌<◌}
use native.Mathlib.Omega.{arith}
use native.Mathlib.Decide.{dec_lt}
use lib.ListN.{length, get_or, get_or-eq_default}
use Rattle.sets.specs.Lists.{any_of, sum}
use Rattle.sets.proofs.Bools.{bif}
use Rattle.sets.proofs.Lists.{any_out, any_none, place_of, mem-at}
use Rattle.theory.specs.Run.{source_of, target_of}
use Rattle.theory.specs.Code.{classes_in}
use Rattle.theory.specs.Macrostate.{is_accepting_lem}
use Rattle.graph_walks.specs.Walks.{Solved}
use Rattle.graph_walks.specs.Marks.{is_due, marked, is_new, settled, goes_out_lem}
use Rattle.graph_walks.specs.Rounds.{Settling, Marking, Stable, SolveRound}
use Rattle.graph_walks.proofs.Marking.{Round, round-one, round-of, marking-start, marking-one}
use Rattle.graph_walks.proofs.Loops.{Pass, round-pass, marking-pass}
use Rattle.graph_walks.proofs.Rounds.{marking-sum, stable, solve-round, Kept, kept-start, kept_low, kept_then, solved}
use Rattle.trim_spec.specs.Graph.{Step}
use Rattle.trim_spec.specs.Trimmed.{flag_of_lem, flags, swept, is_new_in, swept_out, settled_all, solved_in, live_marks}

-- ---- examples

-- a number that is not accepting, with a transition to itself, and an accepting one that leads there: no dead end, but none matters
none-matter : live_marks (257 ∷ 17592186044673 ∷ []) (1 ∷ 16777217 ∷ []) ≡ (0 ∷ 0 ∷ [])
unfolding flag_of_lem flags swept is_new_in swept_out settled_all solved_in live_marks is_accepting_lem classes_in is_due marked is_new goes_out_lem settled any_of sum
none-matter = refl

-- the table of F: all matter, the one that is not accepting too
all-matter : live_marks (0 ∷ 257 ∷ 17592186044673 ∷ []) (0 ∷ 16777218 ∷ 16842752 ∷ 16842754 ∷ 33554434 ∷ 33619968 ∷ 33619969 ∷ []) ≡ (2 ∷ 2 ∷ 1 ∷ [])
unfolding flag_of_lem flags swept is_new_in swept_out settled_all solved_in live_marks is_accepting_lem classes_in is_due marked is_new goes_out_lem settled any_of sum
all-matter = refl

-- ---- one sweep

pub pass-swept : Pass (λ t. marked (source_of t) (target_of t)) (λ t. is_new (source_of t) (target_of t)) swept is_new_in
unfolding swept is_new_in
pass-swept = record {
  long = λ t ms. (round-one (source_of t) (target_of t) ms).long;
  mark-none = λ ms. refl;
  mark-next = λ t ts ms. refl;
  new_none = λ ms. refl;
  new-next = λ t ts ms. refl;
}

-- the edge of a transition
abbrev edge_of : ℕ → ℕ → ℕ → Type 0
edge_of t x y = (x ≡ source_of t) × (y ≡ target_of t)

pub round-in : (ts ms : List ℕ) → Round (Step ts) ms (swept ts ms) (is_new_in ts ms)
round-in ts ms =
    round-of _ (Step ts) (λ x y s. (s.transition, s.listed, (sym s.source, sym s.target))) ms _ _
    (round-pass pass-swept edge_of (λ t. round-one (source_of t) (target_of t)) ts ms)

pub marking-in : (b ts ms : List ℕ) → Marking (Step ts) b ms → Marking (Step ts) b (swept ts ms)
marking-in b ts =
    marking-pass pass-swept edge_of (Step ts) b (λ t ms e m. marking-one (Step ts) b (source_of t) (target_of t) (e _ _ (refl, refl)) ms m) ts
    (λ t x y m e. record { transition = t; listed = m; source = sym e.0; target = sym e.1 })

-- ---- sweeps until nothing is new

module _ (ts b : List ℕ) (low : (x : ℕ) → get_or b x 0 ≤ 2) where
  stable-from : (d : ℕ) (ms : List ℕ) → Marking (Step ts) b ms → 4 * length b < d + sum ms → Stable (Step ts) b (swept_out d ts ms)
  unfolding swept_out
  stable-from zero ms m l = absurd (omega (arith, marking-sum (Step ts) b ms low m))
  stable-from (suc d) ms m l =
      bif (is_new_in ts ms)
      (λ t. rw (t, swept_out) (stable-from d (swept ts ms) (marking-in b ts ms m) (omega (arith, l, (round-in ts ms).grown t))))
      (λ t. rw (t, swept_out) (stable (Step ts) b ms (swept ts ms) m (marking-in b ts ms m) (rw t at (round-in ts ms))))

  stable-out : Stable (Step ts) b (swept_out (suc (4 * length b)) ts b)
  stable-out = stable-from (suc (4 * length b)) b (marking-start (Step ts) b) (omega arith)

-- ---- settling

settled-length : (ms : List ℕ) → length (settled_all ms) ≡ length ms
unfolding settled_all
settled-length [] = refl
settled-length (v ∷ vs) = ap suc (settled-length vs)

settled_at : (ms : List ℕ) (x : ℕ) → get_or (settled_all ms) x 0 ≡ settled (get_or ms x 0)
unfolding settled_all settled
settled_at [] x = refl
settled_at (v ∷ vs) zero = refl
settled_at (v ∷ vs) (suc x) = settled_at vs x

pub settling-all : (ms : List ℕ) → Settling 0 (length ms) ms (settled_all ms) (any_of ms goes_out_lem)
settling-all ms = record {
  long = settled-length ms;
  inside = λ x a l. settled_at ms x;
  outside = λ x o. ⊎_elim (λ a. absurd (omega arith))
      (λ l. let e = settled-length ms in get_or-eq_default (settled_all ms) 0 {n = x} (omega arith) ∙ sym (get_or-eq_default ms 0 {n = x} l)) o;
  some = λ e. let r = any_out ms goes_out_lem e in let p = place_of ms r.0 r.1 in (p.0, omega arith, p.1, ap goes_out_lem p.2 ∙ r.2);
  none = λ e x a l. any_none ms goes_out_lem (get_or ms x 0) e (mem-at ms x l);
}

-- ---- rounds until no accepting one goes out

module _ (ts old : List ℕ) (low : (x : ℕ) → get_or old x 0 ≤ 2) where
  solved-from : (d : ℕ) (ms : List ℕ) → Kept (Step ts) old ms → sum ms < d → Solved (Step ts) old (solved_in d ts ms)
  unfolding solved_in
  solved-from zero ms k l = absurd (omega arith)
  solved-from (suc d) ms k l =
      let small = kept_low (Step ts) old ms low k in
      let out = swept_out (suc (4 * length ms)) ts ms in
      let round : SolveRound (Step ts) ms (settled_all out) (any_of out goes_out_lem) = solve-round (Step ts) ms out (settled_all out) (any_of out goes_out_lem) small (stable-out ts ms small) (settling-all out) in
      bif (any_of out goes_out_lem)
      (λ t. rw (t, solved_in) (solved-from d (settled_all out) (kept_then (Step ts) old ms (settled_all out) (any_of out goes_out_lem) k round) (omega (arith, l, round.less t))))
      (λ t. rw (t, solved_in) (solved (Step ts) old ms (settled_all out) k (rw t at round)))

-- ---- the marks of a table

pub flags-length : (codes : List ℕ) → length (flags codes) ≡ length codes
unfolding flags
flags-length [] = refl
flags-length (c ∷ cs) = ap suc (flags-length cs)

pub flags-at : (codes : List ℕ) (x : ℕ) → x < length codes → get_or (flags codes) x 0 ≡ flag_of_lem (get_or codes x 0)
unfolding flags
flags-at [] x l = absurd (omega arith)
flags-at (c ∷ cs) zero l = refl
flags-at (c ∷ cs) (suc x) l = flags-at cs x (omega arith)

pub flag-accepting : (c : ℕ) → is_accepting_lem c ≡ true → flag_of_lem c ≡ 2
unfolding flag_of_lem
flag-accepting c e = rw e

pub flag-other : (c : ℕ) → is_accepting_lem c ≡ false → flag_of_lem c ≡ 1
unfolding flag_of_lem
flag-other c e = rw e

pub flag-in : (c : ℕ) → 0 < flag_of_lem c
flag-in c = bif (is_accepting_lem c) (λ e. let k = flag-accepting c e in omega arith) (λ e. let k = flag-other c e in omega arith)

pub accepting-flag : (c : ℕ) → 1 < flag_of_lem c → is_accepting_lem c ≡ true
accepting-flag c l = bif (is_accepting_lem c) (λ e. e) (λ e. let k = flag-other c e in absurd (omega arith))

flag-low : (c : ℕ) → flag_of_lem c ≤ 2
flag-low c = bif (is_accepting_lem c) (λ e. let k = flag-accepting c e in omega arith) (λ e. let k = flag-other c e in omega arith)

pub flags-low : (codes : List ℕ) (x : ℕ) → get_or (flags codes) x 0 ≤ 2
flags-low codes x =
    by_cases (dec_lt x (length codes)) (λ l. rw (flags-at codes x l) (flag-low (get_or codes x 0)))
    (λ l. let n = flags-length codes in let e = get_or-eq_default (flags codes) 0 {n = x} (omega arith) in omega arith)

pub live-solved : (codes ts : List ℕ) → Solved (Step ts) (flags codes) (live_marks codes ts)
unfolding live_marks
live-solved codes ts = solved-from ts (flags codes) (flags-low codes) (suc (sum (flags codes))) (flags codes) (kept-start (Step ts) (flags codes)) (omega arith)

-- ---- one sweep of a program

module _ (ts ms next : List ℕ) (e : next ≡ swept ts ms) where
  pub sweep-marking : (b : List ℕ) → Marking (Step ts) b ms → Marking (Step ts) b next
  sweep-marking b m = rw e (marking-in b ts ms m)

  pub sweep-round : (changed r : Bool) → r ≡ changed → r ≡ is_new_in ts ms → Round (Step ts) ms next changed
  sweep-round changed r g f = rw (e, sym g ∙ f) (round-in ts ms)
