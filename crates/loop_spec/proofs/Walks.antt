-- Laws of walks: two in a row, another relation, turned to begin elsewhere, split where a state stands twice.
use mathlib.Core.Path.{◌≡◌, refl, sym, ◌∙◌, ap}
use mathlib.Core.Logic.{◌⊎◌, inl, inr, ⊎_elim}
use mathlib.Core.Bool.{Bool, true, false, ◌&&◌, ◌||◌, not, false≢true, and_assoc, or_comm}
use mathlib.Core.List.Memᴰ
use mathlib.Core.List.{List, [], ◌∷◌, ◌++◌}
use Prim.Native.Nat.{ℕ, zero, suc, ◌≤◌, ◌<◌}
use native.Mathlib.Omega.{arith}
use lib.Dec.{eqb, ltb}
use lib.ListN.{length, length-append}
use borrow.Author.Tests.{eqb-true, lt-ltb, ltb-true}
use Rattle.sets.specs.Tests.{Set, count}
use Rattle.sets.specs.Masks.{bit}
use Rattle.sets.specs.Lists.{any_of, all_of, among}
use Rattle.sets.proofs.Bools.{bif, and_l, and_r, and_i, or_cases, or-fl, or-fr}
use Rattle.sets.proofs.Tests.{count-max, count-more}
use Rattle.sets.proofs.Lists.{any-cons, any_append, among_in, among-out}
use Rattle.theory.specs.Rule.{Rule}
use Rattle.theory.specs.Components.{leads}
use Rattle.loop_spec.specs.Loops.{along, all_below, is_closed_walk, passes_both, is_mixed_loop, repeats}

-- a walk from q to t over x is one from q to x and one from x to t
pub along-append : (lead : ℕ → Set) (q : ℕ) (bs : List ℕ) (x : ℕ) (cs : List ℕ) (t : ℕ) → along lead q (bs ++ (x ∷ cs)) t ≡ along lead q bs x && along lead x cs t
unfolding along
along-append lead q [] x cs t = refl
along-append lead q (p ∷ bs) x cs t = ap (λ (b : Bool). lead q p && b) (along-append lead p bs x cs t) ∙ sym (and_assoc (lead q p) (along lead p bs x) (along lead x cs t))

pub below_parts : (n p : ℕ) (ps : List ℕ) → all_below n (p ∷ ps) ≡ true → (p < n) × (all_below n ps ≡ true)
unfolding all_below all_of
below_parts n p ps e = (ltb-true p n (and_l (ltb p n) (all_below n ps) e), and_r (ltb p n) (all_below n ps) e)

pub below-i : (n p : ℕ) (ps : List ℕ) → p < n → all_below n ps ≡ true → all_below n (p ∷ ps) ≡ true
unfolding all_below all_of
below-i n p ps l b = and_i (lt-ltb p n l) b

pub below-append : (n : ℕ) (hs bs : List ℕ) → all_below n (hs ++ bs) ≡ all_below n hs && all_below n bs
unfolding all_below all_of
below-append n [] bs = refl
below-append n (a ∷ hs) bs = ap (λ (b : Bool). ltb a n && b) (below-append n hs bs) ∙ sym (and_assoc (ltb a n) (all_below n hs) (all_below n bs))

-- relations that agree on the states below n have the same walks
pub along-ext : (n : ℕ) (lead lead' : ℕ → Set) → ((q p : ℕ) → q < n → p < n → lead q p ≡ lead' q p)
    → (q : ℕ) (ps : List ℕ) (t : ℕ) → q < n → all_below n ps ≡ true → t < n → along lead q ps t ≡ along lead' q ps t
unfolding along
along-ext n lead lead' h q [] t l b m = h q t l m
along-ext n lead lead' h q (p ∷ ps) t l b m = let (k, c) = below_parts n p ps b in rw (h q p l k, along-ext n lead lead' h p ps t k c m)

-- ---- lists where a state stands twice

pub among-split : (ys : List ℕ) (x : ℕ) → among ys x ≡ true → (bs : List ℕ) × (cs : List ℕ) × (ys ≡ bs ++ (x ∷ cs))
unfolding among
among-split [] x e = absurd (false≢true e)
among-split (y ∷ ys) x e =
    bif (eqb y x)
    (λ t. ([], ys, ap (λ (z : ℕ). z ∷ ys) (eqb-true y x t)))
    (λ t. let s = among-split ys x (rw (t, among) at e) in (y ∷ s.0, s.1, ap (λ (l : List ℕ). y ∷ l) s.2))

-- the state x, what stands before, between and after
pub record Twice (ws : List ℕ) : Type 0 where
  pub before : List ℕ
  pub state : ℕ
  pub between : List ℕ
  pub after : List ℕ
  pub whole : ws ≡ before ++ (state ∷ (between ++ (state ∷ after)))

pub twice : (ws : List ℕ) → repeats ws ≡ true → Twice ws
unfolding repeats
twice [] e = absurd (false≢true e)
twice (x ∷ xs) e =
    ⊎_elim
    (λ t. let s = among-split xs x t in record { before = []; state = x; between = s.0; after = s.1; whole = ap (λ (l : List ℕ). x ∷ l) s.2 })
    (λ t. let s = twice xs t in record { before = x ∷ s.before; state = s.state; between = s.between; after = s.after; whole = ap (λ (l : List ℕ). x ∷ l) s.whole })
    (or_cases (among xs x) (repeats xs) e)

places : (n : ℕ) (ws : List ℕ) → all_below n ws ≡ true → repeats ws ≡ false → length ws ≤ count n (among ws)
unfolding repeats
places n [] b e = omega arith
places n (x ∷ xs) b e =
    let c = below_parts n x xs b in
    let l = places n xs c.1 (or-fr (among xs x) (repeats xs) e) in
    let m = count-more n (among xs) (among (x ∷ xs)) (λ y k t. among_in (x ∷ xs) y (Memᴰ.tail (among-out xs y t)))
    x c.0 (or-fl (among xs x) (repeats xs) e) (among_in (x ∷ xs) x (Memᴰ.head refl)) in
    omega arith

-- a list of states below n in which none stands twice has at most n
pub once-few : (n : ℕ) (ws : List ℕ) → all_below n ws ≡ true → repeats ws ≡ false → length ws ≤ n
once-few n ws b e = omega (arith, places n ws b e, count-max n (among ws))

-- ---- closed walks

-- a walk that is split where x stands twice: of both kinds of states, if the whole is, in one of the parts
part : (a x b c a' b' c' : Bool) → (a || ((x || b) || (x || c))) && (a' || ((not x || b') || (not x || c'))) ≡ true
    → ((x || b) && (not x || b') ≡ true) ⊎ ((a || (x || c)) && (a' || (not x || c')) ≡ true)
part a true b c a' true c' e = inl refl
part a true b c a' false c' e = inr e
part a false true c a' b' c' e = inl refl
part a false false c a' b' c' e = inr e

module _ (r : Rule) where
  abbrev pub below : List ℕ → Bool
  below ps = all_below r.n ps

  pub closed-i : (q : ℕ) (ps : List ℕ) → below (q ∷ ps) ≡ true → along (leads r) q ps q ≡ true → is_closed_walk r (q ∷ ps) ≡ true
  unfolding is_closed_walk
  closed-i q ps b w = and_i b w

  pub closed_parts : (q : ℕ) (ps : List ℕ) → is_closed_walk r (q ∷ ps) ≡ true → (below (q ∷ ps) ≡ true) × (along (leads r) q ps q ≡ true)
  unfolding is_closed_walk
  closed_parts q ps e = (and_l (below (q ∷ ps)) (along (leads r) q ps q) e, and_r (below (q ∷ ps)) (along (leads r) q ps q) e)

  -- the parts of a list of states
  pub split_below : (ps qs : List ℕ) → below (ps ++ qs) ≡ true → (below ps ≡ true) × (below qs ≡ true)
  split_below ps qs e = let c = rw below-append at e in (and_l (below ps) (below qs) c, and_r (below ps) (below qs) c)

  pub join-below : (ps qs : List ℕ) → below ps ≡ true → below qs ≡ true → below (ps ++ qs) ≡ true
  join-below ps qs b c = rw below-append (and_i b c)

  -- the parts of a walk
  pub split-along : (q : ℕ) (ps : List ℕ) (x : ℕ) (qs : List ℕ) (t : ℕ) → along (leads r) q (ps ++ (x ∷ qs)) t ≡ true
      → (along (leads r) q ps x ≡ true) × (along (leads r) x qs t ≡ true)
  split-along q ps x qs t e =
      let c = rw along-append at e in (and_l (along (leads r) q ps x) (along (leads r) x qs t) c, and_r (along (leads r) q ps x) (along (leads r) x qs t) c)

  pub join-along : (q : ℕ) (ps : List ℕ) (x : ℕ) (qs : List ℕ) (t : ℕ) → along (leads r) q ps x ≡ true → along (leads r) x qs t ≡ true
      → along (leads r) q (ps ++ (x ∷ qs)) t ≡ true
  join-along q ps x qs t b c = rw along-append (and_i b c)

  -- the parts of a closed walk in which x stands twice are closed walks
  cut : (hs : List ℕ) (x : ℕ) (bs cs : List ℕ) → is_closed_walk r (hs ++ (x ∷ (bs ++ (x ∷ cs)))) ≡ true
      → (is_closed_walk r (x ∷ bs) ≡ true) × (is_closed_walk r (hs ++ (x ∷ cs)) ≡ true)
  cut [] x bs cs e =
      let c = closed_parts x (bs ++ (x ∷ cs)) e in
      let b = split_below (x ∷ bs) (x ∷ cs) c.0 in let w = split-along x bs x cs x c.1 in
      (closed-i x bs b.0 w.0, closed-i x cs b.1 w.1)
  cut (y ∷ hs) x bs cs e =
      let p = closed_parts y (hs ++ (x ∷ (bs ++ (x ∷ cs)))) e in
      let b = split_below (y ∷ hs) ((x ∷ bs) ++ (x ∷ cs)) p.0 in let c = split_below (x ∷ bs) (x ∷ cs) b.1 in
      let v = split-along y hs x (bs ++ (x ∷ cs)) y p.1 in let w = split-along x bs x cs y v.1 in
      (closed-i x bs c.0 w.0, closed-i y (hs ++ (x ∷ cs)) (join-below (y ∷ hs) (x ∷ cs) b.0 c.1) (join-along y hs x cs y v.0 w.1))

  abbrev pub accepts : Set
  accepts q = bit r.accepting q

  abbrev pub rejects : Set
  rejects q = not (bit r.accepting q)

  any_twice : (hs : List ℕ) (x : ℕ) (bs cs : List ℕ) (f : Set)
      → any_of (hs ++ (x ∷ (bs ++ (x ∷ cs)))) f ≡ any_of hs f || ((f x || any_of bs f) || (f x || any_of cs f))
  any_twice hs x bs cs f = any_append hs ((x ∷ bs) ++ (x ∷ cs)) f ∙ ap (λ (b : Bool). any_of hs f || b) (any_append (x ∷ bs) (x ∷ cs) f ∙ rw (any-cons f x bs, any-cons f x cs))

  -- one of them passes both kinds of states, if the whole does
  cut-both : (hs : List ℕ) (x : ℕ) (bs cs : List ℕ) → passes_both r (hs ++ (x ∷ (bs ++ (x ∷ cs)))) ≡ true
      → (passes_both r (x ∷ bs) ≡ true) ⊎ (passes_both r (hs ++ (x ∷ cs)) ≡ true)
  unfolding passes_both
  cut-both hs x bs cs e =
      let c = rw (any_twice hs x bs cs accepts, any_twice hs x bs cs rejects) at e in
      ⊎_elim
      (λ t. inl (rw (any-cons accepts x bs, any-cons rejects x bs) t))
      (λ t. inr (rw (any_append hs (x ∷ cs) accepts, any_append hs (x ∷ cs) rejects, any-cons accepts x cs, any-cons rejects x cs) t))
      (part (any_of hs accepts) (accepts x) (any_of bs accepts) (any_of cs accepts) (any_of hs rejects) (any_of bs rejects) (any_of cs rejects) c)

  pub mixed-i : (ps : List ℕ) → is_closed_walk r ps ≡ true → passes_both r ps ≡ true → is_mixed_loop r ps ≡ true
  unfolding is_mixed_loop
  mixed-i ps c b = and_i c b

  pub mixed-parts : (ps : List ℕ) → is_mixed_loop r ps ≡ true → (is_closed_walk r ps ≡ true) × (passes_both r ps ≡ true)
  unfolding is_mixed_loop
  mixed-parts ps e = (and_l (is_closed_walk r ps) (passes_both r ps) e, and_r (is_closed_walk r ps) (passes_both r ps) e)

  pub no-empty : is_mixed_loop r [] ≡ false
  unfolding is_mixed_loop is_closed_walk
  no-empty = refl

  -- a mixed loop in which a state stands twice has a shorter one within
  pub record Shorter (ws : List ℕ) : Type 0 where
    pub states : List ℕ
    pub loop : is_mixed_loop r states ≡ true
    pub less : length states < length ws

  pub shorter : (ws : List ℕ) → is_mixed_loop r ws ≡ true → repeats ws ≡ true → Shorter ws
  shorter ws e d = of (twice ws d)
    where
      of : Twice ws → Shorter ws
      of t =
          let hs = t.before in let x = t.state in let bs = t.between in let cs = t.after in
          let m = mixed-parts (hs ++ (x ∷ (bs ++ (x ∷ cs)))) (rw t.whole at e) in
          let c = cut hs x bs cs m.0 in
          let l = ap length t.whole ∙ length-append hs (x ∷ (bs ++ (x ∷ cs))) in
          let k = length-append bs (x ∷ cs) in
          ⊎_elim
          (λ b. record { states = x ∷ bs; loop = mixed-i (x ∷ bs) c.0 b; less = omega arith })
          (λ b. record { states = hs ++ (x ∷ cs); loop = mixed-i (hs ++ (x ∷ cs)) c.1 b; less = omega (arith, length-append hs (x ∷ cs)) })
          (cut-both hs x bs cs m.1)

  pub mixed-below : (ws : List ℕ) → is_mixed_loop r ws ≡ true → below ws ≡ true
  unfolding all_below all_of
  mixed-below [] e = refl
  mixed-below (q ∷ ps) e = (closed_parts q ps (mixed-parts (q ∷ ps) e).0).0

  -- where there is a mixed loop there is one of at most n states
  pub record Few : Type 0 where
    pub states : List ℕ
    pub loop : is_mixed_loop r states ≡ true
    pub few : length states ≤ r.n

  pub few : (m : ℕ) (ws : List ℕ) → length ws < m → is_mixed_loop r ws ≡ true → Few
  few zero ws l e = absurd (omega arith)
  few (suc m) ws l e =
      bif (repeats ws)
      (λ t. let s = shorter ws e t in few m s.states (omega (arith, s.less)) s.loop)
      (λ t. record { states = ws; loop = e; few = once-few r.n ws (mixed-below ws e) t })

  -- a mixed loop may begin at each of its states
  pub rotated : (q : ℕ) (ps : List ℕ) (x : ℕ) (qs : List ℕ) → is_mixed_loop r (q ∷ (ps ++ (x ∷ qs))) ≡ true → is_mixed_loop r (x ∷ (qs ++ (q ∷ ps))) ≡ true
  unfolding passes_both
  rotated q ps x qs e =
      let m = mixed-parts (q ∷ (ps ++ (x ∷ qs))) e in let c = closed_parts q (ps ++ (x ∷ qs)) m.0 in
      let b = split_below (q ∷ ps) (x ∷ qs) c.0 in let w = split-along q ps x qs q c.1 in
      mixed-i (x ∷ (qs ++ (q ∷ ps)))
      (closed-i x (qs ++ (q ∷ ps)) (join-below (x ∷ qs) (q ∷ ps) b.1 b.0) (join-along x qs q ps x w.1 w.0))
      (rw (turned accepts, turned rejects) m.1)
    where
      turned : (f : Set) → any_of (x ∷ (qs ++ (q ∷ ps))) f ≡ any_of (q ∷ (ps ++ (x ∷ qs))) f
      turned f = any_append (x ∷ qs) (q ∷ ps) f ∙ or_comm (any_of (x ∷ qs) f) (any_of (q ∷ ps) f) ∙ sym (any_append (q ∷ ps) (x ∷ qs) f)
