-- Along a plan that accepts: the states that it reaches at each step, and those of them that still owe, to leave their rejecting component.
-- Again and again none owes.
use mathlib.Core.Path.{◌≡◌, refl, sym, ◌∙◌}
use mathlib.Core.Logic.{by_cases}
use mathlib.Core.Bool.{true, false, ◌&&◌, not, cond}
use Prim.Native.Nat.{ℕ, zero, suc, ◌+◌, ◌^◌, ◌≤◌, ◌<◌}
use native.Mathlib.Omega.{arith}
use native.Mathlib.Decide.{ℕ_discrete}
use lib.Dec.{eqb}
use lib.Pow.{pow_pos}
use borrow.Author.Tests.{eqb-true, eq-eqb, ne_eqb}
use Rattle.sets.specs.Masks.{bit, mask}
use Rattle.sets.specs.Tests.{Set, some_below, largest}
use Rattle.sets.proofs.Bits.{bit-none, bit_below, bit-ext}
use Rattle.sets.proofs.Bools.{bif, clash, and_i, and_l, and_r, not_t}
use Rattle.sets.proofs.Masks.{mask_lt, bit_mask}
use Rattle.sets.proofs.Tests.{some-get, some_at, some-no, largest-ge}
use Rattle.theory.specs.Automaton.{Automaton}
use Rattle.theory.specs.Sequence.{Reaches, here, on, to_each, AcceptsAt}

module _ (A : Automaton) (w : ℕ → ℕ) (a : ℕ) (start : a < A.n) (P : AcceptsAt A w a 0) where
  abbrev E : ℕ → ℕ → ℕ → Type 0
  E = to_each A w P.pick

  -- the states reached at a step
  pub reached : ℕ → ℕ
  reached zero = mask A.n (eqb a)
  reached (suc i) = mask A.n (λ r. some_below A.n (λ q. bit (reached i) q && bit (P.pick q i) r))

  pub reached-lt : (i : ℕ) → reached i < 2 ^ A.n
  unfolding reached
  reached-lt zero = mask_lt A.n _
  reached-lt (suc i) = mask_lt A.n _

  pub reached-low : (i q : ℕ) → bit (reached i) q ≡ true → q < A.n
  reached-low i q b = bit_below A.n (reached i) q (reached-lt i) b

  pub reached-first : bit (reached 0) a ≡ true
  unfolding reached
  reached-first = bit_mask A.n _ a start ∙ eq-eqb a a refl

  pub reached-next : (i q r : ℕ) → bit (reached i) q ≡ true → r < A.n → bit (P.pick q i) r ≡ true → bit (reached (suc i)) r ≡ true
  unfolding reached
  reached-next i q r b l p = bit_mask A.n _ r l ∙ some_at A.n _ q (reached-low i q b) (and_i b p)

  pub reached-by : (i q : ℕ) → bit (reached i) q ≡ true → Reaches E a 0 q i
  unfolding reached
  reached-by zero q b = let e = eqb-true a q (sym (bit_mask A.n _ q (reached-low zero q b)) ∙ b) in rw (sym e) here
  reached-by (suc i) q b =
      let l = reached-low (suc i) q b in
      let (p, m, t) = some-get A.n _ (sym (bit_mask A.n _ q l) ∙ b) in
      on q (suc i) (reached-by i p (and_l (bit (reached i) p) _ t)) (l, and_r (bit (reached i) p) _ t) refl

  -- ---- those that owe: when none does, all rejecting ones that are reached; else the members of their clauses that are of their component

  follows : ℕ → ℕ → Set
  follows o i r = some_below A.n (λ q. bit o q && (bit (P.pick q i) r && eqb (A.component r) (A.component q)))

  pub owing : ℕ → ℕ
  owing zero = 0
  owing (suc i) = mask A.n (λ r. not (A.accepting r) && cond (eqb (owing i) 0) (bit (reached (suc i)) r) (follows (owing i) i r))

  owing-lt : (i : ℕ) → owing i < 2 ^ A.n
  unfolding owing
  owing-lt zero = pow_pos A.n
  owing-lt (suc i) = mask_lt A.n _

  owing-low : (i q : ℕ) → bit (owing i) q ≡ true → q < A.n
  owing-low i q b = bit_below A.n (owing i) q (owing-lt i) b

  -- a state that owes, one step on
  record Owes (i r : ℕ) : Type 0 where
    rejects : A.accepting r ≡ false
    free : owing i ≡ 0 → bit (reached (suc i)) r ≡ true
    bound : (owing i ≡ 0 → ⊥) → follows (owing i) i r ≡ true

  owes-out : (i r : ℕ) → bit (owing (suc i)) r ≡ true → Owes i r
  unfolding owing
  owes-out i r b =
      let c = cond (eqb (owing i) 0) (bit (reached (suc i)) r) (follows (owing i) i r) in
      let t : not (A.accepting r) && c ≡ true = sym (bit_mask A.n _ r (owing-low (suc i) r b)) ∙ b in
      let u = and_r (not (A.accepting r)) c t in
      record {
        rejects = not_t _ (and_l (not (A.accepting r)) c t);
        free = λ e. rw (eq-eqb (owing i) 0 e) at u;
        bound = λ e. rw (ne_eqb (owing i) 0 e) at u;
      }

  -- none owes: all that are reached do next
  pub owes-free : (i r : ℕ) → owing i ≡ 0 → bit (reached (suc i)) r ≡ true → A.accepting r ≡ false → bit (owing (suc i)) r ≡ true
  unfolding owing
  owes-free i r e b a = bit_mask A.n _ r (reached-low (suc i) r b) ∙ rw (a, eq-eqb (owing i) 0 e) b

  pub owes-on : (i q r : ℕ) → bit (owing i) q ≡ true → r < A.n → bit (P.pick q i) r ≡ true → A.component r ≡ A.component q → A.accepting r ≡ false → bit (owing (suc i)) r ≡ true
  unfolding owing follows
  owes-on i q r b l p c a =
      let some : owing i ≡ 0 → ⊥ = λ e. clash (rw e at b) (bit-none q) in
      bit_mask A.n _ r l
      ∙ rw (a, ne_eqb (owing i) 0 some) (some_at A.n (λ q. bit (owing i) q && (bit (P.pick q i) r && eqb (A.component r) (A.component q))) q (owing-low i q b) (and_i b (and_i p (eq-eqb _ _ c))))

  follows-out : (o i r : ℕ) → follows o i r ≡ true → (q : ℕ) × (q < A.n) × (bit o q ≡ true) × (bit (P.pick q i) r ≡ true) × (A.component r ≡ A.component q)
  unfolding follows
  follows-out o i r t =
      let (q, l, u) = some-get A.n _ t in
      let v = and_r (bit o q) (bit (P.pick q i) r && eqb (A.component r) (A.component q)) u in
      (q, l, and_l (bit o q) _ u, and_l (bit (P.pick q i) r) _ v, eqb-true _ _ (and_r (bit (P.pick q i) r) _ v))

  owes-reached : (i q : ℕ) → bit (owing i) q ≡ true → bit (reached i) q ≡ true
  unfolding owing
  owes-reached zero q b = clash b (bit-none q)
  owes-reached (suc i) r b =
      let O = owes-out i r b in
      by_cases (ℕ_discrete (owing i) 0) O.free
      (λ e. let (q, l, t, p, c) = follows-out (owing i) i r (O.bound e) in reached-next i q r (owes-reached i q t) (owing-low (suc i) r b) p)

  owes-rejects : (i q : ℕ) → bit (owing i) q ≡ true → A.accepting q ≡ false
  unfolding owing
  owes-rejects zero q b = clash b (bit-none q)
  owes-rejects (suc i) q b = (owes-out i q b).rejects

  -- ---- none owes again and again

  -- the steps that a state that owes has for its own
  bounded : (i q : ℕ) → (d : ℕ) × (bit (owing i) q ≡ true → (r j : ℕ) → Reaches E q i r j → i + d ≤ j → A.component r ≡ A.component q → ⊥)
  bounded i q =
      bif (bit (owing i) q)
      (λ b. let L = P.leaves q i (reached-by i q (owes-reached i q b)) (owes-rejects i q b) in (L.steps, λ c. L.left))
      (λ b. (0, λ c. clash c b))

  -- where a state that owes comes from
  record From (i r j : ℕ) : Type 0 where
    origin : ℕ
    low : origin < A.n
    owed : bit (owing i) origin ≡ true
    way : Reaches E origin i r j
    same : A.component r ≡ A.component origin

  module _ (i : ℕ) where
    abbrev longest : ℕ
    longest = largest A.n (bit (owing i)) (λ q. (bounded i q).0)

    some-bit : (m : ℕ) → m < 2 ^ A.n → (m ≡ 0 → ⊥) → (q : ℕ) × (bit m q ≡ true)
    some-bit m l n =
        bif (some_below A.n (bit m)) (λ t. let (q, k, b) = some-get A.n (bit m) t in (q, b))
        (λ t. absurd (n (bit-ext A.n m 0 l (pow_pos A.n) (λ q k. some-no A.n (bit m) t q k ∙ sym (bit-none q)))))

    settles : (d j : ℕ) → ((r : ℕ) → bit (owing j) r ≡ true → From i r j) → i ≤ j → i + longest ≤ j + d → (m : ℕ) × (i ≤ m) × (owing m ≡ 0)
    settles zero j from k l =
        by_cases (ℕ_discrete (owing j) 0) (λ e. (j, k, e))
        (λ e. let (r, b) = some-bit (owing j) (owing-lt j) e in
        let F = from r b in
        let g = largest-ge A.n (bit (owing i)) (λ q. (bounded i q).0) F.origin F.low F.owed in
        absurd ((bounded i F.origin).1 F.owed r j F.way (omega arith) F.same))
    settles (suc d) j from k l =
        by_cases (ℕ_discrete (owing j) 0) (λ e. (j, k, e))
        (λ e. settles d (suc j) (λ r b.
        let (q, m, t, p, c) = follows-out (owing j) j r ((owes-out j r b).bound e) in
        let F = from q t in
        record { origin = F.origin; low = F.low; owed = F.owed; way = on r (suc j) F.way (owing-low (suc j) r b, p) refl; same = c ∙ F.same })
        (omega arith) (omega arith))

  pub none_owes : (i : ℕ) → (j : ℕ) × (i < j) × (owing j ≡ 0)
  none_owes i = settles (suc i) (longest (suc i)) (suc i) (λ r b. record { origin = r; low = owing-low (suc i) r b; owed = b; way = here; same = refl }) (omega arith) (omega arith)
