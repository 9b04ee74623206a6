-- Two tables: what the rounds leave of the pairs of cores is what can go on in the pairs of numbers, and no pair of accepting runs is taken out.
use mathlib.Core.Path.{◌≡◌, refl, sym, ap, ap₂, ◌∙◌, subst}
use mathlib.Core.Bool.{Bool, true, false, cond}
use mathlib.Core.List.{List}
use Prim.Native.Nat.{ℕ, suc, ◌+◌, ◌*◌, ◌/◌, ◌%◌, ◌≤◌, ◌<◌}
use lib.ListN.{length, get_or}
use Rattle.sets.specs.Tests.{Set}
use Rattle.sets.proofs.Bools.{and_i}
use Rattle.graph_walks.proofs.Sums.{has-place}
use Rattle.theory.specs.Macrostate.{begun, is_accepting_lem}
use Rattle.theory.specs.Run.{letter_of_lem, target_of, AcceptingRun}
use Rattle.stricter_spec.specs.Search.{NoShared}
use Rattle.stricter_laws.specs.Pairs.{PairEdge}
use Rattle.stricter_laws.specs.Sound.{Onto, BothSound}
use Rattle.stricter_laws.specs.Tests.{accepts_in, starts_in}
use Rattle.stricter_laws.proofs.Rows.{node-unique}
use Rattle.stricter_laws.proofs.Sides.{accepts-first, accepts-second, starts-both}
use Rattle.stricter_laws.proofs.Pairs.{Parts, parts}
use Rattle.stricter_spec.specs.Tags.{row_of_lem, sparing}
use Rattle.stricter_spec.specs.Tables.{CoreTable, Shown}
use Rattle.stricter_spec.specs.Steps.{CoreStep, SparedStep}
use Rattle.stricter_spec.specs.Rounds.{Again, Narrowed, AllSound}
use Rattle.stricter_laws.proofs.Table.{row_low, Raised, raise, stays, nears, closer, Lowered, lower}
use Rattle.stricter_laws.proofs.Nearing.{Lift, Nearer, reach}

module _ {ca ma : List ℕ} {nA : ℕ} {coreA : ℕ → ℕ} {spareA : ℕ → ℕ → Bool} (CA : CoreTable ca ma nA coreA spareA)
    {left : List ℕ} (SA : Shown ca ma nA coreA spareA left)
    {cb mb : List ℕ} {nB : ℕ} {coreB : ℕ → ℕ} {spareB : ℕ → ℕ → Bool} (CB : CoreTable cb mb nB coreB spareB)
    {right : List ℕ} (SB : Shown cb mb nB coreB spareB right) where
  abbrev E : ℕ → ℕ → Type 0
  E = CoreStep (length cb) left right

  abbrev F : Bool → ℕ → ℕ → ℕ → Type 0
  F = SparedStep (length cb) left right

  abbrev n : Bool → ℕ
  n s = cond s nB nA

  abbrev P : ℕ → ℕ → Type 0
  P = PairEdge (length cb) ma mb

  -- a pair of numbers
  record Pair : Type 0 where
    of_a : ℕ
    of_b : ℕ
    low-A : of_a < length ca
    low-B : of_b < length cb

  abbrev at : Pair → ℕ
  at x = x.of_a * length cb + x.of_b

  abbrev core : Pair → ℕ
  core x = coreA x.of_a * length cb + coreB x.of_b

  -- acceptance of a pair on a side is that of its number
  first-at : (x : Pair) → accepts_in ca cb false (at x) ≡ false → is_accepting_lem (get_or ca x.of_a 0) ≡ false
  first-at x a = sym (accepts-first ca cb x.of_a x.of_b x.low-B) ∙ a

  second_at : (x : Pair) → accepts_in ca cb true (at x) ≡ false → is_accepting_lem (get_or cb x.of_b 0) ≡ false
  second_at x a = sym (accepts-second ca cb x.of_a x.of_b x.low-B) ∙ a

  -- the transitions of a pair that go as a step of its cores
  record Lifted (x : Pair) (y : ℕ) (s : CoreStep (length cb) left right (core x) y) : Type 0 where
    first : Raised CA SA x.of_a s.of_a
    second : Raised CB SB x.of_b s.of_b

  lifted : (x : Pair) {y : ℕ} (s : CoreStep (length cb) left right (core x) y) → Lifted x y s
  lifted x s =
      let l = CB.within x.of_b x.low-B in
      let m = row_low CB SB s.listed_b in
      let rows = node-unique {i = coreA x.of_a} {k = row_of_lem s.of_a} l m s.source in
      record {
        first = raise CA SA x.of_a x.low-A s.listed_a rows.0;
        second = raise CB SB x.of_b x.low-B s.listed_b rows.1;
      }

  module _ {x : Pair} {y : ℕ} {s : CoreStep (length cb) left right (core x) y} (l : Lifted x y s) where
    abbrev to : Pair
    to = record {
      of_a = target_of l.first.of;
      of_b = target_of l.second.of;
      low-A = CA.inside.targets l.first.of l.first.listed;
      low-B = CB.inside.targets l.second.of l.second.listed;
    }

    edge : P (at x) (at to)
    edge = (
      letter_of_lem s.of_a,
      record {
        of_a = l.first.of;
        of_b = l.second.of;
        listed_a = l.first.listed;
        listed_b = l.second.listed;
        letter_a = l.first.letter;
        letter_b = l.second.letter ∙ sym s.letters;
        source = ap₂ (λ (a b : ℕ). a * length cb + b) (sym l.first.source) (sym l.second.source);
        target = refl;
      },
    )

    onto : core to ≡ y
    onto = ap₂ (λ (a b : ℕ). a * length cb + b) l.first.target l.second.target ∙ sym s.target

    first-lift : Lift P (accepts_in ca cb false) Pair at core (λ z. CA.component z.of_a) (λ z. CA.left z.of_a) x y
    first-lift = record {
      to = to;
      edge = edge;
      onto = onto;
      stays = λ a b. stays CA SA l.first (first-at x a) (first-at to b);
      nears = λ a b. nears CA SA l.first (first-at x a) (first-at to b);
    }

    second-lift : Lift P (accepts_in ca cb true) Pair at core (λ z. CB.component z.of_b) (λ z. CB.left z.of_b) x y
    second-lift = record {
      to = to;
      edge = edge;
      onto = onto;
      stays = λ a b. stays CB SB l.second (second_at x a) (second_at to b);
      nears = λ a b. nears CB SB l.second (second_at x a) (second_at to b);
    }

    first-nearer : (K : ℕ) → K < nA → sparing s.of_a K ≡ true
        → Nearer P (accepts_in ca cb false) Pair at core (λ z. CA.component z.of_a) (λ z. CA.left z.of_a) x K y
    first-nearer K m p = record { to = to; edge = edge; onto = onto; nears = λ a b. closer CA SA l.first (first-at x a) (first-at to b) K m p }

    second-nearer : (K : ℕ) → K < nB → sparing s.of_b K ≡ true
        → Nearer P (accepts_in ca cb true) Pair at core (λ z. CB.component z.of_b) (λ z. CB.left z.of_b) x K y
    second-nearer K m p = record { to = to; edge = edge; onto = onto; nears = λ a b. closer CB SB l.second (second_at x a) (second_at to b) K m p }

  -- a pair is in exactly if the pair of its cores is
  pub record Marked (final pairs : List ℕ) : Type 0 where
    pub marks : (i j : ℕ) → i < length ca → j < length cb → 0 < get_or final (coreA i * length cb + coreB j) 0 → 0 < get_or pairs (i * length cb + j) 0
    pub tells : (i j : ℕ) → i < length ca → j < length cb → 0 < get_or pairs (i * length cb + j) 0 → 0 < get_or final (coreA i * length cb + coreB j) 0

  module _ {final pairs : List ℕ} (sound : AllSound E F n final) (same : Marked final pairs) where
    marked : (x : Pair) → 0 < get_or final (core x) 0 → 0 < get_or pairs (at x) 0
    marked x h = same.marks x.of_a x.of_b x.low-A x.low-B h

    inside : (x : Pair) → 0 < get_or pairs (at x) 0 → 0 < get_or final (core x) 0
    inside x h = same.tells x.of_a x.of_b x.low-A x.low-B h

    first-onto : (x : Pair) → 0 < get_or pairs (at x) 0 → Onto P (accepts_in ca cb false) pairs (at x)
    first-onto x h = reach
        (F false) nA pairs (sound false) (λ z. CA.known z.of_a z.low-A) marked
        (λ z d s. first-lift (lifted z s))
        (λ z K d m f. first-nearer (lifted z f.step) K m f.spares)
        x (inside x h)

    second-onto : (x : Pair) → 0 < get_or pairs (at x) 0 → Onto P (accepts_in ca cb true) pairs (at x)
    second-onto x h = reach
        (F true) nB pairs (sound true) (λ z. CB.known z.of_b z.low-B) marked
        (λ z d s. second-lift (lifted z s))
        (λ z K d m f. second-nearer (lifted z f.step) K m f.spares)
        x (inside x h)

    module _ (long : length pairs ≡ length ca * length cb) (x : ℕ) (h : 0 < get_or pairs x 0) where
      split : Parts (length ca) (length cb) x
      split = parts (length ca) (length cb) x (rw long at (has-place pairs x h))

      abbrev pair : Pair
      pair = record { of_a = x / length cb; of_b = x % length cb; low-A = split.first; low-B = split.second }

      in_pair : 0 < get_or pairs (at pair) 0
      in_pair = subst (λ (a : ℕ). 0 < get_or pairs a 0) (sym split.whole) h

      first-from : Onto P (accepts_in ca cb false) pairs x
      first-from = subst (Onto P (accepts_in ca cb false) pairs) split.whole (first-onto pair in_pair)

      second_from : Onto P (accepts_in ca cb true) pairs x
      second_from = subst (Onto P (accepts_in ca cb true) pairs) split.whole (second-onto pair in_pair)

  -- from each pair whose cores are left, such pairs lead to acceptance on either side
  pub both-sound : (final pairs : List ℕ) → AllSound E F n final → Marked final pairs
      → length pairs ≡ length ca * length cb
      → BothSound (PairEdge (length cb) ma mb) (accepts_in ca cb false) (accepts_in ca cb true) pairs
  both-sound final pairs sound same long = record { onto_p = first-from sound same long; onto_q = second_from sound same long }

  -- two accepting runs over the same letters
  module _ {start_a start_b : Set} {w x y : ℕ → ℕ} (A : AcceptingRun ca ma start_a w x) (B : AcceptingRun cb mb start_b w y) where
    abbrev z : ℕ → ℕ
    z i = coreA (x i) * length cb + coreB (y i)

    abbrev t : ℕ → ℕ
    t i = (A.run.moves i).0

    abbrev u : ℕ → ℕ
    u i = (B.run.moves i).0

    lower-A : (i : ℕ) → Lowered CA SA (t i)
    lower-A i = lower CA SA (A.run.moves i).1

    lower-B : (i : ℕ) → Lowered CB SB (u i)
    lower-B i = lower CB SB (B.run.moves i).1

    abbrev step : (i : ℕ) → CoreStep (length cb) left right (z i) (z (suc i))
    step i =
        let e = (A.run.moves i).2 in
        let f = (B.run.moves i).2 in
        record {
          of_a = (lower-A i).of;
          of_b = (lower-B i).of;
          listed_a = (lower-A i).listed;
          listed_b = (lower-B i).listed;
          letters = (lower-A i).letter ∙ e.letter ∙ sym ((lower-B i).letter ∙ f.letter);
          source = sym (ap₂ (λ (a b : ℕ). a * length cb + b) ((lower-A i).row ∙ ap coreA e.source) ((lower-B i).row ∙ ap coreB f.source));
          target = sym (ap₂ (λ (a b : ℕ). a * length cb + b) ((lower-A i).onto ∙ ap coreA e.target) ((lower-B i).onto ∙ ap coreB f.target));
        }

    again-A : (K : ℕ) → K < nA → (i : ℕ) → (j : ℕ) × (i ≤ j) × F false K (z j) (z (suc j))
    again-A K l i =
        let (j, h, e) = CA.again t (λ a. (A.run.moves a).1) (λ a. (A.run.moves a).2.target ∙ sym (A.run.moves (suc a)).2.source)
        (λ a. let (b, g, e) = A.again a in (b, g, ap (λ (v : ℕ). is_accepting_lem (get_or ca v 0)) (A.run.moves b).2.source ∙ e)) K l i in
        (j, h, record { step = step j; spares = (lower-A j).spares K l ∙ e })

    again-B : (K : ℕ) → K < nB → (i : ℕ) → (j : ℕ) × (i ≤ j) × F true K (z j) (z (suc j))
    again-B K l i =
        let (j, h, e) = CB.again u (λ a. (B.run.moves a).1) (λ a. (B.run.moves a).2.target ∙ sym (B.run.moves (suc a)).2.source)
        (λ a. let (b, g, e) = B.again a in (b, g, ap (λ (v : ℕ). is_accepting_lem (get_or cb v 0)) (B.run.moves b).2.source ∙ e)) K l i in
        (j, h, record { step = step j; spares = (lower-B j).spares K l ∙ e })

    again : Again E F n z
    again false = again-A
    again true = again-B

    starts : starts_in ca cb start_a start_b (x 0 * length cb + y 0) ≡ true
    starts = starts-both ca cb (x 0) (y 0) (B.run.within 0) start_a start_b ∙ and_i A.run.begins B.run.begins

  -- where no start pair is left, no sequence of letters has an accepting run of each table: such runs begin at numbers that stand for their
  -- cores, and the pairs of the cores of their numbers are in at first
  pub nothing : {old final : List ℕ} → Narrowed E F n old final → (start_a start_b : Set)
      → ((w x y : ℕ → ℕ) → AcceptingRun ca ma start_a w x → AcceptingRun cb mb start_b w y → (i : ℕ) → 0 < get_or old (coreA (x i) * length cb + coreB (y i)) 0)
      → ((i : ℕ) → i < length ca → begun start_a (get_or ca i 0) ≡ true → coreA i ≡ i)
      → ((j : ℕ) → j < length cb → begun start_b (get_or cb j 0) ≡ true → coreB j ≡ j)
      → ((x : ℕ) → 0 < get_or final x 0 → starts_in ca cb start_a start_b x ≡ true → ⊥) → NoShared ca ma start_a cb mb start_b
  nothing narrow start_a start_b all first-A first-B none w x y A B =
      let k = narrow.keeps (z A B) (step A B) (all w x y A B) (again A B) 0 in
      let e = first-A (x 0) (A.run.within 0) A.run.begins in
      let f = first-B (y 0) (B.run.within 0) B.run.begins in
      none (x 0 * length cb + y 0) (rw (e, f) at k) (starts A B)
