-- A letter, and the letters of a call, one a turn.
use mathlib.Core.Path.{◌≡◌, refl, sym, ap, subst, ◌∙◌}
use mathlib.Core.Logic.{by_cases}
use mathlib.Core.Bool.{false}
use mathlib.Core.List.{List, [], ◌∷◌, map}
use Prim.Native.Nat.{ℕ, zero, suc, ◌+◌, ◌/◌, ◌≤◌, ◌<◌}
use native.Mathlib.Decide.{dec_lt}
use native.Mathlib.Omega.{arith}
use lib.Dec.{eqb}
use lib.ListN.{length, get_or, drop, length-map, get_or-map, get_or-eq_default}
use lib.Seq.{ext_get_or}
use borrow.Author.Tests.{eq-eqb, ne_eqb, le-ltb, ltb-false}
use Rattle.sets.specs.Lists.{any_of, tabulate}
use Rattle.sets.specs.Tests.{one}
use Rattle.sets.proofs.Bools.{bif}
use Rattle.sets.proofs.Lists.{none_any, length-tabulate}
use Rattle.sets.proofs.Tests.{count-lt}
use Rattle.sets.proofs.Walks.{drop-next}
use Rattle.theory.specs.Run.{source_of, letter_of_lem}
use Rattle.live_spec.specs.Afresh.{is_in, enters, stepped, stepped_over, members_of}
use Rattle.live_spec.proofs.Steps.{one-low, table_at, stepped-length}
use Rattle.live_set.specs.Sweeps.{flag_of_lem, Swept}
use Rattle.live_set.proofs.Sets.{arrived}
use Rattle.follow_spec.specs.Set.{emptied_after}
use Rattle.follow_set.specs.Sweeping.{Taken}

-- ---- one letter, of a set of bytes 0 and 1

flag_one : (v : ℕ) → v ≤ 1 → flag_of_lem v ≡ v
flag_one zero l = refl
flag_one (suc zero) l = refl
flag_one (suc (suc v)) l = absurd (omega arith)

module _ (a : ℕ) (ts before after : List ℕ) (low : (y : ℕ) → get_or before y 0 ≤ 1) (s : Swept a ts before after) where
  same_flags : map flag_of_lem before ≡ before
  same_flags =
      ext_get_or 0 (map flag_of_lem before) before (length-map before flag_of_lem) (λ i l. get_or-map flag_of_lem before i 0 ∙ flag_one (get_or before i 0) (low i))

  pub swept-halved : map (λ v. v / 2) after ≡ stepped (length before) ts a before
  swept-halved = arrived a ts before after (subst (λ (x : List ℕ). Swept a ts x after) (sym same_flags) s)

pub stepped-low : (n : ℕ) (ts : List ℕ) (a : ℕ) (set : List ℕ) (y : ℕ) → get_or (stepped n ts a set) y 0 ≤ 1
unfolding stepped
stepped-low n ts a set y =
    let f : ℕ → ℕ = λ z. one (any_of ts (enters set a z)) in
    by_cases (dec_lt y n)
    (λ l. rw (table_at n f y l) (one-low (any_of ts (enters set a y))))
    (λ k. omega (arith, get_or-eq_default (tabulate n f 0) 0 {n = y} (omega (arith, length-tabulate n f 0))))

-- ---- an empty set stays empty

module _ (n : ℕ) (ts set : List ℕ) (long : length set ≡ n) (none : members_of n set ≡ 0) where
  byte-none : (x : ℕ) → get_or set x 0 ≡ 0
  unfolding members_of
  byte-none x =
      by_cases (dec_lt x n)
      (λ l. bif (is_in set x)
      (λ u. absurd (omega (arith, count-lt x n (is_in set) l u, none)))
      (λ u. omega (arith, ltb-false 0 (get_or set x 0) u)))
      (λ k. get_or-eq_default set 0 {n = x} (omega arith))

  enters_none : (a y t : ℕ) → enters set a y t ≡ false
  unfolding enters
  enters_none a y t =
      let e : is_in set (source_of t) ≡ false = le-ltb 0 (get_or set (source_of t) 0) (omega (arith, byte-none (source_of t))) in
      bif (eqb (letter_of_lem t) a) (λ u. rw (u, e)) (λ u. rw u)

  still-empty : (a : ℕ) → stepped n ts a set ≡ set
  unfolding stepped
  still-empty a =
      let f : ℕ → ℕ = λ y. one (any_of ts (enters set a y)) in
      ext_get_or 0 (tabulate n f 0) set (length-tabulate n f 0 ∙ sym long)
      (λ i l. table_at n f i (omega (arith, length-tabulate n f 0)) ∙ ap one (none_any ts (enters set a i) (λ t m. enters_none a i t)) ∙ sym (byte-none i))

  pub stays-empty : (l : List ℕ) → stepped_over n ts l set ≡ set
  unfolding stepped_over
  stays-empty [] = refl
  stays-empty (a ∷ l) = ap (stepped_over n ts l) (still-empty a) ∙ stays-empty l

-- ---- the letters of a call

pub emptied-none : (n : ℕ) (ts l set : List ℕ) → members_of n set ≡ 0 → emptied_after n ts l set ≡ 0
unfolding emptied_after
emptied-none n ts [] set e = refl
emptied-none n ts (a ∷ l) set e = rw (eq-eqb (members_of n set) 0 e)

-- before letter i
pub record Going (ts letters before set : List ℕ) (left i : ℕ) : Type 0 where
  pub long : length set ≡ length before
  pub low : (y : ℕ) → get_or set y 0 ≤ 1
  pub counted : left ≡ members_of (length before) set
  pub same : stepped_over (length before) ts letters before ≡ stepped_over (length before) ts (drop i letters) set
  pub emptied : emptied_after (length before) ts letters before ≡ i + emptied_after (length before) ts (drop i letters) set

module _ (ts letters before : List ℕ) where
  abbrev n : ℕ
  n = length before

  pub going_start : (left : ℕ) → ((y : ℕ) → get_or before y 0 ≤ 1) → left ≡ members_of n before → Going ts letters before before left 0
  going_start left low e = record { long = refl; low = low; counted = e; same = refl; emptied = omega arith }

  emptied-next : (a : ℕ) (l set : List ℕ) → (members_of n set ≡ 0 → ⊥) → emptied_after n ts (a ∷ l) set ≡ suc (emptied_after n ts l (stepped n ts a set))
  unfolding emptied_after
  emptied-next a l set k = rw (ne_eqb (members_of n set) 0 k)

  over-next : (a : ℕ) (l set : List ℕ) → stepped_over n ts (a ∷ l) set ≡ stepped_over n ts l (stepped n ts a set)
  unfolding stepped_over
  over-next a l set = refl

  over-end : (l set : List ℕ) → length l ≡ 0 → (stepped_over n ts l set ≡ set) × (emptied_after n ts l set ≡ 0)
  unfolding stepped_over emptied_after
  over-end [] set e = (refl, refl)
  over-end (a ∷ l) set e = absurd (omega arith)

  pub going_next : (set : List ℕ) (left i next : ℕ) → i < length letters → (left ≡ 0 → ⊥) → Going ts letters before set left i
      → next ≡ members_of n (stepped n ts (get_or letters i 0) set) → Going ts letters before (stepped n ts (get_or letters i 0) set) next (i + 1)
  going_next set left i next l k g e =
      let a = get_or letters i 0 in
      let d = drop-next letters i l in
      record {
        long = stepped-length n ts a set;
        low = stepped-low n ts a set;
        counted = e;
        same = g.same ∙ ap (λ (x : List ℕ). stepped_over n ts x set) d ∙ over-next a (drop (i + 1) letters) set;
        emptied =
            let m = ap (λ (x : List ℕ). emptied_after n ts x set) d ∙ emptied-next a (drop (i + 1) letters) set (λ z. k (g.counted ∙ z)) in
            omega (arith, g.emptied, m);
      }

  pub going-stop : (set : List ℕ) (left i : ℕ) → left ≡ 0 → Going ts letters before set left i → Taken ts letters before set (record { left = 0; letters = i })
  going-stop set left i z g =
      let none : members_of n set ≡ 0 = sym g.counted ∙ z in
      let same : stepped_over n ts letters before ≡ set = g.same ∙ stays-empty n ts set g.long none (drop i letters) in
      let m : emptied_after n ts letters before ≡ i = omega (arith, g.emptied, emptied-none n ts (drop i letters) set none) in
      record { set_left = sym same; counts = rw (same, none, m) }

  pub going_end : (set : List ℕ) (left i : ℕ) → length (drop i letters) ≡ 0 → Going ts letters before set left i → Taken ts letters before set (record { left = left; letters = i })
  going_end set left i z g =
      let (e, f) = over-end (drop i letters) set z in
      let same : stepped_over n ts letters before ≡ set = g.same ∙ e in
      let m : emptied_after n ts letters before ≡ i = omega (arith, g.emptied, f) in
      record { set_left = sym same; counts = rw (same, m, g.counted) }
