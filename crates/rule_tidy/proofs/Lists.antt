-- One entry more of a rule's lists.
use mathlib.Core.Path.{◌≡◌, refl, sym, ◌∙◌, ap, ap₂}
use mathlib.Core.List.{List, [], ◌∷◌, ◌++◌, append_assoc, append-nil}
use Prim.Native.Nat.{ℕ, suc, ◌+◌, ◌-◌, ◌≤◌, ◌<◌}
use native.Mathlib.Omega.{arith}
use native.Mathlib.Numerals.{add-one}
use lib.ListN.{length, get_or, take, drop, set, drop_of_length-le, length-append, length-take, length-drop, length-set}
use lib.Seq.{take-suc-set, drop-set-lt, drop-drop, take_at, drop_at, take_all, drop-length, length-take-le}
use borrow.Rule.Slice.PartMut.{put_mid, Post-is}
use Rattle.sets.specs.Lists.{sum}
use Rattle.sets.proofs.Walks.{drop-next, sum-take}
use Rattle.rule_entries.proofs.Entries.{sum-part}
use Rattle.rule_tidy_spec.specs.Tidy.{tidy_entry_lem, tidy_counts, tidy_clauses}
use Rattle.rule_tidy_spec.proofs.Entries.{tidy-length}
use Rattle.rule_tidy.specs.Filled.{filled}
use Rattle.rule_tidy.proofs.Laws.{drop-later, filled-by}

-- what two slices hold, once oldcounts and oldclauses, when i entries are passed: they had from clauses and keep to of them
pub record Passed (counts clauses oldcounts oldclauses counts2 clauses2 : List ℕ) (from to i : ℕ) : Type 0 where
  pub within : i ≤ length counts
  pub taken : from ≡ sum (take i counts)
  pub fewer : to ≤ from
  pub long : length counts2 ≡ length oldcounts
  pub broad : length clauses2 ≡ length oldclauses
  pub counted : take i counts2 ++ tidy_counts 8 (drop i counts) (drop from clauses) ≡ tidy_counts 8 counts clauses
  pub uncounted : drop i counts2 ≡ drop i oldcounts
  pub kept : take to clauses2 ++ tidy_clauses 8 (drop i counts) (drop from clauses) ≡ tidy_clauses 8 counts clauses
  pub unkept : drop to clauses2 ≡ drop to oldclauses

pub passed_none : (counts clauses oldcounts oldclauses : List ℕ) → Passed counts clauses oldcounts oldclauses oldcounts oldclauses 0 0 0
unfolding sum
passed_none counts clauses oldcounts oldclauses = record {
  within = omega arith;
  taken = refl;
  fewer = omega arith;
  long = refl;
  broad = refl;
  counted = refl;
  uncounted = refl;
  kept = refl;
  unkept = refl;
}

-- the clauses of the entries up to i are among the rule's
pub entry-room : (counts clauses : List ℕ) (i : ℕ) → sum counts ≡ length clauses → i < length counts → sum (take i counts) + get_or counts i 0 ≤ length clauses
entry-room counts clauses i e l = omega (arith, sum-take counts i l, sum-part counts (i + 1))

module _ (counts clauses oldcounts oldclauses counts2 clauses2 : List ℕ) (from to i : ℕ) (P : Passed counts clauses oldcounts oldclauses counts2 clauses2 from to i)
    (l : i < length counts) where
  -- the entry, and what stays of it
  abbrev Entry : List ℕ
  Entry = take (get_or counts i 0) (drop from clauses)

  abbrev Stays : List ℕ
  Stays = tidy_entry_lem 8 Entry

  counts_step : tidy_counts 8 (drop i counts) (drop from clauses) ≡ length Stays ∷ tidy_counts 8 (drop (i + 1) counts) (drop (from + get_or counts i 0) clauses)
  unfolding tidy_counts
  counts_step = rw (drop-next counts i l) (ap (λ (x : List ℕ). length Stays ∷ tidy_counts 8 (drop (i + 1) counts) x) (drop-drop (get_or counts i 0) from clauses))

  clauses-step : tidy_clauses 8 (drop i counts) (drop from clauses) ≡ Stays ++ tidy_clauses 8 (drop (i + 1) counts) (drop (from + get_or counts i 0) clauses)
  unfolding tidy_clauses
  clauses-step = rw (drop-next counts i l) (ap (λ (x : List ℕ). Stays ++ tidy_clauses 8 (drop (i + 1) counts) x) (drop-drop (get_or counts i 0) from clauses))

  module _ (fits : from + get_or counts i 0 ≤ length clauses2) (room : length counts ≤ length counts2) (new : List ℕ) (e : new ≡ take to clauses2 ++ filled Stays (drop to clauses2)) where
    few : length Stays ≤ get_or counts i 0
    few = let a = tidy-length 8 Entry in let b = length-take (get_or counts i 0) (drop from clauses) in omega arith

    front_length : length (take to clauses2 ++ Stays) ≡ to + length Stays
    front_length = length-append (take to clauses2) Stays ∙ ap (λ (x : ℕ). x + length Stays) (length-take-le to clauses2 (omega (arith, P.fewer)))

    new_is : new ≡ (take to clauses2 ++ Stays) ++ drop (to + length Stays) clauses2
    new_is = e ∙ ap (λ (x : List ℕ). take to clauses2 ++ (Stays ++ x)) (drop-drop (length Stays) to clauses2) ∙ sym (append_assoc (take to clauses2) Stays (drop (to + length Stays) clauses2))

    one_more : take (i + 1) (set counts2 i (length Stays)) ≡ take i counts2 ++ (length Stays ∷ [])
    one_more = rw (add-one i) (take-suc-set counts2 i (length Stays) (omega arith))

    rest-same : drop (i + 1) (set counts2 i (length Stays)) ≡ drop (i + 1) counts2
    rest-same = rw (add-one i) (drop-set-lt (suc i) counts2 i (length Stays) (omega arith))

    pub passed-next : Passed counts clauses oldcounts oldclauses (set counts2 i (length Stays)) new (from + get_or counts i 0) (to + length Stays) (i + 1)
    passed-next = record {
      within = omega arith;
      taken = ap (λ (x : ℕ). x + get_or counts i 0) P.taken ∙ sym (sum-take counts i l);
      fewer = omega (arith, few, P.fewer);
      long = length-set counts2 i (length Stays) ∙ P.long;
      broad = ap length new_is ∙ length-append (take to clauses2 ++ Stays) (drop (to + length Stays) clauses2) ∙ ap (λ (x : ℕ). x + length (drop (to + length Stays) clauses2)) front_length
          ∙ omega (arith, length-drop (to + length Stays) clauses2, few, P.fewer, P.broad);
      counted = ap (λ (x : List ℕ). x ++ tidy_counts 8 (drop (i + 1) counts) (drop (from + get_or counts i 0) clauses)) one_more
          ∙ append_assoc (take i counts2) (length Stays ∷ []) _ ∙ ap (λ (x : List ℕ). take i counts2 ++ x) (sym counts_step) ∙ P.counted;
      uncounted = rest-same ∙ drop-later counts2 oldcounts i (i + 1) (omega arith) P.uncounted;
      kept = ap (λ (x : List ℕ). x ++ tidy_clauses 8 (drop (i + 1) counts) (drop (from + get_or counts i 0) clauses))
          (ap (take (to + length Stays)) new_is ∙ take_at (take to clauses2 ++ Stays) _ (to + length Stays) front_length)
          ∙ append_assoc (take to clauses2) Stays _ ∙ ap (λ (x : List ℕ). take to clauses2 ++ x) (sym clauses-step) ∙ P.kept;
      unkept = ap (drop (to + length Stays)) new_is ∙ drop_at (take to clauses2 ++ Stays) _ (to + length Stays) front_length
          ∙ drop-later clauses2 oldclauses to (to + length Stays) (omega arith) P.unkept;
    }

-- ---- the same, of the parts of slices that the code lends

part-all : (n : ℕ) (xs : List ℕ) → take (length xs - n) (drop n xs) ≡ drop n xs
part-all n xs = take_all (length xs - n) (drop n xs) (omega (arith, length-drop n xs))

put_all : (n : ℕ) (xs zs : List ℕ) → n ≤ length xs → put_mid n (length xs - n) xs zs ≡ take n xs ++ zs
put_all n xs zs h = ap (λ (t : List ℕ). take n xs ++ t) (ap (λ (t : List ℕ). zs ++ t) (Post-is n (length xs) xs h ∙ drop-length xs) ∙ append-nil zs)

part-is : (from k : ℕ) (xs : List ℕ) → take (from + k - from) xs ≡ take k xs
part-is from k xs = let e : from + k - from ≡ k = omega arith in ap (λ (j : ℕ). take j xs) e

-- an entry keeps at most as many clauses as it had
pub kept-few : (from k m : ℕ) (clauses : List ℕ) → m ≡ length (tidy_entry_lem 8 (take (from + k - from) (drop from clauses))) → m ≤ k
kept-few from k m clauses e =
    let a = tidy-length 8 (take k (drop from clauses)) in
    let b = length-take k (drop from clauses) in
    let d : m ≡ length (tidy_entry_lem 8 (take k (drop from clauses))) = e ∙ ap (λ (x : List ℕ). length (tidy_entry_lem 8 x)) (part-is from k (drop from clauses)) in
    omega arith

module _ (counts clauses oldcounts oldclauses counts2 clauses2 : List ℕ) (from to i : ℕ) (P : Passed counts clauses oldcounts oldclauses counts2 clauses2 from to i) where
  pub passed_entry : i < length counts → from + get_or counts i 0 ≤ length clauses2 → length counts ≤ length counts2 → (m : ℕ) (zs : List ℕ)
      → m ≡ length (tidy_entry_lem 8 (take (from + get_or counts i 0 - from) (drop from clauses)))
      → zs ≡ filled (tidy_entry_lem 8 (take (from + get_or counts i 0 - from) (drop from clauses))) (take (length clauses2 - to) (drop to clauses2))
      → Passed counts clauses oldcounts oldclauses (set counts2 i m) (put_mid to (length clauses2 - to) clauses2 zs) (from + get_or counts i 0) (to + m) (i + 1)
  passed_entry l fits room m zs e h =
      let T = tidy_entry_lem 8 (take (get_or counts i 0) (drop from clauses)) in
      let p = ap (tidy_entry_lem 8) (part-is from (get_or counts i 0) (drop from clauses)) in
      let a : m ≡ length T = e ∙ ap length p in
      let b : zs ≡ filled T (drop to clauses2) = h ∙ ap₂ (λ (x y : List ℕ). filled x y) p (part-all to clauses2) in
      rw a (passed-next counts clauses oldcounts oldclauses counts2 clauses2 from to i P l fits room (put_mid to (length clauses2 - to) clauses2 zs)
      (put_all to clauses2 zs (omega (arith, P.fewer)) ∙ ap (λ (x : List ℕ). take to clauses2 ++ x) b))

  -- all entries are passed
  pub passed-all : length counts ≤ i → from ≤ length clauses2 → length counts ≤ length counts2
      → (to ≡ length (tidy_clauses 8 counts clauses)) × ((counts2 ≡ filled (tidy_counts 8 counts clauses) oldcounts) × (clauses2 ≡ filled (tidy_clauses 8 counts clauses) oldclauses))
  unfolding tidy_counts tidy_clauses
  passed-all l fits room =
      let none : drop i counts ≡ [] = drop_of_length-le counts {i = i} l in
      let a : take i counts2 ≡ tidy_counts 8 counts clauses =
      sym (append-nil (take i counts2)) ∙ ap (λ (x : List ℕ). take i counts2 ++ tidy_counts 8 x (drop from clauses)) (sym none) ∙ P.counted in
      let b : take to clauses2 ≡ tidy_clauses 8 counts clauses =
      sym (append-nil (take to clauses2)) ∙ ap (λ (x : List ℕ). take to clauses2 ++ tidy_clauses 8 x (drop from clauses)) (sym none) ∙ P.kept in
      let f = filled-by (tidy_counts 8 counts clauses) counts2 oldcounts i (omega (arith, P.within)) a P.uncounted in
      let g = filled-by (tidy_clauses 8 counts clauses) clauses2 oldclauses to (omega (arith, P.fewer)) b P.unkept in
      (g.0, (f.1, g.1))
