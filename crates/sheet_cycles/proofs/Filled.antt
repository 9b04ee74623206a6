-- The masks of the known cycles after one more is filled.
use mathlib.Core.Path.{◌≡◌, sym, ◌∙◌, ap}
use mathlib.Core.Logic.{by_cases}
use mathlib.Core.Bool.{false}
use mathlib.Core.List.{List, [], ◌++◌}
use Prim.Native.Nat.{ℕ, ◌+◌, ◌*◌, ◌≤◌, ◌<◌}
use native.Mathlib.Omega.{arith}
use native.Mathlib.Decide.{dec_lt}
use lib.ListN.{length, get_or, take, drop, set, length-take, length-drop, length-set, take-append-drop}
use lib.Seq.{get_or-set_same, get_or-set_other, take-append-le, drop-append-le, take_at, drop_at}
use Rattle.theory.specs.Rule.{Rule}
use Rattle.theory.specs.Truth.{truth_masks}
use Rattle.sheet_spec.specs.Computed.{is_known}
use Rattle.sheet_laws.proofs.Distinct.{learn-known, learn-new}
use Rattle.sheet_cycles.specs.Known.{part_at, known_of, Parts, Found}
use Rattle.sheet_cycles.specs.Filled.{Filled, Learnt}
use Rattle.sheet_cycles.proofs.Known.{known_more, part-set, part-new}

-- a part of at most 32 bytes from byte 32 * k on does not change if bytes from 32 * n on do, n above k
kept : (xs ys zs : List ℕ) (k n y : ℕ) → k < n → y ≤ 32 → length xs ≡ 32 * n → take y (drop (32 * k) (xs ++ ys)) ≡ take y (drop (32 * k) (xs ++ zs))
kept xs ys zs k n y h l e =
    let in-front : 32 * k ≤ length xs = omega arith in
    let long : y ≤ length (drop (32 * k) xs) = simp length-drop (omega arith) in
    ap (take y) (drop-append-le (32 * k) xs ys in-front) ∙ take-append-le y (drop (32 * k) xs) ys long
    ∙ sym (ap (take y) (drop-append-le (32 * k) xs zs in-front) ∙ take-append-le y (drop (32 * k) xs) zs long)

module _ {r : Rule} {sheet from size filled : List ℕ} {n : ℕ} (x y : ℕ) (F : Filled r sheet from size filled n) where
  abbrev c : List ℕ
  c = take y (drop x sheet)

  -- a cycle that is known
  pub learnt-known : (k : ℕ) → k < n → length c ≡ y → Found sheet from size n c k → Learnt r sheet from size n c from size filled (record { number = k; cycles = n })
  learnt-known k l long f =
      let s = f.same l in
      let same : get_or size k 0 ≡ length c = sym part-long ∙ ap length s.1 in
      record {
        known = sym (learn-known (known_of sheet from size n) c s.0);
        filled = F;
        one = omega arith;
        number = l;
        masks = ap (λ (b : ℕ). take b (drop (32 * k) filled)) (sym same) ∙ F.masks k l ∙ ap (truth_masks r []) s.1;
      }
    where
      part-long : length (part_at sheet from size k) ≡ get_or size k 0
      part-long = let w = F.parts.within k l in simp (length-take, length-drop) (omega arith)

  -- a new one: its masks m stand from byte 32 * n on
  module _ (few : n < 64) (short : y ≤ 32) (room : x + y ≤ length sheet) (m : List ℕ) (right : m ≡ truth_masks r [] c) (long : length m ≡ y)
      (rest : List ℕ) (kept-length : length (take (32 * n) filled ++ (m ++ rest)) ≡ length filled) where
    abbrev from' : List ℕ
    from' = set from n x

    abbrev size' : List ℕ
    size' = set size n y

    abbrev filled' : List ℕ
    filled' = take (32 * n) filled ++ (m ++ rest)

    front : length (take (32 * n) filled) ≡ 32 * n
    front = let z = F.room in simp length-take (omega arith)

    parts_more : Parts sheet from' size' (n + 1)
    parts_more =
        let p = F.parts in
        record {
          few = omega arith;
          froms = length-set from n x ∙ p.froms;
          sizes = length-set size n y ∙ p.sizes;
          within = λ k l. by_cases (dec_lt k n)
              (λ h. rw (get_or-set_other from n k x 0 (λ e. omega arith), get_or-set_other size n k y 0 (λ e. omega arith)) (p.within k h))
              (λ h. let e : k ≡ n = omega arith in rw (e, get_or-set_same from n x 0 (omega (arith, p.froms)), get_or-set_same size n y 0 (omega (arith, p.sizes))) room);
          short = λ k l. by_cases (dec_lt k n)
              (λ h. rw (get_or-set_other size n k y 0 (λ e. omega arith)) (p.short k h))
              (λ h. let e : k ≡ n = omega arith in rw (e, get_or-set_same size n y 0 (omega (arith, p.sizes))) short);
        }

    new-masks : take y (drop (32 * n) filled') ≡ truth_masks r [] c
    new-masks = ap (take y) (drop_at (take (32 * n) filled) _ (32 * n) front) ∙ take_at m _ y long ∙ right

    masks-more : (k : ℕ) → k < n + 1 → take (get_or size' k 0) (drop (32 * k) filled') ≡ truth_masks r [] (part_at sheet from' size' k)
    masks-more k l =
        let p = F.parts in
        by_cases (dec_lt k n)
        (λ h. ap (λ (b : ℕ). take b (drop (32 * k) filled')) (get_or-set_other size n k y 0 (λ e. omega arith))
        ∙ kept (take (32 * n) filled) (m ++ rest) (drop (32 * n) filled) k n (get_or size k 0) h (p.short k h) front
        ∙ ap (λ (z : List ℕ). take (get_or size k 0) (drop (32 * k) z)) (take-append-drop (32 * n) filled)
        ∙ F.masks k h ∙ ap (truth_masks r []) (sym (part-set sheet from size n x y k h)))
        (λ h. let e : k ≡ n = omega arith in
        rw e (ap (λ (b : ℕ). take b (drop (32 * n) filled')) (get_or-set_same size n y 0 (omega (arith, p.sizes))) ∙ new-masks
        ∙ ap (truth_masks r []) (sym (part-new sheet from size n x y (omega (arith, p.froms)) (omega (arith, p.sizes))))))

    pub learnt-new : length c ≡ y → is_known c (known_of sheet from size n) ≡ false → Learnt r sheet from size n c from' size' filled' (record { number = n; cycles = n + 1 })
    learnt-new e t =
        let p = F.parts in
        record {
          known = known_more sheet from size n x y (omega (arith, p.froms)) (omega (arith, p.sizes)) ∙ sym (learn-new (known_of sheet from size n) c t);
          filled = record { parts = parts_more; room = kept-length ∙ F.room; masks = masks-more };
          one = omega arith;
          number = omega arith;
          masks = ap (λ (b : ℕ). take b (drop (32 * n) filled')) e ∙ new-masks;
        }
