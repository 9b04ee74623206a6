-- The bytes of a block that repeats a cycle.
use mathlib.Core.Path.{◌≡◌, sym, ◌∙◌, ap}
use mathlib.Core.List.{List, [], ◌++◌}
use mathlib.Core.Logic.{by_cases}
use Prim.Native.Nat.{ℕ, suc, ◌+◌, ◌-◌, ◌≤◌, ◌<◌}
use native.Mathlib.Omega.{arith}
use native.Mathlib.Decide.{dec_lt}
use lib.ListN.{length, get_or, take, drop, set, replicate, length-append, length-take, length-replicate, get_or-replicate, length-set, get_or-append}
use lib.Seq.{ext_get_or, get_or-take, get_or-append-add, drop_at}
use Rattle.sets.proofs.Lists.{length-tabulate, tabulate-at}
use Rattle.sets.proofs.Walks.{put_next}
use Rattle.theory.specs.Word.{next_place_lem, place}
use Rattle.sheet_cycles.specs.Repeats.{repeated, spread_of}

module _ (cycle : List ℕ) (n : ℕ) where
  pub repeated-length : length (repeated cycle n) ≡ n
  unfolding repeated
  repeated-length = length-tabulate n _ 0

  pub repeated-at : (j : ℕ) → j < n → get_or (repeated cycle n) j 0 ≡ get_or cycle (place (next_place_lem [] cycle) j) 0
  unfolding repeated
  repeated-at j l =
      let e : 0 + j ≡ j = omega arith in
      tabulate-at n (λ x. get_or cycle (place (next_place_lem [] cycle) x) 0) 0 j l ∙ ap (λ (x : ℕ). get_or cycle (place (next_place_lem [] cycle) x) 0) e

zeros-behind : (xs : List ℕ) (n m j : ℕ) → length xs ≡ n → n ≤ j → j < n + m → get_or (xs ++ replicate m 0) j 0 ≡ 0
zeros-behind xs n m j e h l =
    let q : length xs + (j - n) ≡ j = omega arith in
    ap (λ (x : ℕ). get_or (xs ++ replicate m 0) x 0) (sym q) ∙ get_or-append-add xs (replicate m 0) (j - n) 0 ∙ get_or-replicate m (j - n) 0 0 (omega arith)

-- the first i bytes of the block so far are as they should be
pub record Right (cycle : List ℕ) (first end : ℕ) (block now : List ℕ) (i : ℕ) : Type 0 where
  pub long : length now ≡ length block
  pub each : (j : ℕ) → j < i → get_or now j 0 ≡ get_or (spread_of cycle first end block) j 0

-- the place of the next step
pub step-next : (cycle : List ℕ) (first i p r : ℕ) → first ≤ i → p ≡ place (next_place_lem [] cycle) (i - first) → r ≡ next_place_lem [] cycle p → r ≡ place (next_place_lem [] cycle) (i + 1 - first)
unfolding place
step-next cycle first i p r h e q =
    let n : i + 1 - first ≡ suc (i - first) = omega arith in
    q ∙ ap (next_place_lem [] cycle) e ∙ sym (ap (place (next_place_lem [] cycle)) n)

module _ (cycle : List ℕ) (first end : ℕ) (block : List ℕ) (order : first ≤ end) (room : end ≤ length block) where
  abbrev goal : List ℕ
  goal = spread_of cycle first end block

  abbrev zeros : List ℕ
  zeros = replicate (length block - end) 0

  front : length (take first block) ≡ first
  front = simp length-take (omega arith)

  pub spread-length : length goal ≡ length block
  unfolding spread_of
  spread-length =
      length-append (take first block) (repeated cycle (end - first) ++ zeros)
      ∙ omega (arith, front, length-append (repeated cycle (end - first)) zeros, repeated-length cycle (end - first), length-replicate {A = ℕ} (length block - end) 0)

  pub spread-front : (j : ℕ) → j < first → get_or block j 0 ≡ get_or goal j 0
  unfolding spread_of
  spread-front j l = sym (get_or-append (take first block) _ 0 j (omega (arith, front)) ∙ get_or-take first block j 0 l)

  behind : (k : ℕ) → get_or goal (first + k) 0 ≡ get_or (repeated cycle (end - first) ++ zeros) k 0
  unfolding spread_of
  behind k =
      ap (λ (x : ℕ). get_or (take first block ++ (repeated cycle (end - first) ++ zeros)) (x + k) 0) (sym front)
      ∙ get_or-append-add (take first block) (repeated cycle (end - first) ++ zeros) k 0

  pub spread-drop : drop first goal ≡ repeated cycle (end - first) ++ zeros
  unfolding spread_of
  spread-drop = drop_at (take first block) (repeated cycle (end - first) ++ zeros) first front

  pub spread-cycle : (j : ℕ) → first ≤ j → j < end → get_or cycle (place (next_place_lem [] cycle) (j - first)) 0 ≡ get_or goal j 0
  spread-cycle j l h =
      let e : first + (j - first) ≡ j = omega arith in
      let k : j - first < end - first = omega arith in
      sym (ap (λ (x : ℕ). get_or goal x 0) (sym e) ∙ behind (j - first)
      ∙ get_or-append (repeated cycle (end - first)) zeros 0 (j - first) (omega (arith, repeated-length cycle (end - first)))
      ∙ repeated-at cycle (end - first) (j - first) k)

  pub spread-zero : (j : ℕ) → end ≤ j → j < length block → 0 ≡ get_or goal j 0
  spread-zero j l h =
      let e : first + (end - first + (j - end)) ≡ j = omega arith in
      sym (ap (λ (x : ℕ). get_or goal x 0) (sym e) ∙ behind (end - first + (j - end))
      ∙ ap (λ (x : ℕ). get_or (repeated cycle (end - first) ++ zeros) (x + (j - end)) 0) (sym (repeated-length cycle (end - first)))
      ∙ get_or-append-add (repeated cycle (end - first)) zeros (j - end) 0
      ∙ get_or-replicate (length block - end) (j - end) 0 0 (omega arith))

module _ {cycle : List ℕ} {first end : ℕ} {block : List ℕ} (order : first ≤ end) (room : end ≤ length block) {now : List ℕ} {i : ℕ} (r : Right cycle first end block now i) where
  pub right-next : {x : ℕ} → i < length block → x ≡ get_or (spread_of cycle first end block) i 0 → Right cycle first end block (set now i x) (i + 1)
  right-next {x} l e = record { long = simp length-set r.long; each = put_next (λ j. get_or (spread_of cycle first end block) j 0) now i x (omega (arith, r.long)) e r.each }

  -- with zeros after them, all bytes are
  pub right_end : {t : List ℕ} → i ≡ end → t ≡ take end now ++ replicate (length now - end) 0 → t ≡ spread_of cycle first end block
  right_end {t} e h =
      let zs : List ℕ = replicate (length now - end) 0 in
      let fit : length (take end now) ≡ end = simp length-take (omega (arith, r.long)) in
      let long : length (take end now ++ zs) ≡ length block = length-append (take end now) zs ∙ omega (arith, fit, length-replicate {A = ℕ} (length now - end) 0, r.long) in
      h ∙ ext_get_or 0 (take end now ++ zs) (spread_of cycle first end block) (long ∙ sym (spread-length cycle first end block order room))
      (λ (j : ℕ) (l : j < length (take end now ++ zs)). by_cases (dec_lt j end)
      (λ (k : j < end). get_or-append (take end now) zs 0 j (omega (arith, fit)) ∙ get_or-take end now j 0 k ∙ r.each j (omega arith))
      (λ k. zeros-behind (take end now) end (length now - end) j fit (omega arith) (omega (arith, long, r.long)) ∙ spread-zero cycle first end block order room j (omega arith) (omega (arith, long))))
