-- The lines of macrostates, read one number after the other.
use mathlib.Core.Path.{◌≡◌, refl, sym, ◌∙◌, ap}
use mathlib.Core.Bool.{Bool, true, false}
use mathlib.Core.List.Memᴰ
use mathlib.Core.List.{List, [], ◌∷◌, ◌++◌, append_assoc, append-nil, Memᴰ}
use mathlib.Core.Logic.{inl, inr, ⊎_elim, by_cases}
use Prim.Native.Nat.{ℕ, suc, ◌+◌, ◌-◌, ◌≤◌, ◌<◌}
use native.Mathlib.Omega.{arith}
use native.Mathlib.Numerals.{add-one}
use native.Mathlib.Decide.{dec_lt}
use lib.Dec.{eqb, ltb}
use lib.ListN.{length, get_or, drop, replicate, length-append, length-replicate, get_or-replicate, replicate-append-replicate, get_or-append}
use lib.Seq.{sets, drop-cons, get_or-append-add}
use borrow.Author.Tests.{lt-ltb, le-ltb, ltb-true, ltb-false, eqb-true}
use Rattle.sets.specs.Masks.{bit}
use Rattle.sets.specs.Lists.{Ascending, none}
use Rattle.sets.proofs.Bits.{bit-none}
use Rattle.sets.proofs.Bools.{bif}
use Rattle.sets.proofs.Lists.{keep_out}
use Rattle.theory.specs.Run.{source_of}
use Rattle.listing_lines_spec.specs.Lines.{lines}
use Rattle.hoa_spec.specs.Lines.{state_line}
use Rattle.hoa_spec.specs.Text.{edge_of, leaving, block_of}
use Rattle.hoa_spec.specs.Shape.{Shaped}
use Rattle.hoa_laws.specs.Took.{TookOne, NoEdge, Leaves}
use Rattle.hoa_laws.proofs.Lines.{state-once}
use Rattle.hoa_laws.proofs.Marks.{marked-bit}
use Rattle.hoa_laws.proofs.Taking.{one_none, later}
use Rattle.hoa_laws.proofs.Blocks.{Same, blocks-left, block-cons, block_more, after_block, state-head}
use Rattle.hoa_laws.specs.Parts.{TookEdges, Onward, accepting_first, Blocking, BlocksOf, TookBlocks}
use Rattle.hoa_laws.proofs.Lists.{asc-append, keep-asc, sets-append}

-- ---- a state line, and how many numbers are accepting up to it

module _ {text : List ℕ} {p : ℕ} (i accepting : ℕ) (h : accepting ≤ i) {x r : ℕ} (T : TookOne text p (λ x. x ≤ 1) (λ x. state_line i (eqb x 1)) x r) where
  -- a state line is accepting or not
  line-yes : (a : ℕ) → a ≡ suc i → (rest : List ℕ) → drop p text ≡ state_line i (ltb i a) ++ rest → drop p text ≡ state_line i true ++ rest
  line-yes a e rest f = f ∙ ap (λ (b : Bool). state_line i b ++ rest) (lt-ltb i a (omega arith))

  line-no : (a : ℕ) → a ≡ accepting → (rest : List ℕ) → drop p text ≡ state_line i (ltb i a) ++ rest → drop p text ≡ state_line i false ++ rest
  line-no a e rest f = f ∙ ap (λ (b : Bool). state_line i b ++ rest) (le-ltb i a (omega arith))

  pub marked-none : r ≡ 0 → {v e : ℕ} → e ≡ 0 → TookOne text p (Onward accepting i) (λ a. state_line i (ltb i a)) v e
  marked-none z k = one_none k (λ a m rest f. ⊎_elim
      (λ q. T.absent z 0 (omega arith) rest (line-no a q rest f))
      (λ q. T.absent z 1 (omega arith) rest (line-yes a q.0 rest f)) m)

  module _ (l : 0 < r) where
    pub marked-rejecting : x ≡ 0 → TookOne text p (Onward accepting i) (λ a. state_line i (ltb i a)) accepting r
    marked-rejecting e =
        let f = T.found l in
        record {
          found = λ z. (inl refl, f.1, f.2 ∙ ap (λ (y : ℕ). state_line i (eqb y 1) ++ drop r text) e ∙ ap (λ (b : Bool). state_line i b ++ drop r text) (sym (le-ltb i accepting h)));
          absent = λ z. absurd (omega arith);
        }

    module _ (n : x ≡ 0 → ⊥) where
      is_one : x ≡ 1
      is_one = let f = T.found l in let s = f.0 in omega arith

      accepting-here : drop p text ≡ state_line i true ++ drop r text
      accepting-here = (T.found l).2 ∙ ap (λ (y : ℕ). state_line i (eqb y 1) ++ drop r text) is_one

      pub marked-late : accepting < i → {v e : ℕ} → e ≡ 0 → TookOne text p (Onward accepting i) (λ a. state_line i (ltb i a)) v e
      marked-late g k = one_none k (λ a m rest f. ⊎_elim
          (λ q. let o = state-once i true false (sym accepting-here ∙ line-no a q rest f) in let z : true ≡ false = o.0 in let c : ◌≡◌ {A = ℕ} 0 1 = cc in omega arith)
          (λ q. let s = q.1 in omega arith) m)

      pub marked-accepting : i ≤ accepting → TookOne text p (Onward accepting i) (λ a. state_line i (ltb i a)) (i + 1) r
      marked-accepting g =
          let f = T.found l in
          record {
            found = λ z. (inr (add-one i, omega arith), f.1, accepting-here ∙ ap (λ (b : Bool). state_line i b ++ drop r text) (sym (lt-ltb i (i + 1) (omega arith))));
            absent = λ z. absurd (omega arith);
          }

-- ---- accepting numbers come first

pub first-length : (a i : ℕ) → a ≤ i → length (accepting_first a i) ≡ i
first-length a i h = length-append (replicate a 2) (replicate (i - a) 0) ∙ omega (arith, length-replicate {A = ℕ} a 2, length-replicate {A = ℕ} (i - a) 0)

first-low : (a i j : ℕ) → j < a → get_or (accepting_first a i) j 0 ≡ 2
first-low a i j h = get_or-append (replicate a 2) (replicate (i - a) 0) 0 j (omega (arith, length-replicate {A = ℕ} a 2)) ∙ get_or-replicate {A = ℕ} a j 2 0 h

first-high : (a i j : ℕ) → a ≤ j → j < i → get_or (accepting_first a i) j 0 ≡ 0
first-high a i j h l =
    let n : length (replicate {A = ℕ} a 2) ≡ a = length-replicate {A = ℕ} a 2 in
    let e : j ≡ length (replicate {A = ℕ} a 2) + (j - a) = omega arith in
    ap (λ (k : ℕ). get_or (accepting_first a i) k 0) e
    ∙ get_or-append-add (replicate a 2) (replicate (i - a) 0) (j - a) 0
    ∙ get_or-replicate {A = ℕ} (i - a) (j - a) 0 0 (omega arith)

bit-2 : bit 2 1 ≡ true
unfolding bit
bit-2 = refl

pub first_bit : (a i j : ℕ) → j < i → bit (get_or (accepting_first a i) j 0) 1 ≡ ltb j a
first_bit a i j h =
    by_cases (dec_lt j a)
    (λ l. ap (λ (x : ℕ). bit x 1) (first-low a i j l) ∙ bit-2 ∙ sym (lt-ltb j a l))
    (λ n. ap (λ (x : ℕ). bit x 1) (first-high a i j (omega arith) h) ∙ bit-none 1 ∙ sym (le-ltb j a (omega arith)))

-- one number more
first_more : (accepting i a : ℕ) → accepting ≤ i → Onward accepting i a → (f : ℕ) × (accepting_first a (i + 1) ≡ accepting_first accepting i ++ (f ∷ [])) × (bit f 1 ≡ ltb i a)
first_more accepting i a h (inl e) =
    let k : i + 1 - accepting ≡ (i - accepting) + 1 = omega arith in
    (0, rw (e, k, ← replicate-append-replicate {A = ℕ} (i - accepting) 1 0, append_assoc), bit-none 1 ∙ sym (le-ltb i a (omega arith)))
first_more accepting i a h (inr (e, q)) =
    let k : i + 1 - (accepting + 1) ≡ 0 = omega arith in
    let l : a ≡ accepting + 1 = omega arith in
    let z : i - accepting ≡ 0 = omega arith in
    (2, rw (l, k, z, append-nil, append-nil, ← replicate-append-replicate {A = ℕ} accepting 1 2), bit-2 ∙ sym (lt-ltb i a (omega arith)))

-- ---- one block after the other

pub blocking-none : {text : List ℕ} {p b n : ℕ} → p ≤ length text → Blocking text p b n 0 0 [] p
unfolding lines
blocking-none h = record {
  first = omega arith;
  source = λ t m. absurd (Memᴰ.not-nil m);
  letter = λ t m. absurd (Memᴰ.not-nil m);
  target = λ t m. absurd (Memᴰ.not-nil m);
  ascending = none;
  within = h;
  next = λ l. absurd (omega arith);
  is = refl;
}

module _ {text : List ℕ} {p b n : ℕ} {old : List ℕ} {accepting count r : ℕ} {new : List ℕ} where
  pub blocks-some : 0 < r → BlocksOf text p b n old accepting count r new → TookBlocks text p b n old accepting count r new
  blocks-some l B = record { found = λ z. B; absent = λ z. absurd (omega arith) }

  pub blocks-none : r ≡ 0 → ((fs ts rest : List ℕ) → Shaped b fs ts → length fs ≡ n → NoEdge rest → drop p text ≡ lines (block_of b ts) 0 fs ++ rest → ⊥)
      → TookBlocks text p b n old accepting count r new
  blocks-none e h = record { found = λ l. absurd (omega arith); absent = λ z. h }

module _ {text : List ℕ} {p b n i accepting : ℕ} {moves : List ℕ} {r : ℕ} (B : Blocking text p b n i accepting moves r) (h : i < n) where
  -- what comes next in any lines of macrostates that stand there
  module _ (fs ts rest : List ℕ) (P : Shaped b fs ts) (l : length fs ≡ n) (N : NoEdge rest) (e : drop p text ≡ lines (block_of b ts) 0 fs ++ rest) where
    same : Same b moves ts 0 (accepting_first accepting i) fs (drop r text) rest
    same =
        let k = first-length accepting i B.first in
        blocks-left b moves ts B.letter (λ t m. (P.ranges t m).letter) 0 (accepting_first accepting i) fs (drop r text) rest
        (omega arith) (λ z. B.next (omega arith)) N (sym B.is ∙ e)

    -- the text after the blocks below i
    after-all : List ℕ
    after-all = lines (block_of b ts) (suc i) (drop (suc i) fs) ++ rest

    here : drop r text ≡ state_line i (bit (get_or fs i 0) 1) ++ (lines (edge_of b) 0 (leaving ts i) ++ after-all)
    unfolding after-all
    here =
        let k = first-length accepting i B.first in
        let z : 0 + length (accepting_first accepting i) ≡ i = omega arith in
        same.left
        ∙ ap (λ (j : ℕ). lines (block_of b ts) j (drop (length (accepting_first accepting i)) fs) ++ rest) z
        ∙ ap (λ (j : ℕ). lines (block_of b ts) i (drop j fs) ++ rest) k
        ∙ ap (λ (gs : List ℕ). lines (block_of b ts) i gs ++ rest) (drop-cons fs i 0 (omega arith))
        ∙ block-cons b ts i (get_or fs i 0) (drop (suc i) fs) rest

    no-edge-after : NoEdge after-all
    unfolding after-all
    no-edge-after = after_block b ts (suc i) (drop (suc i) fs) rest N

    -- the next number is accepting only if all before it are
    onward : (a : ℕ) × Onward accepting i a × (bit (get_or fs i 0) 1 ≡ ltb i a)
    onward =
        let M = P.marked in
        let w = marked-bit M i (omega arith) in
        let f = B.first in
        bif (bit (get_or fs i 0) 1)
        (λ t. by_cases (dec_lt accepting i)
        (λ g. let u = marked-bit M accepting (omega arith) in
        let k = first-length accepting i f in
        let s : bit (get_or fs accepting 0) 1 ≡ ltb accepting accepting = sym (same.bits accepting (omega arith)) ∙ first_bit accepting i accepting g in
        let low = ltb-false accepting M.accepting (sym u ∙ s ∙ le-ltb accepting accepting (omega arith)) in
        let high = ltb-true i M.accepting (sym w ∙ t) in
        absurd (omega arith))
        (λ g. (suc i, inr (refl, omega arith), t ∙ sym (lt-ltb i (suc i) (omega arith)))))
        (λ t. (accepting, inl refl, t ∙ sym (le-ltb i accepting f)))

    leaving-leaves : (t : ℕ) → Memᴰ t (leaving ts i) → Leaves b n i t
    unfolding leaving
    leaving-leaves t m =
        let k = keep_out (λ u. eqb (source_of u) i) ts t m in
        record {
          source = eqb-true (source_of t) i k.1;
          letter = (P.ranges t k.0).letter;
          target = omega (arith, (P.ranges t k.0).target);
        }

    leaving-asc : Ascending (leaving ts i)
    unfolding leaving
    leaving-asc = keep-asc (λ u. eqb (source_of u) i) ts P.ascend

  module _ {x c : ℕ} (T : TookOne text r (Onward accepting i) (λ a. state_line i (ltb i a)) x c) where
    pub blocks-no-state : c ≡ 0 → {old : List ℕ} {a count e : ℕ} {new : List ℕ} → e ≡ 0 → TookBlocks text p b n old a count e new
    blocks-no-state z k = blocks-none k (λ fs ts rest P l N e.
        let o = onward fs ts rest P l N e in
        T.absent z o.0 o.1 (lines (edge_of b) 0 (leaving ts i) ++ after-all fs ts rest P l N e)
        (here fs ts rest P l N e ∙ ap (λ (y : Bool). state_line i y ++ (lines (edge_of b) 0 (leaving ts i) ++ after-all fs ts rest P l N e)) o.2))

    pub state-later : 0 < c → r < c
    state-later g =
        let f = T.found g in
        let d = state-head i (ltb i x) [] in
        let z : length (state_line i (ltb i x) ++ []) ≡ suc (length d.0) = ap length d.1 in
        later text r (state_line i (ltb i x)) c (omega (arith, length-append (state_line i (ltb i x)) [])) f.1 f.2

    module _ (g : 0 < c) {m : ℕ} {now : List ℕ} {count q : ℕ} {new : List ℕ} (E : TookEdges text c b n i m now count q new) where
      pub blocks-no-edges : q ≡ 0 → {old : List ℕ} {a k e : ℕ} {left : List ℕ} → e ≡ 0 → TookBlocks text p b n old a k e left
      blocks-no-edges z k = blocks-none k (λ fs ts rest P l N e.
          let s = state-once i (ltb i x) (bit (get_or fs i 0) 1) (sym (T.found g).2 ∙ here fs ts rest P l N e) in
          E.absent z (leaving ts i) (after-all fs ts rest P l N e) (leaving-leaves fs ts rest P l N e) (leaving-asc fs ts rest P l N e)
          (no-edge-after fs ts rest P l N e) s.1)

      module _ (j : 0 < q) where
        pub blocking-next : Blocking text p b n (i + 1) x (moves ++ (E.found j).edges) q
        blocking-next =
            let F = E.found j in
            let us = F.edges in let R = F.read in
            let t = T.found g in
            let w = first_more accepting i x B.first t.0 in
            let few : x ≤ i + 1 = let f = B.first in ⊎_elim (λ e. omega arith) (λ e. let s = e.0 in omega arith) t.0 in
            record {
              first = few;
              source = λ u k. ⊎_elim (λ y. let s = B.source u y in omega arith) (λ y. let s = (R.leaves u y).source in omega arith) (Memᴰ.append_cases moves k);
              letter = λ u k. ⊎_elim (λ y. B.letter u y) (λ y. (R.leaves u y).letter) (Memᴰ.append_cases moves k);
              target = λ u k. ⊎_elim (λ y. B.target u y) (λ y. (R.leaves u y).target) (Memᴰ.append_cases moves k);
              ascending = asc-append B.ascending R.ascending (λ u k y o. let s = B.source u k in let v = (R.leaves y o).source in omega arith);
              within = R.within;
              next = λ z. F.next;
              is = B.is
                  ∙ ap (λ (s : List ℕ). lines (block_of b moves) 0 (accepting_first accepting i) ++ s)
                  (t.2
                  ∙ ap (λ (s : List ℕ). state_line i (ltb i x) ++ s) R.is
                  ∙ ap (λ (y : Bool). state_line i y ++ (lines (edge_of b) 0 us ++ drop q text)) (sym w.2)
                  ∙ sym (append_assoc (state_line i (bit w.0 1)) (lines (edge_of b) 0 us) (drop q text)))
                  ∙ sym (append_assoc (lines (block_of b moves) 0 (accepting_first accepting i)) (state_line i (bit w.0 1) ++ lines (edge_of b) 0 us) (drop q text))
                  ∙ ap (λ (s : List ℕ). s ++ drop q text)
                  (sym (block_more moves us i B.source (λ u k. (R.leaves u k).source) b (accepting_first accepting i) w.0 (first-length accepting i B.first)))
                  ∙ ap (λ (gs : List ℕ). lines (block_of b (moves ++ us)) 0 gs ++ drop q text) (sym w.1);
            }

-- the transitions of a block are stored after those before it
pub moves-stored : (old moves edges : List ℕ) (count : ℕ) {now new : List ℕ} → count ≡ length moves → now ≡ sets old 0 moves → new ≡ sets now count edges → new ≡ sets old 0 (moves ++ edges)
moves-stored old moves edges count h e w =
    let z : count ≡ 0 + length moves = omega arith in
    w ∙ rw (e, z, sets-append old 0 moves edges)

-- all numbers
pub blocked : {text : List ℕ} {p b n : ℕ} {old : List ℕ} {i accepting : ℕ} {moves : List ℕ} {count r : ℕ} {new : List ℕ} → i ≡ n → Blocking text p b n i accepting moves r
    → count ≡ length moves → new ≡ sets old 0 moves → BlocksOf text p b n old accepting count r new
blocked {moves = moves} e B h w = record { moves = moves; read = rw e at B; counted = h; stored = w }
