-- Edge lines of a number, read one after the other.
use mathlib.Core.Path.{◌≡◌, refl, sym, ◌∙◌, ap}
use mathlib.Core.List.{List, [], ◌∷◌, ◌++◌, append_assoc, Memᴰ, nil≢cons}
use mathlib.Core.Logic.{inl, inr, ⊎_elim}
use Prim.Native.Nat.{ℕ, suc, ◌+◌, ◌≤◌, ◌<◌}
use native.Mathlib.Omega.{arith}
use lib.ListN.{length, get_or, drop, set, drop_of_length-le, length-append}
use lib.Seq.{sets}
use Rattle.sets.specs.Lists.{Ascending, none, from, end}
use Rattle.listing_lines_spec.specs.Lines.{lines}
use Rattle.hoa_spec.specs.Text.{edge_of}
use Rattle.hoa_laws.specs.Took.{TookOne, NoEdge, Leaves}
use Rattle.hoa_laws.specs.Parts.{Edging, TookEdges}
use Rattle.hoa_laws.proofs.Lines.{other-heads, moves-once}
use Rattle.hoa_laws.proofs.Edges.{From, edges-left, edges-cons, edges-snoc, edge-head}
use Rattle.hoa_laws.proofs.Lists.{asc-append, asc-before, in-middle, in_list, sets-append}
use Rattle.hoa_laws.proofs.Taking.{byte-here, later}

from-leaves : (b n i : ℕ) (ts : List ℕ) → ((t : ℕ) → Memᴰ t ts → Leaves b n i t) → From b i ts
from-leaves b n i ts h = record { source = λ t m. (h t m).source; letter = λ t m. (h t m).letter }

pub edging-none : {text : List ℕ} {p b n i : ℕ} → p ≤ length text → Edging text p b n i [] 0 p
unfolding lines
edging-none h = record {
  leaves = λ t m. absurd (mathlib.Core.List.Memᴰ.not-nil m);
  ascending = none;
  below = λ t m. absurd (mathlib.Core.List.Memᴰ.not-nil m);
  last = inl refl;
  within = h;
  is = refl;
}

pub no-edge-end : (text : List ℕ) (r : ℕ) → length text ≤ r → NoEdge (drop r text)
no-edge-end text r h others e = nil≢cons (sym (drop_of_length-le text {i = r} h) ∙ e)

pub no-edge-here : (text : List ℕ) (r : ℕ) → r < length text → (get_or text r 0 ≡ 91 → ⊥) → NoEdge (drop r text)
no-edge-here text r h n others e = other-heads (sym (byte-here text r h) ∙ e) n

module _ {text : List ℕ} {p b n i m : ℕ} {old : List ℕ} {count r : ℕ} {new : List ℕ} where
  pub edges_some : {edges : List ℕ} {low : ℕ} → 0 < r → Edging text p b n i edges low r → NoEdge (drop r text) → count ≤ r → count ≡ m + length edges → new ≡ sets old m edges
      → TookEdges text p b n i m old count r new
  edges_some {edges} {low} l E N f c s =
      record { found = λ z. record { edges = edges; low = low; read = E; next = N; few = f; counted = c; stored = s }; absent = λ z. absurd (omega arith) }

  pub edges_none : r ≡ 0 → ((us rest : List ℕ) → ((t : ℕ) → Memᴰ t us → Leaves b n i t) → Ascending us → NoEdge rest → drop p text ≡ lines (edge_of b) 0 us ++ rest → ⊥)
      → TookEdges text p b n i m old count r new
  edges_none e h = record { found = λ l. absurd (omega arith); absent = λ z. h }

module _ {text : List ℕ} {p b n i : ℕ} {edges : List ℕ} {low r : ℕ} (E : Edging text p b n i edges low r) where
  -- an edge line comes next in any edge lines that stand there
  module _ (h : r < length text) (bracket : get_or text r 0 ≡ 91) (us rest : List ℕ) (L : (t : ℕ) → Memᴰ t us → Leaves b n i t) (N : NoEdge rest)
      (e : drop p text ≡ lines (edge_of b) 0 us ++ rest) where
    next_edge : (v : ℕ) × (vs : List ℕ) × (us ≡ edges ++ (v ∷ vs)) × (drop r text ≡ edge_of b 0 v ++ (lines (edge_of b) 0 vs ++ rest))
    unfolding lines
    next_edge = cased (edges-left b i edges us (drop r text) rest (from-leaves b n i edges E.leaves) (from-leaves b n i us L) N (sym E.is ∙ e))
      where
        cased : (vs : List ℕ) × (us ≡ edges ++ vs) × (drop r text ≡ lines (edge_of b) 0 vs ++ rest)
            → (v : ℕ) × (vs : List ℕ) × (us ≡ edges ++ (v ∷ vs)) × (drop r text ≡ edge_of b 0 v ++ (lines (edge_of b) 0 vs ++ rest))
        cased ([], f, g) = absurd (N (drop (r + 1) text) (sym g ∙ byte-here text r h ∙ ap (λ (x : ℕ). x ∷ drop (r + 1) text) bracket))
        cased (v ∷ vs, f, g) = (v, vs, f, g ∙ edges-cons b v vs rest)

  module _ (h : r < length text) (bracket : get_or text r 0 ≡ 91) {x q : ℕ} (T : TookOne text r (λ t. Leaves b n i t) (λ t. edge_of b 0 t) x q) where
    pub edges-no-line : q ≡ 0 → {m : ℕ} {old : List ℕ} {count e : ℕ} {new : List ℕ} → e ≡ 0 → TookEdges text p b n i m old count e new
    edges-no-line z k = edges_none k (λ us rest L A N e.
        let w = next_edge h bracket us rest L N e in
        let v = w.0 in
        let mem : Memᴰ v us = in_list us edges v w.1 w.2 in
        T.absent z v (L v mem) (lines (edge_of b) 0 w.1 ++ rest) w.3)

    module _ (l : 0 < q) where
      leaves-now : Leaves b n i x
      leaves-now = (T.found l).0

      pub edges-no-order : x < low → {m : ℕ} {old : List ℕ} {count e : ℕ} {new : List ℕ} → e ≡ 0 → TookEdges text p b n i m old count e new
      edges-no-order lt k = edges_none k (λ us rest L A N e.
          let w = next_edge h bracket us rest L N e in
          let v = w.0 in
          let mem : Memᴰ v us = in_list us edges v w.1 w.2 in
          let o = moves-once b i x v leaves-now.source (L v mem).source leaves-now.letter (L v mem).letter (sym (T.found l).2 ∙ w.3) in
          let A' : Ascending (edges ++ (v ∷ w.1)) = rw w.2 at A in
          ⊎_elim (λ z. omega arith) (λ u. let k = asc-before edges v w.1 A' u.0 u.1 in let s = u.2 in omega (arith, o.0)) E.last)

      pub edging-next : low ≤ x → Edging text p b n i (edges ++ (x ∷ [])) (x + 1) q
      edging-next le =
          let f = T.found l in
          let one : (t : ℕ) → Memᴰ t (x ∷ []) → t ≡ x = λ t m. mathlib.Core.List.Memᴰ.eq_of_singleton m in
          record {
            leaves = λ t m. ⊎_elim (λ k. E.leaves t k) (λ k. rw (one t k) f.0) (mathlib.Core.List.Memᴰ.append_cases edges m);
            ascending = asc-append E.ascending (from end) (λ u m y k. let c = E.below u m in omega (arith, one y k));
            below = λ t m. ⊎_elim (λ k. let c = E.below t k in omega arith) (λ k. omega (arith, one t k)) (mathlib.Core.List.Memᴰ.append_cases edges m);
            last = inr (x, in-middle edges x [], omega arith);
            within = f.1;
            is = E.is
                ∙ ap (λ (s : List ℕ). lines (edge_of b) 0 edges ++ s) f.2
                ∙ sym (append_assoc (lines (edge_of b) 0 edges) (edge_of b 0 x) (drop q text))
                ∙ ap (λ (s : List ℕ). s ++ drop q text) (sym (edges-snoc b edges x));
          }

      -- its number, and the place after it
      pub move-small : i < 65536 → x < 1099511627776
      move-small g = let s = leaves-now.source in omega arith

      pub edge-later : r < q
      edge-later =
          let f = T.found l in
          let d = edge-head b x [] in
          let z : length (edge_of b 0 x ++ []) ≡ suc (length d.0) = ap length d.1 in
          later text r (edge_of b 0 x) q (omega (arith, length-append (edge_of b 0 x) [])) f.1 f.2

-- the transition is stored after those before it
pub move-stored : (old : List ℕ) (m : ℕ) (edges : List ℕ) (count x : ℕ) {now new : List ℕ} → count ≡ m + length edges → now ≡ sets old m edges → new ≡ set now count x →
    new ≡ sets old m (edges ++ (x ∷ []))
move-stored old m edges count x h e w =
    w ∙ ap (λ (xs : List ℕ). set xs count x) e ∙ ap (λ (k : ℕ). set (sets old m edges) k x) h ∙ sym (sets-append old m edges (x ∷ []))
