-- The edge lines of a number tell its transitions, and where they end.
use mathlib.Core.Path.{◌≡◌, refl, sym, ◌∙◌, ap}
use mathlib.Core.List.{List, [], ◌∷◌, ◌++◌, append_assoc, append-nil, Memᴰ}
use Prim.Native.Nat.{ℕ, suc, ◌^◌, ◌<◌}
use Rattle.theory.specs.Run.{source_of, letter_of_lem}
use Rattle.listing_lines_spec.specs.Lines.{lines}
use Rattle.hoa_spec.specs.Lines.{edge_line}
use Rattle.hoa_spec.specs.Text.{edge_of}
use Rattle.hoa_laws.specs.Took.{NoEdge}
use Rattle.hoa_laws.proofs.Lines.{moves-once}

-- the transitions of the list come from i, over letters of b propositions
pub record From (b i : ℕ) (ts : List ℕ) : Type 0 where
  pub source : (t : ℕ) → Memᴰ t ts → source_of t ≡ i
  pub letter : (t : ℕ) → Memᴰ t ts → letter_of_lem t < 2 ^ b

from_tail : {b i t : ℕ} {ts : List ℕ} → From b i (t ∷ ts) → From b i ts
from_tail F = record { source = λ u m. F.source u (Memᴰ.tail m); letter = λ u m. F.letter u (Memᴰ.tail m) }

-- how the edge lines are numbered makes no difference
pub any-number : (b i j : ℕ) (ts : List ℕ) → lines (edge_of b) i ts ≡ lines (edge_of b) j ts
unfolding lines
any-number b i j [] = refl
any-number b i j (t ∷ ts) = ap (λ (s : List ℕ). edge_of b 0 t ++ s) (any-number b (suc i) (suc j) ts)

pub edges-cons : (b t : ℕ) (ts rest : List ℕ) → lines (edge_of b) 0 (t ∷ ts) ++ rest ≡ edge_of b 0 t ++ (lines (edge_of b) 0 ts ++ rest)
unfolding lines
edges-cons b t ts rest =
    append_assoc (edge_of b 0 t) (lines (edge_of b) 1 ts) rest ∙ ap (λ (s : List ℕ). edge_of b 0 t ++ (s ++ rest)) (any-number b 1 0 ts)

pub edges-snoc : (b : ℕ) (ts : List ℕ) (t : ℕ) → lines (edge_of b) 0 (ts ++ (t ∷ [])) ≡ lines (edge_of b) 0 ts ++ edge_of b 0 t
unfolding lines
edges-snoc b [] t = append-nil (edge_of b 0 t)
edges-snoc b (u ∷ ts) t =
    ap (λ (s : List ℕ). edge_of b 0 u ++ s) (any-number b 1 0 (ts ++ (t ∷ [])) ∙ edges-snoc b ts t)
    ∙ sym (append_assoc (edge_of b 0 u) (lines (edge_of b) 0 ts) (edge_of b 0 t))
    ∙ ap (λ (s : List ℕ). (edge_of b 0 u ++ s) ++ edge_of b 0 t) (any-number b 0 1 ts)

pub edge-head : (b t : ℕ) (rest : List ℕ) → (others : List ℕ) × (edge_of b 0 t ++ rest ≡ 91 ∷ others)
unfolding edge_line
edge-head b t rest = (_, refl)

-- the edge lines that were read come first among any that stand there
pub edges-left : (b i : ℕ) (ts us qs rest : List ℕ) → From b i ts → From b i us → NoEdge rest → lines (edge_of b) 0 ts ++ qs ≡ lines (edge_of b) 0 us ++ rest
    → (vs : List ℕ) × (us ≡ ts ++ vs) × (qs ≡ lines (edge_of b) 0 vs ++ rest)
unfolding lines
edges-left b i [] us qs rest F G n e = (us, refl, e)
edges-left b i (t ∷ ts) [] qs rest F G n e =
    let h = edge-head b t (lines (edge_of b) 0 ts ++ qs) in
    absurd (n h.0 (sym e ∙ edges-cons b t ts qs ∙ h.1))
edges-left b i (t ∷ ts) (u ∷ us) qs rest F G n e =
    let r = moves-once b i t u (F.source t (Memᴰ.head refl)) (G.source u (Memᴰ.head refl)) (F.letter t (Memᴰ.head refl)) (G.letter u (Memᴰ.head refl))
    (sym (edges-cons b t ts qs) ∙ e ∙ edges-cons b u us rest) in
    let ih = edges-left b i ts us qs rest (from_tail F) (from_tail G) n r.1 in
    let h = r.0 in let k = ih.1 in
    (ih.0, cc, ih.2)

pub edges-once : (b i : ℕ) (ts us qs rest : List ℕ) → From b i ts → From b i us → NoEdge qs → NoEdge rest → lines (edge_of b) 0 ts ++ qs ≡ lines (edge_of b) 0 us ++ rest
    → (ts ≡ us) × (qs ≡ rest)
unfolding lines
edges-once b i ts us qs rest F G m n e = cased (edges-left b i ts us qs rest F G n e)
  where
    cased : (vs : List ℕ) × (us ≡ ts ++ vs) × (qs ≡ lines (edge_of b) 0 vs ++ rest) → (ts ≡ us) × (qs ≡ rest)
    cased ([], f, g) = (sym (f ∙ append-nil ts), g)
    cased (v ∷ vs, f, g) = let h = edge-head b v (lines (edge_of b) 0 vs ++ rest) in absurd (m h.0 (g ∙ edges-cons b v vs rest ∙ h.1))
