-- Transitions in either order are the same transitions.
use mathlib.Core.Path.{◌≡◌, refl, sym, ap, ◌∙◌}
use mathlib.Core.Bool.{Bool, true, false, true≢false, false≢true}
use mathlib.Core.List.{List, [], ◌∷◌, Memᴰ}
use Prim.Native.Nat.{ℕ, suc, ◌+◌, ◌-◌, ◌<◌}
use native.Mathlib.Omega.{arith}
use lib.ListN.{length, get_or}
use Rattle.sets.specs.Lists.{tabulate}
use Rattle.sets.proofs.Lists.{place_of, mem-at, tabulate-0, tabulate-out, tabulate-at, length-tabulate}
use Rattle.table_fixpoints_spec.specs.Product.{NodeEdge, Fits}
use Rattle.table_fixpoints_spec.specs.Marks.{turned, ordered}

three-turned : turned (4 ∷ 5 ∷ 6 ∷ []) ≡ 6 ∷ 5 ∷ 4 ∷ []
unfolding turned tabulate
three-turned = refl

-- the transition at place i from the end
abbrev from_end_lem : List ℕ → ℕ → ℕ
from_end_lem ts i = get_or ts (length ts - suc i) 0

turned-at : (ts : List ℕ) (i : ℕ) → i < length ts → get_or (turned ts) i 0 ≡ get_or ts (length ts - 1 - i) 0
unfolding turned
turned-at ts i l =
    let e : length ts - suc (0 + i) ≡ length ts - 1 - i = omega arith in
    tabulate-at (length ts) (from_end_lem ts) 0 i l ∙ ap (λ (k : ℕ). get_or ts k 0) e

-- read from the end, or from the front
pub from_end : (back : Bool) (ts : List ℕ) (m i r : ℕ) → m ≡ length ts → i < m → back ≡ true → r ≡ get_or ts (m - 1 - i) 0 → r ≡ get_or (ordered back ts) i 0
from_end true ts m i r e l t q =
    let k : m - 1 - i ≡ length ts - 1 - i = omega arith in
    q ∙ ap (λ (j : ℕ). get_or ts j 0) k ∙ sym (turned-at ts i (omega arith))
from_end false ts m i r e l t q = absurd (false≢true t)

pub from_front : (back : Bool) (ts : List ℕ) (i r : ℕ) → back ≡ false → r ≡ get_or ts i 0 → r ≡ get_or (ordered back ts) i 0
from_front true ts i r t q = absurd (true≢false t)
from_front false ts i r t q = q

turned-from : (ts : List ℕ) (t : ℕ) → Memᴰ t (turned ts) → Memᴰ t ts
unfolding turned
turned-from ts t m = let (j, l, e) = tabulate-out (length ts) (from_end_lem ts) t m in rw e (mem-at ts (length ts - suc j) (omega arith))

turned-in : (ts : List ℕ) (t : ℕ) → Memᴰ t ts → Memᴰ t (turned ts)
unfolding turned
turned-in ts t m =
    let (i, l, e) = place_of ts t m in
    let k : length ts - suc (length ts - suc i) ≡ i = omega arith in
    rw (sym e ∙ ap (λ (j : ℕ). get_or ts j 0) (sym k)) (tabulate-0 (length ts) (from_end_lem ts) (length ts - suc i) (omega arith))

pub ordered-long : (back : Bool) (ts : List ℕ) → length (ordered back ts) ≡ length ts
unfolding turned
ordered-long true ts = length-tabulate (length ts) (from_end_lem ts) 0
ordered-long false ts = refl

pub ordered-from : (back : Bool) (ts : List ℕ) (t : ℕ) → Memᴰ t (ordered back ts) → Memᴰ t ts
ordered-from true ts t m = turned-from ts t m
ordered-from false ts t m = m

pub ordered-in : (back : Bool) (ts : List ℕ) (t : ℕ) → Memᴰ t ts → Memᴰ t (ordered back ts)
ordered-in true ts t m = turned-in ts t m
ordered-in false ts t m = m

-- an edge stays one where its transition is listed too
abbrev pub edge-listed : {n : ℕ} {cycle ts us : List ℕ} → ((t : ℕ) → Memᴰ t ts → Memᴰ t us) → {x y : ℕ} → NodeEdge n cycle ts x y → NodeEdge n cycle us x y
edge-listed h e = record {
  place = e.place;
  transition = e.transition;
  inside = e.inside;
  listed = h e.transition e.listed;
  letter = e.letter;
  source = e.source;
  target = e.target;
}

pub fits-ordered : {n : ℕ} {cycle ts ms : List ℕ} (back : Bool) → Fits n cycle ts ms → Fits n cycle (ordered back ts) ms
fits-ordered {ts = ts} back f =
    let from = ordered-from back ts in
    record { repeats = f.repeats; marked = f.marked; sources = λ t m. f.sources t (from t m); targets = λ t m. f.targets t (from t m) }
