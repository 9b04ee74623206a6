-- An accepted file is its preface and the layout of its rule; the layout of a passing rule, after any preface, is accepted and read as that rule.
use Prim.Native.Nat.{ℕ, ◌+◌, ◌-◌, ◌/◌, ◌%◌, ◌<◌}
use mathlib.Core.Path.{◌≡◌, ap, sym, ◌∙◌, refl}
use mathlib.Core.List.{List, [], ◌∷◌, ◌++◌, Memᴰ}
use native.Mathlib.Omega.{arith}
use borrow.Author.Tests.{eqb-true}
use lib.ListN.{length, get_or, take, drop, length-drop, take-append-drop, drop_of_length-le}
use lib.Seq.{drop-cons, drop-drop, get_or-drop}
use lib.Dec.{eqb}
use Rattle.sets.proofs.Bools.{and_l, and_r}
use Rattle.sets.proofs.Lists.{mem-at}
use Rattle.file_spec.specs.File.{trailer, tagged, clause_count, entry_count, clauses_at, clauses_of_lem, counts_of_lem, rule_in, trailer_of, body_of}
use Rattle.file_spec.specs.Rows.{file_row}
use Rattle.file_spec.specs.Reading.{unrefused, preface_of}
use Rattle.file_spec.proofs.Examples.{rows_computed}
use Rattle.file_spec.proofs.FileParts.{clauses-length}
use Rattle.file_read.proofs.FileRows.{accepted-placed}

-- ---- prefaces

-- 07 08 before F is the preface
pub preface-F : preface_of (0x07 ∷ 0x08 ∷ 0x01 ∷ 0x00 ∷ 0x01 ∷ 0x01 ∷ 0x01 ∷ 0x02 ∷ 0x00 ∷ 0x00 ∷ 0x02 ∷ 0x00 ∷ 0x41 ∷ 0x57 ∷ []) ≡ 0x07 ∷ 0x08 ∷ []
preface-F = unfold preface_of unrefused rows_computed in refl

-- nothing of a refused file: 07 before the example of row 9
pub preface-9 : preface_of (0x07 ∷ 0x01 ∷ 0x01 ∷ 0x01 ∷ 0x00 ∷ 0x00 ∷ 0x00 ∷ 0x00 ∷ 0x41 ∷ 0x57 ∷ []) ≡ []
preface-9 = unfold preface_of unrefused rows_computed in refl

pub preface-accepted : (f : List ℕ) → file_row f ≡ 0 → preface_of f ≡ take (clauses_at f) f
preface-accepted f e = unfold preface_of unrefused in rw e

-- each number is a byte
abbrev pub Bytes : List ℕ → Type 0
Bytes f = (x : ℕ) → Memᴰ x f → x < 256

-- ---- an accepted file

-- a list of eight elements
pub eight : (g : List ℕ) → length g ≡ 8
    → g ≡ get_or g 0 0 ∷ get_or g 1 0 ∷ get_or g 2 0 ∷ get_or g 3 0 ∷ get_or g 4 0 ∷ get_or g 5 0 ∷ get_or g 6 0 ∷ get_or g 7 0 ∷ []
eight g e =
    cc (
      drop-cons g 0 0 (omega arith),
      drop-cons g 1 0 (omega arith),
      drop-cons g 2 0 (omega arith),
      drop-cons g 3 0 (omega arith),
      drop-cons g 4 0 (omega arith),
      drop-cons g 5 0 (omega arith),
      drop-cons g 6 0 (omega arith),
      drop-cons g 7 0 (omega arith),
      drop_of_length-le g {i = 8} (omega arith),
    )

module _ (f : List ℕ) (bytes : Bytes f) (e : file_row f ≡ 0) where
  -- the trailer is that of the rule
  trailer-read : drop (length f - 8) f ≡ trailer_of (rule_in f)
  unfolding trailer_of tagged
  trailer-read =
      let p = accepted-placed f e in
      let g = drop (length f - 8) f in
      let at : (i : ℕ) → get_or g i 0 ≡ trailer f i = λ i. get_or-drop (length f - 8) f i 0 in
      let t₆ : trailer f 6 ≡ 0x41 = eqb-true (trailer f 6) 0x41 (and_l (eqb (trailer f 6) 0x41) (eqb (trailer f 7) 0x57) p.tag-ends) in
      let t₇ : trailer f 7 ≡ 0x57 = eqb-true (trailer f 7) 0x57 (and_r (eqb (trailer f 6) 0x41) (eqb (trailer f 7) 0x57) p.tag-ends) in
      let low : trailer f 4 < 256 = bytes (trailer f 4) (mem-at f (length f - 8 + 4) (omega (arith, p.long))) in
      let c = clauses-length f p.fits in
      let c₄ : length (clauses_of_lem f) % 256 ≡ trailer f 4 = omega arith in
      let c₅ : length (clauses_of_lem f) / 256 ≡ trailer f 5 = omega arith in
      let l : length g ≡ 8 = length-drop (length f - 8) f ∙ omega (arith, p.long) in
      cc (eight g l, at 0, at 1, at 2, at 3, at 4, at 5, at 6, at 7)

  body-read : drop (clauses_at f) f ≡ body_of (rule_in f)
  unfolding body_of clauses_of_lem counts_of_lem
  body-read =
      let p = accepted-placed f e in
      let g = drop (clauses_at f) f in
      let h = drop (clauses_at f + clause_count f) f in
      let at : clauses_at f + clause_count f + entry_count f ≡ length f - 8 = omega (arith, p.fits) in
      let one : take (clause_count f) g ++ h ≡ g = ap (λ (l : List ℕ). take (clause_count f) g ++ l) (sym (drop-drop (clause_count f) (clauses_at f) f)) ∙ take-append-drop (clause_count f) g in
      let two : take (entry_count f) h ++ drop (length f - 8) f ≡ h =
      ap (λ (l : List ℕ). take (entry_count f) h ++ l) (ap (λ (i : ℕ). drop i f) (sym at) ∙ sym (drop-drop (entry_count f) (clauses_at f + clause_count f) f)) ∙ take-append-drop (entry_count f) h in
      sym (ap (λ (l : List ℕ). take (clause_count f) g ++ (take (entry_count f) h ++ l)) (sym trailer-read) ∙ ap (λ (l : List ℕ). take (clause_count f) g ++ l) two ∙ one)

  -- An accepted file is its preface, then the clauses, the counts and the trailer of the rule that it is read as.
  pub accepted-layout : f ≡ preface_of f ++ body_of (rule_in f)
  accepted-layout = rw (preface-accepted f e, ← body-read) (sym (take-append-drop (clauses_at f) f))
