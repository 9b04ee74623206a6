-- Rows 21 to 23, by the tests that led there; the names of a preface, and a preface from names.
use Prim.Native.Nat.{ℕ, ◌+◌, ◌-◌, ◌*◌, ◌≤◌}
use mathlib.Core.Path.{◌≡◌, refl, ap, ap₂, sym, ◌∙◌}
use mathlib.Core.Logic.{◌⊎◌, inl, inr, ⊎_elim}
use mathlib.Core.Bool.{Bool, true, false, ◌&&◌, ◌||◌, not}
use mathlib.Core.List.{List, [], ◌∷◌, ◌++◌}
use native.Mathlib.Omega.{arith}
use borrow.Author.Tests.{ltb-false, le-ltb, le-leb, leb-true, eqb-true, not-false}
use lib.Dec.{leb, ltb, eqb}
use lib.ListN.{length, get_or, take, drop, length-append, length-take, length-drop, take-append-drop, drop_of_length-le}
use lib.Seq.{get_or-append-add, drop-append-add, drop-drop, take_at}
use Rattle.sets.specs.Tests.{some_below}
use Rattle.sets.specs.Lists.{any_of}
use Rattle.refusals.specs.Rows.{first_row}
use Rattle.sets.proofs.Bools.{bif, clash, and_l, and_r, or_cases}
use Rattle.refusals.proofs.Rows.{numbered, first-pass}
use Rattle.sets.proofs.Walks.{drop-next}
use Rattle.file_spec.specs.Names.{names_tag, has_names_lem, names_before, repeats_name_lem, preface_from}
use Rattle.file_spec.specs.Rows.{name_rows, given_rows, preface_rows}
use Rattle.file_spec.specs.RuleRows.{outside}

-- ---- the rows

module _ (names : List ℕ) where
  pub row-22 : any_of names (outside 0x20 0x7E) ≡ true → 22 ≡ first_row (name_rows names)
  row-22 a = unfold first_row name_rows in rw a

  pub row-23 : any_of names (outside 0x20 0x7E) ≡ false → repeats_name_lem names ≡ true → 23 ≡ first_row (name_rows names)
  row-23 a b = unfold first_row name_rows in rw (a, b)

  pub pass-23 : any_of names (outside 0x20 0x7E) ≡ false → repeats_name_lem names ≡ false → 0 ≡ first_row (name_rows names)
  pass-23 a b = unfold first_row name_rows in rw (a, b)

module _ (s : ℕ) (names : List ℕ) where
  -- none, or 8 for each letter
  abbrev pub whole : Bool
  whole = eqb (length names) 0 || eqb (length names) (8 * s)

  pub given-21 : whole ≡ false → 21 ≡ first_row (given_rows s names)
  given-21 e = unfold first_row given_rows in rw e

  pub past-given : whole ≡ true → first_row (given_rows s names) ≡ first_row (name_rows names)
  past-given e = unfold first_row given_rows in rw e

  pub given-numbered : numbered (given_rows s names) ≡ true
  given-numbered = unfold numbered given_rows name_rows in refl

  pub given-whole : first_row (given_rows s names) ≡ 0 → (length names ≡ 0) ⊎ (length names ≡ 8 * s)
  unfolding given_rows
  given-whole e =
      ⊎_elim (λ t. inl (eqb-true (length names) 0 t)) (λ t. inr (eqb-true (length names) (8 * s) t))
      (or_cases (eqb (length names) 0) (eqb (length names) (8 * s)) (not-false whole (first-pass (not whole) _ _ e).0))

  pub given-names : first_row (given_rows s names) ≡ 0 → first_row (name_rows names) ≡ 0
  given-names e = unfold given_rows in (first-pass (not whole) _ _ e).1

module _ (s : ℕ) (p : List ℕ) where
  -- the names do not fit
  abbrev pub cut_off_lem : Bool
  cut_off_lem = has_names_lem p && ltb (length p - 2) (8 * s)

  pub row-21 : cut_off_lem ≡ true → 21 ≡ first_row (preface_rows s p)
  row-21 e = unfold first_row preface_rows in rw e

  pub past-21 : cut_off_lem ≡ false → first_row (preface_rows s p) ≡ first_row (name_rows (names_before s p))
  past-21 e = unfold first_row preface_rows in rw e

  pub fit-21 : first_row (preface_rows s p) ≡ 0 → cut_off_lem ≡ false
  fit-21 e = unfold preface_rows in (first-pass cut_off_lem _ _ e).0

  pub preface-numbered : numbered (preface_rows s p) ≡ true
  preface-numbered = unfold numbered preface_rows name_rows in refl

  -- ---- the names

  pub no_names : has_names_lem p ≡ false → names_before s p ≡ []
  no_names e = unfold names_before in rw e

  pub names-there : has_names_lem p ≡ true → names_before s p ≡ take (8 * s) (drop (length p - 2 - 8 * s) p)
  names-there e = unfold names_before in rw e

  pub names-room : has_names_lem p ≡ true → cut_off_lem ≡ false → 8 * s ≤ length p - 2
  names-room h e = ltb-false (length p - 2) (8 * s) (bif (ltb (length p - 2) (8 * s)) (λ t. clash (rw (h, t)) e) (λ t. t))

  -- a preface that ends with 4E 4D has two bytes
  pub names-long : has_names_lem p ≡ true → 2 ≤ length p
  names-long e = unfold has_names_lem in leb-true 2 (length p) (and_l (leb 2 (length p)) _ e)

  -- a preface with names is any bytes, then 8 bytes a letter, then 4E 4D
  tag-ends : has_names_lem p ≡ true → drop (length p - 2) p ≡ names_tag
  unfolding has_names_lem
  tag-ends e =
      let long = names-long e in
      let b = and_r (leb 2 (length p)) (eqb (get_or p (length p - 2) 0) 0x4E && eqb (get_or p (length p - 1) 0) 0x4D) e in
      let t₀ : get_or p (length p - 2) 0 ≡ 0x4E = eqb-true _ _ (and_l (eqb (get_or p (length p - 2) 0) 0x4E) (eqb (get_or p (length p - 1) 0) 0x4D) b) in
      let t₁ : get_or p (length p - 1) 0 ≡ 0x4D = eqb-true _ _ (and_r (eqb (get_or p (length p - 2) 0) 0x4E) (eqb (get_or p (length p - 1) 0) 0x4D) b) in
      let i₁ : length p - 2 + 1 ≡ length p - 1 = omega arith in
      let d₁ : drop (length p - 1) p ≡ get_or p (length p - 1) 0 ∷ drop (length p - 1 + 1) p = drop-next p (length p - 1) (omega arith) in
      let d₂ : drop (length p - 1 + 1) p ≡ [] = drop_of_length-le p {i = length p - 1 + 1} (omega arith) in
      drop-next p (length p - 2) (omega arith) ∙ ap₂ (λ (x i : ℕ). x ∷ drop i p) t₀ i₁
      ∙ ap (λ (l : List ℕ). 0x4E ∷ l) (d₁ ∙ ap₂ (λ (x : ℕ) (l : List ℕ). x ∷ l) t₁ d₂)

  pub names-split : has_names_lem p ≡ true → cut_off_lem ≡ false → p ≡ take (length p - 2 - 8 * s) p ++ (names_before s p ++ names_tag)
  names-split h e =
      let room = names-room h e in
      let k = length p - 2 - 8 * s in
      let i : k + 8 * s ≡ length p - 2 = omega arith in
      let t : drop (8 * s) (drop k p) ≡ names_tag = drop-drop (8 * s) k p ∙ ap (λ (j : ℕ). drop j p) i ∙ tag-ends h in
      sym (ap (λ (l : List ℕ). take k p ++ l)
      (ap₂ (λ (l m : List ℕ). l ++ m) (names-there h) (sym t) ∙ take-append-drop (8 * s) (drop k p)) ∙ take-append-drop k p)

  pub names-length : has_names_lem p ≡ true → cut_off_lem ≡ false → length (names_before s p) ≡ 8 * s
  names-length h e = let room = names-room h e in let l = names-long h in
      ap length (names-there h) ∙ length-take (8 * s) (drop (length p - 2 - 8 * s) p) ∙ omega (arith, length-drop (length p - 2 - 8 * s) p)

-- the other way: names and 4E 4D after any bytes q
module _ (s : ℕ) (q names : List ℕ) (l : length names ≡ 8 * s) where
  abbrev pub with_names : List ℕ
  with_names = q ++ (names ++ names_tag)

  with-length : length with_names ≡ length q + 8 * s + 2
  with-length = omega (arith, length-append q (names ++ names_tag), length-append names names_tag)

  with_byte : (i j : ℕ) → i ≡ length q + (length names + j) → get_or with_names i 0 ≡ get_or names_tag j 0
  with_byte i j e = ap (λ (k : ℕ). get_or with_names k 0) e ∙ get_or-append-add q _ _ 0 ∙ get_or-append-add names names_tag j 0

  pub with-names : has_names_lem with_names ≡ true
  unfolding has_names_lem
  with-names =
      rw (
        le-leb 2 (length with_names) (omega (arith, with-length)),
        with_byte (length with_names - 2) 0 (omega (arith, with-length)),
        with_byte (length with_names - 1) 1 (omega (arith, with-length)),
      )

  pub with-fit : cut_off_lem s with_names ≡ false
  with-fit = rw (with-names, le-ltb (length with_names - 2) (8 * s) (omega (arith, with-length)))

  pub with-before : names_before s with_names ≡ names
  with-before =
      let i : length with_names - 2 - 8 * s ≡ length q + 0 = omega (arith, with-length) in
      names-there s with_names with-names ∙ ap (λ (k : ℕ). take (8 * s) (drop k with_names)) i
      ∙ ap (take (8 * s)) (drop-append-add q (names ++ names_tag) 0) ∙ take_at names names_tag (8 * s) l

-- a preface of no byte has no names
pub no-preface : (s : ℕ) → first_row (preface_rows s []) ≡ 0
no-preface s = unfold first_row preface_rows name_rows has_names_lem names_before repeats_name_lem any_of some_below in refl

-- ---- the preface that is written

module _ (s : ℕ) where
  pub written-before : (names : List ℕ) → (length names ≡ 0) ⊎ (length names ≡ 8 * s) → names_before s (preface_from names) ≡ names
  unfolding preface_from has_names_lem names_before
  written-before [] e = refl
  written-before (x ∷ xs) e = ⊎_elim (λ z. absurd (omega arith)) (λ l. with-before s [] (x ∷ xs) l) e

  pub written_row : (names : List ℕ) → (length names ≡ 0) ⊎ (length names ≡ 8 * s) → first_row (preface_rows s (preface_from names)) ≡ first_row (name_rows names)
  unfolding preface_from
  written_row [] e = no-preface s ∙ unfold first_row name_rows any_of repeats_name_lem some_below in refl
  written_row (x ∷ xs) e =
      ⊎_elim (λ z. absurd (omega arith))
      (λ l. past-21 s ((x ∷ xs) ++ names_tag) (with-fit s [] (x ∷ xs) l) ∙ ap (λ (names : List ℕ). first_row (name_rows names)) (with-before s [] (x ∷ xs) l)) e
