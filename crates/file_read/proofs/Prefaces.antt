-- A preface brings 21, 22, 23 or names and nothing else: bytes put before a file change neither what rows 1 to 11 and 20 say of it nor its rule,
-- nor what is answered by rows and rule where no name is refused.
use Prim.Native.Nat.{ℕ, suc, ◌+◌, ◌-◌, ◌<◌, ◌≤◌}
use mathlib.Core.Path.{◌≡◌, refl, ap, ap₂, sym, ◌∙◌}
use mathlib.Core.Bool.{Bool, true, false, cond}
use mathlib.Core.List.{List, ◌++◌}
use mathlib.Core.Logic.{◌↔◌, ◌⊎◌, inl, inr, ⊎_elim, by_cases}
use native.Mathlib.Omega.{arith}
use native.Mathlib.Decide.{dec_lt, ℕ_discrete}
use borrow.Author.Tests.{le-ltb}
use lib.ListN.{length, get_or, take, drop, length-append}
use lib.Seq.{get_or-append-add, drop-append-add, take-append-add}
use lib.Dec.{ltb}
use Rattle.sets.proofs.Bools.{bif}
use Rattle.sets.specs.Lists.{any_of}
use Rattle.refusals.specs.Rows.{Check, first_row}
use Rattle.refusals.proofs.Rows.{first-left}
use Rattle.theory.specs.Rule.{Rule}
use Rattle.file_spec.specs.File.{trailer, tagged, head_of, clause_count, entry_count, clauses_at, clauses_of_lem, counts_of_lem, part_before_lem, names_of, rule_in}
use Rattle.file_spec.specs.Names.{repeats_name_lem}
use Rattle.file_spec.proofs.Names.{cut_off_lem}
use Rattle.file_spec.specs.Rows.{trailer_rows, layout_rows, body_rows, body_row, name_rows, preface_rows, preface_row_lem, file_rows_lem, file_row, old_rows, old_row}
use Rattle.file_spec.specs.RuleRows.{outside, number_rows, component_rows, formed_rows}
use Rattle.file_spec.specs.Reading.{preface_of}
use Rattle.file_spec.proofs.TrailerRows.{row-1, row-2, row-numbers, row-7, rows-trailer, placed}
use Rattle.file_read.proofs.FileRows.{layout-numbered, file-numbered, old-numbered, old-accepts, laid, accepted-placed, accepted-rows, rows-layout, rows-body, rows-preface}
use Rattle.file_read.proofs.Accepted.{preface-accepted}
use Rattle.file_read.proofs.RowAndRule.{row-alike, holds-alike, answer-alike}

module _ (p f : List ℕ) (long : 8 ≤ length f) where
  pub trailer-after : (i : ℕ) → trailer (p ++ f) i ≡ trailer f i
  trailer-after i =
      let e : length (p ++ f) - 8 + i ≡ length p + (length f - 8 + i) = omega (arith, length-append p f) in
      ap (λ (j : ℕ). get_or (p ++ f) j 0) e ∙ get_or-append-add p f (length f - 8 + i) 0

  pub tagged-after : tagged (p ++ f) ≡ tagged f
  tagged-after = unfold tagged in rw (trailer-after 6, trailer-after 7)

  pub head-after : head_of (p ++ f) ≡ head_of f
  head-after = rw (trailer-after 0, trailer-after 1, trailer-after 2, trailer-after 3)

  pub clause-count-after : clause_count (p ++ f) ≡ clause_count f
  clause-count-after = rw (trailer-after 4, trailer-after 5)

  pub entry-count-after : entry_count (p ++ f) ≡ entry_count f
  entry-count-after = rw (trailer-after 0, trailer-after 1)

  module _ (fits : clause_count f + entry_count f ≤ length f - 8) where
    pub clauses-at-after : clauses_at (p ++ f) ≡ length p + clauses_at f
    clauses-at-after = rw (clause-count-after, entry-count-after) (omega (arith, length-append p f))

    pub clauses-after : clauses_of_lem (p ++ f) ≡ clauses_of_lem f
    unfolding clauses_of_lem
    clauses-after = ap₂ take clause-count-after (ap (λ (i : ℕ). drop i (p ++ f)) clauses-at-after ∙ drop-append-add p f (clauses_at f))

    pub counts-after : counts_of_lem (p ++ f) ≡ counts_of_lem f
    unfolding counts_of_lem
    counts-after =
        let e : clauses_at (p ++ f) + clause_count (p ++ f) ≡ length p + (clauses_at f + clause_count f) = omega (arith, clauses-at-after, clause-count-after) in
        ap₂ take entry-count-after (ap (λ (i : ℕ). drop i (p ++ f)) e ∙ drop-append-add p f (clauses_at f + clause_count f))

    -- the rule is that of the file without the preface
    pub rule-after : rule_in (p ++ f) ≡ rule_in f
    rule-after = rw (counts-after, clauses-after, trailer-after 0, trailer-after 1, trailer-after 2, trailer-after 3)

    -- the part before the first clause grows by the preface
    pub part-after : part_before_lem (p ++ f) ≡ p ++ part_before_lem f
    part-after = ap (λ (i : ℕ). take i (p ++ f)) clauses-at-after ∙ take-append-add p f (clauses_at f)

    rows-after : layout_rows (p ++ f) ≡ layout_rows f
    unfolding layout_rows trailer_rows
    rows-after =
        let long₂ : ltb (length (p ++ f)) 8 ≡ false = le-ltb (length (p ++ f)) 8 (omega (arith, length-append p f)) in
        let fits₂ : ltb (length (p ++ f) - 8) (clause_count (p ++ f) + entry_count (p ++ f)) ≡ false =
        le-ltb (length (p ++ f) - 8) (clause_count (p ++ f) + entry_count (p ++ f)) (omega (arith, length-append p f, clause-count-after, entry-count-after)) in
        rw (
          long₂,
          fits₂,
          le-ltb (length f) 8 long,
          le-ltb (length f - 8) (clause_count f + entry_count f) fits,
          tagged-after,
          counts-after,
          clauses-after,
          trailer-after 0,
          trailer-after 1,
          trailer-after 2,
          trailer-after 3,
        )

  -- where the parts do not fit, rows 2 to 6 are those of the trailer
  short-after : length f - 8 < clause_count f + entry_count f → (first_row (layout_rows f) ≡ 7 → ⊥) → first_row (layout_rows (p ++ f)) ≡ first_row (layout_rows f)
  short-after l n =
      let long₂ : 8 ≤ length (p ++ f) = omega (arith, length-append p f) in
      bif (tagged f)
      (λ t. by_cases (dec_lt 0 (first_row (number_rows (head_of f))))
      (λ m. let k = first_row (number_rows (head_of f)) in
      sym (rows-trailer (p ++ f) k (λ z. omega arith) (row-numbers (p ++ f) long₂ (tagged-after ∙ t) k (λ z. omega arith) (ap (λ h. first_row (number_rows h)) (sym head-after))))
      ∙ rows-trailer f k (λ z. omega arith) (row-numbers f long t k (λ z. omega arith) refl))
      (λ m. absurd (n (sym (rows-trailer f 7 (λ z. omega arith) (row-7 f long t (omega arith) l))))))
      (λ t. sym (rows-trailer (p ++ f) 2 (λ z. omega arith) (row-2 (p ++ f) long₂ (tagged-after ∙ t))) ∙ rows-trailer f 2 (λ z. omega arith) (row-2 f long t))

-- Bytes before a file leave rows 1 to 10 as they are, unless the file by itself is too short (rows 1 and 7).
pub layout-after : (p f : List ℕ) → (first_row (layout_rows f) ≡ 1 → ⊥) → (first_row (layout_rows f) ≡ 7 → ⊥) → first_row (layout_rows (p ++ f)) ≡ first_row (layout_rows f)
layout-after p f n₁ n₇ =
    by_cases (dec_lt (length f) 8)
    (λ l. absurd (n₁ (sym (rows-trailer f 1 (λ z. omega arith) (row-1 f l)))))
    (λ l. by_cases (dec_lt (length f - 8) (clause_count f + entry_count f))
    (λ m. short-after p f (omega arith) m n₇)
    (λ m. ap first_row (rows-after p f (omega arith) (omega arith))))

-- and where none of them refuses, the rule
pub laid-after : (p f : List ℕ) → first_row (layout_rows f) ≡ 0 → rule_in (p ++ f) ≡ rule_in f
laid-after p f e = let k = placed f (laid f e).0 in rule-after p f k.long k.fits

-- So they leave rows 1 to 11 and 20 as they are,
pub body-after : (p f : List ℕ) → (body_row f ≡ 1 → ⊥) → (body_row f ≡ 7 → ⊥) → body_row (p ++ f) ≡ body_row f
unfolding body_row body_rows
body-after p f n₁ n₇ =
    row-alike formed_rows (layout_rows (p ++ f)) (layout_rows f) (layout-numbered (p ++ f)) (layout-numbered f) (rule_in (p ++ f)) (rule_in f)
    (layout-after p f (λ z. n₁ (sym (rows-layout f 1 (λ z. omega arith) (sym z)))) (λ z. n₇ (sym (rows-layout f 7 (λ z. omega arith) (sym z)))))
    (laid-after p f)

-- and rows 1 to 11, those of the reader of 01.
pub old-after : (p f : List ℕ) → (old_row f ≡ 1 → ⊥) → (old_row f ≡ 7 → ⊥) → old_row (p ++ f) ≡ old_row f
unfolding old_row old_rows
old-after p f n₁ n₇ =
    row-alike component_rows (layout_rows (p ++ f)) (layout_rows f) (layout-numbered (p ++ f)) (layout-numbered f) (rule_in (p ++ f)) (rule_in f)
    (layout-after p f (λ z. n₁ (sym (first-left (layout_rows f) _ 1 (λ z. omega arith) (sym z)))) (λ z. n₇ (sym (first-left (layout_rows f) _ 7 (λ z. omega arith) (sym z)))))
    (laid-after p f)

-- ---- what a preface brings

-- a refusal of names
pub data NameRow : ℕ → Type 0 where
  too_short : NameRow 21
  bad-byte : NameRow 22
  equal-names : NameRow 23

three : (a b c : Bool) → (◌≡◌ {A = ℕ} (cond a 21 (cond b 22 (cond c 23 0))) 0) ⊎ NameRow (cond a 21 (cond b 22 (cond c 23 0)))
three true b c = inr too_short
three false true c = inr bad-byte
three false false true = inr equal-names
three false false false = inl refl

name-row : (f : List ℕ) → (preface_row_lem f ≡ 0) ⊎ NameRow (preface_row_lem f)
unfolding preface_row_lem preface_rows name_rows first_row
name-row f = three (cut_off_lem (trailer f 1) (part_before_lem f)) (any_of (names_of f) (outside 0x20 0x7E)) (repeats_name_lem (names_of f))

-- 02: "a preface can bring a refusal or a name but still no other verdict": the first row that refuses is that of rows 1 to 11 and 20, or 21 to 23
pub preface-brings : (p f : List ℕ) → (body_row f ≡ 1 → ⊥) → (body_row f ≡ 7 → ⊥) → (file_row (p ++ f) ≡ body_row f) ⊎ ((body_row f ≡ 0) × NameRow (file_row (p ++ f)))
preface-brings p f n₁ n₇ =
    let b = body-after p f n₁ n₇ in
    by_cases (ℕ_discrete (body_row f) 0)
    (λ e. let r = rows-preface (p ++ f) (b ∙ e) in ⊎_elim (λ z. inl (r ∙ z ∙ sym e)) (λ z. inr (e, rw r z)) (name-row (p ++ f)))
    (λ n. inl (sym (rows-body (p ++ f) (body_row (p ++ f)) (λ z. n (sym b ∙ z)) refl) ∙ b))

-- where no name is refused, rows 1 to 11 and 20 decide
pub unnamed-row : (f : List ℕ) → preface_row_lem f ≡ 0 → file_row f ≡ body_row f
unnamed-row f u = by_cases (ℕ_discrete (body_row f) 0) (λ e. rows-preface f e ∙ u ∙ sym e) (λ n. sym (rows-body f (body_row f) n refl))

-- Bytes before a file that bring no refusal of names leave its row as it is.
pub preface-no-effect : (p f : List ℕ) → (file_row f ≡ 1 → ⊥) → (file_row f ≡ 7 → ⊥) → preface_row_lem f ≡ 0 → preface_row_lem (p ++ f) ≡ 0 → file_row (p ++ f) ≡ file_row f
preface-no-effect p f n₁ n₇ u v = let e = unnamed-row f u in unnamed-row (p ++ f) v ∙ body-after p f (λ z. n₁ (e ∙ z)) (λ z. n₇ (e ∙ z)) ∙ sym e

-- An accepted file stays accepted after any preface whose names are not refused, as the same rule, and the preface grows by those bytes.
pub accepted-after : (p f : List ℕ) → file_row f ≡ 0 → preface_row_lem (p ++ f) ≡ 0 → (file_row (p ++ f) ≡ 0) × (rule_in (p ++ f) ≡ rule_in f) × (preface_of (p ++ f) ≡ p ++ preface_of f)
accepted-after p f e v =
    let k = accepted-placed f e in
    let b = (accepted-rows f e).0 in
    let r : file_row (p ++ f) ≡ 0 = unnamed-row (p ++ f) v ∙ body-after p f (λ z. omega (arith, b, z)) (λ z. omega (arith, b, z)) ∙ b in (
      r,
      rule-after p f k.long k.fits,
      preface-accepted (p ++ f) r ∙ part-after p f k.long k.fits ∙ ap (λ (l : List ℕ). p ++ l) (sym (preface-accepted f e)),
    )

-- ---- what is answered by the first row of the file and then of its rule, and by the rule where none refuses

module _ (rest : Rule → List Check) where
  module _ (p f : List ℕ) (n₁ : file_row f ≡ 1 → ⊥) (n₇ : file_row f ≡ 7 → ⊥) (u : preface_row_lem f ≡ 0) (v : preface_row_lem (p ++ f) ≡ 0) where
    pub first-after : first_row (file_rows_lem (p ++ f) ++ rest (rule_in (p ++ f))) ≡ first_row (file_rows_lem f ++ rest (rule_in f))
    unfolding file_row
    first-after =
        row-alike rest (file_rows_lem (p ++ f)) (file_rows_lem f) (file-numbered (p ++ f)) (file-numbered f) (rule_in (p ++ f)) (rule_in f)
        (preface-no-effect p f n₁ n₇ u v) (λ e. (accepted-after p f e v).1)

    -- 01: "The preface has no effect on any answer", where its names are not refused: what holds of the answers
    pub holds_after : (P : ℕ → Rule → Type 0) → ((k : ℕ) (r t : Rule) → P (suc k) r → P (suc k) t)
        → P (first_row (file_rows_lem (p ++ f) ++ rest (rule_in (p ++ f)))) (rule_in (p ++ f)) ↔ P (first_row (file_rows_lem f ++ rest (rule_in f))) (rule_in f)
    unfolding file_row
    holds_after P alone =
        let e = preface-no-effect p f n₁ n₇ u v in (
          holds-alike rest (file_rows_lem (p ++ f)) (file_rows_lem f) (file-numbered (p ++ f)) (file-numbered f) (rule_in (p ++ f)) (rule_in f) e (λ z. (accepted-after p f z v).1) P alone,
          holds-alike rest (file_rows_lem f) (file_rows_lem (p ++ f)) (file-numbered f) (file-numbered (p ++ f)) (rule_in f) (rule_in (p ++ f)) (sym e) (λ z. sym (accepted-after p f (sym e ∙ z) v).1) P alone,
        )

  -- on a file that the new reader accepts, the reader of 01 leads to the same first row
  pub old-first : (f : List ℕ) → file_row f ≡ 0 → first_row (old_rows f ++ rest (rule_in f)) ≡ first_row (file_rows_lem f ++ rest (rule_in f))
  unfolding file_row old_row
  old-first f e = row-alike rest _ _ (old-numbered f) (file-numbered f) _ _ (old-accepts f e ∙ sym e) (λ z. refl)

  module _ {X : Type 0} (answer : ℕ → Rule → X) where
    -- 02: "On a file that the new readers accept, both must reach equal verdicts."
    pub old-answer : (f : List ℕ) → file_row f ≡ 0
        → answer (first_row (old_rows f ++ rest (rule_in f))) (rule_in f) ≡ answer (first_row (file_rows_lem f ++ rest (rule_in f))) (rule_in f)
    old-answer f e = ap (λ (k : ℕ). answer k (rule_in f)) (old-first f e)

    -- 01: "The preface has no effect on any answer", where its names are not refused
    pub answer-after : ((k : ℕ) (r t : Rule) → answer (suc k) r ≡ answer (suc k) t)
        → (p f : List ℕ) → (file_row f ≡ 1 → ⊥) → (file_row f ≡ 7 → ⊥) → preface_row_lem f ≡ 0 → preface_row_lem (p ++ f) ≡ 0
        → answer (first_row (file_rows_lem (p ++ f) ++ rest (rule_in (p ++ f)))) (rule_in (p ++ f)) ≡ answer (first_row (file_rows_lem f ++ rest (rule_in f))) (rule_in f)
    unfolding file_row
    answer-after alone p f n₁ n₇ u v =
        answer-alike rest (file_rows_lem (p ++ f)) (file_rows_lem f) (file-numbered (p ++ f)) (file-numbered f) (rule_in (p ++ f)) (rule_in f)
        (preface-no-effect p f n₁ n₇ u v) (λ e. (accepted-after p f e v).1) answer alone
