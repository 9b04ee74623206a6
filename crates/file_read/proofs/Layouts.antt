-- The layout of a passing rule, after any preface, is accepted and read as that rule.
use Prim.Native.Nat.{ℕ, ◌+◌, ◌-◌, ◌*◌, ◌/◌, ◌%◌, ◌≤◌}
use mathlib.Core.Path.{◌≡◌, refl, ap, ap₂, sym, ◌∙◌}
use mathlib.Core.Bool.{true, false}
use mathlib.Core.List.{List, [], ◌++◌, append_assoc, append-nil}
use native.Mathlib.Omega.{arith}
use lib.ListN.{length, take, drop, length-append}
use lib.Seq.{take_at, drop_at}
use Rattle.refusals.specs.Rows.{first_row}
use Rattle.theory.specs.Rule.{Rule}
use Rattle.theory.specs.Passing.{WellFormed, Passing}
use Rattle.file_spec.specs.File.{trailer, tagged, head_of, clause_count, entry_count, clauses_at, clauses_of_lem, counts_of_lem, part_before_lem, names_of, rule_in, trailer_of, body_of}
use Rattle.file_spec.specs.Names.{names_before}
use Rattle.file_spec.specs.Rows.{layout_rows, trailer_rows, body_row, preface_rows, preface_row_lem, file_row}
use Rattle.file_spec.specs.RuleRows.{some_nested}
use Rattle.file_spec.specs.Reading.{preface_of}
use Rattle.file_spec.proofs.TrailerRows.{pass-7, rows-lists}
use Rattle.file_spec.proofs.Names.{no-preface}
use Rattle.file_spec.proofs.Formed.{formed-numbers, formed-lists, passing-formed}
use Rattle.file_read.proofs.FileRows.{rows-formed}
use Rattle.file_read.proofs.Accepted.{preface-accepted}
use Rattle.file_read.proofs.Prefaces.{trailer-after, part-after, unnamed-row, accepted-after}

module _ (r : Rule) where
  -- byte i of the layout's trailer
  trailer-body : (i : ℕ) → trailer (body_of r) i ≡ trailer (trailer_of r) i
  unfolding body_of trailer_of
  trailer-body i = rw (← append_assoc r.clauses r.counts (trailer_of r)) (trailer-after (r.clauses ++ r.counts) (trailer_of r) (omega arith) i)

  tagged-body : tagged (body_of r) ≡ true
  tagged-body = unfold tagged trailer_of in rw (trailer-body 6, trailer-body 7)

  clause-count-body : clause_count (body_of r) ≡ length r.clauses
  unfolding trailer_of
  clause-count-body =
      let low : trailer (body_of r) 4 ≡ length r.clauses % 256 = trailer-body 4 in
      let high : trailer (body_of r) 5 ≡ length r.clauses / 256 = trailer-body 5 in
      omega arith

  pub length-body : length (body_of r) ≡ length r.clauses + length r.counts + 8
  length-body = unfold body_of trailer_of in simp length-append (omega arith)

  module _ (entries : length r.counts ≡ r.n * r.s) where
    entry-count-body : entry_count (body_of r) ≡ length r.counts
    entry-count-body = unfold trailer_of in rw (trailer-body 0, trailer-body 1) (sym entries)

    clauses-at-body : clauses_at (body_of r) ≡ 0
    clauses-at-body = omega (arith, length-body, clause-count-body, entry-count-body)

    clauses-body : clauses_of_lem (body_of r) ≡ r.clauses
    unfolding clauses_of_lem body_of
    clauses-body = ap₂ (λ (c i : ℕ). take c (drop i (body_of r))) clause-count-body clauses-at-body ∙ take_at _ _ _ refl

    counts-body : counts_of_lem (body_of r) ≡ r.counts
    unfolding counts_of_lem body_of
    counts-body =
        let at : clauses_at (body_of r) + clause_count (body_of r) ≡ length r.clauses = omega (arith, clauses-at-body, clause-count-body) in
        ap₂ (λ (m i : ℕ). take m (drop i (body_of r))) entry-count-body at
        ∙ ap (take (length r.counts)) (drop_at r.clauses (r.counts ++ trailer_of r) (length r.clauses) refl)
        ∙ take_at r.counts (trailer_of r) (length r.counts) refl

    pub rule-body : rule_in (body_of r) ≡ r
    rule-body = unfold trailer_of in rw (counts-body, clauses-body, trailer-body 0, trailer-body 1, trailer-body 2, trailer-body 3)

  module _ (pass : Passing r) (apart : some_nested r ≡ false) where
    formed-long : 8 ≤ length (body_of r)
    formed-long = omega (arith, length-body)

    formed-fits : clause_count (body_of r) + entry_count (body_of r) ≤ length (body_of r) - 8
    formed-fits = omega (arith, length-body, clause-count-body, entry-count-body pass.formed.all_entries)

    -- none of rows 1 to 11 and 20 refuses the layout
    body-body : body_row (body_of r) ≡ 0
    body-body =
        let f = body_of r in
        let e = pass.formed.all_entries in
        let w : WellFormed (rule_in f) = rw (rule-body e) pass.formed in
        let t : first_row (trailer_rows f) ≡ 0 =
        sym (pass-7 f formed-long tagged-body (formed-numbers (head_of f) (counts_of_lem f) (clauses_of_lem f) w) formed-fits) in
        let l : first_row (layout_rows f) ≡ 0 = rows-lists f t ∙ formed-lists (head_of f) (counts_of_lem f) (clauses_of_lem f) w in
        rows-formed f l ∙ passing-formed (rule_in f) (rw (rule-body e) pass) (rw (rule-body e) apart)

    part_body : part_before_lem (body_of r) ≡ []
    part_body = ap (λ (i : ℕ). take i (body_of r)) (clauses-at-body pass.formed.all_entries)

    -- nor does one of rows 21 to 23
    row-body : file_row (body_of r) ≡ 0
    unfolding preface_row_lem
    row-body =
        let n : preface_row_lem (body_of r) ≡ 0 = ap (λ (p : List ℕ). first_row (preface_rows (trailer (body_of r) 1) p)) part_body ∙ no-preface (trailer (body_of r) 1) in
        unnamed-row (body_of r) n ∙ body-body

    preface-body : preface_of (body_of r) ≡ []
    preface-body = preface-accepted (body_of r) row-body ∙ part_body

    module _ (p : List ℕ) where
      letters-after : trailer (p ++ body_of r) 1 ≡ r.s
      letters-after = unfold trailer_of in trailer-after p (body_of r) formed-long 1 ∙ trailer-body 1

      before-after : part_before_lem (p ++ body_of r) ≡ p
      before-after = part-after p (body_of r) formed-long formed-fits ∙ ap (λ (l : List ℕ). p ++ l) part_body ∙ append-nil p

      names-after : preface_row_lem (p ++ body_of r) ≡ first_row (preface_rows r.s p)
      names-after = unfold preface_row_lem in ap₂ (λ (s : ℕ) (q : List ℕ). first_row (preface_rows s q)) letters-after before-after

      -- The layout of a rule that passes every check of 01 and row 20, after any preface that rows 21 to 23 pass, is accepted, is read as that rule,
      -- and has that preface and its names.
      pub layout-accepted : first_row (preface_rows r.s p) ≡ 0
          → (file_row (p ++ body_of r) ≡ 0) × (rule_in (p ++ body_of r) ≡ r) × (preface_of (p ++ body_of r) ≡ p) × (names_of (p ++ body_of r) ≡ names_before r.s p)
      layout-accepted n =
          let a = accepted-after p (body_of r) row-body (names-after ∙ n) in (
            a.0,
            a.1 ∙ rule-body pass.formed.all_entries,
            a.2 ∙ ap (λ (l : List ℕ). p ++ l) preface-body ∙ append-nil p,
            ap₂ (λ (s : ℕ) (q : List ℕ). names_before s q) letters-after before-after,
          )
