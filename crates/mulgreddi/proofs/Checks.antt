-- What the check tells of a file, by what the reader answers.
use mathlib.Core.Path.{◌≡◌, sym, ap, ◌∙◌, subst}
use mathlib.Core.List.{List}
use Prim.Native.Nat.{ℕ}
use native.Mathlib.Omega.{arith}
use Rattle.mulgreddi_answers.specs.declared.Answer.{Answer}
use Rattle.mulgreddi_answers.specs.Answers.{refused_as, served_as}
use Rattle.file_spec.specs.declared.Layout.{Layout}
use Rattle.std.specs.Prelude.{Ok, Err}
use Rattle.refusals.specs.declared.Refusal.{Refusal}
use Rattle.refusals.specs.Rows.{number_of}
use Rattle.file_spec.specs.Reading.{read_of}
use Rattle.file_read.proofs.Answer.{served, turned-away}
use Rattle.mulgreddi.specs.Check.{read_answer, Checked}

pub checked-served : (f : List ℕ) (l : Layout) (r : Answer) → read_of f ≡ Ok l → r ≡ served_as l.at l.names → Checked f r
unfolding read_answer
checked-served f l r e a =
    let s = served f l e in
    subst (Checked f) (sym a) (record { answer = sym (ap read_answer e); inside = s.names-inside; names = λ z. s.names })

pub checked_refused : (f : List ℕ) (k : Refusal) (r : Answer) → read_of f ≡ Err k → r ≡ refused_as (number_of k) → Checked f r
unfolding read_answer
checked_refused f k r e a =
    let t = turned-away f k e in
    subst (Checked f) (sym a) (record { answer = sym (ap read_answer e); inside = λ l. absurd (omega arith); names = λ z. absurd (t.2 (t.1 ∙ z)) })
