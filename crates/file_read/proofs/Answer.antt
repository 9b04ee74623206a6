-- What an answer of the reader says of the file.
use Prim.Native.Nat.{ℕ, zero, suc, ◌+◌, ◌-◌, ◌<◌, ◌≤◌}
use mathlib.Core.Path.{◌≡◌, refl, ap, sym, ◌∙◌}
use mathlib.Core.Bool.{false}
use mathlib.Core.List.{List, []}
use native.Mathlib.Omega.{arith}
use lib.ListN.{length, take, drop}
use Rattle.std.specs.Prelude.{Result, Ok, Err, ⊤}
use Rattle.std.specs.Result.{result_and}
use Rattle.refusals.specs.declared.Refusal.{Refusal}
use Rattle.refusals.specs.Rows.{number_of, first_refusal}
use Rattle.refusals.proofs.Rows.{answer-served, answer-refuses, refused-row, refused-some}
use Rattle.theory.specs.Passing.{Passing}
use Rattle.rule_entries.specs.Entries.{rule_of}
use Rattle.file_spec.specs.declared.Layout.{Layout}
use Rattle.file_spec.specs.File.{trailer, clauses_of_lem, counts_of_lem, clauses_at, part_before_lem, names_of, rule_in}
use Rattle.file_spec.specs.Rows.{preface_row_lem, file_rows_lem, file_row}
use Rattle.file_spec.specs.Reading.{layout_of, read_of, unrefused, preface_of}
use Rattle.file_spec.proofs.FileParts.{clauses-part, counts-part}
use Rattle.file_spec.proofs.Names.{cut_off_lem, fit-21}
use Rattle.file_read.proofs.FileRows.{accepted-placed, accepted-passing, accepted-rows}
use Rattle.file_read.proofs.Accepted.{preface-accepted}
use Rattle.file_read.proofs.NamesPlaced.{names-room-at, names_at}

-- an accepted file: its rule is that of the layout and of two parts of the file, and passes every check
pub record Served (f : List ℕ) (l : Layout) : Type 0 where
  pub row : file_row f ≡ 0
  pub layout : l ≡ layout_of f
  pub long : 8 ≤ length f
  pub bounds : l.at + l.clauses ≤ length f - 8
  pub clauses : take (l.at + l.clauses - l.at) (drop l.at f) ≡ clauses_of_lem f
  pub counts : take (length f - 8 - (l.at + l.clauses)) (drop (l.at + l.clauses) f) ≡ counts_of_lem f
  pub rule : rule_of l.head (counts_of_lem f) (clauses_of_lem f) ≡ rule_in f
  pub passing : Passing (rule_in f)
  pub names-inside : 0 < l.names → l.names + 2 ≤ l.at
  pub names : take l.names (drop (l.at - 2 - l.names) f) ≡ names_of f

-- names that row 21 passes
pub names-kept : (f : List ℕ) → preface_row_lem f ≡ 0 → cut_off_lem (trailer f 1) (part_before_lem f) ≡ false
names-kept f e = unfold preface_row_lem in fit-21 (trailer f 1) (part_before_lem f) e

served-layout : (f : List ℕ) → file_row f ≡ 0 → Served f (layout_of f)
served-layout f e =
    let p = accepted-placed f e in
    let fit = names-kept f (accepted-rows f e).1 in
    record {
      row = e;
      layout = refl;
      long = p.long;
      bounds = omega (arith, p.fits);
      clauses = clauses-part f p.fits;
      counts = counts-part f p.fits;
      rule = refl;
      passing = accepted-passing f e;
      names-inside = names-room-at (trailer f 1) f (clauses_at f) (omega arith) fit;
      names = names_at (trailer f 1) f (clauses_at f) (omega arith) fit;
    }

-- what a caller knows of a file that was accepted
pub served : (f : List ℕ) (l : Layout) → read_of f ≡ Ok l → Served f l
served f l e = unfold read_of in
    let p = answer-served (file_rows_lem f) (layout_of f) l e in rw p.1 (served-layout f (unfold file_row in p.0))

pub served-letters : (f : List ℕ) (l : Layout) → read_of f ≡ Ok l → l.head.s ≤ 16
served-letters f l e = let s = served f l e in rw s.layout s.passing.formed.few_letters

-- how many bytes the names have
pub names-counted : (f : List ℕ) (l : Layout) → read_of f ≡ Ok l → l.names ≡ length (names_of f)
names-counted f l e = ap (λ (x : Layout). x.names) (served f l e).layout

-- no byte, or bytes that end two bytes before the first clause
module _ (f : List ℕ) (l : Layout) (e : read_of f ≡ Ok l) where
  pub names-none : l.names ≡ 0 → [] ≡ names_of f
  names-none z = let n = (served f l e).names in rw z at n

  pub names-there : 0 < l.names → take (l.at - 2 - (l.at - 2 - l.names)) (drop (l.at - 2 - l.names) f) ≡ names_of f
  names-there some =
      let s = served f l e in
      let n : l.at - 2 - (l.at - 2 - l.names) ≡ l.names = omega (arith, s.names-inside some) in
      ap (λ (k : ℕ). take k (drop (l.at - 2 - l.names) f)) n ∙ s.names

-- the rule of an accepted file, from the parts of it that were lent
module _ (f : List ℕ) (l : Layout) (e : read_of f ≡ Ok l) (counts clauses : List ℕ) (c : counts ≡ counts_of_lem f) (d : clauses ≡ clauses_of_lem f) where
  pub lent-rule : rule_of l.head counts clauses ≡ rule_in f
  lent-rule = rw (c, d) (served f l e).rule

  pub lent-passing : Passing (rule_of l.head counts clauses)
  lent-passing = rw lent-rule (served f l e).passing

-- what a caller knows of a file that was refused
pub turned-away : (f : List ℕ) (r : Refusal) → read_of f ≡ Err r → (first_refusal (file_rows_lem f) ≡ Err r) × (file_row f ≡ number_of r) × (file_row f ≡ 0 → ⊥)
unfolding read_of file_row
turned-away f r e =
    let p = answer-refuses (file_rows_lem f) (layout_of f) r e in (p, refused-row (file_rows_lem f) r p, refused-some (file_rows_lem f) r p)

pub preface-served : (f : List ℕ) (l : Layout) → read_of f ≡ Ok l → take l.at f ≡ preface_of f
preface-served f l e = let s = served f l e in rw s.layout (sym (preface-accepted f s.row))

no-preface : (k : ℕ) (part : List ℕ) → (k ≡ 0 → ⊥) → [] ≡ unrefused k part
unfolding unrefused
no-preface zero part n = absurd (n refl)
no-preface (suc k) part n = refl

pub preface-refused : (f : List ℕ) (r : Refusal) → read_of f ≡ Err r → [] ≡ preface_of f
preface-refused f r e = unfold preface_of in no-preface (file_row f) (take (clauses_at f) f) (turned-away f r e).2
