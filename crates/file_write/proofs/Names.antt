-- Names at the start of a slice, then the rest of the file; and how long names are that no row refuses.
use Prim.Native.Nat.{ℕ, ◌+◌, ◌≤◌}
use mathlib.Core.Path.{◌≡◌, refl, ap, sym, ◌∙◌}
use mathlib.Core.Logic.{⊎_elim}
use mathlib.Core.List.{List, [], ◌∷◌, ◌++◌}
use native.Mathlib.Omega.{arith}
use native.Mathlib.Nat.{zero-add}
use lib.ListN.{length}
use lib.Seq.{paste, paste-zero}
use Rattle.std.specs.Prelude.{Ok}
use Rattle.refusals.specs.Rows.{first_refusal}
use Rattle.refusals.proofs.Rows.{row-passes}
use Rattle.file_spec.specs.Names.{names_tag, preface_from}
use Rattle.file_spec.specs.Rows.{given_rows}
use Rattle.file_spec.proofs.Names.{given-whole}
use Rattle.file_write_spec.specs.Written.{after}
use Rattle.file_write_spec.proofs.Laws.{paste-two, paste-start}

pub fill_none : (d names : List ℕ) → length names ≡ 0 → d ≡ paste d 0 (preface_from names) (length (preface_from names))
unfolding preface_from
fill_none d [] e = paste-zero d 0 []
fill_none d (x ∷ xs) e = absurd (omega arith)

pub fill-some : (d names : List ℕ) → (length names ≡ 0 → ⊥) → length names + 2 ≤ length d
    → paste (paste d 0 names (length names)) (length names) names_tag (length names_tag) ≡ paste d 0 (preface_from names) (length (preface_from names))
unfolding preface_from
fill-some d [] n l = absurd (n refl)
fill-some d (x ∷ xs) n l =
    ap (λ (k : ℕ). paste (paste d 0 (x ∷ xs) (length (x ∷ xs))) k names_tag (length names_tag)) (sym (zero-add (length (x ∷ xs))))
    ∙ paste-two d 0 (x ∷ xs) names_tag (omega arith)

-- a part at the start of a slice, and another after it
pub fill-both : (d p f : List ℕ) (at : ℕ) → at ≡ length p → at + length f ≤ length d → paste (paste d 0 p (length p)) at f (length f) ≡ after 0 (p ++ f) d
fill-both d p f at e l =
    ap (λ (k : ℕ). paste (paste d 0 p (length p)) k f (length f)) (e ∙ sym (zero-add (length p))) ∙ paste-two d 0 p f (omega arith)
    ∙ paste-start d (p ++ f)

-- ---- lengths

pub names-few : (s : ℕ) (names : List ℕ) → s ≤ 16 → first_refusal (given_rows s names) ≡ Ok tt → length names ≤ 128
names-few s names l e = ⊎_elim (λ z. omega arith) (λ z. omega arith) (given-whole s names (row-passes (given_rows s names) e))
