-- The number that the report's answer tells is its first value.
use mathlib.Core.Path.{◌≡◌, refl, sym, ◌∙◌, ap}
use mathlib.Core.List.{List}
use Prim.Native.Nat.{ℕ}
use lib.ListN.{take}
use Rattle.theory.specs.Rule.{Rule}
use Rattle.loop_spec.specs.Loops.{Reported}
use Rattle.std.specs.Prelude.{Result, Ok, Err, Option, Some, None}
use Rattle.refusals.specs.declared.Refusal.{Refusal}
use Rattle.loop_spec.specs.Reported.{told}
use Rattle.mulgreddi_answers.specs.declared.Answer.{Answer}
use Rattle.mulgreddi_answers.specs.Answers.{loop_answer}

first-told : (a : Result (Option ℕ) Refusal) → told a ≡ (loop_answer a).first
unfolding told loop_answer
first-told (Ok (Some count)) = refl
first-told (Ok None) = refl
first-told (Err refusal) = refl

pub reported-first : (r : Rule) (a b : Result (Option ℕ) Refusal) (v : Answer) (out : List ℕ) → a ≡ b → v ≡ loop_answer b → Reported r (take (told a) out) → Reported r (take v.first out)
reported-first r a b v out e f h =
    let k : told a ≡ v.first = first-told a ∙ ap (λ (x : Result (Option ℕ) Refusal). (loop_answer x).first) e ∙ ap (λ (x : Answer). x.first) (sym f) in
    rw k at h
