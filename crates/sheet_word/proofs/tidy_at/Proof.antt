-- `sheet_word::tidy_at` meets its contract: the lengths of the tidy spelling say where it stands.
use Prim.Native.Nat.{◌+◌}
use mathlib.Core.List.{[]}
use native.Mathlib.Omega.{arith}
use lib.ListN.{length-take, length-drop}
use borrow.Author.Rules.{rules}
use Rattle.word_spelling_spec.proofs.Tidied.{cycle-max}
use Rattle.sheet_words.proofs.Places.{SoundAt, sound-at}
use Rattle.sheet_word.proofs.Serve.{tidy-there}
use Rattle.sheet_word.proofs.tidy_at.Statement.{statement}
use Rattle.sheet_word.proofs.tidy_at.Tie as tie

-- the word is all there
sound : (c : tie.Start) → SoundAt c.args.sheet.now c.args.at c.requires.1.0
sound c = sound-at c.args.sheet.now c.args.at c.requires.1.0 c.requires.0 c.requires.1.1

lead-length-requires : tie.Need-lead_length-m-requires
lead-length-requires c κs = let s = sound (search) in let at-cycle-length : tie.After-cycle_length-p = search in (
  simp (length-take, length-drop) (omega (arith, s)),
  rw at-cycle-length.cycle_length-p.ensures (cycle-max [] _ (simp (length-take, length-drop) (omega (arith, s)))),
  simp (length-take, length-drop) (omega (arith, s)),
)

returns : tie.Need-returns
returns c = let at-cycle-length : tie.After-cycle_length-p = search in tidy-there (sound (search)) at-cycle-length.cycle_length-p.ensures c.lead_length-m.ensures

pub tidy_at_spec : {M : Type 1} → statement M
tidy_at_spec = tie.close (tie.spec
    (λ c. search rules) (λ c. search rules) (λ c. let start : tie.Start = search in omega (arith, c.shared_slice_known-2-1.given start.args.at))
    (λ c. omega (arith, sound (search))) (λ c. search rules) (λ c. (sound (search)).two)
    (λ c. let start : tie.Start = search in omega (arith, c.shared_slice_known-3-1.given (start.args.at + 1)))
    (λ c. omega (arith, sound (search))) (λ c. omega arith) (λ c. omega arith) (λ c. omega (arith, sound (search)))
    (λ c κs. simp (length-take, length-drop) (omega (arith, sound (search)))) (λ c. omega arith) (λ c. omega arith)
    (λ c. omega (arith, sound (search))) (λ c. omega arith) (λ c. omega arith)
    (λ c. omega (arith, sound (search))) lead-length-requires (λ c. omega (arith, (returns c).within)) (λ c. omega arith) returns)
