-- `listing_text::lines::put_macrostate` meets its contract: its words one after the other.
use mathlib.Core.Path.{◌≡◌}
use mathlib.Core.List.{List, [], ◌∷◌}
use Prim.Native.Nat.{ℕ}
use native.Mathlib.Omega.{arith}
use borrow.Author.Rules.{rules}
use Rattle.slice_text.proofs.Puts.{put_as, put_then}
use Rattle.listing_lines_spec.specs.Lines.{m_line}
use Rattle.listing_lines_spec.proofs.Lengths.{m-length}
use Rattle.listing_text.proofs.lines.put_macrostate.Statement.{statement}
use Rattle.listing_text.proofs.lines.put_macrostate.Tie as tie

put-byte-requires : tie.Need-put_byte-a-requires
put-byte-requires c κs = let start : tie.Start = search in let a = start.args in omega (arith, m-length a.number a.code a.initial a.accepting)

put-word-requires : tie.Need-put_word-b-requires
put-word-requires c κs = let start : tie.Start = search in let a = start.args in omega (arith, m-length a.number a.code a.initial a.accepting)

put-word-requires-2 : tie.Need-put_word-c-requires
put-word-requires-2 c κs = let start : tie.Start = search in let a = start.args in omega (arith, m-length a.number a.code a.initial a.accepting)

put-requires : tie.Need-put-requires
put-requires c κs = let start : tie.Start = search in let a = start.args in omega (arith, m-length a.number a.code a.initial a.accepting)

-- both marks and the newline
marks : (x y i a : ℕ) → x ≡ i → y ≡ a → ◌≡◌ {A = List ℕ} (32 ∷ i ∷ 32 ∷ a ∷ 10 ∷ []) (32 ∷ x ∷ 32 ∷ y ∷ 10 ∷ [])
marks x y i a e f = cc

returns : tie.Need-returns
unfolding m_line
returns c =
    let at-put-word2 : tie.After-put_word-c = search in let at-put-word : tie.After-put_word-b = search in let at-put-byte : tie.After-put_byte-a = search in
    let at-sign-of : tie.After-sign_of = search in let at-sign-of2 : tie.After-sign_of-2 = search in let at-put : tie.After-put = search in
    put_then at-put-byte.put_byte-a.ensures (put_then at-put-word.put_word-b.ensures (put_then at-put-word2.put_word-c.ensures
    (put_as (marks _ _ _ _ at-sign-of.sign_of.ensures at-sign-of2.sign_of-2.ensures) at-put.put.ensures)))

pub put_macrostate_spec : {M : Type 1} → statement M
put_macrostate_spec = tie.close (tie.spec
    put-byte-requires put-word-requires put-word-requires-2 (λ c κs. search rules) (λ c κs. search rules) (λ c. search rules) put-requires (λ c. search rules)
    returns)
