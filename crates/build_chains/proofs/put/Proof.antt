-- `build_chains::put` meets its contract.
use Prim.Native.Nat.{ℕ, ◌+◌, ◌*◌, ◌/◌, ◌%◌, ◌^◌, ◌<◌}
use mathlib.Core.Path.{◌≡◌, ap, ◌∙◌}
use native.Mathlib.Omega.{arith}
use native.Mathlib.Nat.{mod-eq_of_lt}
use lib.ListN.{get_or, set}
use lib.Bits.{bit_or, and_mask, or_shifted}
use borrow.Author.Rules.{rules}
use Rattle.build_spec.specs.Chains.{bucket_of}
use Rattle.build_spec.proofs.Chains.{bucket-low, head-low}
use Rattle.build_chains.proofs.put.Statement.{statement}
use Rattle.build_chains.proofs.put.Tie as tie

known : (c : tie.After-bucket-b) → c.bucket-b.result < 16384
known c = let start : tie.Start = search in rw c.bucket-b.ensures (bucket-low (start.args.key / 256))

head : (c : tie.After-keys-1) → let start : tie.Start = search in get_or start.args.heads.now c.before.bucket-b.result 0 < 65536
head c = let start : tie.Start = search in head-low start.requires.0 c.before.bucket-b.result (known (search))

returns : tie.Need-returns
returns c =
    let start : tie.Start = search in let a = start.args in let p = start.requires in let e = c.before.bucket-b.ensures in let h = get_or a.heads.now c.before.bucket-b.result 0 in
    let fits : h * 2 ^ 48 < 2 ^ 64 = omega (arith, head (search)) in
    let element : bit_or (h * 2 ^ 48 % 2 ^ 64) a.key ≡ get_or a.heads.now (bucket_of (a.key / 256)) 0 * 2 ^ 48 + a.key
    = ap (λ (x : ℕ). bit_or x a.key) (mod-eq_of_lt fits) ∙ or_shifted h 48 a.key p.2 ∙ ap (λ (b : ℕ). get_or a.heads.now b 0 * 2 ^ 48 + a.key) e in
    (ap (set a.keys.now a.n) element, ap (λ (b : ℕ). set a.heads.now b a.n) e, ap (λ (s : ℕ). set a.last.now s (a.n + 1)) (and_mask (a.key / 256) 8))

pub put_spec : {M : Type 1} → statement M
put_spec = tie.close (tie.spec
    (λ c κs. search rules) (λ c. omega (arith, known c)) (λ c. known (search)) (λ c. omega (arith, head c)) (λ c. search rules) (λ c. search rules)
    (λ c. let start : tie.Start = search in let p = start.requires in omega (arith, p.0.few)) (λ c. omega (arith, known (search))) (λ c. known (search))
    (λ c. let start : tie.Start = search in let p = start.requires in omega (arith, p.0.few))
    (λ c. let start : tie.Start = search in let p = start.requires in omega (arith, p.0.few))
    (λ c. let start : tie.Start = search in omega (arith, and_mask (start.args.key / 256) 8))
    (λ c. let start : tie.Start = search in omega (arith, and_mask (start.args.key / 256) 8)) (λ c. search rules) returns)
