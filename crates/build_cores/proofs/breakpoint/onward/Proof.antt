-- `build_cores::breakpoint::onward` meets its contract.
use Prim.Native.Nat.{ℕ, ◌+◌, ◌*◌, ◌/◌, ◌%◌, ◌^◌, ◌<◌}
use mathlib.Core.Path.{◌≡◌, ap, ap₂, sym, ◌∙◌}
use native.Mathlib.Omega.{arith}
use lib.ListN.{get_or}
use lib.Bits.{bit_and, bit_or, and_mask}
use Rattle.build_cores.specs.Used.{class_count_lem}
use Rattle.build_cores.specs.Onward.{next_in}
use Rattle.build_cores.proofs.Pairs.{pair_put, next-lt, class-count-low, onward-turn, onward-stay}
use borrow.Author.Rules.{rules}
use Rattle.build_cores.proofs.breakpoint.onward.Statement.{statement}
use Rattle.build_cores.proofs.breakpoint.onward.Tie as tie

-- the component that follows
next : (c : tie.After-next_component-d) → let start : tie.Start = search in
    c.next_component-d.result ≡ next_in start.args.components (start.args.pair % 16)
next c =
    let start : tie.Start = search in let a = start.args in let found : c.next_component-d.result ≡ next_in a.components (bit_and a.pair 15) = c.next_component-d.ensures in
    found ∙ ap (next_in a.components) (and_mask a.pair 4)

next_low : (c : tie.After-next_component-d) → c.next_component-d.result < 8
next_low c = let start : tie.Start = search in let a = start.args in let p = start.requires in omega (arith, next c, next-lt a.components (a.pair % 16) p.1, p.2)

element-copy-out-class-count : tie.Need-bounds-parts-d
element-copy-out-class-count c = let start : tie.Start = search in omega (arith, next_low (search), start.requires, and_mask start.args.pair 4)

returns : tie.Need-returns-then-k-eq0
returns c =
    let start : tie.Start = search in let a = start.args in let at-next-component : tie.After-next_component-d = search in let d = at-next-component.next_component-d.result in
    let e = next (search) in let fact : c.class_count.result ≡ class_count_lem a.ranks (get_or a.parts.now d 0) = c.class_count.ensures in
    let put : bit_or d (c.class_count.result * 2 ^ 4 % 2 ^ 64) ≡ d + 16 * c.class_count.result =
    pair_put d c.class_count.result (omega (arith, next_low (search))) (omega (arith, fact, class-count-low a.ranks (get_or a.parts.now d 0))) in
    let then1 : tie.Then-k-eq0 = search in put
    ∙ sym (onward-turn a.ranks a.parts.now a.components a.levels.now a.pair then1.if-k-eq0.true
    ∙ ap₂ (λ (x y : ℕ). x + 16 * y) (sym e) (ap (λ (x : ℕ). class_count_lem a.ranks (get_or a.parts.now x 0)) (sym e) ∙ sym fact))

returns-2 : tie.Need-returns
returns-2 c =
    let start : tie.Start = search in let a = start.args in let low = and_mask a.pair 4 in let level = get_or a.levels.now (bit_and a.pair 15) 0 / 2 ^ (4 * (a.pair / 16)) in
    let put : bit_or (bit_and a.pair 15) (bit_and level 15 * 2 ^ 4 % 2 ^ 64) ≡ bit_and a.pair 15 + 16 * bit_and level 15 =
    pair_put (bit_and a.pair 15) (bit_and level 15) (omega (arith, low)) (omega (arith, and_mask level 4)) in put
    ∙ ap (λ (x : ℕ). bit_and a.pair 15 + 16 * x) (and_mask level 4)
    ∙ ap (λ (x : ℕ). x + 16 * (get_or a.levels.now x 0 / 2 ^ (4 * (a.pair / 16)) % 16)) low
    ∙ sym (onward-stay a.ranks a.parts.now a.components a.levels.now a.pair c.before.if-k-eq0.false)

pub onward_spec : {M : Type 1} → statement M
onward_spec = tie.close (tie.spec
    (λ c. search rules) (λ c κs. omega (arith, c.before.requires, and_mask c.before.args.pair 4)) element-copy-out-class-count
    (λ c κs. search rules) (λ c. search rules) returns (λ c. omega (arith, and_mask c.before.args.pair 4))
    (λ c. omega (arith, c.before.requires, and_mask c.before.args.pair 4)) (λ c. search rules) (λ c. search rules) (λ c. search rules) returns-2)
