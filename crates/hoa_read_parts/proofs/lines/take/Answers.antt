-- `take` meets its contract: the test compares with the bytes that stand there.
use Rattle.std.proofs.Common.{◌≡◌, ◌∙◌, ◌-◌, ◌++◌, Bool, true, List, ℕ, length, take, drop, refl, ap, length-append, length-drop, arith}
use Rattle.std.proofs.lemmas.Bool.Decides.{Decides-eqb}
use Rattle.std.proofs.lemmas.Slice.Eq.{starts_is}
use Rattle.std.specs.List.{starts_with}
use lib.Dec.{eqb}
use lib.Seq.{drop-drop, take_all}
use Rattle.hoa_laws.proofs.Taking.{took-none, took-some}
use Rattle.hoa_read_parts.proofs.lines.take.Goals as goal

-- what the test says
begins : (text s : List ℕ) (p : ℕ) (r : Bool) → r ≡ starts_with eqb (take (length text - p) (drop p text)) s
    → (r ≡ true → drop p text ≡ s ++ drop (length s) (drop p text)) × ((rest : List ℕ) → drop p text ≡ s ++ rest → r ≡ true)
begins text s p r e =
    let all : take (length text - p) (drop p text) ≡ drop p text = take_all (length text - p) (drop p text) (omega (arith, length-drop p text)) in
    starts_is Decides-eqb (drop p text) s r (rw all at e)

pub returns-then-not-starts_with : goal.returns-then-not-starts_with
returns-then-not-starts_with c =
    let b = begins c.args.text.now c.args.s.now c.args.p c.starts_with.result c.starts_with.ensures.value in
    took-none refl (λ rest e. let yes = b.1 rest e in let no = c.if-not-starts_with.true in cc)

pub returns : goal.returns
returns c =
    let text = c.args.text.now in let p = c.args.p in let s = c.args.s.now in
    let b = begins text s p c.starts_with.result c.starts_with.ensures.value in let e = b.0 c.if-not-starts_with.false in
    let room = length-append s (drop (length s) (drop p text)) in
    (omega arith, took-some (omega arith) (omega (arith, room, ap length e, length-drop p text)) (e ∙ ap (λ (d : List ℕ). s ++ d) (drop-drop (length s) p text)))
