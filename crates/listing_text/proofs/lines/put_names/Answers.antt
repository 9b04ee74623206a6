-- `put_names` meets its contract: there is a letter for each 8 bytes, and its name is those 8.
use Rattle.std.proofs.Common.{◌≡◌, ℕ, ◌+◌, ◌-◌, ◌*◌, ◌/◌, List, length, take, drop, ap, arith}
use Rattle.sets.proofs.Lists.{length-tabulate}
use Rattle.listing_lines_spec.specs.Lines.{n_line, letters_of, name_line}
use Rattle.listing_lines_spec.proofs.Lines.{room-line, put-line, put-no-lines, put-lines}
use Rattle.listing_text.proofs.lines.put_names.Goals as goal

-- the letters, counted
count : (names : List ℕ) → length (letters_of names) ≡ length names / 8
count names = length-tabulate (length names / 8) (λ a. a) 0

-- the line that is written
line : (names : List ℕ) (i : ℕ) → n_line i (take (8 * i + 8 - 8 * i) (drop (8 * i) names)) ≡ n_line i (take 8 (drop (8 * i) names))
line names i = let e : 8 * i + 8 - 8 * i ≡ 8 = omega arith in ap (λ (k : ℕ). n_line i (take k (drop (8 * i) names))) e

pub loop-i-init : goal.loop-i-init
loop-i-init c = put-no-lines (name_line c.args.names.now) (letters_of c.args.names.now) c.args.out.now c.args.at c.requires

pub put_name-end-requires : goal.put_name-end-requires
put_name-end-requires c = let names = c.args.names.now in
    room-line (name_line names) (letters_of names) c.loop-i.i (omega (arith, count names)) c.loop-i.invariant _ (line names c.loop-i.i) c.requires

pub loop-i-preserved : goal.loop-i-preserved
loop-i-preserved c = let names = c.args.names.now in
    put-line (name_line names) (letters_of names) c.loop-i.i (omega (arith, count names)) c.loop-i.invariant _ (line names c.loop-i.i) c.put_name-end.ensures

pub returns : goal.returns
returns c = let names = c.args.names.now in put-lines (name_line names) (letters_of names) c.loop-i.i (omega (arith, count names)) c.loop-i.invariant
