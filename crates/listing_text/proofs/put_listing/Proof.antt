-- `listing_text::put_listing` meets its contract: `long`, a refusal or the table, by the length of the file and the answer of the build.
use Prim.Native.Nat.{ℕ, ◌≤◌, ◌<◌}
use mathlib.Core.Path.{◌≡◌, refl, sym, ◌∙◌, ap}
use native.Mathlib.Omega.{arith}
use borrow.Author.Rules.{rules}
use mathlib.Core.List.{List}
use lib.ListN.{length, take}
use lib.Seq.{length-take-le}
use Rattle.std.specs.Prelude.{Ok}
use Rattle.refusals.specs.Rows.{number_of}
use Rattle.build.specs.Built.{built_of, codes_after_lem, transitions_after_lem}
use Rattle.listing_lines_spec.specs.Lines.{initial_at, refused_line, table_text}
use Rattle.listing_spec.specs.Computed.{listing_of}
use Rattle.listing_spec.proofs.Listed.{long-text, refused-text, codes-fit, moves-fit, table-text}
use Rattle.slice_text.proofs.Puts.{put_as}
use Rattle.listing_text.proofs.put_listing.Statement.{statement}
use Rattle.listing_text.proofs.put_listing.Tie as tie

-- over 4,096 bytes
over : (c : tie.Then-file-gt4096) → let start : tie.Start = search in 4096 < length start.args.file.now
over c = omega (arith, c.if-file-gt4096.true)

put-requires : tie.Need-put-requires
put-requires c κs = let start : tie.Start = search in omega (arith, start.requires, ap length (long-text start.args.file.now (over (search))))

returns : tie.Need-returns-then-file-gt4096
returns c = let start : tie.Start = search in let at-put : tie.After-put = search in put_as (long-text start.args.file.now (over (search))) at-put.put.ensures

-- the answer of the build in rooms of 512 and 4,096
answer : (c : tie.After-build) → let start : tie.Start = search in c.build.result ≡ built_of start.args.file.now 512 4096
answer c = c.build.ensures.answer

abbrev start-of-after-row : tie.In-Err → tie.Start
start-of-after-row c = search

-- the text of a refusal
refusal : (c : tie.In-Err) → listing_of (start-of-after-row c).args.file.now ≡ refused_line (number_of c.in-Err.refusal)
refusal c = let else1 : tie.Else-file-gt4096 = search in let start : tie.Start = search in
    refused-text start.args.file.now else1.if-file-gt4096.false c.in-Err.refusal (sym (answer (search)) ∙ c.in-Err.is)

abbrev refused-of-after-number : tie.After-row → tie.In-Err
refused-of-after-number c = search

abbrev start-of-after-number : tie.After-row → tie.Start
start-of-after-number c = start-of-after-row (refused-of-after-number c)

-- the same by the number of the row
refused : (c : tie.After-row) → listing_of (start-of-after-number c).args.file.now ≡ refused_line c.row.result
refused c = refusal (refused-of-after-number c) ∙ ap refused_line (sym c.row.ensures)

put-refused-requires : tie.Need-put_refused-requires
put-refused-requires c κs = let start : tie.Start = search in omega (arith, start.requires, ap length (refused (search)))

abbrev start-of-after-counts : tie.In-Ok → tie.Start
start-of-after-counts c = search

-- a table was built
built : (c : tie.In-Ok) → built_of (start-of-after-counts c).args.file.now 512 4096 ≡ Ok c.in-Ok.counts
built c = sym (answer (search)) ∙ c.in-Ok.is

codes_held : (c : tie.In-Ok) → let at-build : tie.After-build = search in
    c.in-Ok.counts.macrostates ≤ length at-build.build.new.codes
codes_held c = let else1 : tie.Else-file-gt4096 = search in let start : tie.Start = search in let at-build : tie.After-build = search in
    codes-fit start.args.file.now else1.if-file-gt4096.false c.in-Ok.counts (built c)
    _ _ refl at-build.build.ensures.codes_after

moves_held : (c : tie.In-Ok) → (zs ws : List ℕ) → length zs ≡ 4096 → ws ≡ transitions_after_lem (start-of-after-counts c).args.file.now 512 zs
    → c.in-Ok.counts.transitions ≤ length ws
moves_held c = let else1 : tie.Else-file-gt4096 = search in moves-fit (start-of-after-counts c).args.file.now else1.if-file-gt4096.false c.in-Ok.counts (built c)

abbrev start-of-after-names-in : tie.After-names_in → tie.Start
start-of-after-names-in c = search

-- the text of the table
table : (c : tie.After-names_in) → let at-counts : tie.In-Ok = search in let n = at-counts.in-Ok.counts in let f = (start-of-after-names-in c).args.file.now in
    (xs ys zs ws : List ℕ) → length xs ≡ 512 → ys ≡ codes_after_lem f xs 4096 → length zs ≡ 4096 → ws ≡ transitions_after_lem f 512 zs
    → listing_of f ≡ table_text (initial_at c.before.initial_of.result) c.names_in.result.now (take n.macrostates ys) (take n.transitions ws)
table c xs ys zs ws l e k v =
    let at-counts : tie.In-Ok = search in let else1 : tie.Else-file-gt4096 = search in
    table-text (start-of-after-names-in c).args.file.now else1.if-file-gt4096.false at-counts.in-Ok.counts (built (search)) xs ys zs ws l e k v
    c.before.initial_of.result c.before.initial_of.ensures.1 c.names_in.result.now c.names_in.ensures

put-table-requires : tie.Need-put_table-requires
put-table-requires c κs =
    let start : tie.Start = search in let at-initial-of : tie.After-initial_of = search in let at-build : tie.After-build = search in let B = at-build.build.ensures in
    (at-initial-of.initial_of.ensures.0, omega (arith, start.requires, ap length (table (search) _ _ _ _ refl B.codes_after refl B.moves_after)))

returns-2 : tie.Need-returns-in-Err
returns-2 c = let at-put-refused : tie.After-put_refused = search in put_as (refused (search)) at-put-refused.put_refused.ensures

returns-3 : tie.Need-returns-in-Ok
returns-3 c = let at-put-table : tie.After-put_table = search in let at-build : tie.After-build = search in let B = at-build.build.ensures in
    put_as (table (search) _ _ _ _ refl B.codes_after refl B.moves_after) at-put-table.put_table.ensures

pub put_listing_spec : {M : Type 1} → statement M
put_listing_spec = tie.close (tie.spec
    put-requires (λ c. search rules) returns (λ c. search rules) (λ c. search rules) (λ c κs. search rules) (λ c. search rules) (λ c κs. search rules) put-refused-requires
    (λ c. search rules) (λ c κs. search rules) (λ c κs. search rules) (λ c. codes_held (search)) (λ c. sym (length-take-le _ _ (codes_held (search))))
    (λ c. let at-build : tie.After-build = search in moves_held (search) _ _ refl at-build.build.ensures.moves_after)
    (λ c. let at-build : tie.After-build = search in sym (length-take-le _ _ (moves_held (search) _ _ refl at-build.build.ensures.moves_after)))
    put-table-requires (λ c. search rules) returns-2 (λ c. search rules) returns-3)
