-- `hoa_text::lengths::text_length` meets its contract: its parts are added up.
use Prim.Native.Nat.{ℕ, ◌*◌, ◌/◌, ◌≤◌, ◌<◌}
use mathlib.Core.Path.{ap}
use mathlib.Core.List.{List, Memᴰ}
use native.Mathlib.Omega.{arith}
use borrow.Author.Rules.{rules}
use lib.ListN.{length}
use Rattle.theory.specs.Run.{source_of}
use Rattle.listing_lines_spec.specs.Lines.{initial_at}
use Rattle.table_lent.specs.Lent.{words_in}
use Rattle.table_lent.proofs.Reading.{words-in-length}
use Rattle.hoa_spec.specs.Text.{flags_of}
use Rattle.hoa_laws.proofs.Flags.{flags-length}
use Rattle.hoa_laws.proofs.Lengths.{word-short, states-length, ap-length}
use Rattle.hoa_laws.proofs.Bound.{text-length, starts-bound, states-bound, edges-bound}
use Rattle.hoa_text.proofs.Parts.{states-is}
use Rattle.hoa_text.proofs.lengths.text_length.Statement.{statement}
use Rattle.hoa_text.proofs.lengths.text_length.Tie as tie

-- there are few macrostates
few : (codes : List ℕ) → length (words_in codes) ≤ 65536 → length codes / 8 ≤ 65536
few codes h = omega (arith, words-in-length codes)

put-states-requires : tie.Need-put_states-states-requires
put-states-requires c κs =
    let start : tie.Start = search in let n = length start.args.codes.now / 8 in omega (arith, states-length n, word-short n (few start.args.codes.now start.requires.2))

put-ap-requires : tie.Need-put_ap-propositions-requires
put-ap-requires c κs = let start : tie.Start = search in (
  start.requires.0,
  omega (arith, ap-length start.args.b start.requires.0),
)

abbrev start-of-after-edges-length : tie.After-edges_length-edges → tie.Start
start-of-after-edges-length c = search

-- every transition comes from a macrostate
from : (c : tie.After-edges_length-edges) → let a = (start-of-after-edges-length c).args in (t : ℕ) → Memᴰ t (words_in a.moves.now) →
    source_of t < length (flags_of (initial_at a.initial) (words_in a.codes.now))
from c t m = let a = (start-of-after-edges-length c).args in omega (arith, (start-of-after-edges-length c).requires.4 t m, flags-length (initial_at a.initial) (words_in a.codes.now))

-- no part is long
bounds : (c : tie.After-edges_length-edges) → let at-put-states : tie.After-put_states-states = search in let at-put-ap : tie.After-put_ap-propositions = search in
    (at-put-states.put_states-states.result ≤ 14) × (at-put-ap.put_ap-propositions.result ≤ 26)
    × (c.before.macrostates_length-macrostates.result ≤ 30 * 65536) × (c.edges_length-edges.result ≤ 20 * 1099511627776)
bounds c = let start : tie.Start = search in let a = start.args in let p = start.requires in let n = length a.codes.now / 8 in
    let flags = flags_of (initial_at a.initial) (words_in a.codes.now) in let ts = words_in a.moves.now in
    let count : length flags ≤ 65536 = omega (arith, p.2, flags-length (initial_at a.initial) (words_in a.codes.now)) in let at-put-states : tie.After-put_states-states = search in
    let at-put-ap : tie.After-put_ap-propositions = search in (
      omega (arith, at-put-states.put_states-states.ensures.ends, states-length n, word-short n (few a.codes.now p.2)),
      omega (arith, at-put-ap.put_ap-propositions.ensures.ends, ap-length a.b p.0, p.0),
      omega (arith, c.before.macrostates_length-macrostates.ensures, starts-bound a.b flags ts p.0 count (from c), states-bound a.b flags ts p.0 count (from c), count),
      omega (arith, c.edges_length-edges.ensures, edges-bound a.b flags ts p.0 count (from c), p.3),
    )

returns : tie.Need-returns
returns c =
    let start : tie.Start = search in let a = start.args in let initial = initial_at a.initial in let flags = flags_of initial (words_in a.codes.now) in
    let at-put-states : tie.After-put_states-states = search in let at-put-ap : tie.After-put_ap-propositions = search in omega (
      arith,
      text-length a.b flags (words_in a.moves.now) (from c),
      ap length (states-is initial a.codes.now),
      at-put-states.put_states-states.ensures.ends,
      at-put-ap.put_ap-propositions.ensures.ends,
      c.before.macrostates_length-macrostates.ensures,
      c.edges_length-edges.ensures,
    )

pub text_length_spec : {M : Type 1} → statement M
text_length_spec = tie.close (tie.spec
    (λ c. search rules) put-states-requires (λ c. search rules) put-ap-requires (λ c κs. let start : tie.Start = search in (start.requires.1, start.requires.2))
    (λ c κs. let start : tie.Start = search in (start.requires.0, start.requires.3)) (λ c. omega (arith, (bounds c).0, (bounds c).1))
    (λ c. omega (arith, (bounds c).0, (bounds c).1, (bounds c).2)) (λ c. omega (arith, (bounds c).0, (bounds c).1, (bounds c).2, (bounds c).3))
    (λ c. omega (arith, (bounds c).0, (bounds c).1, (bounds c).2, (bounds c).3)) returns)
