-- The listing by the answer of the build, and the lists that the rooms then hold.
use mathlib.Core.Path.{◌≡◌, sym, ◌∙◌, ap, ap₂}
use mathlib.Core.List.{List, ◌++◌}
use Prim.Native.Nat.{ℕ, ◌-◌, ◌≤◌, ◌<◌}
use native.Mathlib.Omega.{arith}
use borrow.Author.Tests.{lt-ltb, le-ltb, ltb-false}
use lib.Dec.{ltb}
use lib.ListN.{length, take, replicate, length-append}
use lib.Seq.{take-append_seam}
use Rattle.theory.specs.Macrostate.{is_initial_lem}
use Rattle.theory.specs.TableComputed.{macrostates, transitions}
use Rattle.file_spec.specs.File.{names_of, rule_in, named_in}
use Rattle.file_spec.specs.Rows.{file_row, file_rows_lem}
use Rattle.refusals.proofs.Rows.{first-parts, first-pass}
use Rattle.file_read.proofs.FileRows.{file-numbered}
use Rattle.build.specs.declared.Counts.{Counts}
use Rattle.std.specs.Prelude.{Ok, Err}
use Rattle.refusals.specs.declared.Refusal.{Refusal}
use Rattle.refusals.specs.Rows.{number_of}
use Rattle.build_lists.specs.Room.{room_of_lem}
use Rattle.build.specs.Built.{room_rows, room_after, slice_after, row_from, built_from, codes_after_from, transitions_after_from, build_row, built_of, codes_after_lem, transitions_after_lem}
use Rattle.build.proofs.Answer.{table-by}
use Rattle.listing_lines_spec.specs.Lines.{initial_at, refused_line, long_line, table_text}
use Rattle.listing_spec.specs.Computed.{answer_text, listing_of}

-- a slice that holds a list at its start
front : (row : ℕ) (list lent new : List ℕ) (m : ℕ) → row ≡ 0 → m ≡ length list → new ≡ slice_after row list lent → (m ≤ length new) × (take m new ≡ list)
unfolding room_after
front row list lent new m z e w =
    let is : new ≡ list ++ replicate (length lent - length list) 0 = w ∙ ap (λ (k : ℕ). slice_after k list lent) z in (
      omega (arith, ap length is, length-append list (replicate (length lent - length list) 0)),
      ap₂ (λ (k : ℕ) (l : List ℕ). take k l) e is ∙ take-append_seam list (replicate (length lent - length list) 0),
    )

module _ (f : List ℕ) where
  -- over 4,096 bytes
  pub long-text : 4096 < length f → listing_of f ≡ long_line
  unfolding listing_of
  long-text h = rw (lt-ltb 4096 (length f) h)

  -- no row refuses
  pub both-rows : build_row f 512 4096 ≡ 0 → (file_row f ≡ 0) × (length (macrostates (rule_in f)) ≤ 512) × (length (transitions (rule_in f)) ≤ 4096)
  unfolding row_from file_row room_rows room_of_lem
  both-rows e =
      let r = first-parts (file_rows_lem f) _ (file-numbered f) e in
      let c = first-pass (ltb 512 (length (macrostates (rule_in f)))) _ _ r.1 in
      let t = first-pass (ltb 4096 (length (transitions (rule_in f)))) _ _ c.1 in
      (r.0, ltb-false 512 (length (macrostates (rule_in f))) c.0, ltb-false 4096 (length (transitions (rule_in f))) t.0)

  module _ (short : length f ≤ 4096) where
    pub short-text : listing_of f ≡ answer_text (built_of f 512 4096) (named_in f)
    unfolding listing_of
    short-text = rw (le-ltb 4096 (length f) short)

    -- a refusal
    pub refused-text : (r : Refusal) → built_of f 512 4096 ≡ Err r → listing_of f ≡ refused_line (number_of r)
    unfolding answer_text
    refused-text r e = short-text ∙ rw e

    -- a table
    module _ (n : Counts) (e : built_of f 512 4096 ≡ Ok n) where
      pub built-text : listing_of f ≡ table_text (is_initial_lem (rule_in f)) (names_of f) (macrostates (rule_in f)) (transitions (rule_in f))
      unfolding answer_text
      built-text = short-text ∙ rw e

      counted : (build_row f 512 4096 ≡ 0) × (n.macrostates ≡ length (macrostates (rule_in f))) × (n.transitions ≡ length (transitions (rule_in f)))
      unfolding built_from
      counted = table-by (build_row f 512 4096) (macrostates (rule_in f)) (transitions (rule_in f)) n (sym e)

      pub accepted : file_row f ≡ 0
      accepted = (both-rows counted.0).0

      -- the room of codes, xs, is now ys
      module _ (xs ys : List ℕ) (l : length xs ≡ 512) (w : ys ≡ codes_after_lem f xs 4096) where
        held-codes : (n.macrostates ≤ length ys) × (take n.macrostates ys ≡ macrostates (rule_in f))
        unfolding codes_after_from
        held-codes = front (build_row f (length xs) 4096) (macrostates (rule_in f)) xs ys n.macrostates (rw l counted.0) counted.1 w

        pub codes-fit : n.macrostates ≤ length ys
        codes-fit = held-codes.0

      -- the room of transitions, zs, is now ws
      module _ (zs ws : List ℕ) (l : length zs ≡ 4096) (w : ws ≡ transitions_after_lem f 512 zs) where
        held-moves : (n.transitions ≤ length ws) × (take n.transitions ws ≡ transitions (rule_in f))
        unfolding transitions_after_from
        held-moves = front (build_row f 512 (length zs)) (transitions (rule_in f)) zs ws n.transitions (rw l counted.0) counted.2 w

        pub moves-fit : n.transitions ≤ length ws
        moves-fit = held-moves.0

      -- the text of what the rooms hold
      module _ (xs ys zs ws : List ℕ) (l : length xs ≡ 512) (w : ys ≡ codes_after_lem f xs 4096) (k : length zs ≡ 4096) (v : ws ≡ transitions_after_lem f 512 zs) where
        pub table-text : (initial : ℕ) → (file_row f ≡ 0 → initial ≡ (rule_in f).initial) → (names : List ℕ) → (file_row f ≡ 0 → names ≡ names_of f)
            → listing_of f ≡ table_text (initial_at initial) names (take n.macrostates ys) (take n.transitions ws)
        table-text initial i names j = built-text ∙ rw (i accepted, j accepted, (held-codes xs ys l w).1, (held-moves zs ws k v).1)
