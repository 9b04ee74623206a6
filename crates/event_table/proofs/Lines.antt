-- The lines of an event table: the first that holds an event, and what row 26 lets through.
use mathlib.Core.Path.{◌≡◌}
use mathlib.Core.Logic.{◌↔◌}
use mathlib.Core.Bool.{true, false}
use mathlib.Core.List.{List}
use Prim.Native.Nat.{ℕ, ◌+◌, ◌*◌, ◌≤◌, ◌<◌}
use native.Mathlib.Omega.{arith}
use lib.ListN.{get_or}
use Rattle.sets.specs.Tests.{some_below, first}
use Rattle.sets.proofs.Bools.{bif, clash, and_l, and_r, and_i}
use Rattle.sets.proofs.Tests.{some-no}
use Rattle.event_spec.specs.Events.{between, line_count, line_byte, spans, holds, first_line, covered}
use Rattle.event_spec.specs.Translation.{has_covered_lem}
use Rattle.event_table.proofs.Ranges.{within-out, within_in, between-at, between-not, first-is, none_before, first_found}

module _ (t : List ℕ) where
  -- a pair that line j holds lies in its four bounds
  pub record Bounds (kind drive j : ℕ) : Type 0 where
    pub kind-low : line_byte t j 0 ≤ kind
    pub kind-high : kind ≤ line_byte t j 1
    pub drive-low : line_byte t j 2 ≤ drive
    pub drive-high : drive ≤ line_byte t j 3

  pub bounds_of : (kind drive j : ℕ) → holds t kind drive j ≡ true → Bounds kind drive j
  unfolding holds spans
  bounds_of x y j e =
      let k = within-out (line_byte t j 0) (line_byte t j 1) x (and_l (spans t 0 x j) (spans t 2 y j) e) in
      let d = within-out (line_byte t j 2) (line_byte t j 3) y (and_r (spans t 0 x j) (spans t 2 y j) e) in
      record { kind-low = k.0; kind-high = k.1; drive-low = d.0; drive-high = d.1 }

  pub holds_of : (kind drive j : ℕ) → Bounds kind drive j → holds t kind drive j ≡ true
  unfolding holds spans
  holds_of x y j b = and_i (within_in _ _ x b.kind-low b.kind-high) (within_in _ _ y b.drive-low b.drive-high)

  -- "The first line that holds an event's two bytes"
  pub record IsFirst (kind drive j : ℕ) : Type 0 where
    pub line : j < line_count t
    pub held : holds t kind drive j ≡ true
    pub none-earlier : some_below j (holds t kind drive) ≡ false

  pub first-iff : (kind drive j : ℕ) → some_below (line_count t) (holds t kind drive) ≡ true → (first_line t kind drive ≡ j) ↔ IsFirst kind drive j
  unfolding first_line
  first-iff x y j e =
      let n = line_count t in
      let f = first_found n (holds t x y) e in (
        λ p. rw p at (let r : IsFirst x y (first n (holds t x y) 0) = record { line = f.0; held = f.1; none-earlier = none_before n (holds t x y) } in r),
        λ r. first-is n (holds t x y) j r.line r.held r.none-earlier,
      )

  pub first-line : (kind drive j : ℕ) → IsFirst kind drive j → first_line t kind drive ≡ j
  first-line x y j r = unfold first_line in first-is (line_count t) (holds t x y) j r.line r.held r.none-earlier

  -- ---- row 26

  -- 02: "a line all of whose pairs fall in earlier lines"
  abbrev pub Covered : ℕ → Type 0
  Covered j = (kind drive : ℕ) → holds t kind drive j ≡ true → some_below j (holds t kind drive) ≡ true

  covered-all : (j : ℕ) → covered t j ≡ true → Covered j
  unfolding covered
  covered-all j e x y h =
      let b = bounds_of x y j h in
      between-at (line_byte t j 2) (line_byte t j 3) (λ d. some_below j (holds t x d))
      (between-at (line_byte t j 0) (line_byte t j 1) (λ k. between (line_byte t j 2) (line_byte t j 3) (λ d. some_below j (holds t k d))) e x b.kind-low b.kind-high)
      y b.drive-low b.drive-high

  -- a pair of line j that no earlier line holds
  pub record Uncovered (j : ℕ) : Type 0 where
    pub kind : ℕ
    pub drive : ℕ
    pub held : holds t kind drive j ≡ true
    pub none-earlier : some_below j (holds t kind drive) ≡ false

  pub uncovered : (j : ℕ) → covered t j ≡ false → Uncovered j
  unfolding covered
  uncovered j e =
      let a = between-not (line_byte t j 0) (line_byte t j 1) (λ k. between (line_byte t j 2) (line_byte t j 3) (λ d. some_below j (holds t k d))) e in
      let b = between-not (line_byte t j 2) (line_byte t j 3) (λ d. some_below j (holds t a.0 d)) a.3 in
      record {
        kind = a.0;
        drive = b.0;
        held = holds_of a.0 b.0 j (record { kind-low = a.1; kind-high = a.2; drive-low = b.1; drive-high = b.2 });
        none-earlier = b.3;
      }

  pub covered-iff : (j : ℕ) → (covered t j ≡ true) ↔ Covered j
  covered-iff j = (
    covered-all j,
    λ h. bif (covered t j) (λ e. e) (λ e. let u = uncovered j e in clash (h u.kind u.drive u.held) u.none-earlier),
  )

  -- an event whose first line is j
  pub record FirstFor (j : ℕ) : Type 0 where
    pub kind : ℕ
    pub drive : ℕ
    pub kind-byte : kind < 256
    pub drive-byte : drive < 256
    pub held : holds t kind drive j ≡ true
    pub gives : first_line t kind drive ≡ j

  -- a table of bytes that row 26 lets through has for each line an event whose first line it is
  pub each-line-first : ((i : ℕ) → get_or t i 0 < 256) → has_covered_lem t ≡ false → (j : ℕ) → j < line_count t → FirstFor j
  unfolding has_covered_lem
  each-line-first bytes e j l =
      let u = uncovered j (some-no (line_count t) (covered t) e j l) in
      let b = bounds_of u.kind u.drive j u.held in
      record {
        kind = u.kind;
        drive = u.drive;
        kind-byte = omega (arith, b.kind-high, bytes (5 * j + 1));
        drive-byte = omega (arith, b.drive-high, bytes (5 * j + 3));
        held = u.held;
        gives = first-line u.kind u.drive j (record { line = l; held = u.held; none-earlier = u.none-earlier });
      }
