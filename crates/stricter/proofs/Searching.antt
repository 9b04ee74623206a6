-- What the search on the two tables says of the rules.
use mathlib.Core.Path.{◌≡◌, sym, ◌∙◌, ap, ap₂}
use mathlib.Core.Bool.{Bool, true, false, ◌||◌, not}
use mathlib.Core.List.{List, [], ◌++◌}
use Prim.Native.Nat.{ℕ, ◌*◌, ◌≤◌}
use native.Mathlib.Omega.{arith}
use native.Mathlib.Nat.{mul-le-mul}
use borrow.Author.Tests.{ltb-false}
use lib.Dec.{ltb}
use lib.ListN.{length, take, drop, replicate, take-append-drop}
use Rattle.std.specs.Prelude.{Ok, Err}
use Rattle.refusals.specs.Rows.{first_refusal, check}
use Rattle.refusals.specs.declared.Refusal.TheVariants.{PairRoom}
use Rattle.refusals.proofs.Rows.{refusal-yes, refusal-no}
use Rattle.sets.specs.Masks.{bit}
use Rattle.sets.proofs.Bools.{or-fl, or-fr}
use Rattle.theory.specs.Macrostate.{holds_initial}
use Rattle.theory.specs.Passing.{Passing}
use Rattle.theory.specs.Rule.{Rule}
use Rattle.theory.specs.TableComputed.{macrostates, transitions}
use Rattle.rejecting_spec.specs.Rejecting.{lacks_initial}
use Rattle.rejecting_spec.specs.RejectingComputed.{rejecting_macrostates, rejecting_transitions}
use Rattle.file_spec.specs.File.{rule_in}
use Rattle.file_spec.specs.declared.Layout.{Layout}
use Rattle.file_read.proofs.Answer as reader
use Rattle.build_spec.specs.Keys.{start_of}
use Rattle.build.specs.declared.Counts.{Counts}
use Rattle.build.specs.Built.{room_after}
use Rattle.stricter_spec.specs.declared.Found.TheVariants.{Nothing, Word}
use Rattle.stricter_spec.specs.Search.{NoShared, Shared, Searched}
use Rattle.stricter_laws.proofs.SharedWords.{none-shared, shared-against}
use Rattle.stricter_entry_spec.specs.declared.Comparison.{Comparison}
use Rattle.stricter_entry_spec.specs.declared.Comparison.TheVariants.{Yes, No}
use Rattle.stricter_entry_spec.specs.Rows.{Slices, slices_of, tables_of, pairs, pair_rows, scratch_left}
use Rattle.stricter_entry_spec.specs.Compared.{sizes_of, Told}
use Rattle.stricter.specs.declared.Side.{Side}
use Rattle.stricter.specs.Steps.{Ready, pair_row, ByRow}
use Rattle.stricter.proofs.Rooms.{front-codes, front-moves}

module _ {f g : List ℕ} {x y : Side} {cs ts ds us : List ℕ} (O : Ready f true x cs ts) (X : Ready g false y ds us) where
  abbrev a : Rule
  a = rule_in f

  abbrev b : Rule
  b = rule_in g

  abbrev n : Counts
  n = x.counts

  abbrev m : Counts
  m = y.counts

  abbrev codes_a_lem : List ℕ
  codes_a_lem = take n.macrostates cs

  abbrev moves_a : List ℕ
  moves_a = take n.transitions ts

  abbrev codes_b_lem : List ℕ
  codes_b_lem = take m.macrostates ds

  abbrev moves_b : List ℕ
  moves_b = take m.transitions us

  -- the tables are those of the rules
  record Tabled : Type 0 where
    codes_a : codes_a_lem ≡ macrostates a
    moves-a : moves_a ≡ transitions a
    codes_b : codes_b_lem ≡ rejecting_macrostates b
    moves-b : moves_b ≡ rejecting_transitions b
    few-a : length (macrostates a) ≤ 65536
    few-b : length (rejecting_macrostates b) ≤ 65536
    passing-a : Passing a
    passing-b : Passing b
    initial-a : x.layout.head.initial ≡ a.initial
    initial-b : y.layout.head.initial ≡ b.initial
    sizes : record { a = n; b = m } ≡ sizes_of (tables_of a b)

  tabled : Tabled
  unfolding start_of sizes_of
  tabled =
      let F = reader.served f x.layout O.read in
      let G = reader.served g y.layout X.read in
      record {
        codes_a = front-codes O;
        moves-a = front-moves O;
        codes_b = front-codes X;
        moves-b = front-moves X;
        few-a = O.few;
        few-b = X.few;
        passing-a = F.passing;
        passing-b = G.passing;
        initial-a = ap (λ (l : Layout). l.head.initial) F.layout;
        initial-b = ap (λ (l : Layout). l.head.initial) G.layout;
        sizes = ap₂ (λ (x y : Counts). record { a = x; b = y })
            (ap₂ (λ (x y : ℕ). record { macrostates = x; transitions = y }) O.macrostates O.transitions)
            (ap₂ (λ (x y : ℕ). record { macrostates = x; transitions = y }) X.macrostates X.transitions);
      }

  -- P
  pairs-are : n.macrostates * m.macrostates ≡ pairs (tables_of a b)
  unfolding pairs start_of
  pairs-are = ap₂ (λ (x y : ℕ). x * y) O.macrostates X.macrostates

  pub pairs_small : n.macrostates * m.macrostates ≤ 4294967296
  pairs_small =
      let x : n.macrostates ≤ 65536 = omega (arith, O.few, O.macrostates) in
      let y : m.macrostates ≤ 65536 = omega (arith, X.few, X.macrostates) in
      mul-le-mul x y

  -- ---- the answer

  module _ (same : a.s ≡ b.s) {old new : List ℕ} where
    pub told-yes : Searched codes_a_lem moves_a (λ c. bit c x.layout.head.initial) codes_b_lem moves_b (λ c. not (bit c y.layout.head.initial)) old new Nothing
        → Told a b (tables_of a b) (Ok tt) (Ok (Yes (record { a = n; b = m }))) old new
    told-yes S =
        let T = tabled in
        let N : NoShared (macrostates a) (transitions a) (holds_initial a) (rejecting_macrostates b) (rejecting_transitions b) (lacks_initial b) =
        rw (T.codes_a, T.moves-a, T.codes_b, T.moves-b, T.initial-a, T.initial-b) at S.1 in
        (T.sizes, S.0, none-shared T.passing-a T.passing-b same T.few-a T.few-b N)

    pub told-no : {l k : ℕ} → Searched codes_a_lem moves_a (λ c. bit c x.layout.head.initial) codes_b_lem moves_b (λ c. not (bit c y.layout.head.initial)) old new (Word l k)
        → Told a b (tables_of a b) (Ok tt) (Ok (No (record { a = n; b = m }) l k)) old new
    unfolding pairs
    told-no S =
        let T = tabled in
        let H : Shared (macrostates a) (transitions a) (holds_initial a) (rejecting_macrostates b) (rejecting_transitions b) (lacks_initial b) S.lead S.cycle =
        rw (T.codes_a, T.moves-a, T.codes_b, T.moves-b, T.initial-a, T.initial-b) at S.shared in (
          T.sizes,
          record {
            lead = S.lead;
            cycle = S.cycle;
            lead_long = S.lead_long;
            cycle_long = S.cycle_long;
            letters = S.letters;
            short = omega (arith, H.short, S.lead_long, S.cycle_long);
            against = shared-against T.passing-a T.passing-b same T.few-a T.few-b S.lead S.cycle H;
          },
        )

  -- ---- the rooms after it

  -- a front that came back as it was, and the rest
  whole : (n : ℕ) (xs ys : List ℕ) → xs ≡ take n ys → xs ++ drop n ys ≡ ys
  whole n xs ys e = ap (λ (zs : List ℕ). zs ++ drop n ys) e ∙ take-append-drop n ys

  pub searched : {xs zs ys ws word scratch word' scratch' : List ℕ} {answer : Comparison} → Told a b (tables_of a b) (Ok tt) (Ok answer) word word'
      → xs ≡ codes_a_lem → zs ≡ moves_a → ys ≡ codes_b_lem → ws ≡ moves_b → scratch' ≡ replicate (length scratch) 0
      → ByRow a b (Ok tt) (slices_of cs ts ds us word scratch) (Ok answer)
      (slices_of (xs ++ drop n.macrostates cs) (zs ++ drop n.transitions ts) (ys ++ drop m.macrostates ds) (ws ++ drop m.transitions us) word' scratch')
  unfolding room_after scratch_left start_of
  searched {xs} {zs} {ys} {ws} T e f g h s = record {
    told = T;
    codes_a_after = whole n.macrostates xs cs e ∙ O.codes_held;
    transitions_a_after = whole n.transitions zs ts f ∙ O.moves_held;
    codes_b_after = whole m.macrostates ys ds g ∙ X.codes_held;
    transitions_b_after = whole m.transitions ws us h ∙ X.moves_held;
    scratch_after = s;
  }

  -- ---- 29

  module _ (lent : Slices) {lacks : Bool} (tested : lacks ≡ (ltb (length lent.word) (3 * (n.macrostates * m.macrostates)) || ltb (length lent.scratch) (n.macrostates * m.macrostates))) where
    -- its test, by P
    tests : {t : Bool} → lacks ≡ t → (ltb (length lent.word) (3 * pairs (tables_of a b)) || ltb (length lent.scratch) (pairs (tables_of a b))) ≡ t
    tests e = rw (← pairs-are) (sym tested ∙ e)

    pub pair-short : lacks ≡ true → pair_row a b lent ≡ Err PairRoom
    unfolding pair_row pair_rows
    pair-short t = refusal-yes (check _ PairRoom) [] (tests t)

    pub pair-room : lacks ≡ false → Ok tt ≡ pair_row a b lent
    unfolding pair_row pair_rows first_refusal
    pair-room t = sym (refusal-no (check _ PairRoom) [] (tests t))

    pub roomy : lacks ≡ false → (n.macrostates * m.macrostates ≤ length lent.scratch) × (3 * (n.macrostates * m.macrostates) ≤ length lent.word)
    roomy t =
        let e = sym tested ∙ t in (
          ltb-false _ _ (or-fr (ltb (length lent.word) (3 * (n.macrostates * m.macrostates))) _ e),
          ltb-false _ _ (or-fl (ltb (length lent.word) (3 * (n.macrostates * m.macrostates))) _ e),
        )
