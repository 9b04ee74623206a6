-- Start lines, read one number after the other.
use mathlib.Core.Path.{◌≡◌, refl, sym, ◌∙◌, ap}
use mathlib.Core.Bool.{true, cond}
use mathlib.Core.List.{List, [], ◌∷◌, ◌++◌, append_assoc, append-nil}
use mathlib.Core.Logic.{by_cases}
use Prim.Native.Nat.{ℕ, ◌+◌, ◌-◌, ◌≤◌, ◌<◌}
use native.Mathlib.Omega.{arith}
use native.Mathlib.Decide.{dec_lt, ℕ_discrete}
use lib.Dec.{ltb}
use lib.ListN.{length, get_or, drop, set}
use lib.Seq.{sets}
use Rattle.sets.proofs.Bits.{bit-none}
use Rattle.sets.specs.Masks.{bit}
use Rattle.listing_lines_spec.specs.Lines.{lines}
use Rattle.hoa_spec.specs.Lines.{start_line}
use Rattle.hoa_spec.specs.Text.{start_of}
use Rattle.hoa_spec.specs.Shape.{flags_from}
use Rattle.hoa_laws.specs.Took.{Took}
use Rattle.hoa_laws.specs.Parts.{Starting, Started}
use Rattle.hoa_laws.proofs.Lists.{snoc-length, snoc-before, snoc-last, snoc-after, sets-append, flags-snoc}
use Rattle.hoa_laws.proofs.Starts.{start-yes, start-no, start-taken, start-missing}
use Rattle.hoa_laws.proofs.Blocks.{lines_snoc}
use Rattle.hoa_laws.proofs.Marks.{flags-length}

pub bit-1 : bit 1 0 ≡ true
unfolding bit
bit-1 = refl

pub starting-none : {text : List ℕ} {p n : ℕ} → p ≤ length text → Starting text p n 0 [] 0 p
unfolding lines
starting-none h = record {
  long = refl;
  each = λ j. omega arith;
  beyond = λ j l. refl;
  reached = λ l. absurd (omega arith);
  high = omega arith;
  within = h;
  is = refl;
  only = λ fs rest l m e. (e, λ j k. absurd (omega arith));
}

module _ {text : List ℕ} {p n i : ℕ} {starts : List ℕ} {last r : ℕ} (S : Starting text p n i starts last r) where
  module _ (x : ℕ) (small : x ≤ 1) where
    each_more : (j : ℕ) → get_or (starts ++ (x ∷ [])) j 0 ≤ 1
    each_more j =
        by_cases (dec_lt j (length starts))
        (λ l. omega (arith, snoc-before starts x j l, S.each j))
        (λ m. by_cases (ℕ_discrete j (length starts))
        (λ e. omega (arith, snoc-last starts x j e))
        (λ e. omega (arith, snoc-after starts x j (omega arith))))

    -- the bits of numbers up to i
    bits-more : (fs : List ℕ) → bit (get_or fs i 0) 0 ≡ bit x 0 → ((j : ℕ) → j < i → bit (get_or fs j 0) 0 ≡ bit (get_or starts j 0) 0)
        → (j : ℕ) → j < i + 1 → bit (get_or fs j 0) 0 ≡ bit (get_or (starts ++ (x ∷ [])) j 0) 0
    bits-more fs e h j l =
        let n = S.long in
        by_cases (dec_lt j i)
        (λ k. h j k ∙ ap (λ (y : ℕ). bit y 0) (sym (snoc-before starts x j (omega arith))))
        (λ m. let q : j ≡ i = omega arith in
        ap (λ (k : ℕ). bit (get_or fs k 0) 0) q ∙ e ∙ ap (λ (y : ℕ). bit y 0) (sym (snoc-last starts x j (omega arith))))

    lines_more : lines start_of 0 (starts ++ (x ∷ [])) ≡ lines start_of 0 starts ++ start_of i x
    lines_more = let e : 0 + length starts ≡ i = omega (arith, S.long) in lines_snoc start_of 0 starts x ∙ ap (λ (k : ℕ). lines start_of 0 starts ++ start_of k x) e

  module _ (h : i < n) {q : ℕ} (T : Took text r (start_line i) q) where
    -- no start line of i
    pub starting-no : q ≡ 0 → Starting text p n (i + 1) (starts ++ (0 ∷ [])) last r
    starting-no z =
        let n = S.long in
        record {
          long = snoc-length starts 0 ∙ ap (λ (k : ℕ). k + 1) n;
          each = each_more 0 (omega arith);
          beyond = λ j l. by_cases (dec_lt j (length starts))
              (λ k. snoc-before starts 0 j k ∙ S.beyond j l)
              (λ m. by_cases (ℕ_discrete j (length starts)) (λ e. snoc-last starts 0 j e) (λ e. snoc-after starts 0 j (omega arith)));
          reached = λ l. let g = S.high in snoc-before starts 0 (last - 1) (omega arith) ∙ S.reached l;
          high = let g = S.high in omega arith;
          within = S.within;
          is = S.is ∙ ap (λ (s : List ℕ). s ++ drop r text) (sym (lines_more 0 (omega arith) ∙ ap (λ (s : List ℕ). lines start_of 0 starts ++ s) (start-no i 0 (bit-none 0))
              ∙ append-nil (lines start_of 0 starts)));
          only = λ fs rest l m e.
              let o = S.only fs rest l m e in
              let k = start-missing (drop r text) fs rest m i (omega arith) o.0 (T.absent z) in
              (k.1, bits-more 0 (omega arith) fs (k.0 ∙ sym (bit-none 0)) o.1);
        }

    -- the start line of i
    pub starting-yes : 0 < q → Starting text p n (i + 1) (starts ++ (1 ∷ [])) (i + 1) q
    starting-yes z =
        let n = S.long in
        let f = T.found z in
        record {
          long = snoc-length starts 1 ∙ ap (λ (k : ℕ). k + 1) n;
          each = each_more 1 (omega arith);
          beyond = λ j l. snoc-after starts 1 j (omega arith);
          reached = λ l. snoc-last starts 1 (i + 1 - 1) (omega arith);
          high = omega arith;
          within = f.0;
          is = S.is
              ∙ ap (λ (s : List ℕ). lines start_of 0 starts ++ s) (f.1 ∙ ap (λ (s : List ℕ). s ++ drop q text) (sym (start-yes i 1 bit-1)))
              ∙ sym (append_assoc (lines start_of 0 starts) (start_of i 1) (drop q text))
              ∙ ap (λ (s : List ℕ). s ++ drop q text) (sym (lines_more 1 (omega arith)));
          only = λ fs rest l m e.
              let o = S.only fs rest l m e in
              let k = start-taken (drop r text) fs rest m i (omega arith) o.0 (drop q text) f.1 in
              (k.1, bits-more 1 (omega arith) fs (k.0 ∙ sym bit-1) o.1);
        }

-- the flag of number i is stored after those before it
pub flag-stored : (old : List ℕ) (accepting : ℕ) (starts : List ℕ) (i s f : ℕ) {now new : List ℕ} → length starts ≡ i
    → now ≡ sets old 0 (flags_from accepting 0 starts) → f ≡ cond (ltb i accepting) (2 + s) 0 → new ≡ set now i f
    → new ≡ sets old 0 (flags_from accepting 0 (starts ++ (s ∷ [])))
flag-stored old accepting starts i s f h e q w =
    let z : 0 + length (flags_from accepting 0 starts) ≡ i = omega (arith, flags-length accepting 0 starts) in
    w ∙ rw (e, q, flags-snoc accepting starts s i h, sets-append old 0 (flags_from accepting 0 starts), z)

pub none-stored : (old : List ℕ) (accepting : ℕ) → old ≡ sets old 0 (flags_from accepting 0 [])
unfolding flags_from
none-stored old accepting = refl

-- all numbers
pub started : {text : List ℕ} {p n accepting : ℕ} {old : List ℕ} {i : ℕ} {starts : List ℕ} {last r : ℕ} {new : List ℕ} → i ≡ n → Starting text p n i starts last r
    → new ≡ sets old 0 (flags_from accepting 0 starts) → Started text p n accepting old last r new
started {starts = starts} e S w = record { starts = starts; read = rw e at S; stored = w }
