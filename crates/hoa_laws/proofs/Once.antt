-- A text carries one table at most: it tells the number of propositions, the flags and the transitions.
use mathlib.Core.Path.{◌≡◌, refl, sym, ◌∙◌, ap}
use mathlib.Core.List.{List, ◌++◌, append_cancel_left}
use Prim.Native.Nat.{ℕ, ◌<◌}
use native.Mathlib.Omega.{arith}
use native.Mathlib.Nat.{zero-add}
use lib.ListN.{length, get_or}
use Rattle.sets.specs.Masks.{bit}
use Rattle.listing_lines_spec.specs.Lines.{lines}
use Rattle.hoa_spec.specs.Lines.{hoa_line, states_line, ap_line, acceptance_lines, end_line}
use Rattle.hoa_spec.specs.Text.{start_of, block_of, automaton_text}
use Rattle.hoa_spec.specs.Shape.{Shaped}
use Rattle.hoa_laws.specs.Took.{NoStart, NoEdge}
use Rattle.hoa_laws.proofs.Lines.{other-heads, states-once, ap-once}
use Rattle.hoa_laws.proofs.Starts.{starts-once}
use Rattle.hoa_laws.proofs.Blocks.{blocks-left, moves-same}
use Rattle.hoa_laws.proofs.Marks.{flags-same}

-- after the start lines comes that of the propositions
pub ap-no-start : (b : ℕ) (rest : List ℕ) → NoStart (ap_line b ++ rest)
unfolding ap_line
ap-no-start b rest others e = other-heads e (λ h. omega arith)

-- after the last edge line comes the end
pub end-no-edge : NoEdge end_line
end-no-edge others e = other-heads e (λ h. omega arith)

-- the parts of a text after the number of macrostates, after the start lines, and after `--BODY--`
abbrev pub body_text : ℕ → List ℕ → List ℕ → List ℕ
body_text b flags transitions = lines (block_of b transitions) 0 flags ++ end_line

abbrev pub low_text_lem : ℕ → List ℕ → List ℕ → List ℕ
low_text_lem b flags transitions = ap_line b ++ (acceptance_lines ++ body_text b flags transitions)

abbrev pub high_text_lem : ℕ → List ℕ → List ℕ → List ℕ
high_text_lem b flags transitions = lines start_of 0 flags ++ low_text_lem b flags transitions

pub text-parts : (b : ℕ) (fs ts : List ℕ) → automaton_text b fs ts ≡ hoa_line ++ (states_line (length fs) ++ high_text_lem b fs ts)
unfolding automaton_text
text-parts b fs ts = refl

module _ {b c : ℕ} {fs gs ts us : List ℕ} (P : Shaped b fs ts) (Q : Shaped c gs us) where
  body-once : b ≡ c → length fs ≡ length gs → ((i : ℕ) → i < length fs → bit (get_or fs i 0) 0 ≡ bit (get_or gs i 0) 0)
      → body_text b fs ts ≡ body_text c gs us → (fs ≡ gs) × (ts ≡ us)
  body-once h n low e =
      let f : body_text b fs ts ≡ body_text b gs us = e ∙ ap (λ (k : ℕ). body_text k gs us) (sym h) in
      let r = blocks-left b ts us (λ t m. (P.ranges t m).letter) (λ t m. rw (sym h) at (Q.ranges t m).letter) 0 fs gs end_line end_line
      (omega (arith, n)) (λ z. end-no-edge) end-no-edge f in (
        flags-same P.marked Q.marked n low r.bits,
        moves-same (length fs) ts us P.ascend Q.ascend (λ t m. (P.ranges t m).source) (λ t m. rw (sym n) at (Q.ranges t m).source)
            (λ i l. rw (zero-add i) at (r.moves i l)),
      )

  pub text-once : automaton_text b fs ts ≡ automaton_text c gs us → (b ≡ c) × (fs ≡ gs) × (ts ≡ us)
  text-once e =
      let f = append_cancel_left hoa_line _ _ (sym (text-parts b fs ts) ∙ e ∙ text-parts c gs us) in
      let n = states-once (length fs) (length gs) f in
      let s = starts-once 0 fs gs (low_text_lem b fs ts) (low_text_lem c gs us) n.0 (ap-no-start b _) (ap-no-start c _) n.1 in
      let a = ap-once b c P.propositions Q.propositions s.1 in
      let r = body-once a.0 n.0 (λ i l. s.0 i) (append_cancel_left acceptance_lines _ _ a.1) in
      (a.0, r.0, r.1)
