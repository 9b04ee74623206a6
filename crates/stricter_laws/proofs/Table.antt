-- One table: a tagged transition from a core shows one from each number of that core, and each transition shows a tagged one from its core.
use mathlib.Core.Path.{◌≡◌, sym, ap, ◌∙◌, subst}
use mathlib.Core.Bool.{Bool, true, false}
use mathlib.Core.List.{List, Memᴰ}
use Prim.Native.Nat.{ℕ, ◌+◌, ◌≤◌, ◌<◌}
use native.Mathlib.Omega.{arith}
use lib.ListN.{length, get_or}
use Rattle.sets.specs.Tests.{one}
use Rattle.sets.proofs.Lists.{place_of, mem-at}
use Rattle.theory.specs.Macrostate.{is_accepting_lem}
use Rattle.theory.specs.Run.{source_of, letter_of_lem, target_of}
use Rattle.stricter_spec.specs.Tags.{row_of_lem, onto_of_lem, sparing}
use Rattle.stricter_spec.specs.Tables.{CoreTable, Shown}

module _ {codes moves : List ℕ} {n : ℕ} {core : ℕ → ℕ} {spare : ℕ → ℕ → Bool} (C : CoreTable codes moves n core spare)
    {tagged : List ℕ} (S : Shown codes moves n core spare tagged) where
  -- the transition that a tagged one shows
  record Shows (s : ℕ) : Type 0 where
    of : ℕ
    listed : Memᴰ of moves
    row : row_of_lem s ≡ source_of of
    letter : letter_of_lem s ≡ letter_of_lem of
    onto : onto_of_lem s ≡ core (target_of of)
    spares : (K : ℕ) → K < n → sparing s K ≡ spare of K

  shows-at : (k : ℕ) → k < length moves → Shows (get_or tagged k 0)
  shows-at k l = record {
    of = get_or moves k 0;
    listed = mem-at moves k l;
    row = S.row k l;
    letter = S.letter k l;
    onto = S.onto k l;
    spares = λ K h. S.spares k K l h;
  }

  shows : {s : ℕ} → Memᴰ s tagged → Shows s
  shows {s = s} m = let (k, l, e) = place_of tagged s m in subst Shows e (shows-at k (subst (λ (a : ℕ). k < a) S.long l))

  pub row_low : {s : ℕ} → Memᴰ s tagged → row_of_lem s < length codes
  row_low m = let h = shows m in subst (λ (a : ℕ). a < length codes) (sym h.row) (C.inside.sources h.of h.listed)

  pub onto-low : {s : ℕ} → Memᴰ s tagged → onto_of_lem s < length codes
  onto-low m =
      let h = shows m in
      subst (λ (a : ℕ). a < length codes) (sym h.onto) (C.within (target_of h.of) (C.inside.targets h.of h.listed))

  pub letter-low : ((t : ℕ) → Memᴰ t moves → letter_of_lem t < 16) → {s : ℕ} → Memᴰ s tagged → letter_of_lem s < 16
  letter-low l m = let h = shows m in subst (λ (a : ℕ). a < 16) (sym h.letter) (l h.of h.listed)

  -- a transition of number i that goes as the tagged one s
  pub record Raised (i s : ℕ) : Type 0 where
    pub of : ℕ
    pub listed : Memᴰ of moves
    pub source : source_of of ≡ i
    pub letter : letter_of_lem of ≡ letter_of_lem s
    pub target : core (target_of of) ≡ onto_of_lem s
    pub spares : (K : ℕ) → K < n → spare of K ≡ sparing s K

  pub raise : (i : ℕ) {s : ℕ} → i < length codes → Memᴰ s tagged → core i ≡ row_of_lem s → Raised i s
  raise i l m e =
      let h = shows m in
      let c : core i ≡ source_of h.of = e ∙ h.row in
      let d : core i ≡ core (source_of h.of) = sym (C.stands i l) ∙ ap core c in
      let (u, k, f, a, t) = C.lifts h.of i h.listed l d in
      record {
        of = u;
        listed = k;
        source = f;
        letter = a ∙ sym h.letter;
        target = t ∙ sym h.onto;
        spares = λ K b. C.alike u h.of K k h.listed a (ap core f ∙ d) t b ∙ sym (h.spares K b);
      }

  module _ {i s : ℕ} (r : Raised i s) (dull : is_accepting_lem (get_or codes i 0) ≡ false) (still : is_accepting_lem (get_or codes (target_of r.of) 0) ≡ false) where
    moved : (C.component (target_of r.of) ≡ C.component (source_of r.of))
        × (C.left (target_of r.of) + one (spare r.of (C.component (source_of r.of))) ≤ C.left (source_of r.of))
    moved = C.nears r.of r.listed (ap (λ (a : ℕ). is_accepting_lem (get_or codes a 0)) r.source ∙ dull) still

    -- it keeps the component of i
    pub stays : C.component (target_of r.of) ≡ C.component i
    stays = moved.0 ∙ ap C.component r.source

    pub nears : C.left (target_of r.of) ≤ C.left i
    nears =
        let h = moved.1 in
        let e = ap C.left r.source in
        omega arith

    -- and comes nearer where it spares it
    pub closer : (K : ℕ) → K < n → sparing s K ≡ true → C.component i ≡ K → C.left (target_of r.of) < C.left i
    closer K l p c =
        let h = moved.1 in
        let e = ap C.left r.source in
        let k : C.component (source_of r.of) ≡ K = ap C.component r.source ∙ c in
        let o : one (spare r.of (C.component (source_of r.of))) ≡ 1 = ap (λ (a : ℕ). one (spare r.of a)) k ∙ ap one (r.spares K l ∙ p) in
        omega arith

  -- a tagged transition that goes from core to core as t does
  pub record Lowered (t : ℕ) : Type 0 where
    pub of : ℕ
    pub listed : Memᴰ of tagged
    pub row : row_of_lem of ≡ core (source_of t)
    pub letter : letter_of_lem of ≡ letter_of_lem t
    pub onto : onto_of_lem of ≡ core (target_of t)
    pub spares : (K : ℕ) → K < n → sparing of K ≡ spare t K

  module _ {t : ℕ} (m : Memᴰ t moves) where
    -- by u in place k, which goes from the core's number
    lowered-at : {u : ℕ} (k : ℕ) → Memᴰ u moves → source_of u ≡ core (source_of t) → letter_of_lem u ≡ letter_of_lem t → core (target_of u) ≡ core (target_of t)
        → k < length moves → get_or moves k 0 ≡ u → Lowered t
    lowered-at {u = u} k w f a c l e =
        let d : core (source_of u) ≡ core (source_of t) = ap core f ∙ C.stands (source_of t) (C.inside.sources t m) in
        record {
          of = get_or tagged k 0;
          listed = mem-at tagged k (subst (λ (b : ℕ). k < b) (sym S.long) l);
          row = S.row k l ∙ ap (λ (b : ℕ). source_of b) e ∙ f;
          letter = S.letter k l ∙ ap (λ (b : ℕ). letter_of_lem b) e ∙ a;
          onto = S.onto k l ∙ ap (λ (b : ℕ). core (target_of b)) e ∙ c;
          spares = λ K b. S.spares k K l b ∙ ap (λ (v : ℕ). spare v K) e ∙ C.alike u t K w m a d c b;
        }

    pub lower : Lowered t
    lower =
        let l = C.inside.sources t m in
        let (u, w, f, a, c) = C.lifts t (core (source_of t)) m (C.within (source_of t) l) (C.stands (source_of t) l) in
        let (k, h, e) = place_of moves u w in
        lowered-at k w f a c h e
