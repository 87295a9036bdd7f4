-- The stretch of a row to which bytes were added, found from those bytes and from the stretch of before. Assumes nothing.
use mathlib.Core.Path.{◌≡◌, sym, ap, ◌∙◌}
use mathlib.Core.Logic.{◌⊎◌, inl, inr}
use mathlib.Core.List.{List}
use Prim.Native.Nat.{ℕ, ◌+◌, ◌-◌, ◌≤◌, ◌<◌}
use native.Mathlib.Decide.{dec_lt}
use native.Mathlib.Omega.{arith}
use lib.ListN.{length, get_or, take, drop, length-take, length-drop}
use lib.Seq.{get_or-take, get_or-drop, ext_get_or}
use Rattle.ink.specs.declared.Stretch.{Stretch}
use Rattle.ink.specs.Ink.{ink_of, IsInk, Inked}
use Rattle.ink.specs.Steps.{Blanks}
use Rattle.ink.specs.Grown.{Grown}
use Rattle.ink.proofs.Stretches.{make, ink_is, ink_only}

-- where the bytes that may have changed have no ink, the row is as it was
pub grown_none : {before line : List ℕ} {from to : ℕ} {old : Stretch} → Blanks line from to → old ≡ ink_of before → Grown before line from to → old ≡ ink_of line
grown_none {before} {line} {from} {to} blanks is g = is ∙ ap ink_of (ext_get_or 0 before line (sym g.long) (λ k h. sym (go k (dec_lt k from) (dec_lt k to))))
  where
    go : (k : ℕ) → Dec (k < from) → Dec (k < to) → get_or line k 0 ≡ get_or before k 0
    go k (yes h) d = g.outside k (inl h)
    go k (no h) (no l) = g.outside k (inr (omega arith))
    go k (no h) (yes l) = let z = blanks k (omega arith) l in z ∙ sym (g.never_less k z)

-- a stretch of the bytes from one column up to another
module _ (line : List ℕ) (from to : ℕ) (up : from < to) (room : to ≤ length line) {s : Stretch} (is : s ≡ ink_of (take (to - from) (drop from line))) where
  abbrev part : List ℕ
  part = take (to - from) (drop from line)

  part_long : length part ≡ to - from
  part_long = simp (length-take, length-drop) (omega arith)

  at : (k : ℕ) → k < to - from → get_or part k 0 ≡ get_or line (k + from) 0
  at k h = get_or-take (to - from) (drop from line) k 0 h ∙ get_or-drop from line k 0 ∙ (let e : from + k ≡ k + from = omega arith in ap (λ (i : ℕ). get_or line i 0) e)

  its : IsInk part s
  its = rw is (ink_is part)

  pub part_low : (s.first ≤ s.end) × (s.end ≤ to - from)
  part_low = go its
    where
      go : IsInk part s → (s.first ≤ s.end) × (s.end ≤ to - from)
      go (inl b) = let p = b.first_0 in let q = b.end_0 in (omega arith, omega arith)
      go (inr b) = let p = b.some in let q = b.within in let l = part_long in (omega arith, omega arith)

  pub part_none : s.end ≡ 0 → Blanks line from to
  part_none z k h l = go its
    where
      go : IsInk part s → get_or line k 0 ≡ 0
      go (inl b) =
          let e : k - from + from ≡ k = omega arith in
          ap (λ (i : ℕ). get_or line i 0) (sym e) ∙ sym (at (k - from) (omega arith)) ∙ b.zeros (k - from)
      go (inr b) = let p = b.some in absurd (omega arith)

  -- with ink, and a line before
  module _ (some : s.end ≡ 0 → ⊥) {before : List ℕ} (g : Grown before line from to) where
    inked : Inked part s
    inked = go its
      where
        go : IsInk part s → Inked part s
        go (inl b) = absurd (some b.end_0)
        go (inr b) = b

    line_at_lem : (k : ℕ) → from ≤ k → k < to → get_or line k 0 ≡ get_or part (k - from) 0
    line_at_lem k h l = let e : k ≡ k - from + from = omega arith in ap (λ (i : ℕ). get_or line i 0) e ∙ sym (at (k - from) (omega arith))

    -- a wider stretch that has no ink of before outside it
    joined : (f e : ℕ) → f ≤ s.first + from → s.end + from ≤ e → e ≤ length line → (get_or line f 0 ≡ 0 → ⊥) → (get_or line (e - 1) 0 ≡ 0 → ⊥)
        → ((k : ℕ) → k < f → get_or before k 0 ≡ 0) → ((k : ℕ) → e ≤ k → get_or before k 0 ≡ 0) → make f e ≡ ink_of line
    joined f e lf le w af al b a =
        let x = inked.some in
        ink_only line (make f e) (inr (record {
          some = omega arith;
          within = w;
          at_first = af;
          at_last = al;
          before = λ k h. early k h (dec_lt k from);
          after = λ k h. late k h (dec_lt k to);
        }))
      where
        early : (k : ℕ) → k < f → Dec (k < from) → get_or line k 0 ≡ 0
        early k h (yes l) = g.outside k (inl l) ∙ b k h
        early k h (no l) =
            let p = part_low.0 in
            let q = part_low.1 in
            line_at_lem k (omega arith) (omega arith) ∙ inked.before (k - from) (omega arith)

        late : (k : ℕ) → e ≤ k → Dec (k < to) → get_or line k 0 ≡ 0
        late k h (no l) = g.outside k (inr (omega arith)) ∙ a k h
        late k h (yes l) = line_at_lem k (omega arith) l ∙ inked.after (k - from) (omega arith)

    found_first : get_or line (s.first + from) 0 ≡ 0 → ⊥
    found_first z =
        let p = inked.some in
        let q = inked.within in
        let l = part_long in
        inked.at_first (at s.first (omega arith) ∙ z)

    found_last : get_or line (s.end + from - 1) 0 ≡ 0 → ⊥
    found_last z =
        let p = inked.some in
        let q = inked.within in
        let l = part_long in
        let e : s.end - 1 + from ≡ s.end + from - 1 = omega arith in
        inked.at_last (at (s.end - 1) (omega arith) ∙ ap (λ (i : ℕ). get_or line i 0) e ∙ z)

    found_fits : s.end + from ≤ length line
    found_fits = let q = part_low.1 in omega arith

    -- a row that was blank
    pub grown_first : {old : Stretch} → old ≡ ink_of before → old.end ≡ 0 → make (s.first + from) (s.end + from) ≡ ink_of line
    grown_first {old} o z = go (rw o (ink_is before))
      where
        go : IsInk before old → make (s.first + from) (s.end + from) ≡ ink_of line
        go (inl b) =
            joined (s.first + from) (s.end + from) (omega arith) (omega arith) found_fits found_first found_last (λ k h. b.zeros k) (λ k h. b.zeros k)
        go (inr b) = let x = b.some in absurd (omega arith)

    -- and one that had ink
    pub grown_more : {old : Stretch} → old ≡ ink_of before → (old.end ≡ 0 → ⊥) → {f e : ℕ} → (f ≤ s.first + from) × (f ≤ old.first) × ((f ≡ s.first + from) ⊎ (f ≡ old.first))
        → (s.end + from ≤ e) × (old.end ≤ e) × ((e ≡ s.end + from) ⊎ (e ≡ old.end)) → make f e ≡ ink_of line
    grown_more {old} o z {f} {e} low high = go (rw o (ink_is before))
      where
        go : IsInk before old → make f e ≡ ink_of line
        go (inl b) = absurd (z b.end_0)
        go (inr b) =
            joined f e low.0 high.0 (fits high.2) (first low.2) (last high.2) (λ k h. b.before k (let x = low.1 in omega arith)) (λ k h. b.after k (let x = high.1 in omega arith))
          where
            fits : (e ≡ s.end + from) ⊎ (e ≡ old.end) → e ≤ length line
            fits (inl p) = let x = found_fits in omega arith
            fits (inr p) = let x = b.within in let y = g.long in omega arith

            first : (f ≡ s.first + from) ⊎ (f ≡ old.first) → get_or line f 0 ≡ 0 → ⊥
            first (inl p) x = found_first (ap (λ (i : ℕ). get_or line i 0) (sym p) ∙ x)
            first (inr p) x = b.at_first (g.never_less old.first (ap (λ (i : ℕ). get_or line i 0) (sym p) ∙ x))

            last : (e ≡ s.end + from) ⊎ (e ≡ old.end) → get_or line (e - 1) 0 ≡ 0 → ⊥
            last (inl p) x = found_last (ap (λ (i : ℕ). get_or line (i - 1) 0) (sym p) ∙ x)
            last (inr p) x = b.at_last (g.never_less (old.end - 1) (ap (λ (i : ℕ). get_or line (i - 1) 0) (sym p) ∙ x))
