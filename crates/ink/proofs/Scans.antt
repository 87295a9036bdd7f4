-- Row by row: the numbers of the first rows are found, and those past the last row stay. Assumes nothing.
use mathlib.Core.Path.{◌≡◌, refl, sym, ap, ◌∙◌}
use mathlib.Core.List.{List, [], ◌∷◌, ◌++◌, append_assoc}
use Prim.Native.Nat.{ℕ, suc, ◌+◌, ◌*◌, ◌-◌, ◌≤◌, ◌<◌}
use native.Mathlib.Nat.{mul-le-mul_right, mul_comm, suc-mul}
use native.Mathlib.Numerals.{add-one}
use native.Mathlib.Omega.{arith}
use lib.ListN.{length, take, drop, set, length-set, take-append-drop}
use lib.Seq.{take-suc-set, drop-set-lt}
use Rattle.cells.specs.declared.Size.{Size}
use Rattle.cells.specs.Rows.{rows_from}
use Rattle.ink.specs.declared.Stretch.{Stretch}
use Rattle.ink.specs.Ink.{ink_of, line_at, ink_row, ink_after}

pub record AtRow (size : Size) (mask ink₀ ink : List ℕ) (from at row : ℕ) : Type 0 where
  pub within : row ≤ size.height
  pub from_is : from ≡ row * size.width
  pub at_is : at ≡ 2 * row
  pub long : length ink ≡ length ink₀
  pub rest : drop (2 * size.height) ink ≡ drop (2 * size.height) ink₀
  pub rows : ink_after size mask ink₀ ≡ take (2 * row) ink ++ (rows_from (ink_row size mask) (size.height - row) row ++ drop (2 * size.height) ink₀)

module _ {size : Size} {mask ink₀ : List ℕ} where
  pub rows_start : AtRow size mask ink₀ ink₀ 0 0 0
  rows_start =
      let z : size.height - 0 ≡ size.height = omega arith in
      record {
        within = omega arith;
        from_is = omega arith;
        at_is = omega arith;
        long = refl;
        rest = refl;
        rows = rw z refl;
      }

  module _ {ink : List ℕ} {from at row : ℕ} (s : AtRow size mask ink₀ ink from at row) where
    pub rows_done : size.height ≤ row → ink ≡ ink_after size mask ink₀
    unfolding rows_from
    rows_done h =
        let w = s.within in
        let e : size.height - row ≡ 0 = omega arith in
        let t : 2 * row ≡ 2 * size.height = omega arith in
        sym (s.rows ∙ rw (e, t) (ap (λ (x : List ℕ). take (2 * size.height) ink ++ x) (sym s.rest) ∙ take-append-drop (2 * size.height) ink))

    pub line_room : row < size.height → size.width * size.height ≤ length mask → from + size.width ≤ length mask
    line_room h room =
        let f = s.from_is in
        let m : suc row * size.width ≤ size.height * size.width = mul-le-mul_right size.width h in
        let t : suc row * size.width ≡ row * size.width + size.width = suc-mul row size.width in
        let c : size.height * size.width ≡ size.width * size.height = mul_comm size.height size.width in
        omega arith

    module _ (more : row < size.height) (room : 2 * size.height ≤ length ink₀) (x : Stretch) (is : x ≡ ink_of (take (from + size.width - from) (drop from mask))) where
      abbrev after : List ℕ
      after = set (set ink at x.first) (at + 1) x.end

      row_is : x.first ∷ x.end ∷ [] ≡ ink_row size mask row
      row_is =
          let e : from + size.width - from ≡ size.width = omega arith in
          let l : take (from + size.width - from) (drop from mask) ≡ line_at size mask row = rw (e, s.from_is) refl in
          ap (λ (y : Stretch). y.first ∷ y.end ∷ []) (is ∙ ap ink_of l)

      front : take (2 * (row + 1)) after ≡ take (2 * row) ink ++ (x.first ∷ x.end ∷ [])
      front =
          let n : 2 * (row + 1) ≡ suc (suc (2 * row)) = omega arith in
          let a = s.at_is in
          let l = s.long in
          let b : at + 1 ≡ suc (2 * row) = omega arith in
          rw (n, b, a)
          (take-suc-set (set ink (2 * row) x.first) (suc (2 * row)) x.end (simp length-set (omega arith))
          ∙ ap (λ (y : List ℕ). y ++ (x.end ∷ [])) (take-suc-set ink (2 * row) x.first (omega arith))
          ∙ append_assoc (take (2 * row) ink) (x.first ∷ []) (x.end ∷ []))

      pub rows_turn : AtRow size mask ink₀ after (from + size.width) (at + 2) (row + 1)
      unfolding rows_from
      rows_turn =
          let f = s.from_is in
          let a = s.at_is in
          let n : size.height - row ≡ suc (size.height - (row + 1)) = omega arith in
          let past = drop (2 * size.height) ink₀ in
          let left = rows_from (ink_row size mask) (size.height - (row + 1)) (suc row) in
          let t : suc row * size.width ≡ row * size.width + size.width = suc-mul row size.width in
          record {
            within = omega arith;
            from_is = (let o : row + 1 ≡ suc row = omega arith in rw o (omega arith));
            at_is = omega arith;
            long = simp length-set s.long;
            rest = drop-set-lt (2 * size.height) (set ink at x.first) (at + 1) x.end (omega arith) ∙ drop-set-lt (2 * size.height) ink at x.first (omega arith) ∙ s.rest;
            rows = s.rows ∙ ap (λ (m : ℕ). take (2 * row) ink ++ (rows_from (ink_row size mask) m row ++ past)) n
                ∙ ap (λ (y : List ℕ). take (2 * row) ink ++ ((y ++ left) ++ past)) (sym row_is)
                ∙ sym (append_assoc (take (2 * row) ink) (x.first ∷ x.end ∷ []) (left ++ past))
                ∙ ap (λ (y : List ℕ). y ++ (left ++ past)) (sym front)
                ∙ ap (λ (m : ℕ). take (2 * (row + 1)) after ++ (rows_from (ink_row size mask) (size.height - (row + 1)) m ++ past)) (sym (add-one row));
          }
