-- Bytes sent to paper, and a print loop row by row: the cells of the rows sent are the mask's, and those of the others are blank. Assumes nothing.
use mathlib.Core.Path.{◌≡◌, sym, ap, ◌∙◌}
use mathlib.Core.Logic.{inl, inr}
use mathlib.Core.List.{List, ◌++◌}
use Prim.Native.Nat.{ℕ, zero, suc, ◌+◌, ◌*◌, ◌-◌, ◌≤◌, ◌<◌}
use native.Mathlib.Decide.{dec_lt}
use native.Mathlib.Nat.{mul_comm, suc-mul}
use native.Mathlib.Omega.{arith}
use lib.ListN.{length, get_or, take, drop, length-append, length-take, length-drop, length-replicate, get_or-replicate, get_or-append, get_or-eq_default}
use lib.Seq.{length-take-le, get_or-take, get_or-drop, get_or-append-add, ext_get_or}
use Rattle.cells.specs.declared.Size.{Size}
use Rattle.ink.specs.declared.Stretch.{Stretch}
use Rattle.cells.specs.Over.{over}
use Rattle.ink.specs.Ink.{IsInk, line_at, stretch_at}
use Rattle.ink.proofs.Lines.{row_fits, line_long, line_at_lem}
use Rattle.ink.specs.Print.{stretch_of, print_stretches, print_all, blank_paper}

-- ---- one sending, cell by cell

module _ (at : ℕ) (bytes paper : List ℕ) (room : at + length bytes ≤ length paper) where
  front : length (take at paper) ≡ at
  front = length-take-le at paper (omega arith)

  send_length : length (over bytes at paper) ≡ length paper
  send_length = simp (length-append, length-take, length-drop) (omega arith)

  send_before : (c : ℕ) → c < at → get_or (over bytes at paper) c 0 ≡ get_or paper c 0
  send_before c h = let f = front in get_or-append (take at paper) (bytes ++ drop (at + length bytes) paper) 0 c (omega arith) ∙ get_or-take at paper c 0 h

  past : (i : ℕ) → get_or (over bytes at paper) (at + i) 0 ≡ get_or (bytes ++ drop (at + length bytes) paper) i 0
  past i =
      let f = front in
      let e : at + i ≡ length (take at paper) + i = omega arith in
      ap (λ (c : ℕ). get_or (over bytes at paper) c 0) e ∙ get_or-append-add (take at paper) (bytes ++ drop (at + length bytes) paper) i 0

  send_in : (i : ℕ) → i < length bytes → get_or (over bytes at paper) (at + i) 0 ≡ get_or bytes i 0
  send_in i h = past i ∙ get_or-append bytes (drop (at + length bytes) paper) 0 i h

  send_after : (c : ℕ) → at + length bytes ≤ c → get_or (over bytes at paper) c 0 ≡ get_or paper c 0
  send_after c h =
      let i = c - (at + length bytes) in
      let e : c ≡ at + (length bytes + i) = omega arith in
      let d : at + length bytes + i ≡ c = omega arith in
      ap (λ (k : ℕ). get_or (over bytes at paper) k 0) e ∙ past (length bytes + i) ∙ get_or-append-add bytes (drop (at + length bytes) paper) i 0 ∙ get_or-drop (at + length bytes) paper i 0
      ∙ ap (λ (k : ℕ). get_or paper k 0) d

-- ---- row by row

pub record Printed (size : Size) (mask : List ℕ) (row : ℕ) (paper : List ℕ) : Type 0 where
  pub long : length paper ≡ size.width * size.height
  pub done : (c : ℕ) → c < row * size.width → get_or paper c 0 ≡ get_or mask c 0
  pub left : (c : ℕ) → row * size.width ≤ c → get_or paper c 0 ≡ 0

-- bytes of a row that are the mask's, with no ink outside them
pub record Sends (size : Size) (mask : List ℕ) (row first : ℕ) (bytes : List ℕ) : Type 0 where
  pub fits : first + length bytes ≤ size.width
  pub are : (i : ℕ) → i < length bytes → get_or bytes i 0 ≡ get_or mask (row * size.width + (first + i)) 0
  pub before : (k : ℕ) → k < first → get_or mask (row * size.width + k) 0 ≡ 0
  pub after : (k : ℕ) → k < size.width → first + length bytes ≤ k → get_or mask (row * size.width + k) 0 ≡ 0

module _ (size : Size) (mask : List ℕ) (room : size.width * size.height ≤ length mask) where
  abbrev w : ℕ
  w = size.width

  module _ (row : ℕ) (low : row < size.height) where
    module _ (first : ℕ) (bytes paper : List ℕ) (x : Sends size mask row first bytes) (p : Printed size mask row paper) where
      abbrev at : ℕ
      at = row * w + first

      fits : at + length bytes ≤ length paper
      fits = let f = row_fits size row low in let g = x.fits in let l = p.long in omega arith

      mask_0 : (c : ℕ) → row * w ≤ c → get_or mask (row * w + (c - row * w)) 0 ≡ 0 → 0 ≡ get_or mask c 0
      mask_0 c h z = let e : row * w + (c - row * w) ≡ c = omega arith in sym (ap (λ (k : ℕ). get_or mask k 0) (sym e) ∙ z)

      above : (c : ℕ) → c < at → Dec (c < row * w) → get_or paper c 0 ≡ get_or mask c 0
      above c g (yes a) = p.done c a
      above c g (no a) = p.left c (omega arith) ∙ mask_0 c (omega arith) (x.before (c - row * w) (omega arith))

      cell : (c : ℕ) → c < row * w + w → Dec (c < at) → Dec (c < at + length bytes) → get_or (over bytes at paper) c 0 ≡ get_or mask c 0
      cell c h (yes g) d = send_before at bytes paper fits c g ∙ above c g (dec_lt c (row * w))
      cell c h (no g) (yes d) =
          let e : c ≡ at + (c - at) = omega arith in
          let j : row * w + (first + (c - at)) ≡ c = omega arith in
          ap (λ (k : ℕ). get_or (over bytes at paper) k 0) e ∙ send_in at bytes paper fits (c - at) (omega arith) ∙ x.are (c - at) (omega arith) ∙ ap (λ (k : ℕ). get_or mask k 0) j
      cell c h (no g) (no d) = send_after at bytes paper fits c (omega arith) ∙ p.left c (omega arith) ∙ mask_0 c (omega arith) (x.after (c - row * w) (omega arith) (omega arith))

      one_row : Printed size mask (suc row) (over bytes at paper)
      one_row =
          let t : suc row * w ≡ row * w + w = suc-mul row w in
          let g = x.fits in
          record {
            long = send_length at bytes paper fits ∙ p.long;
            done = λ c h. cell c (omega arith) (dec_lt c at) (dec_lt c (at + length bytes));
            left = λ c h. send_after at bytes paper fits c (omega arith) ∙ p.left c (omega arith);
          }

    -- a whole row
    all_sends : Sends size mask row 0 (line_at size mask row)
    all_sends =
        let l = line_long size row low mask room in
        record {
          fits = omega arith;
          are = λ i h. (let e : i ≡ 0 + i = omega arith in line_at_lem size row low mask i (omega arith) ∙ ap (λ (k : ℕ). get_or mask (row * w + k) 0) e);
          before = λ k h. absurd (omega arith);
          after = λ k h g. absurd (omega arith);
        }

    -- a stretch
    stretch_sends : (s : Stretch) → IsInk (line_at size mask row) s → Sends size mask row s.first (stretch_of s (line_at size mask row))
    stretch_sends s (inl b) =
        let p = b.first_0 in
        let q = b.end_0 in
        let n : length (stretch_of s (line_at size mask row)) ≡ 0 = length-take (s.end - s.first) (drop s.first (line_at size mask row)) ∙ omega arith in
        record {
          fits = omega arith;
          are = λ i h. absurd (omega arith);
          before = λ k h. absurd (omega arith);
          after = λ k h g. sym (line_at_lem size row low mask k h) ∙ b.zeros k;
        }
    stretch_sends s (inr x) =
        let a = x.some in
        let b = x.within in
        let l = line_long size row low mask room in
        let line = line_at size mask row in
        let n : length (stretch_of s line) ≡ s.end - s.first = simp (length-take (s.end - s.first) (drop s.first line), length-drop s.first line) (omega arith) in
        record {
          fits = omega arith;
          are = λ i h. get_or-take (s.end - s.first) (drop s.first line) i 0 (omega arith) ∙ get_or-drop s.first line i 0
              ∙ line_at_lem size row low mask (s.first + i) (omega arith);
          before = λ k h. sym (line_at_lem size row low mask k (omega arith)) ∙ x.before k h;
          after = λ k h g. sym (line_at_lem size row low mask k h) ∙ x.after k (omega arith);
        }

  start : Printed size mask 0 (blank_paper size)
  start =
      record {
        long = length-replicate (w * size.height) 0;
        done = λ c h. absurd (omega arith);
        left = λ c h. blank c (dec_lt c (w * size.height));
      }
    where
      blank : (c : ℕ) → Dec (c < w * size.height) → get_or (blank_paper size) c 0 ≡ 0
      blank c (yes h) = get_or-replicate (w * size.height) c 0 0 h
      blank c (no h) = let l = length-replicate (w * size.height) (zero) in get_or-eq_default (blank_paper size) 0 (omega arith)

  stretches_rows : (ink : List ℕ) → ((row : ℕ) → row < size.height → IsInk (line_at size mask row) (stretch_at ink row))
      → (n row : ℕ) (paper : List ℕ) → row + n ≡ size.height → Printed size mask row paper → Printed size mask size.height (print_stretches size mask ink n row paper)
  unfolding print_stretches
  stretches_rows ink is zero row paper e p = let d : row ≡ size.height = omega arith in rw d at p
  stretches_rows ink is (suc n) row paper e p =
      let h : row < size.height = omega arith in
      let s = stretch_at ink row in
      let bytes = stretch_of s (line_at size mask row) in
      stretches_rows ink is n (suc row) (over bytes (row * w + s.first) paper) (omega arith)
      (one_row row h s.first bytes paper (stretch_sends row h s (is row h)) p)

  all_rows : (n row : ℕ) (paper : List ℕ) → row + n ≡ size.height → Printed size mask row paper → Printed size mask size.height (print_all size mask n row paper)
  unfolding print_all
  all_rows zero row paper e p = let d : row ≡ size.height = omega arith in rw d at p
  all_rows (suc n) row paper e p =
      let h : row < size.height = omega arith in
      let z : row * w + 0 ≡ row * w = omega arith in
      all_rows n (suc row) (over (line_at size mask row) (row * w) paper) (omega arith)
      (rw z at (one_row row h 0 (line_at size mask row) paper (all_sends row h) p))

  whole : (paper : List ℕ) → Printed size mask size.height paper → paper ≡ take (w * size.height) mask
  whole paper p =
      let c : size.height * w ≡ w * size.height = mul_comm size.height w in
      let l = p.long in
      let t : length (take (w * size.height) mask) ≡ w * size.height = length-take-le (w * size.height) mask room in
      ext_get_or 0 paper (take (w * size.height) mask) (l ∙ sym t) (λ i h. p.done i (omega arith) ∙ sym (get_or-take (w * size.height) mask i 0 (omega arith)))

  pub stretches_are : (ink : List ℕ) → ((row : ℕ) → row < size.height → IsInk (line_at size mask row) (stretch_at ink row))
      → print_stretches size mask ink size.height 0 (blank_paper size) ≡ take (w * size.height) mask
  stretches_are ink is = whole (print_stretches size mask ink size.height 0 (blank_paper size)) (stretches_rows ink is size.height 0 (blank_paper size) (omega arith) start)

  pub all_are : print_all size mask size.height 0 (blank_paper size) ≡ take (w * size.height) mask
  all_are = whole (print_all size mask size.height 0 (blank_paper size)) (all_rows size.height 0 (blank_paper size) (omega arith) start)
