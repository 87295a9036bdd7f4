-- The reading, step by step: what each function of the code answers, case by case. Assumes nothing.
use mathlib.Core.Path.{◌≡◌, refl, sym, ap, ◌∙◌}
use mathlib.Core.Bool.{true, false}
use mathlib.Core.List.{List, [], ◌∷◌}
use Prim.Native.Nat.{ℕ, suc, ◌+◌, ◌≤◌, ◌<◌}
use native.Mathlib.Omega.{arith}
use native.Mathlib.Numerals.{add-one}
use lib.ListN.{length, get_or, take, drop, drop_of_length-le}
use lib.Seq.{drop-drop, drop-cons}
use borrow.Author.Tests.{ne_eqb, le-ltb, eq-eqb, lt-ltb}
use Rattle.cells.specs.declared.Size.{Size}
use Rattle.pgm_reader.specs.Reading.{is_space, is_digit, leading, value_of, ok, bad, and_then, read_digits, read_field, read_positive, read_mark, read_space, read_depth, read_fields, read_header}
use Rattle.pgm_reader.specs.Steps.{field_of, header_of}
use Rattle.std.specs.Prelude.{None}
use Rattle.pgm_reader.proofs.Runs.{leading_fits}
use Rattle.pgm_reader.proofs.Laws.{positive_is, depth_is}
use Rattle.pgm_reader.proofs.Places.{place_back, some_field, some_header}

-- ---- field_at
pub field_spaceless : (total : ℕ) (l : List ℕ) → leading is_space l ≡ 0 → None ≡ field_of total (read_field l)
unfolding read_field
field_spaceless total l e = rw (e) refl

module _ (file : List ℕ) (from s d : ℕ) (hs : s ≡ leading is_space (drop from file)) (ps : s ≡ 0 → ⊥) (hd : d ≡ leading is_digit (drop (from + s) file)) where
  to_digits : read_field (drop from file) ≡ read_digits (drop (from + s) file)
  unfolding read_field
  to_digits = rw (sym hs, ne_eqb s 0 ps, drop-drop s from file) refl

  pub field_digitless : d ≡ 0 → None ≡ field_of (length file) (read_field (drop from file))
  unfolding read_digits
  field_digitless z = rw (to_digits, sym hd, eq-eqb d 0 z) refl

  pub field_long : 9 < d → None ≡ field_of (length file) (read_field (drop from file))
  unfolding read_digits
  field_long h = rw (to_digits, sym hd, ne_eqb d 0 (λ q. omega arith), lt-ltb 9 d h) refl

  pub field_number : (d ≡ 0 → ⊥) → d ≤ 9 → from + s ≤ length file → some_field (value_of 0 (take d (drop (from + s) file))) (from + s + d) ≡ field_of (length file) (read_field (drop from file))
  unfolding read_digits
  field_number nz h w =
      let f = leading_fits is_digit file (from + s) w in
      let b = place_back file (from + s + d) (omega arith) in
      rw (to_digits, sym hd, ne_eqb d 0 nz, le-ltb 9 d h, drop-drop d (from + s) file, b) refl

-- ---- positive_at
pub positive_none : (total : ℕ) (l : List ℕ) → read_field l ≡ bad → None ≡ field_of total (read_positive l)
unfolding read_positive and_then
positive_none total l e = rw e refl

pub positive_zero : (total : ℕ) (l : List ℕ) (n : ℕ) (rest : List ℕ) → read_field l ≡ ok n rest → n ≡ 0 → None ≡ field_of total (read_positive l)
unfolding read_positive and_then
positive_zero total l n rest e z = rw (e, eq-eqb n 0 z) refl

pub positive_number : (file : List ℕ) (from n at : ℕ) → read_field (drop from file) ≡ ok n (drop at file) → at ≤ length file → (n ≡ 0 → ⊥)
    → some_field n at ≡ field_of (length file) (read_positive (drop from file))
positive_number file from n at e h z = rw (positive_is (drop from file) n (drop at file) e z, place_back file at h) refl

-- ---- depth_at
pub depth_none : (total : ℕ) (size : Size) (l : List ℕ) → read_field l ≡ bad → None ≡ header_of total (read_depth size l)
unfolding read_depth and_then
depth_none total size l e = rw e refl

pub depth_end : (file : List ℕ) (size : Size) (l : List ℕ) (n at : ℕ) → read_field l ≡ ok n (drop at file) → length file ≤ at → None ≡ header_of (length file) (read_depth size l)
unfolding read_depth and_then read_space
depth_end file size l n at e h = rw (e, drop_of_length-le file {i = at} h) refl

pub depth_other : (file : List ℕ) (size : Size) (l : List ℕ) (n at : ℕ) → read_field l ≡ ok n (drop at file) → at < length file
    → is_space (get_or file at 0) ≡ false → None ≡ header_of (length file) (read_depth size l)
unfolding read_depth and_then read_space
depth_other file size l n at e h s = rw (e, drop-cons file at 0 h, s) refl

pub depth_there : (file : List ℕ) (size : Size) (l : List ℕ) (n at : ℕ) → read_field l ≡ ok n (drop at file) → at < length file → is_space (get_or file at 0) ≡ true
    → some_header size n (at + 1) ≡ header_of (length file) (read_depth size l)
depth_there file size l n at e h s =
    let r = depth_is size l n (get_or file at 0) (drop (suc at) file) (e ∙ ap (λ (x : List ℕ). ok n x) (drop-cons file at 0 h)) s in
    let b = place_back file (at + 1) (omega arith) in
    rw (r, sym (add-one at), b) refl

-- ---- fields_at
pub fields_none : (total : ℕ) (l : List ℕ) → read_positive l ≡ bad → None ≡ header_of total (read_fields l)
unfolding read_fields and_then
fields_none total l e = rw e refl

pub fields_half : (total : ℕ) (l : List ℕ) (w : ℕ) (m : List ℕ) → read_positive l ≡ ok w m → read_positive m ≡ bad → None ≡ header_of total (read_fields l)
unfolding read_fields and_then
fields_half total l w m e f = rw (e, f) refl

-- ---- read_header
pub mark_short : (file : List ℕ) → length file < 2 → None ≡ header_of (length file) (read_header file)
unfolding read_header and_then read_mark
mark_short [] h = refl
mark_short (a ∷ []) h = refl
mark_short (a ∷ b ∷ bs) h = absurd (omega arith)

pub mark_first : (file : List ℕ) → 2 ≤ length file → (get_or file 0 0 ≡ 80 → ⊥) → None ≡ header_of (length file) (read_header file)
unfolding read_header and_then read_mark
mark_first [] h n = absurd (omega arith)
mark_first (a ∷ []) h n = absurd (omega arith)
mark_first (a ∷ b ∷ bs) h n = rw (ne_eqb a 80 n) refl

pub mark_second : (file : List ℕ) → 2 ≤ length file → get_or file 0 0 ≡ 80 → (get_or file 1 0 ≡ 53 → ⊥) → None ≡ header_of (length file) (read_header file)
unfolding read_header and_then read_mark
mark_second [] h e n = absurd (omega arith)
mark_second (a ∷ []) h e n = absurd (omega arith)
mark_second (a ∷ b ∷ bs) h e n = rw (eq-eqb a 80 e, ne_eqb b 53 n) refl

pub mark_there : (file : List ℕ) → 2 ≤ length file → get_or file 0 0 ≡ 80 → get_or file 1 0 ≡ 53 → read_fields (drop 2 file) ≡ read_header file
unfolding read_header and_then read_mark
mark_there [] h e f = absurd (omega arith)
mark_there (a ∷ []) h e f = absurd (omega arith)
mark_there (a ∷ b ∷ bs) h e f = rw (eq-eqb a 80 e, eq-eqb b 53 f) refl
