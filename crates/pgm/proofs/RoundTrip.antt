-- What is written is read (specs/Laws.antt, RoundTrip). Assumes nothing.
use mathlib.Core.Path.{◌≡◌, refl, ap, ◌∙◌}
use mathlib.Core.Bool.{true}
use mathlib.Core.List.{List, [], ◌∷◌, ◌++◌, append_assoc}
use Prim.Native.Nat.{ℕ}
use native.Mathlib.Omega.{arith}
use lib.ListN.{length, take, drop, length-append}
use lib.Seq.{take_at, length-take-le}
use Rattle.cells.specs.declared.Size.{Size}
use Rattle.cells.specs.Cells.{cells_of, SizeAllowed}
use Rattle.ink.specs.Lent.{lent}
use Rattle.pgm_reader.specs.Reading.{is_space, is_digit, value_of}
use Rattle.pgm_reader.specs.Laws.{All, Spaces, Digits, FieldIs, HeaderIs}
use Rattle.pgm_writer.specs.Text.{HasCells, blank, closing, decimal, header_text, pgm_of}
use Rattle.pgm.specs.Calls.{record_read, read_call, mask_after_reading}
use Rattle.pgm.specs.Laws.{Taken, RoundTrip}
use Rattle.std.specs.Prelude.{Ok}
use Rattle.pgm.proofs.Writing.{written_exactly_when}
use Rattle.pgm.proofs.Reading.{done, cells_read}
use Rattle.pgm.proofs.Decimal.{decimals}

-- ---- the pieces of a written header

line_feed : Spaces (10 ∷ [])
unfolding All is_space
line_feed = record { all = (refl, tt); some = omega arith }

one_blank : Spaces (32 ∷ [])
unfolding All is_space
one_blank = record { all = (refl, tt); some = omega arith }

full_depth : Digits (50 ∷ 53 ∷ 53 ∷ [])
unfolding All is_digit
full_depth = record { all = (refl, (refl, (refl, tt))); some = omega arith; few = omega arith }

full_value : value_of 0 (50 ∷ 53 ∷ 53 ∷ []) ≡ 255
unfolding value_of
full_value = refl

last_line_feed : is_space 10 ≡ true
unfolding is_space
last_line_feed = refl

-- ---- a written file is taken

module _ (size : Size) (cells : List ℕ) where
  abbrev after_height : List ℕ
  after_height = 10 ∷ 50 ∷ 53 ∷ 53 ∷ 10 ∷ cells

  abbrev after_width : List ℕ
  after_width = 32 ∷ (decimal size.height ++ after_height)

  bytes : pgm_of size cells ≡ 80 ∷ 53 ∷ 10 ∷ (decimal size.width ++ after_width)
  unfolding header_text
  bytes =
      let w = decimal size.width in
      let h = decimal size.height in
      ap (λ (x : List ℕ). 80 ∷ 53 ∷ 10 ∷ x) (append_assoc w (blank ++ (h ++ closing)) cells ∙ ap (λ (x : List ℕ). w ++ (32 ∷ x)) (append_assoc h closing cells))

  written_taken : HasCells size → SizeAllowed size → length cells ≡ cells_of size → Taken (pgm_of size cells) size cells
  written_taken h s e =
      let w = decimals size.width h.0 s.0 in
      let t = decimals size.height h.1 s.1 in
      let width : FieldIs (10 ∷ (decimal size.width ++ after_width)) size.width after_width =
      record { space = 10 ∷ []; digits = decimal size.width; is = refl; is_space_law = line_feed; is_digits = w.digits; value = w.value } in
      let height : FieldIs after_width size.height after_height =
      record { space = 32 ∷ []; digits = decimal size.height; is = refl; is_space_law = one_blank; is_digits = t.digits; value = t.value } in
      let depth : FieldIs after_height 255 (10 ∷ cells) =
      record { space = 10 ∷ []; digits = 50 ∷ 53 ∷ 53 ∷ []; is = refl; is_space_law = line_feed; is_digits = full_depth; value = full_value } in
      let header : HeaderIs (pgm_of size cells) size 255 cells =
      record {
        after_mark = 10 ∷ (decimal size.width ++ after_width);
        after_width = after_width;
        after_height = after_height;
        last = 10;
        is_mark = bytes;
        is_width = width;
        is_height = height;
        is_depth = depth;
        is_last = last_line_feed;
        wide = h.0;
        high = h.1;
      } in
      record { header = header; size_allowed = s; exactly = e }

pub round_trip : RoundTrip
round_trip size mask file other ink n e fits =
    let w = written_exactly_when.done_only size (length mask) (length file) n e in
    let can = w.0 in
    let cells = take (cells_of size) mask in
    let l : length cells ≡ cells_of size = length-take-le (cells_of size) mask can.cells in
    let k : length (pgm_of size cells) ≡ n = (let m = w.1 in omega (arith, length-append (header_text size) cells)) in
    let front : take n (pgm_of size cells ++ drop n file) ≡ pgm_of size cells = take_at (pgm_of size cells) (drop n file) n k in
    let taken = written_taken size cells can.has_cells can.size_allowed l in (
      ap (λ (x : List ℕ). read_call x (lent other ink)) front ∙ done taken (lent other ink) fits,
      ap (λ (x : List ℕ). mask_after_reading (Ok (record_read size)) x other) front ∙ cells_read taken other,
    )
