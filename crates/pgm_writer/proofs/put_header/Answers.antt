-- `pgm_writer::put_header` meets its contract: five pieces, one behind another. Assumes nothing.
use mathlib.Core.Path.{◌≡◌, sym}
use mathlib.Core.List.{List, [], ◌++◌, append_assoc}
use Prim.Native.Nat.{ℕ, ◌+◌, ◌≤◌}
use native.Mathlib.Omega.{arith}
use lib.ListN.{length, length-append}
use Rattle.cells.specs.declared.Size.{Size}
use Rattle.cells.specs.Over.{over}
use Rattle.pgm_writer.specs.Text.{decimal, opening, blank, closing, header_text}
use Rattle.pgm_writer.proofs.Texts.{Wrote, wrote_long, wrote_then, over_none, header_length}
use Rattle.pgm_writer.proofs.put_header.Goals as goal

-- ---- what stands at the front of the file, and a piece behind it

none : (file : List ℕ) → Wrote [] 0 file file 0
none file = record { room = omega arith; behind = omega arith; bytes = sym (over_none 0 file) }

room_next : (n : ℕ) {text file f : List ℕ} {r : ℕ} → Wrote text 0 file f r → length text + n ≤ length file → r + n ≤ length f
room_next n w h = let b = w.behind in omega (arith, wrote_long w)

next : {text : List ℕ} (piece : List ℕ) {file f g : List ℕ} {p q : ℕ} → Wrote text 0 file f p → length text + length piece ≤ length file → q ≡ p + length piece → g ≡ over piece p f
    → Wrote (text ++ piece) 0 file g q
next piece w h e b = wrote_then w (record { room = room_next (length piece) w h; behind = e; bytes = b })

-- ---- the pieces of a header, which has room

abbrev width : Size → List ℕ
width size = decimal size.width

abbrev height : Size → List ℕ
height size = decimal size.height

module _ (size : Size) (file : List ℕ) (room : length (header_text size) ≤ length file) where
  -- nine bytes and both numbers
  long : 9 + length (width size) + length (height size) ≤ length file
  long = omega (arith, header_length size)

  first : {f : List ℕ} {p : ℕ} → p ≡ 0 + length opening → f ≡ over opening 0 file → Wrote opening 0 file f p
  first e b = next opening (none file) (omega (arith, long)) e b

  module _ {f : List ℕ} {p : ℕ} (w : Wrote opening 0 file f p) where
    number_room : p + 4 ≤ length f
    number_room = room_next 4 w (omega (arith, long))

    second : {g : List ℕ} {q : ℕ} → q ≡ p + length (width size) → g ≡ over (width size) p f → Wrote (opening ++ width size) 0 file g q
    second e b = next (width size) w (omega (arith, long)) e b

  module _ {f : List ℕ} {p : ℕ} (w : Wrote (opening ++ width size) 0 file f p) where
    blank_room : p + 1 ≤ length f
    blank_room = room_next 1 w (omega (arith, long, length-append opening (width size)))

    third : {g : List ℕ} {q : ℕ} → q ≡ p + length blank → g ≡ over blank p f → Wrote ((opening ++ width size) ++ blank) 0 file g q
    third e b = next blank w (omega (arith, long, length-append opening (width size))) e b

  module _ {f : List ℕ} {p : ℕ} (w : Wrote ((opening ++ width size) ++ blank) 0 file f p) where
    written : length ((opening ++ width size) ++ blank) ≡ 4 + length (width size)
    written = omega (arith, length-append opening (width size), length-append (opening ++ width size) blank)

    height_room : p + 4 ≤ length f
    height_room = room_next 4 w (omega (arith, long, written))

    fourth : {g : List ℕ} {q : ℕ} → q ≡ p + length (height size) → g ≡ over (height size) p f → Wrote (((opening ++ width size) ++ blank) ++ height size) 0 file g q
    fourth e b = next (height size) w (omega (arith, long, written)) e b

  module _ {f : List ℕ} {p : ℕ} (w : Wrote (((opening ++ width size) ++ blank) ++ height size) 0 file f p) where
    all_written : length (((opening ++ width size) ++ blank) ++ height size) ≡ 4 + length (width size) + length (height size)
    all_written =
        omega (arith, length-append opening (width size), length-append (opening ++ width size) blank, length-append ((opening ++ width size) ++ blank) (height size))

    closing_room : p + 5 ≤ length f
    closing_room = room_next 5 w (omega (arith, long, all_written))

    fifth : {g : List ℕ} {q : ℕ} → q ≡ p + length closing → g ≡ over closing p f → Wrote (header_text size) 0 file g q
    unfolding header_text
    fifth {g} {q} e b =
        rw (
          append_assoc ((opening ++ width size) ++ blank) (height size) closing,
          append_assoc (opening ++ width size) blank (height size ++ closing),
          append_assoc opening (width size) (blank ++ (height size ++ closing)),
        ) at (next closing w (omega (arith, long, all_written)) e b)

pub put_bytes-width-requires : goal.put_bytes-width-requires
put_bytes-width-requires c = omega (arith, c.requires, header_length c.args.size)

pub put_number-blank-requires : goal.put_number-blank-requires
put_number-blank-requires c =
    let one = first c.args.size c.args.file.now c.requires c.put_bytes-width.ensures.value c.put_bytes-width.ensures.to_after in
    number_room c.args.size c.args.file.now c.requires one

pub put_bytes-height-requires : goal.put_bytes-height-requires
put_bytes-height-requires c =
    let one = first c.args.size c.args.file.now c.requires c.put_bytes-width.ensures.value c.put_bytes-width.ensures.to_after in
    let two = second c.args.size c.args.file.now c.requires one c.put_number-blank.ensures.value c.put_number-blank.ensures.file_after in
    blank_room c.args.size c.args.file.now c.requires two

pub put_number-depth-requires : goal.put_number-depth-requires
put_number-depth-requires c =
    let one = first c.args.size c.args.file.now c.requires c.put_bytes-width.ensures.value c.put_bytes-width.ensures.to_after in
    let two = second c.args.size c.args.file.now c.requires one c.put_number-blank.ensures.value c.put_number-blank.ensures.file_after in
    let three = third c.args.size c.args.file.now c.requires two c.put_bytes-height.ensures.value c.put_bytes-height.ensures.to_after in
    height_room c.args.size c.args.file.now c.requires three

pub put_bytes-requires : goal.put_bytes-requires
put_bytes-requires c =
    let one = first c.args.size c.args.file.now c.requires c.put_bytes-width.ensures.value c.put_bytes-width.ensures.to_after in
    let two = second c.args.size c.args.file.now c.requires one c.put_number-blank.ensures.value c.put_number-blank.ensures.file_after in
    let three = third c.args.size c.args.file.now c.requires two c.put_bytes-height.ensures.value c.put_bytes-height.ensures.to_after in
    let four = fourth c.args.size c.args.file.now c.requires three c.put_number-depth.ensures.value c.put_number-depth.ensures.file_after in
    closing_room c.args.size c.args.file.now c.requires four

pub returns : goal.returns
returns c =
    let one = first c.args.size c.args.file.now c.requires c.put_bytes-width.ensures.value c.put_bytes-width.ensures.to_after in
    let two = second c.args.size c.args.file.now c.requires one c.put_number-blank.ensures.value c.put_number-blank.ensures.file_after in
    let three = third c.args.size c.args.file.now c.requires two c.put_bytes-height.ensures.value c.put_bytes-height.ensures.to_after in
    let four = fourth c.args.size c.args.file.now c.requires three c.put_number-depth.ensures.value c.put_number-depth.ensures.file_after in
    let five = fifth c.args.size c.args.file.now c.requires four c.put_bytes.ensures.value c.put_bytes.ensures.to_after in
    let b = five.behind in
    record {
      value = omega arith;
      file_after = five.bytes;
    }
