-- A text written over a file, piece by piece, and how long a header is. Assumes nothing.
use mathlib.Core.Path.{◌≡◌, refl, sym, ap, ◌∙◌}
use mathlib.Core.Bool.{Bool, true, false, cond}
use mathlib.Core.List.{List, [], ◌∷◌, ◌++◌, append_assoc}
use Prim.Native.Nat.{ℕ, ◌+◌, ◌/◌, ◌%◌, ◌≤◌, ◌<◌}
use native.Mathlib.Omega.{arith}
use native.Mathlib.Numerals.{add-one}
use lib.Dec.{ltb}
use lib.ListN.{length, set, take, drop, length-append, length-drop, take-append-drop}
use lib.Seq.{set_split, length-take-le, take_at, drop-drop, drop-append-add}
use borrow.Author.Tests.{lt-ltb, le-ltb}
use Rattle.cells.specs.declared.Size.{Size}
use Rattle.cells.specs.Over.{over}
use Rattle.pgm_writer.specs.Text.{place, decimal, opening, blank, closing, header_text}

-- ---- over a file

pub over_none : (at : ℕ) (file : List ℕ) → over [] at file ≡ file
over_none at file =
    let z : at + 0 ≡ at = omega arith in
    rw z (take-append-drop at file)

pub over_one : (b at : ℕ) (file : List ℕ) → at < length file → over (b ∷ []) at file ≡ set file at b
over_one b at file h = rw (add-one at) (sym (set_split file at b h))

pub over_length : (text : List ℕ) (at : ℕ) (file : List ℕ) → at + length text ≤ length file → length (over text at file) ≡ length file
over_length text at file h =
    let rest = drop (at + length text) file in
    omega (arith, length-append (take at file) (text ++ rest), length-append text rest, length-take-le at file (omega arith), length-drop (at + length text) file)

-- a text behind a text
over_over : (a b : List ℕ) (at : ℕ) (file : List ℕ) → at + length a ≤ length file → over b (at + length a) (over a at file) ≡ over (a ++ b) at file
over_over a b at file h =
    let f = drop (at + length a) file in
    let front = take at file ++ a in
    let n : length front ≡ at + length a = length-append (take at file) a ∙ ap (λ (k : ℕ). k + length a) (length-take-le at file (omega arith)) in
    let s : over a at file ≡ front ++ f = sym (append_assoc (take at file) a f) in
    let t : take (at + length a) (front ++ f) ≡ front = take_at front f (at + length a) n in
    let m : (at + length a) + length b ≡ length front + length b = omega arith in
    let d : drop ((at + length a) + length b) (front ++ f) ≡ drop (length b) f = ap (λ (k : ℕ). drop k (front ++ f)) m ∙ drop-append-add front f (length b) in
    let u : at + length (a ++ b) ≡ (at + length a) + length b = omega (arith, length-append a b) in
    let rest = drop ((at + length a) + length b) file in
    rw (s, t, d, u, drop-drop (length b) (at + length a) file, append_assoc (take at file) a (b ++ rest), append_assoc a b rest) refl

-- ---- pieces one after another

-- a text was written from a place on, where it had room, and r is the place behind it
pub record Wrote (text : List ℕ) (at : ℕ) (before after : List ℕ) (r : ℕ) : Type 0 where
  pub room : at + length text ≤ length before
  pub behind : r ≡ at + length text
  pub bytes : after ≡ over text at before

pub wrote_long : {text before after : List ℕ} {at r : ℕ} → Wrote text at before after r → length after ≡ length before
wrote_long {text} {before} {after} {at} {r} w = ap length w.bytes ∙ over_length text at before w.room

pub wrote_then : {a b f g h : List ℕ} {at q r : ℕ} → Wrote a at f g q → Wrote b q g h r → Wrote (a ++ b) at f h r
wrote_then {a} {b} {f} {g} {h} {at} {q} {r} x y =
    let p = x.behind in
    let s = y.behind in
    let n = length-append a b in
    let room = y.room in
    let long = wrote_long x in
    record {
      room = omega arith;
      behind = omega arith;
      bytes = y.bytes ∙ ap (λ (k : ℕ). over b k g) p ∙ ap (λ (l : List ℕ). over b (at + length a) l) x.bytes ∙ over_over a b at f x.room;
    }

-- ---- a number

pub place_none : (unit n : ℕ) → n < unit → place unit n ≡ []
unfolding place
place_none unit n h = rw (lt-ltb n unit h) refl

pub place_one : (unit n : ℕ) → unit ≤ n → place unit n ≡ (48 + n / unit % 10) ∷ []
unfolding place
place_one unit n h = rw (le-ltb n unit h) refl

pub place_short : (unit n : ℕ) → length (place unit n) ≤ 1
unfolding place
place_short unit n = short (ltb n unit)
  where
    short : (t : Bool) → length (cond t [] ((48 + n / unit % 10) ∷ [])) ≤ 1
    short true = omega arith
    short false = omega arith

pub decimal_length : (n : ℕ) → length (decimal n) ≡ length (place 1000 n) + (length (place 100 n) + (length (place 10 n) + length (place 1 n)))
unfolding decimal
decimal_length n =
    let tens = place 10 n ++ place 1 n in
    let hundreds = place 100 n ++ tens in
    omega (arith, length-append (place 1000 n) hundreds, length-append (place 100 n) tens, length-append (place 10 n) (place 1 n))

pub decimal_short : (n : ℕ) → length (decimal n) ≤ 4
decimal_short n = omega (arith, decimal_length n, place_short 1000 n, place_short 100 n, place_short 10 n, place_short 1 n)

-- what room is left behind a text of one byte at most
pub room_behind : {text f g : List ℕ} {at r : ℕ} → length text ≤ 1 → (k : ℕ) → Wrote text at f g r → at + (k + 1) ≤ length f → r + k ≤ length g
room_behind short k w h = let b = w.behind in omega (arith, wrote_long w)

-- ---- the header

pub header_length : (size : Size) → length (header_text size) ≡ 9 + length (decimal size.width) + length (decimal size.height)
unfolding header_text
header_length size =
    let w = decimal size.width in
    let h = decimal size.height in
    omega (arith, length-append opening (w ++ (blank ++ (h ++ closing))), length-append w (blank ++ (h ++ closing)), length-append blank (h ++ closing), length-append h closing)
