-- A header is read exactly when there is one (specs/Laws.antt). Assumes nothing.
use mathlib.Core.Path.{◌≡◌, refl, sym, ap, ◌∙◌}
use mathlib.Core.Bool.{Bool, true, false, cond, ◌&&◌}
use mathlib.Core.List.{List, [], ◌∷◌}
use Prim.Native.Nat.{ℕ}
use native.Mathlib.Omega.{arith}
use lib.Dec.{eqb}
use borrow.Author.Tests.{eqb-true, ne_eqb}
use Rattle.cells.specs.declared.Size.{Size}
use Rattle.pgm_reader.specs.Reading.{is_space, Read, ok, bad, and_then, read_mark, read_field, read_positive, read_space, Head, read_depth, read_fields, read_header}
use Rattle.pgm_reader.specs.Laws.{FieldIs, HeaderIs, HeaderExactlyWhen, OneHeader}
use Rattle.pgm_reader.proofs.Runs.{both}
use Rattle.pgm_reader.proofs.Fields.{passed, above, field_is, field_read, field_stops, space_stops}

-- ---- what is read: one after another

record Both {A B : Type 0} (r : Read A) (more : A → List ℕ → Read B) (b : B) (rest : List ℕ) : Type 0 where
  value : A
  middle : List ℕ
  first : r ≡ ok value middle
  second : more value middle ≡ ok b rest

then_ok : {A B : Type 0} (r : Read A) (more : A → List ℕ → Read B) (b : B) (rest : List ℕ) → and_then r more ≡ ok b rest → Both r more b rest
unfolding and_then
then_ok (ok a m) more b rest e = record { value = a; middle = m; first = refl; second = e }
then_ok bad more b rest e = let z : ◌≡◌ {A = ℕ} 0 1 = cc in absurd (omega arith)

chosen : {A : Type 0} (t : Bool) (r : Read A) (a : A) (rest : List ℕ) → cond t r bad ≡ ok a rest → (t ≡ true) × (r ≡ ok a rest)
chosen true r a rest e = (refl, e)
chosen false r a rest e = let z : ◌≡◌ {A = ℕ} 0 1 = cc in absurd (omega arith)

mark_ok : (l : List ℕ) (u : Unit) (m : List ℕ) → read_mark l ≡ ok u m → l ≡ 80 ∷ 53 ∷ m
unfolding read_mark
mark_ok [] u m e = let z : ◌≡◌ {A = ℕ} 0 1 = cc in absurd (omega arith)
mark_ok (a ∷ []) u m e = let z : ◌≡◌ {A = ℕ} 0 1 = cc in absurd (omega arith)
mark_ok (a ∷ b ∷ bs) u m e =
    let p = chosen (eqb a 80 && eqb b 53) (ok tt bs) u m e in
    let q = both (eqb a 80) (eqb b 53) p.0 in
    let x = eqb-true a 80 q.0 in
    let y = eqb-true b 53 q.1 in
    let r = p.1 in
    let s : bs ≡ m = cc in
    cc

space_ok : (l : List ℕ) (u : Unit) (m : List ℕ) → read_space l ≡ ok u m → (b : ℕ) × (l ≡ b ∷ m) × (is_space b ≡ true)
unfolding read_space
space_ok [] u m e = let z : ◌≡◌ {A = ℕ} 0 1 = cc in absurd (omega arith)
space_ok (b ∷ bs) u m e =
    let p = chosen (is_space b) (ok tt bs) u m e in
    let r = p.1 in
    let s : bs ≡ m = cc in
    (b, ap (λ (x : List ℕ). b ∷ x) s, p.0)

-- a width or a height, and that it is not 0
pub positive_ok : (l : List ℕ) (n : ℕ) (rest : List ℕ) → read_positive l ≡ ok n rest → (read_field l ≡ ok n rest) × (eqb n 0 ≡ false)
unfolding read_positive
positive_ok l n rest e =
    let b = then_ok (read_field l) (λ k more. cond (eqb k 0) bad (ok k more)) n rest e in
    let p = passed (eqb b.value 0) (ok b.value b.middle) n rest b.second in
    let q = p.1 in
    let f = b.first in
    let v : b.value ≡ n = cc in
    (cc, ap (λ (k : ℕ). eqb k 0) (sym v) ∙ p.0)

record DepthIs (size : Size) (l : List ℕ) (h : Head) (rest : List ℕ) : Type 0 where
  last : ℕ
  field : FieldIs l h.depth (last ∷ rest)
  is_last : is_space last ≡ true
  same : h.size ≡ size

depth_ok : (size : Size) (l : List ℕ) (h : Head) (rest : List ℕ) → read_depth size l ≡ ok h rest → DepthIs size l h rest
unfolding read_depth
depth_ok size l h rest e =
    let a = then_ok (read_field l) _ h rest e in
    let b = then_ok (read_space a.middle) _ h rest a.second in
    let s = space_ok a.middle b.value b.middle b.first in
    let q = b.second in
    let r : b.middle ≡ rest = cc in
    let d : h ≡ record { size = size; depth = a.value } = cc in
    let v : a.value ≡ h.depth = ap (λ (x : Head). x.depth) (sym d) in
    let m : a.middle ≡ s.0 ∷ rest = s.1 ∙ ap (λ (x : List ℕ). s.0 ∷ x) r in
    let f : read_field l ≡ ok h.depth (s.0 ∷ rest) = a.first ∙ ap (λ (x : ℕ). ok x a.middle) v ∙ ap (λ (x : List ℕ). ok h.depth x) m in
    record { last = s.0; field = field_is l h.depth (s.0 ∷ rest) f; is_last = s.2; same = ap (λ (x : Head). x.size) d }

header_only : (file : List ℕ) (h : Head) (raster : List ℕ) → read_header file ≡ ok h raster → HeaderIs file h.size h.depth raster
unfolding read_header read_fields
header_only file h raster e =
    let m = then_ok (read_mark file) _ h raster e in
    let w = then_ok (read_positive m.middle) _ h raster m.second in
    let t = then_ok (read_positive w.middle) _ h raster w.second in
    let d = depth_ok (record { width = w.value; height = t.value }) t.middle h raster t.second in
    let pw = positive_ok m.middle w.value w.middle w.first in
    let pt = positive_ok w.middle t.value t.middle t.first in
    let ew : w.value ≡ h.size.width = ap (λ (x : Size). x.width) (sym d.same) in
    let et : t.value ≡ h.size.height = ap (λ (x : Size). x.height) (sym d.same) in
    let zw = above w.value pw.1 in
    let zt = above t.value pt.1 in
    record {
      after_mark = m.middle;
      after_width = w.middle;
      after_height = t.middle;
      last = d.last;
      is_mark = mark_ok file m.value m.middle m.first;
      is_width = field_is m.middle h.size.width w.middle (pw.0 ∙ ap (λ (x : ℕ). ok x w.middle) ew);
      is_height = field_is w.middle h.size.height t.middle (pt.0 ∙ ap (λ (x : ℕ). ok x t.middle) et);
      is_depth = d.field;
      is_last = d.is_last;
      wide = omega arith;
      high = omega arith;
    }

-- ---- a header is read

pub positive_is : (l : List ℕ) (n : ℕ) (rest : List ℕ) → read_field l ≡ ok n rest → (n ≡ 0 → ⊥) → read_positive l ≡ ok n rest
unfolding read_positive and_then
positive_is l n rest e z = rw (e, ne_eqb n 0 z) refl

pub depth_is : (size : Size) (l : List ℕ) (n b : ℕ) (rest : List ℕ) → read_field l ≡ ok n (b ∷ rest) → is_space b ≡ true
    → read_depth size l ≡ ok (record { size = size; depth = n }) rest
unfolding read_depth and_then read_space
depth_is size l n b rest e s = rw (e, s) refl

pub fields_are : (l : List ℕ) (w : ℕ) (m : List ℕ) (h : ℕ) (rest : List ℕ) → read_positive l ≡ ok w m → read_positive m ≡ ok h rest
    → read_depth (record { width = w; height = h }) rest ≡ read_fields l
unfolding read_fields and_then
fields_are l w m h rest e f = rw (e, f) refl

marked : (l : List ℕ) → read_header (80 ∷ 53 ∷ l) ≡ read_fields l
unfolding read_header and_then read_mark
marked l = refl

header_always : (file : List ℕ) (size : Size) (depth : ℕ) (raster : List ℕ) → HeaderIs file size depth raster
    → read_header file ≡ ok (record { size = size; depth = depth }) raster
header_always file size depth raster h =
    let width = field_read h.is_width (field_stops h.is_height) in
    let height = field_read h.is_height (field_stops h.is_depth) in
    let w = positive_is h.after_mark size.width h.after_width width (λ z. let p = h.wide in omega arith) in
    let t = positive_is h.after_width size.height h.after_height height (λ z. let p = h.high in omega arith) in
    let d = field_read h.is_depth (space_stops h.last raster h.is_last) in
    ap read_header h.is_mark ∙ marked h.after_mark
    ∙ sym (fields_are h.after_mark size.width h.after_width size.height h.after_height w t)
    ∙ depth_is size h.after_height depth h.last raster d h.is_last

pub header_exactly_when : HeaderExactlyWhen
header_exactly_when = record { only = header_only; always = header_always }

pub one_header : OneHeader
one_header file size size' depth depth' raster raster' h k =
    let a = header_always file size depth raster h in
    let b = header_always file size' depth' raster' k in
    let e : ◌≡◌ {A = Read Head} (ok (record { size = size; depth = depth }) raster) (ok (record { size = size'; depth = depth' }) raster') = sym a ∙ b in
    let f : ◌≡◌ {A = Head} (record { size = size; depth = depth }) (record { size = size'; depth = depth' }) = cc in
    (ap (λ (x : Head). x.size) f, ap (λ (x : Head). x.depth) f, cc)
