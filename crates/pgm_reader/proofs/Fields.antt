-- A number of the header, both ways: what is read is whitespace and digits, and whitespace and digits are read. Assumes nothing.
use mathlib.Core.Path.{◌≡◌, refl, sym, ap, ◌∙◌}
use mathlib.Core.Bool.{Bool, true, false, cond, ◌||◌}
use mathlib.Core.List.{List, [], ◌∷◌, ◌++◌}
use Prim.Native.Nat.{ℕ, zero, suc, ◌<◌}
use native.Mathlib.Omega.{arith}
use lib.Dec.{ltb, eqb}
use lib.ListN.{length, take, drop, take-append-drop}
use lib.Seq.{length-take-le, take-append_seam, drop-append_seam}
use borrow.Author.Tests.{eqb-false, ne_eqb, ltb-false, le-ltb}
use Rattle.pgm_reader.specs.Reading.{is_space, is_digit, leading, value_of, Read, ok, bad, read_digits, read_field}
use Rattle.pgm_reader.specs.Laws.{All, Spaces, Digits, FieldIs}
use Rattle.pgm_reader.proofs.Runs.{leading_within, digit_range}

-- ---- what is read

pub passed : {A : Type 0} (t : Bool) (r : Read A) (a : A) (rest : List ℕ) → cond t bad r ≡ ok a rest → (t ≡ false) × (r ≡ ok a rest)
passed true r a rest e = let z : ◌≡◌ {A = ℕ} 0 1 = cc in absurd (omega arith)
passed false r a rest e = (refl, e)

pub neither : (a b : Bool) → (a || b) ≡ false → (a ≡ false) × (b ≡ false)
neither true b e = absurd (mathlib.Core.Bool.true≢false e)
neither false b e = (refl, e)

pub above : (n : ℕ) → eqb n 0 ≡ false → 0 < n
above n e = let h = eqb-false n 0 e in positive n h
  where
    positive : (n : ℕ) → (n ≡ 0 → ⊥) → 0 < n
    positive zero h = absurd (h refl)
    positive (suc n) h = omega arith

leading_all : (is : ℕ → Bool) (l : List ℕ) → All is (take (leading is l) l)
unfolding leading All
leading_all is [] = tt
leading_all is (b ∷ bs) = more (is b) refl (leading_all is bs)
  where
    more : (t : Bool) → is b ≡ t → All is (take (leading is bs) bs) → All is (take (cond t (suc (leading is bs)) 0) (b ∷ bs))
    more true e h = (e, h)
    more false e h = tt

pub field_is : (l : List ℕ) (n : ℕ) (rest : List ℕ) → read_field l ≡ ok n rest → FieldIs l n rest
unfolding read_field read_digits
field_is l n rest e =
    let s = leading is_space l in
    let m = drop s l in
    let d = leading is_digit m in
    let a = passed (eqb s 0) (read_digits m) n rest e in
    let b = passed (eqb d 0 || ltb 9 d) (ok (value_of 0 (take d m)) (drop d m)) n rest a.1 in
    let c = neither (eqb d 0) (ltb 9 d) b.0 in
    let f = b.1 in
    let v : value_of 0 (take d m) ≡ n = cc in
    let r : drop d m ≡ rest = cc in
    let ls = length-take-le s l (leading_within is_space l) in
    let ld = length-take-le d m (leading_within is_digit m) in
    let ps = above s a.0 in
    let pd = above d c.0 in
    let fd = ltb-false 9 d c.1 in
    record {
      space = take s l;
      digits = take d m;
      is = sym (ap (λ (x : List ℕ). take s l ++ (take d m ++ x)) (sym r) ∙ ap (λ (x : List ℕ). take s l ++ x) (take-append-drop d m) ∙ take-append-drop s l);
      is_space_law = record { all = leading_all is_space l; some = omega arith };
      is_digits = record { all = leading_all is_digit m; some = omega arith; few = omega arith };
      value = v;
    }

-- ---- what is taken

-- a run ends here
abbrev pub Stops : (ℕ → Bool) → List ℕ → Type 0
Stops is [] = Unit
Stops is (b ∷ bs) = is b ≡ false

leading_run : (is : ℕ → Bool) (a rest : List ℕ) → All is a → Stops is rest → leading is (a ++ rest) ≡ length a
unfolding leading All
leading_run is [] [] h s = refl
leading_run is [] (b ∷ bs) h s = rw s refl
leading_run is (b ∷ a) rest h s = rw h.0 (ap suc (leading_run is a rest h.1 s))

digit_no_space : (b : ℕ) → is_digit b ≡ true → is_space b ≡ false
unfolding is_space
digit_no_space b e =
    let r = digit_range b e in
    rw (ne_eqb b 32 (λ q. omega arith), ne_eqb b 9 (λ q. omega arith), ne_eqb b 13 (λ q. omega arith), ne_eqb b 10 (λ q. omega arith)) refl

space_no_digit : (b : ℕ) → is_space b ≡ true → is_digit b ≡ false
space_no_digit b e = other (is_digit b) refl
  where
    other : (t : Bool) → is_digit b ≡ t → t ≡ false
    other true q = absurd (mathlib.Core.Bool.true≢false (sym e ∙ digit_no_space b q))
    other false q = refl

-- where a number starts, and where whitespace starts
digits_stop : (d rest : List ℕ) → Digits d → Stops is_space (d ++ rest)
unfolding All
digits_stop [] rest h = let z = h.some in absurd (omega arith)
digits_stop (b ∷ d) rest h = digit_no_space b h.all.0

spaces_stop : (s rest : List ℕ) → Spaces s → Stops is_digit (s ++ rest)
unfolding All
spaces_stop [] rest h = let z = h.some in absurd (omega arith)
spaces_stop (b ∷ s) rest h = space_no_digit b h.all.0

-- a number ends where the next field starts, and at a whitespace byte
pub field_stops : {l rest : List ℕ} {n : ℕ} → FieldIs l n rest → Stops is_digit l
field_stops {l} {rest} f = rw f.is (spaces_stop f.space (f.digits ++ rest) f.is_space_law)

pub space_stops : (b : ℕ) (rest : List ℕ) → is_space b ≡ true → Stops is_digit (b ∷ rest)
space_stops b rest e = space_no_digit b e

digits_read : (d rest : List ℕ) → Digits d → Stops is_digit rest → read_digits (d ++ rest) ≡ ok (value_of 0 d) rest
unfolding read_digits
digits_read d rest hd stop =
    let l = leading_run is_digit d rest hd.all stop in
    let p = hd.some in
    rw (l, ne_eqb (length d) 0 (λ q. omega arith), le-ltb 9 (length d) hd.few, take-append_seam d rest, drop-append_seam d rest) refl

pub field_read : {l rest : List ℕ} {n : ℕ} → FieldIs l n rest → Stops is_digit rest → read_field l ≡ ok n rest
unfolding read_field
field_read {l} {rest} {n} f stop =
    let s = f.space in
    let m = f.digits ++ rest in
    let run = leading_run is_space s m f.is_space_law.all (digits_stop f.digits rest f.is_digits) in
    let p = f.is_space_law.some in
    let r : read_field (s ++ m) ≡ read_digits m = rw (run, ne_eqb (length s) 0 (λ q. omega arith), drop-append_seam s m) refl in
    ap read_field f.is ∙ r ∙ digits_read f.digits rest f.is_digits stop ∙ ap (λ (k : ℕ). ok k rest) f.value
