-- Bytes of a kind at the front of a file, and the number that digits spell. Assumes nothing.
use mathlib.Core.Path.{◌≡◌, refl, sym, ap, ◌∙◌}
use mathlib.Core.Bool.{Bool, true, false, cond, ◌&&◌}
use mathlib.Core.List.{List, [], ◌∷◌, ◌++◌}
use Prim.Native.Nat.{ℕ, zero, suc, ◌+◌, ◌-◌, ◌*◌, ◌≤◌, ◌<◌}
use native.Mathlib.Omega.{arith}
use native.Mathlib.Numerals.{add-one}
use lib.ListN.{length, get_or, take, drop, length-drop, drop_of_length-le}
use lib.Seq.{drop-cons, take-suc, get_or-drop}
use borrow.Author.Tests.{leb-true}
use Rattle.pgm_reader.specs.Reading.{is_digit, leading, value_of}

-- ---- a run

pub leading_on : (is : ℕ → Bool) (file : List ℕ) (at : ℕ) → at < length file → is (get_or file at 0) ≡ true → leading is (drop at file) ≡ suc (leading is (drop (at + 1) file))
unfolding leading
leading_on is file at h e = rw (drop-cons file at 0 h, e, add-one at) refl

pub leading_stop : (is : ℕ → Bool) (file : List ℕ) (at : ℕ) → at < length file → is (get_or file at 0) ≡ false → leading is (drop at file) ≡ 0
unfolding leading
leading_stop is file at h e = rw (drop-cons file at 0 h, e) refl

pub leading_end : (is : ℕ → Bool) (file : List ℕ) (at : ℕ) → length file ≤ at → leading is (drop at file) ≡ 0
unfolding leading
leading_end is file at h = rw (drop_of_length-le file h) refl

within : (t : Bool) (n m : ℕ) → n ≤ m → cond t (suc n) 0 ≤ suc m
within true n m h = omega arith
within false n m h = omega arith

pub leading_within : (is : ℕ → Bool) (l : List ℕ) → leading is l ≤ length l
unfolding leading
leading_within is [] = omega arith
leading_within is (b ∷ bs) = within (is b) (leading is bs) (length bs) (leading_within is bs)

pub leading_fits : (is : ℕ → Bool) (file : List ℕ) (at : ℕ) → at ≤ length file → at + leading is (drop at file) ≤ length file
leading_fits is file at h = omega (arith, leading_within is (drop at file), length-drop at file)

-- each byte of a run is of its kind
pub leading_at : (is : ℕ → Bool) (l : List ℕ) (k : ℕ) → k < leading is l → is (get_or l k 0) ≡ true
unfolding leading
leading_at is [] k h = absurd (omega arith)
leading_at is (b ∷ bs) k h = there (is b) refl k h (λ j. leading_at is bs j)
  where
    there : (t : Bool) → is b ≡ t → (k : ℕ) → k < cond t (suc (leading is bs)) 0 → ((j : ℕ) → j < leading is bs → is (get_or bs j 0) ≡ true) → is (get_or (b ∷ bs) k 0) ≡ true
    there true e zero h more = e
    there true e (suc k) h more = more k (omega arith)
    there false e k h more = absurd (omega arith)

pub both : (t u : Bool) → (t && u) ≡ true → (t ≡ true) × (u ≡ true)
both true u e = (refl, e)
both false u e = absurd (mathlib.Core.Bool.true≢false (sym e))

pub digit_range : (b : ℕ) → is_digit b ≡ true → (48 ≤ b) × (b ≤ 57)
unfolding is_digit
digit_range b e = let p = both _ _ e in (leb-true 48 b p.0, leb-true b 57 p.1)

pub digit_at : (file : List ℕ) (from n i : ℕ) → n ≤ leading is_digit (drop from file) → i < n → (48 ≤ get_or file (from + i) 0) × (get_or file (from + i) 0 ≤ 57)
digit_at file from n i h l =
    digit_range (get_or file (from + i) 0) (ap is_digit (sym (get_or-drop from file i 0)) ∙ leading_at is_digit (drop from file) i (omega arith))

-- ---- a number

pub value_more : (v : ℕ) (a : List ℕ) (b : ℕ) → value_of v (a ++ (b ∷ [])) ≡ value_of v a * 10 + (b - 48)
unfolding value_of
value_more v [] b = refl
value_more v (a ∷ more) b = value_more (v * 10 + (a - 48)) more b

pub value_step : (l : List ℕ) (i : ℕ) → i < length l → value_of 0 (take (i + 1) l) ≡ value_of 0 (take i l) * 10 + (get_or l i 0 - 48)
value_step l i h = rw (add-one i, take-suc l i 0 h) (value_more 0 (take i l) (get_or l i 0))

-- below which i digits spell a number
unfoldable pub ten : ℕ → ℕ
ten zero = 1
ten (suc i) = 10 * ten i

ten_mono : (k i : ℕ) → ten i ≤ ten (k + i)
unfolding ten
ten_mono zero i = rw (native.Mathlib.Nat.zero-add i) (omega arith)
ten_mono (suc k) i = rw (native.Mathlib.Nat.suc-add k i) (let h = ten_mono k i in omega arith)

pub ten_few : (i : ℕ) → i ≤ 8 → ten i ≤ 100000000
unfolding ten
ten_few i h =
    let e : (8 - i) + i ≡ 8 = omega arith in
    rw e at (ten_mono (8 - i) i)

pub ten_more : (i : ℕ) → ten (i + 1) ≡ 10 * ten i
unfolding ten
ten_more i = rw (add-one i) refl
