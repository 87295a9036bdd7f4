-- The digits of a number spell it (specs/Laws.antt, Decimals). Assumes nothing.
use mathlib.Core.Path.{◌≡◌, refl, sym, ap, ◌∙◌}
use mathlib.Core.Bool.{Bool, true, false}
use mathlib.Core.List.{List, [], ◌∷◌, ◌++◌}
use Prim.Native.Nat.{ℕ, ◌+◌, ◌*◌, ◌/◌, ◌%◌, ◌≤◌, ◌<◌}
use native.Mathlib.Nat.{div-one, div-add-mod, div-div-eq-div-mul, mod-eq_of_lt, div-lt_iff_lt-mul}
use native.Mathlib.Omega.{arith}
use lib.Dec.{ltb}
use lib.ListN.{length, get_or}
use borrow.Author.Tests.{ltb-true, ltb-false, le-leb}
use Rattle.pgm_writer.specs.Text.{place, decimal}
use Rattle.pgm_reader.specs.Reading.{is_digit, value_of}
use Rattle.pgm_reader.specs.Laws.{All, Digits}
use Rattle.pgm.specs.Laws.{Decimals}
use Rattle.pgm_writer.proofs.Texts.{place_none, place_one, decimal_length, decimal_short}

all_both : (is : ℕ → Bool) (a b : List ℕ) → All is a → All is b → All is (a ++ b)
unfolding All
all_both is [] b x y = y
all_both is (c ∷ a) b x y = (x.0, all_both is a b x.1 y)

digit_is : (n : ℕ) → is_digit (48 + n % 10) ≡ true
unfolding is_digit
digit_is n = rw (le-leb 48 (48 + n % 10) (omega arith), le-leb (48 + n % 10) 57 (omega arith)) refl

place_digits : (unit n : ℕ) → All is_digit (place unit n)
unfolding All
place_digits unit n = go (ltb n unit) refl
  where
    go : (t : Bool) → ltb n unit ≡ t → All is_digit (place unit n)
    go true e = rw (place_none unit n (ltb-true n unit e)) tt
    go false e = rw (place_one unit n (ltb-false n unit e)) (digit_is (n / unit), tt)

pub decimal_digits : (n : ℕ) → 0 < n → Digits (decimal n)
unfolding decimal
decimal_digits n h =
    record {
      all = all_both is_digit (place 1000 n) (place 100 n ++ (place 10 n ++ place 1 n)) (place_digits 1000 n)
          (all_both is_digit (place 100 n) (place 10 n ++ place 1 n) (place_digits 100 n) (all_both is_digit (place 10 n) (place 1 n) (place_digits 10 n) (place_digits 1 n)));
      some = omega (arith, decimal_length n, ap length (place_one 1 n h));
      few = omega (arith, decimal_short n);
    }

-- ---- what the digits spell

-- a unit's digit and what stands above it
ones : (n : ℕ) → 10 * (n / 10) + n / 1 % 10 ≡ n
ones n = ap (λ (x : ℕ). 10 * (n / 10) + x % 10) (div-one n) ∙ div-add-mod n 10

tens : (n : ℕ) → 10 * (n / 100) + n / 10 % 10 ≡ n / 10
tens n = ap (λ (x : ℕ). 10 * x + n / 10 % 10) (sym (div-div-eq-div-mul n 10 10)) ∙ div-add-mod (n / 10) 10

hundreds : (n : ℕ) → 10 * (n / 1000) + n / 100 % 10 ≡ n / 100
hundreds n = ap (λ (x : ℕ). 10 * x + n / 100 % 10) (sym (div-div-eq-div-mul n 100 10)) ∙ div-add-mod (n / 100) 10

-- a digit with none above it
first : (n unit : ℕ) → 0 < unit → n < 10 * unit → n / unit % 10 ≡ n / unit
first n unit h k = mod-eq_of_lt ((div-lt_iff_lt-mul h).1 k)

sum₂ : (n a r s : ℕ) → 10 * a + s ≡ n → r ≡ a → value_of 0 ((48 + r) ∷ (48 + s) ∷ []) ≡ n
unfolding value_of
sum₂ n a r s e f = omega arith

sum₃ : (n a b q r s : ℕ) → 10 * a + s ≡ n → 10 * b + r ≡ a → q ≡ b → value_of 0 ((48 + q) ∷ (48 + r) ∷ (48 + s) ∷ []) ≡ n
unfolding value_of
sum₃ n a b q r s e f g = omega arith

sum₄ : (n a b c p q r s : ℕ) → 10 * a + s ≡ n → 10 * b + r ≡ a → 10 * c + q ≡ b → p ≡ c → value_of 0 ((48 + p) ∷ (48 + q) ∷ (48 + r) ∷ (48 + s) ∷ []) ≡ n
unfolding value_of
sum₄ n a b c p q r s e f g h = omega arith

-- a number's digits spell it, and the first is not 0
abbrev Spelled : ℕ → Type 0
Spelled n = (value_of 0 (decimal n) ≡ n) × (48 < get_or (decimal n) 0 0)

one : (n : ℕ) → 0 < n → n < 10 → Spelled n
unfolding decimal value_of
one n h k =
    rw (place_none 1000 n (omega arith), place_none 100 n (omega arith), place_none 10 n (omega arith), place_one 1 n (omega arith))
    (omega arith, omega (arith, div-one n, first n 1 (omega arith) (omega arith)))

two : (n : ℕ) → 10 ≤ n → n < 100 → Spelled n
unfolding decimal
two n h k =
    let f = first n 10 (omega arith) k in
    rw (place_none 1000 n (omega arith), place_none 100 n (omega arith), place_one 10 n (omega arith), place_one 1 n (omega arith))
    (sum₂ n (n / 10) (n / 10 % 10) (n / 1 % 10) (ones n) f, omega (arith, f))

three : (n : ℕ) → 100 ≤ n → n < 1000 → Spelled n
unfolding decimal
three n h k =
    let f = first n 100 (omega arith) k in
    rw (place_none 1000 n (omega arith), place_one 100 n (omega arith), place_one 10 n (omega arith), place_one 1 n (omega arith))
    (sum₃ n (n / 10) (n / 100) (n / 100 % 10) (n / 10 % 10) (n / 1 % 10) (ones n) (tens n) f, omega (arith, f))

four : (n : ℕ) → 1000 ≤ n → n < 10000 → Spelled n
unfolding decimal
four n h k =
    let f = first n 1000 (omega arith) k in
    rw (place_one 1000 n (omega arith), place_one 100 n (omega arith), place_one 10 n (omega arith), place_one 1 n (omega arith))
    (sum₄ n (n / 10) (n / 100) (n / 1000) (n / 1000 % 10) (n / 100 % 10) (n / 10 % 10) (n / 1 % 10) (ones n) (tens n) (hundreds n) f, omega (arith, f))

spelled : (n : ℕ) → 0 < n → n ≤ 4096 → Spelled n
spelled n h k = go (ltb n 10) (ltb n 100) (ltb n 1000) refl refl refl
  where
    go : (a b c : Bool) → ltb n 10 ≡ a → ltb n 100 ≡ b → ltb n 1000 ≡ c → Spelled n
    go true b c e f g = one n h (ltb-true n 10 e)
    go false true c e f g = two n (ltb-false n 10 e) (ltb-true n 100 f)
    go false false true e f g = three n (ltb-false n 100 f) (ltb-true n 1000 g)
    go false false false e f g = four n (ltb-false n 1000 g) (omega arith)

pub decimals : Decimals
decimals n h k = let s = spelled n h k in record { digits = decimal_digits n h; value = s.0; first = s.1 }
