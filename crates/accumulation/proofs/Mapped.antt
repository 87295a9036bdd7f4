-- A list that is mapped from the front, one store a turn: what fills, raises and clears cells. Assumes nothing.
use mathlib.Core.Path.{◌≡◌, refl, ap, ◌∙◌}
use mathlib.Core.List.{List, [], ◌∷◌, ◌++◌, map}
use Prim.Native.Nat.{ℕ, zero, suc, ◌+◌, ◌<◌, ◌≤◌}
use native.Mathlib.Nat.{not-suc-le-zero, le_of_suc-le-suc}
use native.Mathlib.Numerals.{add-one}
use native.Mathlib.Omega.{arith}
use lib.ListN.{length, get_or, set, take, drop, replicate, length-set}

module _ {A : Type 0} (f : A → A) where
  -- the first i are mapped
  unfoldable pub mapped : ℕ → List A → List A
  mapped i l = map f (take i l) ++ drop i l

  step : (d : A) (i : ℕ) (l : List A) → i < length l → set (mapped i l) i (f (get_or l i d)) ≡ mapped (suc i) l
  unfolding mapped
  step d i [] h = absurd (not-suc-le-zero h)
  step d zero (x ∷ xs) h = refl
  step d (suc i) (x ∷ xs) h = ap (λ (r : List A). f x ∷ r) (step d i xs (le_of_suc-le-suc h))

  pub mapped_more : (d : A) (i : ℕ) (l : List A) → i < length l → set (mapped i l) i (f (get_or l i d)) ≡ mapped (i + 1) l
  mapped_more d i l h = rw add-one (step d i l h)

  pub mapped_at : (d : A) (i : ℕ) (l : List A) → i < length l → get_or (mapped i l) i d ≡ get_or l i d
  unfolding mapped
  mapped_at d i [] h = absurd (not-suc-le-zero h)
  mapped_at d zero (x ∷ xs) h = refl
  mapped_at d (suc i) (x ∷ xs) h = mapped_at d i xs (le_of_suc-le-suc h)

  pub mapped_none : (l : List A) → l ≡ mapped 0 l
  unfolding mapped
  mapped_none l = refl

  pub mapped_all : (i : ℕ) (l : List A) → length l ≤ i → mapped i l ≡ map f l
  unfolding mapped
  mapped_all zero [] h = refl
  mapped_all zero (x ∷ xs) h = absurd (not-suc-le-zero h)
  mapped_all (suc i) [] h = refl
  mapped_all (suc i) (x ∷ xs) h = ap (λ (r : List A). f x ∷ r) (mapped_all i xs (le_of_suc-le-suc h))

-- ---- the loop

-- the first i are mapped
pub record MappedTo {A : Type 0} (f : A → A) (before after : List A) (i : ℕ) : Type 0 where
  pub within : i ≤ length before
  pub long : length after ≡ length before
  pub is : after ≡ mapped f i before

module _ {A : Type 0} {f : A → A} {before : List A} where
  pub map_start : MappedTo f before before 0
  map_start = record { within = omega arith; long = refl; is = mapped_none f before }

  pub map_turn : {after : List A} {i : ℕ} → MappedTo f before after i → i < length before → (d : A) {v : A} → v ≡ f (get_or after i d)
      → MappedTo f before (set after i v) (i + 1)
  map_turn {after} {i} m h d {v} e =
      let here : get_or after i d ≡ get_or before i d = ap (λ (l : List A). get_or l i d) m.is ∙ mapped_at f d i before h in
      record { within = omega arith; long = length-set after i v ∙ m.long; is = rw (e, here, m.is) (mapped_more f d i before h) }

  pub map_done : {after : List A} {i : ℕ} → MappedTo f before after i → length before ≤ i → after ≡ map f before
  map_done {i = i} m h = m.is ∙ mapped_all f i before h

-- one value for all
pub map_same : {A : Type 0} (v : A) (l : List A) → map (λ (x : A). v) l ≡ replicate (length l) v
map_same v [] = refl
map_same {A} v (x ∷ l) = ap (λ (r : List A). v ∷ r) (map_same v l)
