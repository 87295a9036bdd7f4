-- Where reading ends: what was read is followed by the rest of the list, and it had so many words at least. Assumes
-- nothing.
use mathlib.Core.Path.{◌≡◌, refl, sym, ap, ◌∙◌}
use mathlib.Core.Bool.{Bool, true, false, cond}
use mathlib.Core.List.{List, [], ◌∷◌}
use Prim.Native.Nat.{ℕ, zero, suc, ◌+◌, ◌-◌, ◌*◌, ◌≤◌}
use native.Mathlib.Omega.{arith}
use lib.Dec.{ltb}
use lib.IntN.{ℤ, pos, negsuc}
use lib.ListN.{length, drop, length-drop}
use lib.Seq.{drop-drop}
use Rattle.fault.specs.declared.Fault.{Fault}
use Rattle.word_list.specs.Words.{Group, Read, ok, fault, and_then, read_count, beyond, read_coordinate, read_point, read_points, read_contour, read_contours, read_group}

-- what was read by two readings, one after the other
pub record Both {A B : Type 0} (r : Read A) (more : A → List ℤ → Read B) (b : B) (last : List ℤ) : Type 0 where
  pub value : A
  pub rest : List ℤ
  pub first : r ≡ ok value rest
  pub second : more value rest ≡ ok b last

pub then_ok : {A B : Type 0} (r : Read A) (more : A → List ℤ → Read B) (b : B) (last : List ℤ) → and_then r more ≡ ok b last → Both r more b last
unfolding and_then
then_ok (ok a rest) more b last e = record { value = a; rest = rest; first = refl; second = e }
then_ok (fault f) more b last e = let z : ◌≡◌ {A = ℕ} 0 1 = cc in absurd (omega arith)

-- a test that was passed
pub cond_ok : {A : Type 0} (t : Bool) (f : Fault) (r : Read A) (a : A) (rest : List ℤ) → cond t (fault f) r ≡ ok a rest → (t ≡ false) × (r ≡ ok a rest)
cond_ok true f r a rest e = let z : ◌≡◌ {A = ℕ} 0 1 = cc in absurd (omega arith)
cond_ok false f r a rest e = (refl, e)

-- m words or more of ws were read, and the others are the rest
abbrev pub Ended : {A : Type 0} → ℕ → List ℤ → Read A → Type 0
Ended m ws (ok a rest) = (k : ℕ) × (m ≤ k) × (k ≤ length ws) × (rest ≡ drop k ws)
Ended m ws (fault f) = Unit

pub ended_fewer : {A : Type 0} (m n : ℕ) (ws : List ℤ) (r : Read A) → m ≤ n → Ended n ws r → Ended m ws r
ended_fewer m n ws (ok a rest) l e = (e.0, omega (arith, e.1), e.2, e.3)
ended_fewer m n ws (fault f) l e = tt

-- one after the other
pub ended_then : {A B : Type 0} (m n : ℕ) (ws : List ℤ) (r : Read A) (more : A → List ℤ → Read B) → Ended m ws r → ((a : A) (rest : List ℤ) → Ended n rest (more a rest))
    → Ended (m + n) ws (and_then r more)
unfolding and_then
ended_then m n ws (fault f) more e g = tt
ended_then {B = B} m n ws (ok a rest) more e g = go (more a rest) (g a rest)
  where
    go : (s : Read B) → Ended n rest s → Ended (m + n) ws s
    go (fault f) h = tt
    go (ok b last) h =
        let l : length rest ≡ length ws - e.0 = ap length e.3 ∙ length-drop e.0 ws in
        (e.0 + h.0, omega (arith, e.1, h.1), omega (arith, l, e.2, h.2), h.3 ∙ ap (drop h.0) e.3 ∙ drop-drop h.0 e.0 ws)

-- nothing is read
ended_here : (ws : List ℤ) → (k : ℕ) × (0 ≤ k) × (k ≤ length ws) × (ws ≡ drop k ws)
ended_here ws = (0, omega arith, omega arith, refl)

pub ended_count : (ws : List ℤ) → Ended 1 ws (read_count ws)
unfolding read_count
ended_count [] = tt
ended_count (pos n ∷ ws) = (1, omega arith, omega arith, refl)
ended_count (negsuc n ∷ ws) = tt

pub ended_coordinate : (ws : List ℤ) → Ended 1 ws (read_coordinate ws)
unfolding read_coordinate
ended_coordinate [] = tt
ended_coordinate (w ∷ ws) = go (beyond w)
  where
    go : (b : Bool) → Ended 1 (w ∷ ws) (cond b (fault Rattle.fault.specs.declared.Fault.TheVariants.CoordinateOutOfRange) (ok w ws))
    go true = tt
    go false = (1, omega arith, omega arith, refl)

pub ended_point : (ws : List ℤ) → Ended 2 ws (read_point ws)
unfolding read_point
ended_point ws = ended_then 1 1 ws (read_coordinate ws) _ (ended_coordinate ws) (λ x rest. ended_then 1 0 rest (read_coordinate rest) _ (ended_coordinate rest) (λ y more. ended_here more))

pub ended_points : (n : ℕ) (ws : List ℤ) → Ended (n * 2) ws (read_points n ws)
unfolding read_points
ended_points zero ws = ended_here ws
ended_points (suc n) ws =
    ended_fewer (suc n * 2) (2 + (n * 2 + 0)) ws (read_points (suc n) ws) (omega arith)
    (ended_then 2 (n * 2 + 0) ws (read_point ws) _ (ended_point ws) (λ p rest. ended_then (n * 2) 0 rest (read_points n rest) _ (ended_points n rest) (λ ps more. ended_here more)))

pub ended_contour : (before : ℕ) (ws : List ℤ) → Ended 1 ws (read_contour before ws)
unfolding read_contour
ended_contour before ws = ended_then 1 0 ws (read_count ws) _ (ended_count ws) (λ n rest. go n rest (ltb 2048 (before + n)))
  where
    go : (n : ℕ) (rest : List ℤ) (b : Bool) → Ended 0 rest (cond b (fault Rattle.fault.specs.declared.Fault.TheVariants.CountOutOfRange) (read_points n rest))
    go n rest true = tt
    go n rest false = ended_fewer 0 (n * 2) rest (read_points n rest) (omega arith) (ended_points n rest)

pub ended_contours : (n before : ℕ) (ws : List ℤ) → Ended 0 ws (read_contours n before ws)
unfolding read_contours
ended_contours zero before ws = ended_here ws
ended_contours (suc n) before ws =
    ended_fewer 0 (1 + (0 + 0)) ws (read_contours (suc n) before ws) (omega arith)
    (ended_then 1 (0 + 0) ws (read_contour before ws) _ (ended_contour before ws)
    (λ c rest. ended_then 0 0 rest (read_contours n (before + length c) rest) _ (ended_contours n (before + length c) rest) (λ cs more. ended_here more)))

pub ended_group : (before : ℕ) (ws : List ℤ) → Ended 2 ws (read_group before ws)
unfolding read_group
ended_group before [] = tt
ended_group before (w ∷ ws) =
    later (read_group before (w ∷ ws))
    (ended_then 1 (0 + 0) ws (read_count ws) _ (ended_count ws) (λ n rest. ended_then 0 0 rest (read_contours n before rest) _ (ended_contours n before rest) (λ cs more. ended_here more)))
  where
    later : (r : Read Group) → Ended 1 ws r → Ended 2 (w ∷ ws) r
    later (ok a rest) e = (suc e.0, omega (arith, e.1), omega (arith, e.2), e.3)
    later (fault f) e = tt

-- ---- in a list, from a place on: the rest stands at the place that its length tells
pub placed : {A : Type 0} (m at : ℕ) (ws : List ℤ) (a : A) (rest : List ℤ) → at ≤ length ws → Ended m (drop at ws) (ok a rest)
    → (rest ≡ drop (length ws - length rest) ws) × (at + m ≤ length ws - length rest)
placed m at ws a rest l e =
    let d : length (drop at ws) ≡ length ws - at = length-drop at ws in
    let s : rest ≡ drop (at + e.0) ws = e.3 ∙ drop-drop e.0 at ws in
    let n : length rest ≡ length ws - (at + e.0) = ap length s ∙ length-drop (at + e.0) ws in
    let q : length ws - length rest ≡ at + e.0 = omega (arith, n, d, e.2) in
    (s ∙ ap (λ (k : ℕ). drop k ws) (sym q), omega (arith, q, e.1))
