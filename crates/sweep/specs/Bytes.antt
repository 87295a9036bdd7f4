-- A row's cells summed to windings, and folded to bytes: `covered` and the second half of `Coverage::resolve`.
-- Definitions only.
use Rattle.std.specs.Prelude.{ℕ, ◌+◌, min, Bool, cond, List, [], ◌∷◌, Float}
use Rattle.std.specs.Float.{binary32}
use Rattle.std.specs.Float.Ieee.{of_bits, lt, rem}
use Rattle.float.specs.Ops.{◌⊕◌, ◌⊖◌, ◌⊗◌, f½, f1, f2}
use Rattle.float.specs.Simple.{abs_of, min_of}
use Rattle.whole.specs.Whole.{byte_of}
use Rattle.accumulation.specs.Area.{Cells}

-- 255.0
abbrev pub f255 : Float
f255 = of_bits binary32 0x437f_0000

-- the share of a cell at a winding, by the rule: document 01's 'Non-zero share' and 'Even-odd share', in floats
unfoldable pub share_of : Bool → Float → Float
unfolding abs_of min_of
share_of even_odd winding =
    let folded = rem binary32 (abs_of winding) f2 in
    cond even_odd (cond (lt f1 folded) (f2 ⊖ folded) folded) (min_of (abs_of winding) f1)

-- and its byte
unfoldable pub covered_of : Bool → Float → ℕ
unfolding share_of
covered_of even_odd winding = byte_of (share_of even_odd winding ⊗ f255 ⊕ f½)

-- The bytes of cells, from the winding left of them on. 'a cell's winding is the sum of what the cells up to it in
-- its row hold', a running sum
unfoldable pub bytes_of : Bool → Float → Cells → List ℕ
unfolding covered_of
bytes_of even_odd winding [] = []
bytes_of even_odd winding (area ∷ more) = covered_of even_odd (winding ⊕ area) ∷ bytes_of even_odd (winding ⊕ area) more

-- document 01: 'each group's bytes are added, stopping at 255'
unfoldable pub add_bytes : List ℕ → List ℕ → List ℕ
add_bytes [] bs = []
add_bytes (a ∷ l) [] = a ∷ l
add_bytes (a ∷ l) (b ∷ bs) = min (a + b) 255 ∷ add_bytes l bs
