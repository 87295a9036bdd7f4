-- Lent buffers, cleared for a drawing. Assumes nothing.
use mathlib.Core.Path.{◌≡◌, sym, ap, ◌∙◌}
use mathlib.Core.List.{List, ◌++◌}
use Prim.Native.Nat.{ℕ}
use native.Mathlib.Omega.{arith}
use lib.ListN.{length, take, drop, replicate, length-replicate}
use lib.Seq.{take_at, length-take-le, length_front}
use lib.Ieee.{Float}
use Rattle.float.specs.Ops.{f0}
use Rattle.cells.specs.declared.Size.{Size}
use Rattle.std.proofs.lemmas.List.{take-replicate}
use Rattle.coverage.specs.Scratch.{counters_needed, Room, Clean}
use Rattle.coverage.proofs.Groups.{room_same}

module _ {mask : List ℕ} {fs : List Float} {cs : List ℕ} {size : Size} {points : ℕ} (room : Room mask fs cs size points) where
  pub prefix : size.width ≡ length (take size.width fs)
  prefix = let a = room.floats_enough in sym (length-take-le size.width fs (omega arith))

  -- the mask, the row's cells and the counters are cleared
  module _ {mask₂ : List ℕ} {zs : List Float} {ds : List ℕ} (m : mask₂ ≡ replicate (length mask) 0) (z : zs ≡ replicate (length (take size.width fs)) f0)
      (d : ds ≡ replicate (length cs) 0) where
    zs_long : length zs ≡ size.width
    zs_long = ap length z ∙ length-replicate (length (take size.width fs)) f0 ∙ sym prefix

    pub floats_long : length (zs ++ drop size.width fs) ≡ length fs
    floats_long = length_front fs zs size.width (zs_long ∙ prefix)

    pub counters_long : length ds ≡ length cs
    counters_long = ap length d ∙ length-replicate (length cs) 0

    mask_long : length mask₂ ≡ length mask
    mask_long = ap length m ∙ length-replicate (length mask) 0

    pub cleared_room : Room mask₂ (zs ++ drop size.width fs) ds size points
    cleared_room = room_same mask_long floats_long counters_long room

    pub cleared_clean : Clean (zs ++ drop size.width fs) ds size
    cleared_clean = record {
      cells = take_at zs (drop size.width fs) size.width zs_long ∙ z ∙ ap (λ (n : ℕ). replicate n f0) (sym prefix);
      counts = ap (take (counters_needed size)) d ∙ take-replicate (counters_needed size) (length cs) 0 room.counters_enough;
    }

    pub cleared_zeros : mask₂ ≡ replicate (length mask₂) 0
    cleared_zeros = m ∙ ap (λ (n : ℕ). replicate n 0) (sym mask_long)
