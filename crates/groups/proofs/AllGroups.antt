-- The groups of a list, one after another. Assumes nothing.
use mathlib.Core.Path.{◌≡◌, refl, sym, ap, ◌∙◌, subst}
use mathlib.Core.List.{List, [], ◌∷◌}
use Prim.Native.Nat.{ℕ, ◌+◌, ◌≤◌, ◌<◌}
use native.Mathlib.Omega.{arith}
use lib.IntN.{ℤ}
use lib.ListN.{length, drop, replicate}
use lib.Ieee.{Float}
use Rattle.word_list.specs.Words.{Group, points_in, read_group, read_words, groups_of}
use Rattle.words.specs.Scan.{end_of}
use Rattle.word_list.specs.Words.{group_points}
use Rattle.words.proofs.Places.{fine_read, Remaining, remaining_start, remaining_end, NextGroup, next_group}
use Rattle.cells.specs.declared.Size.{Size}
use Rattle.coverage.specs.Drawing.{group_row, drawing_of}
use Rattle.coverage.specs.Scratch.{Room, Clean}
use Rattle.coverage.specs.Resolving.{rows_added}
use Rattle.coverage.proofs.Groups.{Undrawn, none_drawn, group_drawn, all_drawn, room_same}
use Rattle.groups.specs.Steps.{ListCounted, group_at, GroupFine}

points_in_lem : (g : Group) (gs : List Group) → points_in (g ∷ gs) ≡ group_points g + points_in gs
unfolding points_in
points_in_lem g gs = refl

-- where a drawing stands: before the word at a place, with the groups from there on to come
pub record Standing (size : Size) (points : ℕ) (ws : List ℤ) (mask₀ : List ℕ) (fs₀ : List Float) (cs₀ mask : List ℕ) (fs : List Float) (cs : List ℕ) (at : ℕ) : Type 0 where
  pub groups : List Group
  pub remaining : Remaining ws at groups
  pub within : at ≤ length ws
  pub undrawn : Undrawn size (groups_of ws) mask groups
  pub few : points_in groups ≤ points
  pub clean : Clean fs cs size
  pub mask_long : length mask ≡ length mask₀
  pub floats_long : length fs ≡ length fs₀
  pub counters_long : length cs ≡ length cs₀

module _ {size : Size} {points : ℕ} {ws : List ℤ} {mask₀ : List ℕ} {fs₀ : List Float} {cs₀ : List ℕ} (room : Room mask₀ fs₀ cs₀ size points) where
  pub standing_start : Clean fs₀ cs₀ size → mask₀ ≡ replicate (length mask₀) 0 → ListCounted ws points → Standing size points ws mask₀ fs₀ cs₀ mask₀ fs₀ cs₀ 0
  standing_start c z l =
      let r = fine_read [] (read_words ws) l.fine in
      record {
        groups = groups_of ws;
        remaining = remaining_start ws (groups_of ws) r.0 r.1;
        within = omega arith;
        undrawn = none_drawn z room.cells;
        few = let n = l.count in omega arith;
        clean = c;
        mask_long = refl;
        floats_long = refl;
        counters_long = refl;
      }

  module _ {mask : List ℕ} {fs : List Float} {cs : List ℕ} {at : ℕ} (s : Standing size points ws mask₀ fs₀ cs₀ mask fs cs at) where
    pub standing_room : Room mask fs cs size points
    standing_room = room_same s.mask_long s.floats_long s.counters_long room

    pub standing_end : length ws ≤ at → mask ≡ drawing_of size (groups_of ws)
    standing_end h = all_drawn (subst (Undrawn size (groups_of ws) mask) (remaining_end ws at s.groups h s.remaining) s.undrawn)

    module _ (more : at < length ws) where
      pub the_next : NextGroup ws at s.groups
      the_next = next_group ws at s.groups more s.remaining

      next_points : group_points (group_at ws at) + points_in the_next.others ≤ points
      next_points = let a = ap points_in the_next.whole ∙ points_in_lem (group_at ws at) the_next.others in let b = s.few in omega arith

      pub next_fine : GroupFine ws at points
      next_fine = let p = next_points in record { inside = more; fine = the_next.fine; few = omega arith }

      pub standing_more : {mask₂ : List ℕ} {gs : List Float} {ds : List ℕ} {r : ℕ} → length mask₂ ≡ length mask → length gs ≡ length fs → length ds ≡ length cs
          → mask₂ ≡ rows_added (group_row size (group_at ws at)) size mask → r ≡ end_of (length ws) (read_group 0 (drop at ws)) → Clean gs ds size
          → Standing size points ws mask₀ fs₀ cs₀ mask₂ gs ds r
      standing_more i j k e q c =
          let n = the_next in
          let p = next_points in
          record {
            groups = n.others;
            remaining = subst (λ (k : ℕ). Remaining ws k n.others) (sym q) n.remaining;
            within = let w = n.within in omega arith;
            undrawn = group_drawn (subst (Undrawn size (groups_of ws) mask) n.whole s.undrawn) e;
            few = omega arith;
            clean = c;
            mask_long = i ∙ s.mask_long;
            floats_long = j ∙ s.floats_long;
            counters_long = k ∙ s.counters_long;
          }
