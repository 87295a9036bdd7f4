-- What a word reader finds ahead: a word of the list, or its end; and what a word says by itself. Assumes nothing.
use mathlib.Core.Path.{◌≡◌, refl, sym, ap, ◌∙◌}
use mathlib.Core.Bool.{Bool, true, false}
use mathlib.Core.List.{List, [], ◌∷◌}
use Prim.Native.Nat.{ℕ, ◌+◌, ◌≤◌, ◌<◌}
use native.Mathlib.Numerals.{add-one}
use lib.IntN.{ℤ, pos, negsuc}
use lib.ListN.{length, get_or, drop, drop_of_length-le}
use lib.Seq.{drop-cons}
use Rattle.word_list.specs.Words.{beyond, read_count, read_coordinate}
use Rattle.word_reader.specs.Reader.{word_of, alone_of, counted_of, checked_of}
use Rattle.std.specs.Prelude.{Option, Some}
use Rattle.fault.specs.Check.{Check}

-- ---- the word at a place
pub at_end : (ws : List ℤ) (at : ℕ) → length ws ≤ at → drop at ws ≡ []
at_end ws at h = drop_of_length-le ws h

pub at_word : (ws : List ℤ) (at : ℕ) → at < length ws → drop at ws ≡ get_or ws at (pos 0) ∷ drop (at + 1) ws
at_word ws at h = drop-cons ws at (pos 0) h ∙ ap (λ (k : ℕ). get_or ws at (pos 0) ∷ drop k ws) (sym (add-one at))

-- what stands at a place
pub word_here : (ws : List ℤ) (at : ℕ) → at < length ws → Some (get_or ws at (pos 0)) ≡ word_of (drop at ws)
word_here ws at h = rw (at_word ws at h) refl

-- the first of some words says what is read of them
pub first_count : (l : List ℤ) → counted_of (read_count (alone_of (word_of l))) ≡ counted_of (read_count l)
unfolding read_count
first_count [] = refl
first_count (pos n ∷ l) = refl
first_count (negsuc n ∷ l) = refl

pub first_coordinate : (l : List ℤ) → checked_of (read_coordinate (alone_of (word_of l))) ≡ checked_of (read_coordinate l)
unfolding read_coordinate
first_coordinate [] = refl
first_coordinate (w ∷ l) = go (beyond w) refl
  where
    go : (b : Bool) → beyond w ≡ b → checked_of (read_coordinate (w ∷ [])) ≡ checked_of (read_coordinate (w ∷ l))
    go true e = rw e refl
    go false e = rw e refl

-- what a word says as a coordinate, of the list that it stands first in
pub coordinate_of : {r : Check} {t : Option ℤ} (l : List ℤ) → r ≡ checked_of (read_coordinate (alone_of t)) → t ≡ word_of l → r ≡ checked_of (read_coordinate l)
coordinate_of l e w = e ∙ ap (λ (t : Option ℤ). checked_of (read_coordinate (alone_of t))) w ∙ first_coordinate l
