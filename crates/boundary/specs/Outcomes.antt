-- Ordinary outcomes of done calls, and their numbers at the C boundary. Document 01 gives numbers to its causes alone:
-- 1 to 31 are left to those. Definitions only.
use Rattle.std.specs.Prelude.{ℕ, ◌+◌}

-- done, with nothing more to say; none: "no box", no coverage, or no bounds; yes and no; "no frame"; `RectFill`'s two,
-- 'a shared box or a covered one'; cut: a box with 'the cut box where one side is square'; what is counted: a place in a
-- list, from 0, or the length of a file
pub data Ordinary : Type 0 where
  done none yes no no_frame shared covered cut : Ordinary
  counted : ℕ → Ordinary

abbrev pub ordinary_number : Ordinary → ℕ
ordinary_number done = 0
ordinary_number none = 32
ordinary_number yes = 33
ordinary_number no = 34
ordinary_number no_frame = 35
ordinary_number shared = 36
ordinary_number covered = 37
ordinary_number cut = 38
ordinary_number (counted k) = 256 + k
