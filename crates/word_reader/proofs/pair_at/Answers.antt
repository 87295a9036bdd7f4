-- `word_reader::pair_at` meets its contract. Assumes nothing.
use mathlib.Core.Path.{ap, ◌∙◌}
use lib.ListN.{drop}
use Rattle.std.proofs.lemmas.List.{drop-drop}
use Rattle.word_reader.specs.Reader.{word_of}
use Rattle.word_reader.proofs.pair_at.Goals as goal

pub returns : goal.returns
returns c =
    let e = c.moved.ensures ∙ ap (drop 1) c.new-reader.ensures ∙ drop-drop 1 c.args.at c.args.words.now in
    (c.peek.ensures ∙ ap word_of c.new-reader.ensures, c.peek-2.ensures ∙ ap word_of e)
