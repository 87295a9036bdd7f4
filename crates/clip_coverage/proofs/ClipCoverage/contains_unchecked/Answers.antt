-- `clip_coverage::ClipCoverage::contains_unchecked` meets its contract. Assumes nothing.
use Rattle.std.proofs.Common.{rules}
use Rattle.clip_coverage.specs.Distance.{holds_point_of}
use Rattle.clip_coverage.proofs.ClipCoverage.contains_unchecked.Goals as goal

pub returns : goal.returns
returns c = c.every_outline_point.ensures (λ p. holds_point_of c.args.self p) (λ p r h. search rules)
