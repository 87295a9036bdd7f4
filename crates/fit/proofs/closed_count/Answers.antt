-- `fit::closed_count` meets its contract. Assumes nothing.
use Rattle.fit.proofs.Closing.{count_back, count_on, room}
use native.Mathlib.Omega.{arith}
use Rattle.fit.proofs.closed_count.Goals as goal

pub returns-then-same_place : goal.returns-then-same_place
returns-then-same_place c =
    let w = c.args.walk in
    record {
      most = λ e. let l = room w.count w.started c.requires e in omega arith;
      counts = λ k e. count_back k e c.same_place.ensures c.if-same_place.true;
    }

pub returns : goal.returns
returns c =
    let w = c.args.walk in
    record {
      most = λ e. let l = room w.count w.started c.requires e in omega arith;
      counts = λ k e. count_on k e c.same_place.ensures c.if-same_place.false;
    }
