-- `bookfile::tested::is_of` meets its contract.
use mathlib.Core.Path.{sym}
use native.Mathlib.Omega.{arith}
use Rattle.bookfile.proofs.Measures.{head-within}
use Rattle.bookfile.proofs.Tests.{other_length, right-length}
use Rattle.bookfile.proofs.tested.is_of.Goals as goal

pub returns-then-piece-size_of : goal.returns-then-piece-size_of
returns-then-piece-size_of c =
    let a = c.args in
    sym (other_length a.v a.piece.now (λ e. omega arith))

pub is_marked-requires : goal.is_marked-requires
is_marked-requires c = omega (arith, head-within c.args.v)

pub returns : goal.returns
returns c =
    let a = c.args in
    right-length a.v a.piece.now (omega arith) c.is_marked.ensures c.all_yes_or_no.ensures
