-- "The promise of each public call says, for every input, what comes back and what every lent book, list and room then holds .. Show that it
-- admits one result only".
use Rattle.std.specs.Prelude.{◌≡◌}
use contract.Lifetimes.{Lfts}
use denote.Triple.Entry.{Args, Res}
use denote.Triple.Clauses.{Ended, Lasts, AtExit, at_exit}

-- a promise of a call, for the lifetimes κs of what is lent: says of the arguments, of what comes back, and of the arguments as they then are
abbrev pub Promise : Ended → Type 1
Promise call = (κs : Lfts call.signature.lifetimes) → Args call.signature κs → Res call.signature κs → AtExit call κs → Type 0

-- one result only: for all arguments a, let x come back and u be what every lent room then holds, or else y and v. If both meet the promise,
-- x is y and u is v.
abbrev pub OneResultOnly : (call : Ended) → Promise call → Type 0
OneResultOnly call promise =
    (κs : Lfts call.signature.lifetimes) (a : Args call.signature κs) (x y : Res call.signature κs) (u v : Lasts call κs a) →
    promise κs a x (at_exit call κs a u) →
    promise κs a y (at_exit call κs a v) →
    (x ≡ y) × (u ≡ v)
