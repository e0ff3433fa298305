use Rattle.std.proofs.Common.{ℕ, ◌≡◌, length}
use Rattle.streams.specs.Names.{name_of}
use Rattle.streams.proofs.beside.create_beside.Given as goal

abbrev pub invariant-loop-tries : goal.invariant-loop-tries
invariant-loop-tries l = ((k : ℕ) → name_of k l.name ≡ name_of k l.fn.name) × (length l.name ≡ length l.fn.name)
