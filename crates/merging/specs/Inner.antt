-- Only for internal functions: no promise of a public call cites it.
use Rattle.std.specs.Prelude.{ℕ, ◌+◌, Option, None, Some, List, ◌++◌, length, take, drop}
use Rattle.sums.specs.Choice.{unless_refused}
use Rattle.dayfile.specs.Files.{file_of}
use Rattle.merging.specs.declared.Fault.{Fault}
use Rattle.merging.specs.Merging.{Listed, listed_in, renumbered}

pub record Looked : Type 0 where
  pub records : ℕ
  pub refusal : ℕ

-- how many records are good behind k others, and what stops the reading
abbrev pub looked : ℕ → Listed → Looked
looked k l = record { records = k + length l.records; refusal = l.refusal }

-- the record at which it stops, where it does
abbrev pub stopped : Looked → Option Fault
stopped x = unless_refused x.refusal None (λ n. Some (record { index = x.records; refusal = n }))

-- a room whose first n bytes are a file, with the file's records renumbered
abbrev pub renumbered_in : List ℕ → ℕ → ℕ → List ℕ
renumbered_in room n serial = file_of (renumbered serial (listed_in (take n room)).records) ++ drop n room
