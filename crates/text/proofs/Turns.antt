-- The loop over lines of five numbers: each where the last one ended.
use mathlib.Core.List.{List}
use mathlib.Core.Path.{refl}
use Prim.Native.Nat.{ℕ, ◌+◌, ◌*◌, ◌≤◌, ◌<◌}
use native.Mathlib.Numerals.{add-one}
use native.Mathlib.Omega.{arith}
use lib.ListN.{get_or}
use Rattle.text.specs.Numbers.{line_at, lines_to}
use Rattle.text.specs.Inner.{Puts}
use Rattle.text.proofs.Puts.{and_then}
use Rattle.text.proofs.Widths.{line-most}

-- the lines of the first i records are put, at most 32 bytes each
pub record Lines (room₀ numbers room : List ℕ) (at i : ℕ) : Type 0 where
  pub puts : Puts room₀ 0 (lines_to numbers i) room at
  pub short : at ≤ 32 * i

pub lines_start : (room numbers : List ℕ) → Lines room numbers room 0 0
unfolding lines_to
lines_start room numbers = record { puts = record { holds = refl; next = refl; within = omega arith }; short = omega arith }

pub line-more : {room₀ numbers room room' : List ℕ} {at after i : ℕ} → ((k : ℕ) → get_or numbers k 0 < 65536) → Lines room₀ numbers room at i
    → Puts room at (line_at numbers i) room' after → Lines room₀ numbers room' after (i + 1)
unfolding lines_to
line-more {room₀} {numbers} {room' = room'} {at} {after} {i} small f g = record {
  puts = rw (add-one i) (and_then (lines_to numbers i) (line_at numbers i) f.puts g);
  short = omega (
    arith,
    f.short,
    g.next,
    line-most (get_or numbers (5 * i) 0) (get_or numbers (5 * i + 1) 0) (get_or numbers (5 * i + 2) 0) (get_or numbers (5 * i + 3) 0) (get_or numbers (5 * i + 4) 0)
        (small (5 * i)) (small (5 * i + 1)) (small (5 * i + 2)) (small (5 * i + 3)) (small (5 * i + 4)),
  );
}
