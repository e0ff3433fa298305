-- What is made of a system call's answer, and of the system's number of the error that it may be. The answer itself no contract can say.
use Rattle.std.specs.Prelude.{Bool, true, false, ℕ, min, ltb, ℤ, pos, Result, Ok, Err, Option, Some, None}
use Rattle.std.specs.Ordering.{int_eq}
use Rattle.sums.specs.Choice.{pick}
use Rattle.streams.specs.declared.Moved.{Moved}

-- the call failed
abbrev pub failed_by : {T E : Type 0} → Result T E → Bool
failed_by (Ok answer) = false
failed_by (Err error) = true

-- the system's number is this one
abbrev pub error_is : ℤ → Option ℤ → Bool
error_is n None = false
error_is n (Some k) = int_eq k n

-- the call failed with this number
abbrev pub failed_with : {T E : Type 0} → ℤ → (E → Option ℤ) → Result T E → Bool
failed_with n number (Ok answer) = false
failed_with n number (Err error) = error_is n (number error)

-- EINTR, which is 4: a signal interrupted the call before a byte was moved
abbrev pub interrupted_by : {T E : Type 0} → (E → Option ℤ) → Result T E → Bool
interrupted_by number answer = failed_with (pos 4) number answer

-- ENOENT, which is 2: there is no file of that name
abbrev pub missing_by : {T E : Type 0} → (E → Option ℤ) → Result T E → Bool
missing_by number answer = failed_with (pos 2) number answer

-- how many of n bytes a call moved
abbrev pub count_by : {E : Type 0} → Result ℕ E → ℕ → ℕ
count_by (Ok k) n = min k n
count_by (Err error) n = 0

-- what a call came to that was to move n bytes
unfoldable pub moved_by : {E : Type 0} → Result ℕ E → ℕ → Moved
moved_by answer n = record { failed = failed_by answer; count = count_by answer n }

-- n bytes came, and then no more: the input's end, or a call that failed
abbrev pub stopped_at : ℕ → Moved → Moved
stopped_at n more = record { failed = more.failed; count = n }

-- a call failed, and nothing counts as moved
abbrev pub nothing_moved : Moved
nothing_moved = record { failed = true; count = 0 }

-- a file that has no byte, or that isn't there
abbrev pub no_bytes : Moved
no_bytes = record { failed = false; count = 0 }

-- what was read of a file that may have so many bytes: one that has more counts as not read
abbrev pub within_of : Moved → ℕ → Moved
within_of m longest = pick (ltb longest m.count) nothing_moved m

-- a move and the answer of a call behind it: where that one fails, nothing counts as moved
unfoldable pub and_then : {T E : Type 0} → Moved → Result T E → Moved
and_then m answer = pick (failed_by answer) nothing_moved m
