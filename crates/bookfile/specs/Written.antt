-- docs/API.md, 'The book file': a book's written form, and what the writer does.
use Rattle.std.specs.Prelude.{Bool, true, false, List, [], ◌∷◌, ◌++◌, ℕ, zero, suc, eqb, length, get_or}
use Rattle.sums.specs.Choice.{pick}
use Rattle.numbers.specs.Bytes.{bytes_of}
use Rattle.table.specs.declared.Table.{Table}
use Rattle.table.specs.Words.{word_at}
use Rattle.bookfile.specs.declared.Version.{Version}
use Rattle.bookfile.specs.declared.Version.TheVariants.{One, Two}
use Rattle.bookfile.specs.Versions.{size_of, mark_of}

-- "A book's written form has 24,332 bytes"
abbrev pub size : ℕ
size = size_of Two

-- "next number 4", which version 1 doesn't have
abbrev pub next_part : Version → ℕ → List ℕ
next_part One next = []
next_part Two next = bytes_of 4 next

-- "count 2, serial 2, next number 4", behind the mark
abbrev pub head_part : Version → ℕ → ℕ → ℕ → List ℕ
head_part v count serial next = mark_of v ++ (bytes_of 2 count ++ (bytes_of 2 serial ++ next_part v next))

-- "Live and mode are 0 or 1"
abbrev pub yes_no : Bool → ℕ
yes_no true = 1
yes_no false = 0

-- f 0, f 1, .., f (n - 1), one after another
unfoldable pub joined : (ℕ → List ℕ) → ℕ → List ℕ
joined f zero = []
joined f (suc n) = joined f n ++ f n

-- "number 2", which version 1 doesn't have
abbrev pub number_part : Version → ℕ → List ℕ
number_part One n = []
number_part Two n = bytes_of 2 n

-- "sort 1, live 1, TM 2"
abbrev pub marks_part : ℕ → Bool → ℕ → List ℕ
marks_part sort live tm = sort ∷ yes_no live ∷ bytes_of 2 tm

-- "received 4 times 8, allocated 4 times 8, pledged 8, margin 8": the table's amount k of place i, k from 0 to 9
abbrev pub amount_part : List ℕ → ℕ → ℕ → List ℕ
amount_part amounts i k = bytes_of 8 (word_at amounts k i)

abbrev pub amounts_part : List ℕ → ℕ → List ℕ
amounts_part amounts i = joined (amount_part amounts i) 10

-- "mode 1, kept need 8"
abbrev pub kept_part : Bool → ℕ → List ℕ
kept_part mode need = yes_no mode ∷ bytes_of 8 need

-- the 93 bytes of place i from its sort on
unfoldable pub row_part : Table → ℕ → List ℕ
row_part t i =
    marks_part (get_or t.marks.sort i 0) (get_or t.marks.live i false) (get_or t.marks.tm i 0)
    ++ (amounts_part t.amounts i ++ kept_part (get_or t.modes i false) (get_or t.needs i 0))

-- all of place i
unfoldable pub place_bytes : Version → Table → ℕ → List ℕ
place_bytes v t i = number_part v (get_or t.numbers i 0) ++ row_part t i

-- "then for each of the 256 places"
unfoldable pub written_by : Version → Table → List ℕ
written_by v t = head_part v t.count t.serial t.next ++ joined (place_bytes v t) 256

-- version 1 is "no longer written"
abbrev pub written_of : Table → List ℕ
written_of t = written_by Two t

-- the writer's answer: 15 unless the room is just as long as the written form
unfoldable pub wrote_of : List ℕ → ℕ
wrote_of room = pick (eqb (length room) size) 0 15

-- the room then: the written form, or with 15 what it was
unfoldable pub room_after : Table → List ℕ → List ℕ
room_after t room = pick (eqb (length room) size) (written_of t) room
